-- Worked examples: the meaning of some command lines, computed. It has both texts, the names that are opened, and
-- whether all is good.
use Rattle.std.proofs.Common.{arith, ◌≡◌, ◌∙◌, ap, ℕ, ◌++◌, Bool, List, [], ◌∷◌, refl, codes, true, false}
use Rattle.std.proofs.Common.{if◌then◌else◌, bytes_eq, Result, Ok, Err, IfOk, None, Some, sym, inl, inr}
use Rattle.std.specs.{Fmt.digits, Path.rsplit_once, Prelude.⊤, Prelude.◌⊎◌}
use Prim.Native.String.{String}
use Rattle.blake2b_core.specs.Compression.{mix, round, work_vector, compress}
use Rattle.sum_engine.{proofs.BehaviorLemmas.events_extend, specs.Behavior.World, specs.Behavior.single_step}
use Rattle.sum_engine.{specs.Behavior.answer_to, specs.Behavior.digest_or_fault, specs.Behavior.out_text}
use Rattle.sum_engine.{specs.Behavior.err_text}
use Rattle.sum_engine.specs.{Behavior.names_in, Execution.Agrees, Execution.Performs, Execution.PerformsSteps}
use Rattle.sum_engine.specs.{Streams.StreamsState, ToolLines.name_fault_line, check.Report.out_by}
use Rattle.sum_engine.specs.{check.Report.bad_line, check.Rules.rules_of, check.Rules.labels_of, check.Summary.end_text}
use Rattle.sum_engine.specs.declared.check.judge.Verdict.{Verdict, TheVariants.Right, TheVariants.Wrong}
use Rattle.sum_engine.specs.declared.check.judge.Verdict.{TheVariants.Unread}
use Rattle.sum_sources.specs.{sources.Source.AnswerValue, inputs.Input.Content, Content.limit}
use Rattle.sum_sources.specs.{sources.WithStdin.answers_with}
use Rattle.sum_sources.specs.inputs.InputLog.{empty_content}
use Rattle.sum_sources.specs.LineReader.{raw_lines}
use Rattle.sum_sources.specs.declared.fault.{Fault.Fault, Ending.TheVariants.Whole, Ending.TheVariants.Broken}
use Rattle.sum_sources.specs.declared.fault.{Fault.TheVariants.NotFound, Fault.TheVariants.Other}
use Rattle.digest_kinds.specs.{Bytes.ByteString, Kind.full_kind, declared.algo.Algo.Algo}
use Rattle.digest_kinds.specs.{declared.algo.Algo.TheVariants.Md5, declared.algo.Algos.Algos}
use Rattle.digest_kinds.specs.{declared.algo.Algos.TheVariants.One}
use Rattle.hex.specs.Hex.{encode_with, decode_pairs}
use Rattle.sum_lines.specs.{grammar.LineParts.plain_parts, grammar.LineParts.tagged_parts, grammar.ParsedLines.entry_of}
use Rattle.sum_lines.specs.writing.PutLine.{digest_line}
use Rattle.sum_words.specs.{declared.tool.Tool.Tool, declared.tool.Tool.TheVariants.Md5sum}
use Rattle.sum_words.specs.{declared.tool.Tool.TheVariants.B2sum, declared.tool.Tool.TheVariants.Anysum}
use Rattle.sum_words.specs.{messages.FaultLines.fault_lines, parsing.WordFault.unknown_long}
use Rattle.digests.specs.{Program.not_read_line, Program.CallPerforms, Program.CallRefuses, Program.ReportsStop}
use Rattle.digests.specs.Laws.{GenerationRun}
use Rattle.digests.specs.ToolRun.{meaning, status_of}
use Rattle.sum_words_tests.proofs.WorkedExamples.{words, words_on_literals}
use Rattle.sum_settings.specs.declared.{settings.CheckSettings.CheckSettings, settings.Report.TheVariants.All}
use Rattle.sum_settings.specs.declared.{stop.Stop.Stop, style.Mode.Mode, style.Mode.TheVariants.Text}
use Rattle.md5.specs.Md5.{block_words as md5_words, rounds as md5_rounds, compress as md5_compress}
use Rattle.md5.specs.Md5.{hash_after as md5_after, digest_bytes as md5_bytes, md5}
use Rattle.blake2b_core.specs.Digest.{hash_after as blake2b_after, blake2b}

-- what a worked example unfolds, so that its texts are computed
unfoldable meaning_on_literals : ⊤
unfolding words_on_literals limit raw_lines entry_of plain_parts tagged_parts rsplit_once encode_with decode_pairs
    digits md5_words md5_rounds md5_compress md5_after md5_bytes md5 mix round work_vector compress blake2b_after
    blake2b
meaning_on_literals = tt

-- bytes that end whole
abbrev whole : ByteString → Content
whole bytes = record { bytes = bytes; ending = Whole }

-- bytes, and then a fault
abbrev broken : ByteString → Content
broken bytes = record { bytes = bytes; ending = Broken Other }

-- the file `a` holds abc, `e` is empty, and `l` has this content; no other file is there
abbrev answer_with : Content → ByteString → AnswerValue
answer_with l name =
    if bytes_eq name (codes "a") then Ok (whole (codes "abc"))
    else if bytes_eq name (codes "e") then Ok empty_content
    else if bytes_eq name (codes "l") then Ok l
    else Err NotFound

-- what a tool's words write on standard output and on standard error, the names that they ask, and whether all is good,
-- if the file `l` has the first content and standard input the second
abbrev outcome : Tool → List ByteString → Content → Content → ByteString × ByteString × List ByteString × Bool
outcome tool words l input =
    let run = meaning tool words (record { answer = answers_with input (λ name k. answer_with l name); opened = [] }) in
    (out_text run, err_text run, names_in run, run.good)

-- the line of `a`
abbrev a_line : ByteString
a_line = codes "900150983cd24fb0d6963f7d28e17f72  a\n"

-- the line of `e`
abbrev e_line : ByteString
e_line = codes "d41d8cd98f00b204e9800998ecf8427e  e\n"

-- the tagged line of `e`
abbrev e_tagged : ByteString
e_tagged = codes "BLAKE2b-256 (e) = 0e5751c026e543b2e8ab2eb06099daa1d1e5df47778f7787faab45cdf12fe3a8\n"

-- the line of md5sum for a name that can't be opened or read
abbrev fault_line : String → Fault → ByteString
fault_line name = name_fault_line (codes "md5sum") (codes name)

-- runs of generation
generation :
    -- each of two files has a line
    (outcome Md5sum (words "a e") empty_content empty_content ≡ (a_line ++ e_line, [], words "a e", true))
    -- a missing file is reported, and the others have a line each
    × (outcome Md5sum (words "a x e") empty_content empty_content
    ≡ (a_line ++ e_line, fault_line "x" NotFound, words "a x e", false))
    -- standard input, with `abc` on it, is empty the second time
    × (outcome Md5sum (words "- -") empty_content (whole (codes "abc"))
    ≡ (codes "900150983cd24fb0d6963f7d28e17f72  -\nd41d8cd98f00b204e9800998ecf8427e  -\n", [], words "- -", true))
    -- without words standard input is read: it gives three bytes, and then a fault
    × (outcome Md5sum [] empty_content (broken (codes "abc"))
    ≡ ([], fault_line "-" Other, words "-", false))
    -- a tagged line has the length
    × (outcome B2sum (words "-l 256 --tag e") empty_content empty_content ≡ (e_tagged, [], words "e", true))
    -- a fault before --help is reported in place of the help
    × (outcome Md5sum (words "--foo --help") empty_content empty_content
    ≡ ([], fault_lines Md5sum (unknown_long (codes "foo")), [], false))
unfolding meaning_on_literals
generation = (refl, refl, refl, refl, refl, refl)

-- a manifest with a line of each kind
abbrev mixed_manifest : Content
mixed_manifest = whole (a_line ++ codes "#c\njunk\n" ++ codes "900150983cd24fb0d6963f7d28e17f72 *x\n"
    ++ codes "900150983cd24fb0d6963f7d28e17f72  e\n")

-- a manifest that lists `-`
abbrev dash_manifest : Content
dash_manifest = whole (codes "900150983cd24fb0d6963f7d28e17f72  -\n")

-- a check without other options
abbrev pub plain_check : Algos → CheckSettings
plain_check algos = record { algo = algos; report = All; strict = false; ignore_missing = false }

-- the report of a verdict on a name
abbrev report : Verdict → String → ByteString
report verdict name = out_by All verdict (codes name)

-- what md5sum's check of `l` says of this bad line, if asked for that
abbrev named_line : ℕ → ByteString
named_line = let check = plain_check (One Md5) in
    bad_line (rules_of check false) (labels_of check (codes "md5sum") (codes "l"))

-- what a plain check by a tool writes at the end of this manifest, which has this many lines that are right, wrong,
-- unread and bad
abbrev summary : String → String → ℕ → ℕ → ℕ → ℕ → ByteString
summary tool manifest right wrong unread bad = let check = plain_check (One Md5) in
    end_text (rules_of check false) (labels_of check (codes tool) (codes manifest)) Whole
    (record { right = right; wrong = wrong; missing = 0; unread = unread; bad = bad })

-- runs of a check
checks :
    -- the check of the mixed manifest reports each kind
    (outcome Md5sum (words "-c l") mixed_manifest empty_content ≡ (
      report Right "a" ++ report (Unread NotFound) "x" ++ report Wrong "e",
      fault_line "x" NotFound ++ summary "md5sum" "l" 1 1 1 1,
      words "l a x e",
      false,
    ))
    -- it passes over the missing file and names the bad line, if asked for that
    × (outcome Md5sum (words "-c --ignore-missing -w --strict l") mixed_manifest empty_content ≡ (
      report Right "a" ++ report Wrong "e",
      named_line 3 ++ summary "md5sum" "l" 1 1 0 1,
      words "l a x e",
      false,
    ))
    -- if a manifest that lists `-` is standard input, none of its lines counts
    × (outcome Md5sum (words "-c") empty_content dash_manifest
    ≡ ([], summary "md5sum" "-" 0 0 0 1, words "-", false))
    -- if it is a file, given twice, standard input is empty the second time
    × (outcome Md5sum (words "-c l l") dash_manifest (whole (codes "abc")) ≡ (
      report Right "-" ++ report Wrong "-",
      summary "md5sum" "l" 0 1 0 0,
      words "l - l -",
      false,
    ))
    -- a manifest breaks off in its second line
    × (outcome Md5sum (words "-c l") (broken (a_line ++ codes "900150983cd24fb0d6963f7d28e17f72  a")) empty_content
    ≡ (report Right "a", fault_line "l" Other, words "l a", false))
    -- the first line has one blank, so a second blank belongs to the name
    × (outcome Md5sum (words "-c l") (whole (codes "900150983cd24fb0d6963f7d28e17f72 a\n" ++ a_line)) empty_content ≡ (
      report Right "a" ++ report (Unread NotFound) " a",
      fault_line " a" NotFound ++ summary "md5sum" "l" 1 0 1 0,
      codes "l" ∷ codes "a" ∷ codes " a" ∷ [],
      false,
    ))
    -- anysum checks tagged lines of two algorithms, and a line without a tag is bad
    × (outcome Anysum (words "-c l")
    (whole (codes "MD5 (a) = 900150983cd24fb0d6963f7d28e17f72\n" ++ e_tagged ++ a_line)) empty_content
    ≡ (report Right "a" ++ report Right "e", summary "anysum" "l" 2 0 0 1, words "l a e", true))
unfolding meaning_on_literals
checks = (refl, refl, refl, refl, refl, refl, refl)

-- ---- what the laws say of some command lines

-- what `md5sum` on some words does in a world
abbrev pub does : List ByteString → World → StreamsState → StreamsState → Result ℕ Stop → Type 0
does words w = let run = meaning Md5sum words w in PerformsSteps run.steps (status_of run.good)

-- a run that performed a good behavior and didn't stop: the status is 0, and standard output got the text
pub good_run : (words : List ByteString) (w : World) (a b : StreamsState) (r : Result ℕ Stop) (text : ByteString)
    → let run = meaning Md5sum words w in (run.good ≡ true) × (out_text run ≡ text) → does words w a b r
    → IfOk r (λ status. (status ≡ 0) × (b.outputs.out.written ≡ a.outputs.out.written ++ text))
good_run ws w a b (Ok status) text is did =
    (did.0 ∙ ap status_of is.0, rw is.1 at (events_extend (meaning Md5sum ws w) a b did.1).2)
good_run ws w a b (Err stop) text is did = tt

-- `md5sum e`, if `e` is empty
pub empty_file : (w : World) → answer_to w (codes "e") ≡ Ok empty_content
    → let run = meaning Md5sum (codes "e" ∷ []) w in (run.good ≡ true) × (out_text run ≡ e_line)
unfolding meaning_on_literals
empty_file w is = rw is (refl, refl)

-- `md5sum`, if standard input is empty
pub empty_stdin : (w : World) → answer_to w (codes "-") ≡ Ok empty_content → let run = meaning Md5sum [] w in
    (run.good ≡ true) × (out_text run ≡ codes "d41d8cd98f00b204e9800998ecf8427e  -\n")
unfolding meaning_on_literals
empty_stdin w is = rw is (refl, refl)

-- a call that returned 0 ran to its end, and its words were read
pub ran_to_end : {Needs : Type 0} {b : StreamsState} {status : ℕ} (a : StreamsState)
    (Did : StreamsState → StreamsState → Result ℕ Stop → Type 0) → (Needs → (w : World) × Agrees w b.inputs)
    → CallPerforms (Some Md5sum) Did a b status ⊎ (Needs × CallRefuses not_read_line a b status) → status ≡ 0
    → (c : StreamsState) × Did a c (Ok 0) × (b.inputs ≡ c.inputs) × (b.outputs ≡ c.outputs)
ran_to_end {b = b} {status = status} a Did known (inl did) zero =
    by did.result did.between did.runs did.inputs did.end
  where
    by : (result : Result ℕ Stop) (c : StreamsState) → Did a c result → b.inputs ≡ c.inputs
        → ReportsStop (Some Md5sum) result c.outputs b.outputs status
        → (c : StreamsState) × Did a c (Ok 0) × (b.inputs ≡ c.inputs) × (b.outputs ≡ c.outputs)
    by (Ok x) c did same reports = (c, rw (sym reports.0 ∙ zero) at did, same, reports.1)
    by (Err stop) c did same reports = let one = reports.0 in cc
ran_to_end {b = b} {status = status} a Did known (inr (needs, did)) zero =
    by did.result did.between did.runs did.inputs did.end
  where
    by : (result : Result ℕ Stop) (c : StreamsState)
        → Performs (λ world. single_step [] not_read_line [] false) status_of a c result → b.inputs ≡ c.inputs
        → ReportsStop None result c.outputs b.outputs status
        → (c : StreamsState) × Did a c (Ok 0) × (b.inputs ≡ c.inputs) × (b.outputs ≡ c.outputs)
    by (Ok x) c did same reports = let (w, agrees) = known needs in
        let one = (did w (rw same at agrees)).0 in absurd (omega (arith, one, reports.0))
    by (Err stop) c did same reports = let one = reports.0 in cc

-- `md5sum - -`, if the second `-` is empty: whatever the first is, the last line is that of an empty file
pub dash_twice : (w : World) → w.opened ≡ [] → w.answer (codes "-") 1 ≡ Ok empty_content
    → (text : ByteString) × (out_text (meaning Md5sum (codes "-" ∷ codes "-" ∷ []) w)
    ≡ text ++ codes "d41d8cd98f00b204e9800998ecf8427e  -\n")
unfolding meaning_on_literals
dash_twice w none later = by (digest_or_fault (full_kind Md5) (w.answer (codes "-") 0)) refl
  where
    by : (r : Result ByteString Fault) → digest_or_fault (full_kind Md5) (w.answer (codes "-") 0) ≡ r
        → (text : ByteString) × (out_text (meaning Md5sum (codes "-" ∷ codes "-" ∷ []) w)
        ≡ text ++ codes "d41d8cd98f00b204e9800998ecf8427e  -\n")
    by (Ok d) is = (
      digest_line (record { mode = Text; zero = false }) (full_kind Md5) (codes "-") d,
      rw
          (none, is, later) refl,
    )
    by (Err f) is = ([], rw (none, is, later) refl)

-- a run that writes the line of one name
abbrev pub lines_of : Algo → Mode → ByteString → ByteString → GenerationRun
lines_of algo mode tool name = record {
  settings = record { kind = full_kind algo; style = record { mode = mode; zero = false } };
  tool = tool;
  names = name ∷ [];
}
