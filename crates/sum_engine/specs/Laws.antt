-- The laws about what was read, a checker's steps and the verdicts over a whole manifest, the lines before a line, and
-- old verdicts.
use Rattle.std.specs.Prelude.{ℕ, ◌≡◌, ◌+◌, ◌≤◌, ◌↔◌, Bool, List, [], ◌∷◌, ◌++◌, take, length, slice_index_or, None}
use Rattle.std.specs.Prelude.{Some, Result, Ok, Err, IfSome, map, ◌≢◌, ◌<◌, ◌==◌, ◌&&◌, not, flat_map, bytes_eq, codes}
use Rattle.std.specs.Prelude.{decimal, IsTrue, All, ⊤, if◌then◌else◌}
use Rattle.digest_kinds.specs.Bytes.{ByteString}
use Rattle.digest_kinds.specs.Kind.{KindValue}
use Rattle.sum_settings.specs.declared.stop.Stop.{Stop}
use Rattle.sum_lines.specs.Escape.{escape}
use Rattle.sum_lines.specs.grammar.Entries.{EntryValue, IsEntry}
use Rattle.sum_lines.specs.grammar.Form.{form_of}
use Rattle.sum_lines.specs.grammar.ParsedLines.{parse_line, ParsedLine}
use Rattle.sum_lines.specs.grammar.Shapes.{IsPlain, backslash_if}
use Rattle.sum_sources.specs.declared.inputs.input.TheConstants.{PIECE}
use Rattle.sum_sources.specs.inputs.Input.{Content, InputState}
use Rattle.sum_sources.specs.sources.Source.{ToldAnswers, SourceState}
use Rattle.sum_sources.specs.LineReader.{content_past_lines, lines_in, past_line, raw_lines}
use Rattle.sum_engine.specs.Behavior.{World, Behavior, trace, out_text, err_text, names_in, Step}
use Rattle.sum_engine.specs.Execution.{Agrees, OpensNames, Happened, PerformsSteps, ReadsToEndIf, RefusesMemory}
use Rattle.sum_engine.specs.Streams.{StreamsState}
use Rattle.sum_engine.specs.check.CheckOne.{content_behavior}
use Rattle.sum_engine.specs.check.Checker.{Going, Ended, IsStep, end_result}
use Rattle.sum_engine.specs.check.Judge.{verdicts_of, all_verdicts, Verdict, Bad, Right, Wrong, Unread}
use Rattle.sum_engine.specs.check.Judge.{LineVerdictValue, line_verdict_value, names_in_line, parsed_content}
use Rattle.sum_engine.specs.check.Rules.{LabelsValue, CheckRules}
use Rattle.sum_engine.specs.check.Verdicts.{CheckState, initial_state, HoldsInEachCheck, IsNextVerdict, IsNotUnread}
use Rattle.sum_engine.specs.check.Verdicts.{VerdictResult, VerdictsValue, outcome_in_next, remaining_verdicts}
use Rattle.std.specs.List.{concat, starts_with}
use Rattle.std.specs.Str.{byte}
use Rattle.digest_kinds.specs.declared.algo.Algos.{Algos}
use Rattle.sum_settings.specs.declared.settings.Report.{Report}
use Rattle.sum_settings.specs.declared.settings.Report.TheVariants.{Quiet, Warn, Status}
use Rattle.sum_lines.specs.declared.reading.read_line.Form.{Form}
use Rattle.sum_sources.specs.Fault.{fault_text}
use Rattle.sum_sources.specs.declared.fault.Ending.{Ending}
use Rattle.sum_sources.specs.declared.fault.Ending.TheVariants.{Whole, Broken}
use Rattle.sum_engine.specs.check.Counts.{Counts, counts_of, entry_count, is_manifest_good}
use Rattle.sum_engine.specs.check.Report.{tag_word}
use Rattle.sum_engine.specs.check.Summary.{text_unless_status, warning}
use Rattle.sum_sources.specs.declared.line_reader.LineStop.TheVariants.{Fault, Memory}

-- some world agrees with what was read so far, and has each answer that the source tells
abbrev pub ToldAgree : ToldAnswers → SourceState → Type 0
ToldAgree tells source = (world : World) × Agrees world source
    × ((name : ByteString) (k : ℕ) → IfSome (tells source.told name k) (λ told. world.answer name k ≡ told))

-- if a behavior's trace happened, each output grew by its text, and its names were opened
abbrev pub EventsExtend : Type 0
EventsExtend = (behavior : Behavior) (before after : StreamsState) → Happened before after (trace behavior.steps)
    → OpensNames before.inputs after.inputs (names_in behavior)
    × (after.outputs.err.written ≡ before.outputs.err.written ++ (err_text behavior))
    × (after.outputs.out.written ≡ before.outputs.out.written ++ (out_text behavior))

-- ---- step by step

-- a check took steps that each returned Going, one after another; after each the line's vector held the next of these
abbrev pub TakesSteps : CheckRules → LabelsValue → CheckState → CheckState → StreamsState → StreamsState
    → List ByteString → Type 0
TakesSteps rules labels check_before check_after before after [] = (check_after ≡ check_before) × (after ≡ before)
TakesSteps rules labels check_before check_after before after (vector ∷ vectors) = (next : CheckState)
    × (between : StreamsState)
    × IsStep rules labels vector check_before next before between (Ok Going)
    × TakesSteps rules labels next check_after between after vectors

-- STEP BY STEP: a new checker of a manifest with this content and behavior took a step for each of these vectors, and
-- each step returned Going
pub record HasTakenSteps (rules : CheckRules) (labels : LabelsValue) (content : Content) (behavior : Behavior)
    (vectors : List ByteString) (state : CheckState) (before after : StreamsState) : Type 0 where
  -- exactly this many steps of the behavior happened, each of one line
  pub happened : Happened before after (trace (take (length vectors) behavior.steps))
  -- what the input gave goes at most `PIECE` bytes beyond the end of the last of these lines
  pub taken : state.taken + length (content_past_lines (length vectors) content).bytes ≤ length content.bytes + PIECE
  -- each vector holds at most as many bytes as its line
  pub vector_lens : (k : ℕ)
      → length (slice_index_or vectors k []) ≤ length (slice_index_or (lines_in content) k [])
  -- if the next step ends or stops, the whole behavior was performed; and it ends only after all lines
  pub last : (result : Result Bool Stop) (vector : ByteString) (check_after : CheckState) (end : StreamsState)
      → IsStep rules labels vector state check_after after end (end_result result)
      → PerformsSteps behavior.steps behavior.good before end result
  pub lines : (good : Bool) (vector : ByteString) (check_after : CheckState) (end : StreamsState)
      → IsStep rules labels vector state check_after after end (Ok (Ended good))
      → length vectors ≡ length (lines_in content)

-- the steps of a new checker do together what `HasTakenSteps` says
abbrev pub StepsJoin : Type 0
StepsJoin = (rules : CheckRules) (labels : LabelsValue) (content : Content) (world : World) (state : CheckState)
    (before after : StreamsState) (vectors : List ByteString)
    → TakesSteps rules labels (initial_state content world) state before after vectors
    → HasTakenSteps rules labels content (content_behavior rules labels content (all_verdicts rules world content))
    vectors state before after

-- ---- verdict by verdict

-- what the clauses `outcome`, `verdict` and `advances` of a call for the next verdict say together, if there was no
-- outcome before it
pub record ReturnsNext {I : Type 0} (state_of : I → InputState) (vector : ByteString) (old new : VerdictsValue I)
    (before after : SourceState) (result : VerdictResult) : Type 0 where
  pub outcome : new.outcome ≡ outcome_in_next result
  pub rules : new.rules ≡ old.rules
  pub verdict : HoldsInEachCheck state_of old new before after
      (λ a b. IsNextVerdict old.rules vector (RefusesMemory before after) a b result)
  pub reads : ReadsToEndIf (IsNotUnread result) before after

-- calls for the next verdict, one after another, returned these verdicts of lines. For each content that fits the reads
-- by the last call, in each world that agrees with all of them, these are the first of the verdicts that remained
pub record HasReturned {I : Type 0} (state_of : I → InputState) (first last : VerdictsValue I)
    (before after : SourceState) (returned : List LineVerdictValue) : Type 0 where
  pub outcome : last.outcome ≡ None
  pub rules : last.rules ≡ first.rules
  pub verdicts : HoldsInEachCheck state_of first last before after
      (λ a b. remaining_verdicts first.rules a ≡ returned ++ remaining_verdicts first.rules b)
  pub worlds : (world : World) → Agrees world after → Agrees world before

-- VERDICT BY VERDICT: what is known of all verdicts of a manifest, and of its ending, after calls that returned the
-- verdicts of these lines, and one more call with this result: they were all, unless memory ran out
abbrev pub AreFirstOf : List LineVerdictValue → Ending → List LineVerdictValue → ByteString → VerdictResult → Type 0
AreFirstOf all ending returned vector (Ok (Some found)) =
    (later : List LineVerdictValue) × (all ≡ returned ++ line_verdict_value vector found ∷ later)
AreFirstOf all ending returned vector (Ok None) = (all ≡ returned) × (ending ≡ Whole)
AreFirstOf all ending returned vector (Err (Fault fault)) = (all ≡ returned) × (ending ≡ Broken fault)
AreFirstOf all ending returned vector (Err Memory) = (later : List LineVerdictValue) × (all ≡ returned ++ later)

-- ---- the lines before a line

-- what holds if two manifests have the same first n lines, of which this is the last. It spells the same entry in both.
-- The verdicts of these lines are the same after the same openings. If the line is plain, the form is the same
pub record IsSameInBoth (rules : CheckRules) (world : World) (n : ℕ) (line : ByteString)
    (lines others : List ByteString) : Type 0 where
  pub entry : (listed : EntryValue) → IsEntry escape rules.algo (form_of rules.algo lines) line listed
      ↔ IsEntry escape rules.algo (form_of rules.algo others) line listed
  pub verdict : take n (verdicts_of rules world 0 (map (parse_line rules.algo (form_of rules.algo lines)) lines))
      ≡ take n (verdicts_of rules world 0 (map (parse_line rules.algo (form_of rules.algo others)) others))
  pub form : (escaped : Bool) (kind : KindValue) (digest tail : ByteString)
      → IsPlain rules.algo line escaped kind digest tail → form_of rules.algo lines ≡ form_of rules.algo others

-- what `IsSameInBoth` says holds whatever lines follow. What a manifest is called has no part in it, apart from
-- `from_stdin` of the rules
abbrev pub SameFront : Type 0
SameFront = (rules : CheckRules) (world : World) (before : List ByteString) (line : ByteString)
    (later others : List ByteString)
    → IsSameInBoth rules world (length before + 1) line (before ++ (line ∷ later)) (before ++ (line ∷ others))

-- the escape of older versions: a backslash becomes `\\`, and a newline `\n`; any other byte stays
abbrev pub older_escape : ByteString → ByteString
older_escape name = flat_map (λ b. if b == byte "\\" then codes "\\\\" else if b == byte "\n" then codes "\\n"
    else b ∷ []) name

-- a line said this to older versions: they ignored only what begins with `#`, and an entry's name had the older escape
pub record SaidOnce (algos : Algos) (form : Form) (line : ByteString) (said : ParsedLine) : Type 0 where
  pub when_ignored : (said ≡ ParsedLine.ignored) ↔ IsTrue (starts_with ◌==◌ line (codes "#"))
  pub when_entry : (listed : EntryValue) → (said ≡ ParsedLine.entry listed)
      ↔ IsEntry older_escape algos form line listed

-- these lines said this to older versions, one by one
abbrev pub EachSaidOnce : Algos → Form → List ByteString → List ParsedLine → Type 0
EachSaidOnce algos form [] [] = ⊤
EachSaidOnce algos form (line ∷ later) (x ∷ xs) = SaidOnce algos form line x × EachSaidOnce algos form later xs
EachSaidOnce algos form lines said = ⊥

-- the lines of a content said this to older versions, which kept each carriage return
abbrev pub ContentSaidOnce : Algos → Content → List ParsedLine → Type 0
ContentSaidOnce algos content said = EachSaidOnce algos (form_of algos (raw_lines content)) (raw_lines content) said

-- no byte is a carriage return
abbrev pub HasNoCarriageReturn : ByteString → Type 0
HasNoCarriageReturn bytes = All (λ b. b ≢ byte "\r") bytes

-- the line names no file with a carriage return. Without such a byte, it could do so only by the escape `\r`
abbrev pub NamesNoCarriageReturn : Algos → Form → ByteString → Type 0
NamesNoCarriageReturn algos form line =
    (listed : EntryValue) → IsEntry escape algos form line listed → HasNoCarriageReturn listed.name

-- a manifest has no empty line and no carriage return: neither in its own name, nor as a byte, nor as the escape `\r`
-- in a name
pub record IsOldManifest (rules : CheckRules) (labels : LabelsValue) (content : Content) : Type 0 where
  pub own_name : HasNoCarriageReturn labels.manifest
  pub no_byte : HasNoCarriageReturn content.bytes
  pub no_escape : All (NamesNoCarriageReturn rules.algo (form_of rules.algo (raw_lines content))) (raw_lines content)
  pub no_empty : All (λ line. 0 < length line) (raw_lines content)

-- ---- what older versions wrote: each of these lines differs from today's of that name only by the escape in it

-- NAME: TEXT, after a backslash if the name's older escape differs from it
abbrev pub older_name_line : ByteString → ByteString → ByteString
older_name_line name text = concat (backslash_if (not (bytes_eq (older_escape name) name)) ∷ older_escape name
    ∷ codes ": " ∷ text ∷ codes "\n" ∷ [])

-- TOOL: NAME: TEXT
abbrev pub older_tool_line : ByteString → ByteString → ByteString → ByteString
older_tool_line tool name text = concat (tool ∷ codes ": " ∷ older_escape name ∷ codes ": " ∷ text ∷ codes "\n" ∷ [])

-- TOOL: MANIFEST: N: improperly formatted TAG checksum line
abbrev pub older_bad_line : CheckRules → LabelsValue → ℕ → ByteString
older_bad_line rules labels n = concat (labels.tool ∷ codes ": " ∷ older_escape labels.manifest ∷ codes ": "
    ∷ decimal n ∷ codes ": improperly formatted " ∷ tag_word rules.algo ∷ codes " checksum line\n" ∷ [])

-- the report of a verdict on this name on standard output
abbrev pub older_out_by : Report → Verdict → ByteString → ByteString
older_out_by Status verdict name = []
older_out_by Quiet Right name = []
older_out_by report Right name = older_name_line name (codes "OK")
older_out_by report Wrong name = older_name_line name (codes "FAILED")
older_out_by report (Unread fault) name = older_name_line name (codes "FAILED open or read")
older_out_by report verdict name = []

-- the report of line n, with this verdict and name, on standard error
abbrev pub older_err_by : CheckRules → LabelsValue → ℕ → Verdict → Report → ByteString → ByteString
older_err_by rules labels n Bad Warn name = older_bad_line rules labels n
older_err_by rules labels n (Unread fault) report name = older_tool_line labels.tool name (fault_text fault)
older_err_by rules labels n verdict report name = []

-- the line which says that no file was verified, under `--ignore-missing`
abbrev pub older_unverified_line : CheckRules → LabelsValue → Counts → ByteString
older_unverified_line rules labels counts = if rules.ignore_missing && (counts.right == 0)
    then older_tool_line labels.tool labels.manifest (codes "no file was verified") else []

-- the warnings at a manifest's end
abbrev pub older_warnings : CheckRules → LabelsValue → Counts → ByteString
older_warnings rules labels counts = let tool = labels.tool in
    warning tool counts.bad (codes " line is improperly formatted") (codes " lines are improperly formatted")
    ++ (warning tool counts.unread (codes " listed file could not be read") (codes " listed files could not be read")
    ++ (warning tool counts.wrong (codes " computed checksum did NOT match") (codes " computed checksums did NOT match")
    ++ older_unverified_line rules labels counts))

-- the end of a manifest on standard error: its summary, or the line of the fault that broke it
abbrev pub older_end_text : CheckRules → LabelsValue → Ending → Counts → ByteString
older_end_text rules labels Whole counts = if entry_count counts == 0
    then older_tool_line labels.tool labels.manifest (codes "no properly formatted checksum lines found")
    else text_unless_status labels.report (older_warnings rules labels counts)
older_end_text rules labels (Broken fault) counts = older_tool_line labels.tool labels.manifest (fault_text fault)

-- the steps of a content: one for each line, by these verdicts, and one for the end, which has this text
abbrev pub older_line_steps : CheckRules → LabelsValue → ByteString → Content → List LineVerdictValue → List Step
older_line_steps rules labels end content [] =
    record { names = []; err = end; out = []; manifest_left = length content.bytes } ∷ []
older_line_steps rules labels end content (x ∷ xs) = record {
  names = names_in_line x;
  err = older_err_by rules labels x.number x.verdict labels.report x.name;
  out = older_out_by labels.report x.verdict x.name;
  manifest_left = length content.bytes;
} ∷ older_line_steps rules labels end (past_line content) xs

-- the older behavior of a manifest that was opened, whose lines had these verdicts
abbrev pub older_behavior : CheckRules → LabelsValue → Content → List LineVerdictValue → Behavior
older_behavior rules labels content xs = let counts = counts_of xs in record {
  steps = older_line_steps rules labels (older_end_text rules labels content.ending counts) content xs;
  good = is_manifest_good rules content.ending counts;
}

-- ---- the law

-- a manifest is checked in that world as older versions checked it
pub record IsCheckedAsOnce (rules : CheckRules) (labels : LabelsValue) (world : World) (content : Content)
    : Type 0 where
  -- its lines said to them what they say now, and nothing else
  pub lines : (said : List ParsedLine) → ContentSaidOnce rules.algo content said
      ↔ (said ≡ parsed_content rules.algo content)
  -- the same is written for each line and at the end, and the manifest is good if it was
  pub behavior : (said : List ParsedLine) → ContentSaidOnce rules.algo content said
      → older_behavior rules labels content (verdicts_of rules world 0 said)
      ≡ content_behavior rules labels content (all_verdicts rules world content)
  pub verdicts : (said : List ParsedLine) → ContentSaidOnce rules.algo content said
      → verdicts_of rules world 0 said ≡ all_verdicts rules world content

-- such a manifest is checked so, whatever was opened before
abbrev pub OldVerdicts : Type 0
OldVerdicts = (rules : CheckRules) (labels : LabelsValue) (world : World) (content : Content)
    → IsOldManifest rules labels content → IsCheckedAsOnce rules labels world content

-- how older versions differed: a carriage return in a name wasn't escaped, one at a line's end stayed, and an empty
-- line was improperly formatted
abbrev pub OlderDiffers : Type 0
OlderDiffers = (older_escape (codes "\r") ≡ codes "\r")
    × (raw_lines (record { bytes = codes "a\r\n"; ending = Whole }) ≡ codes "a\r" ∷ [])
    × ((algos : Algos) (form : Form) (said : ParsedLine) → SaidOnce algos form [] said ↔ (said ≡ ParsedLine.bad))
