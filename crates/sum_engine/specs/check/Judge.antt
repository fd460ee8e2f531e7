-- The verdict of a line, and those of a manifest's lines.
use Rattle.std.specs.Prelude.{ℕ, ◌+◌, ◌≤◌, ◌&&◌, Bool, true, false, List, [], ◌∷◌, length, Result, Ok, Err}
use Rattle.std.specs.Prelude.{if◌then◌else◌, bytes_eq, slice_range, map}
use Rattle.digest_kinds.specs.{Bytes.ByteString, declared.algo.Algos.Algos}
use Rattle.sum_lines.specs.grammar.{Entries.EntryValue, Form.form_of, ParsedLines.ParsedLine, ParsedLines.parse_line}
use Rattle.sum_sources.specs.{declared.fault.Fault.Fault, declared.fault.Fault.TheVariants.NotFound}
use Rattle.sum_sources.specs.{inputs.Input.Content, sources.Source.AnswerValue, sources.WithStdin.is_dash}
use Rattle.sum_sources.specs.LineReader.{lines_in}
use Rattle.sum_engine.specs.{Behavior.World, Behavior.answer_to, Behavior.world_after, Behavior.digest_or_fault}
use Rattle.sum_engine.specs.{check.Rules.CheckRules}
pub use Rattle.sum_engine.specs.declared.check.judge.{LineVerdict.LineVerdict, Verdict.Verdict}
pub use Rattle.sum_engine.specs.declared.check.judge.Verdict.TheVariants.{Ignored, Bad, Right, Wrong, Missing, Unread}

-- a line's number (the first is 1), its verdict, and the name of its entry
pub record LineVerdictValue : Type 0 where
  pub number : ℕ
  pub verdict : Verdict
  pub name : ByteString

-- the range of a line's name is within the vector
pub record HasNameRange (vector : ByteString) (found : LineVerdict) : Type 0 where
  pub start : found.start ≤ found.stop
  pub stop : found.stop ≤ length vector

-- a line's verdict, with its name in place of the name's range in the vector
abbrev pub line_verdict_value : ByteString → LineVerdict → LineVerdictValue
line_verdict_value vector found =
    record { number = found.number; verdict = found.verdict; name = slice_range vector found.start found.stop }

-- whether a verdict is `Unread`, with any fault
abbrev pub is_unread : Verdict → Bool
is_unread (Unread fault) = true
is_unread verdict = false

-- whether there is no such file
abbrev pub is_not_found : AnswerValue → Bool
is_not_found (Err NotFound) = true
is_not_found answer = false

-- the verdict of an entry that lists this digest, by what its file gave
abbrev pub verdict_of_file : ByteString → Result ByteString Fault → Verdict
verdict_of_file listed (Ok digest) = if bytes_eq digest listed then Right else Wrong
verdict_of_file listed (Err fault) = Unread fault

-- the verdict of an entry. In a manifest from standard input the name `-` is bad, and isn't opened
abbrev pub judge : CheckRules → World → EntryValue → Verdict
judge rules world listed = let answer = answer_to world listed.name in
    if rules.from_stdin && is_dash listed.name then Bad
    else if rules.ignore_missing && is_not_found answer then Missing
    else verdict_of_file listed.digest (digest_or_fault listed.kind answer)

-- the verdict of line n, which says this
abbrev pub line_verdict : CheckRules → World → ℕ → ParsedLine → LineVerdictValue
line_verdict rules world n ParsedLine.ignored = record { number = n; verdict = Ignored; name = [] }
line_verdict rules world n ParsedLine.bad = record { number = n; verdict = Bad; name = [] }
line_verdict rules world n (ParsedLine.entry listed) =
    record { number = n; verdict = judge rules world listed; name = listed.name }

-- the names that were opened for a verdict on this name: none for an ignored line or a bad one
abbrev pub asks_by : Verdict → ByteString → List ByteString
asks_by Ignored name = []
asks_by Bad name = []
asks_by verdict name = name ∷ []

-- the names that a line's verdict opens
abbrev pub names_in_line : LineVerdictValue → List ByteString
names_in_line found = asks_by found.verdict found.name

-- the names that the first of these verdicts opens, if there is one
abbrev pub first_names : List LineVerdictValue → List ByteString
first_names [] = []
first_names (first ∷ later) = names_in_line first

-- the verdicts of the lines after the first n, which say this. Each is judged in the world that the earlier ones leave
abbrev pub verdicts_of : CheckRules → World → ℕ → List ParsedLine → List LineVerdictValue
verdicts_of rules world n [] = []
verdicts_of rules world n (x ∷ xs) = let first = line_verdict rules world (n + 1) x in
    first ∷ verdicts_of rules (world_after world (names_in_line first)) (n + 1) xs

-- what each line of a content says. The form of all its lines decides how a plain one is read
abbrev pub parsed_content : Algos → Content → List ParsedLine
parsed_content algos content = map (parse_line algos (form_of algos (lines_in content))) (lines_in content)

-- the verdicts of a whole manifest
abbrev pub all_verdicts : CheckRules → World → Content → List LineVerdictValue
all_verdicts rules world content = verdicts_of rules world 0 (parsed_content rules.algo content)
