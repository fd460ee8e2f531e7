-- The verdicts of a manifest, one call after another; no text is written.
use Rattle.std.specs.Prelude.{ℕ, ◌≡◌, ◌≢◌, ◌+◌, ◌≤◌, ◌<◌, ◌⊎◌, Bool, true, false, List, [], ◌∷◌, length, ⊤, Option}
use Rattle.std.specs.Prelude.{None, Some, IfSome, Result, Ok, Err, map}
use Rattle.digest_kinds.specs.Bytes.{ByteString}
use Rattle.sum_lines.specs.{declared.reading.read_line.Form.Form, declared.reading.read_line.Form.TheVariants.Undecided}
use Rattle.sum_lines.specs.{grammar.Form.form_of, grammar.Form.form_then, grammar.Form.line_form}
use Rattle.sum_lines.specs.{grammar.ParsedLines.parse_line}
use Rattle.sum_sources.specs.{LineReader.AdvancesLines, LineReader.IsBounded, LineReader.IsReading, LineReader.ReadsOn}
use Rattle.sum_sources.specs.{LineReader.consumed_count}
use Rattle.sum_sources.specs.LineReader.{past_line, lines_in}
use Rattle.sum_sources.specs.declared.{fault.Ending.Ending, fault.Ending.TheVariants.Whole}
use Rattle.sum_sources.specs.declared.{fault.Ending.TheVariants.Broken, inputs.input.Phase.TheVariants.Unfinished}
use Rattle.sum_sources.specs.declared.{inputs.input.TheConstants.PIECE}
use Rattle.sum_sources.specs.declared.line_reader.{LineReader.LineReader, LineStop.LineStop, LineStop.TheVariants.Fault}
use Rattle.sum_sources.specs.declared.line_reader.{LineStop.TheVariants.Memory, Next.Next, Next.TheVariants.Line}
use Rattle.sum_sources.specs.declared.line_reader.{Next.TheVariants.NoMore}
use Rattle.sum_sources.specs.{inputs.Input.Content, inputs.Input.InputState, sources.Source.SourceState}
use Rattle.sum_engine.specs.{Behavior.World, Execution.Agrees, Execution.world_at, Execution.ReadsToEndIf}
use Rattle.sum_engine.specs.{Execution.OpensNames, Execution.RefusesMemory}
use Rattle.sum_engine.specs.check.{Counts.Counts, Counts.counts_of, Counts.counts_and_line, Rules.CheckRules}
use Rattle.sum_engine.specs.check.Judge.{LineVerdict, LineVerdictValue, line_verdict_value, is_unread, names_in_line}
use Rattle.sum_engine.specs.check.Judge.{first_names, line_verdict, verdicts_of}

-- the verdicts of a manifest
pub record VerdictsValue (I : Type 0) : Type 0 where
  pub rules : CheckRules
  pub reader : LineReader I
  pub form : Form  -- the form of its lines so far
  pub counts : Counts  -- the counts of its lines so far
  pub outcome : Option (Result ⊤ LineStop)  -- that no line is left, or why the verdicts stopped

-- the verdicts are at the first line of that input
pub record IsAtStart {I : Type 0} (state_of : I → InputState) (verdicts : VerdictsValue I) (input : I) : Type 0 where
  pub reader : verdicts.reader ≡ record { input = input; ahead = []; taken = 0; lines = 0; final_answer = None }
  pub reading : (state_of input).reads.phase ≡ Unfinished → IsReading state_of verdicts.reader
  pub form : verdicts.form ≡ Undecided
  pub counts : verdicts.counts ≡ counts_of []
  pub outcome : verdicts.outcome ≡ None

-- ---- the states of a check

-- the state of a manifest's check: what remains of the manifest, and what was found so far
pub record CheckState : Type 0 where
  pub remaining : Content
  pub number : ℕ  -- how many lines were handled
  pub consumed : ℕ  -- how many bytes these lines took, with their newlines and carriage returns
  pub taken : ℕ  -- how many bytes the input has given
  pub form : Form
  pub counts : Counts
  pub world : World  -- in which the later lines are judged

-- the state before the first line
abbrev pub initial_state : Content → World → CheckState
initial_state content world = record {
  remaining = content;
  number = 0;
  consumed = 0;
  taken = 0;
  form = Undecided;
  counts = counts_of [];
  world = world;
}

-- the state of the check at these verdicts, if this content remains in this world
abbrev pub state_at : {I : Type 0} → VerdictsValue I → Content → World → CheckState
state_at verdicts content world = record {
  remaining = content;
  number = verdicts.reader.lines;
  consumed = consumed_count verdicts.reader;
  taken = verdicts.reader.taken;
  form = verdicts.form;
  counts = verdicts.counts;
  world = world;
}

-- the verdict of this line, if it is the next one
abbrev pub next_judged : CheckRules → CheckState → ByteString → LineVerdictValue
next_judged rules state line = line_verdict rules state.world (state.number + 1)
    (parse_line rules.algo (form_then state.form (line_form rules.algo line)) line)

-- the verdicts of the lines that remain
abbrev pub remaining_verdicts : CheckRules → CheckState → List LineVerdictValue
remaining_verdicts rules state = let all = lines_in state.remaining in
    let form_of_all = form_then state.form (form_of rules.algo all) in
    verdicts_of rules state.world state.number (map (parse_line rules.algo form_of_all) all)

-- one line was handled, after which the vector for lines holds these bytes
pub record HandlesLine (rules : CheckRules) (before after : CheckState) (vector : ByteString) : Type 0 where
  pub line : ByteString
  pub lines : lines_in before.remaining ≡ line ∷ lines_in after.remaining
  pub remaining : after.remaining ≡ past_line before.remaining
  pub consumed : after.consumed + length after.remaining.bytes ≡ before.consumed + length before.remaining.bytes
  pub taken : after.taken ≤ after.consumed + PIECE
  pub number : after.number ≡ before.number + 1
  pub form : after.form ≡ form_then before.form (line_form rules.algo line)
  pub counts : after.counts ≡ counts_and_line before.counts (next_judged rules before line).verdict
  pub vector_len : length vector ≤ length line

-- at most one piece was read past the next line
abbrev pub ReadsOneLine : CheckState → CheckState → Type 0
ReadsOneLine before after =
    after.taken + length (past_line before.remaining).bytes ≤ before.consumed + length before.remaining.bytes + PIECE

-- Holds relates the check before a call to the check after it, for each content that fits the reads of the manifest, in
-- each world that agrees with all reads. The premise: the manifest hadn't ended when its reader was made
pub record HoldsInEachCheck {I : Type 0} (state_of : I → InputState) (old new : VerdictsValue I)
    (old_source new_source : SourceState) (Holds : CheckState → CheckState → Type 0) : Type 0 where
  pub reads : IsReading state_of old.reader
      → ReadsOn state_of old.reader new.reader (λ before after. (world : World) → Agrees world new_source
      → Holds (state_at old before (world_at world old_source)) (state_at new after (world_at world new_source)))

-- ---- what a call returns

-- what a call for the next verdict returns
abbrev pub VerdictResult : Type 0
VerdictResult = Result (Option LineVerdict) LineStop

-- no line remained, and the manifest has this ending. Nothing was counted, and only the ending remains
pub record HasNoVerdictLeft (rules : CheckRules) (last : Ending) (before after : CheckState) : Type 0 where
  pub verdicts : remaining_verdicts rules before ≡ []
  pub ending : before.remaining.ending ≡ last
  pub counts : after.counts ≡ before.counts
  pub remaining : after.remaining ≡ record { bytes = []; ending = last }

-- the call found the first verdict of those that remained, or that none remained, as its result says. If memory ran out
-- since the source was refused it, the first verdict opens a name
abbrev pub IsNextVerdict : CheckRules → ByteString → Type 0 → CheckState → CheckState → VerdictResult → Type 0
IsNextVerdict rules vector Refused before after (Ok (Some found)) =
    (remaining_verdicts rules before ≡ line_verdict_value vector found ∷ remaining_verdicts rules after)
    × HandlesLine rules before after vector
IsNextVerdict rules vector Refused before after (Ok None) = HasNoVerdictLeft rules Whole before after
IsNextVerdict rules vector Refused before after (Err (Fault fault)) = HasNoVerdictLeft rules (Broken fault) before after
IsNextVerdict rules vector Refused before after (Err Memory) = (0 < length before.remaining.bytes)
    × ReadsOneLine before after × (Refused → first_names (remaining_verdicts rules before) ≢ [])

-- ---- the outcome

-- a call keeps the outcome in its result, if there is one. After an outcome it returns the same outcome again, and
-- Unchanged holds
pub record KeepsOutcome {X F : Type 0} (outcome_in : X → Option F) (before after : Option F) (Unchanged : Type 0)
    (result : X) : Type 0 where
  pub kept : after ≡ outcome_in result
  pub again : IfSome before (λ outcome. (outcome_in result ≡ Some outcome) × Unchanged)

-- the outcome in a call's result: none for a line; one if no line is left, and one for a stop
abbrev pub outcome_in_next : VerdictResult → Option (Result ⊤ LineStop)
outcome_in_next (Ok (Some found)) = None
outcome_in_next (Ok None) = Some (Ok tt)
outcome_in_next (Err stop) = Some (Err stop)

-- whether the outcome is that no line is left, and no fault broke the manifest
abbrev pub is_whole : Option (Result ⊤ LineStop) → Bool
is_whole (Some (Ok nothing)) = true
is_whole outcome = false

-- ---- what a call does

-- the counts after a call for the next verdict
abbrev pub counts_after : Counts → VerdictResult → Counts
counts_after counts (Ok (Some found)) = counts_and_line counts found.verdict
counts_after counts result = counts

-- the result isn't a line whose file could not be opened or read
abbrev pub IsNotUnread : VerdictResult → Type 0
IsNotUnread (Ok (Some found)) = is_unread found.verdict ≡ false
IsNotUnread result = ⊤

-- a call for the next verdict opens the name that the verdict is about, if it is about one. If memory ran out, the
-- source was refused memory; or bytes were read ahead, and nothing was opened
abbrev pub OpensFor : ByteString → ByteString → SourceState → SourceState → VerdictResult → Type 0
OpensFor vector ahead before after (Ok (Some found)) = OpensNames before after
    (names_in_line (line_verdict_value vector found))
OpensFor vector ahead before after (Err Memory) = RefusesMemory before after ⊎ ((after ≡ before) × (0 < length ahead))
OpensFor vector ahead before after result = OpensNames before after []

-- what its reader returned if a call for the next verdict returns this: a line, also if memory was refused to open the
-- file that it names; or that no line is left, or the same stop
abbrev pub IsReadFor : VerdictResult → Result Next LineStop → Type 0
IsReadFor (Ok (Some found)) read = read ≡ Ok Line
IsReadFor (Ok None) read = read ≡ Ok NoMore
IsReadFor (Err Memory) read = (read ≡ Err Memory) ⊎ (read ≡ Ok Line)
IsReadFor (Err stop) read = read ≡ Err stop

-- what a call for the next verdict does, whatever the manifest's content and the world are
pub record AdvancesVerdicts {I : Type 0} (state_of : I → InputState) (vector : ByteString) (old new : VerdictsValue I)
    (before after : SourceState) (result : VerdictResult) : Type 0 where
  pub rules : new.rules ≡ old.rules
  pub counts : new.counts ≡ counts_after old.counts result
  -- what its reader returned
  pub read : Result Next LineStop
  pub found : IsReadFor result read
  pub reader : AdvancesLines state_of old.reader new.reader read
  pub bounds : IsBounded new.reader
  pub opened : OpensFor vector new.reader.ahead before after result
  pub reads : ReadsToEndIf (IsNotUnread result) before after
