-- The behavior of checking one manifest.
use Rattle.std.specs.Prelude.{ℕ, ◌≡◌, ◌+◌, ◌≤◌, true, false, List, [], ◌∷◌, ◌++◌, length, Some, Ok, Err, ⊤}
use Rattle.sum_settings.specs.declared.{settings.CheckSettings.CheckSettings, stop.Stop.Stop}
use Rattle.digest_kinds.specs.Bytes.{ByteString}
use Rattle.sum_sources.specs.sources.Source.{AnswerValue, result_at, times}
use Rattle.sum_sources.specs.{declared.inputs.input.TheConstants.PIECE, inputs.Input.Content, inputs.Input.Reads}
use Rattle.sum_sources.specs.{inputs.Input.clip, sources.WithStdin.is_dash}
use Rattle.sum_sources.specs.LineReader.{past_line}
use Rattle.sum_engine.specs.Behavior.{World, answer_to, world_after, Step, Behavior, behavior_then, single_step, trace}
use Rattle.sum_engine.specs.{Execution.Agrees, Execution.world_at, Execution.opened_names, Execution.Happened}
use Rattle.sum_engine.specs.{Execution.PerformsSteps, Streams.StreamsState, ToolLines.name_fault_line}
use Rattle.sum_engine.specs.check.{Counts.counts_of, Counts.is_manifest_good, Judge.LineVerdictValue}
use Rattle.sum_engine.specs.check.{Judge.names_in_line, Judge.all_verdicts, Report.out_of, Report.err_of}
use Rattle.sum_engine.specs.check.{Rules.LabelsValue, Rules.rules_of, Rules.labels_of, Rules.CheckRules}
use Rattle.sum_engine.specs.check.{Summary.end_text}

-- the steps for what is left of a manifest: one for each line, by its verdict, and one that writes `end`
abbrev pub line_steps : CheckRules → LabelsValue → ByteString → Content → List LineVerdictValue → List Step
line_steps rules labels end content [] =
    record { names = []; err = end; out = []; manifest_left = length content.bytes } ∷ []
line_steps rules labels end content (x ∷ xs) =
    record {
      names = names_in_line x;
      err = err_of rules labels x;
      out = out_of labels x;
      manifest_left = length content.bytes;
    }
    ∷ line_steps rules labels end (past_line content) xs

-- the behavior of a manifest that was opened, whose lines have these verdicts
abbrev pub content_behavior : CheckRules → LabelsValue → Content → List LineVerdictValue → Behavior
content_behavior rules labels content verdicts = let counts = counts_of verdicts in record {
  steps = line_steps rules labels (end_text rules labels content.ending counts) content verdicts;
  good = is_manifest_good rules content.ending counts;
}

-- the behavior of checking a manifest: the opening of its name gave this answer, and left this world
abbrev pub check_behavior_by : CheckRules → LabelsValue → ByteString → World → AnswerValue → Behavior
check_behavior_by rules labels name world (Err fault) =
    single_step (name ∷ []) (name_fault_line labels.tool labels.manifest fault) [] false
check_behavior_by rules labels name world (Ok content) = behavior_then (single_step (name ∷ []) [] [] true)
    (content_behavior rules labels (clip content) (all_verdicts rules world (clip content)))

-- the behavior of checking the manifest of that name in a world
abbrev pub check_behavior : CheckSettings → ByteString → World → ByteString → Behavior
check_behavior settings tool world name = check_behavior_by (rules_of settings (is_dash name))
    (labels_of settings tool name) name (world_after world (name ∷ [])) (answer_to world name)

-- ---- how far a manifest was read

-- how many bytes of a manifest remain before these steps
abbrev pub remaining_before : List Step → ℕ
remaining_before [] = 0
remaining_before (next ∷ later) = next.manifest_left

-- the steps before the next one happened, and that one stopped. Of the manifest of this content n bytes were read, at
-- most `PIECE` of them past the next one's line
pub record StopsAtStep (stop : Stop) (steps : List Step) (content : Content) (n : ℕ) (before after : StreamsState)
    : Type 0 where
  pub done : List Step
  pub next : Step
  pub later : List Step
  pub are : steps ≡ done ++ next ∷ later
  pub between : StreamsState
  pub happened : Happened before between (trace done)
  pub stopped : PerformsSteps {A = ⊤} (next ∷ []) tt between after (Err stop)
  pub read : n + remaining_before later ≤ length content.bytes + PIECE

-- a call that checks the manifest of that name stopped at such a step, in each world that agrees with what was read.
-- The premises: the name's answer is a content, and the file was closed after these reads
abbrev pub StopsAtLine : Stop → (World → Behavior) → ByteString → StreamsState → StreamsState → Type 0
StopsAtLine stop behavior name before after = (world : World) → Agrees world after.inputs
    → let at = world_at world before.inputs in (content : Content) → answer_to at name ≡ Ok content → (reads : Reads)
    → result_at after.inputs.openings name (times name (opened_names before.inputs)) ≡ Some (Ok reads)
    → StopsAtStep stop (behavior at).steps (clip content) (length reads.bytes) before after
