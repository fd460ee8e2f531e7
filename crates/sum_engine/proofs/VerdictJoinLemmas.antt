-- `verdicts_join`: calls of `Verdicts::next`, one after another.
use Rattle.std.proofs.Common.{◌≡◌, ◌∙◌, List, [], ◌∷◌, ◌++◌, None, Some, Ok, Err, ap, append_assoc, append-nil, refl}
use Rattle.std.proofs.Common.{sym}
use Rattle.digest_kinds.specs.Bytes.{ByteString}
use Rattle.sum_engine.proofs.{CheckLinesLemmas.state-initial, WorldLemmas.agrees_before}
use Rattle.sum_engine.specs.{Behavior.World, Execution.Agrees, Execution.world_at, Laws.AreFirstOf, Laws.HasReturned}
use Rattle.sum_engine.specs.{Laws.ReturnsNext}
use Rattle.sum_engine.specs.check.Judge.{LineVerdict, LineVerdictValue, all_verdicts, line_verdict_value}
use Rattle.sum_engine.specs.check.Rules.{CheckRules}
use Rattle.sum_engine.specs.check.Verdicts.{CheckState, IsAtStart, IsNextVerdict, VerdictResult, VerdictsValue}
use Rattle.sum_engine.specs.check.Verdicts.{remaining_verdicts, state_at}
use Rattle.sum_sources.{specs.LineReader.reads_of, specs.LineReader.remaining_content}
use Rattle.sum_sources.specs.declared.{inputs.input.Phase.TheVariants.Unfinished}
use Rattle.sum_sources.specs.declared.{line_reader.LineStop.TheVariants.Fault, line_reader.LineStop.TheVariants.Memory}
use Rattle.sum_sources.specs.{inputs.Input.Content, inputs.Input.Fits, inputs.Input.InputState, inputs.Input.clip}
use Rattle.sum_sources.specs.{sources.Source.SourceState}

-- what the next call says of all verdicts, if they are these and then those that remained
are_first : (r : CheckRules) (vector : ByteString) (returned all : List LineVerdictValue) (a b : CheckState)
    (Refused : Type 0) (result : VerdictResult) → all ≡ returned ++ remaining_verdicts r a
    → IsNextVerdict r vector Refused a b result → AreFirstOf all a.remaining.ending returned vector result
are_first r vector returned all a b Refused (Ok (Some found)) are is = (_, are ∙ ap (λ l. returned ++ l) is.0)
are_first r vector returned all a b Refused (Ok None) are is =
    (are ∙ ap (λ l. returned ++ l) is.verdicts ∙ append-nil returned, is.ending)
are_first r vector returned all a b Refused (Err (Fault fault)) are is =
    (are ∙ ap (λ l. returned ++ l) is.verdicts ∙ append-nil returned, is.ending)
are_first r vector returned all a b Refused (Err Memory) are is = (_, are)

module _ {I : Type 0} {state : I → InputState} where
  -- no call was made yet
  pub returned_none : (p : VerdictsValue I) (s : SourceState) → p.outcome ≡ None → HasReturned state p p s s []
  returned_none p s none = record {
    outcome = none;
    rules = refl;
    verdicts = record {
      reads = λ reading. record { reading = reading; before = λ c fits. fits; holds = λ c fits w agrees. refl };
    };
    worlds = λ w agrees. agrees;
  }

  module _ {first old new : VerdictsValue I} {before between after : SourceState} {returned : List LineVerdictValue}
      {vector : ByteString} (so_far : HasReturned state first old before between returned)
    where
      -- one more call returned a line
      pub returned_line : (found : LineVerdict) → ReturnsNext state vector old new between after (Ok (Some found))
          → HasReturned state first new before after (returned ++ line_verdict_value vector found ∷ [])
      returned_line found next = record {
        outcome = next.outcome;
        rules = next.rules ∙ so_far.rules;
        verdicts = record {
          reads = λ reading.
              let front = so_far.verdicts.reads reading in
              let now = next.verdict.reads front.reading in
              record {
                reading = now.reading;
                before = λ c fits. front.before c (now.before c fits);
                holds = λ c fits w agrees.
                    let one = (now.holds c fits w agrees).0 in
                    front.holds c (now.before c fits) w (agrees_before agrees next.reads)
                    ∙ ap (λ l. returned ++ l) (rw so_far.rules at one)
                    ∙ sym (append_assoc returned (line_verdict_value vector found ∷ []) _);
              };
        };
        worlds = λ w agrees. so_far.worlds w (agrees_before agrees next.reads);
      }

      -- the call that ends a loop over a whole manifest
      pub returned_last : (result : VerdictResult) (input : I) → ReturnsNext state vector old new between after result
          → IsAtStart state first input → (state input).reads.phase ≡ Unfinished
          → (c : Content) → Fits (reads_of state new.reader) c → (w : World) → Agrees w after
          → AreFirstOf (all_verdicts first.rules (world_at w before) (clip c)) (clip c).ending returned vector result
      returned_last result input next start unfinished c fits w agrees =
          let front = so_far.verdicts.reads (start.reading unfinished) in
          let now = next.verdict.reads front.reading in
          let before_all = world_at w before in
          let here = state_at old (remaining_content old.reader c) (world_at w between) in
          let are = front.holds c (now.before c fits) w (agrees_before agrees next.reads) in
          are_first old.rules vector returned (all_verdicts first.rules before_all (clip c)) here _ _ result
          (sym (ap (remaining_verdicts first.rules) (state-initial start c before_all)) ∙ are
          ∙ ap (λ r. returned ++ remaining_verdicts r here) (sym so_far.rules)) (now.holds c fits w agrees)
