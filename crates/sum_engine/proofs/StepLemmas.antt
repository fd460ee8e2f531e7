-- One step of a checker, `Checker::step`: the next verdict was found, and its text was written.
use Rattle.std.proofs.Common.{rules, ◌≡◌, ◌⊎◌, ◌<◌, ℕ, Bool, true, false, List, [], length, None, Some, Result, Ok, Err}
use Rattle.std.proofs.Common.{inl, inr, refl, ap, ◌∙◌, arith}
use Rattle.sum_sources.specs.{LineReader.remaining_content, declared.fault.Ending.Ending}
use Rattle.sum_sources.specs.{declared.fault.Ending.TheVariants.Whole, declared.fault.Ending.TheVariants.Broken}
use Rattle.sum_sources.specs.{inputs.Input.Content, inputs.Input.InputState, sources.Source.SourceState}
use Rattle.sum_engine.proofs.{CountLemmas.counts_then-nil, ExecutionLemmas.step_performed}
use Rattle.sum_engine.proofs.{ExecutionLemmas.refused_first, RemainingLemmas.line_step, RemainingLemmas.behavior_by}
use Rattle.sum_engine.proofs.{RemainingLemmas.first_step}
use Rattle.sum_engine.{proofs.RemainingLemmas.going-before, proofs.WorldLemmas.reads_weaker, specs.Behavior.World}
use Rattle.sum_engine.{specs.Execution.RefusesMemory}
use Rattle.sum_engine.specs.{Execution.OpensNames, Streams.FailuresMatch, Streams.BothOutputs, Streams.StreamsState}
use Rattle.sum_engine.specs.{Streams.WritesAndReturns, check.Checker.remaining_behavior, check.Checker.CheckerValue}
use Rattle.sum_engine.specs.{check.Checker.Progress}
use Rattle.sum_engine.specs.check.{Checker.Going, Checker.Ended, Checker.IsStep, Checker.ReportsFound}
use Rattle.sum_engine.specs.check.{Checker.TakesStep, Counts.is_manifest_good, Judge.LineVerdict}
use Rattle.sum_engine.specs.check.{Judge.line_verdict_value, Report.err_of, Report.out_of, Rules.LabelsValue}
use Rattle.sum_engine.specs.check.{Summary.end_text}
use Rattle.sum_engine.specs.check.Verdicts.{CheckState, remaining_verdicts, VerdictsValue, state_at, HoldsInEachCheck}
use Rattle.sum_engine.specs.check.Verdicts.{AdvancesVerdicts, OpensFor, VerdictResult, IsNextVerdict, IsNotUnread}
use Rattle.sum_engine.specs.check.Verdicts.{HasNoVerdictLeft}
use Rattle.sum_settings.specs.declared.stop.Stop.{Stop, TheVariants.Memory}
use Rattle.sum_sources.specs.declared.line_reader.LineStop.TheVariants as line_stops

-- what follows from what holds of the states of a check holds of them, too
pub InEachCheck-map : {I : Type 0} {state : I → InputState} {p q : VerdictsValue I} {a b : SourceState}
    {P R : CheckState → CheckState → Type 0} → HoldsInEachCheck state p q a b P
    → ((c : Content) (v w : World)
    → P (state_at p (remaining_content p.reader c) v) (state_at q (remaining_content q.reader c) w)
    → R (state_at p (remaining_content p.reader c) v) (state_at q (remaining_content q.reader c) w))
    → HoldsInEachCheck state p q a b R
InEachCheck-map h f = record {
  reads = λ reading. let r = h.reads reading in record {
    reading = r.reading;
    before = r.before;
    holds = λ c of w agrees. f c _ _ (r.holds c of w agrees);
  };
}

-- ---- a step, by the verdict that was found

-- from p and the streams a to q and the streams b
module _ {I : Type 0} {state : I → InputState} {p q : VerdictsValue I} (a b : StreamsState) (labels : LabelsValue)
    (vector : List ℕ)
  where
    -- the end was found, and its text was written, or a prefix of it
    step_end : (e : Ending) (outcome : Bool) {y : Result Progress Stop}
        → HoldsInEachCheck state p q a.inputs b.inputs (HasNoVerdictLeft p.rules e)
        → OpensNames a.inputs b.inputs [] → q.rules ≡ p.rules → outcome ≡ is_manifest_good q.rules e q.counts
        → WritesAndReturns a.outputs b.outputs (end_text q.rules labels e q.counts) [] (Ended outcome) y
        → HoldsInEachCheck state p q a.inputs b.inputs (λ c d. IsStep p.rules labels vector c d a b y)
    step_end e outcome {y} found asked same sum wrote =
        InEachCheck-map found (λ c v w f.
        let r = p.rules in
        let said : WritesAndReturns a.outputs b.outputs (end_text r labels e p.counts) [] (Ended outcome) _ =
        rw (same, f.counts) at wrote in
        let k = remaining_content p.reader c in
        let did = step_performed (length k.bytes) y asked said in
        record {
          step = record { names = []; err = end_text r labels e p.counts; out = []; manifest_left = length k.bytes };
          later = record { steps = []; good = outcome };
          is = ap (behavior_by r labels k.ending p.counts k) f.verdicts
              ∙ rw (counts_then-nil p.counts, f.ending, sum, same, f.counts) refl;
          performs = did;
          going = λ h. let no = (rw h at did).0 in cc;
          failed = λ h. inl refl;
          refused = λ h. absurd (rw h at said).writes;
        })

    -- the next verdict was found, and then it was reported
    step_found : (x : VerdictResult) {y : Result Progress Stop}
        → HoldsInEachCheck state p q a.inputs b.inputs
        (λ c d. IsNextVerdict p.rules vector (RefusesMemory a.inputs b.inputs) c d x)
        → AdvancesVerdicts state vector p q a.inputs b.inputs x
        → ReportsFound q labels vector x a.outputs b.outputs y
        → HoldsInEachCheck state p q a.inputs b.inputs (λ c d. IsStep p.rules labels vector c d a b y)
    -- a line had a verdict; its report is written, and the lines after it remain
    step_found (Ok (Some v)) {y} found did reported =
        let j = line_verdict_value vector v in
        let said : WritesAndReturns a.outputs b.outputs (err_of p.rules labels j) (out_of labels j) Going _ =
        rw did.rules at reported in
        InEachCheck-map found (λ c v w f.
        let k = remaining_content p.reader c in
        let next = state_at q (remaining_content q.reader c) w in
        record {
          step = line_step p.rules labels (length k.bytes) j;
          later = remaining_behavior p.rules labels next;
          is = search (rules, f);
          performs = rw (going-before p.rules labels next) (step_performed _ y did.opened said);
          going = λ is. (refl, f.1);
          failed = λ is. inr (refl, f.1);
          refused = λ is. absurd (rw is at said).writes;
        })
    -- no line was left; the end is written, and nothing remains
    step_found (Ok None) found did reported = step_end Whole _ found did.opened did.rules refl reported
    step_found (Err (line_stops.Fault f)) found did reported =
        step_end (Broken f) false found did.opened did.rules refl reported
    -- memory ran out before the verdict; nothing is written, and all remains
    step_found (Err line_stops.Memory) found did reported =
        rw reported.0 (InEachCheck-map found (λ c v w f.
        let k = remaining_content p.reader c in
        let first = first_step p.rules labels k.ending p.counts k (remaining_verdicts p.rules (state_at p k v)) in
        record {
          step = first.0;
          later = first.1;
          is = first.2;
          performs = refused_first first.0 [] refl reported.1 (elim did.opened [
            | inl refused ↦ inl (refused, rw first.5 (f.2 refused))
            | inr same ↦ inr (same.0, rw first.3 f.0)
          ]);
          going = λ h. cc;
          failed = λ h. cc;
          refused = λ h. omega (arith, f.1, first.4);
        }))

-- ---- whatever the content and the world are

-- what follows from what was found and written
module _ {I : Type 0} (q : VerdictsValue I) (labels : LabelsValue) (vector : List ℕ) where
  -- a step returns that all is good only at the end, and only if each listed file could be read
  good_found : (found : VerdictResult) (a b : BothOutputs) → ReportsFound q labels vector found a b (Ok (Ended true))
      → (found ≡ Ok None) × (q.counts.unread ≡ 0)
  good_found found a b h = grind arith

  -- a step goes on only after a line
  pub going_found : (found : VerdictResult) (a b : BothOutputs) → ReportsFound q labels vector found a b (Ok Going)
      → (v : LineVerdict) × (found ≡ Ok (Some v))
  going_found (Ok (Some v)) a b h = (v, refl)
  going_found found a b h = grind arith

  -- if memory runs out, neither output has changed; and memory was refused, or bytes were read ahead
  memory_found : (found : VerdictResult) (a b : StreamsState)
      → OpensFor vector q.reader.ahead a.inputs b.inputs found
      → ReportsFound q labels vector found a.outputs b.outputs (Err Memory)
      → (b.outputs ≡ a.outputs) × (RefusesMemory a.inputs b.inputs
      ⊎ ((b.inputs ≡ a.inputs) × (0 < length q.reader.ahead)))
  memory_found found a b asked h = grind arith

  -- a write fault comes with one more failure, of one output
  failures_found : (found : VerdictResult) (a b : BothOutputs) (x : Result Progress Stop)
      → ReportsFound q labels vector found a b x → FailuresMatch a b x
  failures_found found a b x h = grind arith

-- ---- what a step promises

module _ {I : Type 0} {state : I → InputState} {p q : CheckerValue I} {a b : StreamsState} {vector : List ℕ}
    (found : VerdictResult) {x : Result Progress Stop} (labels : q.labels ≡ p.labels)
    (verdict : HoldsInEachCheck state p.verdicts q.verdicts a.inputs b.inputs
    (λ c d. IsNextVerdict p.verdicts.rules vector (RefusesMemory a.inputs b.inputs) c d found))
    (did : AdvancesVerdicts state vector p.verdicts q.verdicts a.inputs b.inputs found)
    (wrote : ReportsFound q.verdicts p.labels vector found a.outputs b.outputs x)
  where
    -- the call took a step of the check
    pub step_taken : TakesStep state vector p q a b x
    step_taken =
        let not_unread : q.verdicts.counts.unread ≡ p.verdicts.counts.unread → IsNotUnread found =
        search (rules, arith) in
        record {
          labels = labels;
          step = step_found a b p.labels vector found verdict did wrote;
          found = found;
          advances = did;
          reports = wrote;
          failures = failures_found q.verdicts p.labels vector found a.outputs b.outputs x wrote;
          memory = λ no. memory_found q.verdicts p.labels vector found a b did.opened (rw no at wrote);
          lines = λ going.
              let (v, is) = going_found q.verdicts p.labels vector found a.outputs b.outputs (rw going at wrote) in
              rw (rw is at did.found) at did.reader.lines;
          reads = reads_weaker not_unread did.reads;
          good = λ good. good_found q.verdicts p.labels vector found a.outputs b.outputs (rw good at wrote);
        }
