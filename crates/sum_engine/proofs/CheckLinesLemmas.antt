-- `run_to_end`: a new checker runs to its end. The last step ends or stops the run (`runs_last`), each step before it
-- comes before what the later steps do (`runs_more`), and from the first line on they do what the contract says.
use Rattle.digest_kinds.specs.Bytes.{LIMIT}
use Rattle.sum_sources.specs.declared.inputs.input.TheConstants.{PIECE}
use Rattle.std.proofs.Common.{rules, ◌-◌, ◌+◌, ◌≤◌, ◌≡◌, ℕ, length, drop, append-nil, length-append, length-drop}
use Rattle.std.proofs.Common.{length-take, Bool, List, [], ◌∷◌, Result, Ok, Err, None, Some, true, refl, ap, sym, ◌∙◌}
use Rattle.std.proofs.Common.{subst, arith}
use Rattle.sum_sources.{proofs.ContentLemmas.limit-value, proofs.ReadOnLemmas.ReadsOn-then}
use Rattle.sum_sources.{specs.LineReader.remaining_content, specs.declared.line_reader.Next.TheVariants.NoMore}
use Rattle.sum_sources.{specs.declared.inputs.input.Phase.Phase, specs.declared.inputs.input.Phase.TheVariants.Past}
use Rattle.sum_sources.specs.inputs.Input.{IsReadTo, IsSameInput, Fits, reads_past, Reads, Content, InputState, clip}
use Rattle.sum_engine.specs.check.Checker.{remaining_behavior, Going, Ended, IsStep, TakesStep, behavior_from}
use Rattle.sum_engine.specs.check.Checker.{progress_before, CheckerValue, end_result}
use Rattle.sum_engine.specs.check.{Verdicts.CheckState, Verdicts.initial_state, Verdicts.IsAtStart}
use Rattle.sum_engine.specs.check.{Verdicts.VerdictsValue, Verdicts.state_at, Verdicts.HoldsInEachCheck}
use Rattle.sum_engine.specs.check.{Summary.end_text, Rules.LabelsValue, Rules.CheckRules}
use Rattle.sum_engine.specs.{Streams.StreamsState, Streams.FailuresMatch, Execution.Happened, Execution.ReadsToEndIf}
use Rattle.sum_engine.specs.{Execution.world_at, Execution.PerformsSteps, private.CheckOne.RunsManifest}
use Rattle.sum_engine.specs.{private.CheckOne.RunsTo}
use Rattle.sum_engine.proofs.{BehaviorLemmas.behavior_then-first, BehaviorLemmas.behavior_then-second}
use Rattle.sum_engine.proofs.{CountLemmas.counts_then-none, ExecutionLemmas.Happened-none}
use Rattle.sum_engine.proofs.{ExecutionLemmas.Happened-then, RemainingLemmas.remaining_before-left}
use Rattle.sum_engine.proofs.{StepLemmas.InEachCheck-map, WorldLemmas.agrees_before, WorldLemmas.reads_then}
use Rattle.sum_engine.proofs.{WorldLemmas.reads_weaker}
use Rattle.sum_engine.specs.{check.Counts.Counts, check.Counts.counts_of, check.Counts.is_manifest_good}
use Rattle.sum_engine.specs.{check.CheckOne.content_behavior, check.CheckOne.line_steps}
use Rattle.sum_engine.specs.{check.CheckOne.remaining_before, check.Judge.all_verdicts, Behavior.World}
use Rattle.sum_engine.specs.{Behavior.Step, Behavior.Behavior, Behavior.events_of, Behavior.trace}
use Rattle.sum_settings.specs.declared.stop.Stop.{Stop, TheVariants.Memory, TheVariants.Write}

-- ---- before the first step

-- all of a new checker's behavior remains
pub remaining-initial : (r : CheckRules) (labels : LabelsValue) (c : Content) (w : World)
    → remaining_behavior r labels (initial_state c w) ≡ content_behavior r labels c (all_verdicts r w c)
remaining-initial r labels c w =
    let js = all_verdicts r w c in
    let by : Counts → Behavior =
    λ counts. let steps = line_steps r labels (end_text r labels c.ending counts) c js in
    record { steps = steps; good = is_manifest_good r c.ending counts } in
    ap by (counts_then-none (counts_of js))

-- at the first line the state is the initial one
pub state-initial : {I : Type 0} {state : I → InputState} {p : VerdictsValue I} {input : I} → IsAtStart state p input
    → (c : Content) (w : World) → state_at p (remaining_content p.reader c) w ≡ initial_state (clip c) w
state-initial start c w = rw (start.reader, start.form, start.counts) refl

-- ---- what a run does of a behavior

-- a step happened, and then the rest of the run
pub runs_behind : {a middle : StreamsState} (b : StreamsState) (s : Step) (later : Behavior) (c : Content) (k : ℕ)
    (x : Result Bool Stop) → Happened a middle (events_of s) → RunsTo later c k middle b x
    → RunsTo (behavior_from s later) c k a b x
runs_behind b s later c k (Ok good) h ran = (ran.0, Happened-then (events_of s) (trace later.steps) h ran.1)
runs_behind b s later c k (Err stop) h ran = record {
  done = s ∷ ran.done;
  next = ran.next;
  later = ran.later;
  are = ap (λ steps. s ∷ steps) ran.are;
  between = ran.between;
  happened = Happened-then (events_of s) (trace ran.done) h ran.happened;
  stopped = ran.stopped;
  read = ran.read;
}

-- a run that stopped at one of the steps performed the steps before it, and a prefix of that one
pub runs_performs : (all : Behavior) (c : Content) (k : ℕ) (a b : StreamsState) (x : Result Bool Stop)
    → RunsTo all c k a b x → PerformsSteps all.steps all.good a b x
runs_performs all c k a b (Ok good) ran = ran
runs_performs all c k a b (Err stop) ran =
    subst (λ steps. PerformsSteps steps all.good a b (Err stop)) (sym ran.are)
    (behavior_then-second b all.good (tt {0}) ran.done (ran.next ∷ ran.later) stop ran.happened
    (behavior_then-first ran.between b (tt {0}) (tt {0}) (ran.next ∷ []) ran.later stop ran.stopped))

-- a step that returned whether all is good was the last
pub last_step : {r : CheckRules} {labels : LabelsValue} {vector : List ℕ} {a d : CheckState}
    {before after : StreamsState} {good : Bool} (step : IsStep r labels vector a d before after (Ok (Ended good)))
    → (step.later.steps ≡ []) × (good ≡ step.later.good)
last_step {good = good} step = none_left step.later.steps step.later.good step.performs.0
  where
    none_left : (steps : List Step) (all : Bool) → Ended good ≡ progress_before steps all → (steps ≡ []) × (good ≡ all)
    none_left steps all h = grind arith

-- the last step performed all that remained, or stopped
pub last_performs : {r : CheckRules} {labels : LabelsValue} {vector : List ℕ} {a d : CheckState}
    {before after : StreamsState} (x : Result Bool Stop) → IsStep r labels vector a d before after (end_result x)
    → PerformsSteps (remaining_behavior r labels a).steps (remaining_behavior r labels a).good before after x
last_performs {before = before} {after = after} (Ok is_manifest_good) step =
    let last = last_step step in
    subst (λ (q : Behavior). PerformsSteps q.steps q.good before after (Ok is_manifest_good)) (sym step.is)
    (last.1, rw last.0 step.performs.1)
last_performs {before = before} {after = after} (Err stop) step =
    let later = step.later in
    subst (λ (q : Behavior). PerformsSteps q.steps q.good before after (Err stop)) (sym step.is)
    (behavior_then-first before after later.good (progress_before later.steps later.good) (step.step ∷ []) later.steps
    stop step.performs)

-- reads that didn't go past an end gave, up to the limit, not many more bytes than the content has below the limit
read_fits_clip : (phase : Phase) (bytes : List ℕ) (c : Content) → ¬ (phase ≡ Past) → IsReadTo phase bytes c
    → length bytes ≤ LIMIT → length bytes ≤ length (clip c).bytes + PIECE
read_fits_clip phase bytes c past of few = grind (arith, limit-value, length-take, length-append)

-- the last step was a run of its own, of a content whose bytes are those consumed and those that remained
last_runs : {r : CheckRules} {labels : LabelsValue} {vector : List ℕ} {before : StreamsState} (after : StreamsState)
    (c : Content) (a d : CheckState) (x : Result Bool Stop) → IsStep r labels vector a d before after (end_result x)
    → a.consumed + length a.remaining.bytes ≡ length c.bytes → d.taken ≤ length c.bytes + PIECE
    → RunsTo (remaining_behavior r labels a) c d.taken before after x
last_runs after c a d (Ok good) step sum fits = last_performs (Ok good) step
last_runs {r} {labels} {vector} {before} after c a d (Err stop) step sum fits = record {
  done = [];
  next = step.step;
  later = step.later.steps;
  are = ap (λ (q : Behavior). q.steps) step.is;
  between = before;
  happened = Happened-none before;
  stopped = behavior_then-first before after (tt {0}) (progress_before step.later.steps step.later.good)
      (step.step ∷ []) [] stop step.performs;
  read = by stop step;
}
  where
    -- by the reason of the stop
    by : (stop : Stop) (s : IsStep r labels vector a d before after (Err stop))
        → d.taken + remaining_before s.later.steps ≤ length c.bytes + PIECE
    by Memory s = omega (arith, s.refused refl, sum)
    by Write s = grind (arith, s.failed refl, remaining_before-left r labels d)

-- ---- from a checker on

-- from the checker q and the streams `before`, the check ran to its end, with the result x
pub record Runs {I : Type 0} (state : I → InputState) (q last : CheckerValue I) (before after : StreamsState)
    (x : Result Bool Stop) : Type 0 where
  pub runs : HoldsInEachCheck state q.verdicts last.verdicts before.inputs after.inputs (λ a d. (c : Content)
      → a.consumed + length a.remaining.bytes ≡ length c.bytes → d.taken ≤ length c.bytes + PIECE
      → RunsTo (remaining_behavior q.verdicts.rules q.labels a) c d.taken before after x)
  pub good : x ≡ Ok true → (last.verdicts.reader.final_answer ≡ Some (Ok NoMore)) × (q.verdicts.counts.unread ≡ 0)
  pub few : last.verdicts.reader.taken ≤ LIMIT
  pub same : IsSameInput (state q.verdicts.reader.input) (state last.verdicts.reader.input)
  pub taken : last.verdicts.reader.taken + length (state q.verdicts.reader.input).reads.bytes
      ≡ q.verdicts.reader.taken + length (state last.verdicts.reader.input).reads.bytes
  pub failures : FailuresMatch before.outputs after.outputs x
  pub reads : ReadsToEndIf (x ≡ Ok true) before.inputs after.inputs

module _ {I : Type 0} {state : I → InputState} {q next : CheckerValue I} {before after : StreamsState} {vector : List ℕ}
    (x : Result Bool Stop)
  where
    -- a step that ends or stops
    pub runs_last : TakesStep state vector q next before after (end_result x) → Runs state q next before after x
    runs_last step =
        let good_at = λ (good : x ≡ Ok true). step.good (ap end_result good) in
        let unread : x ≡ Ok true → (next.verdicts.counts.unread ≡ 0) × (q.verdicts.counts.unread ≡ 0) =
        λ good. let is = good_at good in (is.1, search (rules, arith, is.1, step.advances.counts)) in
        record {
          runs = InEachCheck-map step.step (λ c v w step content. last_runs after content _ _ x step);
          good = λ good. (
            rw (rw (good_at good).0 at step.advances.found) at step.advances.reader.final_answer,
            (unread good).1,
          );
          few = step.advances.bounds.taken;
          same = step.advances.reader.same;
          taken = step.advances.reader.taken;
          failures = let failures = step.failures in grind arith;
          reads = reads_weaker (λ good. let is = unread good in omega (arith, is.0, is.1)) step.reads;
        }

    -- a step that goes on, and then the rest of the run
    pub runs_more : {last : CheckerValue I} {end : StreamsState} → TakesStep state vector q next before after (Ok Going)
        → Runs state next last after end x → Runs state q last before end x
    runs_more {last = last} {end = end} step h = record {
      runs = record {
        reads = λ reading.
            let first = step.step.reads reading in
            ReadsOn-then first (h.runs.reads first.reading) (λ c d e takes runs w agrees content sum fits.
            let taken = takes w (agrees_before agrees h.reads) in
            let (later, moves) = taken.going refl in
            let all = taken.is ∙ ap (behavior_from taken.step) later in
            let rest = (rw (step.advances.rules, step.labels) at (runs w agrees)) content (moves.consumed ∙ sum) fits in
            let k = last.verdicts.reader.taken in
            let left = remaining_behavior q.verdicts.rules q.labels
            (state_at next.verdicts d (world_at w after.inputs)) in
            subst (λ all. RunsTo all content k before end x) (sym all)
            (runs_behind end taken.step left content k x (rw append-nil at taken.performs.1) rest));
      };
      good = λ good. let is = h.good good in (is.0, search (rules, arith, is.1, step.advances.counts));
      few = h.few;
      same = search rules;
      taken = omega (arith, step.advances.reader.taken, h.taken);
      failures = let first = step.failures in let later = h.failures in grind arith;
      reads = reads_then (λ good. let is = h.good good in
          (search (rules, arith, is.1, step.advances.counts), good)) step.reads h.reads;
    }

-- ---- from the first line on

-- the checker came from `first` and the streams `start` to q and the streams `before`, and may go on: what is true of a
-- run from there is true of one from the start
pub record GoesOn {I : Type 0} (state : I → InputState) (first : CheckerValue I) (start : StreamsState)
    (q : CheckerValue I) (before : StreamsState) : Type 0 where
  pub going : q.outcome ≡ None
  pub runs : (last : CheckerValue I) (after : StreamsState) (x : Result Bool Stop) → Runs state q last before after x
      → Runs state first last start after x

module _ {I : Type 0} {state : I → InputState} {first last : CheckerValue I} {before after : StreamsState}
    {x : Result Bool Stop} (start : IsAtStart state first.verdicts first.verdicts.reader.input)
    (h : Runs state first last before after x)
  where
    -- what was read of the input before the first step
    abbrev was : Reads
    was = (state first.verdicts.reader.input).reads

    -- what was read of it after the last step
    abbrev now : Reads
    now = (state last.verdicts.reader.input).reads

    -- how many bytes it gave to the checker: what was read since the start
    abbrev taken : ℕ
    taken = last.verdicts.reader.taken

    counted : taken + length was.bytes ≡ length now.bytes
    counted = let none : first.verdicts.reader.taken ≡ 0 = rw start.reader refl in omega (arith, none, h.taken)

    size : length (drop (length was.bytes) now.bytes) ≡ taken
    size = length-drop (length was.bytes) now.bytes ∙ omega (arith, counted)

    -- A run from the first line on ends with the manifest's behavior, or stops at one of its steps. The input was never
    -- read past its end or a fault; and to its end, if the manifest is good
    pub runs_manifest : RunsManifest first.verdicts.rules first.labels (state first.verdicts.reader.input)
        (state last.verdicts.reader.input) before after x
    runs_manifest = record {
      runs = λ going c of w agrees.
          let reads = h.runs.reads (start.reading going) in
          let all_read : length was.bytes ≡ length now.bytes - taken = omega (arith, counted) in
          let fits = read_fits_clip now.phase _ c reads.reading.past of (rw size h.few) in
          let here = world_at w before.inputs in
          rw size (subst (λ all. RunsTo all (clip c) taken before after x)
          (remaining-initial first.verdicts.rules first.labels (clip c) here)
          (subst (λ a. a.consumed + length a.remaining.bytes ≡ length (clip c).bytes
          → RunsTo (remaining_behavior first.verdicts.rules first.labels a) (clip c) taken before after x)
          (state-initial start c here)
          (λ sum. reads.holds c (subst (λ n. Fits (reads_past n now) c) all_read of) w agrees (clip c) sum
          (rw size at fits)) (omega arith)));
      manifest = λ going.
          let reading = (h.runs.reads (start.reading going)).reading in
          (reading.past, λ good. reading.end (h.good good).0);
      same = h.same;
      failures = h.failures;
      reads = h.reads;
    }
