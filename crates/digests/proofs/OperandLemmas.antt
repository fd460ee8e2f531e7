-- Operands, one after another: after those before, the rest completes the whole.
use Rattle.std.proofs.Common.{◌≡◌, ℕ, Bool, true, List, [], ◌∷◌, ◌++◌, Option, None, Some, Result, Ok, Err, ◌&&◌, Bor}
use Rattle.std.{proofs.Math.Bool.and_assoc, proofs.lemmas.Bool.and_parts, specs.Iterator.YieldsFirstRef}
use Rattle.sum_engine.specs.{Behavior.World, Behavior.world_after, Behavior.Step, Behavior.Behavior, Behavior.trace}
use Rattle.sum_engine.specs.{Behavior.names_in, Streams.StreamsState}
use Rattle.sum_engine.specs.Execution.{ReadsToEndIf, Agrees, world_at, Happened, Performs, PerformsSteps}
use Rattle.sum_engine.proofs.{WorldLemmas.reads_then, WorldLemmas.agrees_before, WorldLemmas.world_at_after}
use Rattle.sum_engine.proofs.{BehaviorLemmas.behavior_then-happened, BehaviorLemmas.behavior_then-first}
use Rattle.sum_engine.proofs.{BehaviorLemmas.behavior_then-second, BehaviorLemmas.events_extend}
use Rattle.digest_kinds.specs.Bytes.{ByteString}
use Rattle.sum_settings.specs.declared.stop.Stop.{Stop}
use Rattle.digests.specs.ToolRun.{operands_behavior, status_of}

-- the operands that are left: none, or the next one and those after it
abbrev pub left : Option (Bor ByteString) → List ByteString → List ByteString
left None rest = []
left (Some name) rest = name.now ∷ rest

-- one operand was taken
pub left-next : (old new : List ByteString) (next : Option (Bor ByteString))
    → YieldsFirstRef (λ (names : List ByteString). names) old next new → old ≡ left next new
left-next old new None h = h.0
left-next old new (Some name) h = h

-- steps happened, and then others were performed
PerformsSteps-append : {A : Type 0} {a b : StreamsState} (c : StreamsState) (x : A) (r s : List Step)
    (y : Result A Stop)
    → Happened a b (trace r) → PerformsSteps s x b c y → PerformsSteps (r ++ s) x a c y
PerformsSteps-append c x r s (Ok z) h k = (k.0, behavior_then-happened r s h k.1)
PerformsSteps-append c x r s (Err stop) h k = behavior_then-second c x x r s stop h k

-- these operands were performed in a world, after others that were good or not
abbrev PerformsFrom : (World → ByteString → Behavior) → World → List ByteString → Bool → StreamsState → StreamsState
    → Result ℕ Stop → Type 0
PerformsFrom one w names good a b r =
    let all = operands_behavior one w names in PerformsSteps all.steps (status_of (good && all.good)) a b r

-- the operands before the rest were done, from x to y: the rest completes the whole
pub record HasReached (one : World → ByteString → Behavior) (names rest : List ByteString) (x y : StreamsState)
    (good : Bool) : Type 0 where
  pub reads : ReadsToEndIf (good ≡ true) x.inputs y.inputs
  pub completes : (w : World) → Agrees w y.inputs → (z : StreamsState) (r : Result ℕ Stop)
      → PerformsFrom one (world_at w y.inputs) rest good y z r
      → PerformsFrom one (world_at w x.inputs) names true x z r

module _ {one : World → ByteString → Behavior} {names : List ByteString} where
  -- one more operand happened
  pub operands_done_step : {Whole : Type 0} {good : Bool} {name : ByteString} {rest : List ByteString}
      {x y : StreamsState} (this : Bool) (z : StreamsState) → HasReached one names (name ∷ rest) x y good
      → (this ≡ true → Whole) → ReadsToEndIf Whole y.inputs z.inputs
      → Performs (λ w. one w name) (λ g. g) y z (Ok this) → HasReached one names rest x z (good && this)
  operands_done_step {good = good} {name = name} {y = y} this z h whole reads k = record {
    reads = reads_then (λ all. let parts = and_parts good this all in (parts.0, whole parts.1)) h.reads reads;
    completes = λ w agrees end r did.
        let q = k w agrees in
        let run = one (world_at w y.inputs) name in
        let world = world_at_after w y.inputs z.inputs (names_in run) (events_extend run y z q.1).0 in
        h.completes w (agrees_before agrees reads) end r
        (PerformsSteps-append end _ run.steps _ r q.1 (rw (world, q.0, and_assoc) at did));
  }

  -- the next operand stopped the run
  pub operands_done_stop : {Whole : Type 0} {good : Bool} {name : ByteString} {rest : List ByteString}
      {x y : StreamsState} (stop : Stop) (z : StreamsState) → HasReached one names (name ∷ rest) x y good
      → ReadsToEndIf Whole y.inputs z.inputs
      → Performs (λ w. one w name) (λ g. g) y z (Err stop)
      → Performs (λ w. operands_behavior one w names) status_of x z (Err stop)
  operands_done_stop {good = good} {name = name} {rest = rest} {y = y} stop z h reads k = λ w agrees.
      let v = world_at w y.inputs in
      let run = one v name in
      let later = operands_behavior one (world_after v (names_in run)) rest in
      h.completes w (agrees_before agrees reads) z (Err stop)
      (behavior_then-first y z (status_of (good && (run.good && later.good))) run.good run.steps later.steps stop
      (k w agrees))
