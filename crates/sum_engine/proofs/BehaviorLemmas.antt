-- Runs, one after another, and what a run's steps come to.
use Rattle.std.proofs.Common.{rules, ◌≡◌, ℕ, Bool, List, [], ◌∷◌, ◌++◌, Result, Ok, Err, refl, subst, append_assoc}
use Rattle.std.proofs.Common.{append-nil, flat_map, filter_map, inl}
use Rattle.std.{proofs.lemmas.Grind.flat_map-append, proofs.lemmas.List.Elements.filter_map-append, specs.Prelude.◌≢◌}
use Rattle.sum_lines.{proofs.EventLemmas.output_events-bytes, specs.sinks.Output.written_byte}
use Rattle.sum_settings.specs.declared.stop.Stop.{Stop, TheVariants.Memory, TheVariants.Write}
use Rattle.sum_engine.specs.Execution.{opened_name, err_event, out_event, OpensNames, Agrees, world_at, Happened}
use Rattle.sum_engine.specs.Execution.{streams_with_refusals, PerformsSteps, Performs, RefusesMemory}
use Rattle.sum_engine.specs.{Laws.EventsExtend, Streams.StreamsState, Streams.WritesAndReturns, Behavior.World}
use Rattle.sum_engine.specs.{Behavior.Step, Behavior.Behavior, Behavior.trace, Behavior.events_of, Behavior.single_step}
use Rattle.sum_engine.proofs.ExecutionLemmas.{step_performed, filter_map-kind, filter_map-other_kind, Happened-then}
use Rattle.sum_engine.proofs.ExecutionLemmas.{refused_first}

-- ---- a behavior after a step, and one behavior after another

-- two lists of steps happened, one after the other, so both together did
pub behavior_then-happened : {a b c : StreamsState} (r s : List Step) → Happened a b (trace r) → Happened b c (trace s)
    → Happened a c (trace (r ++ s))
behavior_then-happened r s h k = rw (flat_map-append events_of r s) (Happened-then (trace r) (trace s) h k)

-- the first steps happened and those after them stopped, so both together stopped
pub behavior_then-second : {A B : Type 0} {a b : StreamsState} (c : StreamsState) (x : A) (y : B) (r s : List Step)
    (stop : Stop)
    → Happened a b (trace r) → PerformsSteps s y b c (Err stop) → PerformsSteps (r ++ s) x a c (Err stop)
behavior_then-second c x y r s Write h k =
    (trace r ++ k.0, k.1, search (rules, flat_map-append, append_assoc), Happened-then (trace r) k.0 h k.3)
behavior_then-second {b} c x y r s Memory h k =
    let did = behavior_then-happened r k.done h
    (subst (λ n. Happened b (streams_with_refusals n c) (trace k.done)) h.inputs.refusals k.happened) in
    let cause = rw h.inputs.refusals at k.cause in
    search (rules, append_assoc, did, cause)

-- the first steps stopped, so both together stopped
pub behavior_then-first : {A B : Type 0} (a b : StreamsState) (x : A) (y : B) (r s : List Step) (stop : Stop)
    → PerformsSteps r y a b (Err stop) → PerformsSteps (r ++ s) x a b (Err stop)
behavior_then-first a b x y r s Write h = (h.0, h.1 ++ trace s, search (rules, flat_map-append, append_assoc), h.3)
behavior_then-first a b x y r s Memory h = search (rules, append_assoc)

-- a behavior after its first step, which happened
pub behind_step : {A : Type 0} {a b : StreamsState} (c : StreamsState) (x : A) (s : Step) (r : List Step)
    (y : Result A Stop)
    → Happened a b (events_of s) → PerformsSteps r x b c y → PerformsSteps (s ∷ r) x a c y
behind_step c x s r (Ok good) h k = (k.0, Happened-then (events_of s) (trace r) h k.1)
behind_step c x s r (Err stop) h k = behavior_then-second c x x (s ∷ []) r stop (rw (append-nil (events_of s)) h) k

-- ---- a run of one step

-- the one step of a behavior was done, or a prefix of it, so the behavior was performed
pub Performs-step : {A : Type 0} (run : World → Behavior) (outcome : Bool → A) (good : Bool) (a b : StreamsState)
    {names : List (List ℕ)} {err out : List ℕ} {x : Result A Stop} → OpensNames a.inputs b.inputs names
    → ((w : World) → Agrees w b.inputs → run (world_at w a.inputs) ≡ single_step names err out good)
    → WritesAndReturns a.outputs b.outputs err out (outcome good) x → Performs run outcome a b x
Performs-step run outcome good a b {x = x} asked is said = λ w agrees.
    rw (is w agrees) (step_performed 0 x asked said)

-- the source had no memory to open the first step's name
pub Performs-refused : {A : Type 0} (run : World → Behavior) (outcome : Bool → A) (a b : StreamsState)
    → ((w : World) → (s : Step) × (rest : List Step) × ((run w).steps ≡ s ∷ rest) × (s.names ≢ []))
    → RefusesMemory a.inputs b.inputs → b.outputs ≡ a.outputs → Performs run outcome a b (Err Memory)
Performs-refused run outcome a b first refused outputs = λ w agrees.
    let next = first (world_at w a.inputs) in
    refused_first next.0 next.1 next.2 outputs (inl (refused, next.3))

-- ---- what a run's events come to

-- the names that its events open, and the bytes that they write on each output
pub kinds : (steps : List Step) → (filter_map opened_name (trace steps) ≡ flat_map (λ s. s.names) steps)
    × (filter_map written_byte (filter_map err_event (trace steps)) ≡ flat_map (λ s. s.err) steps)
    × (filter_map written_byte (filter_map out_event (trace steps)) ≡ flat_map (λ s. s.out) steps)
kinds [] = (refl, refl, refl)
kinds (s ∷ steps) =
    let (names, err, out) = kinds steps in
    search (rules, filter_map-append, filter_map-kind, filter_map-other_kind, output_events-bytes, names, err, out)

-- if the trace of a run happened, each output grew by the run's text for it, and its names were opened
pub events_extend : EventsExtend
events_extend r a b did =
    let (names, err, out) = kinds r.steps in
    (rw names at did.inputs, rw err at did.err.written, rw out at did.out.written)
