-- What happened from one state to another, one event after another.
use Rattle.std.proofs.Common.{rules, arith, ◌≡◌, ◌<◌, ℕ, List, [], ◌∷◌, ◌++◌, map, Option, None, Some, Result, Ok, Err}
use Rattle.std.proofs.Common.{refl, inl, inr, append_assoc, append-nil, filter_map}
use Rattle.std.{proofs.lemmas.List.map-append, proofs.lemmas.List.Elements.filter_map-append, specs.Prelude.◌⊎◌}
use Rattle.std.{specs.Prelude.◌≢◌}
use Rattle.sum_lines.{proofs.EventLemmas.Gets-none, proofs.EventLemmas.Gets-then, specs.sinks.Output.Gets}
use Rattle.sum_lines.{specs.sinks.Output.OutputEvent, specs.sinks.Output.output_events}
use Rattle.sum_engine.specs.Execution.{RefusesMemory, opened_names, OpensNames, Happened, RunsOutOfMemory}
use Rattle.sum_engine.specs.Execution.{streams_with_refusals, PerformsSteps}
use Rattle.sum_engine.specs.{Behavior.Event, Behavior.Step, Behavior.open_name, Behavior.to_err, Behavior.to_out}
use Rattle.sum_engine.specs.{Streams.WritesBoth, Streams.WritesAndReturns, Streams.StreamsState}
use Rattle.sum_engine.proofs.WorldLemmas.{asks_none, asks_then}
use Rattle.sum_sources.specs.sources.Source.{SourceState}
use Rattle.sum_settings.specs.declared.stop.Stop.{Stop, TheVariants.Memory, TheVariants.Write}

-- ---- what of a step's events is of each kind

-- the events of opening these names and then of both outputs, in this order
abbrev pub events_by : List (List ℕ) → List OutputEvent → List OutputEvent → List Event
events_by names err out = map open_name names ++ (map to_err err ++ map to_out out)

-- among events of the kind that is looked for, all are found
pub filter_map-kind : {A : Type 0} (f : A → Event) (h : Event → Option A) → ((x : A) → h (f x) ≡ Some x) → (xs : List A)
    → filter_map h (map f xs) ≡ xs
filter_map-kind f h same [] = refl
filter_map-kind f h same (x ∷ xs) = search (rules, filter_map-kind f h same xs)

-- among events of another kind, none is found
pub filter_map-other_kind : {A B : Type 0} (f : A → Event) (h : Event → Option B) → ((x : A) → h (f x) ≡ None)
    → (xs : List A)
    → filter_map h (map f xs) ≡ []
filter_map-other_kind f h none [] = refl
filter_map-other_kind f h none (x ∷ xs) = search (rules, filter_map-other_kind f h none xs)

-- ---- what happened

-- these names were opened, and the outputs got these events
pub Happened-by : {a b : StreamsState} (names : List (List ℕ)) (err out : List OutputEvent)
    → OpensNames a.inputs b.inputs names → Gets a.outputs.err b.outputs.err err
    → Gets a.outputs.out b.outputs.out out
    → Happened a b (events_by names err out)
Happened-by names err out h p q = search (rules, filter_map-append, filter_map-kind, filter_map-other_kind)

-- nothing happened between equal streams
pub Happened-none : (a : StreamsState) → Happened a a []
Happened-none a = search (rules, asks_none, Gets-none)

-- events happened, and then others, so all of them did
pub Happened-then : {a b c : StreamsState} (p q : List Event) → Happened a b p → Happened b c q → Happened a c (p ++ q)
Happened-then p q h k =
    let err = Gets-then h.err k.err in
    let out = Gets-then h.out k.out in search (rules, asks_then, filter_map-append, err, out)

-- ---- one step

-- the names were opened and the texts written, or a prefix of them: the step that has these was performed
pub step_performed : {A : Type 0} {a b : StreamsState} {names : List (List ℕ)} {err out : List ℕ} {x : A}
    (remaining : ℕ) (r : Result A Stop) → OpensNames a.inputs b.inputs names
    → WritesAndReturns a.outputs b.outputs err out x r
    → PerformsSteps (record { names = names; err = err; out = out; manifest_left = remaining } ∷ []) x a b r
step_performed {A} {a} {b} {names} {err} {out} {x} remaining r asked said = by r said.writes
  where
    -- by what was written
    by : (r : Result A Stop) → WritesBoth a.outputs b.outputs err out x r
        → PerformsSteps (record { names = names; err = err; out = out; manifest_left = remaining } ∷ []) x a b r
    by (Ok y) h = rw append-nil (h.0, Happened-by names _ _ asked h.1 h.2)
    by (Err Write) (inl (h, same)) =
        let rest : List Event = map to_err h.1 ++ map to_out (output_events out) in
        let did : Happened a b (events_by names h.0 []) = Happened-by names h.0 [] asked h.3 (rw same Gets-none) in
        rw append-nil (events_by names h.0 [], rest, search (rules, map-append, append_assoc), did)
    by (Err Write) (inr (all, h)) =
        let rest : List Event = map to_out h.1 in
        let did : Happened a b (events_by names (output_events err) h.0) = Happened-by names _ h.0 asked all h.3 in
        rw append-nil (events_by names (output_events err) h.0, rest, search (rules, map-append, append_assoc), did)
    by (Err Memory) h = absurd h

-- memory was refused for the name that the first step opens, or bytes of the manifest remained, and nothing happened
pub refused_first : {a b : StreamsState} {steps : List Step} (next : Step) (later : List Step) → steps ≡ next ∷ later
    → b.outputs ≡ a.outputs → (RefusesMemory a.inputs b.inputs × (next.names ≢ []))
    ⊎ ((b.inputs ≡ a.inputs) × (0 < next.manifest_left)) → RunsOutOfMemory steps a b
refused_first {a} {b} next later are outputs refused =
    let same : streams_with_refusals a.inputs.refusals b ≡ a = grind arith in
    record {
      done = [];
      next = next;
      later = later;
      are = are;
      happened = rw same (Happened-none a);
      cause = grind arith;
    }

-- ---- a file was closed

-- what was performed still is after a closing, which opens nothing and is refused no memory
pub kept_performs : {A : Type 0} (steps : List Step) (x : A) (a b : StreamsState) (n : SourceState) (r : Result A Stop)
    → opened_names n ≡ opened_names b.inputs → n.refusals ≡ b.inputs.refusals → PerformsSteps steps x a b r
    → PerformsSteps steps x a (record b { inputs = n }) r
kept_performs steps x a b n r asked refusals did = grind arith
