-- How memory runs out, and for what it can't.
use Rattle.std.proofs.Common.{arith, ◌≡◌, ◌+◌, ◌⊎◌, Bool, List, [], ◌∷◌, ◌++◌, Result, Ok, Err, inl, inr, ap}
use Rattle.std.proofs.Common.{append-nil, drop, true}
use Rattle.digest_kinds.specs.Bytes.{ByteString}
use Rattle.sum_engine.{proofs.BehaviorLemmas.events_extend, specs.Streams.StreamsState, specs.Streams.failures_of}
use Rattle.sum_engine.specs.{Behavior.names_in, Behavior.answer_to, Behavior.Step, Behavior.World}
use Rattle.sum_engine.specs.{Behavior.digest_or_fault, Behavior.single_step, Behavior.trace, Behavior.world_after}
use Rattle.sum_engine.specs.{Execution.Happened, Execution.RunsOutOfMemory, Execution.streams_with_refusals}
use Rattle.sum_engine.specs.{Generate.generate_behavior, Generate.generate_behavior_by}
use Rattle.sum_settings.specs.declared.{settings.Settings.Settings}
use Rattle.sum_sources.specs.declared.fault.Fault.{Fault}
use Rattle.digests.specs.ToolRun.{operands_behavior}
use Rattle.theorems.specs.StopsBeforeStep.{StopsBeforeStep}

-- exactly the steps before the next one happened, by their names, texts and pieces
pub stops_before : (steps : List Step) (a b : StreamsState) → RunsOutOfMemory steps a b → StopsBeforeStep steps a b
stops_before steps a b ran =
    let (asked, err, out) = events_extend (record { steps = ran.done; good = true }) a _ ran.happened in
    let did = ran.happened in
    (ran.done, ran.next, ran.later, ran.are, asked.opened, (out, err, did.out.offered, did.err.offered), ran.cause)

-- ---- steps before which no bytes of a manifest remain

-- the only step of a list
only_step : (s next : Step) (done later : List Step) → s ∷ [] ≡ done ++ next ∷ later → next ≡ s
only_step s next [] later is = grind arith
only_step s next (x ∷ []) later is = grind arith
only_step s next (x ∷ y ∷ done) later is = grind arith

-- there is always memory for one step that opens nothing
pub always_memory : {a b : StreamsState} (err out : ByteString) (good : Bool)
    → RunsOutOfMemory (single_step [] err out good).steps a b → ⊥
always_memory err out good ran =
    let is = only_step _ ran.next ran.done ran.later ran.are in grind (arith, ran.cause)

-- a step of hashing a name and then of others: no bytes of a manifest remain before it, or it is one of the others
first_or_later : (settings : Settings) (tool name : ByteString) (x : Result ByteString Fault) (rest : List Step)
    (next : Step) (done later : List Step)
    → (generate_behavior_by settings tool name x).steps ++ rest ≡ done ++ next ∷ later
    → (next.manifest_left ≡ 0) ⊎ ((done : List Step) × (rest ≡ done ++ next ∷ later))
first_or_later settings tool name (Ok d) rest next [] later is = inl (grind arith)
first_or_later settings tool name (Err f) rest next [] later is = inl (grind arith)
first_or_later settings tool name (Ok d) rest next (x ∷ done) later is = inr (done, ap (drop 1) is)
first_or_later settings tool name (Err f) rest next (x ∷ done) later is = inr (done, ap (drop 1) is)

-- no bytes of a manifest remain before a step of hashing
none_remain : (settings : Settings) (tool : ByteString) (w : World) (names : List ByteString) (next : Step)
    (done later : List Step)
    → (operands_behavior (generate_behavior settings tool) w names).steps ≡ done ++ next ∷ later → next.manifest_left
    ≡ 0
none_remain settings tool w [] next [] later is = cc
none_remain settings tool w [] next (x ∷ done) later is = cc
none_remain settings tool w (name ∷ names) next done later is =
    let world = world_after w (names_in (generate_behavior settings tool w name)) in
    elim (first_or_later settings tool name (digest_or_fault settings.kind (answer_to w name)) _ next done later is) [
      | inl none ↦ none
      | inr (others, are) ↦ none_remain settings tool world names next others later are
    ]

-- hashing ran out of memory: the source was refused it once
pub refused_once : {a b : StreamsState} (settings : Settings) (tool : ByteString) (w : World) (names : List ByteString)
    → RunsOutOfMemory (operands_behavior (generate_behavior settings tool) w names).steps a b
    → b.inputs.refusals ≡ a.inputs.refusals + 1
refused_once settings tool w names ran =
    let none = none_remain settings tool w names ran.next ran.done ran.later ran.are in grind (arith, ran.cause)

-- ---- outputs

-- a step that stopped before anything happened left both outputs as they were
nothing_written : (a b : StreamsState) (s next : Step) (done later : List Step) → s ∷ [] ≡ done ++ next ∷ later
    → Happened a (streams_with_refusals a.inputs.refusals b) (trace done) → failures_of b.outputs
    ≡ failures_of a.outputs
    → b.outputs ≡ a.outputs
nothing_written a b s next [] later is did same =
    grind (arith, append-nil, did.err.offered, did.err.written, did.out.offered, did.out.written, same)
nothing_written a b s next (x ∷ []) later is did same = grind arith
nothing_written a b s next (x ∷ y ∷ done) later is did same = grind arith

-- a call that hashed a name and ran out of memory left both outputs as they were
pub outputs_kept : {a b : StreamsState} (settings : Settings) (tool name : ByteString) (x : Result ByteString Fault)
    → RunsOutOfMemory (generate_behavior_by settings tool name x).steps a b → failures_of b.outputs
    ≡ failures_of a.outputs
    → b.outputs ≡ a.outputs
outputs_kept {a = a} {b = b} settings tool name (Ok d) ran same =
    nothing_written a b _ ran.next ran.done ran.later ran.are ran.happened same
outputs_kept {a = a} {b = b} settings tool name (Err f) ran same =
    nothing_written a b _ ran.next ran.done ran.later ran.are ran.happened same
