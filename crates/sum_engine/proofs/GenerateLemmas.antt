-- `generate_one`: the behavior of hashing one name, by what `hash_file` gave and what was then written.
use Rattle.std.proofs.Common.{arith, rules, ◌≡◌, ◌≢◌, ℕ, List, [], ◌∷◌, Result, Ok, Err, refl}
use Rattle.digest_kinds.specs.Kind.{KindValue}
use Rattle.sum_sources.specs.{declared.fault.Fault.Fault, declared.sources.hash_file.HashFault.HashFault}
use Rattle.sum_sources.specs.{declared.sources.hash_file.HashFault.TheVariants.Open, sources.Source.SourceState}
use Rattle.sum_engine.proofs.HashLemmas.{HashesName}
use Rattle.sum_engine.specs.{Behavior.digest_or_fault, Behavior.Step, Behavior.World, Behavior.answer_to}
use Rattle.sum_engine.specs.{Execution.RefusesMemory, Execution.OpensNames, Execution.Agrees, Execution.world_at}
use Rattle.sum_engine.specs.{Generate.generate_behavior_by, private.Generate.fault_in}
use Rattle.sum_settings.specs.declared.{settings.Settings.Settings, stop.NoRoom.NoRoom}
use Rattle.sum_sources.specs.declared.sources.source.OpenFault.TheVariants as faults

-- the fault that was found is what the definitions say of the answer, and the name was opened
pub fault_found : {kind : KindValue} {name : List ℕ} {a b : SourceState} (e : HashFault) (f : Fault) → Ok f ≡ fault_in e
    → HashesName kind name a b (Err e) → OpensNames a b (name ∷ [])
    × ((w : World) → Agrees w b → digest_or_fault kind (answer_to (world_at w a) name) ≡ Err f)
fault_found (Open faults.Memory) f is h = cc
fault_found e f is h = (h.opened, λ w agrees. let hash = h.hash w agrees in search rules)

-- if there is no fault of the name, memory was refused
pub refused_memory : {kind : KindValue} {name : List ℕ} {a b : SourceState} (e : HashFault) (f : NoRoom)
    → Err f ≡ fault_in e → HashesName kind name a b (Err e) → RefusesMemory a b
refused_memory e f is h = grind arith

-- generation is one step, which opens the name
pub one_step : (settings : Settings) (tool name : List ℕ) (x : Result (List ℕ) Fault)
    → (s : Step) × (rest : List Step) × ((generate_behavior_by settings tool name x).steps ≡ s ∷ rest) × (s.names ≢ [])
one_step settings tool name (Ok d) = (_, [], refl, λ none. cc)
one_step settings tool name (Err f) = (_, [], refl, λ none. cc)
