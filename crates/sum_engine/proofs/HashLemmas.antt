-- `Inputs::hash_file`: a name is hashed, and in each world that agrees with what was read this is of its answer.
use Rattle.std.proofs.Common.{rules, refl, ◌≡◌, ◌≢◌, [], ◌∷◌, ℕ, List, Result, Ok, Err}
use Rattle.digest_kinds.specs.Kind.{KindValue}
use Rattle.sum_sources.specs.{declared.fault.Fault.Fault, declared.sources.hash_file.HashFault.HashFault}
use Rattle.sum_sources.specs.{sources.HashFile.HashesFile, sources.Source.AnswerValue, sources.Source.SourceState}
use Rattle.sum_engine.proofs.WorldLemmas.{opening_agrees, asks_one, reads_one}
use Rattle.sum_engine.specs.{Behavior.World, Behavior.answer_to, Behavior.digest_or_fault, Execution.Agrees}
use Rattle.sum_engine.specs.{Execution.world_at, Execution.OpensNames, Execution.ReadsToEndIf, Execution.RefusesMemory}
use Rattle.sum_sources.specs.declared.sources.hash_file.HashFault.TheVariants as hashing
use Rattle.sum_sources.specs.declared.sources.source.OpenFault.TheVariants as faults

-- what hashing an answer gives
abbrev pub IsHashOf : KindValue → AnswerValue → Result (List ℕ) HashFault → Type 0
IsHashOf kind x (Ok d) = digest_or_fault kind x ≡ Ok d
IsHashOf kind x (Err (hashing.Open (faults.Fault f))) = x ≡ Err f
IsHashOf kind x (Err (hashing.Read f)) = (digest_or_fault kind x ≡ Err f) × ((g : Fault) → x ≢ Err g)
IsHashOf kind x (Err (hashing.Open faults.Memory)) = Unit {0}

-- the name is opened, unless memory was refused
abbrev pub OpensUnlessRefused : List ℕ → SourceState → SourceState → Result (List ℕ) HashFault → Type 0
OpensUnlessRefused name a b (Err (hashing.Open faults.Memory)) = RefusesMemory a b
OpensUnlessRefused name a b r = OpensNames a b (name ∷ [])

-- reading it didn't fail
abbrev pub IsNotBroken : Result (List ℕ) HashFault → Type 0
IsNotBroken (Err (hashing.Read f)) = ⊥
IsNotBroken r = Unit {0}

-- the effect of a call that hashes a name, in every world that agrees with what was read
pub record HashesName (kind : KindValue) (name : List ℕ) (a b : SourceState) (r : Result (List ℕ) HashFault)
    : Type 0 where
  pub hash : (w : World) → Agrees w b → IsHashOf kind (answer_to (world_at w a) name) r
  pub opened : OpensUnlessRefused name a b r
  pub reads : ReadsToEndIf (IsNotBroken r) a b

-- a call that hashes the file of a name has this effect
pub hashes_name : {kind : KindValue} {name : List ℕ} {a b : SourceState} (r : Result (List ℕ) HashFault)
    → HashesFile kind name a b r → HashesName kind name a b r
hashes_name {name = name} {a} {b} (Err (hashing.Open (faults.Fault f))) h =
    let hash = λ (w : World) (agrees : Agrees w b). opening_agrees agrees a.openings [] name (Err f) (rw h refl) in
    search (rules, hash, asks_one, reads_one)
hashes_name (Err (hashing.Open faults.Memory)) h = search rules
hashes_name {name = name} {a} {b} r h = record {
  hash = λ w agrees.
      let (c, is, of) = opening_agrees agrees a.openings [] name (Ok h.reads) (rw h.closed refl) in
      let found = (h.hashes.reads refl).digest c of in search (rules, is);
  opened = asks_one a b name _ h.closed;
  reads = reads_one a b name (Ok h.reads) h.closed
      ((h.hashes.reads refl).past, λ u. search (rules, (h.hashes.reads refl).end));
}
