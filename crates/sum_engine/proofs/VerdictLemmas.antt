-- `judge`: the verdict of an entry, by what hashing its name gave.
use Rattle.std.proofs.Common.{arith, ◌≡◌, List, ℕ, Bool, false, Result, IfOk}
use Rattle.sum_engine.{proofs.HashLemmas.IsNotBroken, specs.check.Judge.Verdict, specs.check.Judge.is_unread}
use Rattle.sum_engine.{specs.private.Judge.verdict_of_hash}
use Rattle.sum_sources.specs.declared.sources.hash_file.HashFault.{HashFault}
use Rattle.sum_settings.specs.declared.stop.NoRoom.{NoRoom}

-- the verdict says that the file could not be read, if reading it failed
pub verdict_read : (ignore : Bool) (digest : List ℕ) (found : Result (List ℕ) HashFault) (x : Result Verdict NoRoom)
    → x ≡ verdict_of_hash ignore digest found → IfOk x (λ v. is_unread v ≡ false) → IsNotBroken found
verdict_read ignore digest found x is read = grind arith
