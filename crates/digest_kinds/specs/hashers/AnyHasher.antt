-- What contracts see of an `AnyHasher`: what they see of the hasher in it.
use Rattle.std.specs.Prelude.{◌≡◌, ℕ, length}
use Rattle.sha2.specs.Hashers.{Holds224, Holds256, Holds384, Holds512}
use Rattle.blake2b_core.specs.{Blake2b.HasTaken, Blake2b.digest_len, Blake2b.taken_count, Bytes.ByteString}
use Rattle.digest_kinds.specs.{Algo.Algo, Algo.Md5, Algo.Sha1, Algo.Sha224, Algo.Sha256, Algo.Sha384, Algo.Sha512}
use Rattle.digest_kinds.specs.{Kind.KindValue, Kind.blake2b_kind, Kind.full_kind}
use Rattle.digest_kinds.specs.{declared.hashers.any_hasher.AnyHasher.AnyHasher}
use Rattle.md5.specs.Md5.{Holds as HoldsMd5}
use Rattle.sha1.specs.Sha1.{Holds as HoldsSha1}
use Rattle.digest_kinds.specs.declared.hashers.any_hasher.AnyHasher.TheVariants as hashers

-- the messages that a hasher may have taken, the kind of its digest, and how many bytes it has taken
pub record HasherValue : Type 1 where
  pub holds : ByteString → Type 0
  pub kind : KindValue
  pub taken : ℕ

-- a hasher of an algorithm that counts the bytes; the relation says which messages its computation holds
abbrev counting_hasher_value : Algo → (ByteString → Type 0) → ℕ → HasherValue
counting_hasher_value algo holds n = record { holds = λ m. holds m × (n ≡ length m); kind = full_kind algo; taken = n }

-- the hasher in an `AnyHasher`
abbrev pub hasher_in : AnyHasher → HasherValue
hasher_in (hashers.Md5 hasher) = counting_hasher_value Md5 (HoldsMd5 hasher.0) hasher.1
hasher_in (hashers.Sha1 hasher) = counting_hasher_value Sha1 (HoldsSha1 hasher.0) hasher.1
hasher_in (hashers.Sha224 hasher) = counting_hasher_value Sha224 (Holds224 hasher.0) hasher.1
hasher_in (hashers.Sha256 hasher) = counting_hasher_value Sha256 (Holds256 hasher.0) hasher.1
hasher_in (hashers.Sha384 hasher) = counting_hasher_value Sha384 (Holds384 hasher.0) hasher.1
hasher_in (hashers.Sha512 hasher) = counting_hasher_value Sha512 (Holds512 hasher.0) hasher.1
hasher_in (hashers.Blake2b hasher) =
    record { holds = HasTaken hasher; kind = blake2b_kind (digest_len hasher); taken = taken_count hasher }

-- the number of bytes that a hasher has taken is the length of its message: the proof of its law `counts`
pub taken-length : (hasher : AnyHasher) (message : ByteString) → (hasher_in hasher).holds message
    → (hasher_in hasher).taken ≡ length message
taken-length (hashers.Blake2b _) message held = held.so_far.taken
taken-length hasher message held = held.1
