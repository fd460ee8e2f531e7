-- Kinds: an algorithm with its digest's length. Their digests.
use Rattle.std.specs.Prelude.{ℕ, ◌/◌, ◌%◌, ◌==◌, nat_lt, Result, Ok, Err, if◌then◌else◌}
use Rattle.digest_kinds.specs.{Algo.Algo, Algo.Blake2b, Algo.algo_facts, Algo.full_len_of, Bytes.ByteString}
use Rattle.digest_kinds.specs.{declared.kind.LengthFault.LengthFault, declared.kind.LengthFault.TheVariants.TooLong}
use Rattle.digest_kinds.specs.{declared.kind.LengthFault.TheVariants.NotBytes}

-- a kind: an algorithm and the number of bytes of its digest
pub record KindValue : Type 0 where
  pub algo : Algo
  pub len : ℕ

-- the kind of full digests of an algorithm
abbrev pub full_kind : Algo → KindValue
full_kind algo = record { algo = algo; len = full_len_of algo }

-- the kind of BLAKE2b digests of n bytes
abbrev pub blake2b_kind : ℕ → KindValue
blake2b_kind n = record { algo = Blake2b; len = n }

-- the digest, of this kind, of a message
abbrev pub message_digest : KindValue → ByteString → ByteString
message_digest kind message = (algo_facts kind.algo).digest kind.len message

-- the kind of BLAKE2b digests of this many bits (0 means 512): TooLong above 512, NotBytes if they aren't whole bytes
abbrev pub blake2b_of_bits : ℕ → Result KindValue LengthFault
blake2b_of_bits bits = if nat_lt 512 bits then Err TooLong
    else if bits == 0 then Ok (full_kind Blake2b)
    else if bits % 8 == 0 then Ok (blake2b_kind (bits / 8)) else Err NotBytes
