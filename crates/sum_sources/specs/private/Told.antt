-- What a read of a content in memory gives.
use Rattle.std.specs.Prelude.{ℕ, ◌≡◌, ◌<◌, ◌≤◌, ◌++◌, take, length, Result, MatchResult}
use Rattle.std.specs.Result.{result_unwrap_or}
use Rattle.digest_kinds.specs.Bytes.{ByteString}
use Rattle.sum_sources.specs.{Fault.Fault, Fault.Whole, Fault.Broken, inputs.Input.Content}

-- a read gives a content's bytes from place `first` up to place `later`; or, if none is left, its ending
pub record GivesFrom (content : Content) (first later size : ℕ) (result : Result ℕ Fault) (buffer : ByteString)
    : Type 0 where
  pub bytes : take later content.bytes ≡ take first content.bytes ++ take (result_unwrap_or result 0) buffer
  pub ending : MatchResult result (λ n. n ≡ 0 → 0 < size → (length content.bytes ≤ first) × (content.ending ≡ Whole))
      (λ fault. (length content.bytes ≤ first) × (content.ending ≡ Broken fault))
