-- Relates a read up to the limit to what was read before it and after it.
use Rattle.std.specs.Prelude.{ℕ, zero, suc, ◌≡◌, ◌≢◌, ◌+◌, ◌<◌, ◌≤◌, ◌++◌, length, Result, Ok, Err, IfOk}
use Rattle.digest_kinds.specs.Bytes.{ByteString, LIMIT}
use Rattle.sum_sources.specs.{Fault.Fault, Fault.Ending, Fault.Whole, Fault.Broken}
use Rattle.sum_sources.specs.{declared.inputs.input.TheConstants.PIECE}
use Rattle.sum_sources.specs.inputs.Input.{Unfinished, Ended, Past, Content, Reads, InputState, Fits, IsSameInput, clip}
use Rattle.sum_sources.specs.inputs.Input.{reads_past}

-- an input that had given this many bytes was found to have this ending, as far as the limit allows
pub record FindsEnding (taken : ℕ) (old new : Reads) (ending : Ending) : Type 0 where
  pub content : length old.bytes ≡ taken → (content : Content) → Fits new content
      → clip content ≡ record { bytes = old.bytes; ending = ending }
  pub before : (content : Content) → Fits new content → Fits old content
  pub end : ending ≡ Whole → new.phase ≡ Ended Whole
  pub past : new.phase ≢ Past

-- an input that hasn't ended gives these bytes; or its end; or a fault, or a byte that reaches the limit
abbrev pub AddsLimited : ℕ → Reads → Reads → ByteString → Result ℕ Fault → Type 0
AddsLimited taken before after bytes (Ok zero) = FindsEnding taken before after Whole
AddsLimited taken before after bytes (Ok (suc n)) = after ≡ record before { bytes = before.bytes ++ bytes }
AddsLimited taken before after bytes (Err fault) = FindsEnding taken before after (Broken fault)

-- the same holds of such an input if only its bytes past the first n count
pub record AddsPast (taken : ℕ) (before after : Reads) (bytes : ByteString) (result : Result ℕ Fault) : Type 0 where
  pub adds : (n : ℕ) → n ≤ length before.bytes → before.phase ≡ Unfinished
      → AddsLimited taken (reads_past n before) (reads_past n after) bytes result

-- the counts of bytes before and after a read up to the limit
pub record CountsLimited (before after : ℕ) (result : Result ℕ Fault) : Type 0 where
  pub ok : IfOk result (λ n. (n ≤ PIECE) × (after ≡ before + n) × (after < LIMIT))
  pub most : after ≤ LIMIT
  pub more : before ≤ after

-- more was read of the same input, and each byte that it gave is counted
pub record CountsBytes (first later : ℕ) (before after : InputState) : Type 0 where
  pub same : IsSameInput before after
  pub bytes : later + length before.reads.bytes ≡ first + length after.reads.bytes
