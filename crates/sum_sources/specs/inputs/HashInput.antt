-- What a call does that hashes an input.
use Rattle.std.specs.Prelude.{◌≡◌, length, Result, IfOk, MatchResult}
use Rattle.digest_kinds.specs.{Bytes.ByteString, Kind.message_digest, Kind.KindValue}
use Rattle.sum_sources.specs.{Fault.Fault, Fault.Whole, Fault.Broken, inputs.Input.Unfinished}
use Rattle.sum_sources.specs.inputs.Input.{Ended, Past, Content, InputState, Reads, Fits, IsSameInput, clip, reads_past}

-- a call hashes an input that hadn't ended, by what was read of it before the call and after it
pub record HashesReads (kind : KindValue) (old new : Reads) (result : Result ByteString Fault) : Type 0 where
  -- if the reads of the call fit a content: the content's digest, or the fault with which it ends
  pub digest : (content : Content) → Fits (reads_past (length old.bytes) new) content
      → MatchResult result (λ d. ((clip content).ending ≡ Whole) × (d ≡ message_digest kind (clip content).bytes))
      (λ fault. (clip content).ending ≡ Broken fault)
  pub before : (content : Content) → Fits new content → Fits old content
  -- a digest is returned only at the end, and the input is never read past its end or its fault
  pub end : IfOk result (λ _. new.phase ≡ Ended Whole)
  pub past : ¬ (new.phase ≡ Past)

-- a call hashes an input. The premise of what it reads: the input hadn't ended before
pub record HashesInput (kind : KindValue) (old new : InputState) (result : Result ByteString Fault) : Type 0 where
  pub same : IsSameInput old new
  pub reads : old.reads.phase ≡ Unfinished → HashesReads kind old.reads new.reads result
