-- What the reads of inputs gave, and which contents that fits.
use Rattle.std.specs.Prelude.{ℕ, zero, suc, ◌≡◌, [], ◌++◌, take, drop, length, Option, ⊤, Result, Ok, Err, IfSome}
use Rattle.std.specs.Result.{result_unwrap_or}
use Rattle.digest_kinds.specs.Bytes.{ByteString}
use Rattle.sum_sources.specs.Fault.{Fault, Whole, Broken}
pub use Rattle.sum_sources.specs.Content.{Content, limit, clip}
pub use Rattle.sum_sources.specs.declared.inputs.input.Phase.{Phase, TheVariants.Unfinished, TheVariants.Ended}
pub use Rattle.sum_sources.specs.declared.inputs.input.Phase.{TheVariants.Past}

-- the phase after a read into a buffer of this size: Past if the buffer is empty, or if the input had ended before
abbrev pub phase_after : Phase → ℕ → Result ℕ Fault → Phase
phase_after Unfinished (suc size) (Ok zero) = Ended Whole
phase_after Unfinished (suc size) (Ok (suc n)) = Unfinished
phase_after Unfinished (suc size) (Err fault) = Ended (Broken fault)
phase_after phase size result = Past

-- what the reads of an input gave so far: all their bytes, and how far it was read
pub record Reads : Type 0 where
  pub bytes : ByteString
  pub phase : Phase

-- no reads yet
abbrev pub empty_reads : Reads
empty_reads = record { bytes = []; phase = Unfinished }

-- what was read past the first n bytes
abbrev pub reads_past : ℕ → Reads → Reads
reads_past n reads = record reads { bytes = drop n reads.bytes }

-- a content begins with these bytes; once its end was read, it is these bytes with that ending; past it, any content
abbrev pub IsReadTo : Phase → ByteString → Content → Type 0
IsReadTo Unfinished bytes content = (rest : ByteString) × (content.bytes ≡ bytes ++ rest)
IsReadTo (Ended ending) bytes content = content ≡ record { bytes = bytes; ending = ending }
IsReadTo Past bytes content = ⊤

-- these reads fit this content
abbrev pub Fits : Reads → Content → Type 0
Fits reads content = IsReadTo reads.phase reads.bytes content

-- the state of an input: which file it is, and what its reads gave
pub record InputState : Type 0 where
  pub name : ByteString  -- by which it was opened
  pub nth : ℕ  -- how many openings of that name came before at its source
  pub told : Option Content  -- its content, if that is in memory
  pub reads : Reads

-- the state after one more read, which left this buffer. If it returned n, it gave the buffer's first n bytes
abbrev pub state_after_read : InputState → ByteString → Result ℕ Fault → InputState
state_after_read input buffer result = let reads = input.reads in
    let bytes = reads.bytes ++ take (result_unwrap_or result 0) buffer in
    record input { reads = record { bytes = bytes; phase = phase_after reads.phase (length buffer) result } }

-- the reads of an input fit some content, and its own content if that is in memory
abbrev pub HasContent : InputState → Type 0
HasContent input = (content : Content) × IfSome input.told (λ told. content ≡ told) × Fits input.reads content

-- the same input, of which more was read
abbrev pub IsSameInput : InputState → InputState → Type 0
IsSameInput before after = after ≡ record before { reads = after.reads }
