-- What was read of an input through its reader, if that is all that was read of it.
use Rattle.std.proofs.Common.{◌≡◌, ◌-◌, ℕ, zero, List, length, drop, length-drop, Result, ap, arith, refl}
use Rattle.sum_sources.specs.LineReader.{AdvancesLines, LineReaderValue, reads_of}
use Rattle.sum_sources.specs.{LineReader.LineStop, LineReader.Next, inputs.Input.InputState, inputs.Input.Reads}
use Rattle.sum_sources.specs.{inputs.Input.empty_reads, inputs.Input.reads_past}

-- nothing was read past any place in no reads
past_none : (n : ℕ) (reads : Reads) → reads ≡ empty_reads → reads_past n reads ≡ reads
past_none n reads none = grind arith

-- what isn't cut off has no bytes before that place
cut_none : (n : ℕ) (bytes : List ℕ) → drop (length bytes - n) bytes ≡ bytes → length bytes - n ≡ 0
cut_none n bytes same =
    let size = ap length same in omega (arith, length-drop (length bytes - n) bytes, size)

module _ {I : Type 0} (state : I → InputState) where
  -- of an unread input
  pub all_reads_first : (reader : LineReaderValue I) → (state reader.input).reads ≡ empty_reads
      → reads_of state reader ≡ (state reader.input).reads
  all_reads_first reader unread = past_none _ (state reader.input).reads unread

  -- after one more call of the reader
  pub all_reads_next : (before after : LineReaderValue I) (result : Result Next LineStop)
      → AdvancesLines state before after result → reads_of state before ≡ (state before.input).reads
      → reads_of state after ≡ (state after.input).reads
  all_reads_next before after result advances all =
      let none = cut_none before.taken (state before.input).reads.bytes (ap (λ (r : Reads). r.bytes) all) in
      let now : length (state after.input).reads.bytes - after.taken ≡ zero = omega (arith, none, advances.taken) in
      rw now refl
