use Rattle.digest_kinds.specs.Bytes.{LIMIT}
use Rattle.std.proofs.Common.{◌≡◌, ℕ, ◌<◌, ◌-◌, ◌++◌, List}
use Rattle.sum_sources.specs.inputs.Input.{IsSameInput, Unfinished}
use Rattle.sum_sources.proofs.inputs.hash_input.hash_input_with_buffer.Given as goal

-- the hasher's message is what was read of the input
abbrev pub invariant-loop-n : goal.invariant-loop-n
invariant-loop-n g l = record {
  read : (m : List ℕ) × g.H.Hasher.holds l.hasher m × ((g.I.Input.state l.fn.input).reads.phase ≡ Unfinished
      → (g.I.Input.state l.input).reads
      ≡ record { bytes = (g.I.Input.state l.fn.input).reads.bytes ++ m; phase = Unfinished });
  phase : (g.I.Input.state l.fn.input).reads.phase ≡ Unfinished → (g.I.Input.state l.input).reads.phase ≡ Unfinished;
  same : IsSameInput (g.I.Input.state l.fn.input) (g.I.Input.state l.input);
  taken : g.H.Hasher.taken_of l.hasher ≡ l.taken;
  few : l.taken < LIMIT;
  kind : g.H.Hasher.kind_of l.hasher ≡ g.H.Hasher.kind_of l.fn.hasher;
}

-- the bytes that may still come
abbrev pub decreases-loop-n : goal.decreases-loop-n
decreases-loop-n g l = LIMIT - l.taken
