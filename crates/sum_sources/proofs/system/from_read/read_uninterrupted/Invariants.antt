use Rattle.std.{proofs.Common.◌≡◌, proofs.Common.length, specs.Io.KnownBytes.Keeps}
use Rattle.sum_sources.proofs.system.from_read.read_uninterrupted.Given as goal

-- interruptions take no byte, and end nothing
abbrev pub invariant-loop : goal.invariant-loop
invariant-loop g l = record {
  given : Keeps (g.R.Read.remaining l.fn.reader) (g.R.Read.remaining l.reader);
  size : length l.buf ≡ length l.fn.buf;
}
