use Rattle.std.{proofs.Common.◌≡◌, specs.Io.KnownBytes.Keeps}
use Rattle.sum_lines.proofs.system.from_write.FromWriteSink.write.Given as goal

-- the writer holds what it held, and nothing was noted
abbrev pub invariant-loop : goal.invariant-loop
invariant-loop g l = record {
  bytes : Keeps (g.W.Write.contents l.fn.self.writer) (g.W.Write.contents l.self.writer);
  log : l.self.log ≡ l.fn.self.log;
  first : l.self.first ≡ l.fn.self.first;
}
