use Rattle.digest_kinds.specs.Bytes.{LIMIT}
use Rattle.std.proofs.Common.{◌-◌}
use Rattle.sum_engine.proofs.CheckLinesLemmas.{GoesOn}
use Rattle.sum_engine.proofs.check.check_one.run_to_end.Given as goal

abbrev pub invariant-lines : goal.invariant-lines
invariant-lines g l = GoesOn g.I.Input.state l.fn.checker l.fn.streams l.checker l.streams

abbrev pub decreases-lines : goal.decreases-lines
decreases-lines g l = LIMIT - l.checker.verdicts.reader.lines
