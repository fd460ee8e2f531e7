use Rattle.digest_kinds.specs.Bytes.{LIMIT}
use Rattle.std.proofs.Common.{◌-◌}
use Rattle.sum_engine_tests.proofs.CountingLemmas.{HasCounted}
use Rattle.sum_engine_tests.proofs.counting.count_lines.Given as goal

abbrev pub invariant-lines : goal.invariant-lines
invariant-lines g l = HasCounted g.I.Input.state l.fn.verdicts l.verdicts l.fn.inputs l.inputs l.count

abbrev pub decreases-lines : goal.decreases-lines
decreases-lines g l = LIMIT - l.verdicts.reader.lines
