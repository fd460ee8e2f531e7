use Rattle.std.proofs.Common.{length, ◌-◌}
use Rattle.sum_lines.proofs.EscapeLemmas.{IsHalfUnescaped}
use Rattle.sum_lines.proofs.escape.unescape.Given as goal

-- what was read is the escape of what was written
abbrev pub invariant-loop-read : goal.invariant-loop-read
invariant-loop-read l = IsHalfUnescaped l.fn.bytes l.bytes l.read l.write

-- less is left to read
abbrev pub decreases-loop-read : goal.decreases-loop-read
decreases-loop-read l = length l.initial.bytes - l.read
