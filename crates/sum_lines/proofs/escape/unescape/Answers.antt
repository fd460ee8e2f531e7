use Rattle.std.proofs.lemmas.List.{take_rest}
use Rattle.sum_lines.proofs.EscapeLemmas.{IsHalfUnescaped-refused}
use Rattle.sum_lines.proofs.escape.unescape.Goals as goal

-- no escape begins what is left: the bytes are none
pub returns-in_err-byte-clause-no_name : goal.returns-in_err-byte-clause-no_name
returns-in_err-byte-clause-no_name c =
    let none = rw (take_rest c.loop-read.bytes c.loop-read.read) at c.in_err-byte.ensures.no_escape in
    rw c.from_residual.ensures (IsHalfUnescaped-refused c.loop-read.invariant c.loop-read-test.true none)
