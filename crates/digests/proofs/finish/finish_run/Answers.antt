use Rattle.std.proofs.Common.{Result, Ok, Err, refl}
use Rattle.digest_kinds.specs.Bytes.{ByteString}
use Rattle.sum_lines.specs.sinks.Output.{OutputState}
use Rattle.sum_lines.specs.sinks.GivesAll.{GivesAll}
use Rattle.digests.proofs.finish.finish_run.Goals as goal

-- a line was written, or its write failed
writes_line : {E : Type 0} (a b : OutputState) (line : ByteString) (r : Result (Unit {0}) E) → GivesAll a b line r
    → (x : Result (Unit {0}) (Unit {0})) × GivesAll a b line x
writes_line a b line (Ok u) wrote = (Ok tt, wrote)
writes_line a b line (Err e) wrote = (Err tt, wrote)

-- so a stop is reported
pub returns-in-Err-clause-finish : goal.returns-in-Err-clause-finish
returns-in-Err-clause-finish g c =
    let flushes = rw (← c.outputs.view_is) at c.in-Err.ensures in
    let said = c.put_stop_message in
    let line = writes_line _ _ _ said.result said.ensures in
    (Err c.in-Err.stop, _, flushes, (refl, refl, line.0, line.1))
