use Rattle.std.proofs.Common.{arith, length, refl}
use Rattle.sum_words.proofs.command_line.Room.argument.Goals as goal

-- the page was too short
pub fill_growing-requires-clause-long : goal.fill_growing-requires-clause-long
fill_growing-requires-clause-long g c =
    let failed = rw c.in-Err-TooLong.field-0-is at c.in-Err-TooLong.ensures.given in
    record { size = length c.fill.new.buffer; state = rw failed refl; at_least = omega (arith, c.fill.auto.buffer) }
