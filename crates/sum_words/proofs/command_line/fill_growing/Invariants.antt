use Rattle.std.{proofs.Common.◌-◌, proofs.Common.◌^◌, proofs.Common.◌≤◌, proofs.Common.vec_len}
use Rattle.std.{specs.declared.env.FillError.TheVariants.TooLong}
use Rattle.sum_words.specs.private.CommandLine.{Fails}
use Rattle.sum_words.proofs.command_line.fill_growing.Given as goal

-- the buffer is longer than a page, and a call failed with a buffer of at least a page
abbrev pub invariant-longer : goal.invariant-longer
invariant-longer g l = record {
  page : 4096 ≤ vec_len l.more;
  fails : Fails TooLong 4096 (g.G.Arguments.state l.fn.arguments) (g.G.Arguments.state l.arguments);
}

-- the room that the buffer may still get
abbrev pub decreases-longer : goal.decreases-longer
decreases-longer g l = 2 ^ 64 - vec_len l.more
