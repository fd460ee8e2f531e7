use Rattle.std.proofs.Common.{◌≡◌, ◌++◌, length}
use Rattle.sum_words.proofs.command_line.words_from.Given as goal

-- the words before the place were given
abbrev pub invariant-places : goal.invariant-places
invariant-places g l = record {
  given : (g.G.Arguments.state l.arguments).given ≡ (g.G.Arguments.state l.fn.arguments).given ++ l.words;
  told : (g.G.Arguments.state l.arguments).told ≡ (g.G.Arguments.state l.fn.arguments).told;
  place : l.place ≡ length (g.G.Arguments.state l.arguments).given;
}
