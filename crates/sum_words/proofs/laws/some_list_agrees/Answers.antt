use Rattle.sum_words.proofs.laws.some_list_agrees.Goals as goal

-- a law of the trait
pub returns : goal.returns
returns g c = record { list = g.met.G.Arguments.has_list c.args.arguments.now }
