use Rattle.std.proofs.{Common.arith, Common.take_at, lemmas.Option.slice_get_read, lemmas.Option.slice_get-map}
use Rattle.sum_words.proofs.told_arguments.fill_from.Goals as goal

-- the buffer starts with the argument
pub returns-clause-fills : goal.returns-clause-fills
returns-clause-fills c = rw slice_get-map (grind (arith, slice_get_read, take_at))
