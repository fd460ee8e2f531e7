use Rattle.std.proofs.{Common.◌-◌, Common.arith, lemmas.List.take-replicate}
use Rattle.sum_words.proofs.messages.help.padding.Goals as goal

-- some of 18 spaces
pub returns : goal.returns
returns c = rw c.saturating_sub.ensures (take-replicate (18 - c.args.columns) 18 32 (omega arith))
