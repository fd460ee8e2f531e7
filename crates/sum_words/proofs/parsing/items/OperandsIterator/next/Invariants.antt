use Rattle.std.proofs.Common.{◌≡◌, length, filter_map}
use Rattle.sum_words.specs.parsing.Items.{operand_in}
use Rattle.sum_words.proofs.parsing.items.OperandsIterator.next.Given as goal

-- no operand was passed over
abbrev pub invariant-loop-item : goal.invariant-loop-item
invariant-loop-item l = filter_map operand_in l.self-inside.items ≡ l.fn.self

-- the items that remain
abbrev pub decreases-loop-item : goal.decreases-loop-item
decreases-loop-item l = length l.self-inside.items
