use Rattle.std.proofs.Common.{◌≡◌, length}
use Rattle.sum_words.specs.{parsing.Items.a_word, parsing.Items.items_from, parsing.Request.early_request}
use Rattle.sum_words.specs.{private.Request.IsChosenBy}
use Rattle.sum_words.proofs.parsing.request.read_options.Given as goal

-- the options chosen so far and those of the remaining items are those of all items
abbrev pub invariant-loop-item : goal.invariant-loop-item
invariant-loop-item g l = record {
  chosen : IsChosenBy l.chosen l.items (items_from l.fn.tool l.words a_word);
  early : early_request l.items ≡ early_request (items_from l.fn.tool l.words a_word);
}

-- the items that remain
abbrev pub decreases-loop-item : goal.decreases-loop-item
decreases-loop-item g l = length l.items
