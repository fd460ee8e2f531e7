use Rattle.std.proofs.Common.{arith, ◌∷◌, ◌∙◌, [], append_assoc, length-append}
use Rattle.sum_words.proofs.CommandLineLemmas.{next_longer, first_word, on_err}
use Rattle.sum_words.proofs.command_line.words_from.Goals as goal

-- the next word is longer than a page
pub returns-in_err-word-clause-not_read : goal.returns-in_err-word-clause-not_read
returns-in_err-word-clause-not_read g c = on_err c.from_residual.result (λ all agrees.
    let (word, more, are, longer) = next_longer all c.in_err-word.ensures.not_read agrees in
    first_word _ c.places.words (word ∷ more) all c.places.invariant.given are (omega arith))

-- a word was read, but there was no room for it
pub returns-in_err-add_bytes-clause-not_read : goal.returns-in_err-add_bytes-clause-not_read
returns-in_err-add_bytes-clause-not_read g c = on_err c.from_residual-in_err-add_bytes.result (λ all agrees.
    let word = c.in-Some.word.now in
    let here = rw (rw c.in-Some.is at c.in_ok-word.ensures.gives) at agrees in
    first_word _ c.places.words (word ∷ _) all c.places.invariant.given
    (here.given ∙ append_assoc _ (word ∷ []) _) (omega arith))

-- words were read, and there are too many
pub returns-clause-not_read : goal.returns-clause-not_read
returns-clause-not_read g c = λ all agrees.
    first_word _ c.places.words _ all c.places.invariant.given agrees.given
    (grind (arith, length-append, c.places.invariant, c.requires, c.places-test.false))
