use Rattle.std.proofs.{Common.◌∷◌, Common.codes, Common.sym, lemmas.List.map-append}
use Rattle.sum_words.specs.parsing.Items.{operand}
use Rattle.sum_words_tests.proofs.laws.names_are_operands.Goals as goal

-- the names, and then what follows `--`
pub returns : goal.returns
returns c = λ t names more plain.
    let law = c.plain_words_are_operands.ensures in
    rw (law.plain t names (codes "--" ∷ more) plain, law.after_dashes t more) (sym (map-append operand names more))
