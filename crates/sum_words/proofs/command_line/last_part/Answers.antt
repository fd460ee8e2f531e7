use Rattle.std.proofs.{Common.◌∙◌, Common.◌≡◌, Common.◌+◌, Common.◌-◌, Common.sym, Common.drop, Common.arith}
use Rattle.std.proofs.{lemmas.List.drop-drop, lemmas.List.take_rest}
use Rattle.sum_words.proofs.CommandLineLemmas.{last_part-from}
use Rattle.sum_words.proofs.command_line.last_part.Goals as goal

-- the last slash was found
pub returns-in-Some : goal.returns-in-Some
returns-in-Some c =
    let at = c.in-Some.slash in
    let path = c.args.path.now in
    let h = rw c.in-Some.is at c.memrchr.ensures in
    rw (take_rest path at, take_rest (drop at path) 1)
    (drop-drop 1 at path ∙ sym (last_part-from path (at + 1) (omega (arith, h.0.high)) h.0.after
    (λ some. let here : at + 1 - 1 ≡ at = omega arith in rw here h.1)))

-- there is no slash
pub returns-in-None : goal.returns-in-None
returns-in-None c =
    sym (last_part-from c.args.path.now 0 (omega arith) (rw c.in-None.is at c.memrchr.ensures)
    (λ none. absurd (omega arith)))
