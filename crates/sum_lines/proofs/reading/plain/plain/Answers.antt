use Rattle.std.proofs.{Common.◌+◌, Common.take, Common.drop, Common.sym, Common.arith, lemmas.List.take-append-drop}
use Rattle.std.proofs.{lemmas.List.take_rest, lemmas.List.length-take}
use Rattle.sum_lines.proofs.ScanLemmas.{plain_read, ends-after, front-ends, tail-place, two_digits}
use Rattle.sum_lines.proofs.reading.plain.plain.Goals as goal

-- the digest is as long as the kind says
pub invariant_of-result-clause-size : goal.invariant_of-result-clause-size
invariant_of-result-clause-size c =
    let digits = two_digits _ _ c.in_ok-digest.ensures.value in grind (arith, length-take)

-- the parts that were found are the line's
pub returns-clause-parts : goal.returns-clause-parts
returns-clause-parts c =
    let s = c.text_of-text.result.now in
    let n = c.args.at + 1 in
    let text = c.text_of-text.ensures in
    let ends = front-ends c.requires.front text in
    let tail = ends-after (take n s) (drop n s) ends (sym (take-append-drop n s)) in
    rw (take_rest s n, tail-place tail, c.requires.front.mark, text)
    (plain_read _ _ c.in_ok-kind.kind c.requires.end (rw text at c.in_ok-digest.ensures.value) c.in_ok-kind.ensures)
