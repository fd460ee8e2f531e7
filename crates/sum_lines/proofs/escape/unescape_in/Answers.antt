use Rattle.std.proofs.{Common.arith, Common.rules, Common.◌≤◌, Common.length, Common.◌∙◌, lemmas.List.take_rest}
use Rattle.sum_lines.proofs.EscapeLemmas.{in_place, cut_after}
use Rattle.sum_lines.proofs.escape.unescape_in.Goals as goal

-- the bytes from that place on were replaced by the name
pub returns-in-Some-clause-name : goal.returns-in-Some-clause-name
returns-in-Some-clause-name g c =
    let same = c.deref_mut.ensures.value in
    let name = rw (take_rest c.deref_mut.result.now c.args.from, same) at c.in-Some.ensures.name in
    let small : c.in-Some.len ≤ length c.unescape.new.bytes = rw c.unescape.auto.bytes c.in-Some.ensures.len in
    let low : c.args.from ≤ length c.args.line.now.items = search rules in
    let cut = cut_after _ c.args.from c.in-Some.len c.unescape.new.bytes _ _ same (omega arith) low small in
    in_place c.args.line.now.items c.truncate.new.self.items c.args.from _ name (c.truncate.ensures.items ∙ cut)
