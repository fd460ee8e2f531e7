use Rattle.theorems.proofs.lines.written_line_is_read.Goals as goal

pub returns : goal.returns
returns c = λ algos mode kind name digest before later some no_nul bytes size has allows form.
    let back = c.read_back.ensures.line algos mode kind name digest before later allows
    (record { some = some; no_nul = no_nul; bytes = bytes; size = size; has = has }) form in
    (back.prefix, back.whole, back.one_line, back.spells)
