use Rattle.std.proofs.Common.{arith, append_assoc}
use Rattle.sum_lines.proofs.SinkLemmas.{writes_then, writes_stop}
use Rattle.sum_lines.proofs.writing.put_line.put_line.Goals as goal

-- the write of the line's mark failed
pub returns-in_err-put_all : goal.returns-in_err-put_all
returns-in_err-put_all g c = record { text = rw (c.if-style.false, append_assoc) (grind (arith, writes_stop)) }

-- the mark was written, and the write of the layout failed
pub returns-in_err-put_layout-2 : goal.returns-in_err-put_layout-2
returns-in_err-put_layout-2 g c =
    let marked = rw c.mark_and_name.ensures.mark at c.in_ok-put_all.ensures.text in
    let layout = rw (c.digits_of-digits.ensures, c.mark_and_name.ensures.name) at c.in_err-put_layout-2.ensures in
    let stopped = writes_stop _ _ _ layout c.from_residual-in_err-put_layout-2.ensures.0 in
    record { text = rw (c.if-style.false, append_assoc) (writes_then _ _ _ _ marked stopped) }

-- the line's mark, layout and end were written
pub returns : goal.returns
returns g c =
    let marked = rw c.mark_and_name.ensures.mark at c.in_ok-put_all.ensures.text in
    let layout = rw (c.digits_of-digits.ensures, c.mark_and_name.ensures.name) at c.in_ok-put_layout-2.ensures in
    record {
      text = rw (c.if-style.false, append_assoc)
          (writes_then _ _ _ _ marked (writes_then _ _ _ _ layout c.put_all-3.ensures.text));
    }
