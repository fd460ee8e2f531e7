use Rattle.std.proofs.Common.{refl}
use Rattle.sum_lines.proofs.{EscapeLemmas.escape-parts, SinkLemmas.HasLeft-step, SinkLemmas.HasLeft-failed}
use Rattle.sum_lines.proofs.{SinkLemmas.HasLeft-last}
use Rattle.sum_lines.proofs.escape.put_escaped.Goals as goal

-- the write of the bytes up to the first special one failed
pub returns-in_err-put_all : goal.returns-in_err-put_all
returns-in_err-put_all g c =
    let cut = escape-parts _ _ c.split_at.ensures.front c.split_at.ensures.back c.in-Some.ensures.within
    c.in-Some.ensures.cut in
    record {
      text = HasLeft-failed _ _ c.loop-at.invariant cut c.in_err-put_all.ensures.text c.from_residual.ensures.0;
    }

-- the bytes before the special one were written, and the write of its escape failed
pub returns-in_err-put_escape : goal.returns-in_err-put_escape
returns-in_err-put_escape g c =
    let cut = escape-parts _ _ c.split_at.ensures.front c.split_at.ensures.back c.in-Some.ensures.within
    c.in-Some.ensures.cut in
    let plain = HasLeft-step _ c.loop-at.invariant cut c.in_ok-put_all.ensures.text in
    record {
      text = HasLeft-failed _ _ plain refl c.in_err-put_escape.ensures c.from_residual-in_err-put_escape.ensures.0;
    }

-- the bytes before the special one and its escape were written
pub loop-at-preserved : goal.loop-at-preserved
loop-at-preserved g c =
    let cut = escape-parts _ _ c.split_at.ensures.front c.split_at.ensures.back c.in-Some.ensures.within
    c.in-Some.ensures.cut in
    let plain = HasLeft-step _ c.loop-at.invariant cut c.in_ok-put_all.ensures.text in
    HasLeft-step _ plain refl c.in_ok-put_escape.ensures

-- no special byte is left: the rest is written as it is
pub returns : goal.returns
returns g c =
    let left = rw c.in_default.ensures.cut at c.loop-at.invariant in
    record { text = HasLeft-last _ c.put_all-2.result left c.put_all-2.ensures.text }
