use Rattle.sum_lines.proofs.ScanLemmas.{end_none}
use Rattle.sum_lines.proofs.reading.beginnings.digits_end.Goals as goal

-- the byte after the digits isn't a blank
pub returns-in_default-2-clause-not_plain : goal.returns-in_default-2-clause-not_plain
returns-in_default-2-clause-not_plain c =
    end_none c.args.algo c.args.text.now c.in_ok-at.at c.in_ok-at.ensures.end (λ some blank.
    let here = rw (← c.in-Some.ensures.lookup.3.1 0) at blank in
    let other = c.if-is_blank.ensures in cc)
