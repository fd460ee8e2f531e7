use Rattle.sum_engine.proofs.check.summary.put_unverified.Goals as goal

pub returns-then-counts-eq0 : goal.returns-then-counts-eq0
returns-then-counts-eq0 g c =
    rw (← c.labels.view_is, c.if-rules.true, c.if-counts-eq0.true)
    (rw c.tool_line-line.ensures at c.put_parts.ensures)
