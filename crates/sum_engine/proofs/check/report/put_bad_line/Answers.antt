use Rattle.sum_engine.proofs.check.report.put_bad_line.Goals as goal

pub returns : goal.returns
returns g c =
    rw (← c.labels.view_is)
    (rw (c.as_bytes.ensures.value, c.as_bytes-2.ensures.value, c.tag_word-word.ensures) at c.write.ensures.text)
