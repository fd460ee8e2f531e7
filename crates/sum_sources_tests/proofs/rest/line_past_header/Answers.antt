use Rattle.std.proofs.Common.{◌≡◌, ◌∙◌, ap, length, rules}
use Rattle.sum_sources_tests.proofs.RestLemmas.{header_read, line_past_header}
use Rattle.sum_sources_tests.proofs.rest.line_past_header.Goals as goal

-- the header was read, and then a line
pub returns-in-Ok-Line : goal.returns-in-Ok-Line
returns-in-Ok-Line g c =
    let size : length c.read.new.buf ≡ 3 = search rules in
    let all : c.in-Ok-eq3.field-0 ≡ 3 = search rules in
    let at = header_read _ _ c.read.new.buf _ c.requires c.in-Ok-eq3.ensures.reads size all in
    let next = rw c.in-Ok-Line.field-0-is at c.in-Ok-Line.ensures in
    line_past_header {state = g.I.Input.state} _ _ (ap (λ r. r.phase) at, ap (λ r. length r.bytes) at ∙ size)
    c.new-reader.ensures.state c.new-reader.ensures.reading next.line next.reader
