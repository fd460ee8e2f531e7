use Rattle.std.proofs.Common.{ap, subst, sym}
use Rattle.sum_sources.specs.inputs.Input.{Fits, Reads}
use Rattle.sum_sources_tests.proofs.callers.first_line.Goals as goal

-- all that was read of the input was read through its reader
pub returns : goal.returns
returns g c = λ is content fits.
    let made = c.new-reader.ensures in
    let first = c.all_reads.ensures.unread c.new-reader.result (rw made.state c.requires) in
    let all = c.all_reads.ensures.call _ _ _ c.next_line-next.ensures.reader first in
    let own = subst (λ reads. Fits reads content) (sym all) (rw c.into_inner.ensures.input at fits) in
    let on = c.next_line-next.ensures.line (made.reading (ap (λ (reads : Reads). reads.phase) c.requires)) in
    (_, rw made.state at (rw is at (on.holds content own)).line.0)
