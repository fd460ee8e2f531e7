use Rattle.std.proofs.Common.{subst}
use Rattle.sum_lines.specs.sinks.Output.{Gets, output_events}
use Rattle.sum_engine.{proofs.StepLemmas.going_found, specs.check.Judge.line_verdict_value, specs.check.Report.err_of}
use Rattle.theorems.proofs.one_operand.line_reported.Goals as goal

pub returns : goal.returns
returns g c = λ going.
    let h = c.step.ensures.step c.requires in
    let vector = c.step.new.line.items in
    let labels = c.args.checker.now.labels in
    let old = c.args.streams.now.outputs in
    let new = c.step.new.streams.outputs in
    let (v, is) = going_found c.step.new.self.verdicts labels vector h.found old new (rw going at h.reports) in
    let reports = rw (is, going) at h.reports in
    let found = line_verdict_value vector v in
    let err = subst (λ rules. Gets old.err new.err
    (output_events (err_of rules labels found))) h.advances.rules reports.writes.1 in
    (found, rw is at h.advances.opened, rw is at h.advances.counts, err, reports.writes.2)
