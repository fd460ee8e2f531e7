use Rattle.std.proofs.{Common.arith, Common.◌≡◌, Common.◌∙◌, lemmas.Bool.ne_eqb}
use Rattle.sum_sources.specs.declared.fault.Ending.TheVariants.{Whole}
use Rattle.sum_engine.specs.check.{Counts.Counts, Counts.entry_count, Rules.LabelsValue, Rules.CheckRules}
use Rattle.sum_engine.specs.check.{Summary.warnings, Summary.end_text}
use Rattle.sum_settings.specs.declared.settings.Report.TheVariants.{Status}
use Rattle.sum_engine.proofs.check.summary.put_summary.Goals as goal

-- if there are entries, and the setting isn't `--status`, the summary is the warnings
end_text-shown : (r : CheckRules) (labels : LabelsValue) (c : Counts) → (entry_count c ≡ 0 → ⊥)
    → (labels.report ≡ Status → ⊥) → end_text r labels Whole c ≡ warnings r labels c
end_text-shown r labels c some shown = grind (arith, ne_eqb (entry_count c) 0 some)

-- there are entries, and warnings are shown
pub returns-in_default : goal.returns-in_default
returns-in_default g c =
    let shown = end_text-shown c.args.rules c.args.labels.now c.args.counts
    (λ e. c.if-entries-eq0.false (c.entries.ensures ∙ e)) (rw (← c.labels.view_is) c.in_default.not-Status) in
    rw shown c.write_err-in_default.ensures.text

-- there are no entries
pub returns-then-entries-eq0 : goal.returns-then-entries-eq0
returns-then-entries-eq0 g c =
    rw (← c.labels.view_is, ← c.entries.ensures, c.if-entries-eq0.true)
    (rw c.tool_line-line.ensures at c.write_err.ensures.text)
