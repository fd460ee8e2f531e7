use Rattle.std.proofs.Common.{arith, rules, ◌≡◌, ℕ, List, [], None, Some, Ok, Err, refl}
use Rattle.sum_lines.proofs.EventLemmas.{Gets-none}
use Rattle.sum_engine.specs.check.{Judge.Ignored, Report.out_by}
use Rattle.sum_settings.specs.declared.settings.Report.{Report}
use Rattle.sum_sources.specs.declared.line_reader.LineStop.TheVariants.{Fault}
use Rattle.sum_engine.proofs.check.checker.report_found.Goals as goal

-- a fault broke the manifest
pub returns-in-Err-Fault : goal.returns-in-Err-Fault
returns-in-Err-Fault g c =
    let is : c.args.found ≡ Err (Fault c.in-Err-Fault.fault) = search rules in
    rw (is, ← c.labels.view_is) c.write_err.ensures.text

-- no line was left
pub returns-in-Ok-None : goal.returns-in-Ok-None
returns-in-Ok-None g c =
    let is : c.args.found ≡ Ok None = search rules in
    rw is (rw (c.is_good.ensures, c.rules-rules.ensures, c.counts-counts.ensures.value) at c.put_summary.ensures)

-- a line was judged
pub returns-in_default : goal.returns-in_default
returns-in_default g c =
    let is : c.args.found ≡ Ok (Some c.in-Ok-Some.found) = search rules in
    rw is (rw (c.rules-rules.ensures, c.name-name.ensures.name) at c.put_report.ensures)

-- an ignored line has no text on standard output
none_out : (report : Report) (name : List ℕ) → out_by report Ignored name ≡ []
none_out report name = grind arith

-- nothing is written about an ignored line
pub returns-in-Ignored : goal.returns-in-Ignored
returns-in-Ignored g c =
    let is : c.args.found ≡ Ok (Some c.in-Ok-Some.found) = search rules in
    rw (is, c.in-Ignored.is, none_out) (record { writes = (refl, Gets-none, Gets-none); failures = refl })
