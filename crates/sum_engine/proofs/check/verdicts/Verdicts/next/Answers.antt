use Rattle.std.proofs.Common.{rules, arith, ◌≡◌, true, refl, ap, sym, ◌∙◌}
use Rattle.sum_lines.{proofs.EntryLemmas.ignored_undecided, specs.declared.reading.read_line.Form.TheVariants.Undecided}
use Rattle.sum_lines.{specs.grammar.Entries.is_ignored, specs.grammar.Form.form_then}
use Rattle.sum_engine.proofs.{NextVerdictLemmas.next_verdict-line, NextVerdictLemmas.next_verdict-refused}
use Rattle.sum_engine.proofs.{NextVerdictLemmas.next_verdict-stop, WorldLemmas.asks_none}
use Rattle.sum_engine.specs.check.Verdicts.{VerdictsValue}
use Rattle.sum_engine.proofs.check.verdicts.Verdicts.next.Goals as goal

-- the line was judged
pub returns-in-Ok-clause-verdict : goal.returns-in-Ok-clause-verdict
returns-in-Ok-clause-verdict g c =
    let read = rw c.in-Ok-Line.field-0-is at c.in-Ok-Line.ensures in
    let done = c.in-Ok.ensures in
    rw (← c.self.view_is) (λ going. next_verdict-line _ c.next_line.new.self read.bounds c.next_line.new.line.items
    c.judge_line.new.self c.in-Ok.found read.line read.reader.lines done.takes done.opened done.verdict)

-- the line is ignored
pub returns-then-is_ignored-clause-verdict : goal.returns-then-is_ignored-clause-verdict
returns-then-is_ignored-clause-verdict g c =
    let read = rw c.in-Ok-Line.field-0-is at c.in-Ok-Line.ensures in
    let line = c.next_line.new.line.items in
    let ignored : is_ignored line ≡ true =
    rw c.deref.ensures.value at (sym c.is_ignored.ensures.value ∙ c.if-is_ignored.true) in
    let undecided = ignored_undecided c.self.inside.rules.algo line ignored in
    let same : form_then c.self.inside.form Undecided ≡ c.self.inside.form = grind arith in
    let count = c.count_verdict.ensures in
    rw (← c.self.view_is) (λ going. next_verdict-line line c.next_line.new.self read.bounds line
    c.count_verdict.new.self c.count_verdict.result read.line read.reader.lines (record {
      now = rw (undecided, same, count.is) count.counts;
      name_range = rw count.is (search (rules, arith));
      len = search arith;
    }) (rw count.is (asks_none _)) (λ w agrees. rw (count.is, ignored) refl))

-- there was no memory to open the file of the line's entry
pub returns-in-Err-judge_line-clause-verdict : goal.returns-in-Err-judge_line-clause-verdict
returns-in-Err-judge_line-clause-verdict g c =
    let read = rw c.in-Ok-Line.field-0-is at c.in-Ok-Line.ensures in
    let done = c.in-Err-judge_line.ensures in
    rw (c.from-stop.ensures, ← c.self.view_is) (λ going. next_verdict-refused c.judge_line.new.line.items
    c.next_line.new.self read.bounds c.next_line.new.line.items _
    (ap (λ (q : VerdictsValue _). q.reader) (c.self-2.view_is ∙ done.takes.now)) read.line read.reader.lines
    done.verdict)

-- the reader stopped
pub returns-in-Err-clause-verdict : goal.returns-in-Err-clause-verdict
returns-in-Err-clause-verdict g c =
    let read = c.in-Err.ensures in
    let rules = ap (λ (p : VerdictsValue _). p.rules) (sym c.self.view_is) in
    rw (← c.self.view_is) (λ going. next_verdict-stop c.next_line.new.line.items c.next_line.new.self read.bounds
    c.next_line.new.line.items _ rules c.in-Err.stop read.line)
