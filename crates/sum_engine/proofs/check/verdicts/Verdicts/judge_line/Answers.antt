use Rattle.std.proofs.{Common.◌≡◌, Common.slice_range, Common.refl, Common.sym, lemmas.Result.err_from_is_err_and}
use Rattle.sum_lines.specs.grammar.{Entries.EntryValue, ParsedLines.entry}
use Rattle.sum_engine.specs.private.Verdicts.{parsed_at}
use Rattle.sum_engine.proofs.check.verdicts.Verdicts.judge_line.Goals as goal

-- an entry was judged
pub returns-in_ok-verdict-in-Entry-clause-verdict : goal.returns-in_ok-verdict-in-Entry-clause-verdict
returns-in_ok-verdict-in-Entry-clause-verdict g c =
    let listed = c.in-Entry in
    let name = slice_range c.read_line-reading.new.line.items listed.start listed.stop in
    let s : EntryValue = record { kind = listed.kind; digest = listed.digest; name = name } in
    let read = c.read_line-reading.ensures in
    let said : parsed_at c.args.self.now c.args.line.now.items ≡ entry s =
    rw (← c.self.view_is) (sym (rw (listed.is, read.form) at read.parsed)) in
    let judged = rw c.deref.ensures.value at c.in_ok-verdict-in-Entry.ensures.verdict in
    rw c.count_verdict-in-Entry.ensures.is (λ w agrees. rw (said, judged w agrees)
    (rw (← c.self.view_is) refl))

-- memory to open an entry's file was refused
pub returns-in_err-verdict-in-Entry-clause-verdict : goal.returns-in_err-verdict-in-Entry-clause-verdict
returns-in_err-verdict-in-Entry-clause-verdict g c =
    let listed = c.in-Entry in
    let name = slice_range c.read_line-reading.new.line.items listed.start listed.stop in
    let s : EntryValue = record { kind = listed.kind; digest = listed.digest; name = name } in
    let read = c.read_line-reading.ensures in
    let said : parsed_at c.args.self.now c.args.line.now.items ≡ entry s =
    rw (← c.self.view_is) (sym (rw (listed.is, read.form) at read.parsed)) in
    let judged = rw c.deref.ensures.value at c.in_err-verdict-in-Entry.ensures.verdict in
    let stop = err_from_is_err_and c.from_residual.result c.from_residual.ensures.1 in
    rw stop.1 (λ w agrees. rw said (rw (← c.self.view_is) (judged w agrees)))
