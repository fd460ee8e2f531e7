use Rattle.std.proofs.Common.{◌∙◌, List, [], ◌∷◌, ◌++◌, ap, arith, refl, subst, sym}
use Rattle.sum_engine.specs.{check.Counts.counts_of, check.Judge.LineVerdictValue, check.Judge.line_verdict_value}
use Rattle.sum_engine_tests.proofs.{CountingLemmas.last_wrong, counting.count_lines.Goals.in-Ok-None}
use Rattle.sum_engine_tests.proofs.{counting.count_lines.Goals.in-Err}
use Rattle.sum_sources.specs.inputs.Input.{Fits, Reads}
use Rattle.sum_engine_tests.proofs.counting.count_lines.Goals as goal

-- nothing was counted yet
pub lines-init : goal.lines-init
lines-init g c = record {
  returned = [];
  so_far = c.verdicts_join.ensures.start _ _ c.requires.start.outcome;
  all = c.all_reads.ensures.unread c.args.verdicts.reader c.requires.unread;
  wrong = refl;
  few = omega arith;
}

-- one more line was counted
pub lines-preserved : goal.lines-preserved
lines-preserved g c =
    let h = c.lines.invariant in
    let next = c.in-Ok-Some.ensures in
    let is = c.in-Ok-Some.field-0-is in
    let moves = rw is at (next.advances h.so_far.outcome) in
    let found = c.in-Ok-Some.found in
    let vector = c.next.new.line.items in
    let lines = rw moves.found at moves.reader.lines in
    record {
      returned = h.returned ++ line_verdict_value vector found ∷ [];
      so_far = c.verdicts_join.ensures.line _ _ _ _ _ _ h.returned vector found h.so_far (record {
        outcome = rw is at next.outcome.kept;
        rules = moves.rules;
        verdict = rw is at (next.verdict h.so_far.outcome);
        reads = moves.reads;
      });
      all = c.all_reads.ensures.call _ _ _ moves.reader h.all;
      wrong = last_wrong h.returned (line_verdict_value vector found) ∙ c.with_verdict-count.ensures.value _ h.wrong;
      few = omega (arith, h.few, c.with_verdict-count.ensures.at_most, lines);
    }

-- no line was left, or a call stopped
pub returns : goal.returns
returns g c = λ content fits world agrees.
    let h = c.lines.invariant in
    let next = c.next.ensures in
    let moves = next.advances h.so_far.outcome in
    let all = c.all_reads.ensures.call _ _ _ moves.reader h.all in
    let own = subst (λ reads. Fits reads content) (sym all) (rw c.into_inner.ensures.input at fits) in
    let unfinished = ap (λ (reads : Reads). reads.phase) c.requires.unread in
    let last = c.verdicts_join.ensures.end _ _ _ _ _ _ h.returned c.next.new.line.items c.next.result _ h.so_far
    (record {
      outcome = next.outcome.kept;
      rules = moves.rules;
      verdict = next.verdict h.so_far.outcome;
      reads = moves.reads;
    }) c.requires.start unfinished content own world agrees in
    elim c.match-next.branch [
      | in-Ok-None w ↦
          let are = (rw (w.in-Ok-None.is, w.in-Ok-None.field-0-is) at last).0 in
          rw w.result-is (sym h.wrong ∙ ap (λ (l : List LineVerdictValue). (counts_of l).wrong) (sym are))
      | in-Err w ↦ rw w.result-is tt
    ]
