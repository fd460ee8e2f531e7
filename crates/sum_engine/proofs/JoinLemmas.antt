-- `steps_join`: the steps of a new checker, one after another, by induction on the list of their vectors.
use Rattle.sum_sources.specs.declared.inputs.input.TheConstants.{PIECE}
use Rattle.std.proofs.Common.{◌≡◌, ℕ, zero, suc, ◌+◌, ◌≤◌, Bool, List, [], ◌∷◌, Result, Ok, append-nil, length, take}
use Rattle.std.proofs.Common.{refl, ap, sym, ◌∙◌, subst, arith, slice_index_or, map}
use Rattle.sum_engine.proofs.{BehaviorLemmas.behind_step, CheckLinesLemmas.remaining-initial}
use Rattle.sum_engine.proofs.{CheckLinesLemmas.last_performs, CheckLinesLemmas.last_step, ExecutionLemmas.Happened-none}
use Rattle.sum_engine.proofs.{ExecutionLemmas.Happened-then}
use Rattle.sum_engine.specs.{Behavior.World, Behavior.Behavior, Behavior.Step, Behavior.trace, Behavior.events_of}
use Rattle.sum_engine.specs.{Execution.Happened, Execution.PerformsSteps, Laws.TakesSteps, Laws.StepsJoin}
use Rattle.sum_engine.specs.{Streams.StreamsState, check.CheckOne.line_steps}
use Rattle.sum_engine.specs.check.Checker.{remaining_behavior, Ended, IsStep, behavior_from, end_result}
use Rattle.sum_engine.specs.check.{Judge.verdicts_of, Rules.LabelsValue, Rules.CheckRules, Verdicts.CheckState}
use Rattle.sum_engine.specs.check.{Verdicts.initial_state}
use Rattle.sum_lines.specs.{declared.reading.read_line.Form.Form, grammar.ParsedLines.parse_line}
use Rattle.sum_settings.specs.declared.stop.Stop.{Stop}
use Rattle.sum_sources.specs.{inputs.Input.Content}
use Rattle.sum_sources.specs.LineReader.{content_past_lines, lines_in}

module _ (r : CheckRules) (labels : LabelsValue) where
  -- if the end is the only step, there are no lines
  only_end : (end : List ℕ) (c : Content) (w : World) (n : ℕ) (f : Form) (s : Step) (ls : List (List ℕ))
      → line_steps r labels end c (verdicts_of r w n (map (parse_line r.algo f) ls)) ≡ s ∷ [] → ls ≡ []
  only_end end c w n f s [] is = refl
  only_end end c w n f s (l ∷ []) is = cc
  only_end end c w n f s (l ∷ k ∷ ls) is = cc

  -- what steps that go on do together, from the state a to the state b
  record Joined (a b : CheckState) (s t : StreamsState) (vectors : List (List ℕ)) : Type 0 where
    happened : Happened s t (trace (take (length vectors) (remaining_behavior r labels a).steps))
    remaining : b.remaining ≡ content_past_lines (length vectors) a.remaining
    consumed : b.consumed + length b.remaining.bytes ≡ a.consumed + length a.remaining.bytes
    taken : a.taken ≤ a.consumed + PIECE → b.taken ≤ b.consumed + PIECE
    vector_lens : (k : ℕ)
        → length (slice_index_or vectors k []) ≤ length (slice_index_or (lines_in a.remaining) k [])
    last : (x : Result Bool Stop) (vector : List ℕ) (d : CheckState) (z : StreamsState)
        → IsStep r labels vector b d t z (end_result x)
        → PerformsSteps (remaining_behavior r labels a).steps (remaining_behavior r labels a).good s z x
    ended : (good : Bool) (vector : List ℕ) (d : CheckState) (z : StreamsState)
        → IsStep r labels vector b d t z (Ok (Ended good)) → length vectors ≡ length (lines_in a.remaining)

  -- one step after another
  joined : (a b : CheckState) (s t : StreamsState) (vectors : List (List ℕ)) → TakesSteps r labels a b s t vectors
      → Joined a b s t vectors
  joined a b s t [] is = rw (is.0, is.1) (record {
    happened = Happened-none s;
    remaining = refl;
    consumed = refl;
    taken = λ low. low;
    vector_lens = λ k. omega arith;
    last = λ x v d z step. last_performs x step;
    ended = λ good v d z step. ap length (sym (only_end _ _ _ _ _ step.step (lines_in a.remaining)
        (ap (λ (q : Behavior). q.steps) step.is ∙ ap (λ steps. step.step ∷ steps) (last_step step).0)));
  })
  joined a b s t (v ∷ vectors) (next, between, step, more) =
      let (left, moves) = step.going refl in
      let is = step.is ∙ ap (behavior_from step.step) left in
      let did : Happened s between (events_of step.step) = rw append-nil at step.performs.1 in
      let later = joined next b between t vectors more in
      record {
        happened = subst (λ (q : Behavior). Happened s t (trace (take (suc (length vectors)) q.steps))) (sym is)
            (Happened-then (events_of step.step) _ did later.happened);
        remaining = later.remaining ∙ ap (content_past_lines (length vectors)) moves.remaining;
        consumed = later.consumed ∙ moves.consumed;
        taken = λ low. later.taken moves.taken;
        vector_lens = fits moves.line moves.lines moves.vector_len later.vector_lens;
        last = λ x v d z end. subst (λ (q : Behavior). PerformsSteps q.steps q.good s z x) (sym is)
            (behind_step z _ step.step (remaining_behavior r labels next).steps x did (later.last x v d z end));
        ended = λ good v d z end. ap suc (later.ended good v d z end) ∙ sym (ap length moves.lines);
      }
    where
      -- the first vector is no longer than its line, nor is any later one
      fits : {ls : List (List ℕ)} (line : List ℕ) {later : List (List ℕ)} → ls ≡ line ∷ later → length v ≤ length line
          → ((k : ℕ) → length (slice_index_or vectors k []) ≤ length (slice_index_or later k []))
          → (k : ℕ) → length (slice_index_or (v ∷ vectors) k []) ≤ length (slice_index_or ls k [])
      fits line are low rest zero = rw are low
      fits line are low rest (suc k) = rw are (rest k)

-- the law
pub steps_join : StepsJoin
steps_join r labels c w b s t vectors going =
    let h = joined r labels (initial_state c w) b s t vectors going in
    let all = remaining-initial r labels c w in
    record {
      happened = subst (λ (q : Behavior). Happened s t (trace (take (length vectors) q.steps))) all h.happened;
      taken = omega (arith, h.taken (omega arith), h.consumed, ap (λ (c : Content). length c.bytes) h.remaining);
      vector_lens = h.vector_lens;
      last = λ x v d z end. subst (λ (q : Behavior). PerformsSteps q.steps q.good s z x) all (h.last x v d z end);
      lines = h.ended;
    }
