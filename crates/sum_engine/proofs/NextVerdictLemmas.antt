-- `Verdicts::next`: the next verdict of a manifest, by what reading and judging its line did.
use Rattle.std.proofs.Common.{rules, ◌≡◌, ◌≢◌, ℕ, ◌+◌, List, [], Some, Ok, Err, Result, ap, sym, arith, length}
use Rattle.std.proofs.Common.{length-drop}
use Rattle.sum_sources.{specs.inputs.Input.Content, specs.inputs.Input.InputState, proofs.LineLemmas.line-some}
use Rattle.sum_sources.{specs.sources.Source.SourceState}
use Rattle.sum_sources.specs.declared.line_reader.{LineStop.TheVariants.Fault, LineStop.TheVariants.Memory}
use Rattle.sum_sources.specs.declared.line_reader.{LineStop.LineStop, LineReader.LineReader, Next.Next}
use Rattle.sum_sources.specs.declared.line_reader.{Next.TheVariants.Line}
use Rattle.sum_sources.specs.LineReader.{IsBounded, IsReading, ReadsOn, TakesNextLine}
use Rattle.sum_sources.proofs.ReadOnLemmas.{ReadsOn-map}
use Rattle.sum_engine.specs.check.Verdicts.{CheckState, HandlesLine, next_judged, HoldsInEachCheck, IsNextVerdict}
use Rattle.sum_engine.specs.check.Verdicts.{VerdictsValue, state_at}
use Rattle.sum_engine.specs.{check.Judge.line_verdict, check.Judge.LineVerdict, check.Judge.line_verdict_value}
use Rattle.sum_engine.specs.{check.Judge.names_in_line, check.Counts.counts_and_line, Behavior.World, Execution.Agrees}
use Rattle.sum_engine.specs.{Execution.OpensNames, Execution.RefusesMemory, Execution.world_at}
use Rattle.sum_engine.specs.{private.Verdicts.TakesLine, private.Verdicts.parsed_at, check.Rules.CheckRules}
use Rattle.sum_lines.specs.grammar.Form.{form_then, line_form}
use Rattle.sum_engine.proofs.{WorldLemmas.world_at_after, RemainingLemmas.remaining_next}
use Rattle.sum_engine.proofs.{RemainingLemmas.first_names-next}

-- the reader of p read on, and came to this reader with this result and line
abbrev Reads : {I : Type 0} → (I → InputState) → VerdictsValue I → LineReader I → Result Next LineStop → List ℕ → Type 0
Reads state p reader result line =
    IsReading state p.reader → ReadsOn state p.reader reader (TakesNextLine p.reader reader result line)

-- the verdicts after a line was read, and judged
abbrev after_line : {I : Type 0} (p : VerdictsValue I) (reader : LineReader I) (line : List ℕ) (found : LineVerdict)
    → VerdictsValue I
after_line p reader line found = record p {
  reader = reader;
  form = form_then p.form (line_form p.rules.algo line);
  counts = counts_and_line p.counts found.verdict;
}

module _ {I : Type 0} {state : I → InputState} {p : VerdictsValue I} {a : SourceState} (vector : List ℕ)
    (reader : LineReader I) (bounds : IsBounded reader) (line : List ℕ)
  where
    -- a line was read, and judged: it is the first of those that remained
    pub next_verdict-line : {b : SourceState} (q : VerdictsValue I) (found : LineVerdict)
        → Reads state p reader (Ok Line) line → reader.lines ≡ p.reader.lines + 1 → TakesLine
        (record p { reader = reader }) q line vector (Ok found)
        → OpensNames a b (names_in_line (line_verdict_value vector found))
        → ((w : World) → Agrees w b → line_verdict_value vector found
        ≡ line_verdict p.rules (world_at w a) reader.lines (parsed_at p line))
        → HoldsInEachCheck state p q a b
        (λ c d. IsNextVerdict p.rules vector (RefusesMemory a b) c d (Ok (Some found)))
    next_verdict-line {b} q found reads number takes asked verdict = rw takes.now (record {
      reads = λ reading. ReadsOn-map (reads reading) (λ c d took w agrees.
          let q = after_line p reader line found in
          let first : CheckState = state_at p c (world_at w a) in
          let last : CheckState = state_at q d (world_at w b) in
          let f : next_judged p.rules first line ≡ line_verdict_value vector found =
          sym (rw number at (verdict w agrees)) in
          let sum = took.sum (λ fault is. cc) in
          let next = took.line in
          let handled : HandlesLine p.rules first last vector = search (rules, arith, next, sum, f) in
          let world = world_at_after w a b _ asked in
          (search (rules, remaining_next p.rules first last vector handled, f, world), handled));
    })

    -- a line was read, and memory to open its file was refused
    pub next_verdict-refused : {b : SourceState} (q : VerdictsValue I) → q.reader ≡ reader
        → Reads state p reader (Ok Line) line → reader.lines ≡ p.reader.lines + 1
        → ((w : World) → Agrees w b
        → names_in_line (line_verdict p.rules (world_at w a) reader.lines (parsed_at p line)) ≢ [])
        → HoldsInEachCheck state p q a b (λ c d. IsNextVerdict p.rules vector (RefusesMemory a b) c d (Err Memory))
    next_verdict-refused q is reads number verdict = record {
      reads = λ reading. rw is (ReadsOn-map (reads reading) (λ c d took w agrees.
          let sum = took.sum (λ fault is. cc) in
          let left = ap (λ (c : Content). length c.bytes) took.line.1 in (
            line-some c d line took.line,
            omega (arith, bounds.ahead, sum, left),
            λ refused. rw (first_names-next p.rules (state_at p c (world_at w a)) line _ took.line.0)
                (rw number at (verdict w agrees)),
          )));
    }

    -- the reader stopped
    pub next_verdict-stop : (r : CheckRules) → r ≡ p.rules → (stop : LineStop) → Reads state p reader (Err stop) line
        → HoldsInEachCheck state p (record p { reader = reader; outcome = Some (Err stop) }) a a
        (λ c d. IsNextVerdict r vector (RefusesMemory a a) c d (Err stop))
    next_verdict-stop r same (Fault f) reads = rw same (record {
      reads = λ reading. ReadsOn-map (reads reading) (λ c d took w agrees. let next = took.line in search next);
    })
    next_verdict-stop r same Memory reads = record {
      reads = λ reading. ReadsOn-map (reads reading) (λ c d took w agrees.
          let sum = took.sum (λ fault is. cc) in
          let left = ap (λ (c : Content). length c.bytes) took.line.1 in
          let never : RefusesMemory a a → ⊥ = λ no. omega (arith, ap (λ (s : SourceState). s.refusals) no) in (
            took.line.0,
            omega (arith, bounds.ahead, sum, left, length-drop {A = ℕ}),
            λ refused. absurd (never refused),
          ));
    }
