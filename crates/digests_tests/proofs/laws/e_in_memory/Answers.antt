use Rattle.std.proofs.Common.{arith, ◌≡◌, ◌∙◌, ap, refl, ◌∷◌, ◌++◌, [], Ok, Some, codes}
use Rattle.sum_engine.specs.Streams.{BothOutputs}
use Rattle.sum_lines.specs.sinks.Sink.{SinkState}
use Rattle.sum_sources.specs.sources.Source.{ToldAnswer, SourceState, first_answer, names_of, answer_of_first, times}
use Rattle.sum_sources.specs.{sources.WithStdin.answers_with, sources.WithStdin.pairs_with_stdin}
use Rattle.sum_sources.specs.inputs.InputLog.{empty_content}
use Rattle.digests_tests.proofs.laws.e_in_memory.Goals as goal

-- the file `e`, as the source has it
abbrev e : ToldAnswer
e = record { name = codes "e"; from = 0; answer = Some (Ok empty_content) }

-- all that is told is in memory: standard input and `e`
pub returns : goal.returns
returns c = λ zero.
    let with_e : SourceState → SourceState = λ s. record s {
      told = s.told ++ record e { from = times (codes "e") (names_of s.openings) } ∷ [];
    } in
    let added = c.in_ok-add.ensures.ok ∙ ap with_e c.new-source.ensures.state in
    let told : c.new-streams.result.inputs.told ≡ pairs_with_stdin (Some empty_content) (e ∷ []) =
    grind (arith, c.new-inputs.ensures.state, c.new-stdin.ensures.state, added, c.new.ensures.state) in
    let all =
    c.with_stdin_tells.ensures.answers empty_content answer_of_first (e ∷ []) (first_answer (e ∷ []))
    (λ name k. refl) in
    let wrote = c.command_on_e-status.ensures (answers_with empty_content (first_answer (e ∷ [])))
    (rw told all) refl zero in
    let none : c.new-streams.result.outputs.out.written ≡ [] =
    ap (λ (o : BothOutputs). o.out.written) c.new-streams.ensures.outputs ∙ c.new-2.ensures.empty in
    ap (λ (s : SinkState). s.output.written) c.into_inner.ensures.sink
    ∙ (rw (none, ← c.streams.view_is, ← c.streams-inside.view_is) at wrote)
