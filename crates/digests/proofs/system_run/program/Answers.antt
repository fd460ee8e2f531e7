use Rattle.std.proofs.Common.{rules, arith, ◌≡◌, ◌⊎◌, ℕ, suc, List, [], ◌∷◌, Option, None, Some, Ok, IfSome, codes, inl}
use Rattle.std.proofs.Common.{inr, true, ap}
use Rattle.digest_kinds.specs.Bytes.{ByteString}
use Rattle.sum_engine.specs.{Behavior.World, Streams.StreamsState}
use Rattle.sum_lines.specs.sinks.Sink.{SinkState}
use Rattle.sum_sources.specs.{declared.fault.Ending.TheVariants.Broken, inputs.Input.Content}
use Rattle.sum_sources.specs.inputs.Stdin.{bad_descriptor}
use Rattle.sum_sources.specs.inputs.InputLog.{empty_content}
use Rattle.sum_sources.specs.sources.{Source.ToldAnswer, Source.ToldAnswers, WithStdin.answer_of_both}
use Rattle.sum_sources.specs.sources.{WithStdin.pairs_with_stdin}
use Rattle.digests.specs.Program.{fresh_output, fresh_streams}
use Rattle.digests.proofs.system_run.program.Goals as goal

-- streams over fresh sinks are fresh if nothing was opened
are_fresh : {p q : SinkState} (a b : StreamsState) (out err : Option ByteString) → a.inputs.openings ≡ []
    → a.inputs.refusals ≡ 0 → p ≡ record { output = fresh_output out; flushed = true }
    → q ≡ record { output = fresh_output err; flushed = true } → a.outputs ≡ record { out = p.output; err = q.output }
    → b.inputs.told ≡ a.inputs.told → a ≡ fresh_streams b.inputs.told out err
are_fresh a b out err openings refusals first second outputs told = grind arith

-- the streams were fresh
pub returns-clause-behavior : goal.returns-clause-behavior
returns-clause-behavior g c =
    let did = c.command-status.ensures in
    let start = c.new-streams.result in
    let openings : start.inputs.openings ≡ [] = grind (arith, c.new-2.ensures.state) in
    let refusals : start.inputs.refusals ≡ 0 = grind (arith, c.new-2.ensures.state) in
    rw (are_fresh start c.command-status.new.streams (g.O.Write.contents c.args.out) (g.E.Write.contents c.args.err)
    openings refusals c.new-3.ensures.state c.new-4.ensures.state c.new-streams.ensures.outputs did.reads.told)
    at did.behavior

-- standard input and files tell that a later `-` is empty
later_empty : {first : ToldAnswer} {told more : List ToldAnswer} (tells : ToldAnswers) (w : World) → told ≡ first ∷ more
    → ((name : ByteString) (k : ℕ) → IfSome (answer_of_both tells told name k) (λ told. w.answer name k ≡ told))
    → (k : ℕ) → w.answer (codes "-") (suc k) ≡ Ok empty_content
later_empty tells w is are k = rw is at (are (codes "-") (suc k))

-- standard input is open or closed, and a later `-` is empty in both cases
pub returns-clause-once : goal.returns-clause-once
returns-clause-once g c =
    let (w, agrees, are) = rw (ap (λ (s : StreamsState). s.inputs) c.streams.view_is) at c.told_agree.ensures.world in
    let told = c.command-status.new.streams.inputs.told in
    let closed : Content = record { bytes = []; ending = Broken bad_descriptor } in
    let alone : (told ≡ pairs_with_stdin None []) ⊎ (told ≡ pairs_with_stdin (Some closed) []) = search rules in
    (w, agrees, elim alone [ inl is ↦ later_empty _ w is are | inr is ↦ later_empty _ w is are ])

-- since the streams were fresh, all that was opened was opened by this call
pub returns-clause-reads : goal.returns-clause-reads
returns-clause-reads g c =
    let (more, are, read) = c.command-status.ensures.reads.openings in
    let openings : c.new-streams.result.inputs.openings ≡ [] = grind (arith, c.new-2.ensures.state) in
    rw (rw openings at are) read
