use Rattle.std.proofs.Common.{Ok, [], ◌∷◌, ◌∙◌, ap, codes}
use Rattle.sum_engine.specs.{Behavior.World, Execution.opened_names, Streams.StreamsState}
use Rattle.sum_words.specs.CommandLine.{tool_called}
use Rattle.digests_tests.proofs.WorkedExamples.{does, ran_to_end, good_run, empty_file}
use Rattle.digests_tests.proofs.laws.command_on_e.Goals as goal

-- the law, in the world of the files in memory
pub returns : goal.returns
unfolding tool_called
returns g c = λ answer told empty zero.
    let did = c.command-status.ensures in
    let w : World = record { answer = answer; opened = opened_names c.args.streams.now.inputs } in
    let (v, agrees, are) = rw (ap (λ (s : StreamsState). s.inputs) c.streams.view_is) at c.told_agree.ensures.world in
    let (end, ran, same, out) = ran_to_end _ (does (codes "e" ∷ []) w) (λ needs. (v, agrees))
    (c.told_program_performs.ensures.meaning (codes "md5sum" ∷ codes "e" ∷ []) answer _ _
    (did.told ∙ c.requires.told) told
    did.behavior did.reads) zero in
    rw out (good_run (codes "e" ∷ []) w _ end (Ok 0) _ (empty_file w (rw c.requires.start empty)) ran).1
