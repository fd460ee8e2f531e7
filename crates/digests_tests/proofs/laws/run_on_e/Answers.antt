use Rattle.std.proofs.Common.{[], ◌∷◌, codes}
use Rattle.sum_engine.specs.{Behavior.World, Execution.opened_names}
use Rattle.sum_words.specs.declared.tool.Tool.TheVariants.{Md5sum}
use Rattle.digests_tests.proofs.WorkedExamples.{good_run, empty_file}
use Rattle.digests_tests.proofs.laws.run_on_e.Goals as goal

-- the law, in the world of the files in memory
pub returns : goal.returns
returns g c = λ answer told empty.
    let a = c.args.streams.now in
    let ran = c.run-outcome.ensures in
    let w : World = record { answer = answer; opened = opened_names a.inputs } in
    good_run (codes "e" ∷ []) w a _ c.run-outcome.result _ (empty_file w (rw c.requires.start empty))
    (c.told_performs.ensures.meaning Md5sum (codes "e" ∷ []) answer a c.run-outcome.result told
    (rw c.requires.words at ran.behavior) ran.reads)
