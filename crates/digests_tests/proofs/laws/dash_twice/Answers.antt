use Rattle.std.proofs.Common.{[], ◌∷◌, ◌++◌, codes, refl, append_assoc}
use Rattle.sum_engine.{proofs.BehaviorLemmas.events_extend, specs.Execution.Performs}
use Rattle.sum_words.specs.{declared.tool.Tool.TheVariants.Md5sum}
use Rattle.sum_words.specs.CommandLine.{tool_called}
use Rattle.digests.specs.{Program.fresh_output}
use Rattle.digests.specs.ToolRun.{meaning, status_of}
use Rattle.digests_tests.proofs.WorkedExamples.{ran_to_end, dash_twice}
use Rattle.digests_tests.proofs.laws.dash_twice.Goals as goal

-- the second `-` is empty in some world that agrees
pub returns-clause-line : goal.returns-clause-line
unfolding tool_called
returns-clause-line g c = λ are zero.
    let (w, agrees, later) = c.program.ensures.once in
    let run = meaning Md5sum (codes "-" ∷ codes "-" ∷ []) in
    let (end, did, same, out) = ran_to_end _ (Performs run status_of) (λ needs. (w, agrees))
    (c.program.ensures.behavior (codes "md5sum" ∷ codes "-" ∷ codes "-" ∷ []) are) zero in
    let (text, is) = dash_twice (record w { opened = [] }) refl (later 0) in
    let wrote = (events_extend (run (record w { opened = [] })) _ end (did w (rw same at agrees)).1).2 in
    ((fresh_output (g.O.Write.contents c.args.out)).written ++ text, rw (out, wrote, is, append_assoc) refl)
