use Rattle.std.proofs.{Common.refl, Common.true, Common.false, Common.Ok, Common.Err, lemmas.Result.err_from_is_err_and}
use Rattle.sum_engine.proofs.{BehaviorLemmas.Performs-step, BehaviorLemmas.Performs-refused, GenerateLemmas.fault_found}
use Rattle.sum_engine.proofs.{GenerateLemmas.one_step, GenerateLemmas.refused_memory, HashLemmas.hashes_name}
use Rattle.sum_engine.proofs.{WorldLemmas.reads_weaker}
use Rattle.sum_engine.specs.{Behavior.World, Generate.generate_behavior}
use Rattle.sum_engine.proofs.generate.generate_one.Goals as goal

-- the name was read, and its line written
pub returns-in-Ok-clause-behavior : goal.returns-in-Ok-clause-behavior
returns-in-Ok-clause-behavior g c =
    let one = λ (w : World). generate_behavior c.args.settings.now c.args.tool.now w c.args.name.now in
    let done = hashes_name (Ok c.in-Ok.digest) c.in-Ok.ensures.hashed in
    rw (← c.streams.view_is) (Performs-step one (λ g. g) true _ _ done.opened
    (λ w agrees. rw (done.hash w agrees) refl) c.write_out.ensures.text)

pub returns-in-Ok-clause-reads : goal.returns-in-Ok-clause-reads
returns-in-Ok-clause-reads g c =
    rw (← c.streams.view_is) (reads_weaker (λ good. tt) (hashes_name (Ok c.in-Ok.digest) c.in-Ok.ensures.hashed).reads)

-- the name could not be opened or read, and the line of its fault was written
pub returns-in_ok-fault-in-Err-clause-behavior : goal.returns-in_ok-fault-in-Err-clause-behavior
returns-in_ok-fault-in-Err-clause-behavior g c =
    let one = λ (w : World). generate_behavior c.args.settings.now c.args.tool.now w c.args.name.now in
    let hashed = hashes_name (Err c.in-Err.failed) c.in-Err.ensures.hashed in
    let found = fault_found c.in-Err.failed _ c.in_ok-fault-in-Err.ensures hashed in
    rw (← c.streams.view_is) (Performs-step one (λ g. g) false _ _ found.0
    (λ w agrees. rw (found.1 w agrees) refl) c.write_err.ensures.text)

pub returns-in_ok-fault-in-Err-clause-reads : goal.returns-in_ok-fault-in-Err-clause-reads
returns-in_ok-fault-in-Err-clause-reads g c =
    rw (← c.streams.view_is) (reads_weaker (λ good. let no = (rw good at c.write_err.ensures.text.writes).0 in cc)
    (hashes_name (Err c.in-Err.failed) c.in-Err.ensures.hashed).reads)

-- there was no memory to open the name
pub returns-in_err-fault-in-Err-clause-behavior : goal.returns-in_err-fault-in-Err-clause-behavior
returns-in_err-fault-in-Err-clause-behavior g c =
    let stop = err_from_is_err_and c.from_residual.result c.from_residual.ensures.1 in
    let hashed = hashes_name (Err c.in-Err.failed) c.in-Err.ensures.hashed in
    rw (stop.1, stop.2, ← c.streams.view_is) (Performs-refused
    (λ w. generate_behavior c.args.settings.now c.args.tool.now w c.args.name.now) (λ g. g) _ _
    (λ w. one_step c.args.settings.now c.args.tool.now c.args.name.now _)
    (refused_memory c.in-Err.failed _ c.in_err-fault-in-Err.ensures hashed) refl)
