-- Relates a job to what it does with an operand.
use Rattle.digest_kinds.specs.Bytes.{ByteString}
use Rattle.sum_engine.specs.{Behavior.World, Behavior.Behavior, Generate.generate_behavior}
use Rattle.sum_engine.specs.{check.CheckOne.check_behavior}
use Rattle.digests.specs.declared.tool_run.Job.{Job, TheVariants.Generate, TheVariants.Check}

-- the behavior of one operand of a job
abbrev pub operand_behavior : Job → ByteString → World → ByteString → Behavior
operand_behavior (Generate settings) tool world name = generate_behavior settings tool world name
operand_behavior (Check settings) tool world name = check_behavior settings tool world name
