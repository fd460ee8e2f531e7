use Rattle.std.proofs.Common.{◌∙◌}
use Rattle.theorems.proofs.program.told_command_performed.Goals as goal

pub returns : goal.returns
returns g c = λ all answer told tells.
    let did = c.command-status.ensures in
    c.told_program_performs.ensures.meaning all answer _ _ (did.told ∙ told) tells did.behavior did.reads
