use Rattle.std.proofs.Common.{inl, inr}
use Rattle.theorems.proofs.program.tool_performed.Goals as goal

pub returns : goal.returns
returns g c = λ all fits tool words is. elim (c.command.ensures.behavior all fits) [
  | inl did ↦ inl (rw is at did)
  | inr refused ↦ inr refused
]
