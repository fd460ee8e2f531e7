use Rattle.std.proofs.Common.{inl, inr}
use Rattle.theorems.proofs.program.no_tool_performed.Goals as goal

pub returns : goal.returns
returns g c = λ all fits is. elim (c.command.ensures.behavior all fits) [
  | inl did ↦ inl (rw is at did)
  | inr refused ↦ inr (elim (rw is at refused.0) [ inl none ↦ absurd none | inr long ↦ long ], refused.1)
]
