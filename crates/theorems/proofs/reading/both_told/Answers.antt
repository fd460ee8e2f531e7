use Rattle.std.proofs.Common.{refl}
use Rattle.sum_sources.specs.sources.WithStdin.{answers_with}
use Rattle.theorems.proofs.reading.both_told.Goals as goal

pub returns : goal.returns
returns c = λ stdin tells told answer all. (
  answers_with stdin answer,
  c.with_stdin_tells.ensures.answers stdin tells told answer all,
  refl,
  λ k. refl,
  λ name k other. rw other refl,
)
