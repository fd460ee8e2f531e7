use Rattle.sum_words.proofs.CommandLineLemmas.{any_longer, on_err}
use Rattle.sum_words.proofs.command_line.find_tool.Goals as goal

-- an argument is longer than a page
pub returns-in_err-path-clause-not_read : goal.returns-in_err-path-clause-not_read
returns-in_err-path-clause-not_read g c =
    on_err c.from_residual.result (λ all agrees. any_longer all c.in_err-path.ensures.not_read agrees)

-- the second one is
pub returns-in_err-word-clause-not_read : goal.returns-in_err-word-clause-not_read
returns-in_err-word-clause-not_read g c =
    on_err c.from_residual-in_err-word.result (λ all agrees. any_longer all c.in_err-word.ensures.not_read agrees)
