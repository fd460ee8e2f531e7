use Rattle.digests.proofs.command_run.refuse.Goals as goal

-- the message was written, and then the run ended
pub returns-clause-refusal : goal.returns-clause-refusal
returns-clause-refusal g c =
    let wrote = c.write_err-outcome in (wrote.result, wrote.new.self, wrote.ensures.text, c.finish_run.ensures.finish)
