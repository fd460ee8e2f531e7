use Rattle.std.proofs.Common.{true, false, []}
use Rattle.sum_words.specs.messages.Help.{help, version}
use Rattle.digests.proofs.MessageLemmas.{Performs-texts}
use Rattle.digests.proofs.tool_run.run_request.Goals as goal

-- a fault's lines are written to standard error
pub returns-in-Err-clause-behavior : goal.returns-in-Err-clause-behavior
returns-in-Err-clause-behavior g c =
    rw (c.in-Err.is, ← c.streams.view_is) (Performs-texts _ _ _ [] false _ c.write_err.ensures.text)

-- the help stands on standard output
pub returns-in-Ok-Help-clause-behavior : goal.returns-in-Ok-Help-clause-behavior
returns-in-Ok-Help-clause-behavior g c = rw (c.in-Ok-Help.is, c.in-Ok-Help.field-0-is, ← c.streams-in-Ok-Help.view_is)
    (Performs-texts _ _ [] (help c.args.tool) true _ c.write_out.ensures.text)

-- the version likewise
pub returns-in-Ok-Version-clause-behavior : goal.returns-in-Ok-Version-clause-behavior
returns-in-Ok-Version-clause-behavior g c = rw
    (c.in-Ok-Version.is, c.in-Ok-Version.field-0-is, ← c.streams-in-Ok-Version.view_is)
    (Performs-texts _ _ [] (version c.args.tool) true _ c.write_out-in-Ok-Version.ensures.text)
