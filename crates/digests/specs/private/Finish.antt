-- Relates what a run returned to the end of the program.
use Rattle.std.specs.Prelude.{ℕ, ◌≡◌, [], Option, None, Result, Ok, Err}
use Rattle.digest_kinds.specs.Bytes.{ByteString}
use Rattle.sum_settings.specs.declared.stop.Stop.{Stop}
use Rattle.sum_engine.specs.Streams.{BothOutputs, WritesAndReturns}
use Rattle.sum_words.specs.declared.tool.Tool.{Tool}
use Rattle.digests.specs.Program.{ReportsStop}

-- both outputs are given an empty text after a run that didn't stop
abbrev pub FlushesBoth : BothOutputs → BothOutputs → Result ℕ Stop → Result ℕ Stop → Type 0
FlushesBoth before after (Ok status) later = WritesAndReturns before after [] [] status later
FlushesBoth before after (Err stop) later = (later ≡ Err stop) × (after ≡ before)

-- the end of a run with this outcome: both outputs are flushed, and then a stop is reported
abbrev pub FinishesRun : Option Tool → Result ℕ Stop → BothOutputs → BothOutputs → ℕ → Type 0
FinishesRun tool outcome before after status = (later : Result ℕ Stop) × (between : BothOutputs)
    × FlushesBoth before between outcome later × ReportsStop tool later between after status

-- instead of a run, this text is written to standard error, and the status is 1
abbrev pub Refuses : ByteString → BothOutputs → BothOutputs → ℕ → Type 0
Refuses text before after status = (result : Result ℕ Stop) × (between : BothOutputs)
    × WritesAndReturns before between text [] 1 result × FinishesRun None result between after status
