-- The log of a source, which only proofs see.
use Rattle.std.specs.Prelude.{◌+◌, [], None, Some, Err}
use Rattle.sum_sources.specs.declared.sources.source_log.Note.{Note, TheVariants.Opened, TheVariants.Failed}
use Rattle.sum_sources.specs.declared.sources.source_log.Note.{TheVariants.Closed, TheVariants.Refused}
use Rattle.sum_sources.specs.sources.Source.{SourceState, ToldAnswers, state_with_opening}
use Rattle.sum_sources.specs.sources.Source.{state_after_closing}

-- the state of a source without openings that isn't in memory
abbrev pub no_openings : SourceState
no_openings = record { told = []; openings = []; refusals = 0 }

-- no answer is told
abbrev pub no_answer : ToldAnswers
no_answer told name k = None

-- the state of a source after one more note
abbrev pub state_after_note : SourceState → Note → SourceState
state_after_note source (Opened name) = state_with_opening source name.now None
state_after_note source (Failed name fault) = state_with_opening source name.now (Some (Err fault))
state_after_note source (Closed log) = state_after_closing source log.now
state_after_note source Refused = record source { refusals = source.refusals + 1 }
