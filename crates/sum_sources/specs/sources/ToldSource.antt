-- A source in memory.
use Rattle.sum_sources.specs.{declared.sources.told_source.ToldSource.ToldSource, sources.Source.SourceState}
use Rattle.sum_sources.specs.{sources.StoredAnswer.state_with_pairs}

-- the state of a source in memory
abbrev pub told_source_state : {A : Type 0} → ToldSource A → SourceState
told_source_state source = state_with_pairs source.pairs.items source.log
