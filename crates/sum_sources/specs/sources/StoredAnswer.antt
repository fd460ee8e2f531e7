-- What a source in memory has stored.
use Rattle.std.specs.Prelude.{List, map, Some, Ok, Err}
use Rattle.sum_sources.specs.{declared.sources.told_source.Answer.Answer, sources.Source.AnswerValue}
use Rattle.sum_sources.specs.{sources.Source.ToldAnswer, sources.Source.SourceState}
use Rattle.sum_sources.specs.declared.sources.stored_answer.StoredAnswer.{StoredAnswer}
use Rattle.sum_sources.specs.declared.sources.told_source.Answer.TheVariants as answers

-- an answer, by its fields
abbrev pub answer_view : Answer → AnswerValue
answer_view (answers.Fault fault) = Err fault
answer_view (answers.Content content ending) = Ok (record { bytes = content.now; ending = ending })

-- a pair, by its fields
abbrev pub pair_view : {A : Type 0} → StoredAnswer A → ToldAnswer
pair_view pair = record { name = pair.name.items; from = pair.from; answer = Some (answer_view pair.answer) }

-- the state of a source whose log has this state, with these pairs
abbrev pub state_with_pairs : {A : Type 0} → List (StoredAnswer A) → SourceState → SourceState
state_with_pairs pairs source = record source { told = map pair_view pairs }
