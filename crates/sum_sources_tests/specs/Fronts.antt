-- A source that computes its answers: each file holds the front of one text that is as long as the file's name.
use Rattle.std.specs.{Option.option_map, Prelude.length, Prelude.take, Prelude.List, Prelude.[], Prelude.◌∷◌}
use Rattle.std.specs.{Prelude.None, Prelude.Some, Prelude.Ok, Prelude.Err}
use Rattle.digest_kinds.specs.Bytes.{ByteString}
use Rattle.sum_sources.specs.{declared.fault.Ending.TheVariants.Whole, inputs.Input.Content, sources.Source.AnswerValue}
use Rattle.sum_sources.specs.{sources.Source.ToldAnswer, sources.Source.SourceState, sources.Source.ToldAnswers}

-- a content that ends whole
abbrev pub whole : ByteString → Content
whole bytes = record { bytes = bytes; ending = Whole }

-- what the source has in memory: its text, in one pair
abbrev pub told_text : ByteString → List ToldAnswer
told_text text = record { name = []; from = 0; answer = Some (Ok (whole text)) } ∷ []

-- the front of the text that is as long as the name
abbrev pub front_answer : AnswerValue → ByteString → AnswerValue
front_answer (Ok text) name = Ok (whole (take (length name) text.bytes))
front_answer (Err f) name = Err f

-- the answers that the fronts tell
abbrev pub tells_fronts : ToldAnswers
tells_fronts [] name k = None
tells_fronts (text ∷ others) name k = option_map (λ text. front_answer text name) text.answer

-- the state of a source of this text, by its log
abbrev pub fronts_state : ByteString → SourceState → SourceState
fronts_state text log = record log { told = told_text text }
