-- Sources of files: which names one opened, and what it answered.
use Rattle.std.specs.Prelude.{ℕ, zero, suc, ◌≡◌, ◌+◌, ◌&&◌, List, [], ◌∷◌, ◌++◌, map, filter_map, slice_get, bytes_eq}
use Rattle.std.specs.Prelude.{nat_le, Option, None, Some, Result, Ok, Err, IfSome, MatchResult, unwrap_or}
use Rattle.std.specs.Prelude.{if◌then◌else◌}
use Rattle.std.specs.{Option.option_and_then, Option.option_flatten, Result.result_ok}
use Rattle.digest_kinds.specs.Bytes.{ByteString}
use Rattle.sum_sources.specs.{Fault.Fault, Fault.NotFound, declared.sources.source.OpenFault.OpenFault}
use Rattle.sum_sources.specs.{inputs.Input.Content, inputs.Input.InputState, inputs.Input.Reads, inputs.Input.Fits}
use Rattle.sum_sources.specs.{inputs.Input.empty_reads}
pub use Rattle.sum_sources.specs.{Content.AnswerValue, Names.times}
use Rattle.sum_sources.specs.declared.sources.source.OpenFault.TheVariants as open_faults

-- answers to each opening, by its name and by how many openings of that name came before
abbrev pub Answers : Type 0
Answers = ByteString → ℕ → AnswerValue

-- an opening
pub record Opening : Type 0 where
  pub name : ByteString
  pub gave : Option (Result Reads Fault)  -- what was read of the file, once it is closed; or the fault of opening it

-- the names that were opened
abbrev pub names_of : List Opening → List ByteString
names_of openings = map (λ o. o.name) openings

-- what the openings of a name gave, in their order
abbrev pub results_of : List Opening → ByteString → List (Option (Result Reads Fault))
results_of openings name = filter_map (λ o. if bytes_eq o.name name then Some o.gave else None) openings

-- what opening a name gave after k earlier openings of it; `None` if that opening isn't there, or its file isn't closed
abbrev pub result_at : List Opening → ByteString → ℕ → Option (Result Reads Fault)
result_at openings name k = option_flatten (slice_get (results_of openings name) k)

-- in memory: a name, and the answer, if one is told, to each opening of it that has at least this many before it
pub record ToldAnswer : Type 0 where
  pub name : ByteString
  pub from : ℕ
  pub answer : Option AnswerValue

-- the answers that a source tells, as any function of what it has in memory
abbrev pub ToldAnswers : Type 0
ToldAnswers = List ToldAnswer → ByteString → ℕ → Option AnswerValue

-- all answers are told, and they are these
abbrev pub TellsAll : ToldAnswers → List ToldAnswer → Answers → Type 0
TellsAll tells told answer = (name : ByteString) (k : ℕ) → tells told name k ≡ Some (answer name k)

-- what a list of pairs answers: the first pair with the name whose number is at most k decides; if there is none, the
-- answer is NotFound
abbrev pub first_answer : List ToldAnswer → Answers
first_answer [] name k = Err NotFound
first_answer (x ∷ xs) name k = if bytes_eq x.name name && nat_le x.from k
    then unwrap_or x.answer (Err NotFound) else first_answer xs name k

-- the answers of a source that tells what its pairs answer
abbrev pub answer_of_first : ToldAnswers
answer_of_first pairs name k = Some (first_answer pairs name k)

-- the state of a source
pub record SourceState : Type 0 where
  pub told : List ToldAnswer  -- what it has in memory, which no call changes
  pub openings : List Opening  -- in their order
  pub refusals : ℕ  -- how many openings were refused memory

-- what an opening gave fits an answer: what was read fits its content, or the fault is the answer
abbrev pub FitsAnswer : AnswerValue → Result Reads Fault → Type 0
FitsAnswer answer gave = MatchResult gave (λ r. (content : Content) × (answer ≡ Ok content) × Fits r content)
    (λ f. answer ≡ Err f)

-- if an answer is told for an opening, and the opening gave something, then that fits the answer
abbrev pub GivesTold : ToldAnswers → SourceState → Type 0
GivesTold tells source = (name : ByteString) (k : ℕ)
    → IfSome (tells source.told name k) (λ told. IfSome (result_at source.openings name k) (FitsAnswer told))

-- the content of the file of an opening, if one is told
abbrev pub content_at : ToldAnswers → SourceState → ByteString → ℕ → Option Content
content_at tells source name k = option_and_then result_ok (tells source.told name k)

-- the file that opening a name gives: nothing was read of it yet
abbrev pub opened_file : ToldAnswers → SourceState → ByteString → InputState
opened_file tells source name = let k = times name (names_of source.openings) in
    record { nth = k; name = name; told = content_at tells source name k; reads = empty_reads }

-- the source with one more opening
abbrev pub state_with_opening : SourceState → ByteString → Option (Result Reads Fault) → SourceState
state_with_opening source name gave = let opening : Opening = record { name = name; gave = gave } in
    record source { openings = source.openings ++ opening ∷ [] }

-- the source after it opened a name; if memory was refused, that is no opening
abbrev pub state_after_opening : {F : Type 0} → SourceState → ByteString → Result F OpenFault → SourceState
state_after_opening source name (Ok file) = state_with_opening source name None
state_after_opening source name (Err (open_faults.Fault fault)) = state_with_opening source name (Some (Err fault))
state_after_opening source name (Err open_faults.Memory) = record source { refusals = source.refusals + 1 }

-- this source opened this file, and hasn't closed it
pub record IsOpen (tells : ToldAnswers) (source : SourceState) (file : InputState) : Type 0 where
  pub is_open : slice_get (results_of source.openings file.name) file.nth ≡ Some None
  pub told : file.told ≡ content_at tells source file.name file.nth

-- the openings after a file was closed: its own, which has k of its name before it, gave `reads`. k counts down to it
abbrev pub openings_after_closing : List Opening → ByteString → ℕ → Reads → List Opening
openings_after_closing [] name k reads = []
openings_after_closing (x ∷ xs) name zero reads = if bytes_eq x.name name then record x { gave = Some (Ok reads) } ∷ xs
    else x ∷ openings_after_closing xs name zero reads
openings_after_closing (x ∷ xs) name (suc k) reads =
    x ∷ openings_after_closing xs name (if bytes_eq x.name name then k else suc k) reads

-- the source after this file was closed
abbrev pub state_after_closing : SourceState → InputState → SourceState
state_after_closing source file = let openings = source.openings in
    record source { openings = openings_after_closing openings file.name file.nth file.reads }
