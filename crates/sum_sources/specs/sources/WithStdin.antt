-- Standard input and a source of files, as one source.
use Rattle.std.specs.Prelude.{ℕ, zero, suc, true, false, ◌≡◌, List, [], ◌∷◌, codes, filter, not, Option, None, Some}
use Rattle.std.specs.Prelude.{Result, Ok, IfSome, if◌then◌else◌, option_map}
use Rattle.sum_sources.specs.{Fault.Fault}
use Rattle.sum_sources.specs.declared.sources.stdin_or_file.StdinOrFile.{StdinOrFile}
use Rattle.sum_sources.specs.declared.sources.stdin_or_file.StdinOrFile.TheVariants.{Stdin, File}
use Rattle.sum_sources.specs.inputs.{Input.Content, Input.InputState, Input.Reads}
use Rattle.sum_sources.specs.inputs.InputLog.{empty_content}
use Rattle.sum_sources.specs.inputs.{Stdin.StdinValue, Stdin.closable_state, Stdin.given_input, Stdin.is_untaken}
use Rattle.sum_sources.specs.inputs.{Stdin.stdin_after_taking, Stdin.stdin_after_put_back}
use Rattle.sum_sources.specs.sources.Source.{result_at, Answers, ToldAnswer, ToldAnswers, SourceState, Opening}
use Rattle.sum_sources.specs.sources.Source.{FitsAnswer, results_of, state_after_closing}
pub use Rattle.sum_sources.specs.Names.{is_dash}

-- what the first opening of a name gives, or what each later one does
abbrev pub first_or_later : {A : Type 0} → A → A → ℕ → A
first_or_later first later zero = first
first_or_later first later (suc k) = later

-- what both have in memory: first what standard input tells, as the answer to `-`, and then what the source has
abbrev pub pairs_with_stdin : Option Content → List ToldAnswer → List ToldAnswer
pairs_with_stdin stdin told = record { name = codes "-"; from = 0; answer = option_map Ok stdin } ∷ told

-- the answers of both: the first opening of `-` gives standard input, and each later one an empty content
abbrev pub answer_of_both : ToldAnswers → ToldAnswers
answer_of_both tells [] name k = None
answer_of_both tells (stdin ∷ told) name k =
    if is_dash name then first_or_later stdin.answer (Some (Ok empty_content)) k else tells told name k

-- the answers of both, if all are told
abbrev pub answers_with : Content → Answers → Answers
answers_with content answer name k =
    if is_dash name then first_or_later (Ok content) (Ok empty_content) k else answer name k

-- the state of both as one source: by standard input at first, the log of what both opened, and the source's state
abbrev pub with_stdin_state : {I : Type 0} → (I → InputState) → StdinValue I → SourceState → SourceState → SourceState
with_stdin_state state_of first log source = let stdin = (closable_state state_of (given_input first)).told in
    record source { told = pairs_with_stdin stdin source.told; openings = log.openings }

-- the openings of names other than `-`
abbrev pub other_openings : List Opening → List Opening
other_openings openings = filter (λ o. not (is_dash o.name)) openings

-- a source, without what it opened itself by the name `-`
abbrev pub state_without_dash : SourceState → SourceState
state_without_dash source = record source { openings = other_openings source.openings }

-- standard input is as it was at first if no opening of `-` is in the list; otherwise it is taken
abbrev pub IsUntakenUnlessOpened : {I : Type 0} → StdinValue I → StdinValue I → List (Option (Result Reads Fault))
    → Type 0
IsUntakenUnlessOpened first stdin [] = stdin ≡ first
IsUntakenUnlessOpened first stdin (x ∷ xs) = is_untaken stdin ≡ false

-- what opening `-` gave after k openings of it fits the answer, if one is told: an empty content for each k but 0
abbrev pub GivesStdin : InputState → ℕ → Option (Result Reads Fault) → Type 0
GivesStdin untaken k gave = IfSome (first_or_later (option_map Ok untaken.told) (Some (Ok empty_content)) k)
    (λ told. IfSome gave (FitsAnswer told))

-- the invariant of standard input at first and now, the openings of both, and those of the source
pub record IsSoundWithStdin {I : Type 0} (state_of : I → InputState) (first stdin : StdinValue I)
    (openings of_source : List Opening) : Type 0 where
  pub untaken : is_untaken first ≡ true
  pub place : IsUntakenUnlessOpened first stdin (results_of openings (codes "-"))
  pub given : (k : ℕ) → GivesStdin (closable_state state_of (given_input first)) k (result_at openings (codes "-") k)
  pub files : other_openings openings ≡ other_openings of_source  -- the other names were opened in the source

-- what was opened is what taking standard input gives
abbrev pub TakesStdin : {I F : Type 0} → StdinValue I → StdinValue I → StdinOrFile I F → Type 0
TakesStdin before after (Stdin given log) = (given ≡ given_input before) × (after ≡ stdin_after_taking before)
TakesStdin before after (File file) = ⊥

-- after closing `-`, standard input is put back; after closing another file, the source has closed it. The other part
-- is unchanged
abbrev pub parts_after_closing : {I F : Type 0} → (F → InputState) → StdinOrFile I F → StdinValue I → SourceState
    → StdinValue I × SourceState
parts_after_closing file_state (Stdin given log) stdin source = (stdin_after_put_back stdin given, source)
parts_after_closing file_state (File file) stdin source = (stdin, state_after_closing source (file_state file))
