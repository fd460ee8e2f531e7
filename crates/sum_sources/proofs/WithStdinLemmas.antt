-- `WithStdin`: what an opening and a closing keep.
use Rattle.std.proofs.Common.{◌≡◌, ℕ, true, false, List, [], ◌∷◌, ◌++◌, length, append-nil, Option, None, Some, Result}
use Rattle.std.proofs.Common.{Ok, IfSome, refl, ap, sym, ◌∙◌, codes, bytes_eq, arith}
use Rattle.std.proofs.lemmas.{List.Elements.filter-append, Slice.Eq.bytes_eq-Decides}
use Rattle.std.specs.{Option.option_and_then, Option.option_map, Prelude.◌==◌, Prelude.not, Prelude.if◌then◌else◌}
use Rattle.std.specs.{Prelude.slice_get, Result.result_ok}
use Rattle.sum_sources.specs.sources.Source.{AnswerValue, Opening, SourceState, ToldAnswers, names_of, times}
use Rattle.sum_sources.specs.sources.Source.{results_of, openings_after_closing, opened_file, IsOpen, FitsAnswer}
use Rattle.sum_sources.proofs.GaveLemmas.{same_name, none_agrees, of_content, gives-more, gives-closed, gave-times}
use Rattle.sum_sources.proofs.GaveLemmas.{gave-append, gave-opening, gave-closing}
use Rattle.sum_sources.specs.sources.WithStdin.{is_dash, first_or_later, answer_of_both, with_stdin_state}
use Rattle.sum_sources.specs.sources.WithStdin.{state_without_dash, other_openings, IsUntakenUnlessOpened, GivesStdin}
use Rattle.sum_sources.specs.sources.WithStdin.{IsSoundWithStdin}
use Rattle.sum_sources.specs.inputs.Input.{Content, InputState, Reads, HasContent, empty_reads}
use Rattle.sum_sources.specs.inputs.InputLog.{empty_content}
use Rattle.sum_sources.specs.inputs.Input.{Unfinished}
use Rattle.sum_sources.specs.inputs.Stdin.{is_untaken, StdinValue, GivesUnread, given_input, closable_state}
use Rattle.sum_sources.specs.inputs.Stdin.{stdin_after_taking, stdin_after_put_back}
use Rattle.sum_sources.specs.{Fault.Fault, Fault.Whole, declared.inputs.stdin.Closable.Closable}
use Rattle.sum_sources.specs.{declared.inputs.stdin.Closable.TheVariants.Closed, sources.SourceLaws.results-both}

-- names that differ also differ the other way round
turned : (a b : List ℕ) → bytes_eq a b ≡ false → bytes_eq b a ≡ false
turned a b apart = grind (arith, bytes_eq-Decides)

-- ---- what is in memory

-- a content is the content of the answer that it makes
ok_again : (c : Option Content) → option_and_then result_ok (option_map {U = AnswerValue} Ok c) ≡ c
ok_again c = grind arith

-- ---- the invariant

-- the openings without those of `-`: none of `-` is left
other_openings-dash : (os : List Opening) → results_of (other_openings os) (codes "-") ≡ []
other_openings-dash [] = refl
other_openings-dash (o ∷ os) = grind (arith, other_openings-dash os, turned (codes "-") o.name)

-- and what is left stays
other_openings-again : (os : List Opening) → other_openings (other_openings os) ≡ other_openings os
other_openings-again [] = refl
other_openings-again (o ∷ os) = grind (arith, other_openings-again os)

-- after one more opening
other_openings-opening : (os : List Opening) (o : Opening)
    → other_openings (os ++ o ∷ []) ≡ (if is_dash o.name then other_openings os else other_openings os ++ o ∷ [])
other_openings-opening os o =
    grind (arith, filter-append (λ (x : Opening). not (is_dash x.name)) os (o ∷ []), append-nil)

-- after a closing
other_openings-closing : (os : List Opening) (name : List ℕ) (k : ℕ) (r : Reads)
    → other_openings (openings_after_closing os name k r)
    ≡ (if is_dash name then other_openings os else openings_after_closing (other_openings os) name k r)
other_openings-closing [] name k r = grind arith
other_openings-closing (o ∷ os) name k r = grind (arith, other_openings-closing os, bytes_eq-Decides)

-- the invariant holds at first: nothing was read of standard input
pub kept_new : {I : Type 0} (state : I → InputState) (stdin : StdinValue I) (source : SourceState)
    → is_untaken stdin ≡ true → IsSoundWithStdin state stdin stdin (state_without_dash source).openings source.openings
kept_new state stdin source untaken = record {
  untaken = untaken;
  place = rw (other_openings-dash source.openings) refl;
  given = λ k. rw (other_openings-dash source.openings) (none_agrees _);
  files = other_openings-again source.openings;
}

module _ {I : Type 0} {state : I → InputState} {first stdin : StdinValue I} {os fs : List Opening}
    (kept : IsSoundWithStdin state first stdin os fs)
  where
    -- the invariant is kept if another name than `-` was opened in the source
    pub kept_opening : (name : List ℕ) (gave : Option (Result Reads Fault)) → is_dash name ≡ false
        → IsSoundWithStdin state first stdin (os ++ record { name = name; gave = gave } ∷ [])
        (fs ++ record { name = name; gave = gave } ∷ [])
    kept_opening name gave apart =
        let o : Opening = record { name = name; gave = gave } in
        let same : results_of (os ++ o ∷ []) (codes "-") ≡ results_of os (codes "-") =
        rw (gave-opening os o (codes "-"), turned (codes "-") name apart) refl in
        record {
          untaken = kept.untaken;
          place = rw same kept.place;
          given = rw same kept.given;
          files = rw (other_openings-opening os o, other_openings-opening fs o, apart, kept.files) refl;
        }

    -- the invariant is kept if `-` was opened
    pub kept_stdin : (name : List ℕ) (new : StdinValue I) → is_dash name ≡ true → new ≡ stdin_after_taking stdin
        → IsSoundWithStdin state first new (os ++ record { name = name; gave = None } ∷ []) fs
    kept_stdin name new is takes =
        let o : Opening = record { name = name; gave = None } in
        let same : codes "-" ≡ name = same_name (codes "-") name is in
        let more : results_of (os ++ o ∷ []) (codes "-") ≡ results_of os (codes "-") ++ None ∷ [] =
        gave-append os (o ∷ []) (codes "-") ∙ rw (← same) refl in
        record {
          untaken = kept.untaken;
          place = rw (more, takes) (grind arith);
          given = λ k. rw more (gives-more (GivesStdin (closable_state state (given_input first))) _ None k
              (none_agrees (first_or_later (option_map Ok (closable_state state (given_input first)).told)
              (Some (Ok empty_content)) _)) (kept.given k));
          files = rw (other_openings-opening os o, is) kept.files;
        }

    -- the invariant is kept if a file of another name than `-` was closed in the source
    pub kept_closing : (name : List ℕ) (k : ℕ) (r : Reads) → is_dash name ≡ false
        → IsSoundWithStdin state first stdin (openings_after_closing os name k r) (openings_after_closing fs name k r)
    kept_closing name k r apart =
        let same : results_of (openings_after_closing os name k r) (codes "-") ≡ results_of os (codes "-") =
        rw (gave-closing os name k r (codes "-"), turned (codes "-") name apart) refl in
        record {
          untaken = kept.untaken;
          place = rw same kept.place;
          given = rw same kept.given;
          files = rw (other_openings-closing os name k r, other_openings-closing fs name k r, apart, kept.files) refl;
        }

    -- the invariant is kept if standard input was put back
    pub kept_back : (name : List ℕ) (k : ℕ) (r : Reads) (given : Closable I) → is_dash name ≡ true
        → slice_get (results_of os name) k ≡ Some None
        → GivesStdin (closable_state state (given_input first)) k (Some (Ok r))
        → IsSoundWithStdin state first (stdin_after_put_back stdin given) (openings_after_closing os name k r) fs
    kept_back name k r given is was one =
        let same : codes "-" ≡ name = same_name (codes "-") name is in
        let now = gave-closing os (codes "-") k r (codes "-") in
        rw (← same) (record {
          untaken = kept.untaken;
          place = rw now (let here = rw (← same) at was in grind (arith, kept.place));
          given = λ j.
              rw now (gives-closed (GivesStdin (closable_state state (given_input first))) _ k j r one (kept.given j));
          files = rw (other_openings-closing os (codes "-") k r) kept.files;
        })

-- it was taken if `-` was opened
pub taken_if : {I : Type 0} (state : I → InputState) (first stdin : StdinValue I) (os fs : List Opening)
    → IsSoundWithStdin state first stdin os fs → is_untaken stdin ≡ (times (codes "-") (names_of os) == 0)
taken_if state first stdin os fs kept = rw (← gave-times os (codes "-")) (grind (arith, kept.place, kept.untaken))

-- ---- what was opened, and what is closed

module _ {I : Type 0} {state : I → InputState} {first stdin : StdinValue I} (tells : ToldAnswers)
    (log source : SourceState) (kept : IsSoundWithStdin state first stdin log.openings source.openings)
  where
    -- a name other than `-` was opened as often in the source as in both
    times_there : (name : List ℕ) → is_dash name ≡ false
        → times name (names_of source.openings) ≡ times name (names_of log.openings)
    times_there name apart =
        sym (gave-times source.openings name)
        ∙ ap length (sym (results-both log.openings source.openings kept.files name apart))
        ∙ gave-times log.openings name

    -- what opening `-` gives is standard input, as it was given
    pub stdin_opened : (name : List ℕ) (given : Closable I)
        → is_dash name ≡ true → given ≡ given_input stdin → GivesUnread state stdin
        → record (closable_state state given) { name = name; nth = times name (names_of log.openings) }
        ≡ opened_file (answer_of_both tells) (with_stdin_state state first log source) name
    stdin_opened name given is gives fresh =
        let same : codes "-" ≡ name = same_name (codes "-") name is in
        rw (← same, ← gave-times log.openings (codes "-")) (rw gives (by _ fresh kept.place))
      where
        empty : (place : StdinValue I) → is_untaken place ≡ false → given_input place ≡ Closed Whole Unfinished
        empty place is = grind arith

        by : (gs : List (Option (Result Reads Fault))) → GivesUnread state stdin → IsUntakenUnlessOpened first stdin gs
            → record (closable_state state (given_input stdin)) { name = codes "-"; nth = length gs } ≡ record {
              name = codes "-";
              nth = length gs;
              told = option_and_then (result_ok {E = Fault})
                  (first_or_later (option_map Ok (closable_state state (given_input first)).told)
                  (Some (Ok empty_content)) (length gs));
              reads = empty_reads;
            }
        by [] new was = rw (new, was) (rw (ok_again (closable_state state (given_input first)).told) refl)
        by (g ∷ gs) new was = rw (empty stdin was) refl

    -- what opening another name gives is a file of the source
    pub file_opened : (name : List ℕ) → is_dash name ≡ false
        → opened_file tells source name
        ≡ opened_file (answer_of_both tells) (with_stdin_state state first log source) name
    file_opened name apart =
        rw (apart, times_there name apart) refl

    -- a file of another name that is open is open in the source
    pub open_there : (file : InputState) → is_dash file.name ≡ false
        → IsOpen (answer_of_both tells) (with_stdin_state state first log source) file → IsOpen tells source file
    open_there file apart here = record {
      is_open = rw (← results-both log.openings source.openings kept.files file.name apart) here.is_open;
      told = rw apart at here.told;
    }

    -- what was read of standard input fits its answer, if one is told
    pub stdin_gives : (file : InputState) → HasContent file → is_dash file.name ≡ true
        → IsOpen (answer_of_both tells) (with_stdin_state state first log source) file
        → GivesStdin (closable_state state (given_input first)) file.nth (Some (Ok file.reads))
    stdin_gives file has is here =
        let same : codes "-" ≡ file.name = same_name (codes "-") file.name is in
        by (closable_state state (given_input first)).told file.nth (rw (← same) at here.told)
      where
        by : (stdin : Option Content) (k : ℕ)
            → file.told ≡ option_and_then (result_ok {E = Fault})
            (first_or_later (option_map Ok stdin) (Some (Ok empty_content)) k)
            → IfSome (first_or_later (option_map Ok stdin) (Some (Ok empty_content)) k)
            (λ told. FitsAnswer told (Ok file.reads))
        by stdin k told = grind (arith, of_content, has)
