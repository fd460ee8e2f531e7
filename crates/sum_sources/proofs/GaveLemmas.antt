-- What the openings of a name gave, after one more opening and after a closing.
use Rattle.std.proofs.Common.{rules, ◌≡◌, ℕ, zero, suc, Bool, true, false, List, [], ◌∷◌, ◌++◌, length, slice_set}
use Rattle.std.proofs.Common.{Option, None, Some, Result, Ok, IfSome, refl, ap, sym, ◌∙◌, append-nil, bytes_eq, arith}
use Rattle.std.{proofs.lemmas.List.Elements.filter_map-append, proofs.lemmas.List.Sums.sum_by-cons}
use Rattle.std.{proofs.lemmas.Slice.Eq.bytes_eq-Decides, specs.Option.option_flatten, specs.Prelude.slice_get}
use Rattle.std.{specs.Prelude.if◌then◌else◌}
use Rattle.sum_sources.specs.{Fault.Fault, inputs.HashInput.HashesInput, inputs.Input.Content, inputs.Input.Reads}
use Rattle.sum_sources.specs.{inputs.Input.InputState, inputs.Input.HasContent, inputs.Input.IsSameInput}
use Rattle.sum_sources.specs.{sources.HashFile.HashesOpened}
use Rattle.sum_sources.specs.sources.Source.{AnswerValue, Opening, SourceState, ToldAnswers, IsOpen, FitsAnswer}
use Rattle.sum_sources.specs.sources.Source.{GivesTold, names_of, times, results_of, openings_after_closing}
use Rattle.sum_sources.specs.sources.Source.{opened_file, state_with_opening, state_after_closing}
use Rattle.digest_kinds.specs.Kind.{KindValue}

-- names that the test finds equal are equal
pub same_name : (a b : List ℕ) → bytes_eq a b ≡ true → a ≡ b
same_name a b is = (bytes_eq-Decides a b).0 is

-- each name is found equal to itself
pub is_same : (a : List ℕ) → bytes_eq a a ≡ true
is_same a = (bytes_eq-Decides a a).1 refl

-- what follows from either answer to a test holds
pub true_or_false : {P : Type 0} (b : Bool) → (b ≡ true → P) → (b ≡ false → P) → P
true_or_false true f g = f refl
true_or_false false f g = g refl

-- nothing has to hold of an opening that is open, or that wasn't made
pub none_agrees : (told : Option AnswerValue) → IfSome told (λ told. IfSome None (FitsAnswer told))
none_agrees told = grind arith

-- what was read of a file in memory fits its content
pub of_content : (file : InputState) (c : Content) → HasContent file → file.told ≡ Some c
    → FitsAnswer (Ok c) (Ok file.reads)
of_content file c has told = let fits = rw told at has.1 in (c, refl, rw (sym fits) has.2)

-- one more name counts if it is that name
times-more : (name other : List ℕ) (names : List (List ℕ))
    → times name (other ∷ names) ≡ (if bytes_eq other name then suc (times name names) else times name names)
times-more name other names = sum_by-cons _ other names ∙ grind arith

-- what the openings of a name gave is as long as the list of these openings
pub gave-times : (os : List Opening) (name : List ℕ) → length (results_of os name) ≡ times name (names_of os)
gave-times [] name = refl
gave-times (o ∷ os) name = grind (arith, gave-times os name, times-more name o.name (names_of os))

-- what the openings of a name gave, of some openings followed by others
pub gave-append : (xs ys : List Opening) (name : List ℕ)
    → results_of (xs ++ ys) name ≡ results_of xs name ++ results_of ys name
gave-append xs ys name = filter_map-append _ xs ys

-- what the openings of a name gave, after one more opening
pub gave-opening : (os : List Opening) (o : Opening) (name : List ℕ) → results_of (os ++ o ∷ []) name
    ≡ (if bytes_eq o.name name then results_of os name ++ o.gave ∷ [] else results_of os name)
gave-opening os o name = grind (arith, gave-append os (o ∷ []) name, append-nil)

-- what the opening gave that has this many before it
gave-here : (gs more : List (Option (Result Reads Fault))) (g : Option (Result Reads Fault))
    → slice_get (gs ++ g ∷ more) (length gs) ≡ Some g
gave-here [] more g = refl
gave-here (x ∷ gs) more g = gave-here gs more g

-- the same, of an opening between others
pub gave-seam : (before later : List Opening) (name : List ℕ) (gave : Option (Result Reads Fault))
    → slice_get (results_of (before ++ record { name = name; gave = gave } ∷ later) name) (times name (names_of before))
    ≡ Some gave
gave-seam before later name gave =
    let o : Opening = record { name = name; gave = gave } in
    rw (gave-append before (o ∷ later) name, is_same name, ← gave-times before name)
    (gave-here (results_of before name) (results_of later name) gave)

-- what was opened last is open
pub is_open_last : (tells : ToldAnswers) (a m : SourceState) (name : List ℕ) (s t : InputState)
    → s ≡ opened_file tells a name → m ≡ state_with_opening a name None → IsSameInput s t → IsOpen tells m t
is_open_last tells a m name s t is opens same =
    let here = gave-seam a.openings [] name None in rw (same, is, opens) (record { is_open = here; told = refl })

-- a closing keeps the names
pub names-closed : (os : List Opening) (name : List ℕ) (k : ℕ) (r : Reads)
    → names_of (openings_after_closing os name k r) ≡ names_of os
names-closed [] name k r = refl
names-closed (o ∷ os) name k r = grind (arith, names-closed os)

-- a closing sets what its opening gave, and keeps what the openings of another name gave
pub gave-closing : (os : List Opening) (name : List ℕ) (k : ℕ) (r : Reads) (other : List ℕ)
    → results_of (openings_after_closing os name k r) other
    ≡ (if bytes_eq name other then slice_set (results_of os other) k (Some (Ok r)) else results_of os other)
gave-closing [] name k r other = grind arith
gave-closing (o ∷ os) name k r other = grind (arith, gave-closing os, bytes_eq-Decides)

-- ---- what holds of each opening, one by one

-- what opening a name gave, by what all its openings gave
abbrev given : List (Option (Result Reads Fault)) → ℕ → Option (Result Reads Fault)
given gs k = option_flatten (slice_get gs k)

-- a statement on what each opening gave stays true after one more opening, if it is true of that one
pub gives-more : (P : ℕ → Option (Result Reads Fault) → Type 0) (gs : List (Option (Result Reads Fault)))
    (g : Option (Result Reads Fault)) (k : ℕ) → P (length gs) g → P k (given gs k) → P k (given (gs ++ g ∷ []) k)
gives-more P [] g zero one h = one
gives-more P [] g (suc k) one h = h
gives-more P (x ∷ gs) g zero one h = h
gives-more P (x ∷ gs) g (suc k) one h = gives-more (λ j. P (suc j)) gs g k one h

-- a statement on what each opening gave stays true after a closing, if it is true of the closed file
pub gives-closed : (P : ℕ → Option (Result Reads Fault) → Type 0) (gs : List (Option (Result Reads Fault)))
    (i k : ℕ) (r : Reads) → P i (Some (Ok r)) → P k (given gs k) → P k (given (slice_set gs i (Some (Ok r))) k)
gives-closed P [] i k r one h = h
gives-closed P (g ∷ gs) zero zero r one h = one
gives-closed P (g ∷ gs) zero (suc k) r one h = h
gives-closed P (g ∷ gs) (suc i) zero r one h = h
gives-closed P (g ∷ gs) (suc i) (suc k) r one h = gives-closed (λ j. P (suc j)) gs i k r one h

-- ---- the law of a source is kept

-- a source gives what it tells after one more opening, if that opening gives what is told
pub opening_gives : (tells : ToldAnswers) (s : SourceState) (name : List ℕ) (gave : Option (Result Reads Fault))
    → IfSome (tells s.told name (times name (names_of s.openings))) (λ told. IfSome gave (FitsAnswer told))
    → GivesTold tells s → GivesTold tells (state_with_opening s name gave)
opening_gives tells s name gave one was other k =
    rw (gave-opening s.openings (record { name = name; gave = gave }) other) (true_or_false (bytes_eq name other)
    (λ is. rw is (gives-more (λ j g. IfSome (tells s.told other j) (λ told. IfSome g (FitsAnswer told))) _ gave k
    (rw (gave-times s.openings other, ← same_name name other is) one) (was other k)))
    (λ is. rw is (was other k)))

-- the same, if the opening gives a file, of which nothing is known yet
pub open_gives : (tells : ToldAnswers) (s : SourceState) (name : List ℕ)
    → GivesTold tells s → GivesTold tells (state_with_opening s name None)
open_gives tells s name =
    opening_gives tells s name None (none_agrees (tells s.told name (times name (names_of s.openings))))

-- a source gives what it tells after a closing, if the file is in memory
pub closing_gives : (tells : ToldAnswers) (s : SourceState) (file : InputState) (c : Content) → HasContent file
    → file.told ≡ Some c → tells s.told file.name file.nth ≡ Some (Ok c) → GivesTold tells s
    → GivesTold tells (state_after_closing s file)
closing_gives tells s file c has told is was other j =
    rw (gave-closing s.openings file.name file.nth file.reads other) (true_or_false (bytes_eq file.name other)
    (λ one. rw (one, ← same_name file.name other one)
    (gives-closed (λ k g. IfSome (tells s.told file.name k) (λ told. IfSome g (FitsAnswer told))) _ file.nth j
    file.reads (rw is (of_content file c has told)) (was file.name j)))
    (λ two. rw two (was other j)))

-- the opening that was closed stands between others
pub closed-seam : (before later : List Opening) (o : Opening) (r : Reads)
    → openings_after_closing (before ++ o ∷ later) o.name (times o.name (names_of before)) r
    ≡ before ++ record o { gave = Some (Ok r) } ∷ later
closed-seam [] later o r = rw (is_same o.name) refl
closed-seam (x ∷ xs) later o r = grind (arith, closed-seam xs later o r, times-more o.name x.name (names_of xs))

-- a file was opened, hashed and closed, and nothing else was done in between
pub hashed_last : {kind : KindValue} (tells : ToldAnswers) {name : List ℕ} {a m n : SourceState} {s t : InputState}
    {result : Result (List ℕ) Fault} → s ≡ opened_file tells a name → m ≡ state_with_opening a name None
    → HashesInput kind s t result → n ≡ state_after_closing m t → HashesOpened kind name a n result
hashed_last tells {name = name} {a = a} {t = t} is opens hashes closes = record {
  reads = t.reads;
  closed = rw (closes, opens, hashes.same, is) (ap (λ os. record a { openings = os })
      (closed-seam a.openings [] (record { name = name; gave = None }) t.reads));
  hashes = let reads = rw (hashes.same, is) at hashes in search (rules, reads);
}
