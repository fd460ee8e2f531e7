-- The reading of the arguments, one after another, gives the command line.
use Rattle.std.proofs.Common.{ℕ, ◌≡◌, ◌+◌, ◌-◌, ◌<◌, ◌≤◌, not, ◌==◌, List, [], ◌∷◌, ◌++◌, length, take, drop, Option}
use Rattle.std.proofs.Common.{Some, None, Result, Ok, Err, OnErr, Any, IsSomeAnd, slice_get, sym, arith, append-nil}
use Rattle.std.proofs.Common.{append_assoc, ◌∙◌, refl}
use Rattle.std.proofs.lemmas.{Bool.not_from_false, Bool.not_from_true, Bool.false_from_ne_true, Grind.common_steps}
use Rattle.std.proofs.lemmas.{List.Sums.suffix_len_is}
use Rattle.std.specs.{List.after_last, declared.env.FillError.FillError, declared.env.FillError.TheVariants.NotPresent}
use Rattle.std.specs.{declared.env.FillError.TheVariants.TooLong}
use Rattle.memchr.specs.Find.{Passes, Nowhere, is_byte}
use Rattle.digest_kinds.specs.Bytes.{ByteString}
use Rattle.sum_words.specs.Arguments.{ArgumentsState, Explains, FitsArguments, state_after_fill, FitsArguments-append}
use Rattle.sum_words.{proofs.WordBytesLemmas.drop_at_none, proofs.WordBytesLemmas.drop_at_some}
use Rattle.sum_words.{specs.private.CommandLine.Fails, specs.private.CommandLine.Fills}

-- the part after a slash that no other follows, or all of a path without one
pub last_part-from : (path : List ℕ) (n : ℕ) → n ≤ length path → Nowhere (Passes (is_byte 47) path) n (length path)
    → (0 < n → Passes (is_byte 47) path (n - 1)) → after_last (λ b. b == 47) path ≡ drop n path
last_part-from path n fits none slash =
    rw (suffix_len_is (λ x. not (x == 47)) path n 0 fits
    (λ k low high. not_from_false _ (false_from_ne_true _ (none k low high))) (λ some. not_from_true _ (slash some)))
    (grind arith)

-- ---- a call that fails

-- what holds of the element at a place holds of the first from there on
first_there : (P : ByteString → Type 0) (all : List ByteString) (n : ℕ) (o : Option ByteString) → slice_get all n ≡ o
    → IsSomeAnd o P → IsSomeAnd (slice_get (drop n all) 0) P
first_there P all n None is h = absurd h
first_there P all n (Some x) is h = rw (drop_at_some all n is) h

-- a list in memory still agrees after a call that does as it says
pub agrees_after : (s : ArgumentsState) (all : List ByteString) (buffer : ByteString) (r : Result ℕ FillError)
    → FitsArguments s all → Fills all (length s.given) buffer r → FitsArguments (state_after_fill s buffer r) all
agrees_after s all buffer (Ok n) agrees fills =
    let word = take n buffer in
    let rest = drop (length s.given + 1) all in
    FitsArguments-append (record s { given = s.given ++ word ∷ []; fault = None }) all rest agrees.told
    (agrees.given ∙ rw (drop_at_some all (length s.given) fills) (sym (append_assoc s.given (word ∷ []) rest))) tt
agrees_after s all buffer (Err TooLong) agrees fills = record {
  told = agrees.told;
  given = agrees.given;
  fault = first_there (λ argument. length buffer < length argument) all (length s.given) _ refl fills;
}
agrees_after s all buffer (Err NotPresent) agrees fills =
    record { told = agrees.told; given = agrees.given; fault = drop_at_none all (length s.given) fills }

-- an argument follows, which is longer than a buffer
follows : (given : List ByteString) (size : ℕ) (all rest : List ByteString) → all ≡ given ++ rest
    → Explains rest (TooLong, size)
    → (word : ByteString) × (more : List ByteString) × (all ≡ given ++ word ∷ more) × (size < length word)
follows given size all [] are explains = absurd explains
follows given size all (word ∷ more) are explains = (word, more, are, explains)

-- if an argument was longer than its buffer, each list that agrees has one that is, after those that were given
pub next_longer : {least : ℕ} {a b : ArgumentsState} (all : List ByteString) → Fails TooLong least a b
    → FitsArguments b all → (word : ByteString) × (more : List ByteString) × (all ≡ a.given ++ word ∷ more)
    × (least < length word)
next_longer {least} {a} all fails agrees =
    let here : FitsArguments (record a { fault = Some (TooLong, fails.size) }) all = rw fails.state at agrees in
    let (word, more, are, longer) = follows a.given fails.size all _ here.given here.fault in
    (word, more, are, omega (arith, fails.at_least, longer))

-- an argument of which something holds is among all
pub any_longer : {a b : ArgumentsState} (all : List ByteString) → Fails TooLong 4096 a b → FitsArguments b all
    → Any (λ argument. 4096 < length argument) all
any_longer {a} all fails agrees =
    let (word, more, are, longer) = next_longer all fails agrees in
    rw are (length a.given, word, grind (arith, common_steps), grind (arith, common_steps), longer)

-- what holds if a call fails holds of one that failed
pub on_err : {X E P : Type 0} (r : Result X E) → P → OnErr r P
on_err (Ok x) h = tt
on_err (Err e) h = h

-- words were given, or another follows them, so there is a first one
pub first_word : {here : List ByteString} (given words rest all : List ByteString) → here ≡ given ++ words
    → all ≡ here ++ rest → 0 < length words + length rest
    → (first : ByteString) × (others : List ByteString) × (all ≡ given ++ first ∷ others)
first_word given [] [] all is are some = absurd (omega (arith, some))
first_word given [] (word ∷ rest) all is are some = (word, rest, rw (is, append-nil) at are)
first_word given (word ∷ words) rest all is are some =
    (word, words ++ rest, rw is at are ∙ append_assoc given (word ∷ words) rest)
