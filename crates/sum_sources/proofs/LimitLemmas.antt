-- `read_limited`: what an input's end, its fault and the limit say of its contents.
use Rattle.digest_kinds.specs.Bytes.{LIMIT}
use Rattle.std.proofs.Common.{◌≡◌, ℕ, zero, suc, ◌+◌, ◌-◌, ◌<◌, ◌≤◌, [], ◌∷◌, ◌++◌, List, max, length, take, Result, Ok}
use Rattle.std.proofs.Common.{Err, refl, arith, length-append, ap, append-nil, append_assoc, sym, ◌∙◌}
use Rattle.std.{proofs.Math.Seq.take-append_seam, proofs.lemmas.List.length-take-le, proofs.lemmas.List.take-append-le}
use Rattle.std.{proofs.lemmas.List.drop-append-le, specs.Result.result_unwrap_or}
use Rattle.sum_sources.specs.{Fault.Ending, Fault.Whole, Fault.Other, Fault.Fault, Fault.Broken}
use Rattle.sum_sources.specs.{private.SizeLimit.FindsEnding, private.SizeLimit.AddsLimited}
use Rattle.sum_sources.proofs.ContentLemmas.{limit-value, clip-short}
use Rattle.sum_sources.specs.inputs.Input.{Content, Reads, InputState, Fits, clip, state_after_read, reads_past, limit}
use Rattle.sum_sources.specs.inputs.Input.{Ended, Unfinished}

-- an input, of which the bytes past the first m count
abbrev pub past : ℕ → InputState → InputState
past m s = record s { reads = reads_past m s.reads }

-- a content that fits more bytes also fits the bytes before
pub before_more : (a b : Reads) (more : List ℕ) → a.phase ≡ Unfinished → b ≡ record a { bytes = a.bytes ++ more }
    → (c : Content) → Fits b c → Fits a c
before_more a b more going is c of =
    let (rest, begins) = rw (is, going) at of in
    rw going (more ++ rest, begins ∙ append_assoc a.bytes more rest)

-- a read adds the same bytes if only those past the first m count
pub past_read : (m : ℕ) (a b : InputState) (given : List ℕ) (r : Result ℕ Fault) → m ≤ length a.reads.bytes
    → b ≡ state_after_read a given r → past m b ≡ state_after_read (past m a) given r
past_read m a b given r low is = rw (is, drop-append-le m a.reads.bytes (take (result_unwrap_or r 0) given) low) refl

module _ (a b : InputState) (t : ℕ) (going : a.reads.phase ≡ Unfinished) (few : t < LIMIT) where
  -- the ending was read, so it was found
  finds_ending : (e : Ending) → b.reads ≡ record { bytes = a.reads.bytes; phase = Ended e }
      → FindsEnding t a.reads b.reads e
  finds_ending e is = record {
    content = λ size c of. let all = rw is at of in rw all (clip-short _ (omega (arith, few, size)));
    before = λ c of. let all = rw is at of in rw (all, going) ([], sym (append-nil a.reads.bytes));
    end = λ whole. rw (is, whole) refl;
    past = rw is (λ past. cc);
  }

  -- a byte was read that reaches the limit, so the fault for that was found
  finds_limit : (more : List ℕ) → t + 1 ≡ LIMIT → length more ≡ 1
      → b.reads ≡ record a.reads { bytes = a.reads.bytes ++ more } → FindsEnding t a.reads b.reads (Broken Other)
  finds_limit more last one is = record {
    content = λ size c of. let (rest, begins) = rw (is, going) at of in cut size c rest begins;
    before = before_more a.reads b.reads more going is;
    end = λ whole. cc;
    past = rw (is, going) (λ past. cc);
  }
    where
      cut : length a.reads.bytes ≡ t → (c : Content) (rest : List ℕ) → c.bytes ≡ (a.reads.bytes ++ more) ++ rest
          → clip c ≡ record { bytes = a.reads.bytes; ending = Broken Other }
      cut size c rest begins =
          let sum = length-append (a.reads.bytes ++ more) rest in
          let sum2 = length-append a.reads.bytes more in
          let all : limit - 1 ≡ length a.reads.bytes = rw limit-value (omega (arith, size, last)) in
          let front : take (limit - 1) c.bytes ≡ a.reads.bytes =
          rw (begins, append_assoc, all, take-append_seam) refl in
          grind (arith, limit-value, size, last, sum, sum2, front, begins)

  -- a read failed, so its fault was found
  pub read_fails : (f : Fault) (given : List ℕ) → 0 < length given → b ≡ state_after_read a given (Err f)
      → FindsEnding t a.reads b.reads (Broken f)
  read_fails f [] some is = absurd (omega arith)
  read_fails f (x ∷ xs) some is = finds_ending (Broken f) (rw (is, going, append-nil) refl)

  -- the byte that was read reached the limit, so the fault for that was found
  pub read_reaches : (n : ℕ) (given : List ℕ) → 0 < length given → n ≤ length given → t + n ≡ LIMIT
      → length given ≤ max (LIMIT - 1 - t) 1 → b ≡ state_after_read a given (Ok n)
      → FindsEnding t a.reads b.reads (Broken Other)
  read_reaches n [] some fits last bound is = absurd (omega arith)
  read_reaches zero (x ∷ xs) some fits last bound is = absurd (omega (arith, few))
  read_reaches (suc n) (x ∷ xs) some fits last bound is =
      let one : n ≡ 0 = omega (arith, few) in
      finds_limit (take (suc n) (x ∷ xs)) (omega arith) (length-take-le (suc n) (x ∷ xs) fits ∙ ap suc one)
      (rw (is, going) refl)

  -- a read gave bytes, or the end was found
  pub read_gives : (n : ℕ) (given rest : List ℕ) → 0 < length given → n ≤ length given
      → b ≡ state_after_read a given (Ok n) → AddsLimited t a.reads b.reads (take n (given ++ rest)) (Ok n)
  read_gives n [] rest some fits is = absurd (omega arith)
  read_gives zero (x ∷ xs) rest some fits is = finds_ending Whole (rw (is, going, append-nil) refl)
  read_gives (suc n) (x ∷ xs) rest some fits is = rw (is, going, take-append-le) refl
