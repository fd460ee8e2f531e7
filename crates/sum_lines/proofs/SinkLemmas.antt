-- A text is written to a buffer piece by piece. `a`, `b` and `c` are the buffer before, between and after.
use Rattle.sum_lines.specs.declared.sinks.buffered.TheConstants.{CAPACITY}
use Rattle.std.proofs.Common.{ℕ, ◌≡◌, ◌<◌, ◌≤◌, ◌-◌, ◌+◌, ◌%◌, List, [], ◌++◌, length, take, Result, Ok, Err, inl, inr}
use Rattle.std.proofs.Common.{min, refl, sym, ap, ◌∙◌, append_assoc, append-nil, length-append, length-take, lit<}
use Rattle.std.proofs.Common.{rules, arith}
use Rattle.std.specs.Result.{IsErr}
use Rattle.sum_lines.proofs.EventLemmas.{output_events-append, Gets-none, Gets-then, GetsPrefix-then}
use Rattle.sum_lines.specs.sinks.{Buffered.BufferState, Buffered.Accepts, Buffered.FailsToWrite, Buffered.WritesAll}
use Rattle.sum_lines.specs.sinks.{Output.OutputState, Output.output_events}
use Rattle.sum_lines.specs.sinks.GivesAll.{GivesAll}
use Rattle.sum_lines.specs.private.Buffered.{MakesRoom}

-- ---- two texts, one after the other

-- nothing is accepted if nothing is done
pub Accepts-nil : {a : BufferState} → Accepts a a []
Accepts-nil {a} = search (rules, append-nil, Gets-none)

-- one text was accepted, and then another
pub Accepts-trans : {a b c : BufferState} (xs ys : List ℕ) → Accepts a b xs → Accepts b c ys → Accepts a c (xs ++ ys)
Accepts-trans xs ys first second =
    let cut = first.cut in
    let more = second.cut in
    let size = simp length-append at (ap length second.cut) in
    record {
      given = first.given ++ second.given;
      full = omega (arith, first.full, second.full, length-append first.given second.given);
      cut = grind (arith, append_assoc);
      last = let one = first.last in let two = second.last in grind (arith, length-append);
      gives = rw (output_events-append first.given second.given first.full)
          (Gets-then first.gives.0 second.gives.0, second.gives.1 ∙ first.gives.1);
    }

-- a text was accepted, and then a write of the next one failed: so did that of a text that begins with both
FailsToWrite-in : {a b c : BufferState} {text : List ℕ} (xs ys more : List ℕ) → Accepts a b xs → FailsToWrite b c ys
    → text ≡ xs ++ (ys ++ more) → FailsToWrite a c text
FailsToWrite-in xs ys more first failed is = let own = first.cut in let then = failed.cut in record {
  nonempty = let some = failed.nonempty in grind (arith, length-append);
  given = first.given ++ failed.given;
  full = omega (arith, first.full, failed.full, length-append first.given failed.given);
  rest = failed.rest ++ more;
  cut = grind (arith, append_assoc);
  proper = omega (arith, failed.proper, length-append failed.rest more);
  gives = rw (output_events-append first.given failed.given first.full)
      (GetsPrefix-then first.gives.0 failed.gives.0, failed.gives.1 ∙ ap (λ n. n + 1) first.gives.1);
  flushed = failed.flushed;
}

-- a text's first part was accepted, and then the rest was written, or its write failed
pub writes_then : {E : Type 0} {a b : BufferState} (c : BufferState) (xs ys : List ℕ) (r : Result (Unit {0}) E)
    → Accepts a b xs → WritesAll b c ys r → WritesAll a c (xs ++ ys) r
writes_then c xs ys (Ok u) first rest = Accepts-trans xs ys first rest
writes_then c xs ys (Err e) first rest = FailsToWrite-in xs ys [] first rest (ap (λ l. xs ++ l) (sym (append-nil ys)))

-- ---- a piece

-- the first bytes of a piece were accepted, once there was room
pub accepts_some : {a b : BufferState} (c : BufferState) (piece : List ℕ) (n : ℕ)
    → MakesRoom {E = Unit {0}} a b (Ok tt) → 0 < length piece → n ≡ min (length piece) (CAPACITY - length b.buffered)
    → c.sink ≡ b.sink → c.buffered ≡ b.buffered ++ take n piece
    → (n ≤ length piece) × (0 < n) × Accepts a c (take n piece)
accepts_some {a} {b} c piece n made some count sink buffered =
    let size = simp (length-append, length-take) at (ap length buffered) in
    let room : length b.buffered < CAPACITY =
    elim made [ inl (full, none, gives, ok) ↦ rw none (lit< tt) | inr (less, same, ok) ↦ rw same less ] in (
      omega arith,
      omega arith,
      elim made [
        | inl (full, none, gives, ok) ↦ record {
          given = a.buffered;
          full = rw full refl;
          cut = grind (arith, append-nil);
          last = λ _. omega (arith, size);
          gives = rw sink gives;
        }
        | inr (less, same, ok) ↦ record {
          given = [];
          full = refl;
          cut = grind (arith, append-nil);
          last = λ some. absurd (omega arith);
          gives = rw (sink, same) (Gets-none, refl);
        }
      ],
    )

-- the sink failed when room was made, so the write of the piece failed
pub accept_failed : {a b : BufferState} (piece : List ℕ) → MakesRoom {E = Unit {0}} a b (Err tt) → 0 < length piece
    → FailsToWrite a b piece
accept_failed {a} piece (inl (full, none, gives, flushed)) some =
    let whole : length a.buffered % CAPACITY ≡ 0 = rw full refl in search rules
accept_failed piece (inr (room, same, ok)) some = cc

-- ---- a text, piece after piece

-- of this text all but the rest was accepted, and no call failed
pub record HasLeft (a b : BufferState) (text rest : List ℕ) : Type 0 where
  pub prefix : List ℕ
  pub cut : text ≡ prefix ++ rest
  pub wrote : Accepts a b prefix

-- before the first piece, all of the text is left
pub HasLeft-all : {a : BufferState} {text : List ℕ} → HasLeft a a text text
HasLeft-all = search (rules, Accepts-nil)

-- what a loop that writes a text begins with
pub ruleset at_first = (HasLeft-all)

-- a piece of the rest was accepted
pub HasLeft-step : {a b c : BufferState} {text rest more : List ℕ} (piece : List ℕ) → HasLeft a b text rest
    → rest ≡ piece ++ more → Accepts b c piece → HasLeft a c text more
HasLeft-step piece left cut written = let own = left.cut in
    record { prefix = left.prefix ++ piece; cut = grind (arith, append_assoc); wrote = search (rules, Accepts-trans) }

-- a piece of the rest failed, and so the whole text did
pub HasLeft-failed : {E : Type 0} {a b c : BufferState} {text rest piece : List ℕ} (more : List ℕ)
    (r : Result (Unit {0}) E) → HasLeft a b text rest → rest ≡ piece ++ more → FailsToWrite b c piece → IsErr r
    → WritesAll a c text r
HasLeft-failed more (Ok u) left cut failed err = cc
HasLeft-failed {piece = piece} more (Err e) left cut failed err =
    FailsToWrite-in left.prefix piece more left.wrote failed (left.cut ∙ ap (λ l. left.prefix ++ l) cut)

-- the write of a text's first part failed
pub writes_stop : {E : Type 0} {a b : BufferState} (xs more : List ℕ) (r : Result (Unit {0}) E) → FailsToWrite a b xs
    → IsErr r → WritesAll a b (xs ++ more) r
writes_stop xs more r failed err = HasLeft-failed more r HasLeft-all refl failed err

-- the last piece is all of the rest: its result is that of the whole text
pub HasLeft-last : {E : Type 0} {a b : BufferState} {text rest : List ℕ} (c : BufferState) (r : Result (Unit {0}) E)
    → HasLeft a b text rest → WritesAll b c rest r → WritesAll a c text r
HasLeft-last {rest = rest} c r left last = rw left.cut (writes_then c left.prefix rest r left.wrote last)

-- ---- a text, and a flush

-- a text was accepted, and then the sink was given what was buffered, or failed
pub given_after : {E : Type 0} {a b : BufferState} (c : OutputState) (text : List ℕ) (r : Result (Unit {0}) E)
    → Accepts a b text → GivesAll b.sink.output c b.buffered r → GivesAll a.sink.output c (a.buffered ++ text) r
given_after {b = b} c text (Ok u) h given = rw (h.cut, output_events-append h.given b.buffered h.full)
    (Gets-then h.gives.0 given.0, grind arith)
given_after {b = b} c text (Err e) h given = rw (h.cut, output_events-append h.given b.buffered h.full)
    (GetsPrefix-then h.gives.0 given.0, grind arith)

-- a write of a text failed, so not all was given
pub not_given : {a b : BufferState} {text : List ℕ} → FailsToWrite a b text
    → GivesAll {E = Unit {0}} a.sink.output b.sink.output (a.buffered ++ text) (Err tt)
not_given h =
    let (prefix, rest, is, gets) = h.gives.0 in
    rw (h.cut, output_events-append h.given h.rest h.full, is)
    ((prefix, rest ++ output_events h.rest, append_assoc prefix rest (output_events h.rest), gets), h.gives.1)
