-- A text of one piece is given to a sink. `a`, `b` and `c` are the sink before, between and after.
use Rattle.sum_lines.specs.declared.sinks.buffered.TheConstants.{CAPACITY}
use Rattle.std.proofs.Common.{ℕ, zero, suc, ◌≡◌, ◌<◌, ◌≤◌, List, [], ◌∷◌, ◌++◌, length, take, drop, filter_map, Ok, Err}
use Rattle.std.proofs.Common.{inl, inr, refl, ap, append_assoc, append-nil, arith, rules}
use Rattle.std.proofs.lemmas.List.Elements.{filter_map-append}
use Rattle.sum_lines.specs.sinks.Output.{OutputEvent, OffersEach, offer_piece, write_byte, written_byte}
use Rattle.sum_lines.specs.sinks.GivesAll.{GivesAll}
use Rattle.sum_lines.specs.sinks.Output.{byte_events, output_events}
use Rattle.sum_lines.{specs.sinks.Sink.SinkState, specs.sinks.Sink.WritesSome, proofs.EventLemmas.one_piece}

-- what is left of a piece is offered, if anything is
abbrev again : List ℕ → List (List ℕ)
again [] = []
again (b ∷ bs) = (b ∷ bs) ∷ []

-- the first n bytes are written, and then what is left is offered
record Takes (n : ℕ) (left : List ℕ) : Type 0 where
  events : List OutputEvent
  cut : byte_events left ≡ events ++ byte_events (drop n left)
  bytes : filter_map written_byte events ≡ take n left
  offers : (old new : List (List ℕ)) (es : List OutputEvent) → OffersEach (old ++ again (drop n left)) new es
      → OffersEach old new (events ++ es)

-- after a byte was written, what is left of its piece is offered again, if anything is
offered-again : (b : ℕ) (left : List ℕ) (old new : List (List ℕ)) (es : List OutputEvent)
    → OffersEach (old ++ again left) new es → OffersEach old new (write_byte b left ∷ es)
offered-again b [] old new es h = inl (rw append-nil at h)
offered-again b (c ∷ left) old new es h = inr (omega arith, h)

-- of bytes, at least one was written, and what is left of them is offered again
Takes-suc : (n : ℕ) (left : List ℕ) → n < length left → Takes (suc n) left
Takes-suc n [] within = absurd (omega arith)
Takes-suc zero (b ∷ left) within =
    record { events = write_byte b left ∷ []; cut = refl; bytes = refl; offers = offered-again b left }
Takes-suc (suc n) (b ∷ left) within = let more = Takes-suc n left (omega arith) in record {
  events = write_byte b left ∷ more.events;
  cut = ap (λ es. write_byte b left ∷ es) more.cut;
  bytes = ap (λ bs. b ∷ bs) more.bytes;
  offers = λ old new es h. inl (more.offers old new es h);
}

-- of this text all but the rest was given: the events up to the rest happened once the rest is offered
pub record HasGiven (a b : SinkState) (text rest : List ℕ) : Type 0 where
  pub events : List OutputEvent
  pub cut : output_events text ≡ events ++ byte_events rest
  pub offers : (new : List (List ℕ)) (es : List OutputEvent) → OffersEach (b.output.offered ++ again rest) new es
      → OffersEach a.output.offered new (events ++ es)
  pub written : b.output.written ≡ a.output.written ++ filter_map written_byte events
  pub failures : b.output.failures ≡ a.output.failures

-- at first all of the text is the rest
pub HasGiven-none : (a : SinkState) (text : List ℕ) → length text ≤ CAPACITY → HasGiven a a text text
HasGiven-none a [] fits = search (rules, append-nil)
HasGiven-none a (b ∷ bs) fits =
    let cut : output_events (b ∷ bs) ≡ (offer_piece (b ∷ bs) ∷ []) ++ byte_events (b ∷ bs) =
    grind (arith, one_piece, append-nil) in search (rules, append-nil)

-- the rest was offered, and some of it accepted
pub HasGiven-more : {a b c : SinkState} {text : List ℕ} (rest : List ℕ) (n : ℕ) → HasGiven a b text rest
    → 0 < length rest → WritesSome {E = Unit {0}} b c rest (Ok n) → HasGiven a c text (drop n rest)
HasGiven-more [] n h some wrote = absurd (omega (arith, some))
HasGiven-more (x ∷ xs) zero h some (within, taken, is) = absurd (omega (arith, taken some))
HasGiven-more (x ∷ xs) (suc n) h some (within, taken, is) = let t = Takes-suc n (x ∷ xs) within in rw is (record {
  events = h.events ++ t.events;
  cut = rw (h.cut, t.cut, append_assoc) refl;
  offers = λ new es later. rw append_assoc (h.offers new (t.events ++ es) (t.offers _ new es later));
  written = rw (h.written, filter_map-append written_byte h.events t.events, t.bytes, append_assoc) refl;
  failures = h.failures;
})

-- all of the text was accepted
pub HasGiven-all : {a b : SinkState} {text : List ℕ} (rest : List ℕ) → HasGiven a b text rest → rest ≡ []
    → GivesAll {E = Unit {0}} a.output b.output text (Ok tt)
HasGiven-all {b = b} rest h none =
    let offered = h.offers b.output.offered [] in let cut = h.cut in grind (arith, append-nil)

-- the rest was offered, and the write of it failed
pub HasGiven-failed : {a b c : SinkState} {text : List ℕ} (rest : List ℕ) → HasGiven a b text rest → 0 < length rest
    → WritesSome {E = Unit {0}} b c rest (Err tt) → GivesAll {E = Unit {0}} a.output c.output text (Err tt)
HasGiven-failed [] h some is = absurd (omega (arith, some))
HasGiven-failed {b = b} (x ∷ xs) h some is =
    let offered = rw append-nil at (h.offers (b.output.offered ++ (x ∷ xs) ∷ []) [] refl) in
    rw is ((h.events, byte_events (x ∷ xs), h.cut, grind arith), grind arith)
