-- What a call wrote to a buffer, and what an output was offered.
use Rattle.sum_lines.specs.declared.sinks.buffered.TheConstants.{CAPACITY}
use Rattle.std.proofs.Common.{arith, ◌≡◌, ◌∙◌, ◌<◌, List, [], ◌∷◌, ◌++◌, All, Result, Ok, Err, ap, append_assoc}
use Rattle.std.proofs.Common.{append-nil, filter_map, inl, inr, length, length-append, refl, sym}
use Rattle.std.{proofs.lemmas.List.Elements.All-cons, proofs.lemmas.List.Elements.All-nil}
use Rattle.std.{proofs.lemmas.List.Elements.filter_map-append, specs.Prelude.OnErr, specs.Prelude.OnOk, specs.Prelude.⊤}
use Rattle.std.{specs.Prelude.◌≤◌}
use Rattle.digest_kinds.specs.Bytes.{ByteString}
use Rattle.sum_lines.{proofs.EventLemmas.output_events-bytes, specs.sinks.Buffered.BufferState}
use Rattle.sum_lines.{specs.sinks.Buffered.WritesAll, specs.sinks.Output.written_byte}
use Rattle.sum_lines.{proofs.EventLemmas.one_piece, specs.sinks.Output.OffersEach}
use Rattle.sum_lines.specs.sinks.GivesAll.{GivesAll}
use Rattle.sum_lines.{specs.sinks.Output.OutputEvent, specs.sinks.Output.OutputState, specs.sinks.Output.byte_events}
use Rattle.sum_lines.{specs.sinks.Output.output_events}
use Rattle.theorems.specs.Writes.{Writes}

-- what was buffered and the text were written, or a proper prefix of them
pub writes : {E : Type 0} (a b : BufferState) (text : ByteString) (r : Result ⊤ E) → WritesAll a b text r
    → Writes a b text r
writes a b text (Ok done) h =
    let wrote = rw output_events-bytes at h.gives.0.written in
    (rw (wrote, h.cut, append_assoc) refl, h.gives.1, h.given, h.cut, h.full, h.gives.0.offered)
writes a b text (Err fault) h =
    let (p, q, are, got) = h.gives.0 in
    let given = sym (output_events-bytes h.given) ∙ ap (filter_map written_byte) are
    ∙ filter_map-append written_byte p q in (
      _,
      filter_map written_byte q ++ h.rest,
      rw (h.cut, given, append_assoc) refl,
      omega (arith, length-append (filter_map written_byte q) h.rest, h.proper),
      got.written,
      h.gives.1,
    )

-- what is left of a text, which is shorter
abbrev IsRestOf : ByteString → ByteString → Type 0
IsRestOf text left = (front : ByteString) × (text ≡ front ++ left) × (0 < length front) × (0 < length left)

-- after the bytes of a text, only its rests were offered
rests_again : (text front bytes : ByteString) → text ≡ front ++ bytes → (before after : List ByteString)
    → OffersEach before after (byte_events bytes)
    → (again : List ByteString) × (after ≡ before ++ again) × All (IsRestOf text) again
rests_again text front [] is before after same = ([], same ∙ sym (append-nil before), All-nil (IsRestOf text))
rests_again text front (b ∷ left) is before after (inl later) =
    rests_again text (front ++ b ∷ []) left (rw append_assoc is) before after later
rests_again text front (b ∷ left) is before after (inr (some, later)) =
    let whole : text ≡ (front ++ b ∷ []) ++ left = rw append_assoc is in
    let longer : 0 < length (front ++ b ∷ []) = omega (arith, length-append front (b ∷ [])) in
    let (again, are, all) = rests_again text (front ++ b ∷ []) left whole (before ++ left ∷ []) after later in (
      left ∷ again,
      rw append_assoc at are,
      All-cons (IsRestOf text) left again (front ++ b ∷ [], whole, longer, some) all,
    )

-- a text that is one piece was offered whole, and then only rests of it
pub text_again : {E : Type 0} (a b : OutputState) (text : ByteString) (r : Result ⊤ E) → GivesAll a b text r
    → 0 < length text → length text ≤ CAPACITY
    → OnOk r ((again : List ByteString) × (b.offered ≡ a.offered ++ text ∷ again) × All (IsRestOf text) again)
text_again a b text (Ok done) h some few =
    let offered = rw (one_piece text some few, append-nil) at h.0.offered in
    let (again, are, all) = rests_again text [] text refl (a.offered ++ text ∷ []) b.offered offered in
    (again, rw append_assoc at are, all)
text_again a b text (Err fault) h some few = tt

-- a text was offered piece by piece
pub offered_all : {E : Type 0} (a b : OutputState) (text : ByteString) (r : Result ⊤ E) → GivesAll a b text r
    → OnOk r (OffersEach a.offered b.offered (output_events text))
offered_all a b text (Ok done) h = h.0.offered
offered_all a b text (Err fault) h = tt

-- all of its bytes were written
pub written_all : {E : Type 0} (a b : OutputState) (text : ByteString) (r : Result ⊤ E) → GivesAll a b text r
    → OnOk r (b.written ≡ a.written ++ text)
written_all a b text (Ok done) h = rw output_events-bytes at h.0.written
written_all a b text (Err fault) h = tt

-- after a failure, a prefix of its events was offered
pub offered_front : {E : Type 0} (a b : OutputState) (text : ByteString) (r : Result ⊤ E) → GivesAll a b text r
    → OnErr r ((front rest : List OutputEvent) × (output_events text ≡ front ++ rest)
    × OffersEach a.offered b.offered front)
offered_front a b text (Ok done) h = tt
offered_front a b text (Err fault) h = let (front, rest, are, got) = h.0 in (front, rest, are, got.offered)
