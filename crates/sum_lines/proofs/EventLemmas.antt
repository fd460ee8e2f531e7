-- The pieces of a text, the events of these, and what happened of them.
use Rattle.sum_lines.specs.declared.sinks.buffered.TheConstants.{CAPACITY}
use Rattle.std.proofs.Common.{ℕ, zero, suc, ◌≡◌, ◌<◌, ◌≤◌, ◌+◌, ◌-◌, ◌*◌, ◌/◌, ◌%◌, List, [], ◌∷◌, ◌++◌, length, drop}
use Rattle.std.proofs.Common.{flat_map, filter_map, refl, sym, ap, append_assoc, append-nil, length-append, length-drop}
use Rattle.std.proofs.Common.{take_all, arith}
use Rattle.std.proofs.lemmas.{Grind.common_steps, List.take-append-le, List.drop-append-le, List.Concat.flat_map-append}
use Rattle.std.proofs.lemmas.{List.Elements.filter_map-append}
use Rattle.std.specs.{List.concat, Simd.first_chunks}
use Rattle.sum_lines.specs.sinks.Output.{OutputState, OutputEvent, offer_piece, write_byte, written_byte, pieces_of}
use Rattle.sum_lines.specs.sinks.Output.{byte_events, output_events, OffersEach, Gets}
use Rattle.sum_lines.specs.sinks.GivesAll.{GetsPrefix}

-- ---- the pieces of a text

-- full pieces, and then those of what follows
first_chunks-append : (n k j : ℕ) (xs ys : List ℕ) → length xs ≡ k * n
    → first_chunks n (k + j) (xs ++ ys) ≡ first_chunks n k xs ++ first_chunks n j ys
first_chunks-append n zero j [] ys size = grind arith
first_chunks-append n zero j (x ∷ xs) ys size = absurd (omega arith)
first_chunks-append n (suc k) j xs ys size =
    let one : suc k * n ≡ k * n + n = grind arith in
    let next : suc k + j ≡ suc (k + j) = omega arith in
    let more = first_chunks-append n k j (drop n xs) ys (omega (arith, length-drop n xs)) in
    rw next (grind (arith, take-append-le, drop-append-le))

-- the pieces of a text that begins with full pieces
pieces-append : (xs ys : List ℕ) → length xs % CAPACITY ≡ 0 → pieces_of (xs ++ ys) ≡ pieces_of xs ++ pieces_of ys
pieces-append xs ys full =
    let k = length xs / CAPACITY in
    let size : length xs ≡ k * CAPACITY = omega arith in
    let own : (length xs + (CAPACITY - 1)) / CAPACITY ≡ k = omega arith in
    let both : (length (xs ++ ys) + (CAPACITY - 1)) / CAPACITY ≡ k + (length ys + (CAPACITY - 1)) / CAPACITY =
    omega (arith, length-append xs ys) in
    rw (own, both) (first_chunks-append CAPACITY k ((length ys + (CAPACITY - 1)) / CAPACITY) xs ys size)

-- a text that fits a piece is one
pub one_piece : (xs : List ℕ) → 0 < length xs → length xs ≤ CAPACITY → pieces_of xs ≡ xs ∷ []
one_piece xs some fits =
    let one : (length xs + (CAPACITY - 1)) / CAPACITY ≡ 1 = omega arith in
    rw (one, take_all CAPACITY xs fits) refl

-- the chunks of a list, joined, are the list
concat-chunks : (n k : ℕ) (xs : List ℕ) → length xs ≤ k * n → concat (first_chunks n k xs) ≡ xs
concat-chunks n zero [] fits = refl
concat-chunks n zero (x ∷ xs) fits = absurd (omega arith)
concat-chunks n (suc k) xs fits =
    let one : suc k * n ≡ k * n + n = grind arith in
    grind (arith, common_steps, concat-chunks n k (drop n xs))

-- ---- the events of pieces

-- the bytes of a piece's events are the piece
bytes-written : (xs : List ℕ) → filter_map written_byte (byte_events xs) ≡ xs
bytes-written [] = refl
bytes-written (x ∷ xs) = ap (λ l. x ∷ l) (bytes-written xs)

-- the bytes of the events of some pieces are these pieces, joined
bytes-in : (ps : List (List ℕ))
    → filter_map written_byte (flat_map (λ piece. offer_piece piece ∷ byte_events piece) ps) ≡ concat ps
bytes-in [] = refl
bytes-in (p ∷ ps) = grind (arith, filter_map-append, bytes-written, bytes-in ps)

-- the bytes of a text's events are the text
pub output_events-bytes : (text : List ℕ) → filter_map written_byte (output_events text) ≡ text
output_events-bytes text = grind (arith, bytes-in, concat-chunks)

-- the events after full pieces are those of what follows
pub output_events-append : (xs ys : List ℕ) → length xs % CAPACITY ≡ 0
    → output_events (xs ++ ys) ≡ output_events xs ++ output_events ys
output_events-append xs ys full = grind (arith, pieces-append, flat_map-append)

-- ---- what happened

-- the pieces of some events were offered, and then those of others
OffersEach-then : (a b c : List (List ℕ)) (es fs : List OutputEvent) → OffersEach a b es → OffersEach b c fs
    → OffersEach a c (es ++ fs)
OffersEach-then a b c [] fs h k = rw h at k
OffersEach-then a b c (offer_piece p ∷ es) fs h k = OffersEach-then _ b c es fs h k
OffersEach-then a b c (write_byte x left ∷ es) fs h k =
    grind (arith, OffersEach-then a b c es fs, OffersEach-then (a ++ left ∷ []) b c es fs)

-- no events happened to an unchanged sink
pub Gets-none : {a : OutputState} → Gets a a []
Gets-none {a} = record { offered = refl; written = sym (append-nil a.written) }

-- some events happened, and then others
pub Gets-then : {a b c : OutputState} {p q : List OutputEvent} → Gets a b p → Gets b c q → Gets a c (p ++ q)
Gets-then {a} {b} {c} {p} {q} h k = grind (arith, append_assoc, filter_map-append, OffersEach-then)

-- some events happened, and then a prefix of others
pub GetsPrefix-then : {a b c : OutputState} {p q : List OutputEvent} → Gets a b p → GetsPrefix b c q
    → GetsPrefix a c (p ++ q)
GetsPrefix-then {p} h k = (p ++ k.0, k.1, grind (arith, append_assoc), Gets-then h k.3)
