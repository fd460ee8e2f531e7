-- Words at their places, and bytes cut into pieces: one more piece, and the piece at a place.
use Rattle.std.proofs.Common.{◌≡◌, ℕ, zero, suc, ◌-◌, ◌≤◌, List, [], ◌∷◌, ◌++◌, length, take, drop, get_or, Option}
use Rattle.std.proofs.Common.{None, Some, refl, ap, arith, length-append, slice_get, ◌+◌, ◌<◌}
use Rattle.std.proofs.lemmas.{Grind.common_steps, List.drop_all, List.drop_more, Option.slice_get_within}
use Rattle.std.proofs.lemmas.{Option.slice_get_past, Option.slice_get_cases, Option.get_or_from_slice_get}
use Rattle.digest_kinds.specs.Bytes.{ByteString}
use Rattle.sum_words.specs.Words.{pieces_cut, CutsAt}

-- if nothing is at a place, nothing is from there on
pub drop_at_none : {X : Type 0} (xs : List X) (p : ℕ) → slice_get xs p ≡ None → drop p xs ≡ []
drop_at_none xs p h = grind (arith, slice_get_cases, drop_all)

-- what is at a place is the first from there on
pub drop_at_some : {X : Type 0} {x : X} (xs : List X) (p : ℕ) → slice_get xs p ≡ Some x
    → drop p xs ≡ x ∷ drop (p + 1) xs
drop_at_some {x = x} xs p h = rw (drop_more xs p x (slice_get_within xs p x h), get_or_from_slice_get xs p x x h) refl

-- one more word, with its end, still cuts the bytes
pub CutsAt-push : (bytes word : List ℕ) (from : ℕ) (ends : List ℕ) → CutsAt bytes from ends
    → CutsAt (bytes ++ word) from (ends ++ length (bytes ++ word) ∷ [])
CutsAt-push bytes word from [] cuts = (omega (arith, cuts, length-append bytes word), refl)
CutsAt-push bytes word from (end ∷ ends) cuts = (cuts.0, CutsAt-push bytes word end ends cuts.1)

-- the places at which pieces begin are within the bytes
CutsAt-within : (bytes : List ℕ) (from : ℕ) (ends : List ℕ) → CutsAt bytes from ends → from ≤ length bytes
CutsAt-within bytes from [] cuts = omega (arith, cuts)
CutsAt-within bytes from (end ∷ ends) cuts = omega (arith, cuts.0, CutsAt-within bytes end ends cuts.1)

-- one more word is the last piece
pub pieces_cut-push : (bytes word : List ℕ) (from : ℕ) (ends : List ℕ) → CutsAt bytes from ends
    → pieces_cut (bytes ++ word) from (ends ++ length (bytes ++ word) ∷ []) ≡ pieces_cut bytes from ends ++ word ∷ []
pieces_cut-push bytes word from [] cuts = grind (arith, common_steps)
pieces_cut-push bytes word from (end ∷ ends) cuts =
    grind (arith, common_steps, pieces_cut-push bytes word end ends cuts.1, CutsAt-within bytes end ends cuts.1)

-- there are as many pieces as places
pub pieces_cut-length : (bytes : List ℕ) (from : ℕ) (ends : List ℕ)
    → length (pieces_cut bytes from ends) ≡ length ends
pieces_cut-length bytes from [] = refl
pieces_cut-length bytes from (end ∷ ends) = ap suc (pieces_cut-length bytes end ends)

-- the lemmas of a list of words
pub ruleset pieces = (CutsAt-push, pieces_cut-push, pieces_cut-length)

-- what was found of the pieces is this part of the bytes
pub record IsPiece (bytes : List ℕ) (found : Option ByteString) (start end : ℕ) : Type 0 where
  pub order : start ≤ end
  pub within : end ≤ length bytes
  pub piece : found ≡ Some (take (end - start) (drop start bytes))

-- the piece at a place, if its start and its end were read out of the list of places
pub piece_read : {start end : ℕ} (bytes : List ℕ) (from : ℕ) (ends : List ℕ) (i : ℕ) → start ≡ get_or (from ∷ ends) i 0
    → i < length ends → end ≡ get_or ends i end → CutsAt bytes from ends
    → IsPiece bytes (slice_get (pieces_cut bytes from ends) i) start end
piece_read bytes from [] i start inside end cuts = absurd (omega (arith, inside))
piece_read bytes from (at ∷ ends) zero start inside end cuts =
    rw (start, end) (record { order = cuts.0; within = CutsAt-within bytes at ends cuts.1; piece = refl })
piece_read bytes from (at ∷ ends) (suc i) start inside end cuts =
    piece_read bytes at ends i start (omega (arith, inside)) end cuts.1

-- the lemmas of the piece at a place
pub ruleset piece_steps = (piece_read, pieces_cut-length, slice_get_past)
