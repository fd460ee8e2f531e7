-- How `Words` keeps a list of words: as bytes, cut at the places where the words end.
use Rattle.std.specs.Prelude.{ℕ, ◌≡◌, ◌≤◌, ◌-◌, List, [], ◌∷◌, take, drop, length}
use Rattle.digest_kinds.specs.Bytes.{ByteString}

-- the pieces of bytes from a place on, which end at these places
abbrev pub pieces_cut : ByteString → ℕ → List ℕ → List ByteString
pieces_cut bytes from [] = []
pieces_cut bytes from (end ∷ ends) = take (end - from) (drop from bytes) ∷ pieces_cut bytes end ends

-- the places increase, from this one to the end of the bytes
abbrev pub CutsAt : ByteString → ℕ → List ℕ → Type 0
CutsAt bytes from [] = from ≡ length bytes
CutsAt bytes from (end ∷ ends) = (from ≤ end) × CutsAt bytes end ends
