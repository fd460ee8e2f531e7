-- Bytes cut at their newlines.
use Rattle.std.specs.Str.{byte}
use Rattle.std.{proofs.lemmas.List.Elements.All-nil, proofs.lemmas.List.Elements.All-cons}
use Rattle.std.{proofs.lemmas.List.Elements.All-head, proofs.lemmas.List.Elements.All-tail, specs.Char.is_newline}
use Rattle.std.{specs.Prelude.flat_map, proofs.Common.◌≡◌}
use Rattle.std.proofs.{Common.ℕ, Common.List, Common.[], Common.◌∷◌, Common.◌++◌, Common.refl, Common.ap, Common.◌∙◌}
use Rattle.std.proofs.{Common.append_assoc, Common.inl, Common.inr, Common.false, Common.All, Common.arith}
use Rattle.std.proofs.{Common.rules, lemmas.Bool.Decides.eqb_tells}
use Rattle.sum_sources.{proofs.LineLemmas.pieces-newline, proofs.LineLemmas.pieces-last}
use Rattle.sum_sources.{specs.declared.fault.Ending.Ending}
use Rattle.sum_sources.specs.LineReader.{HasNoNewline, last_line, raw_lines}

-- these pieces, each ended by a newline, and then the tail
abbrev pub bytes_of_lines : List (List ℕ) → List ℕ → List ℕ
bytes_of_lines ended tail = flat_map (λ piece. piece ++ byte "\n" ∷ []) ended ++ tail

-- the bytes can be cut
abbrev pub IsCut : List ℕ → Type 0
IsCut bytes = (ended : List (List ℕ)) × (tail : List ℕ)
    × (bytes ≡ bytes_of_lines ended tail) × All HasNoNewline ended × HasNoNewline tail

-- the byte is no newline
abbrev IsPlain : ℕ → Type 0
IsPlain b = is_newline b ≡ false

-- a byte that is no newline goes to the first piece
cut_plain : (b : ℕ) (bs : List ℕ) → IsPlain b → IsCut bs → IsCut (b ∷ bs)
cut_plain b bs plain ([], tail, is, all, none) = grind arith
cut_plain b bs plain (p ∷ ps, tail, is, all, none) =
    let longer : HasNoNewline (b ∷ p) = All-cons IsPlain b p plain (All-head HasNoNewline p ps all) in
    let rest : All HasNoNewline ps = All-tail HasNoNewline p ps all in
    ((b ∷ p) ∷ ps, tail, ap (λ l. b ∷ l) is, All-cons HasNoNewline (b ∷ p) ps longer rest, none)

-- after a newline in front, the cut has one more piece, which is empty
cut_newline : (bs : List ℕ) → IsCut bs → IsCut (10 ∷ bs)
cut_newline bs (ended, tail, is, all, none) =
    ([] ∷ ended, tail, ap (λ l. 10 ∷ l) is, search (rules, All-cons, All-nil), none)

-- all bytes can be cut
pub cut : (bytes : List ℕ) → IsCut bytes
cut [] = ([], [], refl, All-nil HasNoNewline, All-nil IsPlain)
cut (b ∷ bs) = elim (eqb_tells b 10) [
  | inl newline ↦ rw newline.1 (cut_newline bs (cut bs))
  | inr other ↦ cut_plain b bs other.0 (cut bs)
]

-- the pieces of bytes that were cut are those of the cut, and the last line
pub raw_lines-joined : (ending : Ending) (ended : List (List ℕ)) (tail : List ℕ) → All HasNoNewline ended
    → HasNoNewline tail
    → raw_lines (record { bytes = bytes_of_lines ended tail; ending = ending }) ≡ ended ++ last_line ending tail
raw_lines-joined ending [] tail plain none = pieces-last ending tail none
raw_lines-joined ending (p ∷ ps) tail plain none =
    simp append_assoc (
    pieces-newline ending p (bytes_of_lines ps tail) (All-head HasNoNewline p ps plain)
    ∙ ap (λ ls. p ∷ ls) (raw_lines-joined ending ps tail (All-tail HasNoNewline p ps plain) none))
