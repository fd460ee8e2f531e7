-- Searching the algorithms for one whose tag begins the bytes.
use Rattle.std.proofs.Common.{◌≡◌, refl, sym, ℕ, Bool, true, List, [], ◌∷◌, ◌++◌, ◌==◌, drop, length, Option, None}
use Rattle.std.proofs.Common.{Some, IfSome, find, arith}
use Rattle.std.{proofs.lemmas.Bool.Decides.Decides-eqb, proofs.lemmas.Slice.Eq.starts_is, specs.List.starts_with}
use Rattle.digest_kinds.{proofs.PrefixLemmas.none_of, specs.Algo.all_algos, specs.Algo.tag_of, specs.Algo.BeginsWithTag}
use Rattle.digest_kinds.{specs.Algo.Algo}

-- whether the algorithm's tag is a prefix of the bytes
abbrev pub begins : List ℕ → Algo → Bool
begins bytes a = starts_with ◌==◌ bytes (tag_of a)

-- of bytes that begin with a tag, the search finds its algorithm: no earlier one has a tag that begins them
pub find-begins : (a : Algo) (rest : List ℕ) → find (begins (tag_of a ++ rest)) all_algos ≡ Some a
find-begins a rest = grind arith

-- the tag of what the search finds begins the bytes
pub IfSome-find-begins : (bytes : List ℕ) (algos : List Algo)
    → IfSome (find (begins bytes) algos) (λ a. BeginsWithTag bytes a)
IfSome-find-begins bytes [] = tt
IfSome-find-begins bytes (a ∷ algos) =
    let begun : begins bytes a ≡ true → BeginsWithTag bytes a = λ h.
    (drop (length (tag_of a)) bytes, (starts_is Decides-eqb bytes (tag_of a) true (sym h)).0 refl) in
    grind (arith, IfSome-find-begins bytes algos, begun)

-- the search finds an algorithm whose tag begins the bytes
pub found_tagged : (bytes : List ℕ) (a : Algo) → BeginsWithTag bytes a → find (begins bytes) all_algos ≡ Some a
found_tagged bytes a begun = rw begun.1 (find-begins a begun.0)

-- an algorithm whose tag begins the bytes, if there is one, is the one that the search finds
pub search_is : (bytes : List ℕ) (r : Option Algo) → IfSome r (λ a. BeginsWithTag bytes a)
    → ((a : Algo) → BeginsWithTag bytes a → r ≡ Some a) → r ≡ find (begins bytes) all_algos
search_is bytes (Some a) tagged found = sym (found_tagged bytes a tagged)
search_is bytes None tagged found =
    none_of _ (λ a h. let bad = found a (rw h at (IfSome-find-begins bytes all_algos)) in cc)
