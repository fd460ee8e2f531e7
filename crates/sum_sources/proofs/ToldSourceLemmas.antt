-- `ToldSource`: a pair that is added answers for no earlier opening.
use Rattle.std.proofs.Common.{◌≡◌, ◌≤◌, ℕ, true, false, List, [], ◌∷◌, ◌++◌, length, refl, arith, bytes_eq, nat_le}
use Rattle.std.{proofs.lemmas.Bool.Decides.nat_tests, proofs.lemmas.Option.slice_get_past, specs.Prelude.◌&&◌}
use Rattle.sum_sources.proofs.GaveLemmas.{true_or_false, same_name, gave-times}
use Rattle.sum_sources.specs.sources.Source.{ToldAnswer, SourceState, GivesTold, results_of, names_of, times}
use Rattle.sum_sources.specs.sources.Source.{first_answer, answer_of_first}

-- a pair that doesn't fit changes no answer
first_append : (ps : List ToldAnswer) (p : ToldAnswer) (name : List ℕ) (k : ℕ)
    → (bytes_eq p.name name && nat_le p.from k) ≡ false
    → first_answer (ps ++ p ∷ []) name k ≡ first_answer ps name k
first_append [] p name k other = rw other refl
first_append (q ∷ ps) p name k other = rw (first_append ps p name k other) refl

-- a source gives what it tells after a pair is added that answers for no earlier opening
pub adding_gives : (s : SourceState) (p : ToldAnswer) → p.from ≡ times p.name (names_of s.openings)
    → GivesTold answer_of_first s → GivesTold answer_of_first (record s { told = s.told ++ p ∷ [] })
adding_gives s p from was name k = true_or_false (bytes_eq p.name name && nat_le p.from k)
    (λ fits. rw (slice_get_past (results_of s.openings name) k (late fits)) tt)
    (λ other. rw (first_append s.told p name k other) (was name k))
  where
    late : (bytes_eq p.name name && nat_le p.from k) ≡ true → length (results_of s.openings name) ≤ k
    late fits = true_or_false (bytes_eq p.name name)
        (λ is. let low = rw is at fits in
        rw (gave-times, ← same_name p.name name is, ← from) (grind (arith, nat_tests)))
        (λ is. let no = rw is at fits in cc)
