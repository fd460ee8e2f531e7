use Rattle.std.proofs.Common.{arith, ◌≡◌, ◌∙◌, ◌+◌, ◌<◌, ◌≤◌, ℕ, zero, suc, List, [], ◌∷◌, ◌++◌, Bor, add-one, ap}
use Rattle.std.proofs.Common.{append_assoc, append-nil, flat_map, get_or, length, length-append, sym, take}
use Rattle.theorems.proofs.digest.blake2b_in_pieces.Goals as goal

-- one more piece follows the pieces so far
one_more : {X : Type 0} (bytes : X → List ℕ) (xs : List X) (i : ℕ) (d : X) → i < length xs
    → flat_map bytes (take (suc i) xs) ≡ flat_map bytes (take i xs) ++ bytes (get_or xs i d)
one_more bytes [] i d below = absurd (omega (arith, below))
one_more bytes (x ∷ xs) zero d below = append-nil (bytes x)
one_more bytes (x ∷ xs) (suc i) d below =
    ap (λ rest. bytes x ++ rest) (one_more bytes xs i d (omega (arith, below))) ∙ sym (append_assoc (bytes x) _ _)

-- the first pieces are no longer than all
front_length : {X : Type 0} (bytes : X → List ℕ) (xs : List X) (i : ℕ)
    → length (flat_map bytes (take i xs)) ≤ length (flat_map bytes xs)
front_length bytes [] zero = omega arith
front_length bytes [] (suc i) = omega arith
front_length bytes (x ∷ xs) zero = omega arith
front_length bytes (x ∷ xs) (suc i) = omega (
  arith,
  length-append (bytes x) (flat_map bytes (take i xs)),
  length-append (bytes x) (flat_map bytes xs),
  front_length bytes xs i,
)

-- the piece in place of one that isn't there
abbrev no_piece : Bor (List ℕ)
no_piece = record { ref_ptr = (0, 0); now = [] }

pub update-requires : goal.update-requires
update-requires c =
    let all = c.args.pieces.now in
    let i = c.loop-piece.piece-index in
    let more = one_more (λ piece. piece.now) all i no_piece c.loop-piece-test.true in
    omega (
      arith,
      c.loop-piece.invariant.taken,
      c.requires,
      front_length (λ piece. piece.now) all (suc i),
      ap length more,
      length-append (flat_map (λ piece. piece.now) (take i all)) (get_or all i no_piece).now,
    )

pub loop-piece-preserved : goal.loop-piece-preserved
loop-piece-preserved c =
    let all = c.args.pieces.now in
    let i = c.loop-piece.piece-index in
    let more = one_more (λ piece. piece.now) all i no_piece c.loop-piece-test.true in
    record {
      holds = rw (add-one i, more) (c.update.ensures.holds _ c.loop-piece.invariant.holds);
      taken = rw (add-one i, more) (c.update.ensures.taken ∙ ap
          (λ n. n + length (get_or all i no_piece).now) c.loop-piece.invariant.taken
          ∙ sym (length-append _ _));
      len = c.update.ensures.len ∙ c.loop-piece.invariant.len;
    }
