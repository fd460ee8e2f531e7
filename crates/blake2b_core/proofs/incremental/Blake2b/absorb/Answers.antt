use Rattle.std.proofs.Common.{◌≡◌, ℕ, ◌+◌, ◌*◌, ◌≤◌, List, ◌++◌, length, take, ap, sym, ◌∙◌, arith, length-append}
use Rattle.std.{proofs.lemmas.Grind.common_steps, proofs.lemmas.List.drop_at, proofs.lemmas.List.length-take-le}
use Rattle.std.{specs.Simd.first_chunks}
use Rattle.blake2b_core.proofs.BlockLemmas.{are_blocks, first_chunks_take, hash_after-append}
use Rattle.blake2b_core.proofs.incremental.Blake2b.absorb.Goals as goal

-- the blocks are compressed, and nothing is buffered
pub returns-clause-holds : goal.returns-clause-holds
returns-clause-holds c = λ m held.
    let piece = c.args.piece.now in
    let count = length c.followed_blocks-blocks.result.now in
    let front : List ℕ = take (128 * count) piece in
    let sizes = c.followed_blocks-blocks.ensures.count in
    let fits : 128 * count ≤ length piece = omega arith in
    let long = length-take-le (128 * count) piece fits in
    let counted = held.count in
    let whole : 128 * held.done ≡ length m = omega arith in
    let are = c.followed_blocks-blocks.ensures.value ∙ ap (λ (n : ℕ). first_chunks 128 n piece) (sym sizes)
    ∙ sym (first_chunks_take 128 count piece (128 * count) (omega arith))
    ∙ ap (first_chunks 128 count) (sym (drop_at m front (128 * held.done) (sym whole))) in
    let total = length-append m front in
    let hash = held.hash ∙ sym (hash_after-append _ m front held.done (omega arith)) in
    record {
      taken = let taken = held.taken in omega arith;
      done = held.done + count;
      count = omega arith;
      hash = c.state_after-self.ensures _ (m ++ front) held.done (whole ∙ sym held.taken)
          (are_blocks (m ++ front) held.done count are) hash;
      rest = grind (arith, common_steps, held.rest);
    }
