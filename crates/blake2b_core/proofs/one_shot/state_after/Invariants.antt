use Rattle.std.proofs.Common.{◌≡◌, ℕ, ◌+◌, ◌*◌, List}
use Rattle.blake2b_core.specs.{Digest.hash_after, private.OneShot.HasBlocksFrom}
use Rattle.blake2b_core.proofs.one_shot.state_after.Given as goal

-- the blocks so far were compressed, whatever message they begin at block k of
abbrev pub invariant-loop-block : goal.invariant-loop-block
invariant-loop-block l = record {
  counted : l.taken ≡ l.before + 128 * l.block-index;
  hashed : (n : ℕ) (m : List ℕ) (k : ℕ) → 128 * k ≡ l.before → HasBlocksFrom m k l.followed
      → l.fn.h ≡ hash_after n m k → l.h ≡ hash_after n m (k + l.block-index);
}
