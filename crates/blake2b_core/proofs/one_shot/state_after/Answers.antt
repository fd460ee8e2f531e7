use Rattle.std.proofs.Common.{◌+◌, arith}
use Rattle.blake2b_core.proofs.BlockLemmas.{hash_after-more}
use Rattle.blake2b_core.proofs.one_shot.state_after.Goals as goal

-- one more block
pub loop-block-preserved : goal.loop-block-preserved
loop-block-preserved c = record {
  counted = omega arith;
  hashed = λ n m k at follow start.
      let hashed = c.loop-block.invariant.hashed n m k at follow start in
      let block = follow c.loop-block.block-index c.loop-block-test.true in
      let next = hash_after-more n m (k + c.loop-block.block-index) in grind arith;
}
