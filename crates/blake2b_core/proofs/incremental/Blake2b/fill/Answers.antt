use Rattle.std.proofs.{Common.◌≡◌, Common.◌+◌, Common.arith, lemmas.Grind.common_steps, lemmas.List.take_all}
use Rattle.blake2b_core.proofs.BlockLemmas.{hash_after-more}
use Rattle.blake2b_core.proofs.incremental.Blake2b.fill.Goals as goal

-- the buffered block is full, and is compressed
pub returns-clause-holds : goal.returns-clause-holds
returns-clause-holds c = λ m before.
    let held = c.buffer_bytes.ensures.holds m before in
    let full : c.buffer_bytes.new.self.buffer_len ≡ 128 = grind (arith, common_steps) in
    let counted = held.count in
    record {
      taken = held.taken;
      done = held.done + 1;
      count = omega arith;
      hash = grind (arith, take_all, hash_after-more, held.hash, held.rest, held.taken);
      rest = grind (arith, common_steps);
    }
