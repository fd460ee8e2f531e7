use Rattle.std.proofs.{Common.◌≡◌, Common.◌+◌, Common.◌*◌, Common.length, Common.sym, Common.◌∙◌, Common.arith}
use Rattle.std.proofs.{Common.length-append, lemmas.Grind.common_steps}
use Rattle.blake2b_core.proofs.BlockLemmas.{hash_after-append}
use Rattle.blake2b_core.proofs.incremental.Blake2b.buffer_bytes.Goals as goal

-- the bytes are buffered after the others, and the blocks stay
pub returns-clause-holds : goal.returns-clause-holds
returns-clause-holds c = λ m held.
    let counted : 128 * held.done + c.args.self.now.buffer_len ≡ length m = held.count in
    let size = length-append m c.args.bytes.now in
    record {
      taken = let taken = held.taken in omega arith;
      done = held.done;
      count = omega arith;
      hash = held.hash ∙ sym (hash_after-append _ m c.args.bytes.now held.done (omega arith));
      rest = grind (arith, common_steps, c.copy_from_slice.ensures.after, held.rest);
    }
