use Rattle.std.proofs.Common.{◌≡◌, ◌∙◌, arith}
use Rattle.blake2b_core.{proofs.BlockLemmas.blake2b-from, specs.Digest.count_before_last}
use Rattle.blake2b_core.proofs.incremental.Blake2b.finish.Goals as goal

-- what is buffered is the last block
pub returns-clause-digest : goal.returns-clause-digest
returns-clause-digest c = λ m held.
    let so_far = held.so_far in
    let count : so_far.done ≡ count_before_last m = grind (arith, held.empty_buffer) in
    rw (c.from_state.ensures.value, c.compress-h.ensures.state) (blake2b-from c.args.self.len m count so_far.hash
    c.padded_block-last.ensures so_far.rest (c.from.ensures ∙ so_far.taken))
