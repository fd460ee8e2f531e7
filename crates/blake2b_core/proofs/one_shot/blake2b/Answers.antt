use Rattle.std.proofs.{Common.◌≡◌, Common.◌+◌, Common.◌*◌, Common.length, Common.ap, Common.◌∙◌, Common.arith}
use Rattle.std.proofs.{Common.refl, lemmas.List.take_rest}
use Rattle.blake2b_core.{proofs.BlockLemmas.are_blocks, proofs.BlockLemmas.blake2b-from, specs.Digest.count_before_last}
use Rattle.blake2b_core.{specs.Digest.hash_after}
use Rattle.blake2b_core.proofs.one_shot.blake2b.Goals as goal

-- the blocks before the last, and then that
pub returns-clause-digest : goal.returns-clause-digest
returns-clause-digest c =
    let m = c.args.message.now in
    let n = c.args.len in
    let front = c.followed_blocks-front.result.now in
    let are = are_blocks m 0 (count_before_last m) c.followed_blocks-front.ensures.value in
    let from : 0 + length front ≡ length front = omega arith in
    let hash = c.state_after-h.ensures n m 0 refl are (c.initial.ensures m) ∙ ap (hash_after n m) from in
    rw (c.from_state.ensures.value, c.compress-h.ensures.state)
    (blake2b-from n m c.followed_blocks-front.ensures.count hash c.padded_block-last.ensures
    (take_rest m (128 * length front)) refl)
