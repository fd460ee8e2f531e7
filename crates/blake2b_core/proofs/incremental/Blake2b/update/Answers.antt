use Rattle.std.proofs.{Common.◌++◌, Common.subst, Common.arith, lemmas.Grind.common_steps, lemmas.List.nil_from_length}
use Rattle.blake2b_core.specs.Blake2b.{HoldsSoFar}
use Rattle.blake2b_core.proofs.incremental.Blake2b.update.Goals as goal

-- the piece is taken in three parts: what fills the buffered block, whole blocks, and the rest, which is buffered
pub returns-clause-holds : goal.returns-clause-holds
returns-clause-holds c = λ m held.
    let filled = c.fill-filled.ensures.holds m held.so_far in
    let all = c.buffer_bytes.ensures.holds _ (c.absorb-absorbed.ensures.holds _ filled) in
    record {
      so_far = subst (HoldsSoFar c.buffer_bytes.new.self) (grind (arith, common_steps)) all;
      empty_buffer = λ none. nil_from_length (m ++ c.args.piece.now) (grind (arith, common_steps, held.empty_buffer));
    }
