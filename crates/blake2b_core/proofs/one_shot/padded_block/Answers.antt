use Rattle.std.proofs.{Common.refl, lemmas.List.drop-replicate}
use Rattle.blake2b_core.proofs.one_shot.padded_block.Goals as goal

-- the bytes, and zeros after them
pub returns : goal.returns
returns c = rw (c.copy_from_slice.ensures.after, drop-replicate) refl
