use Rattle.std.proofs.Common.{◌≡◌, flat_map, length, take}
use Rattle.blake2b_core.specs.Blake2b.{HasTaken, digest_len, taken_count}
use Rattle.theorems.proofs.digest.blake2b_in_pieces.Given as goal

-- the pieces so far were taken
abbrev pub invariant-loop-piece : goal.invariant-loop-piece
invariant-loop-piece l = record {
  holds : HasTaken l.state (flat_map (λ piece. piece.now) (take l.piece-index l.pieces));
  taken : taken_count l.state ≡ length (flat_map (λ piece. piece.now) (take l.piece-index l.pieces));
  len : digest_len l.state ≡ l.len;
}
