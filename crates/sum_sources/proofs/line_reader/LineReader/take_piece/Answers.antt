use Rattle.std.proofs.{Common.arith, Math.Seq.take-length, lemmas.Bool.eqb-true, lemmas.Grind.common_steps}
use Rattle.sum_sources.proofs.PieceLemmas.{plain_prefix, cut_buffer}
use Rattle.sum_sources.proofs.line_reader.LineReader.take_piece.Goals as goal

-- the piece up to the newline
pub returns-in_ok-extend_from_slice-in-Some-clause-piece : goal.returns-in_ok-extend_from_slice-in-Some-clause-piece
returns-in_ok-extend_from_slice-in-Some-clause-piece g c =
    let found = c.in-Some.ensures in
    rw (← c.self.view_is) (
      _,
      plain_prefix _ _ (omega (arith, found.0.high)) found.0.before,
      cut_buffer c.self.inside.buf _ _ _ (omega (arith, c.self.invariant.end_in, c.self.told))
          (grind (arith, common_steps, found.0.high)) (eqb-true _ _ found.1),
      c.in_ok-extend_from_slice-in-Some.ensures.items,
    )

-- the whole buffer
pub returns-in_ok-extend_from_slice-in-None-clause-piece : goal.returns-in_ok-extend_from_slice-in-None-clause-piece
returns-in_ok-extend_from_slice-in-None-clause-piece g c =
    rw (← c.self.view_is) (
      rw take-length at (plain_prefix _ _ (omega arith) c.in-None.ensures),
      grind arith,
      c.in_ok-extend_from_slice-in-None.ensures.items,
    )
