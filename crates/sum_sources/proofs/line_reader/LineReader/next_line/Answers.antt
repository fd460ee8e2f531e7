use Rattle.std.proofs.{Common.ap, Common.arith, Common.◌≡◌, Common.length, Common.Some, Common.Err}
use Rattle.std.proofs.{lemmas.Grind.common_steps}
use Rattle.sum_sources.{specs.declared.inputs.input.TheConstants.PIECE, proofs.ReadOnLemmas.counted}
use Rattle.sum_sources.{proofs.ReadOnLemmas.settled_again}
use Rattle.sum_sources.specs.LineReader.{IsBounded, line_reader_view, final_answer_in, IsSoundReader}
use Rattle.sum_sources.specs.declared.line_reader.{LineReader.TheInside.Inside, ReaderState.ReaderState}
use Rattle.sum_sources.specs.declared.line_reader.{LineStop.TheVariants.Memory, ReaderState.TheVariants.Active}
use Rattle.sum_sources.specs.declared.line_reader.{ReaderState.TheVariants.Done, ReaderState.TheVariants.Stopped}
use Rattle.sum_sources.proofs.line_reader.LineReader.next_line.Goals as goal

-- the end is returned again
pub returns-in-Done-clause-line : goal.returns-in-Done-clause-line
returns-in-Done-clause-line g c = settled_again _ _ (rw (← c.self.view_is) (ap final_answer_in c.in-Done.is))

-- a stop is returned again
pub returns-in-Stopped-clause-line : goal.returns-in-Stopped-clause-line
returns-in-Stopped-clause-line g c = settled_again _ _ (rw (← c.self.view_is) (ap final_answer_in c.in-Stopped.is))

-- counting a line changes nothing else
pub returns-in-Ok-Line-clause-line : goal.returns-in-Ok-Line-clause-line
returns-in-Ok-Line-clause-line g c = λ reading.
    let read = c.read_on-result.ensures.line reading in
    counted {new = line_reader_view c.self-2.inside} _ (rw c.self-2.view_is read)

-- memory was refused
is_stopped : (state : ReaderState) → final_answer_in state ≡ Some (Err Memory) → state ≡ Stopped Memory
is_stopped Active is = cc
is_stopped Done is = cc
is_stopped (Stopped e) is = cc

-- what the fields keep
bounded : {I : Type 0} (s : Inside I) → length s.buf ≡ PIECE → IsSoundReader s → IsBounded (line_reader_view s)
bounded s size i = record {
  lines = grind (arith, common_steps, i.each);
  ahead = grind (arith, common_steps, i.each);
  taken = i.most;
  wants = λ stopped. let some = i.wants (is_stopped s.state stopped) in grind (arith, common_steps, some, i.end_in);
}

pub returns-in-Active-2-clause-bounds : goal.returns-in-Active-2-clause-bounds
returns-in-Active-2-clause-bounds g c =
    rw (← c.self-2.view_is) (bounded c.self-2.inside c.self-2.told c.self-2.invariant)
