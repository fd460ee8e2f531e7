-- What a loop that counts verdicts knows after some lines.
use Rattle.std.proofs.Common.{◌≡◌, ◌≤◌, ◌+◌, ℕ, List, [], ◌∷◌, ◌++◌, refl, arith}
use Rattle.sum_engine.specs.{Laws.HasReturned, check.Counts.counts_and_line, check.Counts.counts_of}
use Rattle.sum_engine.specs.check.{Judge.LineVerdictValue, Verdicts.VerdictsValue}
use Rattle.sum_engine.specs.declared.check.{counts.Counts.Counts, judge.Verdict.Verdict}
use Rattle.sum_sources.specs.{LineReader.reads_of, inputs.Input.InputState, sources.Source.SourceState}

-- these verdicts were returned, and so many of them are Wrong
pub record HasCounted {I : Type 0} (state : I → InputState) (first last : VerdictsValue I) (before after : SourceState)
    (count : ℕ) : Type 0 where
  pub returned : List LineVerdictValue
  pub so_far : HasReturned state first last before after returned
  pub all : reads_of state last.reader ≡ (state last.reader.input).reads
  pub wrong : (counts_of returned).wrong ≡ count
  pub few : count ≤ last.reader.lines

-- one more line adds what it adds to none
one_more : (n : Counts) (v : Verdict) → (counts_and_line n v).wrong ≡ n.wrong + (counts_and_line (counts_of []) v).wrong
one_more n v = grind arith

-- the last line adds what the first would
pub last_wrong : (xs : List LineVerdictValue) (x : LineVerdictValue)
    → (counts_of (xs ++ x ∷ [])).wrong ≡ (counts_and_line (counts_of xs) x.verdict).wrong
last_wrong [] x = refl
last_wrong (y ∷ ys) x = omega (
  arith,
  one_more (counts_of (ys ++ x ∷ [])) y.verdict,
  one_more (counts_of ys) y.verdict,
  one_more (counts_and_line (counts_of ys) y.verdict) x.verdict,
  one_more (counts_of ys) x.verdict,
  last_wrong ys x,
)
