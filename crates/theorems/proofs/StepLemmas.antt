-- What the steps of a check leave, and the openings of one call.
use Rattle.std.proofs.Common.{arith, ◌≡◌, ◌+◌, List, [], ◌∷◌, ◌++◌, ap, drop, length, refl}
use Rattle.digest_kinds.specs.Bytes.{ByteString}
use Rattle.sum_engine.specs.{Laws.TakesSteps, Streams.StreamsState}
use Rattle.sum_engine.specs.{check.Rules.LabelsValue, check.Verdicts.CheckState}
use Rattle.sum_engine.specs.{declared.check.rules.CheckRules.CheckRules}
use Rattle.sum_sources.specs.{sources.Source.Opening, sources.Source.names_of}
use Rattle.sum_sources.specs.LineReader.{lines_in}

-- each step takes one of the lines
pub lines_taken : (r : CheckRules) (labels : LabelsValue) (a b : CheckState) (s t : StreamsState)
    (vectors : List ByteString) → TakesSteps r labels a b s t vectors
    → length vectors + length (lines_in b.remaining) ≡ length (lines_in a.remaining)
lines_taken r labels a b s t [] is = omega (arith, ap (λ (x : CheckState). length (lines_in x.remaining)) is.0)
lines_taken r labels a b s t (v ∷ vectors) more = let moves = (more.2.going refl).1 in
    omega (arith, ap length moves.lines, lines_taken r labels more.0 b more.1 t vectors more.3)

-- the names of the later openings
pub later_names : (before more : List Opening) (names : List ByteString)
    → names_of (before ++ more) ≡ names_of before ++ names → names_of more ≡ names
later_names [] more names is = is
later_names (o ∷ before) more names is = later_names before more names (ap (drop 1) is)
