-- How often a call opens `-`.
use Rattle.std.proofs.Common.{arith, ◌≡◌, ◌+◌, ◌<◌, ◌⊎◌, ◌==◌, Bool, false, true, List, [], ◌∷◌, ◌++◌, Result, Ok, Err}
use Rattle.std.proofs.Common.{codes}
use Rattle.std.{proofs.lemmas.List.Sums.sum_by-append, proofs.lemmas.Slice.Eq.bytes_eq-Decides, specs.Prelude.IsTrue}
use Rattle.std.{specs.Prelude.OnOk, specs.Prelude.◌↔◌}
use Rattle.digest_kinds.specs.Bytes.{ByteString}
use Rattle.sum_engine.specs.{Execution.PerformsSteps, Execution.opened_names, Generate.generate_behavior_by}
use Rattle.sum_engine.specs.{Streams.StreamsState}
use Rattle.sum_settings.specs.declared.{settings.Settings.Settings, stop.Stop.Stop}
use Rattle.sum_sources.specs.{declared.fault.Fault.Fault, sources.Source.times, sources.WithStdin.is_dash}
use Rattle.theorems.proofs.TextLemmas.{all_opened}

-- `-` is among names and others if and only if it is among either
pub among : (names others : List ByteString) → ((times (codes "-") (names ++ others) == 0) ≡ false)
    ↔ ((0 < times (codes "-") names) ⊎ (0 < times (codes "-") others))
among names others =
    let sum : times (codes "-") (names ++ others) ≡ times (codes "-") names + times (codes "-") others =
    sum_by-append _ names others in (λ some. grind (arith, sum), λ some. grind (arith, sum))

-- a name that is hashed is opened once
pub name_opened : (settings : Settings) (tool name : ByteString) (x : Result ByteString Fault) (a b : StreamsState)
    (r : Result Bool Stop) → let all = generate_behavior_by settings tool name x in
    PerformsSteps all.steps all.good a b r
    → OnOk r (opened_names b.inputs ≡ opened_names a.inputs ++ name ∷ [])
name_opened settings tool name (Ok digest) a b r did =
    all_opened (generate_behavior_by settings tool name (Ok digest)) true a b r did
name_opened settings tool name (Err fault) a b r did =
    all_opened (generate_behavior_by settings tool name (Err fault)) false a b r did

-- `-` is the one of one name if and only if the name is that
pub only_dash : (name : ByteString) → (0 < times (codes "-") (name ∷ [])) ↔ IsTrue (is_dash name)
only_dash name = (λ some. grind (arith, bytes_eq-Decides), λ is. grind (arith, bytes_eq-Decides))
