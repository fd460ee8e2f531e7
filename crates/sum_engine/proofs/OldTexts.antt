-- `old_verdicts`: the texts of older versions are today's, if no name in them holds a carriage return.
use Rattle.std.proofs.Common.{rules, ◌≡◌, ◌∙◌, ℕ, List, [], ◌∷◌, refl, ap, All}
use Rattle.std.proofs.lemmas.List.Elements.{All-head, All-tail}
use Rattle.sum_sources.specs.{declared.fault.Ending.Ending, declared.fault.Ending.TheVariants.Whole}
use Rattle.sum_sources.specs.{declared.fault.Ending.TheVariants.Broken, inputs.Input.Content}
use Rattle.sum_sources.specs.LineReader.{past_line}
use Rattle.sum_engine.proofs.OldNames.{same_escape}
use Rattle.sum_engine.specs.Laws.{HasNoCarriageReturn, older_end_text, older_line_steps, older_behavior}
use Rattle.sum_engine.specs.{Behavior.Step, Behavior.Behavior, check.CheckOne.line_steps}
use Rattle.sum_engine.specs.{check.CheckOne.content_behavior, check.Judge.LineVerdictValue, check.Rules.LabelsValue}
use Rattle.sum_engine.specs.{check.Rules.CheckRules}
use Rattle.sum_engine.specs.check.{Counts.Counts, Counts.counts_of, Counts.is_manifest_good, Summary.end_text}

-- a verdict's name holds no carriage return
abbrev pub CleanName : LineVerdictValue → Type 0
CleanName j = HasNoCarriageReturn j.name

-- the manifest's own name holds none
module _ (r : CheckRules) (labels : LabelsValue) (own : HasNoCarriageReturn labels.manifest) where
  -- the text at its end is the same
  end_same : (e : Ending) (c : Counts) → older_end_text r labels e c ≡ end_text r labels e c
  end_same Whole c = search (rules, same_escape)
  end_same (Broken f) c = search (rules, same_escape)

  -- so are its steps, if no verdict's name holds one
  steps_same : (end : List ℕ) (c : Content) (js : List LineVerdictValue) → All CleanName js
      → older_line_steps r labels end c js ≡ line_steps r labels end c js
  steps_same end c [] all = refl
  steps_same end c (j ∷ js) all =
      let later = steps_same end (past_line c) js (All-tail CleanName j js all) in
      let free : CleanName j = All-head CleanName j js all in search (rules, same_escape, later)

  -- so is the whole behavior
  pub behavior_same : (c : Content) (js : List LineVerdictValue) → All CleanName js
      → older_behavior r labels c js ≡ content_behavior r labels c js
  behavior_same c js all =
      let counts = counts_of js in
      let made : List Step → Behavior = λ steps. record { steps = steps; good = is_manifest_good r c.ending counts } in
      ap made (ap (λ end. older_line_steps r labels end c js) (end_same c.ending counts)
      ∙ steps_same (end_text r labels c.ending counts) c js all)
