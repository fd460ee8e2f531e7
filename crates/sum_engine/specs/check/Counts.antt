-- How many lines of a manifest have each verdict, and whether a manifest is good.
use Rattle.std.specs.Prelude.{ℕ, ◌+◌, ◌==◌, ◌&&◌, ◌||◌, Bool, false, not, List, [], ◌∷◌}
use Rattle.sum_sources.specs.declared.fault.Ending.{Ending, TheVariants.Whole, TheVariants.Broken}
use Rattle.sum_engine.specs.check.{Judge.Verdict, Judge.Ignored, Judge.Bad, Judge.Right, Judge.Wrong, Judge.Missing}
use Rattle.sum_engine.specs.check.{Judge.Unread, Judge.LineVerdictValue, Rules.CheckRules}
pub use Rattle.sum_engine.specs.declared.check.counts.Counts.{Counts}

-- the counts and one more line, which has this verdict
abbrev pub counts_and_line : Counts → Verdict → Counts
counts_and_line counts Ignored = counts
counts_and_line counts Bad = record counts { bad = counts.bad + 1 }
counts_and_line counts Right = record counts { right = counts.right + 1 }
counts_and_line counts Wrong = record counts { wrong = counts.wrong + 1 }
counts_and_line counts Missing = record counts { missing = counts.missing + 1 }
counts_and_line counts (Unread fault) = record counts { unread = counts.unread + 1 }

-- the number of lines with each verdict
abbrev pub counts_of : List LineVerdictValue → Counts
counts_of [] = record { right = 0; wrong = 0; missing = 0; unread = 0; bad = 0 }
counts_of (x ∷ xs) = counts_and_line (counts_of xs) x.verdict

-- the sums of two counts
abbrev pub counts_then : Counts → Counts → Counts
counts_then first second = record {
  right = first.right + second.right;
  wrong = first.wrong + second.wrong;
  missing = first.missing + second.missing;
  unread = first.unread + second.unread;
  bad = first.bad + second.bad;
}

-- the number of lines that are entries
abbrev pub entry_count : Counts → ℕ
entry_count counts = counts.right + counts.wrong + counts.missing + counts.unread

-- the number of lines that are not ignored
abbrev pub total : Counts → ℕ
total counts = entry_count counts + counts.bad

-- whether a manifest is good: it was read whole, a line is Right, none is Wrong or Unread and, if strict, none is Bad
abbrev pub is_manifest_good : CheckRules → Ending → Counts → Bool
is_manifest_good rules Whole counts = not (counts.right == 0) && (counts.wrong == 0) && (counts.unread == 0)
    && (not rules.strict || (counts.bad == 0))
is_manifest_good rules (Broken fault) counts = false
