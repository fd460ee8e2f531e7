-- The counts of a summary are numbers of members, and the code's running counters are they.
use Rattle.std.proofs.Common.{rules, arith, ◌≡◌, ◌≤◌, ◌+◌, []}
use Rattle.sum_engine.specs.check.{Counts.Counts, Counts.counts_of, Counts.counts_and_line, Counts.counts_then}
use Rattle.sum_engine.specs.check.{Counts.total, Judge.Verdict}

-- one more line is at most one more that isn't ignored
pub total_with : (n : Counts) (v : Verdict) → total (counts_and_line n v) ≤ total n + 1
total_with n v = search (rules, arith)

-- one more line is the last of some lines, or the first of those after them
pub counts_then-line : (n m : Counts) (v : Verdict)
    → counts_then n (counts_and_line m v) ≡ counts_then (counts_and_line n v) m
counts_then-line n m v = search (rules, arith)

-- counts are their own sum with those of no line
pub counts_then-none : (n : Counts) → counts_then (counts_of []) n ≡ n
counts_then-none n = search (rules, arith)

-- counts stay if no line follows
pub counts_then-nil : (n : Counts) → counts_then n (counts_of []) ≡ n
counts_then-nil n = search rules
