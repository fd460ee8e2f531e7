use Rattle.std.proofs.Common.{rules}
use Rattle.sum_lines.proofs.{ParsedLineLemmas.one_entry, PlainLemmas.one_shape}
use Rattle.sum_lines.proofs.laws.one_entry.Goals as goal

-- a line spells one entry at most, and has one shape at most
pub returns : goal.returns
returns c = record { entry = one_entry; shape = search (rules, one_shape) }
