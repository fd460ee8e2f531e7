use Rattle.std.proofs.Common.{sym}
use Rattle.sum_lines.proofs.ScanLemmas.{by_tag}
use Rattle.sum_lines.proofs.reading.beginnings.find_beginning.Goals as goal

-- a tag begins the text
pub returns-in-Some-clause-read_as : goal.returns-in-Some-clause-read_as
returns-in-Some-clause-read_as c = by_tag _ _ c.in-Some.algo (rw c.text_of-text.ensures at (sym c.in-Some.ensures))
