use Rattle.sum_sources.proofs.AllReadsLemmas.{all_reads_first, all_reads_next}
use Rattle.sum_sources.proofs.laws.all_reads.Goals as goal

pub returns-clause-unread : goal.returns-clause-unread
returns-clause-unread g c = all_reads_first g.I.Input.state

pub returns-clause-call : goal.returns-clause-call
returns-clause-call g c = all_reads_next g.I.Input.state
