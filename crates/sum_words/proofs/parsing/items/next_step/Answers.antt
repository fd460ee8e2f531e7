use Rattle.sum_words.proofs.parsing.items.next_step.Goals as goal

-- the letter's step, and what follows it in the cluster
pub returns-in-Cluster : goal.returns-in-Cluster
returns-in-Cluster c = rw c.in-Cluster.is (c.letter_step.ensures c.args.words.now)
