use Rattle.std.proofs.Common.{rules}
use Rattle.sum_engine.proofs.{HashLemmas.hashes_name, VerdictLemmas.verdict_read, WorldLemmas.reads_weaker}
use Rattle.sum_engine.proofs.check.judge.judge.Goals as goal

-- the file was read to its end, unless the verdict says that it could not be read
pub returns-clause-reads : goal.returns-clause-reads
returns-clause-reads g c =
    let hashed = hashes_name c.hash_file-found.result c.hash_file-found.ensures.hashed in
    reads_weaker (verdict_read _ _ c.hash_file-found.result _ c.compare.ensures) hashed.reads

-- the verdict is that of the answer
pub returns-clause-verdict : goal.returns-clause-verdict
returns-clause-verdict g c = λ w agrees.
    let hash = (hashes_name c.hash_file-found.result c.hash_file-found.ensures.hashed).hash w agrees in
    search rules
