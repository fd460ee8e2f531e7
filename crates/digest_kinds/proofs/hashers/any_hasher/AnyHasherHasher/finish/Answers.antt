use Rattle.digest_kinds.proofs.hashers.any_hasher.AnyHasherHasher.finish.Goals as goal

-- what BLAKE2b has taken has that digest
pub returns-in-Blake2b-clause-value : goal.returns-in-Blake2b-clause-value
returns-in-Blake2b-clause-value c = λ m held.
    rw c.in-Blake2b.is (c.finish-in-Blake2b.ensures.value m (rw c.in-Blake2b.is at held))
