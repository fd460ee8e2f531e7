use Rattle.digest_kinds.proofs.hashers.any_hasher.AnyHasherHasher.update.Goals as goal

-- BLAKE2b has then taken the piece, too
pub returns-in-Blake2b-clause-holds : goal.returns-in-Blake2b-clause-holds
returns-in-Blake2b-clause-holds c = λ m held. c.update-in-Blake2b.ensures.holds m (rw c.in-Blake2b.is at held)
