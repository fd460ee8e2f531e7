use Rattle.std.proofs.{Common.rules, Common.arith, lemmas.Result.err_from_is_err_and}
use Rattle.sum_sources.proofs.LimitLemmas.{past, past_read, read_fails, read_reaches, read_gives}
use Rattle.sum_sources.proofs.inputs.size_limit.read_limited.Goals as goal

-- a read failed
pub returns-in_err-n-clause-reads : goal.returns-in_err-n-clause-reads
returns-in_err-n-clause-reads g c =
    let fault = err_from_is_err_and c.from_residual.result c.from_residual.ensures.1 in
    rw (fault.1, fault.2) (record {
      adds = λ m low going. read_fails (past m _) (past m _) c.args.taken.now going c.requires _
          c.read.new.buf (omega (arith, c.max-size.ensures)) (past_read m _ _ _ _ low c.in_err-n.ensures.reads);
    })

-- the byte that was read reached the limit
pub returns-then-taken-eq-LIMIT-clause-reads : goal.returns-then-taken-eq-LIMIT-clause-reads
returns-then-taken-eq-LIMIT-clause-reads g c =
    record {
      adds = λ m low going. read_reaches (past m _) (past m _) c.args.taken.now going c.requires c.in_ok-n.n
          c.read.new.buf (omega (arith, c.max-size.ensures)) (search rules) (search rules)
          (omega (arith, c.max-size.ensures, c.min.ensures)) (past_read m _ _ _ _ low c.in_ok-n.ensures.reads);
    }

-- the read gave bytes, or found the end
pub returns-clause-reads : goal.returns-clause-reads
returns-clause-reads g c =
    record {
      adds = λ m low going. read_gives (past m _) (past m _) c.args.taken.now going c.requires c.in_ok-n.n
          c.read.new.buf _ (omega (arith, c.max-size.ensures)) (search rules)
          (past_read m _ _ _ _ low c.in_ok-n.ensures.reads);
    }
