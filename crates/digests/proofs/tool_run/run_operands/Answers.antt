use Rattle.std.proofs.{Common.rules, Common.arith, Common.ap, Common.Ok, Math.Bool.and-true}
use Rattle.std.proofs.{lemmas.Result.err_from_is_err_and}
use Rattle.sum_engine.proofs.{ExecutionLemmas.Happened-none, WorldLemmas.reads_none, WorldLemmas.reads_weaker}
use Rattle.sum_engine.proofs.{WorldLemmas.reads_then}
use Rattle.digests.proofs.OperandLemmas.{left-next, operands_done_step, operands_done_stop}
use Rattle.digests.proofs.tool_run.run_operands.Goals as goal

-- before the first operand nothing happened
pub operands-init : goal.operands-init
operands-init g c = record {
  reached = record {
    reads = reads_none c.args.streams.now.inputs;
    completes = λ w agrees z r did. rw c.first_name.ensures did;
  };
  failures = search rules;
}

-- an operand stopped the run
pub returns-in_err-good-clause-behavior : goal.returns-in_err-good-clause-behavior
returns-in_err-good-clause-behavior g c =
    let stop = err_from_is_err_and c.from_residual.result c.from_residual.ensures.1 in
    rw (stop.1, stop.2) (operands_done_stop _ c.run_operand.new.streams
    (rw c.in-Some.is at c.operands.invariant.reached) c.in_err-good.ensures.reads c.in_err-good.ensures.behavior)

-- what was read before it, and of it
pub returns-in_err-good-clause-reads : goal.returns-in_err-good-clause-reads
returns-in_err-good-clause-reads g c =
    reads_then (λ good. grind arith) c.operands.invariant.reached.reads c.in_err-good.ensures.reads

-- an operand happened
pub operands-preserved : goal.operands-preserved
operands-preserved g c =
    let so_far = c.operands.invariant in
    record {
      reached = rw (← left-next c.operands.operands _ c.next-next.result c.next-next.ensures.steps)
          (operands_done_step c.in_ok-good.field-0 c.run_operand.new.streams (rw c.in-Some.is at so_far.reached)
          (λ good. ap Ok good) c.in_ok-good.ensures.reads c.in_ok-good.ensures.behavior);
      failures = search rules;
    }

-- no operand is left
pub returns-clause-behavior : goal.returns-clause-behavior
returns-clause-behavior g c = λ w agrees.
    let reached = rw c.in_default.is at c.operands.invariant.reached in
    reached.completes w agrees c.operands.streams (Ok c.status.result)
    (rw and-true (c.status.ensures, Happened-none c.operands.streams))

-- what was read of all operands
pub returns-clause-reads : goal.returns-clause-reads
returns-clause-reads g c =
    reads_weaker (λ zero. grind arith) c.operands.invariant.reached.reads
