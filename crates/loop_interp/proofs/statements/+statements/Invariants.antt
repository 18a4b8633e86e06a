use Rattle.std.proofs.Common.{drop, take}
use Rattle.loop_ir.specs.Meaning.{run, run_one, test_value}
use Rattle.loop_ir.specs.StatementCopies.{test_of, statement_of, block_of}
use Rattle.loop_interp.specs.Runs.{IsReady, state_of}
use Rattle.loop_interp.proofs.Following.{Comes}
use Rattle.loop_interp.proofs.Turns.{Turning}
use Rattle.loop_interp.proofs.statements.+statements.Given as goal

-- the statements from this one on are left of all
abbrev pub invariant-block-loop-s : goal.invariant-block-loop-s
invariant-block-loop-s g l = record {
  comes : Comes (run l.inputs (block_of l.body) (take l.vars l.fn.regs.words) l.fn.progress.left)
      (run l.inputs (block_of (drop l.s-index l.body)) (take l.vars l.regs.words) l.progress.left)
      (state_of l.vars (g.O.Sink.written l.fn.sink) (g.O.Sink.faults l.fn.sink) l.fn.regs l.fn.progress)
      (state_of l.vars (g.O.Sink.written l.sink) (g.O.Sink.faults l.sink) l.regs l.progress);
  ready : IsReady l.vars l.regs;
}

-- the loop is left of the statement, as it began, with fewer turns
abbrev pub invariant-statement-loop-regs : goal.invariant-statement-loop-regs
invariant-statement-loop-regs g l = record {
  turning : Turning
      (run_one l.inputs (statement_of l.s) (take l.vars l.fn.regs.words) l.fn.progress.left)
      (test_value l.inputs (test_of l.t)) (run l.inputs (block_of l.body))
      (state_of l.vars (g.O.Sink.written l.fn.sink) (g.O.Sink.faults l.fn.sink) l.fn.regs l.fn.progress)
      (state_of l.vars (g.O.Sink.written l.sink) (g.O.Sink.faults l.sink) l.regs l.progress);
  ready : IsReady l.vars l.regs;
}

abbrev pub decreases-statement-loop-regs : goal.decreases-statement-loop-regs
decreases-statement-loop-regs g l = l.progress.left
