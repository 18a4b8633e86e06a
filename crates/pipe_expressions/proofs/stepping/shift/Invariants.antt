use Rattle.std.proofs.Common.{◌≡◌, length}
use Rattle.pipe_reader.specs.Machine.{shift}
use Rattle.pipe_expressions.specs.MachineCopies.{frames_of}
use Rattle.pipe_tree.specs.TreeCopies.{formula_of}
use Rattle.pipe_expressions.proofs.stepping.shift.Given as goal

-- the operand that is whole so far goes on as the first one does
abbrev pub invariant-loop-operator : goal.invariant-loop-operator
invariant-loop-operator l =
    shift (frames_of l.forms) (formula_of l.operand.expr.value) l.follow l.at
    ≡ shift (frames_of l.fn.forms) (formula_of l.fn.operand.expr.value) l.follow l.at

abbrev pub decreases-loop-operator : goal.decreases-loop-operator
decreases-loop-operator l = length l.forms
