-- What the counts of a text are answered with.
use Rattle.std.specs.Prelude.{◌≤◌, length, Result, Ok, Err}
use Rattle.pipe_tree.specs.declared.fault.ParseFault.{ParseFault}
use Rattle.pipe_tree.specs.declared.fault.ParseFault.TheVariants as fault
use Rattle.pipe_tree.specs.Bounds.{text_input_offsets, text_op_offsets, text_node_offsets}
use Rattle.pipe_tree.specs.Parsing.{HasTooManyInputs, HasTooManyOps, HasTooManyNodes}
use Rattle.pipe_tree.specs.Trees.{Text}
use Rattle.pipe_limits.specs.declared.TheConstants.{MOST_INPUTS, MOST_OPERATORS, MOST_NODES}

-- the counts are within the limits
pub record HasFew (t : Text) : Type 0 where
  pub inputs : length (text_input_offsets t) ≤ MOST_INPUTS
  pub ops : length (text_op_offsets t) ≤ MOST_OPERATORS
  pub nodes : length (text_node_offsets t) ≤ MOST_NODES

-- they are within the limits, or the first that isn't is named with its offset
abbrev pub CountsAs : Text → Result (Unit {0}) ParseFault → Type 0
CountsAs t (Ok u) = HasFew t
CountsAs t (Err (fault.TooManyInputs at)) = HasTooManyInputs at t
CountsAs t (Err (fault.TooManyOps at)) = HasTooManyOps at t
CountsAs t (Err (fault.TooManyNodes at)) = HasTooManyNodes at t
CountsAs t (Err (fault.Syntax at)) = ⊥
CountsAs t (Err (fault.TooDeep at)) = ⊥
CountsAs t (Err fault.NoMemory) = ⊥
