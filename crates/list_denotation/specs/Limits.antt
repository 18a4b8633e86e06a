-- The limits of a program, each as a fact of its own.
use Rattle.std.specs.Prelude.{◌+◌, ◌≤◌, List, length}
use Rattle.pipe_limits.specs.declared.TheConstants.{MOST_INPUTS, MOST_OPERATORS, MOST_NODES, MOST_DEPTH, MOST_NESTING}
use Rattle.list_denotation.specs.declared.input.InputKind.{InputKind}
use Rattle.list_denotation.specs.Terms.{Pipe, Finish}
use Rattle.list_denotation.specs.Counts.{stream_ops, stream_nodes, stream_depth, stream_nesting, finish_nodes, finish_depth}

pub record IsWithinLimits (inputs : List InputKind) (s : Pipe) (t : Finish) : Type 0 where
  pub few_inputs : length inputs ≤ MOST_INPUTS
  pub few_ops : stream_ops s + 1 ≤ MOST_OPERATORS
  pub few_nodes : stream_nodes s + finish_nodes t ≤ MOST_NODES
  pub small_stream_depth : stream_depth s ≤ MOST_DEPTH
  pub small_finish_depth : finish_depth t ≤ MOST_DEPTH
  pub small_nesting : stream_nesting s ≤ MOST_NESTING
