use Rattle.std.proofs.Common.{◌≡◌, [], ◌++◌, drop}
use Rattle.pipe_tree.specs.Bounds.{node_offsets, of_stages, row_node_offsets}
use Rattle.tree_counts.specs.Counting.{count_of}
use Rattle.pipe_tree.specs.TreeCopies.{stages_of}
use Rattle.tree_counts.proofs.nodes.+nodes.Given as goal

-- the stages that are left, behind those counted, are all of them
abbrev pub invariant-count_stages-loop-stage : goal.invariant-count_stages-loop-stage
invariant-count_stages-loop-stage l =
    count_of (of_stages [] node_offsets row_node_offsets ◌++◌ (stages_of (drop l.stage-index l.stages))) l.left
    ≡ count_of (of_stages [] node_offsets row_node_offsets ◌++◌ (stages_of l.stages)) l.room
