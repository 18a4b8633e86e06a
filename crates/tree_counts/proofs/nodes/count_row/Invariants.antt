use Rattle.std.proofs.Common.{◌≡◌, drop, map}
use Rattle.pipe_tree.specs.Bounds.{row_node_offsets}
use Rattle.tree_counts.specs.Counting.{count_of}
use Rattle.pipe_tree.specs.TreeCopies.{formula_of}
use Rattle.tree_counts.proofs.nodes.count_row.Given as goal

-- the expressions that are left, behind those counted, are all of them
abbrev pub invariant-loop-part : goal.invariant-loop-part
invariant-loop-part l =
    count_of (row_node_offsets (map formula_of (drop l.part-index l.part-items))) l.left
    ≡ count_of (row_node_offsets (map formula_of l.row.parts)) l.room
