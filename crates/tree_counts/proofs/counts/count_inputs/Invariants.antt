use Rattle.std.proofs.Common.{◌≡◌, drop, map}
use Rattle.tree_counts.specs.Counting.{count_of}
use Rattle.pipe_tree.specs.TreeCopies.{declaration_of}
use Rattle.pipe_tree.specs.Trees.{Declaration}
use Rattle.tree_counts.proofs.counts.count_inputs.Given as goal

-- the declarations that are left, behind those counted, are all of them
abbrev pub invariant-loop-declaration : goal.invariant-loop-declaration
invariant-loop-declaration l =
    count_of (map (λ (d : Declaration). d.at) (map declaration_of (drop l.declaration-index l.inputs))) l.left
    ≡ count_of (map (λ (d : Declaration). d.at) (map declaration_of l.inputs)) l.room
