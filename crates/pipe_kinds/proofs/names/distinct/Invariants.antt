use Rattle.std.proofs.Common.{◌≡◌, ◌++◌, drop, map, take}
use Rattle.pipe_tree.specs.TreeCopies.{label_of}
use Rattle.kind_rules.specs.Scopes.{distinct_names, names_of}
use Rattle.pipe_kinds.proofs.names.distinct.Given as goal

-- the names left are tested beside all that stand before them
abbrev pub invariant-loop-i : goal.invariant-loop-i
invariant-loop-i l =
    distinct_names (names_of (map label_of l.beside) ++ names_of (map label_of (take l.i l.names))) (map label_of (drop l.i l.names))
    ≡ distinct_names (names_of (map label_of l.beside)) (map label_of l.names)
