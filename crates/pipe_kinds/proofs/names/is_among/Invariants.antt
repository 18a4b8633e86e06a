use Rattle.std.proofs.Common.{◌≡◌, drop, map}
use Rattle.pipe_tree.specs.TreeCopies.{label_of}
use Rattle.kind_rules.specs.Scopes.{is_among, names_of}
use Rattle.pipe_kinds.proofs.names.is_among.Given as goal

-- the name is among all where it is among those left
abbrev pub invariant-loop-other : goal.invariant-loop-other
invariant-loop-other l =
    is_among l.name (names_of (map label_of (drop l.other-index l.names))) ≡ is_among l.name (names_of (map label_of l.names))
