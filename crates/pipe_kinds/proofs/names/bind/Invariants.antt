use Rattle.std.proofs.Common.{◌≡◌, ◌++◌, drop, length, map}
use Rattle.pipe_tree.specs.TreeCopies.{label_of}
use Rattle.pipe_kinds.specs.Copies.{bound_of}
use Rattle.kind_rules.specs.Scopes.{bind}
use Rattle.pipe_kinds.proofs.names.bind.Given as goal

-- the words that are there, and those of the names left, are those of all names
abbrev pub invariant-loop-i : goal.invariant-loop-i
invariant-loop-i l = record {
  count : length l.words.items ≡ l.i;
  words : map bound_of l.words.items ++ bind (map label_of (drop l.i l.names)) (drop l.i l.kinds) ≡ bind (map label_of l.names) l.kinds;
}
