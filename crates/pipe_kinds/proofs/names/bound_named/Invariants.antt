use Rattle.std.proofs.Common.{◌≡◌, drop, map}
use Rattle.pipe_kinds.specs.Copies.{bound_of}
use Rattle.kind_rules.specs.Scopes.{bound_from, newer}
use Rattle.pipe_kinds.proofs.names.bound_named.Given as goal

-- what was found, and then the words left, is what is found in all of them
abbrev pub invariant-loop-i : goal.invariant-loop-i
invariant-loop-i l =
    newer (l.found) (bound_from l.i (map bound_of (drop l.i l.bound)) l.name)
    ≡ bound_from 0 (map bound_of l.bound) l.name
