use Rattle.std.proofs.Common.{◌≡◌, List, drop, map}
use Rattle.list_denotation.specs.Terms.{Term}
use Rattle.pipe_tree.specs.TreeCopies.{formula_of}
use Rattle.kind_rules.specs.Rows.{alike_parts}
use Rattle.pipe_kinds.proofs.rows.alike_parts.Given as goal

-- all parts are of their kinds where those left are
abbrev pub invariant-loop-i : goal.invariant-loop-i
invariant-loop-i l =
    (whole : List Term) → alike_parts (map formula_of (drop l.i l.parts)) (drop l.i l.kinds) (drop l.i l.state) whole
    ≡ alike_parts (map formula_of l.parts) l.kinds l.state whole
