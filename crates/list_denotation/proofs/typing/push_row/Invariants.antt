use Rattle.std.proofs.Common.{◌≡◌, drop}
use Rattle.list_denotation.specs.Copies.{terms_of}
use Rattle.list_denotation.specs.Typing.{append_kinds, kinds_of}
use Rattle.list_denotation.proofs.typing.push_row.Given as goal

-- with the kinds of the expressions left, those so far are all
abbrev pub invariant-loop-i : goal.invariant-loop-i
invariant-loop-i l =
    append_kinds l.kinds (kinds_of l.inputs l.scope (terms_of (drop l.i l.row)))
    ≡ append_kinds l.initial.kinds (kinds_of l.inputs l.scope (terms_of l.row))
