use Rattle.list_denotation.proofs.TypedKinds.{kind_is_some}
use Rattle.list_denotation.proofs.typing.push_row.Goals as goal

pub kind_of-requires : goal.kind_of-requires
kind_of-requires c =
    kind_is_some c.args.inputs.now c.args.scope.now c.args.kinds.now c.loop-i.kinds c.args.row.now c.loop-i.i c.get.result.now c.get.ensures c.loop-i.invariant c.requires
