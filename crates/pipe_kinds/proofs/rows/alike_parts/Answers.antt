use Rattle.std.proofs.Common.{sym, ◌∙◌, arith, rules}
use Rattle.list_denotation.specs.declared.kind.Kind.TheVariants.{Int}
use Rattle.pipe_kinds.proofs.FoundParts.{unlike_at}
use Rattle.pipe_kinds.proofs.rows.alike_parts.Goals as goal

pub returns-then-not-is_kind : goal.returns-then-not-is_kind
returns-then-not-is_kind c = λ whole.
    sym (c.loop-i.invariant whole)
    ∙ unlike_at c.args.parts.now c.args.kinds.now c.args.state.now whole c.loop-i.i c.index-parts-i.result Int (omega arith) (omega arith) (omega arith) c.index-parts-i.is (search rules)
