use Rattle.std.proofs.Common.{sym, ◌∙◌}
use Rattle.list_denotation.specs.Copies.{term_of}
use Rattle.loop_emit.proofs.Appends.{guard_at_once}
use Rattle.loop_emit.proofs.loop_guard.put_guard.Goals as goal

pub returns-else-kept : goal.returns-else-kept
returns-else-kept c = guard_at_once c.args.block.now c.args.slots.now.rows (term_of c.args.e.now) c.args.v (sym c.requires.kept ∙ c.if-kept.false)
