use Rattle.std.proofs.Common.{sym, ◌∙◌}
use Rattle.list_denotation.specs.Copies.{term_of}
use Rattle.loop_emit.proofs.Appends.{guard_at_once, not_kept}
use Rattle.loop_emit.proofs.loop_guard.open_guard.Goals as goal

pub returns-then-not-guard-clause-block : goal.returns-then-not-guard-clause-block
returns-then-not-guard-clause-block c = guard_at_once c.args.block.now c.args.slots.now.rows (term_of c.args.e.now) c.args.slots.now.next (sym c.in_ok-guard.ensures.kept ∙ not_kept c.in_ok-guard.guard.kept c.if-not-guard.true)
