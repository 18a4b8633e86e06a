-- The code appends statements one by one; the definitions join blocks.
use Rattle.loop_ir.proofs.Copies.{set_push, if_push, join_join, join-nil}

pub ruleset push_steps = (set_push, if_push, join_join, join-nil)
