-- The code appends statements one by one; the definitions join blocks.
use Rattle.std.proofs.Common.{List, ap, sym, ◌∙◌}
use Rattle.loop_ir.specs.declared.syntax.Stmt.{Stmt}
use Rattle.loop_ir.specs.Statements.{Block, Nil, join}
use Rattle.loop_ir.specs.StatementCopies.{block_of}
use Rattle.loop_ir.proofs.Copies.{set_push, if_push, read_push, emit_push, end_push, return_push, join_join, join-nil}
use Rattle.expr_phrases.specs.PhraseCopies.{Appends}
use Rattle.row_emit.proofs.Variables.{got_index}

pub ruleset push_steps = (set_push, if_push, read_push, emit_push, end_push, return_push, join_join, join-nil, got_index)

-- no statement was appended
pub appends_none : (old : List Stmt) → Appends old old Nil
appends_none old = sym (join-nil (block_of old))

-- statements, and then more
pub appends_more : (old mid new : List Stmt) (a b : Block) → Appends old mid a → Appends mid new b → Appends old new (join a b)
appends_more old mid new a b first more = more ∙ ap (λ x. join x b) first ∙ join_join (block_of old) a b
