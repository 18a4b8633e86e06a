-- A row that is printed word by word.
use Rattle.std.proofs.Common.{◌≡◌, ℕ, ◌+◌, ◌<◌, ◌≤◌, List, [], ◌∷◌, ◌++◌, length, drop, Some, sym, ap, ◌∙◌}
use Rattle.std.specs.Prelude.{slice_get, slice_index}
use Rattle.std.proofs.lemmas.List.{drop_all}
use Rattle.strm_num.proofs.Lists.{drop_at}
use Rattle.loop_ir.specs.declared.syntax.Stmt.{Stmt}
use Rattle.loop_ir.specs.declared.syntax.Stmt.TheVariants as stmt
use Rattle.loop_ir.specs.declared.syntax.W.TheVariants as w
use Rattle.loop_ir.specs.Statements.{Var, Emit, join}
use Rattle.loop_ir.specs.StatementCopies.{block_of}
use Rattle.loop_ir.proofs.Copies.{emit_copy, push_front, end_push}
use Rattle.row_emit.proofs.Variables.{index_got}
use Rattle.turn_blocks.specs.Consumers.{print_block}

pub print_step : (ss : List Stmt) (rows : List ℕ) (i v : ℕ) → slice_get rows i ≡ Some v → join (block_of (ss ++ stmt.Emit (w.Var v) ∷ [])) (print_block (drop (i + 1) rows)) ≡ join (block_of ss) (print_block (drop i rows))
print_step ss rows i v h =
    push_front ss (stmt.Emit (w.Var v)) (Emit (Var v)) (print_block (drop (i + 1) rows)) (emit_copy (w.Var v))
    ∙ ap (λ l. join (block_of ss) (print_block l)) (sym (drop_at rows i v h))

pub print_end : (ss : List Stmt) (rows : List ℕ) (i : ℕ) → length rows ≤ i → block_of (ss ++ stmt.EndRow ∷ []) ≡ join (block_of ss) (print_block (drop i rows))
print_end ss rows i le = end_push ss ∙ ap (λ l. join (block_of ss) (print_block l)) (sym (drop_all i rows le))

-- one word more
pub print_at : (ss new : List Stmt) (rows : List ℕ) (i : ℕ) → i < length rows → new ≡ ss ++ stmt.Emit (w.Var (slice_index rows i)) ∷ [] → join (block_of new) (print_block (drop (i + 1) rows)) ≡ join (block_of ss) (print_block (drop i rows))
print_at ss new rows i lt is = ap (λ l. join (block_of l) (print_block (drop (i + 1) rows))) is ∙ print_step ss rows i (slice_index rows i) (index_got rows i lt)

pub ruleset print_steps = (print_end)
