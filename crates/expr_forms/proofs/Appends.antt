-- The code appends statements one by one; the definitions join blocks.
use Rattle.std.proofs.Common.{rules, ◌≡◌, ◌≢◌, ℕ, ◌<◌, ◌^◌, ◌==◌, List, [], ◌∷◌, length, refl, arith}
use Rattle.strm_num.specs.Magnitudes.{magnitude_of}
use Rattle.loop_ir.specs.declared.syntax.Stmt.{Stmt}
use Rattle.loop_ir.specs.StatementCopies.{block_of}
use Rattle.loop_ir.proofs.Copies.{set_push, if_push, join_join, join-nil}
use Rattle.expr_forms.specs.Forms.{is_empty}

pub ruleset push_steps = (set_push, if_push, join_join, join-nil)

-- a list of statements is empty where its block is
pub empty_block : (ss : List Stmt) → is_empty (block_of ss) ≡ (length ss == 0)
empty_block [] = refl
empty_block (s ∷ ss) = search rules

pub ruleset choice_steps = (push_steps, empty_block)

-- a divisor other than 0 has a magnitude other than 0
pub magnitude_positive : (c : ℕ) → c < 2 ^ 64 → c ≢ 0 → magnitude_of c ≢ 0
magnitude_positive c word h = grind arith
