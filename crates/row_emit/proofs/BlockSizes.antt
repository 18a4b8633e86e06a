-- Statements that are appended, and how many there are.
use Rattle.std.proofs.Common.{◌≡◌, ◌≢◌, ℕ, suc, ◌+◌, true, false, List, [], ◌∷◌, length, refl, sym, ap, ◌∙◌, arith}
use Rattle.loop_ir.specs.declared.syntax.Stmt.{Stmt}
use Rattle.loop_ir.specs.Statements.{Block, Nil, Cons, join}
use Rattle.loop_ir.specs.StatementCopies.{block_of}
use Rattle.expr_forms.specs.Forms.{is_empty}

statements : Block → ℕ
statements Nil = 0
statements (Cons s ss) = suc (statements ss)

statements_of : (ss : List Stmt) → statements (block_of ss) ≡ length ss
unfolding statements
statements_of [] = refl
statements_of (s ∷ ss) = ap suc (statements_of ss)

statements_joined : (a b : Block) → statements (join a b) ≡ statements a + statements b
unfolding statements
statements_joined Nil b = sym (omega arith)
statements_joined (Cons s a) b = omega (arith, statements_joined a b)

-- there are as many as before exactly where none was appended
pub none_appended : (old new : List Stmt) (more : Block) → block_of new ≡ join (block_of old) more → length new ≡ length old → is_empty more ≡ true
unfolding statements
none_appended old new Nil h e = refl
none_appended old new (Cons s ss) h e =
    absurd (omega (arith, sym (statements_of new) ∙ ap statements h ∙ statements_joined (block_of old) (Cons s ss), statements_of old))

pub some_appended : (old new : List Stmt) (more : Block) → block_of new ≡ join (block_of old) more → length new ≢ length old → is_empty more ≡ false
unfolding statements
some_appended old new Nil h ne =
    absurd (ne (omega (arith, sym (statements_of new) ∙ ap statements h ∙ statements_joined (block_of old) Nil, statements_of old)))
some_appended old new (Cons s ss) h ne = refl

pub ruleset same_length = (none_appended, some_appended)
