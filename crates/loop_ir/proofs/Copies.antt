-- The code appends statements one by one; the definitions join blocks.
use Rattle.std.proofs.Common.{rules, ◌≡◌, ℕ, List, [], ◌∷◌, ◌++◌, refl, ap, ◌∙◌}
use Rattle.loop_ir.specs.declared.syntax.Stmt.{Stmt, the_lemmas}
use Rattle.loop_ir.specs.declared.syntax.Stmt.TheVariants as stmt
use Rattle.loop_ir.specs.declared.syntax.T.{T}
use Rattle.loop_ir.specs.declared.syntax.Verdict.{Verdict}
use Rattle.loop_ir.specs.declared.syntax.W.{W}
use Rattle.loop_ir.specs.Statements.{Statement, Set, Read, If, Loop, Emit, EndRow, Ret, Block, Nil, Cons, join}
use Rattle.loop_ir.specs.StatementCopies.{operand_of, test_of, statement_of, block_of}

pub join_join : (a b c : Block) → join (join a b) c ≡ join a (join b c)
join_join Nil b c = refl
join_join (Cons s a) b c = ap (λ rest. Cons s rest) (join_join a b c)

pub join-nil : (a : Block) → join a Nil ≡ a
join-nil Nil = refl
join-nil (Cons s a) = ap (λ rest. Cons s rest) (join-nil a)

-- ---- the copies of single statements
pub set_copy : (v : ℕ) (x : W) → statement_of (stmt.Set v x) ≡ Set v (operand_of x)
set_copy v x = search (rules, the_lemmas)

pub read_copy : (v a : ℕ) (x : W) → statement_of (stmt.Read v a x) ≡ Read v a (operand_of x)
read_copy v a x = search (rules, the_lemmas)

pub if_copy : (t : T) (a b : List Stmt) → statement_of (stmt.If t a b) ≡ If (test_of t) (block_of a) (block_of b)
if_copy t a b = search (rules, the_lemmas)

pub loop_copy : (t : T) (body : List Stmt) → statement_of (stmt.Loop t body) ≡ Loop (test_of t) (block_of body)
loop_copy t body = search (rules, the_lemmas)

pub emit_copy : (x : W) → statement_of (stmt.Emit x) ≡ Emit (operand_of x)
emit_copy x = search (rules, the_lemmas)

pub end_copy : statement_of stmt.EndRow ≡ EndRow
end_copy = search (rules, the_lemmas)

pub return_copy : (v : Verdict) → statement_of (stmt.Ret v) ≡ Ret v
return_copy v = search (rules, the_lemmas)

-- ---- a statement that is appended
pub block_push : (ss : List Stmt) (s : Stmt) → block_of (ss ++ s ∷ []) ≡ join (block_of ss) (Cons (statement_of s) Nil)
block_push [] s = refl
block_push (x ∷ ss) s = ap (λ b. Cons (statement_of x) b) (block_push ss s)

-- statements that are appended are joined
pub block_append : (ss more : List Stmt) → block_of (ss ++ more) ≡ join (block_of ss) (block_of more)
block_append [] more = refl
block_append (x ∷ ss) more = ap (λ b. Cons (statement_of x) b) (block_append ss more)

-- a statement before what is still to come
pub push_front : (ss : List Stmt) (s : Stmt) (t : Statement) (rest : Block) → statement_of s ≡ t → join (block_of (ss ++ s ∷ [])) rest ≡ join (block_of ss) (Cons t rest)
push_front ss s t rest e = ap (λ b. join b rest) (block_push ss s) ∙ join_join (block_of ss) (Cons (statement_of s) Nil) rest ∙ ap (λ u. join (block_of ss) (Cons u rest)) e

-- each statement, appended
pub set_push : (ss : List Stmt) (v : ℕ) (x : W) → block_of (ss ++ stmt.Set v x ∷ []) ≡ join (block_of ss) (Cons (Set v (operand_of x)) Nil)
set_push ss v x = block_push ss (stmt.Set v x) ∙ ap (λ s. join (block_of ss) (Cons s Nil)) (set_copy v x)

pub read_push : (ss : List Stmt) (v a : ℕ) (x : W) → block_of (ss ++ stmt.Read v a x ∷ []) ≡ join (block_of ss) (Cons (Read v a (operand_of x)) Nil)
read_push ss v a x = block_push ss (stmt.Read v a x) ∙ ap (λ s. join (block_of ss) (Cons s Nil)) (read_copy v a x)

pub if_push : (ss : List Stmt) (t : T) (a b : List Stmt) → block_of (ss ++ stmt.If t a b ∷ []) ≡ join (block_of ss) (Cons (If (test_of t) (block_of a) (block_of b)) Nil)
if_push ss t a b = block_push ss (stmt.If t a b) ∙ ap (λ s. join (block_of ss) (Cons s Nil)) (if_copy t a b)

pub loop_push : (ss : List Stmt) (t : T) (body : List Stmt) → block_of (ss ++ stmt.Loop t body ∷ []) ≡ join (block_of ss) (Cons (Loop (test_of t) (block_of body)) Nil)
loop_push ss t body = block_push ss (stmt.Loop t body) ∙ ap (λ s. join (block_of ss) (Cons s Nil)) (loop_copy t body)

pub emit_push : (ss : List Stmt) (x : W) → block_of (ss ++ stmt.Emit x ∷ []) ≡ join (block_of ss) (Cons (Emit (operand_of x)) Nil)
emit_push ss x = block_push ss (stmt.Emit x) ∙ ap (λ s. join (block_of ss) (Cons s Nil)) (emit_copy x)

pub end_push : (ss : List Stmt) → block_of (ss ++ stmt.EndRow ∷ []) ≡ join (block_of ss) (Cons EndRow Nil)
end_push ss = block_push ss stmt.EndRow ∙ ap (λ s. join (block_of ss) (Cons s Nil)) end_copy

pub return_push : (ss : List Stmt) (v : Verdict) → block_of (ss ++ stmt.Ret v ∷ []) ≡ join (block_of ss) (Cons (Ret v) Nil)
return_push ss v = block_push ss (stmt.Ret v) ∙ ap (λ s. join (block_of ss) (Cons s Nil)) (return_copy v)

pub ruleset pushes = (set_push, read_push, if_push, loop_push, emit_push, end_push, return_push, join_join)
