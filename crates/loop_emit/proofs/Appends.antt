-- The code appends statements one by one; the definitions join blocks.
use Rattle.std.proofs.Common.{◌≡◌, ℕ, zero, suc, ◌+◌, ◌≤◌, List, [], ◌∷◌, length, drop, Some, Bool, true, false, not, refl, sym, ap, ◌∙◌, subst, arith, ne_eqb}
use Rattle.std.specs.Prelude.{IsTrue, ◌==◌, slice_get, if◌then◌else◌}
use Rattle.std.proofs.lemmas.List.{drop_all}
use Rattle.strm_num.proofs.Lists.{drop_at}
use Rattle.strm_num.proofs.Truths.{both_true}
use Rattle.list_denotation.specs.declared.expr.Expr.{Expr}
use Rattle.list_denotation.specs.Copies.{term_of, terms_of}
use Rattle.list_denotation.specs.Scopes.{is_bound, all_bound}
use Rattle.list_denotation.specs.Terms.{Term}
use Rattle.loop_ir.specs.declared.syntax.Stmt.{Stmt}
use Rattle.loop_ir.specs.Statements.{Const, Var, Test, Same, Not, Block, Nil, Cons, join}
use Rattle.loop_ir.specs.StatementCopies.{block_of}
use Rattle.loop_ir.proofs.Copies.{join_join, join-nil, loop_push}
use Rattle.expr_lower.specs.Costs.{temps_of}
use Rattle.expr_forms.specs.Forms.{Condition, is_empty}
use Rattle.expr_lower.specs.Lowering.{lowered_into, lowered_test}
use Rattle.expr_phrases.specs.PhraseCopies.{Appends}
use Rattle.turn_blocks.specs.Temporaries.{row_temps}
use Rattle.loop_emit.specs.Emission.{kept_condition, loop_guard, openings}

-- no statement was appended
pub appends_none : (old : List Stmt) → Appends old old Nil
appends_none old = sym (join-nil (block_of old))

-- statements, and then more
pub appends_more : (old mid new : List Stmt) (a b : Block) → Appends old mid a → Appends mid new b → Appends old new (join a b)
appends_more old mid new a b first more = more ∙ ap (λ x. join x b) first ∙ join_join (block_of old) a b

-- ---- rows of expressions

-- what is left of a row from an expression on
rest_at : (es : List Expr) (i : ℕ) (e : Expr) → slice_get es i ≡ Some e → terms_of (drop i es) ≡ term_of e ∷ terms_of (drop (i + 1) es)
rest_at es i e h = ap terms_of (drop_at es i e h)

pub bound_at : (n : ℕ) (es : List Expr) (i : ℕ) (e : Expr) → slice_get es i ≡ Some e → IsTrue (all_bound n (terms_of es)) → IsTrue (is_bound n (term_of e))
bound_at n [] i e h all = absurd cc
bound_at n (x ∷ es) zero e h all =
    let same : x ≡ e = cc in
    subst (λ y. IsTrue (is_bound n (term_of y))) same (both_true (is_bound n (term_of x)) (all_bound n (terms_of es)) all).0
bound_at n (x ∷ es) (suc i) e h all = bound_at n es i e h (both_true (is_bound n (term_of x)) (all_bound n (terms_of es)) all).1

pub temps_at : (es : List Expr) (i : ℕ) (e : Expr) → slice_get es i ≡ Some e → temps_of (term_of e) ≤ row_temps (terms_of es)
temps_at [] i e h = absurd cc
temps_at (x ∷ es) zero e h = let same : x ≡ e = cc in omega (arith, ap (λ y. temps_of (term_of y)) same)
temps_at (x ∷ es) (suc i) e h = omega (arith, temps_at es i e h)

-- ---- openings

-- one word more is opened, over no words
pub opens_one : (a b : Block) (es : List Expr) (rows : List ℕ) (t first i : ℕ) (e : Expr) → rows ≡ [] → t ≡ 0 → slice_get es i ≡ Some e → b ≡ join a (lowered_into rows (term_of e) (first + i) t) → join b (openings (terms_of (drop (i + 1) es)) (first + (i + 1))) ≡ join a (openings (terms_of (drop i es)) (first + i))
opens_one a b es rows t first i e none zero_first h is =
    let later : first + (i + 1) ≡ first + i + 1 = omega arith in
    let one = lowered_into [] (term_of e) (first + i) 0 in
    let rest = openings (terms_of (drop (i + 1) es)) in
    ap (λ c. join c (rest (first + (i + 1)))) (is ∙ ap (λ rs. join a (lowered_into rs (term_of e) (first + i) t)) none ∙ ap (λ n. join a (lowered_into [] (term_of e) (first + i) n)) zero_first)
    ∙ join_join a one (rest (first + (i + 1)))
    ∙ ap (λ n. join a (join one (rest n))) later
    ∙ ap (λ l. join a (openings l (first + i))) (sym (rest_at es i e h))

pub opens_end : (a : Block) (es : List Expr) (first i : ℕ) → length es ≤ i → join a (openings (terms_of (drop i es)) (first + i)) ≡ a
opens_end a es first i le = ap (λ l. join a (openings (terms_of l) (first + i))) (drop_all i es le) ∙ join-nil a

-- ---- the guard of a loop

-- a list of statements is empty exactly where the block is
pub none_of : (ss : List Stmt) (b : Block) (none : Bool) → block_of ss ≡ join Nil b → none ≡ (length ss == 0) → none ≡ is_empty b
none_of [] b none h is = is ∙ ap is_empty h
none_of (s ∷ ss) b none h is = is ∙ ne_eqb (suc (length ss)) 0 (λ e. omega (arith, e)) ∙ ap is_empty h

-- a guard whose condition has no statements, and one whose value is kept
at_once : (old : List Stmt) (b value : Block) (t : Test) (v : ℕ) → not (is_empty b) ≡ false → Appends old old (kept_condition (record { block = b; test = t }) value v).block
at_once old Nil value t v none = appends_none old
at_once old (Cons s ss) value t v none = absurd cc

pub guard_at_once : (old : List Stmt) (rows : List ℕ) (e : Term) (v : ℕ) → not (is_empty (lowered_test rows e v 0).block) ≡ false → Appends old old (loop_guard rows e v).block
guard_at_once old rows e v none = at_once old (lowered_test rows e v 0).block (lowered_into rows e v 0) (lowered_test rows e v 0).test v none

pub guard_kept : (c : Condition) (value : Block) (v : ℕ) → not (is_empty c.block) ≡ true → kept_condition c value v ≡ record { block = value; test = Not (Same (Var v) (Const 0)) }
guard_kept c value v some = by_block (is_empty c.block) some
  where
    by_block : (empty : Bool) → not empty ≡ true → (if empty then c else record { block = value; test = Not (Same (Var v) (Const 0)) }) ≡ record { block = value; test = Not (Same (Var v) (Const 0)) }
    by_block true some = absurd cc
    by_block false some = refl

pub ruleset loop_steps = (appends_more, loop_push, join_join)

pub ruleset guard_steps = (guard_at_once, guard_kept)

pub not_kept : (kept : Bool) → not kept ≡ true → kept ≡ false
not_kept true h = absurd cc
not_kept false h = refl
