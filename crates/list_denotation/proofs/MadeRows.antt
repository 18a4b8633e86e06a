-- Rows of expressions that the code makes one by one.
use Rattle.std.proofs.Common.{◌≡◌, ℕ, suc, ◌+◌, ◌-◌, ◌≤◌, ◌<◌, List, [], ◌∷◌, ◌++◌, length, drop, Some, refl, sym, ap, ◌∙◌, arith, append-nil}
use Rattle.std.specs.Prelude.{slice_get}
use Rattle.std.proofs.lemmas.List.{drop_all}
use Rattle.strm_num.proofs.Lists.{drop_at}
use Rattle.list_denotation.specs.declared.expr.Expr.{Expr}
use Rattle.list_denotation.specs.declared.expr.Expr.TheVariants as expr
use Rattle.list_denotation.specs.Copies.{term_of, terms_of}
use Rattle.list_denotation.specs.TermRows.{variables}
use Rattle.list_denotation.specs.Terms.{Term, Var}

pub terms_length : (es : List Expr) → length (terms_of es) ≡ length es
terms_length [] = refl
terms_length (e ∷ es) = ap suc (terms_length es)

pub terms_push : (row : List Expr) (e : Expr) (rest : List Term) → terms_of (row ++ e ∷ []) ++ rest ≡ terms_of row ++ term_of e ∷ rest
terms_push [] e rest = refl
terms_push (x ∷ row) e rest = ap (λ z. term_of x ∷ z) (terms_push row e rest)

pub copy_step : (made es : List Expr) (i : ℕ) (e c : Expr) → slice_get es i ≡ Some e → term_of c ≡ term_of e → terms_of (made ++ c ∷ []) ++ terms_of (drop (i + 1) es) ≡ terms_of made ++ terms_of (drop i es)
copy_step made es i e c h q =
    terms_push made c (terms_of (drop (i + 1) es)) ∙ ap (λ t. terms_of made ++ t ∷ terms_of (drop (i + 1) es)) q
    ∙ sym (ap (λ l. terms_of made ++ terms_of l) (drop_at es i e h))

pub copy_end : (made es : List Expr) (i : ℕ) → length es ≤ i → terms_of made ++ terms_of (drop i es) ≡ terms_of made
copy_end made es i h = ap (λ l. terms_of made ++ terms_of l) (drop_all i es h) ∙ append-nil (terms_of made)

pub ruleset copy_steps = (copy_step, copy_end)

pub variable_step : (made : List Expr) (first i count : ℕ) → i < count → terms_of (made ++ expr.Var (first + i) ∷ []) ++ variables (first + (i + 1)) (count - (i + 1)) ≡ terms_of made ++ variables (first + i) (count - i)
variable_step made first i count h =
    terms_push made (expr.Var (first + i)) (variables (first + (i + 1)) (count - (i + 1)))
    ∙ ap (λ k. terms_of made ++ Var (first + i) ∷ variables k (count - (i + 1))) (let e : first + (i + 1) ≡ suc (first + i) = omega arith in e)
    ∙ ap (λ n. terms_of made ++ variables (first + i) n) (let e : suc (count - (i + 1)) ≡ count - i = omega arith in e)

pub variable_end : (made : List Expr) (first i count : ℕ) → count ≤ i → terms_of made ++ variables (first + i) (count - i) ≡ terms_of made
variable_end made first i count h =
    ap (λ n. terms_of made ++ variables (first + i) n) (let e : count - i ≡ 0 = omega arith in e) ∙ append-nil (terms_of made)

pub variable_start : (first count : ℕ) → variables (first + 0) (count - 0) ≡ variables first count
variable_start first count = ap (λ k. variables k (count - 0)) (let e : first + 0 ≡ first = omega arith in e) ∙ ap (variables first) (let e : count - 0 ≡ count = omega arith in e)

pub ruleset variable_steps = (variable_step, variable_end, variable_start)
