-- Rows of expressions that the code looks through for a division.
use Rattle.std.proofs.Common.{◌≡◌, ℕ, ◌+◌, ◌≤◌, List, length, drop, Some, true, false, ◌&&◌, ap, ◌∙◌}
use Rattle.std.specs.Prelude.{slice_get}
use Rattle.std.proofs.lemmas.List.{drop_all}
use Rattle.strm_num.proofs.Lists.{drop_at}
use Rattle.list_denotation.specs.declared.expr.Expr.{Expr}
use Rattle.list_denotation.specs.Copies.{term_of, terms_of}
use Rattle.list_denotation.specs.Typing.{is_undivided, all_undivided}

pub undivided_step : (es : List Expr) (i : ℕ) (e : Expr) → slice_get es i ≡ Some e → is_undivided (term_of e) ≡ true → all_undivided (terms_of (drop i es)) ≡ all_undivided (terms_of (drop (i + 1) es))
undivided_step es i e h q = ap (λ l. all_undivided (terms_of l)) (drop_at es i e h) ∙ ap (λ b. b && all_undivided (terms_of (drop (i + 1) es))) q

pub divided_step : (es : List Expr) (i : ℕ) (e : Expr) → slice_get es i ≡ Some e → is_undivided (term_of e) ≡ false → all_undivided (terms_of (drop i es)) ≡ false
divided_step es i e h q = ap (λ l. all_undivided (terms_of l)) (drop_at es i e h) ∙ ap (λ b. b && all_undivided (terms_of (drop (i + 1) es))) q

pub undivided_end : (es : List Expr) (i : ℕ) → length es ≤ i → all_undivided (terms_of (drop i es)) ≡ true
undivided_end es i h = ap (λ l. all_undivided (terms_of l)) (drop_all i es h)

pub ruleset undivided_steps = (undivided_step, divided_step, undivided_end)
