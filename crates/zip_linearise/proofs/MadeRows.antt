-- Rows of zeros that the code makes one by one.
use Rattle.std.proofs.Common.{◌≡◌, ℕ, suc, ◌+◌, ◌-◌, ◌<◌, ◌≤◌, List, [], ◌∷◌, ◌++◌, sym, ap, ◌∙◌, append-nil, arith}
use Rattle.list_denotation.specs.declared.expr.Expr.{Expr}
use Rattle.list_denotation.specs.declared.expr.Expr.TheVariants as expr
use Rattle.list_denotation.specs.Copies.{terms_of}
use Rattle.list_denotation.specs.Terms.{Lit}
use Rattle.list_denotation.proofs.MadeRows.{terms_push}
use Rattle.zip_linearise.specs.HeldRows.{zeros}

zeros_left : (n i : ℕ) → i < n → zeros (n - i) ≡ Lit 0 ∷ zeros (n - (i + 1))
zeros_left n i h = ap zeros (let q : n - i ≡ suc (n - (i + 1)) = omega arith in q)

pub zero_step : (made : List Expr) (n i : ℕ) → i < n → terms_of (made ++ expr.Lit 0 ∷ []) ++ zeros (n - (i + 1)) ≡ terms_of made ++ zeros (n - i)
zero_step made n i h = terms_push made (expr.Lit 0) (zeros (n - (i + 1))) ∙ sym (ap (λ z. terms_of made ++ z) (zeros_left n i h))

pub zero_end : (made : List Expr) (n i : ℕ) → n ≤ i → terms_of made ++ zeros (n - i) ≡ terms_of made
zero_end made n i h = ap (λ k. terms_of made ++ zeros k) (let q : n - i ≡ 0 = omega arith in q) ∙ append-nil (terms_of made)

pub ruleset zero_steps = (zero_step, zero_end)
