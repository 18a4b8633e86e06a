-- Steps of the loop that computes a row of expressions.
use Rattle.std.proofs.Common.{◌≡◌, ℕ, ◌+◌, ◌≤◌, List, [], ◌∷◌, ◌++◌, length, drop, Some, refl, ap}
use Rattle.std.proofs.lemmas.List.{drop_all}
use Rattle.std.specs.Prelude.{slice_get}
use Rattle.strm_num.proofs.Lists.{drop_at}
use Rattle.list_denotation.specs.declared.expr.Expr.{Expr}
use Rattle.list_denotation.specs.declared.input.Input.{Input}
use Rattle.list_denotation.specs.Copies.{term_of, terms_of}
use Rattle.list_denotation.specs.Values.{Fault, Got, Is, Fails, with_value, value, row_value}

-- the row with these words before it
abbrev pub row_after : List ℕ → Got (List ℕ) → Got (List ℕ)
row_after [] rest = rest
row_after (x ∷ row) rest = with_value (row_after row rest) (λ s. Is (x ∷ s))

after_push : (row : List ℕ) (x : ℕ) (rest : Got (List ℕ)) → row_after (row ++ x ∷ []) rest ≡ row_after row (with_value rest (λ s. Is (x ∷ s)))
after_push [] x rest = refl
after_push (y ∷ row) x rest = ap (λ z. with_value z (λ s. Is (y ∷ s))) (after_push row x rest)

after_fault : (row : List ℕ) (f : Fault) → row_after row (Fails f) ≡ Fails f
after_fault [] f = refl
after_fault (y ∷ row) f = ap (λ z. with_value z (λ s. Is (y ∷ s))) (after_fault row f)

after_nil : (row : List ℕ) → row_after row (Is []) ≡ Is row
after_nil [] = refl
after_nil (y ∷ row) = ap (λ z. with_value z (λ s. Is (y ∷ s))) (after_nil row)

module _ (exprs : List Expr) (env : List ℕ) (inputs : List Input) (row : List ℕ) (i : ℕ) where
  pub row_step : (e : Expr) (x : ℕ) → slice_get exprs i ≡ Some e → value (term_of e) env inputs ≡ Is x → row_after row (row_value (terms_of (drop i exprs)) env inputs) ≡ row_after (row ++ x ∷ []) (row_value (terms_of (drop (i + 1) exprs)) env inputs)
  row_step e x h q = rw (after_push, drop_at exprs i e h, q) refl

  pub row_fault : (e : Expr) (f : Fault) → slice_get exprs i ≡ Some e → value (term_of e) env inputs ≡ Fails f → row_after row (row_value (terms_of (drop i exprs)) env inputs) ≡ Fails f
  row_fault e f h q = rw (drop_at exprs i e h, q) (after_fault row f)

  pub row_end : length exprs ≤ i → row_after row (row_value (terms_of (drop i exprs)) env inputs) ≡ Is row
  row_end h = rw (drop_all i exprs h) (after_nil row)

pub ruleset row_steps = (row_step, row_fault, row_end)
