-- Rows of variables, and the words that they have.
use Rattle.std.proofs.Common.{◌≡◌, ℕ, zero, suc, List, [], ◌∷◌, ◌++◌, length, refl, sym, ap, ◌∙◌, arith, length-append, append_assoc}
use Rattle.std.proofs.lemmas.List.{get_or_at}
use Rattle.std.specs.Prelude.{slice_index}
use Rattle.list_denotation.specs.declared.input.Input.{Input}
use Rattle.list_denotation.specs.TermRows.{variables}
use Rattle.list_denotation.specs.Terms.{Term}
use Rattle.stateful_core.specs.WordValues.{word_values}

-- the word right behind others
pub word_behind : (env s : List ℕ) (x k : ℕ) → length env ≡ k → slice_index (env ++ (x ∷ s)) k ≡ x
word_behind env s x k h = get_or_at env x s 0 k h

pub length_variables : (k n : ℕ) → length (variables k n) ≡ n
length_variables k zero = refl
length_variables k (suc n) = ap suc (length_variables (suc k) n)

module _ (inputs : List Input) where
  pub length_word_values : (es : List Term) (a : List ℕ) → length (word_values es a inputs) ≡ length es
  length_word_values [] a = refl
  length_word_values (e ∷ es) a = ap suc (length_word_values es a)

  pub variables_value : (a r b : List ℕ) (k : ℕ) → length a ≡ k → word_values (variables k (length r)) (a ++ (r ++ b)) inputs ≡ r
  variables_value a [] b k h = refl
  variables_value a (x ∷ r) b k h =
      ap (λ z. z ∷ word_values (variables (suc k) (length r)) (a ++ (x ∷ (r ++ b))) inputs) (word_behind a (r ++ b) x k h)
      ∙ ap (λ z. x ∷ word_values (variables (suc k) (length r)) z inputs) (sym (append_assoc a (x ∷ []) (r ++ b)))
      ∙ ap (λ z. x ∷ z) (variables_value (a ++ x ∷ []) r b (suc k) (omega (arith, length-append a (x ∷ []))))

  -- the same, where the row's length and the whole list are given otherwise
  pub variables_at : (a r b whole : List ℕ) (k n : ℕ) → length a ≡ k → length r ≡ n → whole ≡ a ++ (r ++ b) → word_values (variables k n) whole inputs ≡ r
  variables_at a r b whole k n h e q =
      ap (λ m. word_values (variables k m) whole inputs) (sym e) ∙ ap (λ z. word_values (variables k (length r)) z inputs) q ∙ variables_value a r b k h
