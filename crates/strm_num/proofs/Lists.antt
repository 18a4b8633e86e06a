-- Lists that a loop goes through.
use Rattle.std.proofs.Common.{◌≡◌, ℕ, zero, suc, ◌+◌, List, [], ◌∷◌, drop, Some, sym, ap, ◌∙◌, add-one}
use Rattle.std.specs.Prelude.{slice_get}

-- what is left at a place begins with the item there
pub drop_at : {A : Type 0} (xs : List A) (i : ℕ) (x : A) → slice_get xs i ≡ Some x → drop i xs ≡ x ∷ drop (i + 1) xs
drop_at [] i x h = absurd cc
drop_at (y ∷ xs) zero x h = let e : y ≡ x = cc in ap (λ z. z ∷ xs) e
drop_at (y ∷ xs) (suc i) x h =
    drop_at xs i x h ∙ ap (λ n. x ∷ n) (ap (λ n. drop n xs) (add-one i) ∙ sym (ap (λ n. drop n (y ∷ xs)) (add-one (suc i))))
