-- Copies of lists that a loop goes through.
use Rattle.std.proofs.Common.{◌≡◌, ◌<◌, ◌≤◌, ◌+◌, ℕ, List, [], ◌∷◌, ◌++◌, length, drop, take, map, get_or, ap, sym, ◌∙◌}
use Rattle.std.proofs.lemmas.List.{map-append, drop_all, drop_more, take_more}

module _ {X A : Type 0} (f : X → A) (xs : List X) where
  -- what is left at a place begins with the copy of the item there
  pub left_at : (i : ℕ) (x : X) → i < length xs → x ≡ get_or xs i x → map f (drop i xs) ≡ f x ∷ map f (drop (i + 1) xs)
  left_at i x h e = ap (map f) (drop_more xs i x h) ∙ ap (λ y. f y ∷ map f (drop (i + 1) xs)) (sym e)

  -- and what was passed behind it ends with that copy
  pub passed_at : (i : ℕ) (x : X) → i < length xs → x ≡ get_or xs i x → map f (take (i + 1) xs) ≡ map f (take i xs) ++ f x ∷ []
  passed_at i x h e = rw (take_more xs i x h, ← e) (map-append f (take i xs) (x ∷ []))

  -- nothing is left at the end
  pub none_left : (i : ℕ) → length xs ≤ i → map f (drop i xs) ≡ []
  none_left i h = ap (map f) (drop_all i xs h)
