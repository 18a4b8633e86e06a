-- Fresh variables differ from one another, from those of the words bound before, and from the
-- temporaries.
use Rattle.std.proofs.Common.{◌≡◌, ℕ, zero, suc, ◌+◌, ◌<◌, ◌≤◌, inl, inr, false, List, [], ◌∷◌, ◌++◌, arith, eqb}
use Rattle.std.specs.Prelude.{All, Contains}
use Rattle.std.specs.List.{IsDistinct, AllByRecursion, range_with_len}
use Rattle.std.proofs.lemmas.Bool.Decides.{eqb_tells}
use Rattle.std.proofs.lemmas.List.Elements.{All-append, All-contains, All-from_recursion, recursion_from_All}
use Rattle.state_alloc.specs.Layouts.{IsTemporary}
use Rattle.state_alloc.proofs.Places.{all_variables}

-- a smaller number is another
smaller_differs : (a b : ℕ) → a < b → eqb a b ≡ false
smaller_differs a b h = elim (eqb_tells a b) [ inl same ↦ absurd (omega (arith, same.1)) | inr other ↦ other.0 ]

fresh_are_distinct : (first width : ℕ) → IsDistinct eqb (range_with_len first width)
unfolding IsDistinct
fresh_are_distinct first zero = tt
fresh_are_distinct first (suc width) = (
  recursion_from_All _ _ (all_variables (λ v. eqb first v ≡ false) (first + 1) width (λ v low high. smaller_differs first v (omega arith))),
  fresh_are_distinct (first + 1) width,
)

-- where the first of all variables lies below `first`, it differs from the fresh ones
first_differs : (x first width : ℕ) (xs : List ℕ) → x < first → AllByRecursion (λ y. eqb x y ≡ false) xs → AllByRecursion (λ y. eqb x y ≡ false) (xs ++ range_with_len first width)
first_differs x first width xs below others =
    recursion_from_All _ _ (All-append (λ y. eqb x y ≡ false) xs (range_with_len first width) (All-from_recursion _ _ others)
    (all_variables (λ y. eqb x y ≡ false) first width (λ v low high. smaller_differs x v (omega arith))))

distinct_with_fresh : (rows : List ℕ) (first width : ℕ) → IsDistinct eqb rows → AllByRecursion (λ v. v < first) rows → IsDistinct eqb (rows ++ range_with_len first width)
unfolding IsDistinct
distinct_with_fresh [] first width distinct below = fresh_are_distinct first width
distinct_with_fresh (x ∷ xs) first width distinct below =
    (first_differs x first width xs below.0 distinct.0, distinct_with_fresh xs first width distinct.1 below.1)

pub stays_distinct : (rows : List ℕ) (first width : ℕ) → IsDistinct eqb rows → All (λ v. v < first) rows → IsDistinct eqb (rows ++ range_with_len first width)
stays_distinct rows first width distinct below = distinct_with_fresh rows first width distinct (recursion_from_All _ _ below)

pub no_temporary : (first_temp temps first width : ℕ) → first_temp + temps ≤ first → All (λ v. ¬ IsTemporary first_temp temps v) (range_with_len first width)
no_temporary first_temp temps first width h =
    all_variables (λ v. ¬ IsTemporary first_temp temps v) first width (λ v low high temporary. omega (arith, temporary.1))

-- what holds of the variables of all words holds of those of chosen ones
pub chosen_all : (P : ℕ → Type 0) (rows chosen : List ℕ) → All (Contains rows) chosen → All P rows → All P chosen
chosen_all P rows chosen among all k d within = All-contains P rows _ all (among k d within)
