-- The items of a seed: each is below 2 ^ 31, there are as many as are asked for, and one more is a push.
use Rattle.std.proofs.Common.{◌≡◌, ℕ, zero, suc, ◌+◌, ◌-◌, ◌^◌, ◌<◌, List, [], ◌∷◌, ◌++◌, length, refl, ap, arith, append_assoc}
use Rattle.std.specs.Prelude.{All}
use Rattle.std.proofs.lemmas.List.Elements.{All-nil, All-cons}
use Rattle.bench_pipeline.specs.Generator.{next_state, item_of, items_behind}

abbrev pub IsItem : ℕ → Type 0
IsItem w = w < 2 ^ 31

item_is_low : (x : ℕ) → IsItem (item_of (next_state x))
item_is_low x = omega arith

pub items_are_low : (x count : ℕ) → All IsItem (items_behind x count)
items_are_low x zero = All-nil IsItem
items_are_low x (suc count) =
    All-cons IsItem (item_of (next_state x)) (items_behind (next_state x) count) (item_is_low x) (items_are_low (next_state x) count)

pub items_number : (x count : ℕ) → length (items_behind x count) ≡ count
items_number x zero = refl
items_number x (suc count) = ap suc (items_number (next_state x) count)

-- the items so far and those behind their last state, before and after one more
pub one_item_more : (items : List ℕ) (x count k : ℕ) → k < count → (items ++ (item_of (next_state x) ∷ [])) ++ items_behind (next_state x) (count - (k + 1)) ≡ items ++ items_behind x (count - k)
one_item_more items x count k less =
    let e : count - k ≡ suc (count - (k + 1)) = omega arith in
    rw e (append_assoc items (item_of (next_state x) ∷ []) (items_behind (next_state x) (count - (k + 1))))
