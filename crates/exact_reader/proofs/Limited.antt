-- Numbers that are limited, or are not: what holds of all texts and of those within the depths is shown at once.
use Rattle.std.proofs.Common.{ℕ, ◌≤◌, ◌+◌, max, arith}

pub data Limits : Type 0 where
  Free Within : Limits

abbrev pub AtMost : Limits → ℕ → ℕ → Type 0
AtMost Free n d = Unit {0}
AtMost Within n d = d ≤ n

pub at_most_less : (l : Limits) (n a b : ℕ) → a ≤ b → AtMost l n b → AtMost l n a
at_most_less Free n a b le h = tt
at_most_less Within n a b le h = omega arith

pub at_most_max : (l : Limits) (n a b : ℕ) → AtMost l n a → AtMost l n b → AtMost l n (max a b)
at_most_max Free n a b h k = tt
at_most_max Within n a b h k = omega arith

pub at_most_left : (l : Limits) (n a b : ℕ) → AtMost l n (max a b) → AtMost l n a
at_most_left Free n a b h = tt
at_most_left Within n a b h = omega arith

pub at_most_right : (l : Limits) (n a b : ℕ) → AtMost l n (max a b) → AtMost l n b
at_most_right Free n a b h = tt
at_most_right Within n a b h = omega arith

pub at_most_small : (l : Limits) (n d : ℕ) → d ≤ n → AtMost l n d
at_most_small Free n d le = tt
at_most_small Within n d le = le

-- the same of two nestings beneath a number of streams
pub nested_max : (l : Limits) (n d a b : ℕ) → AtMost l n (d + a) → AtMost l n (d + b) → AtMost l n (d + max a b)
nested_max Free n d a b h k = tt
nested_max Within n d a b h k = omega arith

pub nested_left : (l : Limits) (n d a b : ℕ) → AtMost l n (d + max a b) → AtMost l n (d + a)
nested_left Free n d a b h = tt
nested_left Within n d a b h = omega arith

pub nested_right : (l : Limits) (n d a b : ℕ) → AtMost l n (d + max a b) → AtMost l n (d + b)
nested_right Free n d a b h = tt
nested_right Within n d a b h = omega arith

-- one stream further in
pub nested_in : (l : Limits) (n d a : ℕ) → AtMost l n (d + (a + 1)) → AtMost l n (d + 1 + a)
nested_in Free n d a h = tt
nested_in Within n d a h = omega arith

pub nested_out : (l : Limits) (n d a : ℕ) → AtMost l n (d + 1 + a) → AtMost l n (d + (a + 1))
nested_out Free n d a h = tt
nested_out Within n d a h = omega arith
