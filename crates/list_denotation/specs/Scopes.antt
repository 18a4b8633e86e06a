-- Which bound words an expression reads.
use Rattle.std.specs.Prelude.{ℕ, Bool, true, List, nat_lt}
use Rattle.std.specs.List.{list_all}
use Rattle.list_denotation.specs.Terms.{Term, Var}
use Rattle.list_denotation.specs.Leaves.{all_leaves}

abbrev pub is_bound_leaf : ℕ → Term → Bool
is_bound_leaf n (Var k) = nat_lt k n
is_bound_leaf n _ = true

-- each bound word that the expression reads is one of the first n
abbrev pub is_bound : ℕ → Term → Bool
is_bound n = all_leaves (is_bound_leaf n)

abbrev pub all_bound : ℕ → List Term → Bool
all_bound n = list_all (is_bound n)
