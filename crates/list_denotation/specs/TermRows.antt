-- Rows of expressions.
use Rattle.std.specs.Prelude.{ℕ, zero, suc, List, [], ◌∷◌}
use Rattle.list_denotation.specs.Terms.{Term, Var}

-- so many bound words from one on
abbrev pub variables : ℕ → ℕ → List Term
variables k zero = []
variables k (suc n) = Var k ∷ variables (suc k) n
