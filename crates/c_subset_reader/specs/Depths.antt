-- How many brackets are open behind tokens.
use Rattle.std.specs.Prelude.{◌≡◌, ℕ, List, true}
use Rattle.c_faults.specs.Brackets.{depth_behind, is_within}
use Rattle.c_grammar.specs.Reading.{whats}
use Rattle.c_tokens.specs.Cutting.{Token}

-- so many are open, and never more than may be
pub record IsDepthOf (depth : ℕ) (before : List Token) : Type 0 where
  pub depth_is : depth ≡ depth_behind 0 (whats before)
  pub within : is_within 0 (whats before) ≡ true
