-- Which expressions a division may use more than once: constants and names.
use Rattle.std.specs.Prelude.{Bool, true, false, ◌||◌, is_some}
use Rattle.list_denotation.specs.Terms.{Term, Lit, Truth, Var, Param, Len}
use Rattle.expr_constants.specs.Constants.{constant_of}

-- a number, a truth or a name
abbrev pub is_leaf : Term → Bool
is_leaf (Lit c) = true
is_leaf (Truth b) = true
is_leaf (Var k) = true
is_leaf (Param k) = true
is_leaf (Len k) = true
is_leaf _ = false

-- a constant or a name, which a division may use more than once
abbrev pub is_simple : Term → Bool
is_simple e = is_some (constant_of e) || is_leaf e
