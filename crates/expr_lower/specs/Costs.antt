-- Which expressions are one word of the C text, and how many temporaries the others take.
use Rattle.std.specs.Prelude.{ℕ, ◌+◌, max, Bool, true, false, ◌&&◌, ◌||◌, if◌then◌else◌, Option, is_some}
use Rattle.list_denotation.specs.declared.expr.BinOp.{BinOp}
use Rattle.list_denotation.specs.declared.expr.BinOp.TheVariants.{Add, Sub, Mul}
use Rattle.list_denotation.specs.Terms.{Term, Lit, Truth, Var, Param, Len, Neg, Not, Bin, And, Or, If}
use Rattle.list_denotation.specs.Typing.{is_division}
use Rattle.list_denotation.specs.Values.{choice}
use Rattle.expr_constants.specs.Constants.{by_constant, constant_of}
use Rattle.expr_constants.specs.Simple.{is_leaf, is_simple}
use Rattle.expr_lower.specs.Multiples.{multiple_divisor}

-- sums and products are words of the C text, where their parts are
abbrev pub is_arithmetic : BinOp → Bool
is_arithmetic Add = true
is_arithmetic Sub = true
is_arithmetic Mul = true
is_arithmetic _ = false

-- of a condition that is constant, what the chosen part says, and else no
abbrev pub chosen_plain : Option ℕ → Bool → Bool → Bool
chosen_plain c a b = by_constant c (λ x. choice x b a) false

-- a word of the C text by its parts
abbrev pub has_plain_parts : Term → Bool
has_plain_parts (Neg a) = is_some (constant_of a) || has_plain_parts a
has_plain_parts (Bin o a b) =
    is_arithmetic o && ((is_some (constant_of a) || has_plain_parts a) && (is_some (constant_of b) || has_plain_parts b))
has_plain_parts (If c a b) =
    chosen_plain (constant_of c) (is_some (constant_of a) || has_plain_parts a) (is_some (constant_of b) || has_plain_parts b)
has_plain_parts e = is_leaf e

-- a word of the C text as it is: a constant, or a word by its parts
abbrev pub is_plain : Term → Bool
is_plain e = is_some (constant_of e) || has_plain_parts e

-- whether a right operand stands in the text as it is
abbrev pub is_direct : BinOp → Term → Bool
is_direct o b = if is_division o then is_simple b else is_plain b

-- ---- the temporaries that the statements use: one for each right operand that is kept, at most one for each level of
-- depth. A constant needs none, and a part that a constant rules out isn't counted

abbrev pub unless_constant : Option ℕ → ℕ → ℕ
unless_constant k n = by_constant k (λ c. 0) n

abbrev pub connected_temps : Option ℕ → ℕ → ℕ → ℕ
connected_temps first m n = by_constant first (λ c. n) (max m n)

abbrev pub chosen_temps : Option ℕ → ℕ → ℕ → ℕ → ℕ
chosen_temps condition l m n = by_constant condition (λ x. choice x n m) (max l (max m n))

-- those of a dividend, where a remainder is compared with 0
abbrev pub binary_temps : Option ℕ → Option ℕ → ℕ → ℕ → ℕ → ℕ
binary_temps left right m n rest = by_constant left (λ c. m) (by_constant right (λ c. n) rest)

abbrev mutual
  pub parts_temps : Term → ℕ
  parts_temps (Lit c) = 0
  parts_temps (Truth b) = 0
  parts_temps (Var k) = 0
  parts_temps (Param k) = 0
  parts_temps (Len k) = 0
  parts_temps (Neg a) = unless_constant (constant_of a) (parts_temps a)
  parts_temps (Not a) = unless_constant (constant_of a) (parts_temps a)
  parts_temps (Bin o a b) =
      binary_temps (multiple_divisor o a b) (multiple_divisor o b a) (dividend_temps a) (dividend_temps b)
      (max (unless_constant (constant_of a) (parts_temps a)) (if is_direct o b then 0 else unless_constant (constant_of b) (parts_temps b) + 1))
  parts_temps (And a b) =
      connected_temps (constant_of a) (unless_constant (constant_of a) (parts_temps a)) (unless_constant (constant_of b) (parts_temps b))
  parts_temps (Or a b) =
      connected_temps (constant_of a) (unless_constant (constant_of a) (parts_temps a)) (unless_constant (constant_of b) (parts_temps b))
  parts_temps (If c a b) =
      chosen_temps (constant_of c) (unless_constant (constant_of c) (parts_temps c))
      (unless_constant (constant_of a) (parts_temps a)) (unless_constant (constant_of b) (parts_temps b))

  pub dividend_temps : Term → ℕ
  dividend_temps (Bin o x y) = unless_constant (constant_of x) (parts_temps x)
  dividend_temps _ = 0

abbrev pub temps_of : Term → ℕ
temps_of e = unless_constant (constant_of e) (parts_temps e)

-- those of an operation: the right operand has one of its own where it is kept
abbrev pub operation_temps : BinOp → Term → Term → ℕ
operation_temps o a b = max (temps_of a) (if is_direct o b then 0 else temps_of b + 1)
