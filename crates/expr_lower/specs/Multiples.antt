-- Comparisons of a remainder with 0, which need no sign: `x % c == 0` and `x % c != 0` for a constant c other than 0.
use Rattle.std.specs.Prelude.{ℕ, zero, suc, Bool, true, false, ◌&&◌, if◌then◌else◌, Option, Some, None}
use Rattle.list_denotation.specs.declared.expr.BinOp.{BinOp}
use Rattle.list_denotation.specs.declared.expr.BinOp.TheVariants.{Rem}
use Rattle.list_denotation.specs.Terms.{Term, Bin}
use Rattle.expr_constants.specs.Constants.{constant_of}
use Rattle.expr_phrases.specs.Results.{is_equality}

abbrev pub is_remainder : BinOp → Bool
is_remainder Rem = true
is_remainder _ = false

abbrev pub is_zero_constant : Option ℕ → Bool
is_zero_constant (Some zero) = true
is_zero_constant (Some (suc c)) = false
is_zero_constant None = false

abbrev pub nonzero_constant : Option ℕ → Option ℕ
nonzero_constant (Some zero) = None
nonzero_constant (Some (suc c)) = Some (suc c)
nonzero_constant None = None

-- the divisor of a remainder, where it is a constant other than 0
abbrev pub divisor_of : Term → Option ℕ
divisor_of (Bin o x y) = if is_remainder o then nonzero_constant (constant_of y) else None
divisor_of _ = None

-- its dividend. The last case stands for what is no remainder
abbrev pub dividend_of : Term → Term
dividend_of (Bin o x y) = x
dividend_of e = e

-- the constant c where a is `x % c`, and o compares it with b, which is 0
abbrev pub multiple_divisor : BinOp → Term → Term → Option ℕ
multiple_divisor o a b = if is_equality o && is_zero_constant (constant_of b) then divisor_of a else None
