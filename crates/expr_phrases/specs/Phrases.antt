-- The phrases of the C text: of signed arithmetic, and of `&&` and `||`.
use Rattle.std.specs.Prelude.{ℕ, zero, suc, ◌%◌, ◌^◌, Bool, true, false, if◌then◌else◌, ◌==◌, Option, Some, None}
use Rattle.strm_num.specs.Words.{sum_of, negation_of}
use Rattle.strm_num.specs.Magnitudes.{is_negative, magnitude_of, xor}
use Rattle.list_denotation.specs.declared.expr.BinOp.{BinOp}
use Rattle.list_denotation.specs.declared.expr.BinOp.TheVariants as sign
use Rattle.loop_ir.specs.declared.syntax.WOp.{WOp}
use Rattle.loop_ir.specs.declared.syntax.WOp.TheVariants as op
use Rattle.loop_ir.specs.declared.syntax.Verdict.TheVariants as verdict
use Rattle.loop_ir.specs.Statements.{Operand, Const, Var, Bin, Test, Less, Same, Both, Either, Not, Set, If, Ret, Block, Nil, Cons}

-- one assignment
abbrev pub set : ℕ → Operand → Block
set v w = Cons (Set v w) Nil

abbrev pub minus : Operand → Operand
minus w = Bin op.Sub (Const 0) w

-- the truth of a test as a word in a variable
abbrev pub set_truth : ℕ → Test → Block
set_truth v t = Cons (If t (set v (Const 1)) (set v (Const 0))) Nil

abbrev pub opposite : Test → Test
opposite (Less a b) = Not (Less a b)
opposite (Same a b) = Not (Same a b)
opposite (Both s t) = Not (Both s t)
opposite (Either s t) = Not (Either s t)
opposite (Not t) = t

-- ---- comparisons

abbrev pub is_zero : Operand → Bool
is_zero (Const n) = n == 0
is_zero _ = false

-- whether the signed value isn't below 0: the top bit alone tells
abbrev pub is_natural : Operand → Test
is_natural w = Less w (Const (2 ^ 63))

-- the word with its top bit turned round, as adding the bit modulo 2 ^ 64 does. That of a constant is a constant
abbrev pub flipped_sign : Operand → Operand
flipped_sign (Const c) = Const (sum_of c (2 ^ 63))
flipped_sign w = Bin op.Xor w (Const (2 ^ 63))

-- signed order is unsigned order once the top bits are turned round
abbrev pub signed_less : Operand → Operand → Test
signed_less a b = if is_zero b then Not (is_natural a) else Less (flipped_sign a) (flipped_sign b)

-- the test of a comparison. The last case stands for the operators that compare nothing
abbrev pub comparison_test : BinOp → Operand → Operand → Test
comparison_test sign.Eq a b = Same a b
comparison_test sign.Ne a b = Not (Same a b)
comparison_test sign.Lt a b = signed_less a b
comparison_test sign.Le a b = opposite (signed_less b a)
comparison_test sign.Gt a b = signed_less b a
comparison_test sign.Ge a b = opposite (signed_less a b)
comparison_test _ a b = Same a b

-- ---- division, on magnitudes, with the sign set afterwards

pub data Division : Type 0 where
  Quotient Remainder : Division

abbrev pub division_operator : Division → WOp
division_operator Quotient = op.Div
division_operator Remainder = op.Rem

-- whether the result is negative, where the dividend and the divisor are so
abbrev pub result_negative : Division → Bool → Bool → Bool
result_negative Quotient dividend divisor = xor dividend divisor
result_negative Remainder dividend divisor = dividend

abbrev pub with_minus : Bool → Operand → Operand
with_minus true w = minus w
with_minus false w = w

-- the division of two magnitudes, with the sign that these signs give it
abbrev pub divided_magnitudes : Division → Operand → Operand → Bool → Bool → Operand
divided_magnitudes d x y dividend divisor =
    with_minus (result_negative d dividend divisor) (Bin (division_operator d) x y)

-- the statements where the magnitude and the sign of the divisor are known: the dividend's sign is looked at,
-- unless the dividend is a constant
abbrev pub by_dividend : Division → Option ℕ → Operand → Operand → Bool → ℕ → Block
by_dividend d (Some c) x y divisor v = set v (divided_magnitudes d (Const (magnitude_of c)) y (is_negative c) divisor)
by_dividend d None x y divisor v =
    Cons (If (is_natural x)
    (set v (divided_magnitudes d x y false divisor))
    (set v (divided_magnitudes d (minus x) y true divisor)))
    Nil

-- a zero divisor returns 1
abbrev pub zero_test : Operand → Block → Block
zero_test y rest = Cons (If (Same y (Const 0)) (Cons (Ret verdict.Trap) Nil) Nil) rest

-- the statements that divide: the divisor is tested and its sign is looked at, unless it is a constant
abbrev pub by_divisor : Division → Option ℕ → Option ℕ → Operand → Operand → ℕ → Block
by_divisor d dividend (Some zero) x y v = Cons (Ret verdict.Trap) Nil
by_divisor d dividend (Some (suc c)) x y v =
    by_dividend d dividend x (Const (magnitude_of (suc c))) (is_negative (suc c)) v
by_divisor d dividend None x y v =
    zero_test y
    (Cons (If (is_natural y)
    (by_dividend d dividend x y false v)
    (by_dividend d dividend x (minus y) true v))
    Nil)

-- ---- whether a signed remainder is 0, which needs no sign: it is where that of the magnitudes is

-- whether m divides 2 ^ 64, as the powers of two do: then it divides a word and its negation together
abbrev pub divides_modulus : ℕ → Bool
divides_modulus m = negation_of m % m == 0

abbrev pub is_variable : ℕ → Operand → Bool
is_variable v (Var u) = u == v
is_variable v _ = false

-- the magnitude of the signed value of w in the variable v, in which w may stand itself
abbrev pub magnitude_block : Operand → ℕ → Block
magnitude_block w v = Cons (If (is_natural w) (if is_variable v w then Nil else set v w) (set v (minus w))) Nil

-- whether the word is a multiple of m, or isn't one
abbrev pub multiple_test : BinOp → Operand → ℕ → Test
multiple_test o w m = comparison_test o (Bin op.Rem w (Const m)) (Const 0)

-- ---- `&&` and `||`, which look at their second part only where the first one doesn't decide

pub data Connective : Type 0 where
  Conjunction Disjunction : Connective

-- where the second part needs no statements
abbrev pub connected_test : Connective → Test → Test → Test
connected_test Conjunction s t = Both s t
connected_test Disjunction s t = Either s t

-- where it does: they put its truth into v
abbrev pub connected_block : Connective → Test → Block → ℕ → Block
connected_block Conjunction t second v = Cons (If t second (set v (Const 0))) Nil
connected_block Disjunction t second v = Cons (If t (set v (Const 1)) second) Nil
