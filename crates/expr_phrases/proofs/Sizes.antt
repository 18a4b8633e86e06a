-- How many statements a division takes, and that none is a loop.
use Rattle.std.proofs.Common.{◌≡◌, ℕ, zero, suc, ◌≤◌, Bool, true, false, Option, Some, None, refl, arith}
use Rattle.std.specs.Prelude.{if◌then◌else◌}
use Rattle.loop_ir.specs.Counts.{block_count, block_loops}
use Rattle.loop_ir.specs.Statements.{Operand, If, Nil, Cons}
use Rattle.expr_phrases.specs.Phrases.{Division, set, minus, is_natural, by_dividend, by_divisor, is_variable, magnitude_block}

dividend_few : (d : Division) (m : Option ℕ) (x y : Operand) (divisor : Bool) (v : ℕ) → block_count (by_dividend d m x y divisor v) ≤ 3
dividend_few d (Some c) x y divisor v = omega arith
dividend_few d None x y divisor v = omega arith

pub division_few : (d : Division) (m n : Option ℕ) (x y : Operand) (v : ℕ) → block_count (by_divisor d m n x y v) ≤ 9
division_few d m (Some zero) x y v = omega arith
division_few d m (Some (suc c)) x y v = omega (arith, dividend_few)
division_few d m None x y v = omega (arith, dividend_few d m x y false v, dividend_few d m x (minus y) true v)

dividend_loops : (d : Division) (m : Option ℕ) (x y : Operand) (divisor : Bool) (v : ℕ) → block_loops (by_dividend d m x y divisor v) ≡ 0
dividend_loops d (Some c) x y divisor v = refl
dividend_loops d None x y divisor v = refl

pub division_loops : (d : Division) (m n : Option ℕ) (x y : Operand) (v : ℕ) → block_loops (by_divisor d m n x y v) ≡ 0
division_loops d m (Some zero) x y v = refl
division_loops d m (Some (suc c)) x y v = omega (arith, dividend_loops)
division_loops d m None x y v = omega (arith, dividend_loops d m x y false v, dividend_loops d m x (minus y) true v)

pub magnitude_few : (w : Operand) (v : ℕ) → block_count (magnitude_block w v) ≤ 3
magnitude_few w v = elim (is_variable v w) as (λ same. block_count (Cons (If (is_natural w) (if same then Nil else set v w) (set v (minus w))) Nil) ≤ 3) [ true ↦ omega arith | false ↦ omega arith ]

pub magnitude_loops : (w : Operand) (v : ℕ) → block_loops (magnitude_block w v) ≡ 0
magnitude_loops w v = elim (is_variable v w) as (λ same. block_loops (Cons (If (is_natural w) (if same then Nil else set v w) (set v (minus w))) Nil) ≡ 0) [ true ↦ refl | false ↦ refl ]
