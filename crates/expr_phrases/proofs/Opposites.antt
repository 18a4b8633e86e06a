-- What negates a word, and what negates a test.
use Rattle.std.proofs.Common.{◌≡◌, ℕ, ◌+◌, ◌-◌, ◌%◌, ◌^◌, Bool, true, false, List, refl, ap, arith}
use Rattle.std.specs.Prelude.{not}
use Rattle.strm_num.specs.Words.{difference_of, negation_of}
use Rattle.list_denotation.specs.declared.input.Input.{Input}
use Rattle.list_denotation.specs.Values.{Got, Is, Fails, with_value}
use Rattle.loop_ir.specs.Statements.{Operand, Test, Less, Same, Both, Either, Not}
use Rattle.loop_ir.specs.Meaning.{operand_value, test_value}
use Rattle.expr_phrases.specs.Phrases.{minus, opposite}

-- what is left of 2 ^ 64 is the negation
minus_is : (x : ℕ) → difference_of 0 x ≡ negation_of x
minus_is x = let e : 0 + (2 ^ 64 - x) ≡ 2 ^ 64 - x = omega arith in ap (λ n. n % 2 ^ 64) e

pub minus_value : (inputs : List Input) (w : Operand) (x : ℕ) (env : List ℕ) → operand_value inputs w env ≡ Is x → operand_value inputs (minus w) env ≡ Is (negation_of x)
minus_value inputs w x env h = rw (h) (ap Is (minus_is x))

-- the opposite of a test
pub opposite_is : (inputs : List Input) (c : Test) (env : List ℕ) (b : Bool) → test_value inputs c env ≡ Is b → test_value inputs (opposite c) env ≡ Is (not b)
opposite_is inputs (Less x y) env b h = ap (λ g. with_value g (λ n. Is (not n))) h
opposite_is inputs (Same x y) env b h = ap (λ g. with_value g (λ n. Is (not n))) h
opposite_is inputs (Both x y) env b h = ap (λ g. with_value g (λ n. Is (not n))) h
opposite_is inputs (Either x y) env b h = ap (λ g. with_value g (λ n. Is (not n))) h
opposite_is inputs (Not c) env b h = turned_back (test_value inputs c env) b h
  where
    turned_back : (g : Got Bool) (b : Bool) → with_value g (λ n. Is (not n)) ≡ Is b → g ≡ Is (not b)
    turned_back (Is true) true h = absurd cc
    turned_back (Is true) false h = refl
    turned_back (Is false) true h = refl
    turned_back (Is false) false h = absurd cc
    turned_back (Fails f) b h = absurd cc
