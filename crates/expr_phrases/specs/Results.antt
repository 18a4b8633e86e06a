-- What the phrases come to.
use Rattle.std.specs.Prelude.{◌≡◌, ℕ, Bool, true, false, not, ◌==◌, List, [], Option, Some, None, slice_set}
use Rattle.strm_num.specs.Words.{IsWord, quotient_of, remainder_of, is_less}
use Rattle.list_denotation.specs.declared.expr.BinOp.{BinOp}
use Rattle.list_denotation.specs.declared.expr.BinOp.TheVariants.{Eq, Ne, Lt, Le, Gt, Ge}
use Rattle.list_denotation.specs.declared.input.Input.{Input}
use Rattle.list_denotation.specs.Values.{Got, Is}
use Rattle.loop_ir.specs.Statements.{Operand, Block}
use Rattle.loop_ir.specs.Meaning.{Runs, on_value, operand_value, run}
use Rattle.expr_phrases.specs.Phrases.{Division, Quotient, Remainder}

-- whether the comparison of the signed values holds. The last case stands for the operators that compare nothing
abbrev pub comparison_truth : BinOp → ℕ → ℕ → Bool
comparison_truth Eq x y = x == y
comparison_truth Ne x y = not (x == y)
comparison_truth Lt x y = is_less x y
comparison_truth Le x y = not (is_less y x)
comparison_truth Gt x y = is_less y x
comparison_truth Ge x y = not (is_less x y)
comparison_truth _ x y = x == y

-- whether the operator compares for equality alone
abbrev pub is_equality : BinOp → Bool
is_equality Eq = true
is_equality Ne = true
is_equality _ = false

-- the quotient or the remainder of the signed values. It is asked for only where the divisor isn't 0
abbrev pub result_of : Division → ℕ → ℕ → ℕ
result_of Quotient x y = quotient_of x y
result_of Remainder x y = remainder_of x y

-- the number is this constant, where there is one
abbrev pub IsKnown : Option ℕ → ℕ → Type 0
IsKnown None x = Unit {0}
IsKnown (Some c) x = c ≡ x

module _ (inputs : List Input) where
  -- an operand of a division has the value x: w has it, and it is the constant that the operand is known to be
  pub record HasValue (constant : Option ℕ) (w : Operand) (x : ℕ) (env : List ℕ) : Type 0 where
    pub word : IsWord x
    pub known : IsKnown constant x
    pub is : operand_value inputs w env ≡ Is x

  -- the statements do what an assignment of this value to v does, whatever the number of turns: they put it into v and
  -- change nothing else, or the run is over with the fault where there is none
  abbrev pub Assigns : Block → ℕ → Got ℕ → List ℕ → Type 0
  Assigns block v g env = (left : ℕ) → run inputs block env left ≡ on_value g (λ x. Runs [] (slice_set env v x) left)
