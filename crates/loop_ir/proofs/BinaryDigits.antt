-- A worked loop program with choices and returns: what it means, and its text. It writes the binary digits of its
-- parameter, lowest first, but stops with a trap where 5 or 6 is left.
use Rattle.std.specs.Prelude.{◌≡◌, refl, [], ◌∷◌, ◌++◌, codes}
use Rattle.std.specs.Fmt.{digits}
use Rattle.list_denotation.specs.declared.event.Event.TheVariants as event
use Rattle.list_denotation.specs.declared.input.Input.TheVariants as input
use Rattle.list_denotation.specs.declared.input.InputKind.TheVariants as kind
use Rattle.list_denotation.specs.Observation.{Done, Going, Failed}
use Rattle.list_denotation.specs.Values.{Trap, Stuck}
use Rattle.loop_ir.specs.declared.syntax.Verdict.TheVariants as verdict
use Rattle.loop_ir.specs.declared.syntax.WOp.TheVariants as op
use Rattle.loop_ir.specs.Statements.{Const, Var, Int, Bin, Less, Same, Both, Either, Not, Set, If, Loop, Emit, Ret, Nil, Cons, Routine}
use Rattle.loop_ir.specs.Counts.{block_count, block_loops, block_nest}
use Rattle.loop_ir.specs.Meaning.{meaning}
use Rattle.loop_ir.specs.Layout.{layout}

abbrev pub binary_digits : Routine
binary_digits = record {
  params = kind.Int ∷ [];
  vars = 1;
  body =
      Cons (Set 0 (Int 0))
      (Cons (Loop (Both (Not (Same (Var 0) (Const 0))) (Less (Const 0) (Var 0)))
      (Cons (If (Either (Same (Var 0) (Const 5)) (Same (Var 0) (Const 6))) (Cons (Ret verdict.Trap) Nil) (Cons (Emit (Bin op.Rem (Var 0) (Const 2))) Nil))
      (Cons (Set 0 (Bin op.Div (Var 0) (Const 2))) Nil)))
      (Cons (Ret verdict.Done) Nil));
}

-- 4 is 100 in binary digits
pub meaning_of_four : meaning binary_digits (input.Int 4 ∷ []) 3
    ≡ record { events = event.Emit 0 ∷ event.Emit 0 ∷ event.Emit 1 ∷ []; standing = Done }
meaning_of_four = refl

-- with two turns two digits are written, and it is still going
pub meaning_of_four_at_two : meaning binary_digits (input.Int 4 ∷ []) 2
    ≡ record { events = event.Emit 0 ∷ event.Emit 0 ∷ []; standing = Going }
meaning_of_four_at_two = refl

-- half of 13 is 6
pub meaning_of_thirteen : meaning binary_digits (input.Int 13 ∷ []) 9
    ≡ record { events = event.Emit 1 ∷ []; standing = Failed Trap }
meaning_of_thirteen = refl

-- a quotient by 0 is undefined
pub meaning_of_no_quotient : meaning (record { params = []; vars = 1; body = Cons (Emit (Bin op.Div (Const 1) (Var 0))) Nil }) [] 1
    ≡ record { events = []; standing = Failed Stuck }
meaning_of_no_quotient = refl

pub counts_of_binary_digits : (block_count binary_digits.body ≡ 7) × (block_loops binary_digits.body ≡ 1) × (block_nest binary_digits.body ≡ 1)
counts_of_binary_digits = (refl, refl, refl)

-- its text
pub layout_binary_digits : layout binary_digits
    ≡ codes "#include \"pipeline.h\"\nint pipeline(uint64_t i0) {\n  uint64_t v0 = 0ULL;\n"
    ++ codes "  v0 = i0;\n  while (1) {\n    if ((!(v0 == 0ULL)) && (0ULL < v0)) { } else { break; }\n"
    ++ codes "    if ((v0 == 5ULL) || (v0 == 6ULL)) {\n      return 1;\n    } else {\n      EMIT((v0 % 2ULL));\n    }\n"
    ++ codes "    v0 = (v0 / 2ULL);\n  }\n  return 0;\n  return 0;\n}\n"
unfolding digits
layout_binary_digits = refl
