-- A table by computation: over the ends of the words, the statements of each form of expression leave its value in the
-- target, or return 1 where it has none.
use Rattle.std.specs.Prelude.{◌≡◌, refl, ℕ, ◌+◌, ◌-◌, ◌^◌, ◌==◌, List, [], ◌∷◌, Bool, true, false, ◌&&◌, slice_index}
use Rattle.list_denotation.specs.declared.expr.BinOp.{BinOp}
use Rattle.list_denotation.specs.declared.expr.BinOp.TheVariants.{Add, Sub, Mul, Div, Rem, Eq, Ne, Lt, Le, Gt, Ge}
use Rattle.list_denotation.specs.Terms.{Term, Lit, Truth, Var, Neg, Not, Bin, And, Or, If}
use Rattle.list_denotation.specs.Values.{Got, Is, Fails, Trap, value}
use Rattle.list_denotation.specs.Observation.{Failed}
use Rattle.loop_ir.specs.Meaning.{Outcome, Runs, Over, run}
use Rattle.expr_lower.specs.Lowering.{lowered_term, lowered_into}

-- the least words, -1, 0, 1 and the greatest
abbrev ends : List ℕ
ends = 2 ^ 63 ∷ (2 ^ 63 + 1) ∷ (2 ^ 64 - 1) ∷ 0 ∷ 1 ∷ (2 ^ 63 - 1) ∷ []

abbrev x : Term
x = Var 0

abbrev y : Term
y = Var 1

abbrev operators : List BinOp
operators = Add ∷ Sub ∷ Mul ∷ Div ∷ Rem ∷ Eq ∷ Ne ∷ Lt ∷ Le ∷ Gt ∷ Ge ∷ []

-- an operator over two words, over word and constant, and over operands that need statements of their own
abbrev of_operators : List BinOp → List Term
of_operators [] = []
of_operators (o ∷ os) =
    Bin o x y
    ∷ Bin o x (Lit 7)
    ∷ Bin o x (Neg (Lit 7))
    ∷ Bin o (Lit 7) y
    ∷ Bin o (Neg (Lit 7)) y
    ∷ Bin o x (Lit 0)
    ∷ Bin o (Bin Add x (Lit 1)) (Bin Sub y (Lit 1))
    ∷ Bin o (Bin Div x (Lit 3)) (Bin Rem y (Lit 5))
    ∷ Bin o (Bin Lt x y) (Bin Div (Lit 9) y)
    ∷ of_operators os

abbrev of_choices : List Term
of_choices =
    Neg x
    ∷ Neg (Bin Div x y)
    ∷ Not (Bin Lt x y)
    ∷ Not (Bin Eq (Bin Rem x y) (Lit 0))
    ∷ And (Bin Lt x y) (Bin Lt y (Lit 1))
    ∷ And (Not (Bin Eq y (Lit 0))) (Bin Gt (Bin Div x y) (Lit 0))
    ∷ And (Bin Gt (Bin Div x y) (Lit 0)) (Truth true)
    ∷ Or (Bin Lt x y) (Bin Lt y (Lit 1))
    ∷ Or (Bin Eq y (Lit 0)) (Bin Gt (Bin Div x y) (Lit 0))
    ∷ Or x (Bin Rem x y)
    ∷ Bin Eq (Bin Rem x (Lit 4)) (Lit 0)
    ∷ Bin Ne (Bin Rem x (Neg (Lit 6))) (Lit 0)
    ∷ Bin Eq (Bin Rem x (Lit (2 ^ 63))) (Lit 0)
    ∷ Bin Eq (Lit 0) (Bin Rem (Bin Sub x y) (Lit 3))
    ∷ Bin Ne (Bin Rem (Bin Div x (Lit 3)) (Neg (Lit 8))) (Lit 0)
    ∷ And (Bin Lt (Lit 3) (Lit 5)) (Bin Le x (Neg (Lit 1)))
    ∷ If (Not (Truth false)) (Bin Ge x (Lit 0)) (Bin Div x y)
    ∷ If (Bin Eq y (Lit 0)) (Lit 0) (Bin Div x y)
    ∷ If (Bin Gt (Bin Div x (Lit 2)) y) (Bin Mul x y) (If (Bin Lt x y) (Neg x) y)
    ∷ []

-- the same value in variable 3, or no value on both sides
abbrev is_same : Got ℕ → Outcome → Bool
is_same (Is v) (Runs events env left) = slice_index env 3 == v
is_same (Fails Trap) (Over events (Failed Trap)) = true
is_same _ _ = false

-- x stands in variable 1 and y in variable 2, the target is variable 3, and the temporaries are those behind it
abbrev agrees : Term → ℕ → ℕ → Bool
agrees e a b =
    is_same (value e (a ∷ b ∷ []) []) (run [] (lowered_into (1 ∷ 2 ∷ []) e 3 4) (0 ∷ a ∷ b ∷ 5 ∷ 5 ∷ 5 ∷ []) 0)

abbrev for_right : Term → ℕ → List ℕ → Bool
for_right e a [] = true
for_right e a (b ∷ bs) = agrees e a b && for_right e a bs

abbrev for_left : Term → List ℕ → Bool
for_left e [] = true
for_left e (a ∷ rest) = for_right e a ends && for_left e rest

abbrev all_agree : List Term → Bool
all_agree [] = true
all_agree (e ∷ es) = for_left e ends && all_agree es

operators_agree : all_agree (of_operators operators) ≡ true
unfolding lowered_term
operators_agree = refl

choices_agree : all_agree of_choices ≡ true
unfolding lowered_term
choices_agree = refl
