-- Worked machines: the sum of an array, a range that is printed, and a count whose guard needs statements.
use Rattle.std.specs.Prelude.{◌≡◌, ◌-◌, ◌^◌, List, [], ◌∷◌, refl, false, true}
use Rattle.list_denotation.specs.declared.event.Event.TheVariants as event
use Rattle.list_denotation.specs.declared.expr.BinOp.TheVariants as sign
use Rattle.list_denotation.specs.declared.input.Input.{Input}
use Rattle.list_denotation.specs.declared.input.Input.TheVariants as input
use Rattle.list_denotation.specs.declared.input.InputKind.TheVariants as kind
use Rattle.list_denotation.specs.Observation.{Done, Going}
use Rattle.list_denotation.specs.Terms as term
use Rattle.list_denotation.specs.Terms.{Term, Finish, Fold, Print}
use Rattle.loop_ir.specs.declared.syntax.WOp.TheVariants as op
use Rattle.loop_ir.specs.Meaning.{meaning}
use Rattle.loop_ir.specs.Statements.{Const, Var, Len, Bin, Same, Not, Set, Read as ReadItem, Loop, Emit, EndRow, Block, Nil, Cons, Routine}
use Rattle.stateful_core.specs.CoreTerms as core
use Rattle.stateful_core.specs.CoreTerms.{Actions, Let, Read, Update}
use Rattle.stateful_core.specs.StreamCores.{one_more, one_less, set_state, range_start}
use Rattle.expr_lower.specs.Lowering.{lowered_term}
use Rattle.loop_emit.specs.Emission.{routine_for}

-- ---- the sum of an array: the index stands in v1 and the sum in v0

abbrev sum : Finish
sum = Fold (term.Lit 0 ∷ []) (term.Bin sign.Add (term.Var 0) (term.Var 1) ∷ [])

abbrev sum_routine : Routine
sum_routine =
    routine_for (term.Lit 0 ∷ []) (term.Bin sign.Ne (term.Var 0) (term.Len 0)) (core.Cons (Read 0 (term.Var 0)) (set_state (one_more 0 ∷ [])))
    (term.Var 1 ∷ []) sum (kind.Array ∷ [])

abbrev sum_turn : Block
sum_turn =
    Cons (ReadItem 2 0 (Var 1))
    (Cons (Set 0 (Bin op.Add (Var 0) (Var 2)))
    (Cons (Set 1 (Bin op.Add (Var 1) (Const 1))) Nil))

sum_text : sum_routine ≡ record {
  params = kind.Array ∷ [];
  vars = 3;
  body =
      Cons (Set 0 (Const 0))
      (Cons (Set 1 (Const 0))
      (Cons (Loop (Not (Same (Var 1) (Len 0))) sum_turn)
      (Cons (Emit (Var 0)) (Cons EndRow Nil))));
}
unfolding lowered_term
sum_text = refl

abbrev items : List Input
items = input.Array (3 ∷ (2 ^ 64 - 5) ∷ 10 ∷ []) ∷ []

-- the sum is shown at the end alone
sum_at_three : meaning sum_routine items 3 ≡ record { events = event.Emit 8 ∷ event.EndRow ∷ []; standing = Done }
unfolding lowered_term
sum_at_three = refl

sum_at_two : meaning sum_routine items 2 ≡ record { events = []; standing = Going }
unfolding lowered_term
sum_at_two = refl

-- ---- the numbers from 2 up to but without 4, printed: the number stands in v0, and needs no copy

abbrev range_routine : Routine
range_routine =
    routine_for (range_start (term.Lit 2) (term.Lit 4) ∷ []) (term.Bin sign.Ne (term.Var 0) (term.Lit 4)) (core.Cons (Let (term.Var 0)) (set_state (one_more 0 ∷ [])))
    (term.Var 1 ∷ []) Print []

range_at_two : meaning range_routine [] 2 ≡ record { events = event.Emit 2 ∷ event.EndRow ∷ event.Emit 3 ∷ event.EndRow ∷ []; standing = Done }
unfolding lowered_term
range_at_two = refl

range_at_one : meaning range_routine [] 1 ≡ record { events = event.Emit 2 ∷ event.EndRow ∷ []; standing = Going }
unfolding lowered_term
range_at_one = refl

one_variable : range_routine.vars ≡ 1
unfolding lowered_term
one_variable = refl

-- ---- the numbers from 0 on, without an end: the guard always holds

endless_text : (routine_for (term.Lit 0 ∷ []) (term.Truth true) (core.Cons (Let (term.Var 0)) (set_state (one_more 0 ∷ []))) (term.Var 1 ∷ []) Print []).body
    ≡ Cons (Set 0 (Const 0)) (Cons (Loop (Same (Const 0) (Const 0)) (Cons (Emit (Var 0)) (Cons EndRow (Cons (Set 0 (Bin op.Add (Var 0) (Const 1))) Nil)))) Nil)
unfolding lowered_term
endless_text = refl

-- ---- a count from 2 down to 1, whose guard is a choice: its value stands in v1, set before the loop and at the end of a turn

abbrev count_guard : Term
count_guard = term.If (term.Var 0) (term.Truth true) (term.Truth false)

abbrev count_routine : Routine
count_routine = routine_for (term.Lit 2 ∷ []) count_guard (core.Cons (Let (term.Var 0)) (set_state (one_less 0 ∷ []))) (term.Var 1 ∷ []) Print []

count_at_two : meaning count_routine [] 2 ≡ record { events = event.Emit 2 ∷ event.EndRow ∷ event.Emit 1 ∷ event.EndRow ∷ []; standing = Done }
unfolding lowered_term
count_at_two = refl

count_at_none : meaning count_routine [] 0 ≡ record { events = []; standing = Going }
unfolding lowered_term
count_at_none = refl

two_variables : count_routine.vars ≡ 2
unfolding lowered_term
two_variables = refl
