-- Worked rows: a loop of three turns whose inner loop makes 0, 1 and 2.
use Rattle.std.specs.Prelude.{◌≡◌, refl, [], ◌∷◌}
use Rattle.list_denotation.specs.declared.event.Event.TheVariants as event
use Rattle.list_denotation.specs.Observation.{Done}
use Rattle.loop_ir.specs.declared.syntax.WOp.TheVariants as op
use Rattle.loop_ir.specs.Statements.{Const, Var, Bin, Less, Set, Loop, Emit, Nil, Cons, Routine}
use Rattle.loop_ir.specs.Meaning.{meaning}
use Rattle.loop_ir.specs.LoopTurns.{loop_turns}
use Rattle.loop_ir.specs.Marks.{marked}

abbrev pub triangle : Routine
triangle = record {
  params = [];
  vars = 2;
  body =
      Cons (Loop (Less (Var 0) (Const 3))
      (Cons (Set 1 (Const 0))
      (Cons (Loop (Less (Var 1) (Var 0)) (Cons (Emit (Var 1)) (Cons (Set 1 (Bin op.Add (Var 1) (Const 1))) Nil)))
      (Cons (Set 0 (Bin op.Add (Var 0) (Const 1))) Nil)))) Nil;
}

pub turns_of_triangle : loop_turns triangle [] 9 ≡ 3 ∷ 3 ∷ []
turns_of_triangle = refl

pub turns_at_four : loop_turns triangle [] 4 ≡ 3 ∷ 1 ∷ []
turns_at_four = refl

pub outer_marked : meaning (marked 0 triangle) [] 9
    ≡ record { events = event.EndRow ∷ event.EndRow ∷ event.Emit 0 ∷ event.EndRow ∷ event.Emit 0 ∷ event.Emit 1 ∷ []; standing = Done }
outer_marked = refl

pub inner_marked : meaning (marked 1 triangle) [] 9
    ≡ record { events = event.EndRow ∷ event.Emit 0 ∷ event.EndRow ∷ event.Emit 0 ∷ event.EndRow ∷ event.Emit 1 ∷ []; standing = Done }
inner_marked = refl
