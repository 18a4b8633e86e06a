-- Worked loop programs, and what is left of them.
use Rattle.std.specs.Prelude.{◌≡◌, refl, true, false, [], ◌∷◌}
use Rattle.list_denotation.specs.declared.input.InputKind.TheVariants.{Array}
use Rattle.loop_ir.specs.declared.syntax.Verdict.TheVariants.{Done, Trap}
use Rattle.loop_ir.specs.declared.syntax.WOp.TheVariants as op
use Rattle.loop_ir.specs.Statements.{Const, Var, Len, Bin, Less, Same, Set, Read, If, Loop, Emit, EndRow, Ret, Nil, Cons, Routine}
use Rattle.dead_code.specs.Ends.{reached}
use Rattle.dead_code.specs.Needs.{needed}
use Rattle.dead_code.specs.LiveRoutines.{live_routine}

-- The indices of an array are written. Its items are read and divided for a word that only adds up to itself: variable 3 by
-- way of 1 and 2. Variables 0 and 3 are set to 0 first.
abbrev pub indices : Routine
indices = record {
  params = Array ∷ [];
  vars = 5;
  body =
      Cons (Set 3 (Const 0))
      (Cons (Set 4 (Const 0))
      (Cons (Loop (Less (Var 4) (Len 0))
      (Cons (Read 1 0 (Var 4))
      (Cons (If (Same (Var 1) (Const 0)) (Cons (Set 2 (Const 1)) Nil) (Cons (Set 2 (Bin op.Div (Const 9) (Var 1))) Nil))
      (Cons (Emit (Var 4))
      (Cons (Set 3 (Bin op.Add (Var 3) (Var 2)))
      (Cons (Set 4 (Bin op.Add (Var 4) (Const 1))) Nil))))))
      (Cons EndRow Nil)));
}

pub indices_needed : needed 5 indices.body ≡ false ∷ false ∷ false ∷ false ∷ true ∷ []
indices_needed = refl

pub indices_live : live_routine indices ≡ record {
  params = Array ∷ [];
  vars = 1;
  body =
      Cons (Loop (Less (Var 0) (Len 0)) (Cons (Emit (Var 0)) (Cons (Set 0 (Bin op.Add (Var 0) (Const 1))) Nil)))
      (Cons EndRow Nil);
}
indices_live = refl

-- a word is needed by way of two others, and by the test of a choice that ends the run
abbrev pub chain : Routine
chain = record {
  params = [];
  vars = 4;
  body =
      Cons (Set 1 (Const 7))
      (Cons (Set 2 (Var 1))
      (Cons (Set 0 (Bin op.Mul (Var 2) (Const 2)))
      (Cons (If (Less (Var 3) (Var 0)) Nil (Cons (Ret Trap) (Cons (Emit (Var 3)) Nil)))
      (Cons (Emit (Var 0)) Nil))));
}

pub chain_live : live_routine chain ≡ record {
  params = [];
  vars = 4;
  body =
      Cons (Set 1 (Const 7))
      (Cons (Set 2 (Var 1))
      (Cons (Set 0 (Bin op.Mul (Var 2) (Const 2)))
      (Cons (If (Less (Var 3) (Var 0)) Nil (Cons (Ret Trap) Nil))
      (Cons (Emit (Var 0)) Nil))));
}
chain_live = refl

-- nothing stands behind a choice both of whose branches end the run, but where a loop stands there
pub none_behind : reached (Cons (If (Less (Var 0) (Var 1)) (Cons (Ret Done) (Cons EndRow Nil)) (Cons EndRow (Cons (Ret Trap) Nil))) (Cons (Emit (Var 2)) Nil))
    ≡ Cons (If (Less (Var 0) (Var 1)) (Cons (Ret Done) Nil) (Cons EndRow (Cons (Ret Trap) Nil))) Nil
none_behind = refl

pub loop_behind : reached (Cons (Ret Done) (Cons EndRow (Cons (Loop (Less (Var 0) (Var 1)) (Cons (Ret Done) (Cons EndRow Nil))) (Cons (Ret Done) (Cons EndRow Nil)))))
    ≡ Cons (Ret Done) (Cons EndRow (Cons (Loop (Less (Var 0) (Var 1)) (Cons (Ret Done) Nil)) (Cons (Ret Done) Nil)))
loop_behind = refl

-- A variable is set to 0 a second time only where a statement before may have set it: 0 and 2 are, 1 isn't. What is
-- set to 0 inside of a choice stays.
abbrev pub zeros : Routine
zeros = record {
  params = [];
  vars = 3;
  body =
      Cons (Set 0 (Const 0))
      (Cons (Set 0 (Const 0))
      (Cons (Set 0 (Const 5))
      (Cons (If (Less (Var 0) (Var 1)) (Cons (Set 2 (Const 1)) Nil) (Cons (Set 1 (Const 0)) Nil))
      (Cons (Set 0 (Const 0))
      (Cons (Set 2 (Const 0))
      (Cons (Emit (Bin op.Add (Var 0) (Bin op.Add (Var 1) (Var 2)))) Nil))))));
}

pub zeros_live : live_routine zeros ≡ record {
  params = [];
  vars = 3;
  body =
      Cons (Set 0 (Const 5))
      (Cons (If (Less (Var 0) (Var 1)) (Cons (Set 2 (Const 1)) Nil) (Cons (Set 1 (Const 0)) Nil))
      (Cons (Set 0 (Const 0))
      (Cons (Set 2 (Const 0))
      (Cons (Emit (Bin op.Add (Var 0) (Bin op.Add (Var 1) (Var 2)))) Nil))));
}
zeros_live = refl
