-- Worked turns: their statements, against statements that were written by hand, and what some of them do. The state stands in the
-- variables from 3 on, and no expression has a temporary.
use Rattle.std.specs.Prelude.{◌≡◌, refl, ℕ, List, [], ◌∷◌, true, false, None}
use Rattle.list_denotation.specs.declared.event.Event.TheVariants as event
use Rattle.list_denotation.specs.declared.expr.BinOp.TheVariants as sign
use Rattle.list_denotation.specs.declared.input.Input.TheVariants as input
use Rattle.list_denotation.specs.Terms as term
use Rattle.list_denotation.specs.Terms.{Term}
use Rattle.loop_ir.specs.declared.syntax.WOp.TheVariants as op
use Rattle.loop_ir.specs.Statements.{Test, Const, Var, Bin, Same, Not, Set, Read, If, Emit, EndRow, Block, Nil, Cons}
use Rattle.loop_ir.specs.Meaning.{Runs, run}
use Rattle.stateful_core.specs.CoreTerms as core
use Rattle.stateful_core.specs.CoreTerms.{Actions}
use Rattle.expr_lower.specs.Lowering.{lowered_term}
use Rattle.turn_blocks.specs.Consumers.{print_tail, print_stop, fold_tail}
use Rattle.turn_blocks.specs.Pieces.{Piece}
use Rattle.turn_blocks.specs.TurnBlocks.{acts_piece, turn_acts}

abbrev plus_one : ℕ → Term
plus_one k = term.Bin sign.Add (term.Var k) (term.Lit 1)

abbrev is_true : ℕ → Test
is_true v = Not (Same (Var v) (Const 0))

-- the statements of a turn that prints its row of one word, over so many words of the state in these variables
abbrev printed : ℕ → List ℕ → ℕ → Actions → Term → Piece
printed states rows next acts item = acts_piece 0 states 0 print_stop (print_tail 1) None (turn_acts acts (item ∷ [])) rows next

abbrev print_one : ℕ → Block
print_one v = Cons (Emit (Var v)) (Cons EndRow Nil)

-- ---- array | filter | print: the index is set behind what follows, and the item is printed where it was read

abbrev filter_turn : Piece
filter_turn =
    printed 1 (3 ∷ []) 4
    (core.Cons (core.Read 0 (term.Var 0)) (core.Cons (core.Update 0 (plus_one 0 ∷ [])) (core.Cons (core.KeepIf (term.Var 1)) core.Nil))) (term.Var 1)

filter_text : filter_turn ≡ record {
  block = Cons (Read 4 0 (Var 3)) (Cons (If (is_true 4) (print_one 4) Nil) (Cons (Set 3 (Bin op.Add (Var 3) (Const 1))) Nil));
  next = 5;
}
unfolding lowered_term
filter_text = refl

keeps_seven : run (input.Array (7 ∷ 0 ∷ []) ∷ []) filter_turn.block (0 ∷ 0 ∷ 0 ∷ 0 ∷ 0 ∷ []) 0
    ≡ Runs (event.Emit 7 ∷ event.EndRow ∷ []) (0 ∷ 0 ∷ 0 ∷ 1 ∷ 7 ∷ []) 0
unfolding lowered_term
keeps_seven = refl

skips_zero : run (input.Array (7 ∷ 0 ∷ []) ∷ []) filter_turn.block (0 ∷ 0 ∷ 0 ∷ 1 ∷ 7 ∷ []) 0 ≡ Runs [] (0 ∷ 0 ∷ 0 ∷ 2 ∷ 0 ∷ []) 0
unfolding lowered_term
skips_zero = refl

-- ---- a test of a word that is read nowhere else takes no variable

take_while_text : printed 1 (3 ∷ []) 4 (core.Cons (core.Let (plus_one 0)) (core.Cons (core.StopUnless (term.Var 1)) core.Nil)) (term.Var 0) ≡ record {
  block = Cons (If (Not (Same (Bin op.Add (Var 3) (Const 1)) (Const 0))) (print_one 3) print_stop) Nil;
  next = 4;
}
unfolding lowered_term
take_while_text = refl

-- ---- drop: one branch never leads on, so the row stands in the other one

drop_text : printed 2 (3 ∷ 4 ∷ []) 5
    (core.Cons (core.Read 0 (term.Var 0))
    (core.Cons (core.Update 0 (plus_one 0 ∷ []))
    (core.Cons (core.When (term.Var 1) (core.Cons (core.Update 1 (term.Bin sign.Sub (term.Var 1) (term.Lit 1) ∷ [])) (core.Cons (core.KeepIf (term.Truth false)) core.Nil)) core.Nil)
    core.Nil)))
    (term.Var 2) ≡ record {
      block = Cons (Read 5 0 (Var 3))
          (Cons (If (is_true 4) (Cons (Set 4 (Bin op.Sub (Var 4) (Const 1))) Nil) (print_one 5))
          (Cons (Set 3 (Bin op.Add (Var 3) (Const 1))) Nil));
      next = 6;
    }
unfolding lowered_term
drop_text = refl

-- ---- range: the local word is the word of the state, which is set behind the row

range_text : printed 1 (3 ∷ []) 4 (core.Cons (core.Let (term.Var 0)) (core.Cons (core.Update 0 (plus_one 0 ∷ [])) core.Nil)) (term.Var 1) ≡ record {
  block = Cons (Emit (Var 3)) (Cons EndRow (Cons (Set 3 (Bin op.Add (Var 3) (Const 1))) Nil));
  next = 4;
}
unfolding lowered_term
range_text = refl

-- ---- Fibonacci numbers: {b, a + b} is set by way of one variable

fibonacci_text : printed 2 (3 ∷ 4 ∷ []) 5
    (core.Cons (core.Let (term.Var 0)) (core.Cons (core.Update 0 (term.Var 1 ∷ term.Bin sign.Add (term.Var 0) (term.Var 1) ∷ [])) core.Nil)) (term.Var 2) ≡ record {
      block = Cons (Emit (Var 3)) (Cons EndRow
          (Cons (Set 5 (Var 4)) (Cons (Set 4 (Bin op.Add (Var 3) (Var 4))) (Cons (Set 3 (Var 5)) Nil))));
      next = 6;
    }
unfolding lowered_term
fibonacci_text = refl

-- ---- a row that no act reads has a variable of its own

map_text : printed 1 (3 ∷ []) 4 core.Nil (plus_one 0) ≡ record {
  block = Cons (Set 4 (Bin op.Add (Var 3) (Const 1))) (print_one 4);
  next = 5;
}
unfolding lowered_term
map_text = refl

-- ---- both branches lead on: a variable notes it

both_text : printed 2 (3 ∷ 4 ∷ []) 5
    (core.Cons (core.When (term.Var 0) (core.Cons (core.Update 0 (term.Lit 0 ∷ [])) core.Nil) (core.Cons (core.Update 1 (term.Lit 1 ∷ [])) core.Nil)) core.Nil) (term.Var 1) ≡ record {
      block = Cons (Set 5 (Const 0))
          (Cons (If (is_true 3) (Cons (Set 5 (Const 1)) (Cons (Set 3 (Const 0)) Nil)) (Cons (Set 5 (Const 1)) (Cons (Set 4 (Const 1)) Nil)))
          (Cons (If (is_true 5) (print_one 4) Nil) Nil));
      next = 6;
    }
unfolding lowered_term
both_text = refl

-- ---- a fold that adds the words that aren't 0: a choice sets the word in its branches, and nothing where it stays

fold_text : (fold_tail (3 ∷ []) 0 1 (term.If (term.Var 1) (term.Bin sign.Add (term.Var 0) (term.Var 1)) (term.Var 0) ∷ [])).piece (4 ∷ []) 5 ≡ record {
  block = Cons (If (is_true 4) (Cons (Set 3 (Bin op.Add (Var 3) (Var 4))) Nil) Nil) Nil;
  next = 5;
}
unfolding lowered_term
fold_text = refl

-- ---- of a choice whose condition is constant, the chosen part alone

known_text : (fold_tail (3 ∷ []) 0 1 (term.If (term.Truth true) (term.Bin sign.Add (term.Var 0) (term.Var 1)) (term.Bin sign.Div (term.Var 0) (term.Var 1)) ∷ [])).piece (4 ∷ []) 5 ≡ record {
  block = Cons (Set 3 (Bin op.Add (Var 3) (Var 4))) Nil;
  next = 5;
}
unfolding lowered_term
known_text = refl

-- ---- and nothing where the chosen part is the word itself

stays_text : (fold_tail (3 ∷ []) 0 1 (term.If (term.Truth true) (term.Var 0) (term.Var 1) ∷ [])).piece (4 ∷ []) 5 ≡ record { block = Nil; next = 5 }
unfolding lowered_term
stays_text = refl
