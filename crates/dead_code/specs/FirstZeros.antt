-- Variables start at 0, so setting one to 0 does nothing where no statement before has set it.
use Rattle.std.specs.Prelude.{Bool, false, not, ◌&&◌, ◌==◌, if◌then◌else◌, List}
use Rattle.loop_ir.specs.Statements.{Operand, Const, Var, Len, Int, Bin, Statement, Set, Read, If, Loop, Emit, EndRow, Ret, Block, Nil, Cons}
use Rattle.dead_code.specs.Needs.{is_marked, with_mark}

-- marks of variables, with those that statements set
abbrev mutual
  pub with_set : Statement → List Bool → List Bool
  with_set (Set v w) marks = with_mark v marks
  with_set (Read v a w) marks = with_mark v marks
  with_set (If t a b) marks = with_sets b (with_sets a marks)
  with_set (Loop t body) marks = with_sets body marks
  with_set (Emit w) marks = marks
  with_set EndRow marks = marks
  with_set (Ret v) marks = marks

  pub with_sets : Block → List Bool → List Bool
  with_sets Nil marks = marks
  with_sets (Cons s ss) marks = with_sets ss (with_set s marks)

abbrev pub is_zero : Operand → Bool
is_zero (Const n) = n == 0
is_zero (Var v) = false
is_zero (Len a) = false
is_zero (Int k) = false
is_zero (Bin op a b) = false

-- whether it sets a variable to 0 that isn't marked
abbrev pub is_first_zero : List Bool → Statement → Bool
is_first_zero marks (Set v w) = is_zero w && not (is_marked marks v)
is_first_zero marks (Read v a w) = false
is_first_zero marks (If t a b) = false
is_first_zero marks (Loop t body) = false
is_first_zero marks (Emit w) = false
is_first_zero marks EndRow = false
is_first_zero marks (Ret v) = false

-- the marks behind a statement, which is dropped or not
abbrev pub marks_behind : Bool → Statement → List Bool → List Bool
marks_behind dropped s marks = if dropped then marks else with_set s marks

-- the statement before others, unless it is dropped
abbrev pub unless_dropped : Bool → Statement → Block → Block
unless_dropped dropped s ss = if dropped then ss else Cons s ss

-- the statements without those that set a variable to 0 that no statement before has set, nor is marked
abbrev pub without_first_zeros : List Bool → Block → Block
without_first_zeros marks Nil = Nil
without_first_zeros marks (Cons s ss) =
    unless_dropped (is_first_zero marks s) s (without_first_zeros (marks_behind (is_first_zero marks s) s marks) ss)
