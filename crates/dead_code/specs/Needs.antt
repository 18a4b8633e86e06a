-- Which variables a block needs. They are marked in a list with an item for each variable.
use Rattle.std.specs.Prelude.{ℕ, zero, suc, Bool, true, false, not, ◌&&◌, if◌then◌else◌, List, slice_index_or, slice_set, replicate}
use Rattle.loop_ir.specs.Statements.{Operand, Const, Var, Len, Int, Bin, Test, Less, Same, Both, Either, Not, Statement, Set, Read, If, Loop, Emit, EndRow, Ret, Block, Nil, Cons}

-- whether a variable is marked
abbrev pub is_marked : List Bool → ℕ → Bool
is_marked marks v = slice_index_or marks v false

-- with a mark for this variable
abbrev pub with_mark : ℕ → List Bool → List Bool
with_mark v marks = slice_set marks v true

-- with marks for those that are read
abbrev pub with_operand : Operand → List Bool → List Bool
with_operand (Const n) marks = marks
with_operand (Var v) marks = with_mark v marks
with_operand (Len a) marks = marks
with_operand (Int k) marks = marks
with_operand (Bin op a b) marks = with_operand b (with_operand a marks)

abbrev pub with_test : Test → List Bool → List Bool
with_test (Less a b) marks = with_operand b (with_operand a marks)
with_test (Same a b) marks = with_operand b (with_operand a marks)
with_test (Both a b) marks = with_test b (with_test a marks)
with_test (Either a b) marks = with_test b (with_test a marks)
with_test (Not a) marks = with_test a marks

-- ---- statements that do nothing but set variables that aren't marked

module _ (marks : List Bool) where
  abbrev mutual
    pub is_idle : Statement → Bool
    is_idle (Set v w) = not (is_marked marks v)
    is_idle (Read v a w) = not (is_marked marks v)
    is_idle (If t a b) = are_idle a && are_idle b
    is_idle (Loop t body) = false
    is_idle (Emit w) = false
    is_idle EndRow = false
    is_idle (Ret v) = false

    pub are_idle : Block → Bool
    are_idle Nil = true
    are_idle (Cons s ss) = is_idle s && are_idle ss

-- ---- what is needed, where the marked ones are needed already

-- a variable that is set needs what it is set to, where it is needed itself
abbrev pub needs_of_set : ℕ → Operand → List Bool → List Bool
needs_of_set v w marks = if is_marked marks v then with_operand w marks else marks

-- a choice needs its test, unless it is idle
abbrev pub needs_of_choice : Test → Block → Block → List Bool → List Bool
needs_of_choice t a b marks = if are_idle marks a && are_idle marks b then marks else with_test t marks

-- one pass, from the end to the beginning
abbrev mutual
  pub needs_of : Statement → List Bool → List Bool
  needs_of (Set v w) marks = needs_of_set v w marks
  needs_of (Read v a w) marks = needs_of_set v w marks
  needs_of (If t a b) marks = needs_of_choice t a b (needs_of_block a (needs_of_block b marks))
  needs_of (Loop t body) marks = needs_of_block body (with_test t marks)
  needs_of (Emit w) marks = with_operand w marks
  needs_of EndRow marks = marks
  needs_of (Ret v) marks = marks

  pub needs_of_block : Block → List Bool → List Bool
  needs_of_block Nil marks = marks
  needs_of_block (Cons s ss) marks = needs_of s (needs_of_block ss marks)

-- so many passes
abbrev pub needs_in : ℕ → Block → List Bool → List Bool
needs_in zero b marks = marks
needs_in (suc n) b marks = needs_in n b (needs_of_block b marks)

-- the variables that a block needs, of so many: one pass more than there are variables
abbrev pub needed : ℕ → Block → List Bool
needed vars b = needs_in (suc vars) b (replicate vars false)
