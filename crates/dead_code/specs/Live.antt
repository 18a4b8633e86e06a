-- The statements of which something is needed, over the variables that are needed alone.
use Rattle.std.specs.Prelude.{ℕ, suc, Bool, true, false, ◌&&◌, if◌then◌else◌, List, [], ◌∷◌, slice_index_or}
use Rattle.loop_ir.specs.Statements.{Operand, Const, Var, Len, Int, Bin, Test, Less, Same, Both, Either, Not, Statement, Set, Read, If, Loop, Emit, EndRow, Ret, Block, Nil, Cons, join}
use Rattle.dead_code.specs.Needs.{is_marked}

-- how many variables are marked
abbrev pub marked_count : List Bool → ℕ
marked_count [] = 0
marked_count (true ∷ marks) = suc (marked_count marks)
marked_count (false ∷ marks) = marked_count marks

-- the new number of each variable, of which the marked ones are numbered from n on: how many marked ones stand before it
abbrev pub ranks_from : ℕ → List Bool → List ℕ
ranks_from n [] = []
ranks_from n (true ∷ marks) = n ∷ ranks_from (suc n) marks
ranks_from n (false ∷ marks) = n ∷ ranks_from n marks

abbrev pub ranks : List Bool → List ℕ
ranks = ranks_from 0

-- a variable that has no new number keeps its own
abbrev pub number_in : List ℕ → ℕ → ℕ
number_in numbers v = slice_index_or numbers v v

-- operands and tests with these numbers for their variables
module _ (numbers : List ℕ) where
  abbrev pub renumbered : Operand → Operand
  renumbered (Const n) = Const n
  renumbered (Var v) = Var (number_in numbers v)
  renumbered (Len a) = Len a
  renumbered (Int k) = Int k
  renumbered (Bin op a b) = Bin op (renumbered a) (renumbered b)

  abbrev pub renumbered_test : Test → Test
  renumbered_test (Less a b) = Less (renumbered a) (renumbered b)
  renumbered_test (Same a b) = Same (renumbered a) (renumbered b)
  renumbered_test (Both a b) = Both (renumbered_test a) (renumbered_test b)
  renumbered_test (Either a b) = Either (renumbered_test a) (renumbered_test b)
  renumbered_test (Not a) = Not (renumbered_test a)

abbrev pub is_nil : Block → Bool
is_nil Nil = true
is_nil (Cons s ss) = false

-- the statement alone, where this holds
abbrev pub only_if : Bool → Statement → Block
only_if b s = if b then Cons s Nil else Nil

-- a choice, unless both of its branches are empty
abbrev pub choice : Test → Block → Block → Block
choice t a b = if is_nil a && is_nil b then Nil else Cons (If t a b) Nil

-- the statements over variables with these numbers, without those that set variables that aren't marked, and without choices
-- that are empty then
module _ (marks : List Bool) (numbers : List ℕ) where
  abbrev mutual
    pub live_statement : Statement → Block
    live_statement (Set v w) = only_if (is_marked marks v) (Set (number_in numbers v) (renumbered numbers w))
    live_statement (Read v a w) = only_if (is_marked marks v) (Read (number_in numbers v) a (renumbered numbers w))
    live_statement (If t a b) = choice (renumbered_test numbers t) (live a) (live b)
    live_statement (Loop t body) = Cons (Loop (renumbered_test numbers t) (live body)) Nil
    live_statement (Emit w) = Cons (Emit (renumbered numbers w)) Nil
    live_statement EndRow = Cons EndRow Nil
    live_statement (Ret v) = Cons (Ret v) Nil

    pub live : Block → Block
    live Nil = Nil
    live (Cons s ss) = join (live_statement s) (live ss)
