-- A loop program of which one loop tells each of its turns: its body begins with the end of a row.
use Rattle.std.specs.Prelude.{◌≡◌, ℕ, ◌+◌, Bool, ◌==◌, if◌then◌else◌, List, [], ◌∷◌}
use Rattle.list_denotation.specs.declared.event.Event.{Event}
use Rattle.list_denotation.specs.declared.event.Event.TheVariants as event
use Rattle.list_denotation.specs.Observation.{Seen}
use Rattle.loop_ir.specs.Statements.{Statement, Set, Read, If, Loop, Emit, EndRow, Ret, Block, Nil, Cons, Routine, join}
use Rattle.loop_ir.specs.Counts.{statement_measure, block_loops}
use Rattle.loop_ir.specs.declared.counts.Measure.TheVariants.{Loops}

-- the loops are numbered in the order of the text; the body of each begins with these statements
module _ (front : ℕ → Block) where
  abbrev mutual
    pub fronted_statement : ℕ → Statement → Statement
    fronted_statement k (Set v w) = Set v w
    fronted_statement k (Read v a w) = Read v a w
    fronted_statement k (If t a b) = If t (fronted_block k a) (fronted_block (k + block_loops a) b)
    fronted_statement k (Loop t body) = Loop t (join (front k) (fronted_block (k + 1) body))
    fronted_statement k (Emit w) = Emit w
    fronted_statement k EndRow = EndRow
    fronted_statement k (Ret v) = Ret v

    -- from loop k on
    pub fronted_block : ℕ → Block → Block
    fronted_block k Nil = Nil
    fronted_block k (Cons s ss) = Cons (fronted_statement k s) (fronted_block (k + statement_measure Loops s) ss)

-- the end of a row, where this holds of the number
abbrev pub row_where : (ℕ → Bool) → ℕ → Block
row_where here k = if here k then Cons EndRow Nil else Nil

-- the loop program where loop k is marked so
abbrev pub marked : ℕ → Routine → Routine
marked k q = record { params = q.params; vars = q.vars; body = fronted_block (row_where (λ j. j == k)) 0 q.body }

-- ---- what is seen of it

-- the ends of rows
abbrev pub row_ends : List Event → ℕ
row_ends [] = 0
row_ends (event.Emit x ∷ events) = row_ends events
row_ends (event.EndRow ∷ events) = row_ends events + 1

-- the second list is the first one, and ends of rows between its events
pub data HasMoreRows : List Event → List Event → Type 0 where
  Same : HasMoreRows [] []
  Kept : (e : Event) {events more : List Event} → HasMoreRows events more → HasMoreRows (e ∷ events) (e ∷ more)
  Marked : {events more : List Event} → HasMoreRows events more → HasMoreRows events (event.EndRow ∷ more)

-- the same is seen, but for so many ends of rows more
pub record IsMarkedSo (turns : ℕ) (plain seen : Seen) : Type 0 where
  pub events : HasMoreRows plain.events seen.events
  pub rows : row_ends seen.events ≡ row_ends plain.events + turns
  pub standing : seen.standing ≡ plain.standing
