-- The counts of a loop program.
use Rattle.std.specs.Prelude.{ℕ, ◌+◌, ◌-◌, ◌^◌, min, max}
use Rattle.loop_ir.specs.declared.counts.Measure.{Measure}
use Rattle.loop_ir.specs.declared.counts.Measure.TheVariants.{Statements, Loops, Nesting}
use Rattle.loop_ir.specs.Statements.{Statement, Set, Read, If, Loop, Emit, EndRow, Ret, Block, Nil, Cons}

-- what is counted of a statement that is no loop, where so much is counted of its parts
abbrev pub plain_count : Measure → ℕ → ℕ
plain_count Statements n = n + 1
plain_count Loops n = n
plain_count Nesting n = n

-- what is counted of statements beside one another
abbrev pub joint_count : Measure → ℕ → ℕ → ℕ
joint_count Statements m n = m + n
joint_count Loops m n = m + n
joint_count Nesting m n = max m n

-- a loop adds 1 to what is counted of its body, whatever is counted
module _ (what : Measure) where
  abbrev mutual
    pub statement_measure : Statement → ℕ
    statement_measure (Set v w) = plain_count what 0
    statement_measure (Read v a w) = plain_count what 0
    statement_measure (If t a b) = plain_count what (joint_count what (block_measure a) (block_measure b))
    statement_measure (Loop t body) = block_measure body + 1
    statement_measure (Emit w) = plain_count what 0
    statement_measure EndRow = plain_count what 0
    statement_measure (Ret v) = plain_count what 0

    pub block_measure : Block → ℕ
    block_measure Nil = 0
    block_measure (Cons s ss) = joint_count what (statement_measure s) (block_measure ss)

-- all statements, also those inside others
abbrev pub block_count : Block → ℕ
block_count = block_measure Statements

-- the loops
abbrev pub block_loops : Block → ℕ
block_loops = block_measure Loops

-- the most loops inside one another
abbrev pub block_nest : Block → ℕ
block_nest = block_measure Nesting

-- a count as a word: at most 2 ^ 64 - 1
abbrev pub up_to_most : ℕ → ℕ
up_to_most n = min n (2 ^ 64 - 1)
