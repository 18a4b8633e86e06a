-- What is promised of code that appends a piece of statements.
use Rattle.std.specs.Prelude.{ℕ, List}
use Rattle.loop_ir.specs.declared.syntax.Stmt.{Stmt}
use Rattle.state_alloc.specs.Frames.{Takes}
use Rattle.state_alloc.specs.declared.slots.Slots.{Slots}
use Rattle.expr_forms.specs.Forms.{Condition}
use Rattle.expr_phrases.specs.PhraseCopies.{Appends}
use Rattle.turn_blocks.specs.Pieces.{Piece, behind_scratch}

-- the statements of a condition, with the scratch variable where there are any
abbrev pub condition_piece : Condition → ℕ → Piece
condition_piece c next = record { block = c.block; next = behind_scratch c next }

-- the statements of the piece were appended, and the variables that it takes were given out
pub record Puts (before after : Slots) (old new : List Stmt) (p : Piece) : Type 0 where
  pub block : Appends old new p.block
  pub slots : Takes before after p.next
