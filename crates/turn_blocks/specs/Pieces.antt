-- Statements that take variables for themselves, and what is done with the row of a turn.
use Rattle.std.specs.Prelude.{ℕ, ◌+◌, ◌-◌, Bool, false, List, length, drop, if◌then◌else◌}
use Rattle.loop_ir.specs.Statements.{Const, If, Block, Nil, Cons, join}
use Rattle.expr_forms.specs.Forms.{Condition, is_empty}
use Rattle.expr_phrases.specs.Phrases.{set}

-- statements, and the first variable that they leave free
pub record Piece : Type 0 where
  pub block : Block
  pub next : ℕ

-- no statements
abbrev pub no_piece : ℕ → Piece
no_piece next = record { block = Nil; next = next }

-- a piece behind statements
abbrev pub behind : Block → Piece → Piece
behind first p = record { block = join first p.block; next = p.next }

-- what stands behind the acts of a turn: the words that it takes, which are the last local words, and its piece, from the
-- variables of these words and the first free variable; and whether a loop stands in it
pub record Tail : Type 0 where
  pub width : ℕ
  pub has_loop : Bool
  pub piece : List ℕ → ℕ → Piece

-- the last so many of a list
abbrev pub last : ℕ → List ℕ → List ℕ
last n xs = drop (length xs - n) xs

-- it takes no word, and notes in a variable that the acts led on
abbrev pub mark : ℕ → Tail
mark v = record {
  width = 0;
  has_loop = false;
  piece = λ row next. record { block = set v (Const 1); next = next };
}

-- nothing stands behind acts that don't lead on
abbrev pub nowhere : Tail
nowhere = record { width = 0; has_loop = false; piece = λ row next. no_piece next }

-- the variable behind one that the statements of a condition may have used
abbrev pub behind_scratch : Condition → ℕ → ℕ
behind_scratch c next = if is_empty c.block then next else next + 1

-- the statements of a condition, and then a choice by its test
abbrev pub choose : Condition → Block → Block → Block
choose c on off = join c.block (Cons (If c.test on off) Nil)
