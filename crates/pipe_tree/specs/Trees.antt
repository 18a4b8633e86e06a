-- Plain copies of trees. Every definition speaks of these.
use Rattle.std.specs.Prelude.{ℕ, List, Bool}
use Rattle.pipe_lexer.specs.declared.operator.BinOp.{BinOp}
use Rattle.pipe_lexer.specs.declared.operator.InputKind.{InputKind}

-- an expression; the first number is the offset of its first token, and that of an operator follows it
pub data Formula : Type 0 where
  Num : (at w : ℕ) → Formula
  Truth : (at : ℕ) (b : Bool) → Formula
  Name : (at : ℕ) (text : List ℕ) → Formula
  Len : (at name_at : ℕ) (text : List ℕ) → Formula
  Neg Not Paren : (at : ℕ) (a : Formula) → Formula
  Bin : (at : ℕ) (op : BinOp) (op_at : ℕ) (a b : Formula) → Formula
  And Or : (at op_at : ℕ) (a b : Formula) → Formula
  If : (at : ℕ) (c a b : Formula) → Formula

-- the offset of an expression's first token
abbrev pub offset_of : Formula → ℕ
offset_of (Num at w) = at
offset_of (Truth at b) = at
offset_of (Name at n) = at
offset_of (Len at q n) = at
offset_of (Neg at a) = at
offset_of (Not at a) = at
offset_of (Paren at a) = at
offset_of (Bin at op q a b) = at
offset_of (And at q a b) = at
offset_of (Or at q a b) = at
offset_of (If at c a b) = at

pub record Label : Type 0 where
  pub at : ℕ
  pub text : List ℕ

pub record Row : Type 0 where
  pub at : ℕ
  pub braces : Bool
  pub parts : List Formula

pub record Pattern : Type 0 where
  pub at : ℕ
  pub braces : Bool
  pub names : List Label

mutual
  pub data Stream : Type 0 where
    From : (at : ℕ) (source : Source) (stages : Stages) → Stream

  pub data Source : Type 0 where
    Array : Label → Source
    Range : Formula → Formula → Source
    Unfold : (seed : Row) (pat : Pattern) (guard : Formula) (item next : Row) → Source
    Zip : Stream → Stream → Source

  pub data Stage : Type 0 where
    Map : (at : ℕ) → Pattern → Row → Stage
    Filter TakeWhile : (at : ℕ) → Pattern → Formula → Stage
    Take Drop : (at : ℕ) → Formula → Stage
    Scan : (at : ℕ) (seed : Row) (state pat : Pattern) (next : Row) → Stage
    FlatMap : (at : ℕ) → Pattern → Stream → Stage

  pub data Stages : Type 0 where
    Nil : Stages
    Cons : Stage → Stages → Stages

pub data Terminal : Type 0 where
  Fold : (seed : Row) (state pat : Pattern) (next : Row) → Terminal
  Print : Terminal

pub record Declaration : Type 0 where
  pub at : ℕ
  pub name : Label
  pub kind : InputKind

pub record Text : Type 0 where
  pub inputs : List Declaration
  pub stream : Stream
  pub terminal_at : ℕ
  pub terminal : Terminal
