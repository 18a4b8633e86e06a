-- Plain copies of expressions, streams and programs. Every definition speaks of these.
use Rattle.std.specs.Prelude.{ℕ, List, Bool}
use Rattle.list_denotation.specs.declared.expr.BinOp.{BinOp}
use Rattle.list_denotation.specs.declared.input.InputKind.{InputKind}

-- an expression
pub data Term : Type 0 where
  Lit : ℕ → Term
  Truth : Bool → Term
  Var Param Len : ℕ → Term
  Neg Not : Term → Term
  Bin : BinOp → Term → Term → Term
  And Or : Term → Term → Term
  If : Term → Term → Term → Term

-- a stream
pub data Pipe : Type 0 where
  Array : ℕ → Pipe
  Range : Term → Term → Pipe
  Unfold : (seed : List Term) (guard : Term) (item next : List Term) → Pipe
  Map : Pipe → List Term → Pipe
  Filter Take Drop TakeWhile : Pipe → Term → Pipe
  Scan : Pipe → (seed next : List Term) → Pipe
  FlatMap Zip : Pipe → Pipe → Pipe

-- what is done with the rows
pub data Finish : Type 0 where
  Fold : (seed next : List Term) → Finish
  Print : Finish

-- a program
pub record Pipeline : Type 0 where
  pub inputs : List InputKind
  pub stream : Pipe
  pub terminal : Finish
