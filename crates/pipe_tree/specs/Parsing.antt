-- What tokens are answered with: their tree, or the fault at the offset where they stop to be a sentence
-- within the limits.
use Rattle.std.specs.Prelude.{◌≡◌, ℕ, ◌≤◌, List, [], ◌∷◌, ◌++◌, length, Result, Ok, Err}
use Rattle.pipe_tree.specs.declared.fault.ParseFault.{ParseFault}
use Rattle.pipe_tree.specs.declared.fault.ParseFault.TheVariants as fault
use Rattle.pipe_tree.specs.declared.tree.Tree.{Tree}
use Rattle.pipe_tree.specs.Bounds.{IsWithinDepths, IsBounded, text_input_offsets, text_op_offsets, text_node_offsets}
use Rattle.pipe_tree.specs.Texts.{texts}
use Rattle.exact_reader.specs.Exactness.{StopsAt, GoesNowhere, GoesDeeper}
use Rattle.pipe_tree.specs.Grammar.{IsSentence}
use Rattle.pipe_tree.specs.Tokens.{Tok}
use Rattle.pipe_tree.specs.TreeCopies.{text_of}
use Rattle.pipe_tree.specs.Trees.{Text}
use Rattle.pipe_limits.specs.declared.TheConstants.{MOST_INPUTS, MOST_OPERATORS, MOST_NODES}

abbrev pub Answer : Type 0
Answer = Result Text ParseFault

abbrev pub answer_of : Result Tree ParseFault → Answer
answer_of (Ok tree) = Ok (text_of tree)
answer_of (Err e) = Err e

-- the offset of the first token, or the text's length where none is left
abbrev pub offset_or_end : ℕ → List Tok → ℕ
offset_or_end end [] = end
offset_or_end end (t ∷ x) = t.at

-- the tokens stop in this way at the token at this offset, or at the end
pub record StopsThere (how : List Tok → List Tok → Type 0) (end : ℕ) (toks : List Tok) (at : ℕ) : Type 0 where
  pub rest : List Tok
  pub stops : StopsAt texts how toks rest
  pub offset : at ≡ offset_or_end end rest

-- among these offsets, this is the first that is more than the limit allows
pub record IsPast (limit : ℕ) (offsets : List ℕ) (at : ℕ) : Type 0 where
  pub before : List ℕ
  pub after : List ℕ
  pub parts : offsets ≡ before ++ at ∷ after
  pub count : length before ≡ limit

-- the tokens are a sentence within the depths, and something holds of its tree
pub record IsReadWith (holds : Text → Type 0) (toks : List Tok) : Type 0 where
  pub tree : Text
  pub sentence : IsSentence toks tree
  pub within : IsWithinDepths tree
  pub goes_on : holds tree

abbrev pub HasTooManyInputs : ℕ → Text → Type 0
HasTooManyInputs at t = IsPast MOST_INPUTS (text_input_offsets t) at

abbrev pub HasTooManyOps : ℕ → Text → Type 0
HasTooManyOps at t = (length (text_input_offsets t) ≤ MOST_INPUTS) × IsPast MOST_OPERATORS (text_op_offsets t) at

abbrev pub HasTooManyNodes : ℕ → Text → Type 0
HasTooManyNodes at t = (length (text_input_offsets t) ≤ MOST_INPUTS) × (length (text_op_offsets t) ≤ MOST_OPERATORS) × IsPast MOST_NODES (text_node_offsets t) at

-- what the tokens of a text of this length are answered with
abbrev pub ParsesAs : ℕ → List Tok → Answer → Type 0
ParsesAs end toks (Ok t) = IsSentence toks t × IsBounded t
ParsesAs end toks (Err (fault.Syntax at)) = StopsThere (GoesNowhere texts) end toks at
ParsesAs end toks (Err (fault.TooDeep at)) = StopsThere (GoesDeeper texts) end toks at
ParsesAs end toks (Err (fault.TooManyInputs at)) = IsReadWith (HasTooManyInputs at) toks
ParsesAs end toks (Err (fault.TooManyOps at)) = IsReadWith (HasTooManyOps at) toks
ParsesAs end toks (Err (fault.TooManyNodes at)) = IsReadWith (HasTooManyNodes at) toks
ParsesAs end toks (Err fault.NoMemory) = Unit {0}

-- the answers are one, or memory was refused in one of them
abbrev pub IsSameUnlessRefused : Answer → Answer → Type 0
IsSameUnlessRefused (Err fault.NoMemory) other = Unit {0}
IsSameUnlessRefused answer (Err fault.NoMemory) = Unit {0}
IsSameUnlessRefused answer other = answer ≡ other
