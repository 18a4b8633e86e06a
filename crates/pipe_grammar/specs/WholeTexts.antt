-- Whole texts and terminals as forms, and what the tokens of a text are read as.
use Rattle.std.specs.declared.alloc.Global.{Global}
use Rattle.std.specs.declared.boxed.Box.{Box}
use Rattle.std.specs.Prelude.{◌≡◌, ℕ, List, [], Result, Ok, Err}
use Rattle.pipe_tree.specs.declared.fault.ParseFault.TheVariants as fault
use Rattle.pipe_tree.specs.declared.fault.ParseFault.{ParseFault}
use Rattle.pipe_tree.specs.declared.tree.Tree.{Tree}
use Rattle.pipe_tree.specs.declared.tree.TTerminal.{TTerminal}
use Rattle.pipe_reader.specs.Continuations.{ATerminal, MoreDeclarations, read_text}
use Rattle.exact_reader.specs.Exactness.{Outcome, Read, Syntax, TooDeep}
use Rattle.pipe_tree.specs.Parsing.{Answer, offset_or_end}
use Rattle.pipe_rows.specs.FormReading.{Form}
use Rattle.pipe_tree.specs.Tokens.{Tok}
use Rattle.pipe_tree.specs.TreeCopies.{terminal_of, text_of}
use Rattle.pipe_tree.specs.Trees.{Terminal, Text}

-- the whole text, which nothing follows
abbrev pub whole_text : Form Text
whole_text f = MoreDeclarations []

-- the terminal and its offset
pub record TerminalWithOffset : Type 0 where
  pub at : ℕ
  pub terminal : Terminal

abbrev pub terminal_with_offset : ℕ → TTerminal → TerminalWithOffset
terminal_with_offset at t = record { at = at; terminal = terminal_of t }

abbrev pub a_terminal : Form TerminalWithOffset
a_terminal f = ATerminal (λ at t. f (record { at = at; terminal = t }))

-- the tokens stop in this way at the token at this offset, or at the end
pub record StopsAs (how : List Tok → Outcome Tok Text) (end : ℕ) (toks : List Tok) (at : ℕ) : Type 0 where
  pub rest : List Tok
  pub outcome : read_text toks ≡ how rest
  pub offset : at ≡ offset_or_end end rest

-- what the reader of whole texts makes of the tokens
abbrev pub ReadsAs : ℕ → List Tok → Answer → Type 0
ReadsAs end toks (Ok t) = read_text toks ≡ Read t
ReadsAs end toks (Err (fault.Syntax at)) = StopsAs Syntax end toks at
ReadsAs end toks (Err (fault.TooDeep at)) = StopsAs TooDeep end toks at
ReadsAs end toks (Err (fault.TooManyInputs at)) = ⊥
ReadsAs end toks (Err (fault.TooManyOps at)) = ⊥
ReadsAs end toks (Err (fault.TooManyNodes at)) = ⊥
ReadsAs end toks (Err fault.NoMemory) = Unit {0}

-- the answer of a tree in a box
abbrev pub boxed_answer : Result (Box Tree Global) ParseFault → Answer
boxed_answer (Ok tree) = Ok (text_of tree.value)
boxed_answer (Err e) = Err e
