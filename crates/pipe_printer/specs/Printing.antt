-- The tokens of a tree in order, each without its offset, and the text in which they are printed.
use Rattle.std.specs.Global.{Vec}
use Rattle.std.specs.Prelude.{◌≡◌, ℕ, List, [], ◌∷◌, ◌++◌, Bool, true, false, flat_map, codes, decimal}
use Rattle.pipe_lexer.specs.declared.keyword.Keyword.TheVariants as key
use Rattle.pipe_lexer.specs.declared.symbol.Symbol.TheVariants as sym
use Rattle.pipe_lexer.specs.Keywords.{keyword_text}
use Rattle.pipe_lexer.specs.Symbols.{symbol_text}
use Rattle.pipe_tree.specs.Tokens.{What, Named, Number, Key, Sym}
use Rattle.pipe_tree.specs.Operators.{sign_of}
use Rattle.pipe_tree.specs.Grammar.{truth_key, kind_key}
use Rattle.pipe_tree.specs.Trees.{Formula, Num, Truth, Name, Len, Neg, Not, Paren, Bin, And, Or, If, Label, Row, Pattern, Stream, From, Source, Array, Range, Unfold, Zip, Stage, Map, Filter, TakeWhile, Take, Drop, Scan, FlatMap, Stages, Nil, Cons, Terminal, Fold, Print, Declaration, Text}

-- the tokens of an expression, with the parentheses that its tree has and no others
abbrev pub formula_tokens : Formula → List What
formula_tokens (Num at w) = Number w ∷ []
formula_tokens (Truth at b) = Key (truth_key b) ∷ []
formula_tokens (Name at n) = Named n ∷ []
formula_tokens (Len at q n) = Key key.Len ∷ Sym sym.OpenParen ∷ Named n ∷ Sym sym.CloseParen ∷ []
formula_tokens (Neg at a) = Sym sym.Minus ∷ formula_tokens a
formula_tokens (Not at a) = Sym sym.Bang ∷ formula_tokens a
formula_tokens (Paren at a) = Sym sym.OpenParen ∷ formula_tokens a ++ Sym sym.CloseParen ∷ []
formula_tokens (Bin at op q a b) = formula_tokens a ++ Sym (sign_of op) ∷ formula_tokens b
formula_tokens (And at q a b) = formula_tokens a ++ Sym sym.AndAnd ∷ formula_tokens b
formula_tokens (Or at q a b) = formula_tokens a ++ Sym sym.BarBar ∷ formula_tokens b
formula_tokens (If at c a b) = Key key.If ∷ formula_tokens c ++ Key key.Then ∷ formula_tokens a ++ Key key.Else ∷ formula_tokens b

-- parts with a comma before each
abbrev pub others_tokens : {A : Type 0} → (A → List What) → List A → List What
others_tokens part_tokens = flat_map (λ x. Sym sym.Comma ∷ part_tokens x)

-- parts with a comma between two
abbrev pub parts_tokens : {A : Type 0} → (A → List What) → List A → List What
parts_tokens part_tokens [] = []
parts_tokens part_tokens (x ∷ xs) = part_tokens x ++ others_tokens part_tokens xs

-- in braces or without them
abbrev pub braced_tokens : Bool → List What → List What
braced_tokens false ws = ws
braced_tokens true ws = Sym sym.OpenBrace ∷ ws ++ Sym sym.CloseBrace ∷ []

-- the tokens of a row
abbrev pub row_tokens : Row → List What
row_tokens row = braced_tokens row.braces (parts_tokens formula_tokens row.parts)

-- a name as a token
abbrev pub label_tokens : Label → List What
label_tokens n = Named n.text ∷ []

-- the tokens of a pattern
abbrev pub pattern_tokens : Pattern → List What
pattern_tokens p = braced_tokens p.braces (parts_tokens label_tokens p.names)

-- what stands behind `scan` and `fold`
abbrev pub folding_tokens : Row → Pattern → Pattern → Row → List What
folding_tokens seed state pat next =
    row_tokens seed ++ Key key.With ∷ pattern_tokens state ++ pattern_tokens pat ++ Sym sym.Arrow ∷ row_tokens next

abbrev mutual
  -- a source and its stages
  pub stream_tokens : Stream → List What
  stream_tokens (From at source stages) = source_tokens source ++ stages_tokens stages

  -- the tokens of a source
  pub source_tokens : Source → List What
  source_tokens (Array n) = Key key.Array ∷ label_tokens n
  source_tokens (Range a b) =
      Key key.Range ∷ Sym sym.OpenParen ∷ formula_tokens a ++ Sym sym.Comma ∷ formula_tokens b ++ Sym sym.CloseParen ∷ []
  source_tokens (Unfold seed pat guard item next) =
      Key key.Unfold ∷ row_tokens seed ++ Key key.With ∷ pattern_tokens pat ++ Key key.While ∷ formula_tokens guard
      ++ Key key.Yield ∷ row_tokens item ++ Key key.Next ∷ row_tokens next
  source_tokens (Zip a b) =
      Key key.Zip ∷ Sym sym.OpenParen ∷ stream_tokens a ++ Sym sym.Comma ∷ stream_tokens b ++ Sym sym.CloseParen ∷ []

  -- stages with a bar before each
  pub stages_tokens : Stages → List What
  stages_tokens Nil = []
  stages_tokens (Cons s ss) = Sym sym.Bar ∷ stage_tokens s ++ stages_tokens ss

  -- the tokens of a stage, without its bar
  pub stage_tokens : Stage → List What
  stage_tokens (Map at p body) = Key key.Map ∷ pattern_tokens p ++ Sym sym.Arrow ∷ row_tokens body
  stage_tokens (Filter at p e) = Key key.Filter ∷ pattern_tokens p ++ Sym sym.Arrow ∷ formula_tokens e
  stage_tokens (TakeWhile at p e) = Key key.TakeWhile ∷ pattern_tokens p ++ Sym sym.Arrow ∷ formula_tokens e
  stage_tokens (Take at e) = Key key.Take ∷ formula_tokens e
  stage_tokens (Drop at e) = Key key.Drop ∷ formula_tokens e
  stage_tokens (Scan at seed state pat next) = Key key.Scan ∷ folding_tokens seed state pat next
  stage_tokens (FlatMap at p s) =
      Key key.FlatMap ∷ pattern_tokens p ++ Sym sym.Arrow ∷ Sym sym.OpenParen ∷ stream_tokens s ++ Sym sym.CloseParen ∷ []

-- the tokens of a terminal, without its bar
abbrev pub terminal_tokens : Terminal → List What
terminal_tokens (Fold seed state pat next) = Key key.Fold ∷ folding_tokens seed state pat next
terminal_tokens Print = Key key.Print ∷ []

-- the tokens of a declaration, its semicolon too
abbrev pub declaration_tokens : Declaration → List What
declaration_tokens d = Key key.Input ∷ label_tokens d.name ++ Sym sym.Colon ∷ Key (kind_key d.kind) ∷ Sym sym.Semicolon ∷ []

-- one declaration after the other
abbrev pub declarations_tokens : List Declaration → List What
declarations_tokens = flat_map declaration_tokens

-- the tokens of a whole tree
abbrev pub tree_tokens : Text → List What
tree_tokens t = declarations_tokens t.inputs ++ stream_tokens t.stream ++ Sym sym.Bar ∷ terminal_tokens t.terminal

-- the characters of a token; a number has no leading zero
abbrev pub spelling : What → List ℕ
spelling (Named text) = text
spelling (Number n) = decimal n
spelling (Key k) = keyword_text k
spelling (Sym s) = symbol_text s

-- what stands between a token and the next one: a line feed behind `;`, else a blank
abbrev pub gap : What → List ℕ
gap (Sym sym.Semicolon) = codes "\n"
gap _ = codes " "

-- tokens with what stands between two, and a line feed behind the last one
abbrev pub spaced_text : List What → List ℕ
spaced_text [] = []
spaced_text (w ∷ []) = spelling w ++ codes "\n"
spaced_text (w ∷ v ∷ ws) = spelling w ++ gap w ++ spaced_text (v ∷ ws)

-- a token with its gap
abbrev pub text_with_gap : What → List ℕ
text_with_gap w = spelling w ++ gap w

-- tokens, each with its gap
abbrev pub run_text : List What → List ℕ
run_text = flat_map text_with_gap

-- these tokens, each with its gap, stand behind what was there
abbrev pub PutsTokens : Vec ℕ → Vec ℕ → List What → Type 0
PutsTokens old new ws = new.items ≡ old.items ++ run_text ws
