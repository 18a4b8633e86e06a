-- Trees without their offsets, each of which is 0, and which texts read as a tree but for its offsets.
use Rattle.std.specs.Prelude.{◌≡◌, ℕ, List, map}
use Rattle.pipe_lexer.specs.Lexing.{IsLexed}
use Rattle.pipe_lexer.specs.declared.token.Token.{Token}
use Rattle.pipe_tree.specs.Tokens.{toks_of}
use Rattle.pipe_tree.specs.Trees.{Formula, Num, Truth, Name, Len, Neg, Not, Paren, Bin, And, Or, If, Label, Row, Pattern, Stream, From, Source, Array, Range, Unfold, Zip, Stage, Map, Filter, TakeWhile, Take, Drop, Scan, FlatMap, Stages, Nil, Cons, Terminal, Fold, Print, Declaration, Text}
use Rattle.pipe_tree.specs.Grammar.{IsSentence}
use Rattle.pipe_tree.specs.Bounds.{IsBounded}

abbrev pub formula_without_offsets : Formula → Formula
formula_without_offsets (Num at w) = Num 0 w
formula_without_offsets (Truth at b) = Truth 0 b
formula_without_offsets (Name at n) = Name 0 n
formula_without_offsets (Len at q n) = Len 0 0 n
formula_without_offsets (Neg at a) = Neg 0 (formula_without_offsets a)
formula_without_offsets (Not at a) = Not 0 (formula_without_offsets a)
formula_without_offsets (Paren at a) = Paren 0 (formula_without_offsets a)
formula_without_offsets (Bin at op q a b) = Bin 0 op 0 (formula_without_offsets a) (formula_without_offsets b)
formula_without_offsets (And at q a b) = And 0 0 (formula_without_offsets a) (formula_without_offsets b)
formula_without_offsets (Or at q a b) = Or 0 0 (formula_without_offsets a) (formula_without_offsets b)
formula_without_offsets (If at c a b) = If 0 (formula_without_offsets c) (formula_without_offsets a) (formula_without_offsets b)

abbrev pub row_without_offsets : Row → Row
row_without_offsets row = record { at = 0; braces = row.braces; parts = map formula_without_offsets row.parts }

abbrev pub label_without_offsets : Label → Label
label_without_offsets n = record { at = 0; text = n.text }

abbrev pub pattern_without_offsets : Pattern → Pattern
pattern_without_offsets p = record { at = 0; braces = p.braces; names = map label_without_offsets p.names }

abbrev mutual
  pub stream_without_offsets : Stream → Stream
  stream_without_offsets (From at source stages) = From 0 (source_without_offsets source) (stages_without_offsets stages)

  pub source_without_offsets : Source → Source
  source_without_offsets (Array n) = Array (label_without_offsets n)
  source_without_offsets (Range a b) = Range (formula_without_offsets a) (formula_without_offsets b)
  source_without_offsets (Unfold seed pat guard item next) =
      Unfold (row_without_offsets seed) (pattern_without_offsets pat) (formula_without_offsets guard) (row_without_offsets item) (row_without_offsets next)
  source_without_offsets (Zip a b) = Zip (stream_without_offsets a) (stream_without_offsets b)

  pub stages_without_offsets : Stages → Stages
  stages_without_offsets Nil = Nil
  stages_without_offsets (Cons s ss) = Cons (stage_without_offsets s) (stages_without_offsets ss)

  pub stage_without_offsets : Stage → Stage
  stage_without_offsets (Map at p body) = Map 0 (pattern_without_offsets p) (row_without_offsets body)
  stage_without_offsets (Filter at p e) = Filter 0 (pattern_without_offsets p) (formula_without_offsets e)
  stage_without_offsets (TakeWhile at p e) = TakeWhile 0 (pattern_without_offsets p) (formula_without_offsets e)
  stage_without_offsets (Take at e) = Take 0 (formula_without_offsets e)
  stage_without_offsets (Drop at e) = Drop 0 (formula_without_offsets e)
  stage_without_offsets (Scan at seed state pat next) =
      Scan 0 (row_without_offsets seed) (pattern_without_offsets state) (pattern_without_offsets pat) (row_without_offsets next)
  stage_without_offsets (FlatMap at p s) = FlatMap 0 (pattern_without_offsets p) (stream_without_offsets s)

abbrev pub terminal_without_offsets : Terminal → Terminal
terminal_without_offsets (Fold seed state pat next) =
    Fold (row_without_offsets seed) (pattern_without_offsets state) (pattern_without_offsets pat) (row_without_offsets next)
terminal_without_offsets Print = Print

abbrev pub declaration_without_offsets : Declaration → Declaration
declaration_without_offsets d = record { at = 0; name = label_without_offsets d.name; kind = d.kind }

abbrev pub without_offsets : Text → Text
without_offsets t = record {
  inputs = map declaration_without_offsets t.inputs;
  stream = stream_without_offsets t.stream;
  terminal_at = 0;
  terminal = terminal_without_offsets t.terminal;
}

-- the trees differ in offsets at most
abbrev pub IsSameButOffsets : Text → Text → Type 0
IsSameButOffsets t u = without_offsets t ≡ without_offsets u

-- the source is a text within the limits, whose tree is this one but for offsets
pub record ReadsBack (src : List ℕ) (t : Text) : Type 0 where
  pub toks : List Token
  pub tree : Text
  pub lexed : IsLexed src toks
  pub sentence : IsSentence (toks_of src toks) tree
  pub bounded : IsBounded tree
  pub same : IsSameButOffsets tree t

-- some source reads as this tree, but for offsets
abbrev pub IsPrintable : Text → Type 0
IsPrintable t = (src : List ℕ) × ReadsBack src t
