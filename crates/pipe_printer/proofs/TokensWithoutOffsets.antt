-- The tokens of a tree don't depend on its offsets.
use Rattle.std.proofs.Common.{◌≡◌, List, [], ◌∷◌, ◌++◌, refl, sym, ap, ◌∙◌}
use Rattle.std.specs.Prelude.{map}
use Rattle.pipe_lexer.specs.declared.keyword.Keyword.TheVariants as key
use Rattle.pipe_lexer.specs.declared.symbol.Symbol.TheVariants as sign
use Rattle.pipe_tree.specs.Tokens.{What, Key, Sym}
use Rattle.pipe_tree.specs.Operators.{sign_of}
use Rattle.pipe_tree.specs.Trees.{Formula, Num, Truth, Name, Len, Neg, Not, Paren, Bin, And, Or, If, Row, Pattern, Stream, From, Source, Array, Range, Unfold, Zip, Stage, Map, Filter, TakeWhile, Take, Drop, Scan, FlatMap, Stages, Nil, Cons, Terminal, Fold, Print, Declaration, Text}
use Rattle.pipe_printer.specs.Printing.{formula_tokens, others_tokens, parts_tokens, braced_tokens, row_tokens, label_tokens, pattern_tokens, folding_tokens, stream_tokens, source_tokens, stages_tokens, stage_tokens, terminal_tokens, declaration_tokens, declarations_tokens, tree_tokens}
use Rattle.pipe_printer.specs.WithoutOffsets.{formula_without_offsets, row_without_offsets, label_without_offsets, pattern_without_offsets, stream_without_offsets, source_without_offsets, stages_without_offsets, stage_without_offsets, terminal_without_offsets, declaration_without_offsets, without_offsets}

formula_tokens-without_offsets : (e : Formula) → formula_tokens (formula_without_offsets e) ≡ formula_tokens e
formula_tokens-without_offsets (Num at w) = refl
formula_tokens-without_offsets (Truth at b) = refl
formula_tokens-without_offsets (Name at n) = refl
formula_tokens-without_offsets (Len at q n) = refl
formula_tokens-without_offsets (Neg at a) = λ i. Sym sign.Minus ∷ formula_tokens-without_offsets a i
formula_tokens-without_offsets (Not at a) = λ i. Sym sign.Bang ∷ formula_tokens-without_offsets a i
formula_tokens-without_offsets (Paren at a) = λ i. Sym sign.OpenParen ∷ formula_tokens-without_offsets a i ++ Sym sign.CloseParen ∷ []
formula_tokens-without_offsets (Bin at op q a b) = λ i. formula_tokens-without_offsets a i ++ Sym (sign_of op) ∷ formula_tokens-without_offsets b i
formula_tokens-without_offsets (And at q a b) = λ i. formula_tokens-without_offsets a i ++ Sym sign.AndAnd ∷ formula_tokens-without_offsets b i
formula_tokens-without_offsets (Or at q a b) = λ i. formula_tokens-without_offsets a i ++ Sym sign.BarBar ∷ formula_tokens-without_offsets b i
formula_tokens-without_offsets (If at c a b) =
    λ i. Key key.If ∷ formula_tokens-without_offsets c i ++ Key key.Then ∷ formula_tokens-without_offsets a i ++ Key key.Else ∷ formula_tokens-without_offsets b i

others_tokens-map : {A : Type 0} (part_tokens : A → List What) (f : A → A) → ((x : A) → part_tokens (f x) ≡ part_tokens x) → (xs : List A) → others_tokens part_tokens (map f xs) ≡ others_tokens part_tokens xs
others_tokens-map part_tokens f same [] = refl
others_tokens-map part_tokens f same (x ∷ xs) = λ i. (Sym sign.Comma ∷ same x i) ++ others_tokens-map part_tokens f same xs i

parts_tokens-map : {A : Type 0} (part_tokens : A → List What) (f : A → A) → ((x : A) → part_tokens (f x) ≡ part_tokens x) → (xs : List A) → parts_tokens part_tokens (map f xs) ≡ parts_tokens part_tokens xs
parts_tokens-map part_tokens f same [] = refl
parts_tokens-map part_tokens f same (x ∷ xs) = λ i. same x i ++ others_tokens-map part_tokens f same xs i

row_tokens-without_offsets : (row : Row) → row_tokens (row_without_offsets row) ≡ row_tokens row
row_tokens-without_offsets row = ap (braced_tokens row.braces) (parts_tokens-map formula_tokens formula_without_offsets formula_tokens-without_offsets row.parts)

pattern_tokens-without_offsets : (p : Pattern) → pattern_tokens (pattern_without_offsets p) ≡ pattern_tokens p
pattern_tokens-without_offsets p = ap (braced_tokens p.braces) (parts_tokens-map label_tokens label_without_offsets (λ n. refl) p.names)

folding_tokens-without_offsets : (seed : Row) (state pat : Pattern) (next : Row) →
    folding_tokens (row_without_offsets seed) (pattern_without_offsets state) (pattern_without_offsets pat) (row_without_offsets next) ≡ folding_tokens seed state pat next
folding_tokens-without_offsets seed state pat next =
    λ i. row_tokens-without_offsets seed i ++ Key key.With ∷ pattern_tokens-without_offsets state i ++ pattern_tokens-without_offsets pat i ++ Sym sign.Arrow ∷ row_tokens-without_offsets next i

mutual
  stream_tokens-without_offsets : (s : Stream) → stream_tokens (stream_without_offsets s) ≡ stream_tokens s
  stream_tokens-without_offsets (From at source stages) = λ i. source_tokens-without_offsets source i ++ stages_tokens-without_offsets stages i

  source_tokens-without_offsets : (s : Source) → source_tokens (source_without_offsets s) ≡ source_tokens s
  source_tokens-without_offsets (Array n) = refl
  source_tokens-without_offsets (Range a b) =
      λ i. Key key.Range ∷ Sym sign.OpenParen ∷ formula_tokens-without_offsets a i ++ Sym sign.Comma ∷ formula_tokens-without_offsets b i ++ Sym sign.CloseParen ∷ []
  source_tokens-without_offsets (Unfold seed pat guard item next) =
      λ i. Key key.Unfold ∷ row_tokens-without_offsets seed i ++ Key key.With ∷ pattern_tokens-without_offsets pat i ++ Key key.While ∷ formula_tokens-without_offsets guard i
      ++ Key key.Yield ∷ row_tokens-without_offsets item i ++ Key key.Next ∷ row_tokens-without_offsets next i
  source_tokens-without_offsets (Zip a b) =
      λ i. Key key.Zip ∷ Sym sign.OpenParen ∷ stream_tokens-without_offsets a i ++ Sym sign.Comma ∷ stream_tokens-without_offsets b i ++ Sym sign.CloseParen ∷ []

  stages_tokens-without_offsets : (ss : Stages) → stages_tokens (stages_without_offsets ss) ≡ stages_tokens ss
  stages_tokens-without_offsets Nil = refl
  stages_tokens-without_offsets (Cons s ss) = λ i. Sym sign.Bar ∷ stage_tokens-without_offsets s i ++ stages_tokens-without_offsets ss i

  stage_tokens-without_offsets : (s : Stage) → stage_tokens (stage_without_offsets s) ≡ stage_tokens s
  stage_tokens-without_offsets (Map at p body) = λ i. Key key.Map ∷ pattern_tokens-without_offsets p i ++ Sym sign.Arrow ∷ row_tokens-without_offsets body i
  stage_tokens-without_offsets (Filter at p e) = λ i. Key key.Filter ∷ pattern_tokens-without_offsets p i ++ Sym sign.Arrow ∷ formula_tokens-without_offsets e i
  stage_tokens-without_offsets (TakeWhile at p e) = λ i. Key key.TakeWhile ∷ pattern_tokens-without_offsets p i ++ Sym sign.Arrow ∷ formula_tokens-without_offsets e i
  stage_tokens-without_offsets (Take at e) = λ i. Key key.Take ∷ formula_tokens-without_offsets e i
  stage_tokens-without_offsets (Drop at e) = λ i. Key key.Drop ∷ formula_tokens-without_offsets e i
  stage_tokens-without_offsets (Scan at seed state pat next) = λ i. Key key.Scan ∷ folding_tokens-without_offsets seed state pat next i
  stage_tokens-without_offsets (FlatMap at p s) =
      λ i. Key key.FlatMap ∷ pattern_tokens-without_offsets p i ++ Sym sign.Arrow ∷ Sym sign.OpenParen ∷ stream_tokens-without_offsets s i ++ Sym sign.CloseParen ∷ []

terminal_tokens-without_offsets : (t : Terminal) → terminal_tokens (terminal_without_offsets t) ≡ terminal_tokens t
terminal_tokens-without_offsets (Fold seed state pat next) = λ i. Key key.Fold ∷ folding_tokens-without_offsets seed state pat next i
terminal_tokens-without_offsets Print = refl

declarations_tokens-without_offsets : (ds : List Declaration) → declarations_tokens (map declaration_without_offsets ds) ≡ declarations_tokens ds
declarations_tokens-without_offsets [] = refl
declarations_tokens-without_offsets (d ∷ ds) = λ i. declaration_tokens d ++ declarations_tokens-without_offsets ds i

tree_tokens-without_offsets : (t : Text) → tree_tokens (without_offsets t) ≡ tree_tokens t
tree_tokens-without_offsets t =
    λ i. declarations_tokens-without_offsets t.inputs i ++ stream_tokens-without_offsets t.stream i ++ Sym sign.Bar ∷ terminal_tokens-without_offsets t.terminal i

-- trees that are the same but for offsets have the same tokens
pub same_tree_tokens : (t u : Text) → without_offsets t ≡ without_offsets u → tree_tokens t ≡ tree_tokens u
same_tree_tokens t u same = sym (tree_tokens-without_offsets t) ∙ ap tree_tokens same ∙ tree_tokens-without_offsets u
