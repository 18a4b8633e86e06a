-- The plain copies of the code's trees.
use Rattle.std.specs.declared.alloc.Global.{Global}
use Rattle.std.specs.declared.boxed.Box.{Box}
use Rattle.std.specs.Prelude.{ℕ, List, [], ◌∷◌, map}
use Rattle.pipe_tree.specs.declared.tree.Name.{Name}
use Rattle.pipe_tree.specs.declared.tree.TExpr.{TExpr}
use Rattle.pipe_tree.specs.declared.tree.TNode.{TNode}
use Rattle.pipe_tree.specs.declared.tree.TNode.TheVariants as node
use Rattle.pipe_tree.specs.declared.tree.TRow.{TRow}
use Rattle.pipe_tree.specs.declared.tree.TPat.{TPat}
use Rattle.pipe_tree.specs.declared.tree.TStream.{TStream}
use Rattle.pipe_tree.specs.declared.tree.TSource.{TSource}
use Rattle.pipe_tree.specs.declared.tree.TSource.TheOpen.{TSource-F, TStage-F, TStageNode-F, TStream-F}
use Rattle.pipe_tree.specs.declared.tree.TSource.TheFolds.{fold-TStream, fold-TSource, fold-TStage, fold-TStageNode}
use Rattle.pipe_tree.specs.declared.tree.TStage.{TStage}
use Rattle.pipe_tree.specs.declared.tree.TStageNode.{TStageNode}
use Rattle.pipe_tree.specs.declared.tree.TTerminal.{TTerminal}
use Rattle.pipe_tree.specs.declared.tree.TTerminal.TheVariants as terminal
use Rattle.pipe_tree.specs.declared.tree.Decl.{Decl}
use Rattle.pipe_tree.specs.declared.tree.Tree.{Tree}
use Rattle.pipe_tree.specs.Trees as t
use Rattle.pipe_tree.specs.Trees.{Formula, Label, Row, Pattern, Stream, Source, Stage, Stages, Terminal, Declaration, Text}

abbrev pub label_of : Name → Label
label_of n = record { at = n.at; text = n.text }

abbrev pub formula_at : ℕ → TNode → Formula
formula_at at (node.Num w) = t.Num at w
formula_at at (node.Truth b) = t.Truth at b
formula_at at (node.Name n) = t.Name at n
formula_at at (node.Len n) = t.Len at n.at n.text
formula_at at (node.Neg' p i a) = t.Neg at (formula_at i a)
formula_at at (node.Not' p i a) = t.Not at (formula_at i a)
formula_at at (node.Paren' p i a) = t.Paren at (formula_at i a)
formula_at at (node.Bin' o q p i a r j b) = t.Bin at o q (formula_at i a) (formula_at j b)
formula_at at (node.And' q p i a r j b) = t.And at q (formula_at i a) (formula_at j b)
formula_at at (node.Or' q p i a r j b) = t.Or at q (formula_at i a) (formula_at j b)
formula_at at (node.If' p i c q j a r k b) = t.If at (formula_at i c) (formula_at j a) (formula_at k b)

abbrev pub formula_of : TExpr → Formula
formula_of e = formula_at e.at e.node

abbrev pub row_of : TRow → Row
row_of r = record { at = r.at; braces = r.braces; parts = map formula_of r.parts }

abbrev pub pattern_of : TPat → Pattern
pattern_of p = record { at = p.at; braces = p.braces; names = map label_of p.names }

-- the copy of the value in a box
abbrev pub boxed_copy : {A B : Type 0} → (A → B) → Box A Global → B
boxed_copy copy b = copy b.value

-- the stages of a list
abbrev pub stages_of_list : List Stage → Stages
stages_of_list [] = t.Nil
stages_of_list (s ∷ ss) = t.Cons s (stages_of_list ss)

-- sources, stages and streams whose parts are plain already; what a stage is awaits its offset
abbrev pub source_step : TSource-F Source (ℕ → Stage) Stage Stream → Source
source_step (TSource-F.Array n) = t.Array (label_of n)
source_step (TSource-F.Range a b) = t.Range (formula_of a) (formula_of b)
source_step (TSource-F.Unfold s p g i n) = t.Unfold (row_of s) (pattern_of p) (formula_of g) (row_of i) (row_of n)
source_step (TSource-F.Zip a b) = t.Zip a.value b.value

abbrev pub stage_node_step : TStageNode-F Source (ℕ → Stage) Stage Stream → ℕ → Stage
stage_node_step (TStageNode-F.Map p r) at = t.Map at (pattern_of p) (row_of r)
stage_node_step (TStageNode-F.Filter p e) at = t.Filter at (pattern_of p) (formula_of e)
stage_node_step (TStageNode-F.Take e) at = t.Take at (formula_of e)
stage_node_step (TStageNode-F.Drop e) at = t.Drop at (formula_of e)
stage_node_step (TStageNode-F.TakeWhile p e) at = t.TakeWhile at (pattern_of p) (formula_of e)
stage_node_step (TStageNode-F.Scan s q p n) at = t.Scan at (row_of s) (pattern_of q) (pattern_of p) (row_of n)
stage_node_step (TStageNode-F.FlatMap p s) at = t.FlatMap at (pattern_of p) s.value

abbrev pub stage_step : TStage-F Source (ℕ → Stage) Stage Stream → Stage
stage_step s = s.node s.at

abbrev pub stream_step : TStream-F Source (ℕ → Stage) Stage Stream → Stream
stream_step s = t.From s.at s.source (stages_of_list s.stages)

abbrev pub stream_of : TStream → Stream
stream_of = fold-TStream Source (ℕ → Stage) Stage Stream source_step stage_node_step stage_step stream_step

abbrev pub source_of : TSource → Source
source_of = fold-TSource Source (ℕ → Stage) Stage Stream source_step stage_node_step stage_step stream_step

abbrev pub stage_of : TStage → Stage
stage_of = fold-TStage Source (ℕ → Stage) Stage Stream source_step stage_node_step stage_step stream_step

-- what a stage is, at its offset
abbrev pub stage_at : ℕ → TStageNode → Stage
stage_at at node = fold-TStageNode Source (ℕ → Stage) Stage Stream source_step stage_node_step stage_step stream_step node at

abbrev pub stages_of : List TStage → Stages
stages_of ss = stages_of_list (map stage_of ss)

abbrev pub terminal_of : TTerminal → Terminal
terminal_of (terminal.Fold s q p n) = t.Fold (row_of s) (pattern_of q) (pattern_of p) (row_of n)
terminal_of terminal.Print = t.Print

abbrev pub declaration_of : Decl → Declaration
declaration_of d = record { at = d.at; name = label_of d.name; kind = d.kind }

abbrev pub text_of : Tree → Text
text_of x = record { inputs = map declaration_of x.inputs; stream = stream_of x.stream; terminal_at = x.terminal_at; terminal = terminal_of x.terminal }
