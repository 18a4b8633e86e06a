-- The limits of a tree: the depth of its expressions, the nesting of its streams, and its counts. What
-- is counted is listed with its offsets, in the order of the text.
use Rattle.std.specs.Prelude.{ℕ, ◌+◌, ◌≤◌, List, [], ◌∷◌, ◌++◌, flat_map, length, map, max}
use Rattle.pipe_tree.specs.Trees.{Formula, Num, Truth, Name, Len, Neg, Not, Paren, Bin, And, Or, If, Stream, From, Source, Array, Range, Unfold, Zip, Stage, Map, Filter, TakeWhile, Take, Drop, Scan, FlatMap, Stages, Nil, Cons, Terminal, Fold, Print, Declaration, Text}
use Rattle.pipe_limits.specs.declared.TheConstants.{MOST_DEPTH, MOST_NESTING, MOST_INPUTS, MOST_OPERATORS, MOST_NODES}

abbrev pub depth_of : Formula → ℕ
depth_of (Num at w) = 1
depth_of (Truth at b) = 1
depth_of (Name at n) = 1
depth_of (Len at q n) = 1
depth_of (Neg at a) = depth_of a + 1
depth_of (Not at a) = depth_of a + 1
depth_of (Paren at a) = depth_of a + 1
depth_of (Bin at op q a b) = max (depth_of a) (depth_of b) + 1
depth_of (And at q a b) = max (depth_of a) (depth_of b) + 1
depth_of (Or at q a b) = max (depth_of a) (depth_of b) + 1
depth_of (If at c a b) = max (depth_of c) (max (depth_of a) (depth_of b)) + 1

abbrev pub row_depth : List Formula → ℕ
row_depth [] = 0
row_depth (e ∷ es) = max (depth_of e) (row_depth es)

-- the offsets of the nodes of an expression, parentheses too: an operator between two operands stands
-- behind the left one
abbrev pub node_offsets : Formula → List ℕ
node_offsets (Num at w) = at ∷ []
node_offsets (Truth at b) = at ∷ []
node_offsets (Name at n) = at ∷ []
node_offsets (Len at q n) = at ∷ []
node_offsets (Neg at a) = at ∷ node_offsets a
node_offsets (Not at a) = at ∷ node_offsets a
node_offsets (Paren at a) = at ∷ node_offsets a
node_offsets (Bin at op q a b) = node_offsets a ++ q ∷ node_offsets b
node_offsets (And at q a b) = node_offsets a ++ q ∷ node_offsets b
node_offsets (Or at q a b) = node_offsets a ++ q ∷ node_offsets b
node_offsets (If at c a b) = at ∷ node_offsets c ++ node_offsets a ++ node_offsets b

abbrev pub row_node_offsets : List Formula → List ℕ
row_node_offsets = flat_map node_offsets

-- what a stream's expressions have, put together in the order of the text
module _ {A : Type 0} (none : A) (of_formula : Formula → A) (of_row : List Formula → A) (put : A → A → A) where
  abbrev mutual
    pub of_stream : Stream → A
    of_stream (From at source stages) = put (of_source source) (of_stages stages)

    pub of_source : Source → A
    of_source (Array n) = none
    of_source (Range a b) = put (of_formula a) (of_formula b)
    of_source (Unfold seed pat guard item next) = put (of_row seed.parts) (put (of_formula guard) (put (of_row item.parts) (of_row next.parts)))
    of_source (Zip a b) = put (of_stream a) (of_stream b)

    pub of_stages : Stages → A
    of_stages Nil = none
    of_stages (Cons s ss) = put (of_stage s) (of_stages ss)

    pub of_stage : Stage → A
    of_stage (Map at p body) = of_row body.parts
    of_stage (Filter at p e) = of_formula e
    of_stage (TakeWhile at p e) = of_formula e
    of_stage (Take at e) = of_formula e
    of_stage (Drop at e) = of_formula e
    of_stage (Scan at seed state pat next) = put (of_row seed.parts) (of_row next.parts)
    of_stage (FlatMap at p s) = of_stream s

  abbrev pub of_terminal : Terminal → A
  of_terminal (Fold seed state pat next) = put (of_row seed.parts) (of_row next.parts)
  of_terminal Print = none

-- the greatest depth of an expression
abbrev pub stream_depth : Stream → ℕ
stream_depth = of_stream 0 depth_of row_depth max

abbrev pub stages_depth : Stages → ℕ
stages_depth = of_stages 0 depth_of row_depth max

abbrev pub terminal_depth : Terminal → ℕ
terminal_depth = of_terminal 0 depth_of row_depth max

abbrev pub text_depth : Text → ℕ
text_depth t = max (stream_depth t.stream) (terminal_depth t.terminal)

-- the offsets of all nodes
abbrev pub stream_node_offsets : Stream → List ℕ
stream_node_offsets = of_stream [] node_offsets row_node_offsets ◌++◌

abbrev pub terminal_node_offsets : Terminal → List ℕ
terminal_node_offsets = of_terminal [] node_offsets row_node_offsets ◌++◌

abbrev pub text_node_offsets : Text → List ℕ
text_node_offsets t = stream_node_offsets t.stream ++ terminal_node_offsets t.terminal

abbrev mutual
  -- the offsets of sources and stages
  pub stream_ops : Stream → List ℕ
  stream_ops (From at source stages) = at ∷ source_ops source ++ stages_ops stages

  pub source_ops : Source → List ℕ
  source_ops (Array n) = []
  source_ops (Range a b) = []
  source_ops (Unfold seed pat guard item next) = []
  source_ops (Zip a b) = stream_ops a ++ stream_ops b

  pub stages_ops : Stages → List ℕ
  stages_ops Nil = []
  stages_ops (Cons s ss) = stage_ops s ++ stages_ops ss

  pub stage_ops : Stage → List ℕ
  stage_ops (Map at p body) = at ∷ []
  stage_ops (Filter at p e) = at ∷ []
  stage_ops (TakeWhile at p e) = at ∷ []
  stage_ops (Take at e) = at ∷ []
  stage_ops (Drop at e) = at ∷ []
  stage_ops (Scan at seed state pat next) = at ∷ []
  stage_ops (FlatMap at p s) = at ∷ stream_ops s

-- the offsets of all operators: sources, stages and the terminal
abbrev pub text_op_offsets : Text → List ℕ
text_op_offsets t = stream_ops t.stream ++ t.terminal_at ∷ []

-- the offsets of all declarations
abbrev pub text_input_offsets : Text → List ℕ
text_input_offsets t = map (λ (d : Declaration). d.at) t.inputs

abbrev mutual
  -- the whole stream has nesting 1, and what stands in a `zip` or a `flatMap` one more than it
  pub stream_nesting : Stream → ℕ
  stream_nesting (From at source stages) = max (source_nesting source) (stages_nesting stages)

  pub source_nesting : Source → ℕ
  source_nesting (Array n) = 1
  source_nesting (Range a b) = 1
  source_nesting (Unfold seed pat guard item next) = 1
  source_nesting (Zip a b) = max (stream_nesting a) (stream_nesting b) + 1

  pub stages_nesting : Stages → ℕ
  stages_nesting Nil = 1
  stages_nesting (Cons s ss) = max (stage_nesting s) (stages_nesting ss)

  pub stage_nesting : Stage → ℕ
  stage_nesting (FlatMap at p s) = stream_nesting s + 1
  stage_nesting (Map at p body) = 1
  stage_nesting (Filter at p e) = 1
  stage_nesting (TakeWhile at p e) = 1
  stage_nesting (Take at e) = 1
  stage_nesting (Drop at e) = 1
  stage_nesting (Scan at seed state pat next) = 1

-- the depths are within the limits
pub record IsWithinDepths (t : Text) : Type 0 where
  pub depth : text_depth t ≤ MOST_DEPTH
  pub nesting : stream_nesting t.stream ≤ MOST_NESTING

-- the depths and the three counts are within the limits
pub record IsBounded (t : Text) : Type 0 where
  pub within : IsWithinDepths t
  pub inputs : length (text_input_offsets t) ≤ MOST_INPUTS
  pub ops : length (text_op_offsets t) ≤ MOST_OPERATORS
  pub nodes : length (text_node_offsets t) ≤ MOST_NODES
