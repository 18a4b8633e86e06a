-- The counts of a pipeline.
use Rattle.std.specs.Prelude.{ℕ, ◌+◌, ◌*◌, List, [], ◌∷◌, Bool, true, false, ◌&&◌, if◌then◌else◌, max}
use Rattle.list_denotation.specs.declared.counts.Measure.{Measure}
use Rattle.list_denotation.specs.declared.counts.Measure.TheVariants.{Nodes, Depth}
use Rattle.list_denotation.specs.Terms.{Term, Lit, Truth, Var, Param, Len, Neg, Not, Bin, And, Or, If, Pipe, Array, Range, Unfold, Map, Filter, Take, Drop, TakeWhile, Scan, FlatMap, Zip, Finish, Fold, Print, Pipeline}

-- what is counted of two parts: the nodes are added, and the greater depth counts
abbrev pub joint_count : Measure → ℕ → ℕ → ℕ
joint_count Nodes m n = m + n
joint_count Depth m n = max m n

-- a leaf counts 1, and any other expression 1 more than its parts
module _ (what : Measure) where
  abbrev pub term_measure : Term → ℕ
  term_measure (Lit w) = 1
  term_measure (Truth b) = 1
  term_measure (Var k) = 1
  term_measure (Param k) = 1
  term_measure (Len k) = 1
  term_measure (Neg a) = term_measure a + 1
  term_measure (Not a) = term_measure a + 1
  term_measure (Bin op a b) = joint_count what (term_measure a) (term_measure b) + 1
  term_measure (And a b) = joint_count what (term_measure a) (term_measure b) + 1
  term_measure (Or a b) = joint_count what (term_measure a) (term_measure b) + 1
  term_measure (If c a b) = joint_count what (term_measure c) (joint_count what (term_measure a) (term_measure b)) + 1

  abbrev pub row_measure : List Term → ℕ
  row_measure [] = 0
  row_measure (e ∷ es) = joint_count what (term_measure e) (row_measure es)

  abbrev pub stream_measure : Pipe → ℕ
  stream_measure (Array k) = 0
  stream_measure (Range a b) = joint_count what (term_measure a) (term_measure b)
  stream_measure (Unfold seed guard item next) =
      joint_count what (row_measure seed) (joint_count what (term_measure guard) (joint_count what (row_measure item) (row_measure next)))
  stream_measure (Map of body) = joint_count what (stream_measure of) (row_measure body)
  stream_measure (Filter of e) = joint_count what (stream_measure of) (term_measure e)
  stream_measure (Take of e) = joint_count what (stream_measure of) (term_measure e)
  stream_measure (Drop of e) = joint_count what (stream_measure of) (term_measure e)
  stream_measure (TakeWhile of e) = joint_count what (stream_measure of) (term_measure e)
  stream_measure (Scan of seed next) = joint_count what (stream_measure of) (joint_count what (row_measure seed) (row_measure next))
  stream_measure (FlatMap of inner) = joint_count what (stream_measure of) (stream_measure inner)
  stream_measure (Zip left right) = joint_count what (stream_measure left) (stream_measure right)

  abbrev pub finish_measure : Finish → ℕ
  finish_measure (Fold seed next) = joint_count what (row_measure seed) (row_measure next)
  finish_measure Print = 0

abbrev pub term_nodes : Term → ℕ
term_nodes = term_measure Nodes

abbrev pub term_depth : Term → ℕ
term_depth = term_measure Depth

abbrev pub row_nodes : List Term → ℕ
row_nodes = row_measure Nodes

abbrev pub row_depth : List Term → ℕ
row_depth = row_measure Depth

abbrev pub stream_nodes : Pipe → ℕ
stream_nodes = stream_measure Nodes

abbrev pub stream_depth : Pipe → ℕ
stream_depth = stream_measure Depth

abbrev pub finish_nodes : Finish → ℕ
finish_nodes = finish_measure Nodes

abbrev pub finish_depth : Finish → ℕ
finish_depth = finish_measure Depth

-- sources and stages
abbrev pub stream_ops : Pipe → ℕ
stream_ops (Array k) = 1
stream_ops (Range a b) = 1
stream_ops (Unfold seed guard item next) = 1
stream_ops (Map of body) = stream_ops of + 1
stream_ops (Filter of e) = stream_ops of + 1
stream_ops (Take of e) = stream_ops of + 1
stream_ops (Drop of e) = stream_ops of + 1
stream_ops (TakeWhile of e) = stream_ops of + 1
stream_ops (Scan of seed next) = stream_ops of + 1
stream_ops (FlatMap of inner) = stream_ops of + stream_ops inner + 1
stream_ops (Zip left right) = stream_ops left + stream_ops right + 1

-- the whole stream has nesting 1, an arm of a `zip` and the inner stream of a `flatMap` one more than it
abbrev pub stream_nesting : Pipe → ℕ
stream_nesting (Array k) = 1
stream_nesting (Range a b) = 1
stream_nesting (Unfold seed guard item next) = 1
stream_nesting (Map of body) = stream_nesting of
stream_nesting (Filter of e) = stream_nesting of
stream_nesting (Take of e) = stream_nesting of
stream_nesting (Drop of e) = stream_nesting of
stream_nesting (TakeWhile of e) = stream_nesting of
stream_nesting (Scan of seed next) = stream_nesting of
stream_nesting (FlatMap of inner) = max (stream_nesting of) (stream_nesting inner + 1)
stream_nesting (Zip left right) = max (stream_nesting left) (stream_nesting right) + 1

-- sources, stages and the terminal
abbrev pub ops : Pipeline → ℕ
ops p = stream_ops p.stream + 1

abbrev pub nodes : Pipeline → ℕ
nodes p = stream_nodes p.stream + finish_nodes p.terminal

abbrev pub depth : Pipeline → ℕ
depth p = max (stream_depth p.stream) (finish_depth p.terminal)

-- the most variables that the text of a pipeline has
abbrev pub most_vars : Pipeline → ℕ
most_vars p = 32 * ops p + 6 * depth p + 8

-- the most statements that the text of a pipeline has
abbrev pub most_stmts : Pipeline → ℕ
most_stmts p = 64 * ops p + 24 * nodes p + 16

-- each pull of the stream gives a row, or its end
abbrev pub is_exact : Pipe → Bool
is_exact (Array k) = true
is_exact (Range a b) = true
is_exact (Unfold seed guard item next) = true
is_exact (Map of body) = is_exact of
is_exact (Filter of e) = false
is_exact (Take of e) = is_exact of
is_exact (Drop of e) = false
is_exact (TakeWhile of e) = is_exact of
is_exact (Scan of seed next) = is_exact of
is_exact (FlatMap of inner) = false
is_exact (Zip left right) = is_exact left && is_exact right

-- the loop of a right arm that isn't exact
abbrev pub arm_loop : Pipe → ℕ
arm_loop right = if is_exact right then 0 else 1

-- the loops of a stream
abbrev pub stream_loops : Pipe → ℕ
stream_loops (Array k) = 1
stream_loops (Range a b) = 1
stream_loops (Unfold seed guard item next) = 1
stream_loops (Map of body) = stream_loops of
stream_loops (Filter of e) = stream_loops of
stream_loops (Take of e) = stream_loops of
stream_loops (Drop of e) = stream_loops of
stream_loops (TakeWhile of e) = stream_loops of
stream_loops (Scan of seed next) = stream_loops of
stream_loops (FlatMap of inner) = stream_loops of + stream_loops inner
stream_loops (Zip left right) = stream_loops left + arm_loop right

-- the loops that stand around a row of the stream
abbrev pub loops_around : Pipe → ℕ
loops_around (Array k) = 1
loops_around (Range a b) = 1
loops_around (Unfold seed guard item next) = 1
loops_around (Map of body) = loops_around of
loops_around (Filter of e) = loops_around of
loops_around (Take of e) = loops_around of
loops_around (Drop of e) = loops_around of
loops_around (TakeWhile of e) = loops_around of
loops_around (Scan of seed next) = loops_around of
loops_around (FlatMap of inner) = loops_around of + loops_around inner
loops_around (Zip left right) = loops_around left

-- the most loops inside one another
abbrev pub stream_nest : Pipe → ℕ
stream_nest (Array k) = 1
stream_nest (Range a b) = 1
stream_nest (Unfold seed guard item next) = 1
stream_nest (Map of body) = stream_nest of
stream_nest (Filter of e) = stream_nest of
stream_nest (Take of e) = stream_nest of
stream_nest (Drop of e) = stream_nest of
stream_nest (TakeWhile of e) = stream_nest of
stream_nest (Scan of seed next) = stream_nest of
stream_nest (FlatMap of inner) = max (stream_nest of) (loops_around of + stream_nest inner)
stream_nest (Zip left right) = max (stream_nest left) (loops_around left + arm_loop right)

abbrev pub loops_of : Pipeline → ℕ
loops_of p = stream_loops p.stream

abbrev pub nest_of : Pipeline → ℕ
nest_of p = stream_nest p.stream
