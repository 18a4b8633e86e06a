-- The limits that a program keeps, and sums and maxima over a row.
use Rattle.std.proofs.Common.{◌≡◌, ℕ, ◌+◌, ◌≤◌, List, length, drop, Some, true, false, sym, ap, subst, ◌∙◌, arith}
use Rattle.std.specs.Prelude.{IsTrue, slice_get, nat_le, if◌then◌else◌}
use Rattle.std.proofs.lemmas.Bool.{leb-true}
use Rattle.std.proofs.lemmas.List.{drop_all}
use Rattle.strm_num.proofs.Lists.{drop_at}
use Rattle.strm_num.proofs.Truths.{both_true}
use Rattle.list_denotation.specs.declared.counts.Measure.{Measure}
use Rattle.list_denotation.specs.declared.counts.Measure.TheVariants.{Nodes, Depth}
use Rattle.list_denotation.specs.declared.expr.Expr.{Expr}
use Rattle.list_denotation.specs.declared.input.InputKind.{InputKind}
use Rattle.list_denotation.specs.declared.stream.Stream.{Stream}
use Rattle.list_denotation.specs.declared.terminal.Terminal.{Terminal}
use Rattle.list_denotation.specs.Terms.{Pipe, Array, Range, Unfold, Map, Filter, Take, Drop, TakeWhile, Scan, FlatMap, Zip, Finish}
use Rattle.list_denotation.specs.Copies.{term_of, terms_of, pipe_of, finish_of}
use Rattle.list_denotation.specs.Counts.{joint_count, term_measure, row_measure, stream_ops, stream_nodes, stream_depth, stream_nesting, finish_nodes, finish_depth, is_exact, arm_loop, stream_loops, loops_around, stream_nest}
use Rattle.list_denotation.specs.Limits.{IsWithinLimits}
use Rattle.list_denotation.specs.Typing.{program_kinds, has_kinds, is_within_limits, is_typed}

-- ---- what a typed program keeps

limits_kept : (inputs : List InputKind) (s : Pipe) (t : Finish) → IsTrue (is_within_limits inputs s t) → IsWithinLimits inputs s t
limits_kept inputs s t h =
    let a = both_true (nat_le (length inputs) 16) _ h in
    let b = both_true (nat_le (stream_ops s + 1) 128) _ a.1 in
    let c = both_true (nat_le (stream_nodes s + finish_nodes t) 8192) _ b.1 in
    let d = both_true (nat_le (stream_depth s) 200) _ c.1 in
    let e = both_true (nat_le (finish_depth t) 200) (nat_le (stream_nesting s) 16) d.1 in
    record {
      few_inputs = leb-true (length inputs) 16 a.0;
      few_ops = leb-true (stream_ops s + 1) 128 b.0;
      few_nodes = leb-true (stream_nodes s + finish_nodes t) 8192 c.0;
      small_stream_depth = leb-true (stream_depth s) 200 d.0;
      small_finish_depth = leb-true (finish_depth t) 200 e.0;
      small_nesting = leb-true (stream_nesting s) 16 e.1;
    }

pub kept : (inputs : List InputKind) (s : Stream) (t : Terminal) → IsTrue (is_typed inputs s t) → IsWithinLimits inputs (pipe_of s) (finish_of t)
kept inputs s t h = limits_kept inputs (pipe_of s) (finish_of t) (both_true (has_kinds (program_kinds inputs (pipe_of s) (finish_of t))) (is_within_limits inputs (pipe_of s) (finish_of t)) h).1

pub is_kinded : (inputs : List InputKind) (s : Stream) (t : Terminal) → IsTrue (is_typed inputs s t) → IsTrue (has_kinds (program_kinds inputs (pipe_of s) (finish_of t)))
is_kinded inputs s t h = (both_true (has_kinds (program_kinds inputs (pipe_of s) (finish_of t))) (is_within_limits inputs (pipe_of s) (finish_of t)) h).0

-- ---- loops are no more than sources and stages

arm_within : (s : Pipe) → arm_loop s ≤ 1
arm_within s = elim (is_exact s) as (λ b. (if b then 0 else 1) ≤ 1) [ true ↦ omega arith | false ↦ omega arith ]

pub around_within : (s : Pipe) → loops_around s ≤ stream_loops s
around_within (Array k) = omega arith
around_within (Range a b) = omega arith
around_within (Unfold seed guard item next) = omega arith
around_within (Map of body) = around_within of
around_within (Filter of e) = around_within of
around_within (Take of e) = around_within of
around_within (Drop of e) = around_within of
around_within (TakeWhile of e) = around_within of
around_within (Scan of seed next) = around_within of
around_within (FlatMap of inner) = omega (arith, around_within of, around_within inner)
around_within (Zip left right) = omega (arith, around_within left)

pub nest_within : (s : Pipe) → stream_nest s ≤ stream_loops s
nest_within (Array k) = omega arith
nest_within (Range a b) = omega arith
nest_within (Unfold seed guard item next) = omega arith
nest_within (Map of body) = nest_within of
nest_within (Filter of e) = nest_within of
nest_within (Take of e) = nest_within of
nest_within (Drop of e) = nest_within of
nest_within (TakeWhile of e) = nest_within of
nest_within (Scan of seed next) = nest_within of
nest_within (FlatMap of inner) = omega (arith, nest_within of, nest_within inner, around_within of)
nest_within (Zip left right) = omega (arith, nest_within left, around_within left)

pub loops_within : (s : Pipe) → stream_loops s ≤ stream_ops s
loops_within (Array k) = omega arith
loops_within (Range a b) = omega arith
loops_within (Unfold seed guard item next) = omega arith
loops_within (Map of body) = omega (arith, loops_within of)
loops_within (Filter of e) = omega (arith, loops_within of)
loops_within (Take of e) = omega (arith, loops_within of)
loops_within (Drop of e) = omega (arith, loops_within of)
loops_within (TakeWhile of e) = omega (arith, loops_within of)
loops_within (Scan of seed next) = omega (arith, loops_within of)
loops_within (FlatMap of inner) = omega (arith, loops_within of, loops_within inner)
loops_within (Zip left right) = omega (arith, loops_within left, arm_within right)

pub few_ops : (inputs : List InputKind) (s : Stream) (t : Terminal) → IsTrue (is_typed inputs s t) → stream_ops (pipe_of s) + 1 ≤ 128
few_ops inputs s t h = (kept inputs s t h).few_ops

pub few_nodes : (inputs : List InputKind) (s : Stream) (t : Terminal) → IsTrue (is_typed inputs s t) → stream_nodes (pipe_of s) + finish_nodes (finish_of t) ≤ 8192
few_nodes inputs s t h = (kept inputs s t h).few_nodes

pub small_stream_depth : (inputs : List InputKind) (s : Stream) (t : Terminal) → IsTrue (is_typed inputs s t) → stream_depth (pipe_of s) ≤ 200
small_stream_depth inputs s t h = (kept inputs s t h).small_stream_depth

pub small_finish_depth : (inputs : List InputKind) (s : Stream) (t : Terminal) → IsTrue (is_typed inputs s t) → finish_depth (finish_of t) ≤ 200
small_finish_depth inputs s t h = (kept inputs s t h).small_finish_depth

pub ruleset limits = (few_ops, few_nodes, small_stream_depth, small_finish_depth)

pub few_loops : (inputs : List InputKind) (s : Stream) (t : Terminal) → IsTrue (is_typed inputs s t) → stream_loops (pipe_of s) ≤ 127
few_loops inputs s t h = omega (arith, few_ops inputs s t h, loops_within (pipe_of s))

pub few_nested : (inputs : List InputKind) (s : Stream) (t : Terminal) → IsTrue (is_typed inputs s t) → stream_nest (pipe_of s) ≤ 127
few_nested inputs s t h = omega (arith, few_loops inputs s t h, nest_within (pipe_of s))

pub ruleset loop_limits = (few_loops, few_nested)

-- ---- what is counted part by part

pub joint_first : (what : Measure) (m n : ℕ) → m ≤ joint_count what m n
joint_first Nodes m n = omega arith
joint_first Depth m n = omega arith

pub joint_second : (what : Measure) (m n : ℕ) → n ≤ joint_count what m n
joint_second Nodes m n = omega arith
joint_second Depth m n = omega arith

pub ruleset joint_steps = (joint_first, joint_second)

joint_assoc : (what : Measure) (l m n : ℕ) → joint_count what (joint_count what l m) n ≡ joint_count what l (joint_count what m n)
joint_assoc Nodes l m n = omega arith
joint_assoc Depth l m n = omega arith

pub joint_start : (what : Measure) (n : ℕ) → joint_count what 0 n ≡ n
joint_start Nodes n = omega arith
joint_start Depth n = omega arith

joint_none : (what : Measure) (n : ℕ) → joint_count what n 0 ≡ n
joint_none Nodes n = omega arith
joint_none Depth n = omega arith

module _ (what : Measure) where
  row_at : (row : List Expr) (i : ℕ) (e : Expr) → slice_get row i ≡ Some e → row_measure what (terms_of (drop i row)) ≡ joint_count what (term_measure what (term_of e)) (row_measure what (terms_of (drop (i + 1) row)))
  row_at row i e h = ap (λ l. row_measure what (terms_of l)) (drop_at row i e h)

  -- one more expression, and those behind it
  pub row_step : (row : List Expr) (i : ℕ) (e : Expr) (n : ℕ) → slice_get row i ≡ Some e → joint_count what (joint_count what n (term_measure what (term_of e))) (row_measure what (terms_of (drop (i + 1) row))) ≡ joint_count what n (row_measure what (terms_of (drop i row)))
  row_step row i e n h = joint_assoc what n (term_measure what (term_of e)) _ ∙ ap (joint_count what n) (sym (row_at row i e h))

  -- it counts no more than all of them
  pub row_within : (row : List Expr) (i : ℕ) (e : Expr) (n : ℕ) → slice_get row i ≡ Some e → joint_count what n (term_measure what (term_of e)) ≤ joint_count what n (row_measure what (terms_of (drop i row)))
  row_within row i e n h =
      subst (λ m. joint_count what n (term_measure what (term_of e)) ≤ m) (row_step row i e n h)
      (joint_first what (joint_count what n (term_measure what (term_of e))) (row_measure what (terms_of (drop (i + 1) row))))

  -- so it is within what all are within
  pub row_part : (row : List Expr) (i : ℕ) (e : Expr) (n all : ℕ) → slice_get row i ≡ Some e → joint_count what n (row_measure what (terms_of (drop i row))) ≡ all → all ≤ 8192 → term_measure what (term_of e) ≤ 8192
  row_part row i e n all h is le =
      omega (arith, joint_second what n (term_measure what (term_of e)), row_within row i e n h, is, le)

  pub row_end : (row : List Expr) (i n : ℕ) → length row ≤ i → joint_count what n (row_measure what (terms_of (drop i row))) ≡ n
  row_end row i n h = ap (λ l. joint_count what n (row_measure what (terms_of l))) (drop_all i row h) ∙ joint_none what n

pub ruleset row_steps = (joint_second, joint_start, row_step, row_within, row_end)
