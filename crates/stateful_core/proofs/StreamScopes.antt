-- What a stream reads of its scope, over rows as wide as those of its core.
use Rattle.std.proofs.Common.{◌≡◌, ℕ, ◌+◌, ◌≤◌, List, refl, sym, subst, arith}
use Rattle.std.specs.Prelude.{IsTrue}
use Rattle.pipe_limits.specs.declared.TheConstants.{MOST_COMPONENTS}
use Rattle.strm_num.proofs.Truths.{true_both}
use Rattle.list_denotation.specs.InputNames.{InputNames}
use Rattle.list_denotation.specs.Scopes.{is_bound, all_bound}
use Rattle.list_denotation.specs.Terms.{Term, Pipe, Array, Range, Unfold, Map, Filter, Take, Drop, TakeWhile, Scan, FlatMap, Zip}
use Rattle.list_denotation.specs.Typing.{is_undivided, all_undivided}
use Rattle.denotation_laws.specs.StreamScopes.{IsOpening, IsSeed, StreamReadsScope}
use Rattle.denotation_laws.specs.Widths as rows
use Rattle.stateful_core.specs.StreamCores.{stream_width}
use Rattle.stateful_core.specs.WellFormed.{is_sure, all_sure}

module _ (may : InputNames) where
  -- an opening expression is sure
  pub sure_opening : (n : ℕ) (e : Term) → IsOpening may n e → IsTrue (is_sure n e)
  sure_opening n e h = true_both (is_bound n e) (is_undivided e) h.reads.bound h.undivided

  pub sure_seed : (n : ℕ) (es : List Term) → IsSeed may n es → IsTrue (all_sure n es)
  sure_seed n es h = true_both (all_bound n es) (all_undivided es) h.reads.bound h.undivided

  -- a state keeps its width, so that the rows of a scan are as wide as its first state
  pub same_width : (p : Pipe) (n : ℕ) → StreamReadsScope may n p → rows.stream_width p ≡ stream_width p
  same_width (Array k) n s = refl
  same_width (Range a b) n s = refl
  same_width (Unfold seed guard item next) n s = refl
  same_width (Map of body) n s = refl
  same_width (Filter of body) n s = same_width of n s.0
  same_width (Take of count) n s = same_width of n s.0
  same_width (Drop of count) n s = same_width of n s.0
  same_width (TakeWhile of body) n s = same_width of n s.0
  same_width (Scan of seed next) n s = s.1.same_width
  same_width (FlatMap of inner) n s = same_width inner (n + rows.stream_width of) s.1
  same_width (Zip left right) n s = omega (arith, same_width left n s.0, same_width right n s.1)

  -- what is said of the width of a stream's rows is said of that of its core
  pub over_rows : (P : ℕ → Type 0) (of : Pipe) (n : ℕ) → StreamReadsScope may n of → P (rows.stream_width of) → P (stream_width of)
  over_rows P of n s h = subst P (same_width of n s) h

  pub narrow : (p : Pipe) (n : ℕ) → StreamReadsScope may n p → stream_width p ≤ MOST_COMPONENTS
  narrow (Array k) n s = omega arith
  narrow (Range a b) n s = omega arith
  narrow (Unfold seed guard item next) n s = s.item_reads.few
  narrow (Map of body) n s = s.1.few
  narrow (Filter of body) n s = narrow of n s.0
  narrow (Take of count) n s = narrow of n s.0
  narrow (Drop of count) n s = narrow of n s.0
  narrow (TakeWhile of body) n s = narrow of n s.0
  narrow (Scan of seed next) n s = s.1.seed_reads.reads.few
  narrow (FlatMap of inner) n s = narrow inner (n + rows.stream_width of) s.1
  narrow (Zip left right) n s = omega (arith, same_width left n s.0, same_width right n s.1, s.2)

-- the inner stream of a `flatMap` stands in the scope of a row of the outer one's core
pub inner_scope : (may : InputNames) (p of inner : Pipe) (n w : ℕ) → StreamReadsScope may n p → p ≡ FlatMap of inner → w ≡ stream_width of → StreamReadsScope may (n + w) inner
inner_scope may p of inner n w s shape e =
    let both = subst (StreamReadsScope may n) shape s in
    subst (λ k. StreamReadsScope may (n + k) inner) (sym e) (over_rows may (λ k. StreamReadsScope may (n + k) inner) of n both.0 both.1)

pub ruleset scope_steps = (narrow, inner_scope)
