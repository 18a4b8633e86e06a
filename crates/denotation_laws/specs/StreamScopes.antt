-- What the expressions of a stream may read, each over the bound words of its scope.
use Rattle.std.specs.Prelude.{◌≡◌, ℕ, ◌+◌, ◌≤◌, List, length, IsTrue}
use Rattle.pipe_limits.specs.declared.TheConstants.{MOST_COMPONENTS}
use Rattle.list_denotation.specs.Terms.{Term, Pipe, Array, Range, Unfold, Map, Filter, Take, Drop, TakeWhile, Scan, FlatMap, Zip, Finish, Fold, Print}
use Rattle.list_denotation.specs.InputNames.{InputNames, names_inputs, all_name_inputs}
use Rattle.list_denotation.specs.Literals.{has_words, all_have_words}
use Rattle.list_denotation.specs.Scopes.{is_bound, all_bound}
use Rattle.list_denotation.specs.Typing.{is_undivided, all_undivided}
use Rattle.denotation_laws.specs.Widths.{stream_width}

-- ---- expressions

-- an expression reads the first n bound words alone, names inputs as they may be named, and its numbers are words
pub record ReadsScope (may : InputNames) (n : ℕ) (e : Term) : Type 0 where
  pub bound : IsTrue (is_bound n e)
  pub names : IsTrue (names_inputs may e)
  pub words : IsTrue (has_words e)

-- the same of a row, of 1 to 8 expressions
pub record RowReadsScope (may : InputNames) (n : ℕ) (es : List Term) : Type 0 where
  pub bound : IsTrue (all_bound n es)
  pub names : IsTrue (all_name_inputs may es)
  pub words : IsTrue (all_have_words es)
  pub not_empty : 1 ≤ length es
  pub few : length es ≤ MOST_COMPONENTS

-- an opening expression has no division
pub record IsOpening (may : InputNames) (n : ℕ) (e : Term) : Type 0 where
  pub reads : ReadsScope may n e
  pub undivided : IsTrue (is_undivided e)

pub record IsSeed (may : InputNames) (n : ℕ) (es : List Term) : Type 0 where
  pub reads : RowReadsScope may n es
  pub undivided : IsTrue (all_undivided es)

-- ---- streams

-- the seed of a state, and the next state over the state and a row of this width
pub record StateReadsScope (may : InputNames) (n width : ℕ) (seed next : List Term) : Type 0 where
  pub seed_reads : IsSeed may n seed
  pub next_reads : RowReadsScope may (n + length seed + width) next
  pub same_width : length next ≡ length seed

pub record UnfoldReadsScope (may : InputNames) (n : ℕ) (seed : List Term) (guard : Term) (item next : List Term) : Type 0 where
  pub seed_reads : IsSeed may n seed
  pub guard_reads : IsOpening may (n + length seed) guard
  pub item_reads : RowReadsScope may (n + length seed) item
  pub next_reads : RowReadsScope may (n + length seed) next
  pub same_width : length next ≡ length seed

-- each expression of the stream reads the n bound words of the stream's scope and those that its form binds, and the rows of a
-- `zip` aren't too wide
abbrev pub StreamReadsScope : InputNames → ℕ → Pipe → Type 0
StreamReadsScope may n (Array k) = IsTrue (may.array k)
StreamReadsScope may n (Range a b) = IsOpening may n a × IsOpening may n b
StreamReadsScope may n (Unfold seed guard item next) = UnfoldReadsScope may n seed guard item next
StreamReadsScope may n (Map of body) = StreamReadsScope may n of × RowReadsScope may (n + stream_width of) body
StreamReadsScope may n (Filter of e) = StreamReadsScope may n of × ReadsScope may (n + stream_width of) e
StreamReadsScope may n (Take of e) = StreamReadsScope may n of × IsOpening may n e
StreamReadsScope may n (Drop of e) = StreamReadsScope may n of × IsOpening may n e
StreamReadsScope may n (TakeWhile of e) = StreamReadsScope may n of × ReadsScope may (n + stream_width of) e
StreamReadsScope may n (Scan of seed next) = StreamReadsScope may n of × StateReadsScope may n (stream_width of) seed next
StreamReadsScope may n (FlatMap of inner) = StreamReadsScope may n of × StreamReadsScope may (n + stream_width of) inner
StreamReadsScope may n (Zip left right) =
    StreamReadsScope may n left × StreamReadsScope may n right × (stream_width left + stream_width right ≤ MOST_COMPONENTS)

-- the same of a terminal over rows of this width
abbrev pub FinishReadsScope : InputNames → ℕ → Finish → Type 0
FinishReadsScope may width (Fold seed next) = StateReadsScope may 0 width seed next
FinishReadsScope may width Print = Unit {0}
