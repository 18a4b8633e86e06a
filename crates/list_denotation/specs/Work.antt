-- How much a pipeline pulls: the rows of each source that is opened, and 1 for each opening.
use Rattle.std.specs.Prelude.{ℕ, ◌+◌, List, [], ◌++◌}
use Rattle.list_denotation.specs.declared.input.Input.{Input}
use Rattle.list_denotation.specs.Terms.{Pipe, Array, Range, Unfold, Map, Filter, Take, Drop, TakeWhile, Scan, FlatMap, Zip, Pipeline}
use Rattle.list_denotation.specs.Rows.{Rows, Ends, Row, End, Cut, Broken}
use Rattle.list_denotation.specs.Denotation.{denotation}

abbrev pub row_count : Rows → ℕ
row_count (Ends e) = 0
row_count (Row r rest) = row_count rest + 1

-- this value after a list that comes to its end, and another after any other list
abbrev pub after_end : {A : Type 0} → Rows → A → A → A
after_end (Ends End) rest none = rest
after_end (Ends Cut) rest none = none
after_end (Ends (Broken f)) rest none = none
after_end (Row r rows) rest none = after_end rows rest none

-- the sum of what each opening of an inner stream adds: one for each outer row, up to and with the first whose inner list is
-- cut off or broken
abbrev pub sum_over : {A : Type 0} → Rows → (List ℕ → Rows) → (List ℕ → A) → (A → A → A) → A → A
sum_over (Ends e) inner part add none = none
sum_over (Row r rest) inner part add none = add (part r) (after_end (inner r) (sum_over rest inner part add none) none)

abbrev pub stream_work : Pipe → List ℕ → List Input → ℕ → ℕ
stream_work (Array k) env inputs n = row_count (denotation (Array k) env inputs n) + 1
stream_work (Range a b) env inputs n = row_count (denotation (Range a b) env inputs n) + 1
stream_work (Unfold seed guard item next) env inputs n = row_count (denotation (Unfold seed guard item next) env inputs n) + 1
stream_work (Map of body) env inputs n = stream_work of env inputs n
stream_work (Filter of e) env inputs n = stream_work of env inputs n
stream_work (Take of e) env inputs n = stream_work of env inputs n
stream_work (Drop of e) env inputs n = stream_work of env inputs n
stream_work (TakeWhile of e) env inputs n = stream_work of env inputs n
stream_work (Scan of seed next) env inputs n = stream_work of env inputs n
stream_work (FlatMap of inner) env inputs n =
    stream_work of env inputs n
    + sum_over (denotation of env inputs n) (λ r. denotation inner (env ++ r) inputs n) (λ r. stream_work inner (env ++ r) inputs n) ◌+◌ 0
stream_work (Zip left right) env inputs n = stream_work left env inputs n + stream_work right env inputs n

-- the work of a pipeline at n pulls
abbrev pub work : Pipeline → List Input → ℕ → ℕ
work p inputs n = stream_work p.stream [] inputs n
