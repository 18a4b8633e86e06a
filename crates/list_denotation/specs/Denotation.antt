-- What a stream means: its rows at a bound, in the scope of the bound words.
use Rattle.std.specs.Prelude.{ℕ, zero, suc, List, [], ◌∷◌, ◌++◌, ℤ, pos, negsuc, ◌-ℤ◌, slice_get}
use Rattle.strm_num.specs.Words.{signed, sum_of}
use Rattle.list_denotation.specs.declared.input.Input.{Input}
use Rattle.list_denotation.specs.Terms.{Pipe, Array, Range, Unfold, Map, Filter, Take, Drop, TakeWhile, Scan, FlatMap, Zip}
use Rattle.list_denotation.specs.Inputs.{items_in}
use Rattle.list_denotation.specs.Values.{value, row_value}
use Rattle.list_denotation.specs.Rows.{Rows, unless_broken, firsts, single_rows, unfold_rows, map_rows, filter_rows, take_rows, drop_rows, take_while_rows, scan_rows, join_rows, zip_rows}

-- a whole number as a count, where one below zero counts as 0
abbrev pub count_of : ℤ → ℕ
count_of (pos n) = n
count_of (negsuc n) = 0

-- this many words, each one more than the one before it
abbrev pub words_from : ℕ → ℕ → List ℕ
words_from zero x = []
words_from (suc k) x = x ∷ words_from k (sum_of x 1)

-- the words from one up to but without another, by their signed values
abbrev pub words_between : ℕ → ℕ → List ℕ
words_between low high = words_from (count_of (signed high -ℤ signed low)) low

abbrev pub denotation : Pipe → List ℕ → List Input → ℕ → Rows
denotation (Array k) env inputs n = firsts n (single_rows (items_in (slice_get inputs k)))
denotation (Range a b) env inputs n =
    unless_broken (value a env inputs) (λ low. unless_broken (value b env inputs) (λ high. firsts n (single_rows (words_between low high))))
denotation (Unfold seed guard item next) env inputs n =
    unless_broken (row_value seed env inputs)
    (unfold_rows (λ s. value guard (env ++ s) inputs) (λ s. row_value item (env ++ s) inputs) (λ s. row_value next (env ++ s) inputs) n)
denotation (Map of body) env inputs n = map_rows (λ r. row_value body (env ++ r) inputs) (denotation of env inputs n)
denotation (Filter of e) env inputs n = filter_rows (λ r. value e (env ++ r) inputs) (denotation of env inputs n)
denotation (Take of e) env inputs n = unless_broken (value e env inputs) (λ k. take_rows (count_of (signed k)) (denotation of env inputs n))
denotation (Drop of e) env inputs n = unless_broken (value e env inputs) (λ k. drop_rows (count_of (signed k)) (denotation of env inputs n))
denotation (TakeWhile of e) env inputs n = take_while_rows (λ r. value e (env ++ r) inputs) (denotation of env inputs n)
denotation (Scan of seed next) env inputs n =
    unless_broken (row_value seed env inputs) (λ s. scan_rows (λ state r. row_value next (env ++ (state ++ r)) inputs) s (denotation of env inputs n))
denotation (FlatMap of inner) env inputs n = join_rows (denotation of env inputs n) (λ r. denotation inner (env ++ r) inputs n)
denotation (Zip left right) env inputs n = zip_rows (denotation left env inputs n) (denotation right env inputs n)
