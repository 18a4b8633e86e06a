-- The cores of small streams, their rows and their work: those of the streams, a row of the table each.
use Rattle.std.specs.Prelude.{◌≡◌, refl, ℕ, ◌-◌, ◌^◌, List, [], ◌∷◌, true}
use Rattle.list_denotation.specs.declared.expr.BinOp.TheVariants as sign
use Rattle.list_denotation.specs.declared.input.Input.{Input}
use Rattle.list_denotation.specs.declared.input.Input.TheVariants as input
use Rattle.list_denotation.specs.declared.input.InputKind.TheVariants as kind
use Rattle.list_denotation.specs.Counts.{depth, most_vars}
use Rattle.list_denotation.specs.InputNames.{declared_inputs}
use Rattle.list_denotation.specs.Terms.{Lit, Truth, Var, Len, Neg, Bin, Pipe, Array, Range, Unfold, Map, Filter, Take, Drop, TakeWhile, Scan, FlatMap, Zip, Print, Pipeline}
use Rattle.list_denotation.specs.Values.{Trap, Stuck}
use Rattle.list_denotation.specs.Rows.{Rows, Ends, Row, End, Cut, Broken}
use Rattle.stateful_core.specs.CoreTerms as term
use Rattle.stateful_core.specs.CoreTerms.{CoreTerm}
use Rattle.stateful_core.specs.CoreRows.{core_rows}
use Rattle.stateful_core.specs.CoreWork.{core_work}
use Rattle.stateful_core.specs.CoreLeaves.{core_names_inputs, core_has_words}
use Rattle.stateful_core.specs.MostWords.{most_words}
use Rattle.stateful_core.specs.WellFormed.{is_well_formed}
use Rattle.stateful_core.specs.StreamCores.{set_state, always, one_more, range_start, core_at}

-- the word of a number below 0
abbrev minus : ℕ → ℕ
minus n = 2 ^ 64 - n

-- an array input of these items
abbrev items : List ℕ → List Input
items xs = input.Array xs ∷ []

-- a row of one word before others
abbrev one : ℕ → Rows → Rows
one x rest = Row (x ∷ []) rest

abbrev rows_of : Pipe → List ℕ → ℕ → Rows
rows_of p xs n = core_rows (core_at 0 p) [] (items xs) n

abbrev work_of : Pipe → List ℕ → ℕ → ℕ
work_of p xs n = core_work (core_at 0 p) [] (items xs) n

-- ---- array a | filter x -> x % 2 == 0 | map x -> x * x

abbrev even_squares : Pipe
even_squares = Map (Filter (Array 0) (Bin sign.Eq (Bin sign.Rem (Var 0) (Lit 2)) (Lit 0))) (Bin sign.Mul (Var 0) (Var 0) ∷ [])

even_squares_end : rows_of even_squares (1 ∷ 2 ∷ 3 ∷ 4 ∷ []) 4 ≡ one 4 (one 16 (Ends End))
even_squares_end = refl

-- a turn is spent on an item that gives no row
even_squares_are_cut : rows_of even_squares (1 ∷ 2 ∷ 3 ∷ 4 ∷ []) 3 ≡ one 4 (Ends Cut)
even_squares_are_cut = refl

even_squares_work : work_of even_squares (1 ∷ 2 ∷ 3 ∷ 4 ∷ []) 4 ≡ 5
even_squares_work = refl

-- ---- array a | map x -> 10 / x | take 2

abbrev tenths : Pipe
tenths = Map (Array 0) (Bin sign.Div (Lit 10) (Var 0) ∷ [])

tenths_trap : rows_of tenths (5 ∷ 2 ∷ 0 ∷ []) 3 ≡ one 2 (one 5 (Ends (Broken Trap)))
tenths_trap = refl

-- the count is looked at before the row that would trap
two_tenths_end : rows_of (Take tenths (Lit 2)) (5 ∷ 2 ∷ 0 ∷ []) 3 ≡ one 2 (one 5 (Ends End))
two_tenths_end = refl

-- ---- unfold 0 with i while true yield i next i + 1 | filter i -> i < 0

abbrev numbers : Pipe
numbers = Unfold (Lit 0 ∷ []) (Truth true) (Var 0 ∷ []) (Bin sign.Add (Var 0) (Lit 1) ∷ [])

no_number_is_negative : rows_of (Filter numbers (Bin sign.Lt (Var 0) (Lit 0))) [] 9 ≡ Ends Cut
no_number_is_negative = refl

-- with `take 0`, and with `take -1`
no_number_is_taken : rows_of (Take numbers (Lit 0)) [] 4 ≡ Ends End
no_number_is_taken = refl

fewer_than_no_number : rows_of (Take numbers (Neg (Lit 1))) [] 4 ≡ Ends End
fewer_than_no_number = refl

-- ---- range

all_are_dropped : rows_of (Drop (Range (Lit 0) (Lit 3)) (Lit 5)) [] 4 ≡ Ends End
all_are_dropped = refl

none_is_dropped : rows_of (Drop (Range (Lit 0) (Lit 2)) (Neg (Lit 1))) [] 2 ≡ one 0 (one 1 (Ends End))
none_is_dropped = refl

range_is_cut : rows_of (Range (Neg (Lit 1)) (Lit 3)) [] 3 ≡ one (minus 1) (one 0 (one 1 (Ends Cut)))
range_is_cut = refl

range_ends : rows_of (Range (Neg (Lit 1)) (Lit 1)) [] 2 ≡ one (minus 1) (one 0 (Ends End))
range_ends = refl

range_down_is_empty : rows_of (Range (Lit 0) (Neg (Lit 3))) [] 0 ≡ Ends End
range_down_is_empty = refl

-- ---- array a | scan 0 with s x -> s + x | takeWhile s -> s < 8 | drop 1

abbrev sums : Pipe
sums = Scan (Array 0) (Lit 0 ∷ []) (Bin sign.Add (Var 0) (Var 1) ∷ [])

abbrev small_sums : Pipe
small_sums = Drop (TakeWhile sums (Bin sign.Lt (Var 0) (Lit 8))) (Lit 1)

small_sums_end : rows_of small_sums (3 ∷ 1 ∷ 4 ∷ 1 ∷ []) 3 ≡ one 4 (Ends End)
small_sums_end = refl

-- a scan over quotients: the new state is computed before it is written
quotients_trap : rows_of (Scan (Array 0) (Lit 8 ∷ []) (Bin sign.Div (Var 0) (Var 1) ∷ [])) (2 ∷ 0 ∷ []) 2 ≡ one 4 (Ends (Broken Trap))
quotients_trap = refl

-- ---- unfold {0, 1} with {p, q} while p < 30 yield p next {q, p + q}

abbrev fibonacci : Pipe
fibonacci = Unfold (Lit 0 ∷ Lit 1 ∷ []) (Bin sign.Lt (Var 0) (Lit 30)) (Var 0 ∷ []) (Var 1 ∷ Bin sign.Add (Var 0) (Var 1) ∷ [])

fibonacci_ends : rows_of fibonacci [] 9 ≡ one 0 (one 1 (one 1 (one 2 (one 3 (one 5 (one 8 (one 13 (one 21 (Ends End)))))))))
fibonacci_ends = refl

-- where no turn is left, the item that would trap is not computed
abbrev counts_down : Pipe
counts_down = Unfold (Lit 2 ∷ []) (Truth true) (Bin sign.Div (Lit 6) (Var 0) ∷ []) (Bin sign.Sub (Var 0) (Lit 1) ∷ [])

counts_down_is_cut : rows_of counts_down [] 2 ≡ one 3 (one 6 (Ends Cut))
counts_down_is_cut = refl

counts_down_traps : rows_of counts_down [] 3 ≡ one 3 (one 6 (Ends (Broken Trap)))
counts_down_traps = refl

-- ---- streams of streams

-- array a | flatMap x -> (array a | map y -> x * 10 + y | take 1)
abbrev firsts_of_each : Pipe
firsts_of_each = FlatMap (Array 0) (Take (Map (Array 0) (Bin sign.Add (Bin sign.Mul (Var 0) (Lit 10)) (Var 1) ∷ [])) (Lit 1))

inner_take : rows_of firsts_of_each (1 ∷ 2 ∷ []) 2 ≡ one 11 (one 21 (Ends End))
inner_take = refl

inner_work : work_of firsts_of_each (1 ∷ 2 ∷ []) 2 ≡ 9
inner_work = refl

-- array a | flatMap x -> range(0, x)
abbrev numbers_below_each : Pipe
numbers_below_each = FlatMap (Array 0) (Range (Lit 0) (Var 0))

-- the inner stream stands in a scope of one word more, the item
numbers_below_each_core : core_at 0 numbers_below_each ≡ term.Nest
    (term.Lin 0 (Lit 0 ∷ []) (Bin sign.Ne (Var 0) (Len 0)) (term.Cons (term.Read 0 (Var 0)) (set_state (one_more 0 ∷ []))) (Var 1 ∷ []))
    (term.Lin 1 (range_start (Lit 0) (Var 0) ∷ []) (Bin sign.Ne (Var 1) (Var 0)) (term.Cons (term.Let (Var 1)) (set_state (one_more 1 ∷ []))) (Var 2 ∷ []))
numbers_below_each_core = refl

-- an empty inner stream gives no row
numbers_below_each_end : rows_of numbers_below_each (2 ∷ 0 ∷ 1 ∷ []) 3 ≡ one 0 (one 1 (one 0 (Ends End)))
numbers_below_each_end = refl

-- three items and 1, and for each item its numbers and 1
numbers_below_each_work : work_of numbers_below_each (2 ∷ 0 ∷ 1 ∷ []) 3 ≡ 10
numbers_below_each_work = refl

-- zip(array a, array b)
abbrev pairs : Pipe
pairs = Zip (Array 0) (Array 1)

abbrev two_arrays : List Input
two_arrays = input.Array (1 ∷ 2 ∷ 3 ∷ []) ∷ input.Array (7 ∷ 8 ∷ []) ∷ []

pairs_up_to_the_shorter : core_rows (core_at 0 pairs) [] two_arrays 3 ≡ Row (1 ∷ 7 ∷ []) (Row (2 ∷ 8 ∷ []) (Ends End))
pairs_up_to_the_shorter = refl

-- both arms count in full
pairs_work : core_work (core_at 0 pairs) [] two_arrays 3 ≡ 7
pairs_work = refl

-- the left arm comes first, and its trap counts
left_trap_counts : rows_of (Zip tenths (Range (Lit 0) (Lit 2))) (5 ∷ 2 ∷ 0 ∷ []) 3 ≡ Row (2 ∷ 0 ∷ []) (Row (5 ∷ 1 ∷ []) (Ends (Broken Trap)))
left_trap_counts = refl

right_end_after_a_left_row : rows_of (Zip numbers (Range (Lit 0) (Lit 2))) [] 3 ≡ Row (0 ∷ 0 ∷ []) (Row (1 ∷ 1 ∷ []) (Ends End))
right_end_after_a_left_row = refl

-- ---- terms that are the core of no stream

-- a read outside of the array has no meaning
reads_too_far : core_rows (term.Lin 0 [] always (term.Cons (term.Read 0 (Lit 1)) term.Nil) (Var 0 ∷ [])) [] (items (7 ∷ [])) 2 ≡ Ends (Broken Stuck)
reads_too_far = refl

-- the words that acts of a choice add are gone behind it
locals_of_a_choice_are_gone : core_rows (term.Tr 0 (core_at 0 (Array 0)) [] always (term.Cons (term.When (Var 0) (term.Cons (term.Let (Lit 9)) term.Nil) term.Nil) (term.Cons (term.Let (Lit 5)) term.Nil)) (Var 1 ∷ [])) [] (items (7 ∷ 0 ∷ [])) 2 ≡ one 5 (one 5 (Ends End))
locals_of_a_choice_are_gone = refl

-- ---- what is kept of terms

abbrev squares_printed : Pipeline
squares_printed = record { inputs = kind.Array ∷ []; stream = even_squares; terminal = Print }

abbrev squares_core : CoreTerm
squares_core = core_at 0 even_squares

is_sound : is_well_formed squares_core ≡ true
is_sound = refl

names_its_array : core_names_inputs (declared_inputs (kind.Array ∷ [])) squares_core ≡ true
names_its_array = refl

numbers_are_words : core_has_words squares_core ≡ true
numbers_are_words = refl

-- the index, an item, a truth, its test and a square, and the row of each of the three terms; 18 for expressions of depth 3, and 40
its_words : most_words squares_core (depth squares_printed) ≡ 67
its_words = refl

its_variables : most_vars squares_printed ≡ 154
its_variables = refl
