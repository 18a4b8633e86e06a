-- The table of laws: the kinds, counts and values of small programs, for each stage, terminal and operation.
use Rattle.std.specs.Prelude.{◌≡◌, refl, ℕ, ◌-◌, ◌^◌, List, [], ◌∷◌, true}
use Rattle.list_denotation.specs.declared.event.Event.TheVariants as event
use Rattle.list_denotation.specs.declared.expr.BinOp.TheVariants as sign
use Rattle.list_denotation.specs.declared.input.Input.{Input}
use Rattle.list_denotation.specs.declared.input.Input.TheVariants as input
use Rattle.list_denotation.specs.Terms.{Term, Lit, Truth, Var, Param, Len, Neg, Not, Bin, And, Or, If, Pipe, Array, Range, Unfold, Map, Filter, Take, Drop, TakeWhile, Scan, FlatMap, Zip, Fold, Print, Pipeline}
use Rattle.list_denotation.specs.Values.{Trap, Is, Fails, value}
use Rattle.list_denotation.specs.Rows.{Rows, Ends, Row, End, Cut, Broken}
use Rattle.list_denotation.specs.Denotation.{denotation}
use Rattle.list_denotation.specs.Observation.{Done, Going, Failed, observation}
use Rattle.list_denotation.specs.Work.{stream_work}

-- the word of a number below 0
abbrev minus : ℕ → ℕ
minus n = 2 ^ 64 - n

-- an array input of these items
abbrev items : List ℕ → List Input
items xs = input.Array xs ∷ []

-- a row of one word before others
abbrev one : ℕ → Rows → Rows
one x rest = Row (x ∷ []) rest

-- ---- expressions

-- { x / 2, x % 2, x / -2, x % -2 }
abbrev halved : List Term
halved = Bin sign.Div (Var 0) (Lit 2) ∷ Bin sign.Rem (Var 0) (Lit 2) ∷ Bin sign.Div (Var 0) (Neg (Lit 2)) ∷ Bin sign.Rem (Var 0) (Neg (Lit 2)) ∷ []

division_truncates : denotation (Map (Array 0) halved) [] (items (minus 7 ∷ 7 ∷ [])) 2 ≡ Row (minus 3 ∷ minus 1 ∷ 3 ∷ minus 1 ∷ []) (Row (3 ∷ 1 ∷ minus 3 ∷ 1 ∷ []) (Ends End))
division_truncates = refl

-- { x / -1, x % -1 }
abbrev negated : List Term
negated = Bin sign.Div (Var 0) (Neg (Lit 1)) ∷ Bin sign.Rem (Var 0) (Neg (Lit 1)) ∷ []

least_by_minus_one : denotation (Map (Array 0) negated) [] (items (2 ^ 63 ∷ [])) 1 ≡ Row (2 ^ 63 ∷ 0 ∷ []) (Ends End)
least_by_minus_one = refl

no_remainder_of_zero : value (Bin sign.Rem (Lit 5) (Lit 0)) [] [] ≡ Fails Trap
no_remainder_of_zero = refl

orders_are_signed : value (Bin sign.Lt (Neg (Lit 1)) (Lit 0)) [] [] ≡ Is 1
orders_are_signed = refl

orders_may_be_equal : value (Bin sign.Ge (Neg (Lit 1)) (Neg (Lit 1))) [] [] ≡ Is 1
orders_may_be_equal = refl

-- if x == 0 then 0 else 10 / x
abbrev guarded : Term
guarded = If (Bin sign.Eq (Var 0) (Lit 0)) (Lit 0) (Bin sign.Div (Lit 10) (Var 0))

only_the_chosen_branch : denotation (Map (Array 0) (guarded ∷ [])) [] (items (0 ∷ 5 ∷ [])) 2 ≡ one 0 (one 2 (Ends End))
only_the_chosen_branch = refl

-- what traps is not looked at where the first part decides
abbrev trapping : Term
trapping = Bin sign.Eq (Bin sign.Div (Lit 1) (Lit 0)) (Lit 1)

false_and_a_trap : value (And (Truth true) (And (Not (Truth true)) trapping)) [] [] ≡ Is 0
false_and_a_trap = refl

true_or_a_trap : value (Or (Truth true) trapping) [] [] ≡ Is 1
true_or_a_trap = refl

true_and_a_trap : value (And (Truth true) trapping) [] [] ≡ Fails Trap
true_and_a_trap = refl

any_word_but_zero_is_true : value (And (Lit 7) (Lit 9)) [] [] ≡ Is 1
any_word_but_zero_is_true = refl

an_int_and_a_length : value (Bin sign.Sub (Param 1) (Len 0)) [] (input.Array (8 ∷ 9 ∷ []) ∷ input.Int 1 ∷ []) ≡ Is (minus 1)
an_int_and_a_length = refl

-- ---- sources

range_is_cut : denotation (Range (Neg (Lit 1)) (Lit 3)) [] [] 3 ≡ one (minus 1) (one 0 (one 1 (Ends Cut)))
range_is_cut = refl

range_has_all : denotation (Range (Neg (Lit 1)) (Lit 1)) [] [] 2 ≡ one (minus 1) (one 0 (Ends End))
range_has_all = refl

range_down_is_empty : denotation (Range (Lit 0) (Neg (Lit 3))) [] [] 0 ≡ Ends End
range_down_is_empty = refl

opening_traps : denotation (Range (Lit 0) (Bin sign.Div (Lit 1) (Lit 0))) [] [] 5 ≡ Ends (Broken Trap)
opening_traps = refl

-- unfold {0, 1} with {p, q} while p < 8 yield p next {q, p + q}
abbrev fibonacci : Pipe
fibonacci = Unfold (Lit 0 ∷ Lit 1 ∷ []) (Bin sign.Lt (Var 0) (Lit 8)) (Var 0 ∷ []) (Var 1 ∷ Bin sign.Add (Var 0) (Var 1) ∷ [])

fibonacci_ends : denotation fibonacci [] [] 6 ≡ one 0 (one 1 (one 1 (one 2 (one 3 (one 5 (Ends End))))))
fibonacci_ends = refl

fibonacci_is_cut : denotation fibonacci [] [] 5 ≡ one 0 (one 1 (one 1 (one 2 (one 3 (Ends Cut)))))
fibonacci_is_cut = refl

-- unfold 2 with i while true yield 6 / i next i - 1
abbrev counts_down : Pipe
counts_down = Unfold (Lit 2 ∷ []) (Truth true) (Bin sign.Div (Lit 6) (Var 0) ∷ []) (Bin sign.Sub (Var 0) (Lit 1) ∷ [])

-- where no pull is left, the item that would trap is not looked at
unfold_is_cut_before_the_trap : denotation counts_down [] [] 2 ≡ one 3 (one 6 (Ends Cut))
unfold_is_cut_before_the_trap = refl

unfold_traps : denotation counts_down [] [] 3 ≡ one 3 (one 6 (Ends (Broken Trap)))
unfold_traps = refl

-- ---- stages

-- array a | map x -> 10 / x
abbrev tenths : Pipe
tenths = Map (Array 0) (Bin sign.Div (Lit 10) (Var 0) ∷ [])

map_traps_after_two : denotation tenths [] (items (5 ∷ 2 ∷ 0 ∷ [])) 3 ≡ one 2 (one 5 (Ends (Broken Trap)))
map_traps_after_two = refl

map_is_cut_before_the_trap : denotation tenths [] (items (5 ∷ 2 ∷ 0 ∷ [])) 2 ≡ one 2 (one 5 (Ends Cut))
map_is_cut_before_the_trap = refl

take_before_the_trap : denotation (Take tenths (Lit 2)) [] (items (5 ∷ 2 ∷ 0 ∷ [])) 3 ≡ one 2 (one 5 (Ends End))
take_before_the_trap = refl

take_none : denotation (Take (Array 0) (Lit 0)) [] (items (5 ∷ [])) 0 ≡ Ends End
take_none = refl

take_fewer_than_none : denotation (Take (Array 0) (Neg (Lit 1))) [] (items (5 ∷ [])) 1 ≡ Ends End
take_fewer_than_none = refl

take_more_than_all : denotation (Take (Array 0) (Lit 3)) [] (items (5 ∷ 6 ∷ [])) 1 ≡ one 5 (Ends Cut)
take_more_than_all = refl

drop_more_than_all : denotation (Drop (Range (Lit 0) (Lit 3)) (Lit 5)) [] [] 3 ≡ Ends End
drop_more_than_all = refl

drop_fewer_than_none : denotation (Drop (Range (Lit 0) (Lit 2)) (Neg (Lit 1))) [] [] 2 ≡ one 0 (one 1 (Ends End))
drop_fewer_than_none = refl

-- array a | scan 0 with s x -> s + x | takeWhile s -> s < 8 | drop 1
abbrev sums : Pipe
sums = Scan (Array 0) (Lit 0 ∷ []) (Bin sign.Add (Var 0) (Var 1) ∷ [])

scan_gives_states : denotation sums [] (items (3 ∷ 1 ∷ 4 ∷ 1 ∷ [])) 4 ≡ one 3 (one 4 (one 8 (one 9 (Ends End))))
scan_gives_states = refl

small_sums : denotation (Drop (TakeWhile sums (Bin sign.Lt (Var 0) (Lit 8))) (Lit 1)) [] (items (3 ∷ 1 ∷ 4 ∷ 1 ∷ [])) 3 ≡ one 4 (Ends End)
small_sums = refl

-- where none of the rows fails, the ending is that of the rows
all_sums_are_small : denotation (TakeWhile sums (Bin sign.Lt (Var 0) (Lit 8))) [] (items (3 ∷ 1 ∷ 4 ∷ 1 ∷ [])) 2 ≡ one 3 (one 4 (Ends Cut))
all_sums_are_small = refl

-- array a | flatMap x -> (array a | map y -> x * 10 + y | take 1)
abbrev firsts_of_each : Pipe
firsts_of_each =
    FlatMap (Array 0) (Take (Map (Array 0) (Bin sign.Add (Bin sign.Mul (Var 0) (Lit 10)) (Var 1) ∷ [])) (Lit 1))

inner_take : denotation firsts_of_each [] (items (1 ∷ 2 ∷ [])) 2 ≡ one 11 (one 21 (Ends End))
inner_take = refl

-- the outer array has 2 rows, and the inner one is opened for each and has 2
inner_work : stream_work firsts_of_each [] (items (1 ∷ 2 ∷ [])) 2 ≡ 9
inner_work = refl

-- array a | flatMap x -> (range(0, 2) | map y -> 6 / (x + y))
abbrev inner_quotients : Pipe
inner_quotients = FlatMap (Array 0) (Map (Range (Lit 0) (Lit 2)) (Bin sign.Div (Lit 6) (Bin sign.Add (Var 0) (Var 1)) ∷ []))

inner_trap_ends_all : denotation inner_quotients [] (items (1 ∷ minus 1 ∷ 2 ∷ [])) 3 ≡ one 6 (one 3 (one (minus 6) (Ends (Broken Trap))))
inner_trap_ends_all = refl

-- the third inner stream is not opened: 4, and 3 for each of the others
inner_trap_opens_no_more : stream_work inner_quotients [] (items (1 ∷ minus 1 ∷ 2 ∷ [])) 3 ≡ 10
inner_trap_opens_no_more = refl

left_trap_counts : denotation (Zip tenths (Range (Lit 0) (Lit 2))) [] (items (5 ∷ 2 ∷ 0 ∷ [])) 3 ≡ Row (2 ∷ 0 ∷ []) (Row (5 ∷ 1 ∷ []) (Ends (Broken Trap)))
left_trap_counts = refl

left_end_comes_first : denotation (Zip (Range (Lit 0) (Lit 2)) tenths) [] (items (5 ∷ 2 ∷ 0 ∷ [])) 3 ≡ Row (0 ∷ 2 ∷ []) (Row (1 ∷ 5 ∷ []) (Ends End))
left_end_comes_first = refl

-- unfold 0 with i while true yield i next i + 1
abbrev numbers : Pipe
numbers = Unfold (Lit 0 ∷ []) (Truth true) (Var 0 ∷ []) (Bin sign.Add (Var 0) (Lit 1) ∷ [])

endless_left_is_cut : denotation (Zip numbers (Range (Lit 0) (Lit 2))) [] [] 2 ≡ Row (0 ∷ 0 ∷ []) (Row (1 ∷ 1 ∷ []) (Ends Cut))
endless_left_is_cut = refl

right_end_after_a_left_row : denotation (Zip numbers (Range (Lit 0) (Lit 2))) [] [] 3 ≡ Row (0 ∷ 0 ∷ []) (Row (1 ∷ 1 ∷ []) (Ends End))
right_end_after_a_left_row = refl

-- ---- terminals

-- array a | filter x -> x % 2 == 0 | map x -> x * x | fold 0 with s x -> s + x
abbrev even_squares : Pipeline
even_squares = record {
  inputs = [];
  stream = Map (Filter (Array 0) (Bin sign.Eq (Bin sign.Rem (Var 0) (Lit 2)) (Lit 0))) (Bin sign.Mul (Var 0) (Var 0) ∷ []);
  terminal = Fold (Lit 0 ∷ []) (Bin sign.Add (Var 0) (Var 1) ∷ []);
}

fold_ends : observation even_squares (items (1 ∷ 2 ∷ 3 ∷ 4 ∷ [])) 4 ≡ record { events = event.Emit 20 ∷ event.EndRow ∷ []; standing = Done }
fold_ends = refl

fold_goes_on : observation even_squares (items (1 ∷ 2 ∷ 3 ∷ 4 ∷ [])) 3 ≡ record { events = []; standing = Going }
fold_goes_on = refl

-- array a | fold 1 with s x -> s / x
abbrev quotients : Pipeline
quotients = record { inputs = []; stream = Array 0; terminal = Fold (Lit 1 ∷ []) (Bin sign.Div (Var 0) (Var 1) ∷ []) }

fold_traps : observation quotients (items (2 ∷ 0 ∷ [])) 2 ≡ record { events = []; standing = Failed Trap }
fold_traps = refl

-- the trap of the first row comes before the cut
fold_traps_before_the_cut : observation quotients (items (0 ∷ 2 ∷ [])) 1 ≡ record { events = []; standing = Failed Trap }
fold_traps_before_the_cut = refl

abbrev printed_tenths : Pipeline
printed_tenths = record { inputs = []; stream = tenths; terminal = Print }

print_traps : observation printed_tenths (items (5 ∷ 0 ∷ [])) 2 ≡ record { events = event.Emit 2 ∷ event.EndRow ∷ []; standing = Failed Trap }
print_traps = refl
