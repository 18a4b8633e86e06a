-- The machines of small terms, and what they give.
use Rattle.std.specs.Prelude.{◌≡◌, refl, ℕ, List, [], ◌∷◌, true, false}
use Rattle.list_denotation.specs.declared.input.Input.{Input}
use Rattle.list_denotation.specs.declared.input.Input.TheVariants as input
use Rattle.list_denotation.specs.Rows.{Rows, Ends, Row, End, Cut, Broken}
use Rattle.list_denotation.specs.Terms.{Lit, Truth, Var, Len, Bin, And, Or, Pipe, Array, Range, Map, Filter, Take, Drop, TakeWhile, Scan, FlatMap}
use Rattle.list_denotation.specs.Values.{Trap}
use Rattle.stateful_core.specs.CoreTerms.{CoreTerm, Let, Read, KeepIf, Update, When, Nil, Cons}
use Rattle.stateful_core.specs.CoreRows.{core_rows}
use Rattle.stateful_core.specs.CoreWork.{core_work}
use Rattle.stateful_core.specs.MostWords.{most_words}
use Rattle.stateful_core.specs.StreamCores.{always, rows_asked, range_start, one_more, one_less, core_at}
use Rattle.stateful_core.specs.WellFormed.{is_well_formed}
use Rattle.list_denotation.specs.declared.expr.BinOp.TheVariants as sign
use Rattle.stage_machines.specs.JoinedGuards.{join_guards}
use Rattle.stage_machines.specs.MachineParts.{machine_from, machine_core}
use Rattle.zip_linearise.specs.HeldRows.{flag_or}
use Rattle.zip_linearise.specs.LinearMachine.{linear_machine}
use Rattle.zip_linearise.specs.NestMachine.{guarded_acts}

-- an array input of these items
abbrev items : List ℕ → List Input
items xs = input.Array xs ∷ []

-- a row of one word before others
abbrev one : ℕ → Rows → Rows
one x rest = Row (x ∷ []) rest

abbrev machine_at : Pipe → CoreTerm
machine_at p = machine_core (linear_machine (core_at 0 p))

-- what the machine of a stream gives in so many steps
abbrev rows_of : Pipe → List ℕ → ℕ → Rows
rows_of p xs n = core_rows (machine_at p) [] (items xs) n

-- ---- array a | map x -> 10 / x | take 2

abbrev tenths : Pipe
tenths = Map (Array 0) (Bin sign.Div (Lit 10) (Var 0) ∷ [])

abbrev two_tenths : Pipe
two_tenths = Take tenths (Lit 2)

-- The state is the index and the count. The local words are the item that is read, the row of the array, the quotient, and
-- the row of the map.
two_tenths_parts :
    linear_machine (core_at 0 two_tenths)
    ≡ machine_from 0 (Lit 0 ∷ rows_asked (Lit 2) ∷ []) (And (Var 1) (Bin sign.Ne (Var 0) (Len 0)))
    (Cons (Read 0 (Var 0)) (Cons (Update 0 (one_more 0 ∷ [])) (Cons (Let (Var 2)) (Cons (Let (Bin sign.Div (Lit 10) (Var 3)))
    (Cons (Let (Var 4)) (Cons (Update 1 (one_less 1 ∷ [])) Nil)))))) (Var 5 ∷ [])
two_tenths_parts = refl

-- the count is looked at before the row that would trap
two_tenths_end : rows_of two_tenths (5 ∷ 2 ∷ 0 ∷ []) 2 ≡ one 2 (one 5 (Ends End))
two_tenths_end = refl

tenths_trap : rows_of tenths (5 ∷ 2 ∷ 0 ∷ []) 3 ≡ one 2 (one 5 (Ends (Broken Trap)))
tenths_trap = refl

two_tenths_are_well_formed : is_well_formed (machine_at two_tenths) ≡ true
two_tenths_are_well_formed = refl

-- the words of a machine are those that are counted for its term
two_tenths_words : (most_words (machine_at two_tenths) 3 ∷ most_words (core_at 0 two_tenths) 3 ∷ []) ≡ 67 ∷ 67 ∷ []
two_tenths_words = refl

-- ---- array a | filter x -> x % 2 == 0 | map x -> x * x

abbrev even_squares : Pipe
even_squares = Map (Filter (Array 0) (Bin sign.Eq (Bin sign.Rem (Var 0) (Lit 2)) (Lit 0))) (Bin sign.Mul (Var 0) (Var 0) ∷ [])

-- a step is spent on an item that gives no row
even_squares_are_cut : rows_of even_squares (1 ∷ 2 ∷ 3 ∷ 4 ∷ []) 3 ≡ one 4 (Ends Cut)
even_squares_are_cut = refl

even_squares_end : rows_of even_squares (1 ∷ 2 ∷ 3 ∷ 4 ∷ []) 4 ≡ one 4 (one 16 (Ends End))
even_squares_end = refl

-- ---- array a | drop 1 | scan 0 with s x -> s + x | takeWhile x -> x < 9

abbrev small_sums : Pipe
small_sums = TakeWhile (Scan (Drop (Array 0) (Lit 1)) (Lit 0 ∷ []) (Bin sign.Add (Var 0) (Var 1) ∷ [])) (Bin sign.Lt (Var 0) (Lit 9))

small_sums_end : rows_of small_sums (7 ∷ 2 ∷ 3 ∷ 4 ∷ 5 ∷ []) 4 ≡ one 2 (one 5 (Ends End))
small_sums_end = refl

-- the machine stops within the term's work, which is that of the four items that are read, and 1
small_sums_work : core_work (core_at 0 small_sums) [] (items (7 ∷ 2 ∷ 3 ∷ 4 ∷ 5 ∷ [])) 4 ≡ 5
small_sums_work = refl

-- ---- array a | flatMap x -> range(0, x)

abbrev counts : Pipe
counts = FlatMap (Array 0) (Range (Lit 0) (Var 0))

-- The state is the flag, the row that is held, the index, and the next number of the range. The local word is the item that is
-- read, or the number.
counts_parts :
    linear_machine (core_at 0 counts)
    ≡ machine_from 0 (Lit 0 ∷ Lit 0 ∷ Lit 0 ∷ Lit 0 ∷ []) (Or (Var 0) (Bin sign.Ne (Var 2) (Len 0)))
    (Cons (When (Var 0) Nil
    (Cons (Read 0 (Var 2)) (Cons (Update 2 (one_more 2 ∷ [])) (Cons (Update 1 (Var 4 ∷ [])) (Cons (Update 3 (range_start (Lit 0) (Var 1) ∷ []))
    (Cons (Update 0 (Lit 1 ∷ [])) (Cons (KeepIf (Truth false)) Nil)))))))
    (Cons (When (Bin sign.Ne (Var 3) (Var 1)) Nil (Cons (Update 0 (Lit 0 ∷ [])) (Cons (KeepIf (Truth false)) Nil)))
    (Cons (Let (Var 3)) (Cons (Update 3 (one_more 3 ∷ [])) Nil)))) (Var 4 ∷ [])
counts_parts = refl

-- each item opens a range in a turn, and each range is closed in a turn
counts_end : rows_of counts (2 ∷ 0 ∷ 1 ∷ []) 9 ≡ one 0 (one 1 (one 0 (Ends End)))
counts_end = refl

-- while a range is open the machine goes on, though no item is left
counts_are_cut : rows_of counts (2 ∷ 0 ∷ 1 ∷ []) 8 ≡ one 0 (one 1 (one 0 (Ends Cut)))
counts_are_cut = refl

-- a range that ends at once gives nothing between its two turns
empty_counts_end : rows_of counts (0 ∷ []) 2 ≡ Ends End
empty_counts_end = refl

-- the machine stops within the term's work: that of the three items, and of each range, and 1 for each of these four
counts_work : core_work (core_at 0 counts) [] (items (2 ∷ 0 ∷ 1 ∷ [])) 3 ≡ 10
counts_work = refl

counts_are_well_formed : is_well_formed (machine_at counts) ≡ true
counts_are_well_formed = refl

-- ---- guards

-- a guard that is always true adds nothing to another
always_adds_nothing : (join_guards always (Var 0) ∷ join_guards (Var 0) always ∷ join_guards always always ∷ []) ≡ Var 0 ∷ Var 0 ∷ always ∷ []
always_adds_nothing = refl

-- nor has it a flag before it, or an act that closes
always_needs_no_flag : flag_or (Var 0) always ≡ always
always_needs_no_flag = refl

always_closes_nothing : guarded_acts always Nil ≡ Nil
always_closes_nothing = refl
