-- The machines of small Zips, and what they give.
use Rattle.std.specs.Prelude.{◌≡◌, refl, ℕ, List, [], ◌∷◌, true, false}
use Rattle.list_denotation.specs.declared.input.Input.{Input}
use Rattle.list_denotation.specs.declared.input.Input.TheVariants as input
use Rattle.list_denotation.specs.Rows.{Rows, Ends, Row, End, Cut, Broken}
use Rattle.list_denotation.specs.Terms.{Lit, Truth, Var, Len, Not, Bin, And, Or, Pipe, Array, Map, Filter, Zip}
use Rattle.list_denotation.specs.Values.{Trap}
use Rattle.stateful_core.specs.CoreTerms.{CoreTerm, Read, KeepIf, Update, When, Nil, Cons}
use Rattle.stateful_core.specs.CoreRows.{core_rows}
use Rattle.stateful_core.specs.CoreWork.{core_work}
use Rattle.stateful_core.specs.MostWords.{most_words}
use Rattle.stateful_core.specs.StreamCores.{always, one_more, core_at}
use Rattle.stateful_core.specs.WellFormed.{is_well_formed}
use Rattle.list_denotation.specs.declared.expr.BinOp.TheVariants as sign
use Rattle.stage_machines.specs.MachineParts.{machine_from, machine_core}
use Rattle.zip_linearise.specs.LinearMachine.{linear_machine}
use Rattle.zip_linearise.specs.ZipMachine.{due_guard}

-- two array inputs of these items
abbrev items : List ℕ → List ℕ → List Input
items xs ys = input.Array xs ∷ input.Array ys ∷ []

-- a row of two words before others
abbrev two : ℕ → ℕ → Rows → Rows
two x y rest = Row (x ∷ y ∷ []) rest

abbrev machine_at : Pipe → CoreTerm
machine_at p = machine_core (linear_machine (core_at 0 p))

-- what the machine of a stream gives in so many steps
abbrev rows_of : Pipe → List ℕ → List ℕ → ℕ → Rows
rows_of p xs ys n = core_rows (machine_at p) [] (items xs ys) n

-- ---- zip (array a) (array b)

abbrev pairs : Pipe
pairs = Zip (Array 0) (Array 1)

-- The state is the flag, the left item that is held, and both indices. The local word is the item that is read.
pairs_parts :
    linear_machine (core_at 0 pairs)
    ≡ machine_from 0 (Lit 0 ∷ Lit 0 ∷ Lit 0 ∷ Lit 0 ∷ [])
    (Or (And (Var 0) (Bin sign.Ne (Var 3) (Len 1))) (And (Not (Var 0)) (Bin sign.Ne (Var 2) (Len 0))))
    (Cons (When (Var 0) Nil (Cons (Read 0 (Var 2)) (Cons (Update 2 (one_more 2 ∷ [])) (Cons (Update 1 (Var 4 ∷ []))
    (Cons (Update 0 (Lit 1 ∷ [])) (Cons (KeepIf (Truth false)) Nil))))))
    (Cons (Read 1 (Var 3)) (Cons (Update 3 (one_more 3 ∷ [])) (Cons (Update 0 (Lit 0 ∷ [])) Nil)))) (Var 1 ∷ Var 4 ∷ [])
pairs_parts = refl

pairs_are_well_formed : is_well_formed (machine_at pairs) ≡ true
pairs_are_well_formed = refl

-- the words of the machine are those that are counted for the term
pairs_words : (most_words (machine_at pairs) 3 ∷ most_words (core_at 0 pairs) 3 ∷ []) ≡ 71 ∷ 71 ∷ []
pairs_words = refl

-- two steps a row, and one for the left row behind which the end of the right array is seen
pairs_end : rows_of pairs (1 ∷ 2 ∷ 3 ∷ []) (7 ∷ 8 ∷ []) 5 ≡ two 1 7 (two 2 8 (Ends End))
pairs_end = refl

pairs_are_cut : rows_of pairs (1 ∷ 2 ∷ 3 ∷ []) (7 ∷ 8 ∷ []) 4 ≡ two 1 7 (two 2 8 (Ends Cut))
pairs_are_cut = refl

-- within the term's work, which is that of both arrays
pairs_work : core_work (core_at 0 pairs) [] (items (1 ∷ 2 ∷ 3 ∷ []) (7 ∷ 8 ∷ [])) 3 ≡ 7
pairs_work = refl

-- where the left array ends no more of the right one is read
pairs_end_left : rows_of pairs (1 ∷ []) (7 ∷ 8 ∷ []) 2 ≡ two 1 7 (Ends End)
pairs_end_left = refl

-- ---- zip (array a | map x -> 10 / x) (array b), and the other way round

abbrev tenths : ℕ → Pipe
tenths k = Map (Array k) (Bin sign.Div (Lit 10) (Var 0) ∷ [])

-- the left row is made first, so that its trap is seen where the right array has ended
left_trap_is_seen : rows_of (Zip (tenths 0) (Array 1)) (5 ∷ 0 ∷ []) (7 ∷ []) 3 ≡ two 2 7 (Ends (Broken Trap))
left_trap_is_seen = refl

-- but none of the right stream where the left array has
right_trap_is_not_seen : rows_of (Zip (Array 0) (tenths 1)) (7 ∷ []) (5 ∷ 0 ∷ []) 3 ≡ two 7 2 (Ends End)
right_trap_is_not_seen = refl

-- ---- zip (array a) (array b | filter x -> x % 2 == 0)

abbrev with_evens : Pipe
with_evens = Zip (Array 0) (Filter (Array 1) (Bin sign.Eq (Bin sign.Rem (Var 0) (Lit 2)) (Lit 0)))

with_evens_are_well_formed : is_well_formed (machine_at with_evens) ≡ true
with_evens_are_well_formed = refl

-- the left row is held while the right stream gives none
with_evens_hold : rows_of with_evens (1 ∷ 2 ∷ []) (3 ∷ 5 ∷ 4 ∷ 6 ∷ []) 3 ≡ Ends Cut
with_evens_hold = refl

with_evens_are_cut : rows_of with_evens (1 ∷ 2 ∷ []) (3 ∷ 5 ∷ 4 ∷ 6 ∷ []) 5 ≡ two 1 4 (Ends Cut)
with_evens_are_cut = refl

with_evens_end : rows_of with_evens (1 ∷ 2 ∷ []) (3 ∷ 5 ∷ 4 ∷ 6 ∷ []) 6 ≡ two 1 4 (two 2 6 (Ends End))
with_evens_end = refl

-- ---- zip (zip (array a) (array b)) (array b)

-- a step for each item that is read: the pair is held until the third is
nested_pairs_end : rows_of (Zip pairs (Array 1)) (1 ∷ []) (7 ∷ 8 ∷ []) 3 ≡ Row (1 ∷ 7 ∷ 7 ∷ []) (Ends End)
nested_pairs_end = refl

-- ---- guards

-- a machine whose guard is always true leaves less to be looked at
due_guards :
    (due_guard (Var 0) (Var 1) (Var 2) ∷ due_guard (Var 0) (Var 1) always ∷ due_guard (Var 0) always (Var 2)
    ∷ due_guard (Var 0) always always ∷ [])
    ≡ Or (And (Var 0) (Var 1)) (And (Not (Var 0)) (Var 2)) ∷ Or (And (Var 0) (Var 1)) (Not (Var 0)) ∷ Or (Var 0) (Var 2)
    ∷ always ∷ []
due_guards = refl
