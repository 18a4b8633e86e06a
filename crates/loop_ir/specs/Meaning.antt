-- What a loop program does with so many turns: the events that it adds, and how it stands then.
use Rattle.std.specs.Prelude.{ℕ, zero, suc, ◌/◌, ◌%◌, Bool, true, false, not, if◌then◌else◌, ◌==◌, List, [], ◌∷◌, ◌++◌, nat_lt, slice_get, slice_index, slice_set, length, Option, Some, None, bit_xor, replicate}
use Rattle.strm_num.specs.Words.{sum_of, difference_of, product_of}
use Rattle.list_denotation.specs.declared.event.Event.{Event}
use Rattle.list_denotation.specs.declared.event.Event.TheVariants as event
use Rattle.list_denotation.specs.declared.input.Input.{Input}
use Rattle.list_denotation.specs.Inputs.{items_in, word_in}
use Rattle.list_denotation.specs.Values.{Trap, Stuck, Got, Is, Fails, with_value, unless_zero}
use Rattle.list_denotation.specs.Observation.{Standing, Done, Going, Failed, Seen}
use Rattle.loop_ir.specs.declared.syntax.WOp.{WOp}
use Rattle.loop_ir.specs.declared.syntax.WOp.TheVariants as op
use Rattle.loop_ir.specs.declared.syntax.Verdict.{Verdict}
use Rattle.loop_ir.specs.declared.syntax.Verdict.TheVariants as verdict
use Rattle.loop_ir.specs.Statements.{Operand, Const, Var, Len, Int, Bin, Test, Less, Same, Both, Either, Not, Statement, Set, Read, If, Loop, Emit, EndRow, Ret, Block, Nil, Cons, Routine}

-- an operation on words, unsigned; a zero divisor is undefined
abbrev pub word_operation : WOp → ℕ → ℕ → Got ℕ
word_operation op.Add x y = Is (sum_of x y)
word_operation op.Sub x y = Is (difference_of x y)
word_operation op.Mul x y = Is (product_of x y)
word_operation op.Div x y = unless_zero Stuck y (x / y)
word_operation op.Rem x y = unless_zero Stuck y (x % y)
word_operation op.Xor x y = Is (bit_xor x y)

-- an item of an array; to read outside of it is undefined
abbrev pub item_of : Option ℕ → Got ℕ
item_of (Some x) = Is x
item_of None = Fails Stuck

module _ (inputs : List Input) where
  -- the value of an operand over the variables
  abbrev pub operand_value : Operand → List ℕ → Got ℕ
  operand_value (Const n) env = Is n
  operand_value (Var v) env = Is (slice_index env v)
  operand_value (Len a) env = Is (length (items_in (slice_get inputs a)))
  operand_value (Int k) env = Is (word_in (slice_get inputs k))
  operand_value (Bin op a b) env =
      with_value (operand_value a env) (λ x. with_value (operand_value b env) (λ y. word_operation op x y))

  abbrev pub test_value : Test → List ℕ → Got Bool
  test_value (Less a b) env =
      with_value (operand_value a env) (λ x. with_value (operand_value b env) (λ y. Is (nat_lt x y)))
  test_value (Same a b) env =
      with_value (operand_value a env) (λ x. with_value (operand_value b env) (λ y. Is (x == y)))
  test_value (Both a b) env = with_value (test_value a env) (λ x. if x then test_value b env else Is false)
  test_value (Either a b) env = with_value (test_value a env) (λ x. if x then Is true else test_value b env)
  test_value (Not a) env = with_value (test_value a env) (λ x. Is (not x))

-- what statements do: it goes on with these variables and turns, or the run is over
pub data Outcome : Type 0 where
  Runs : (events : List Event) (env : List ℕ) (left : ℕ) → Outcome
  Over : (events : List Event) (standing : Standing) → Outcome

-- an outcome with these events before it
abbrev pub after : List Event → Outcome → Outcome
after before (Runs events env left) = Runs (before ++ events) env left
after before (Over events standing) = Over (before ++ events) standing

abbrev pub then_do : Outcome → (List ℕ → ℕ → Outcome) → Outcome
then_do (Runs events env left) go = after events (go env left)
then_do (Over events standing) go = Over events standing

abbrev pub on_value : {A : Type 0} → Got A → (A → Outcome) → Outcome
on_value (Is x) go = go x
on_value (Fails f) go = Over [] (Failed f)

abbrev pub on_test : Got Bool → Outcome → Outcome → Outcome
on_test (Is true) o p = o
on_test (Is false) o p = p
on_test (Fails f) o p = Over [] (Failed f)

-- a turn is spent, or none is left and the run is still going
abbrev pub spend : ℕ → (ℕ → Outcome) → Outcome
spend zero go = Over [] Going
spend (suc left) go = go left

-- a loop, which makes at most `bound` turns: as many as are left, where it begins
abbrev pub turns : ℕ → (List ℕ → Got Bool) → (List ℕ → ℕ → Outcome) → List ℕ → ℕ → Outcome
turns zero guard body env left = on_test (guard env) (Over [] Going) (Runs [] env left)
turns (suc bound) guard body env left =
    on_test (guard env)
    (spend left (λ rest. then_do (body env rest) (turns bound guard body)))
    (Runs [] env left)

abbrev pub verdict_of : Verdict → Standing
verdict_of verdict.Done = Done
verdict_of verdict.Trap = Failed Trap

module _ (inputs : List Input) where
  abbrev mutual
    pub run_one : Statement → List ℕ → ℕ → Outcome
    run_one (Set v w) env left = on_value (operand_value inputs w env) (λ x. Runs [] (slice_set env v x) left)
    run_one (Read v a w) env left =
        on_value (operand_value inputs w env)
        (λ i. on_value (item_of (slice_get (items_in (slice_get inputs a)) i)) (λ x. Runs [] (slice_set env v x) left))
    run_one (If t a b) env left = on_test (test_value inputs t env) (run a env left) (run b env left)
    run_one (Loop t body) env left = turns left (test_value inputs t) (run body) env left
    run_one (Emit w) env left = on_value (operand_value inputs w env) (λ x. Runs (event.Emit x ∷ []) env left)
    run_one EndRow env left = Runs (event.EndRow ∷ []) env left
    run_one (Ret v) env left = Over [] (verdict_of v)

    pub run : Block → List ℕ → ℕ → Outcome
    run Nil env left = Runs [] env left
    run (Cons s ss) env left = then_do (run_one s env left) (run ss)

-- a run that comes to its end is done
abbrev pub seen_of : Outcome → Seen
seen_of (Runs events env left) = record { events = events; standing = Done }
seen_of (Over events standing) = record { events = events; standing = standing }

-- what is seen of a loop program that has m turns; its variables start at 0
abbrev pub meaning : Routine → List Input → ℕ → Seen
meaning q inputs m = seen_of (run inputs q.body (replicate q.vars 0) m)
