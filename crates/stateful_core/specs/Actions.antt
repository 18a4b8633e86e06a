-- What the acts of a turn do, in a scope of bound words, with a state and local words.
use Rattle.std.specs.Prelude.{ℕ, zero, suc, List, [], ◌∷◌, ◌++◌, slice_get, Option, Some, None}
use Rattle.list_denotation.specs.declared.input.Input.{Input}
use Rattle.list_denotation.specs.Inputs.{items_in}
use Rattle.list_denotation.specs.Values.{Fault, Stuck, Got, Is, Fails, choice, value}
use Rattle.stateful_core.specs.CoreTerms.{Action, Let, Read, KeepIf, StopUnless, Update, When, Actions, Nil, Cons}
use Rattle.stateful_core.specs.WordValues.{word_value, word_values}

-- where acts lead: on, with a state and local words; or to the end of the turn, without a row, with a stop, or at a fault
pub data ActResult : Type 0 where
  Continue : (state : List ℕ) → (locals : List ℕ) → ActResult
  Skip Halt : (state : List ℕ) → ActResult
  Break : Fault → ActResult

-- the acts behind others, where these lead on
abbrev pub then_run : ActResult → (List ℕ → List ℕ → ActResult) → ActResult
then_run (Continue state locals) go = go state locals
then_run (Skip state) go = Skip state
then_run (Halt state) go = Halt state
then_run (Break f) go = Break f

-- the same with these local words, so that those that were added are gone
abbrev pub with_locals : List ℕ → ActResult → ActResult
with_locals locals (Continue state more) = Continue state locals
with_locals locals (Skip state) = Skip state
with_locals locals (Halt state) = Halt state
with_locals locals (Break f) = Break f

-- a state with words written over it from a place on, as far as it goes
abbrev pub overwrite : ℕ → List ℕ → List ℕ → List ℕ
overwrite zero [] state = state
overwrite zero (x ∷ xs) [] = []
overwrite zero (x ∷ xs) (y ∷ state) = x ∷ overwrite zero xs state
overwrite (suc k) xs [] = []
overwrite (suc k) xs (y ∷ state) = y ∷ overwrite k xs state

-- one more local word, and a fault where there is no value
abbrev pub let_word : Got ℕ → List ℕ → List ℕ → ActResult
let_word (Is x) state locals = Continue state (locals ++ x ∷ [])
let_word (Fails f) state locals = Break f

-- one more local word, and no meaning where there is no item
abbrev pub read_item : Option ℕ → List ℕ → List ℕ → ActResult
read_item (Some x) state locals = Continue state (locals ++ x ∷ [])
read_item None state locals = Break Stuck

abbrev mutual
  pub run_act : Action → List ℕ → List Input → List ℕ → List ℕ → ActResult
  run_act (Let e) env inputs state locals = let_word (value e (env ++ (state ++ locals)) inputs) state locals
  run_act (Read k e) env inputs state locals =
      read_item (slice_get (items_in (slice_get inputs k)) (word_value e (env ++ (state ++ locals)) inputs)) state locals
  run_act (KeepIf e) env inputs state locals = choice (word_value e (env ++ (state ++ locals)) inputs) (Skip state) (Continue state locals)
  run_act (StopUnless e) env inputs state locals = choice (word_value e (env ++ (state ++ locals)) inputs) (Halt state) (Continue state locals)
  run_act (Update k es) env inputs state locals = Continue (overwrite k (word_values es (env ++ (state ++ locals)) inputs) state) locals
  run_act (When e a b) env inputs state locals =
      with_locals locals
      (choice (word_value e (env ++ (state ++ locals)) inputs) (run_acts b env inputs state locals) (run_acts a env inputs state locals))

  pub run_acts : Actions → List ℕ → List Input → List ℕ → List ℕ → ActResult
  run_acts Nil env inputs state locals = Continue state locals
  run_acts (Cons a acts) env inputs state locals =
      then_run (run_act a env inputs state locals) (λ s l. run_acts acts env inputs s l)
