-- Where no KeepIf stands in the acts, each turn that is counted gives a row.
use Rattle.std.proofs.Common.{◌≡◌, ℕ, zero, suc, ◌+◌, List, [], ◌∷◌, ◌++◌, length, Option, Some, None, Bool, true, false, refl, ap}
use Rattle.std.specs.Prelude.{IsTrue, slice_get, if◌then◌else◌}
use Rattle.strm_num.proofs.Truths.{both_true}
use Rattle.list_denotation.specs.declared.input.Input.{Input}
use Rattle.list_denotation.specs.TermRows.{variables}
use Rattle.list_denotation.specs.Terms.{Term}
use Rattle.list_denotation.specs.Inputs.{items_in}
use Rattle.list_denotation.specs.Rows.{Rows, Ends, End, Cut}
use Rattle.list_denotation.specs.Typing.{all_undivided}
use Rattle.list_denotation.specs.Values.{Got, Is, Fails, choice, value}
use Rattle.list_denotation.specs.Work.{row_count}
use Rattle.stateful_core.specs.CoreTerms.{Action, Let, Read, KeepIf, StopUnless, Update, When, Actions, Nil, Cons}
use Rattle.stateful_core.specs.WordValues.{word_value}
use Rattle.stateful_core.specs.Actions.{ActResult, Continue, Skip, Halt, Break, then_run, with_locals, let_word, read_item, run_act, run_acts}
use Rattle.stateful_core.specs.Turns.{Skips, after_turn, turn_rows, count_turn, turn_count}
use Rattle.stateful_core.specs.CoreRows.{turn_end, core_turn, guard_value}
use Rattle.stateful_core.specs.CoreShapes.{is_exact_action, are_exact_actions}
use Rattle.stateful_core.specs.StreamCores.{let_all, set_state, next_state}

-- the turn isn't over without a row
abbrev KeepsRow : ActResult → Type 0
KeepsRow (Continue s l) = Unit {0}
KeepsRow (Skip s) = ⊥
KeepsRow (Halt s) = Unit {0}
KeepsRow (Break f) = Unit {0}

keeps_then : (u : ActResult) (go : List ℕ → List ℕ → ActResult) → KeepsRow u → ((s l : List ℕ) → KeepsRow (go s l)) → KeepsRow (then_run u go)
keeps_then (Continue s l) go h k = k s l
keeps_then (Skip s) go h k = absurd h
keeps_then (Halt s) go h k = tt
keeps_then (Break f) go h k = tt

keeps_with : (l : List ℕ) (u : ActResult) → KeepsRow u → KeepsRow (with_locals l u)
keeps_with l (Continue s k) h = tt
keeps_with l (Skip s) h = h
keeps_with l (Halt s) h = tt
keeps_with l (Break f) h = tt

keeps_choice : (b : ℕ) (u v : ActResult) → KeepsRow u → KeepsRow v → KeepsRow (choice b u v)
keeps_choice zero u v h k = h
keeps_choice (suc b) u v h k = k

keeps_let : (g : Got ℕ) (s l : List ℕ) → KeepsRow (let_word g s l)
keeps_let (Is x) s l = tt
keeps_let (Fails f) s l = tt

keeps_read : (g : Option ℕ) (s l : List ℕ) → KeepsRow (read_item g s l)
keeps_read (Some x) s l = tt
keeps_read None s l = tt

module _ (env : List ℕ) (inputs : List Input) where
  mutual
    keeps_act : (a : Action) (s l : List ℕ) → IsTrue (is_exact_action a) → KeepsRow (run_act a env inputs s l)
    keeps_act (Let e) s l h = keeps_let (value e (env ++ (s ++ l)) inputs) s l
    keeps_act (Read k e) s l h = keeps_read (slice_get (items_in (slice_get inputs k)) (word_value e (env ++ (s ++ l)) inputs)) s l
    keeps_act (KeepIf e) s l h = absurd cc
    keeps_act (StopUnless e) s l h = keeps_choice (word_value e (env ++ (s ++ l)) inputs) (Halt s) (Continue s l) tt tt
    keeps_act (Update k es) s l h = tt
    keeps_act (When e a b) s l h =
        let p = both_true (are_exact_actions a) (are_exact_actions b) h in
        keeps_with l (choice (word_value e (env ++ (s ++ l)) inputs) (run_acts b env inputs s l) (run_acts a env inputs s l))
        (keeps_choice (word_value e (env ++ (s ++ l)) inputs) (run_acts b env inputs s l) (run_acts a env inputs s l) (keeps_acts b s l p.1) (keeps_acts a s l p.0))

    keeps_acts : (acts : Actions) (s l : List ℕ) → IsTrue (are_exact_actions acts) → KeepsRow (run_acts acts env inputs s l)
    keeps_acts Nil s l h = tt
    keeps_acts (Cons a acts) s l h =
        let p = both_true (is_exact_action a) (are_exact_actions acts) h in
        keeps_then (run_act a env inputs s l) _ (keeps_act a s l p.0) (λ t k. keeps_acts acts t k p.1)

  no_skip : (u : ActResult) (item : List ℕ → List ℕ → List ℕ) (t : List ℕ) → KeepsRow u → turn_end u item ≡ Skips t → ⊥
  no_skip (Continue s l) item t h e = cc
  no_skip (Skip s) item t h e = h
  no_skip (Halt s) item t h e = cc
  no_skip (Break f) item t h e = cc

  pub exact_never : (acts : Actions) (item : List Term) (s r t : List ℕ) → IsTrue (are_exact_actions acts) → core_turn acts item env inputs s r ≡ Skips t → ⊥
  exact_never acts item s r t h e = no_skip (run_acts acts env inputs s r) _ t (keeps_acts acts s r h) e

  count_end : (u : ActResult) → KeepsRow u → (item : List ℕ → List ℕ → List ℕ) (f : List ℕ → ℕ) (g : List ℕ → Rows) → ((s : List ℕ) → f s ≡ row_count (g s)) → count_turn (turn_end u item) f ≡ row_count (after_turn (turn_end u item) g)
  count_end (Continue s l) h item f g k = ap (λ n. n + 1) (k s)
  count_end (Skip s) h item f g k = absurd h
  count_end (Halt s) h item f g k = refl
  count_end (Break x) h item f g k = refl

  count_choice : (b x : ℕ) (y : Rows) → x ≡ row_count y → choice b 0 x ≡ row_count (choice b (Ends End) y)
  count_choice zero x y h = refl
  count_choice (suc b) x y h = h

  no_turn : (b : ℕ) → 0 ≡ row_count (choice b (Ends End) (Ends Cut))
  no_turn zero = refl
  no_turn (suc b) = refl

  pub exact_count : (guard : Term) (acts : Actions) (item : List Term) → IsTrue (are_exact_actions acts) → (n : ℕ) (s : List ℕ) → turn_count (guard_value guard env inputs) (λ s. core_turn acts item env inputs s []) n s ≡ row_count (turn_rows (guard_value guard env inputs) (λ s. core_turn acts item env inputs s []) n s)
  exact_count guard acts item exact zero s = no_turn (guard_value guard env inputs s)
  exact_count guard acts item exact (suc n) s =
      count_choice (guard_value guard env inputs s) _ _ (count_end (run_acts acts env inputs s []) (keeps_acts acts s [] exact) _ _ _ (λ t. exact_count guard acts item exact n t))

pub exact_lets : (es : List Term) (more : Actions) → are_exact_actions (let_all es more) ≡ are_exact_actions more
exact_lets [] more = refl
exact_lets (e ∷ es) more = exact_lets es more

pub exact_state : (k : ℕ) (es : List Term) → IsTrue (are_exact_actions (next_state k es))
exact_state k es = by_form (all_undivided es)
  where
    by_form : (t : Bool) → IsTrue (are_exact_actions (if t then set_state es else let_all es (set_state (variables k (length es)))))
    by_form true = refl
    by_form false = exact_lets es (set_state (variables k (length es)))
