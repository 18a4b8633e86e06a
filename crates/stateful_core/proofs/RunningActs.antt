-- What local words of a row and a new state come to.
use Rattle.std.proofs.Common.{◌≡◌, ℕ, List, [], ◌∷◌, ◌++◌, length, Bool, true, false, refl, sym, ap, ◌∙◌, subst, arith, append_assoc, append-nil}
use Rattle.std.specs.Prelude.{IsTrue, if◌then◌else◌}
use Rattle.strm_num.proofs.Truths.{both_true}
use Rattle.list_denotation.specs.declared.input.Input.{Input}
use Rattle.list_denotation.specs.TermRows.{variables}
use Rattle.list_denotation.specs.Terms.{Term}
use Rattle.list_denotation.specs.Rows.{Rows, Row, unless_broken}
use Rattle.list_denotation.specs.Scopes.{is_bound, all_bound}
use Rattle.list_denotation.specs.Typing.{all_undivided}
use Rattle.list_denotation.specs.Values.{Got, Is, Fails, with_value, value, row_value}
use Rattle.stateful_core.specs.CoreTerms.{Actions}
use Rattle.stateful_core.specs.WordValues.{word_values}
use Rattle.stateful_core.specs.Actions.{ActResult, Continue, Break, then_run, overwrite, let_word, run_acts}
use Rattle.stateful_core.specs.Turns.{after_turn}
use Rattle.stateful_core.specs.CoreRows.{turn_end}
use Rattle.stateful_core.specs.StreamCores.{let_all, set_state, next_state}
use Rattle.stateful_core.specs.Laws.{Laws}
use Rattle.stateful_core.proofs.UndividedValues.{undivided_row}
use Rattle.stateful_core.proofs.VariableRows.{length_word_values, variables_at}

-- acts behind the local words of a row, and a fault where there is none
abbrev pub with_row : Got (List ℕ) → (List ℕ → ActResult) → ActResult
with_row (Is row) go = go row
with_row (Fails f) go = Break f

first_local : (x : ℕ) (g : Got (List ℕ)) (go to : List ℕ → ActResult) → ((row : List ℕ) → go row ≡ to (x ∷ row)) → with_row g go ≡ with_row (with_value g (λ row. Is (x ∷ row))) to
first_local x (Is row) go to h = h row
first_local x (Fails f) go to h = refl

pub overwrite_all : (xs s : List ℕ) → length xs ≡ length s → overwrite 0 xs s ≡ xs
overwrite_all [] [] h = refl
overwrite_all [] (y ∷ s) h = absurd (omega arith)
overwrite_all (x ∷ xs) [] h = absurd (omega arith)
overwrite_all (x ∷ xs) (y ∷ s) h = ap (λ z. x ∷ z) (overwrite_all xs s (omega arith))

module _ (laws : Laws) (env : List ℕ) (inputs : List Input) where
  -- the local words of a row, which see the words before them alone
  lets_behind : (es : List Term) (more : Actions) (s l added whole : List ℕ) → whole ≡ l ++ added → IsTrue (all_bound (length (env ++ (s ++ l))) es) → run_acts (let_all es more) env inputs s whole ≡ with_row (row_value es (env ++ (s ++ l)) inputs) (λ row. run_acts more env inputs s (l ++ (added ++ row)))
  lets_behind [] more s l added whole q b = ap (λ z. run_acts more env inputs s z) (q ∙ ap (λ z. l ++ z) (sym (append-nil added)))
  lets_behind (e ∷ es) more s l added whole q b =
      let p = both_true (is_bound (length (env ++ (s ++ l))) e) (all_bound (length (env ++ (s ++ l))) es) b in
      rw (q, let k : env ++ (s ++ (l ++ added)) ≡ (env ++ (s ++ l)) ++ added = simp append_assoc in k, laws.same_value (env ++ (s ++ l)) added inputs e p.0)
      (go (value e (env ++ (s ++ l)) inputs) (λ x. lets_behind es more s l (added ++ x ∷ []) ((l ++ added) ++ x ∷ []) (append_assoc l added (x ∷ [])) p.1))
    where
      go : (g : Got ℕ) → ((x : ℕ) → run_acts (let_all es more) env inputs s ((l ++ added) ++ x ∷ []) ≡ with_row (row_value es (env ++ (s ++ l)) inputs) (λ row. run_acts more env inputs s (l ++ ((added ++ x ∷ []) ++ row)))) → then_run (let_word g s (l ++ added)) (λ t k. run_acts (let_all es more) env inputs t k) ≡ with_row (with_value g (λ x. with_value (row_value es (env ++ (s ++ l)) inputs) (λ row. Is (x ∷ row)))) (λ row. run_acts more env inputs s (l ++ (added ++ row)))
      go (Is x) ih = ih x ∙ first_local x (row_value es (env ++ (s ++ l)) inputs) _ _ (λ row. ap (λ z. run_acts more env inputs s (l ++ z)) (append_assoc added (x ∷ []) row))
      go (Fails f) ih = refl

  pub run_lets : (es : List Term) (more : Actions) (s l : List ℕ) → IsTrue (all_bound (length (env ++ (s ++ l))) es) → run_acts (let_all es more) env inputs s l ≡ with_row (row_value es (env ++ (s ++ l)) inputs) (λ row. run_acts more env inputs s (l ++ row))
  run_lets es more s l b = lets_behind es more s l [] l (sym (append-nil l)) b

  -- a turn whose last acts write a row over the state, and whose row depends on the new state and the local words before these
  module _ (es : List Term) (s l : List ℕ) (k : ℕ) (f : List ℕ → List ℕ → List ℕ) (out : List ℕ → List ℕ) (go : List ℕ → Rows)
      (at : length (env ++ (s ++ l)) ≡ k) (bound : IsTrue (all_bound k es)) (same : length es ≡ length s)
      (is_out : (row more : List ℕ) → length row ≡ length es → f row (l ++ more) ≡ out row) where
    at_once : (new : List ℕ) → length new ≡ length es → after_turn (turn_end (Continue (overwrite 0 new s) l) f) go ≡ Row (out new) (go new)
    at_once new h =
        rw (overwrite_all new s (h ∙ same))
        (ap (λ z. Row z (go new)) (ap (f new) (sym (append-nil l)) ∙ is_out new [] h))

    from_locals : (g : Got (List ℕ)) → ((row : List ℕ) → g ≡ Is row → length row ≡ length es) → after_turn (turn_end (with_row g (λ row. run_acts (set_state (variables k (length es))) env inputs s (l ++ row))) f) go ≡ unless_broken g (λ row. Row (out row) (go row))
    from_locals (Is row) len =
        let n = len row refl in
        let v : word_values (variables k (length es)) (env ++ (s ++ (l ++ row))) inputs ≡ row =
        variables_at inputs (env ++ (s ++ l)) row [] (env ++ (s ++ (l ++ row))) k (length es) at n (let q : env ++ (s ++ (l ++ row)) ≡ (env ++ (s ++ l)) ++ (row ++ []) = simp (append_assoc, append-nil) in q) in
        rw (v, overwrite_all row s (n ∙ same)) (ap (λ z. Row z (go row)) (is_out row row n))
    from_locals (Fails x) len = refl

    pub state_turn : after_turn (turn_end (run_acts (next_state k es) env inputs s l) f) go ≡ unless_broken (row_value es (env ++ (s ++ l)) inputs) (λ row. Row (out row) (go row))
    state_turn = by_form (all_undivided es) refl
      where
        by_form : (t : Bool) → all_undivided es ≡ t → after_turn (turn_end (run_acts (if t then set_state es else let_all es (set_state (variables k (length es)))) env inputs s l) f) go ≡ unless_broken (row_value es (env ++ (s ++ l)) inputs) (λ row. Row (out row) (go row))
        by_form true q =
            at_once (word_values es (env ++ (s ++ l)) inputs) (length_word_values inputs es (env ++ (s ++ l)))
            ∙ ap (λ g. unless_broken g (λ row. Row (out row) (go row))) (sym (undivided_row laws inputs (env ++ (s ++ l)) es q))
        by_form false q =
            ap (λ u. after_turn (turn_end u f) go) (run_lets es (set_state (variables k (length es))) s l (subst (λ z. IsTrue (all_bound z es)) (sym at) bound))
            ∙ from_locals (row_value es (env ++ (s ++ l)) inputs) (λ row h. laws.row_length inputs (env ++ (s ++ l)) es row h)
