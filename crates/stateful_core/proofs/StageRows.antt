-- What the acts of each stage make of rows.
use Rattle.std.proofs.Common.{◌≡◌, ℕ, zero, suc, ◌+◌, ◌^◌, ◌<◌, List, [], ◌∷◌, ◌++◌, length, Bool, true, false, refl, sym, ap, ◌∙◌, subst, arith, length-append, append_assoc, append-nil}
use Rattle.std.specs.Prelude.{IsTrue, slice_index, if◌then◌else◌}
use Rattle.strm_num.specs.Words.{difference_of}
use Rattle.list_denotation.specs.declared.input.Input.{Input}
use Rattle.list_denotation.specs.TermRows.{variables}
use Rattle.list_denotation.specs.Terms.{Term, Var}
use Rattle.list_denotation.specs.Rows.{Rows, Ends, Row, End, unless_broken, map_rows, filter_rows, take_while_rows, take_rows, drop_rows, scan_rows}
use Rattle.list_denotation.specs.Scopes.{all_bound}
use Rattle.list_denotation.specs.Typing.{is_undivided}
use Rattle.list_denotation.specs.Values.{Got, Is, Fails, choice, value, row_value}
use Rattle.denotation_laws.specs.RowWords.{AreRows}
use Rattle.stateful_core.specs.CoreTerms.{Action, Let, KeepIf, StopUnless, Nil, Cons}
use Rattle.stateful_core.specs.WordValues.{or_zero, word_value, word_values}
use Rattle.stateful_core.specs.Actions.{ActResult, Continue, Skip, Halt, then_run, let_word, run_act, run_acts}
use Rattle.stateful_core.specs.Turns.{after_turn, stage_rows}
use Rattle.stateful_core.specs.CoreRows.{turn_end, core_turn, guard_value}
use Rattle.stateful_core.specs.StreamCores.{let_all, set_state, next_state, test_acts, always, one_less, drop_acts}
use Rattle.stateful_core.specs.Laws.{Laws}
use Rattle.stateful_core.proofs.RunningActs.{with_row, run_lets, state_turn}
use Rattle.stateful_core.proofs.UndividedValues.{HasValue, undivided_value}
use Rattle.stateful_core.proofs.VariableRows.{word_behind, variables_at}

module _ (laws : Laws) (env : List ℕ) (inputs : List Input) (w : ℕ) where
  -- ---- map

  map_row : (body : List Term) (r : List ℕ) (go : List ℕ → Rows) (m : Rows) → length r ≡ w → IsTrue (all_bound (length env + w) body) → go [] ≡ m → after_turn (core_turn (let_all body Nil) (variables (length env + w) (length body)) env inputs [] r) go ≡ unless_broken (row_value body (env ++ r) inputs) (λ s. Row s m)
  map_row body r go m h b e =
      rw (run_lets laws env inputs body Nil [] r (subst (λ z. IsTrue (all_bound z body)) (omega (arith, length-append env r)) b)) (by_row (row_value body (env ++ r) inputs) refl)
    where
      by_row : (g : Got (List ℕ)) → row_value body (env ++ r) inputs ≡ g → after_turn (turn_end (with_row g (λ row. Continue [] (r ++ row))) (λ t l. word_values (variables (length env + w) (length body)) (env ++ (t ++ l)) inputs)) go ≡ unless_broken g (λ s. Row s m)
      by_row (Is row) q =
          ap (λ z. Row z (go [])) (variables_at inputs (env ++ r) row [] (env ++ (r ++ row)) (length env + w) (length body) (omega (arith, length-append env r)) (laws.row_length inputs (env ++ r) body row q) (let k : env ++ (r ++ row) ≡ (env ++ r) ++ (row ++ []) = simp (append_assoc, append-nil) in k))
          ∙ ap (λ z. Row row z) e
      by_row (Fails f) q = refl

  pub map_stage : (body : List Term) → IsTrue (all_bound (length env + w) body) → (x : Rows) → AreRows w x → stage_rows (guard_value always env inputs) (core_turn (let_all body Nil) (variables (length env + w) (length body)) env inputs) [] x ≡ map_rows (λ r. row_value body (env ++ r) inputs) x
  map_stage body b (Ends e) h = refl
  map_stage body b (Row r x) h = map_row body r _ _ h.0.width b (map_stage body b x h.1)

  -- ---- filter and takeWhile: a row that fails the test is left out, or ends the list

  abbrev test_of : Bool → Term → Action
  test_of true = KeepIf
  test_of false = StopUnless

  abbrev failed : Bool → ActResult
  failed true = Skip []
  failed false = Halt []

  abbrev rest_of : Bool → Rows → Rows
  rest_of true m = m
  rest_of false m = Ends End

  test_is : (keep : Bool) (e : Term) (l : List ℕ) → run_act (test_of keep e) env inputs [] l ≡ choice (word_value e (env ++ l) inputs) (failed keep) (Continue [] l)
  test_is true e l = refl
  test_is false e l = refl

  abbrev row_item : List ℕ → List ℕ → List ℕ
  row_item t l = word_values (variables (length env) w) (env ++ (t ++ l)) inputs

  same_row : (r more : List ℕ) → length r ≡ w → row_item [] (r ++ more) ≡ r
  same_row r more h = variables_at inputs env r more (env ++ (r ++ more)) (length env) w refl h refl

  failed_row : (keep : Bool) (go : List ℕ → Rows) (m : Rows) → go [] ≡ m → after_turn (turn_end (then_run (failed keep) (λ t k. Continue t k)) row_item) go ≡ rest_of keep m
  failed_row true go m e = e
  failed_row false go m e = refl

  tested : (keep : Bool) (b y : ℕ) (r l : List ℕ) (go : List ℕ → Rows) (m : Rows) → y ≡ b → row_item [] l ≡ r → go [] ≡ m → after_turn (turn_end (then_run (choice y (failed keep) (Continue [] l)) (λ t k. Continue t k)) row_item) go ≡ choice b (rest_of keep m) (Row r m)
  tested keep zero y r l go m q i e = rw q (failed_row keep go m e)
  tested keep (suc b) y r l go m q i e = rw (q, i, e) refl

  test_row : (keep : Bool) (body : Term) (r : List ℕ) (go : List ℕ → Rows) (m : Rows) → length r ≡ w → go [] ≡ m → after_turn (core_turn (test_acts (test_of keep) (length env + w) body) (variables (length env) w) env inputs [] r) go ≡ unless_broken (value body (env ++ r) inputs) (λ b. choice b (rest_of keep m) (Row r m))
  test_row keep body r go m h e = by_form (is_undivided body) refl
    where
      plain : row_item [] r ≡ r
      plain = ap (row_item []) (sym (append-nil r)) ∙ same_row r [] h

      by_word : (g : Got ℕ) → HasValue g → after_turn (turn_end (then_run (choice (or_zero g) (failed keep) (Continue [] r)) (λ t k. Continue t k)) row_item) go ≡ unless_broken g (λ b. choice b (rest_of keep m) (Row r m))
      by_word (Is b) q = tested keep b b r r go m refl plain e
      by_word (Fails f) q = absurd cc

      by_let : (g : Got ℕ) → after_turn (turn_end (then_run (let_word g [] r) (λ t k. run_acts (Cons (test_of keep (Var (length env + w))) Nil) env inputs t k)) row_item) go ≡ unless_broken g (λ b. choice b (rest_of keep m) (Row r m))
      by_let (Is b) =
          ap (λ u. after_turn (turn_end (then_run u (λ t k. Continue t k)) row_item) go) (test_is keep (Var (length env + w)) (r ++ b ∷ []))
          ∙ tested keep b _ r (r ++ b ∷ []) go m
          (ap (λ z. slice_index z (length env + w)) (sym (append_assoc env r (b ∷ []))) ∙ word_behind (env ++ r) [] b (length env + w) (omega (arith, length-append env r)))
          (same_row r (b ∷ []) h) e
      by_let (Fails f) = refl

      by_form : (t : Bool) → is_undivided body ≡ t → after_turn (core_turn (if t then Cons (test_of keep body) Nil else Cons (Let body) (Cons (test_of keep (Var (length env + w))) Nil)) (variables (length env) w) env inputs [] r) go ≡ unless_broken (value body (env ++ r) inputs) (λ b. choice b (rest_of keep m) (Row r m))
      by_form true q =
          ap (λ u. after_turn (turn_end (then_run u (λ t k. Continue t k)) row_item) go) (test_is keep body r)
          ∙ by_word (value body (env ++ r) inputs) (undivided_value laws inputs (env ++ r) body q)
      by_form false q = by_let (value body (env ++ r) inputs)

  pub filter_stage : (body : Term) (x : Rows) → AreRows w x → stage_rows (guard_value always env inputs) (core_turn (test_acts KeepIf (length env + w) body) (variables (length env) w) env inputs) [] x ≡ filter_rows (λ r. value body (env ++ r) inputs) x
  filter_stage body (Ends e) h = refl
  filter_stage body (Row r x) h = test_row true body r _ _ h.0.width (filter_stage body x h.1)

  pub while_stage : (body : Term) (x : Rows) → AreRows w x → stage_rows (guard_value always env inputs) (core_turn (test_acts StopUnless (length env + w) body) (variables (length env) w) env inputs) [] x ≡ take_while_rows (λ r. value body (env ++ r) inputs) x
  while_stage body (Ends e) h = refl
  while_stage body (Row r x) h = test_row false body r _ _ h.0.width (while_stage body x h.1)

  -- ---- take and drop: the count goes down

  count_left : (k : ℕ) (t : List ℕ) → slice_index (env ++ (k ∷ t)) (length env) ≡ k
  count_left k t = word_behind env t k (length env) refl

  one_fewer : (k : ℕ) (t : List ℕ) → suc k < 2 ^ 64 → word_value (one_less (length env)) (env ++ (suc k ∷ t)) inputs ≡ k
  one_fewer k t b = ap (λ z. difference_of z 1) (count_left (suc k) t) ∙ omega arith

  row_kept : (k : ℕ) (r : List ℕ) → length r ≡ w → word_values (variables (length env + 1) w) (env ++ (k ∷ r)) inputs ≡ r
  row_kept k r h =
      variables_at inputs (env ++ (k ∷ [])) r [] (env ++ (k ∷ r)) (length env + 1) w (omega (arith, length-append env (k ∷ []))) h (let q : env ++ (k ∷ r) ≡ (env ++ (k ∷ [])) ++ (r ++ []) = simp (append_assoc, append-nil) in q)

  pub take_stage : (k : ℕ) → k < 2 ^ 64 → (x : Rows) → AreRows w x → stage_rows (guard_value (Var (length env)) env inputs) (core_turn (set_state (one_less (length env) ∷ [])) (variables (length env + 1) w) env inputs) (k ∷ []) x ≡ take_rows k x
  take_stage zero b (Ends e) h = rw (count_left 0 []) refl
  take_stage zero b (Row r x) h = rw (count_left 0 []) refl
  take_stage (suc k) b (Ends e) h = rw (count_left (suc k) []) refl
  take_stage (suc k) b (Row r x) h =
      rw (count_left (suc k) [], one_fewer k r b, row_kept k r h.0.width) (ap (Row r) (take_stage k (omega arith) x h.1))

  pub drop_stage : (k : ℕ) → k < 2 ^ 64 → (x : Rows) → AreRows w x → stage_rows (guard_value always env inputs) (core_turn (drop_acts (length env)) (variables (length env + 1) w) env inputs) (k ∷ []) x ≡ drop_rows k x
  drop_stage zero b (Ends e) h = refl
  drop_stage zero b (Row r x) h = rw (count_left 0 r, row_kept 0 r h.0.width) (ap (Row r) (drop_stage zero b x h.1))
  drop_stage (suc k) b (Ends e) h = refl
  drop_stage (suc k) b (Row r x) h = let d : difference_of (suc k) 1 ≡ k = omega arith in rw (count_left (suc k) r, d) (drop_stage k (omega arith) x h.1)

  -- ---- scan

  pub scan_stage : (next : List Term) (n : ℕ) → IsTrue (all_bound (length env + n + w) next) → length next ≡ n → (s : List ℕ) → length s ≡ n → (x : Rows) → AreRows w x → stage_rows (guard_value always env inputs) (core_turn (next_state (length env + n + w) next) (variables (length env) n) env inputs) s x ≡ scan_rows (λ state r. row_value next (env ++ (state ++ r)) inputs) s x
  scan_stage next n b same s hs (Ends e) h = refl
  scan_stage next n b same s hs (Row r x) h =
      state_turn laws env inputs next s r (length env + n + w) (λ t l. word_values (variables (length env) n) (env ++ (t ++ l)) inputs) (λ row. row) _
      (omega (arith, length-append env (s ++ r), length-append s r, h.0.width)) b (same ∙ sym hs)
      (λ row more q. variables_at inputs env row (r ++ more) (env ++ (row ++ (r ++ more))) (length env) n refl (q ∙ same) refl)
      ∙ by_state (row_value next (env ++ (s ++ r)) inputs) (λ row q. scan_stage next n b same row (laws.row_length inputs (env ++ (s ++ r)) next row q ∙ same) x h.1)
    where
      by_state : (g : Got (List ℕ)) → ((row : List ℕ) → g ≡ Is row → stage_rows (guard_value always env inputs) (core_turn (next_state (length env + n + w) next) (variables (length env) n) env inputs) row x ≡ scan_rows (λ state r. row_value next (env ++ (state ++ r)) inputs) row x) → unless_broken g (λ row. Row row (stage_rows (guard_value always env inputs) (core_turn (next_state (length env + n + w) next) (variables (length env) n) env inputs) row x)) ≡ unless_broken g (λ row. Row row (scan_rows (λ state r. row_value next (env ++ (state ++ r)) inputs) row x))
      by_state (Is row) ih = ap (Row row) (ih row refl)
      by_state (Fails f) ih = refl
