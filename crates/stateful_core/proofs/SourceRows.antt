-- What the acts of each source give, turn by turn.
use Rattle.std.proofs.Common.{◌≡◌, ℕ, zero, suc, ◌+◌, ◌^◌, ◌≤◌, ◌<◌, List, [], ◌∷◌, ◌++◌, length, drop, Bool, true, false, refl, sym, ap, ◌∙◌, subst, arith, length-append, append_assoc, append-nil, get_or}
use Rattle.std.proofs.lemmas.List.{drop_all, drop_more}
use Rattle.std.proofs.lemmas.Bool.{ltb-true, ltb-false, eq-eqb, ne_eqb}
use Rattle.std.proofs.lemmas.Option.{slice_get-get_or}
use Rattle.std.specs.Prelude.{IsTrue, slice_get, slice_index, nat_lt, ◌==◌, not}
use Rattle.pipe_limits.specs.declared.TheConstants.{MOST_ITEMS}
use Rattle.strm_num.specs.Words.{sum_of, is_less, truth_of}
use Rattle.list_denotation.specs.declared.input.Input.{Input}
use Rattle.list_denotation.specs.declared.expr.BinOp.TheVariants.{Ne}
use Rattle.list_denotation.specs.Denotation.{words_between}
use Rattle.list_denotation.specs.Inputs.{items_in}
use Rattle.list_denotation.specs.TermRows.{variables}
use Rattle.list_denotation.specs.Terms.{Term, Var, Len, Bin}
use Rattle.list_denotation.specs.Rows.{Rows, Ends, Row, End, Cut, unless_broken, firsts, single_rows, unfold_rows}
use Rattle.list_denotation.specs.Scopes.{is_bound, all_bound}
use Rattle.list_denotation.specs.Typing.{is_undivided}
use Rattle.list_denotation.specs.Values.{Got, Is, Fails, choice, value, row_value}
use Rattle.stateful_core.specs.CoreTerms.{Let, Read, Cons}
use Rattle.stateful_core.specs.WordValues.{word_values}
use Rattle.stateful_core.specs.Actions.{run_acts}
use Rattle.stateful_core.specs.Turns.{Turn, Gives, after_turn, turn_rows}
use Rattle.stateful_core.specs.CoreRows.{turn_end, core_turn, guard_value}
use Rattle.stateful_core.specs.StreamCores.{let_all, set_state, next_state, one_more}
use Rattle.stateful_core.specs.Laws.{Laws}
use Rattle.stateful_core.proofs.RunningActs.{with_row, run_lets, state_turn}
use Rattle.stateful_core.proofs.UndividedValues.{undivided_value}
use Rattle.stateful_core.proofs.VariableRows.{word_behind, variables_at}
use Rattle.stateful_core.proofs.WordOrder.{less_apart, next_not_above, neither_less}

module _ (laws : Laws) (env : List ℕ) (inputs : List Input) where
  -- the row is the first local word behind a state of one word
  local_row : (x y : ℕ) → word_values (Var (length env + 1) ∷ []) (env ++ ((x ∷ []) ++ (y ∷ []))) inputs ≡ y ∷ []
  local_row x y =
      ap (λ z. z ∷ [])
      (ap (λ z. slice_index z (length env + 1)) (sym (append_assoc env (x ∷ []) (y ∷ [])))
      ∙ word_behind (env ++ x ∷ []) [] y (length env + 1) (omega (arith, length-append env (x ∷ []))))

  state_is : (x : ℕ) (l : List ℕ) → slice_index (env ++ (x ∷ l)) (length env) ≡ x
  state_is x l = word_behind env l x (length env) refl

  -- ---- array

  module _ (a : ℕ) (few : length (items_in (slice_get inputs a)) ≤ MOST_ITEMS) where
    abbrev items : List ℕ
    items = items_in (slice_get inputs a)

    abbrev array_guard : List ℕ → ℕ
    array_guard = guard_value (Bin Ne (Var (length env)) (Len a)) env inputs

    abbrev array_turn : List ℕ → List ℕ → Turn (List ℕ)
    array_turn = core_turn (Cons (Read a (Var (length env))) (set_state (one_more (length env) ∷ []))) (Var (length env + 1) ∷ []) env inputs

    more_items : (i : ℕ) → i < length items → array_guard (i ∷ []) ≡ 1
    more_items i h =
        let n : (i == length items) ≡ false = ne_eqb i (length items) (λ e. omega arith) in rw (state_is i [], n) refl

    no_items : (i : ℕ) → i ≡ length items → array_guard (i ∷ []) ≡ 0
    no_items i h = let e : (i == length items) ≡ true = eq-eqb i (length items) h in rw (state_is i [], e) refl

    item_turn : (i : ℕ) → i < length items → array_turn (i ∷ []) [] ≡ Gives (get_or items i 0 ∷ []) ((i + 1) ∷ [])
    item_turn i h =
        let s : sum_of i 1 ≡ i + 1 = omega arith in
        rw (state_is i [], slice_get-get_or items i 0 h, state_is i (get_or items i 0 ∷ []), s)
        (ap (λ z. Gives z ((i + 1) ∷ [])) (local_row (i + 1) (get_or items i 0)))

    array_none : (i : ℕ) (t : Bool) → nat_lt i (length items) ≡ t → i ≤ length items → choice (array_guard (i ∷ [])) (Ends End) (Ends Cut) ≡ firsts 0 (single_rows (drop i items))
    array_none i true e h = let l = ltb-true i (length items) e in rw (more_items i l, drop_more items i 0 l) refl
    array_none i false e h = let l = ltb-false i (length items) e in rw (no_items i (omega arith), drop_all i items l) refl

    array_some : (n i : ℕ) (t : Bool) → nat_lt i (length items) ≡ t → i ≤ length items → ((j : ℕ) → j ≤ length items → turn_rows array_guard (λ s. array_turn s []) n (j ∷ []) ≡ firsts n (single_rows (drop j items))) → choice (array_guard (i ∷ [])) (Ends End) (after_turn (array_turn (i ∷ []) []) (λ s. turn_rows array_guard (λ s. array_turn s []) n s)) ≡ firsts (suc n) (single_rows (drop i items))
    array_some n i true e h ih =
        let l = ltb-true i (length items) e in rw (more_items i l, item_turn i l, drop_more items i 0 l) (ap (Row (get_or items i 0 ∷ [])) (ih (i + 1) (omega arith)))
    array_some n i false e h ih = let l = ltb-false i (length items) e in rw (no_items i (omega arith), drop_all i items l) refl

    pub array_turns : (n i : ℕ) → i ≤ length items → turn_rows array_guard (λ s. array_turn s []) n (i ∷ []) ≡ firsts n (single_rows (drop i items))
    array_turns zero i h = array_none i (nat_lt i (length items)) refl h
    array_turns (suc n) i h = array_some n i (nat_lt i (length items)) refl h (λ j k. array_turns n j k)

  -- ---- range, whose state doesn't come to be above the end

  module _ (high : Term) (end : ℕ) (bound : IsTrue (is_bound (length env) high)) (is : value high env inputs ≡ Is end) (word : end < 2 ^ 64) where
    abbrev range_guard : List ℕ → ℕ
    range_guard = guard_value (Bin Ne (Var (length env)) high) env inputs

    abbrev range_turn : List ℕ → List ℕ → Turn (List ℕ)
    range_turn = core_turn (Cons (Let (Var (length env))) (set_state (one_more (length env) ∷ []))) (Var (length env + 1) ∷ []) env inputs

    guard_is : (x : ℕ) → range_guard (x ∷ []) ≡ truth_of (not (x == end))
    guard_is x = rw (state_is x [], laws.same_value env (x ∷ []) inputs high bound, is) refl

    guard_true : (x : ℕ) → (x ≡ end → ⊥) → range_guard (x ∷ []) ≡ 1
    guard_true x h = guard_is x ∙ ap (λ b. truth_of (not b)) (ne_eqb x end h)

    guard_false : (x : ℕ) → x ≡ end → range_guard (x ∷ []) ≡ 0
    guard_false x h = guard_is x ∙ ap (λ b. truth_of (not b)) (eq-eqb x end h)

    number_turn : (x : ℕ) → range_turn (x ∷ []) [] ≡ Gives (x ∷ []) (sum_of x 1 ∷ [])
    number_turn x =
        rw (state_is x [], state_is x (x ∷ [])) (ap (λ z. Gives z (sum_of x 1 ∷ [])) (local_row (sum_of x 1) x))

    abbrev numbers_are : ℕ → ℕ → Type 0
    numbers_are n x = turn_rows range_guard (λ s. range_turn s []) n (x ∷ []) ≡ firsts n (single_rows (words_between x end))

    range_none : (x : ℕ) (t : Bool) → is_less x end ≡ t → x < 2 ^ 64 → is_less end x ≡ false → numbers_are 0 x
    range_none x true e b h = rw (guard_true x (less_apart x end e), laws.range_goes_on x end b word e) refl
    range_none x false e b h = rw (guard_false x (neither_less x end b word e h), laws.range_is_over x end e) refl

    range_some : (n x : ℕ) (t : Bool) → is_less x end ≡ t → x < 2 ^ 64 → is_less end x ≡ false → ((y : ℕ) → y < 2 ^ 64 → is_less end y ≡ false → numbers_are n y) → numbers_are (suc n) x
    range_some n x true e b h ih =
        rw (guard_true x (less_apart x end e), laws.range_goes_on x end b word e)
        (ap (λ u. after_turn u (λ s. turn_rows range_guard (λ s. range_turn s []) n s)) (number_turn x)
        ∙ ap (Row (x ∷ [])) (ih (sum_of x 1) (omega arith) (next_not_above x end b word e)))
    range_some n x false e b h ih = rw (guard_false x (neither_less x end b word e h), laws.range_is_over x end e) refl

    pub range_turns : (n x : ℕ) → x < 2 ^ 64 → is_less end x ≡ false → numbers_are n x
    range_turns zero x b h = range_none x (is_less x end) refl b h
    range_turns (suc n) x b h = range_some n x (is_less x end) refl b h (λ y c k. range_turns n y c k)

  -- ---- unfold

  module _ (m : ℕ) (guard : Term) (item next : List Term) (sure : IsTrue (is_undivided guard)) (items_bound : IsTrue (all_bound (length env + m) item)) (next_bound : IsTrue (all_bound (length env + m) next)) (same : length next ≡ m) where
    abbrev unfold_turn : List ℕ → List ℕ → Turn (List ℕ)
    unfold_turn = core_turn (let_all item (next_state (length env + m + length item) next)) (variables (length env + m) (length item)) env inputs

    abbrev unfold_item : List ℕ → List ℕ → List ℕ
    unfold_item t l = word_values (variables (length env + m) (length item)) (env ++ (t ++ l)) inputs

    next_turn : (s row : List ℕ) (go more : List ℕ → Rows) → length s ≡ m → length row ≡ length item → ((t : List ℕ) → length t ≡ m → go t ≡ more t) → after_turn (turn_end (run_acts (next_state (length env + m + length item) next) env inputs s row) unfold_item) go ≡ unless_broken (row_value next (env ++ s) inputs) (λ t. Row row (more t))
    next_turn s row go more hs hr e =
        let k : length (env ++ (s ++ row)) ≡ length env + m + length item = omega (arith, length-append env (s ++ row), length-append s row) in
        state_turn laws env inputs next s row (length env + m + length item) unfold_item (λ t. row) go k
        (laws.wider_row (length env + m) (length env + m + length item) next (omega arith) next_bound) (same ∙ sym hs)
        (λ t x q. variables_at inputs (env ++ t) row x (env ++ (t ++ (row ++ x))) (length env + m) (length item) (omega (arith, length-append env t, q, same)) hr (sym (append_assoc env t (row ++ x))))
        ∙ ap (λ g. unless_broken g (λ t. Row row (go t)))
        (ap (λ z. row_value next z inputs) (sym (append_assoc env s row))
        ∙ laws.same_row (env ++ s) row inputs next (subst (λ z. IsTrue (all_bound z next)) (omega (arith, length-append env s)) next_bound))
        ∙ by_state (row_value next (env ++ s) inputs) refl
      where
        by_state : (g : Got (List ℕ)) → row_value next (env ++ s) inputs ≡ g → unless_broken g (λ t. Row row (go t)) ≡ unless_broken g (λ t. Row row (more t))
        by_state (Is t) q = ap (Row row) (e t (laws.row_length inputs (env ++ s) next t q ∙ same))
        by_state (Fails f) q = refl

    row_turn : (s : List ℕ) (go more : List ℕ → Rows) → length s ≡ m → ((t : List ℕ) → length t ≡ m → go t ≡ more t) → after_turn (unfold_turn s []) go ≡ unless_broken (row_value item (env ++ s) inputs) (λ r. unless_broken (row_value next (env ++ s) inputs) (λ t. Row r (more t)))
    row_turn s go more hs e =
        ap (λ u. after_turn (turn_end u unfold_item) go)
        (run_lets laws env inputs item (next_state (length env + m + length item) next) s [] (subst (λ z. IsTrue (all_bound z item)) (omega (arith, length-append env (s ++ []), length-append s [])) items_bound)
        ∙ ap (λ z. with_row (row_value item (env ++ z) inputs) (λ row. run_acts (next_state (length env + m + length item) next) env inputs s row)) (append-nil s))
        ∙ by_item (row_value item (env ++ s) inputs) refl
      where
        by_item : (g : Got (List ℕ)) → row_value item (env ++ s) inputs ≡ g → after_turn (turn_end (with_row g (λ row. run_acts (next_state (length env + m + length item) next) env inputs s row)) unfold_item) go ≡ unless_broken g (λ r. unless_broken (row_value next (env ++ s) inputs) (λ t. Row r (more t)))
        by_item (Is row) q = next_turn s row go more hs (laws.row_length inputs (env ++ s) item row q) e
        by_item (Fails f) q = refl

    guarded : (s : List ℕ) (p q : Rows) → p ≡ q → choice (guard_value guard env inputs s) (Ends End) p ≡ unless_broken (value guard (env ++ s) inputs) (λ g. choice g (Ends End) q)
    guarded s p q e = rw (undivided_value laws inputs (env ++ s) guard sure, e) refl

    pub unfold_turns : (n : ℕ) (s : List ℕ) → length s ≡ m → turn_rows (guard_value guard env inputs) (λ s. unfold_turn s []) n s ≡ unfold_rows (λ s. value guard (env ++ s) inputs) (λ s. row_value item (env ++ s) inputs) (λ s. row_value next (env ++ s) inputs) n s
    unfold_turns zero s h = guarded s (Ends Cut) (Ends Cut) refl
    unfold_turns (suc n) s h = guarded s _ _ (row_turn s _ _ h (λ t e. unfold_turns n t e))
