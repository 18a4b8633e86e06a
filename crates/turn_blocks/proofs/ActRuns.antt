-- What acts do with words: they commute with writes that they neither read nor set, keep the words that they don't set, and add
-- local words; and what the local words of a row come to.
use Rattle.std.proofs.Common.{◌≡◌, ◌⊎◌, ℕ, zero, suc, ◌+◌, ◌-◌, ◌<◌, ◌≤◌, List, [], ◌∷◌, ◌++◌, length, Bool, true, false, ◌&&◌, refl, sym, ap, ◌∙◌, subst, inl, inr, arith, length-append, append_assoc, append-nil}
use Rattle.std.specs.Prelude.{IsTrue, slice_get, slice_index, Option, Some, None}
use Rattle.std.proofs.lemmas.Bool.{cases_lt, ltb-true}
use Rattle.std.proofs.lemmas.List.{get_or_append_left}
use Rattle.strm_num.proofs.Truths.{both_true}
use Rattle.list_denotation.specs.declared.input.Input.{Input}
use Rattle.list_denotation.specs.Inputs.{items_in}
use Rattle.list_denotation.specs.Scopes.{is_bound, is_bound_leaf, all_bound}
use Rattle.list_denotation.specs.Leaves.{all_leaves}
use Rattle.list_denotation.specs.Terms.{Term, Var, Len, Truth}
use Rattle.list_denotation.specs.Typing.{is_undivided, all_undivided}
use Rattle.list_denotation.specs.Values.{Got, Is, Fails, choice, value}
use Rattle.stateful_core.specs.Actions.{ActResult, Continue, Skip, Halt, Break, then_run, with_locals, overwrite, let_word, read_item, run_act, run_acts}
use Rattle.stateful_core.specs.CoreLeaves.{action_leaves, actions_leaves, row_leaves}
use Rattle.stateful_core.specs.CoreShapes.{action_locals, actions_locals}
use Rattle.stateful_core.specs.CoreTerms.{Action, Let, Read, KeepIf, StopUnless, Update, When, Actions, Nil, Cons, join}
use Rattle.stateful_core.specs.MostWords.{is_other_leaf}
use Rattle.stateful_core.specs.StreamCores.{let_all}
use Rattle.stateful_core.specs.WordValues.{or_zero, word_value, word_values}
use Rattle.turn_blocks.specs.Laws.{Laws}
use Rattle.turn_blocks.specs.WordUses.{are_unread, action_keeps, actions_keep, never_go_on}
use Rattle.turn_blocks.proofs.LeafTests.{value_same, words_same}
use Rattle.turn_blocks.proofs.Overwrites.{length_overwrite, overwrite_before, overwrite_behind, overwrite_twice}
use Rattle.turn_blocks.proofs.StateTests.{other_word, keeps_apart}
use Rattle.turn_blocks.proofs.WordLists.{scope_word, state_word, local_word}

-- ---- results

-- the same with another state
abbrev pub with_state : (List ℕ → List ℕ) → ActResult → ActResult
with_state f (Continue s l) = Continue (f s) l
with_state f (Skip s) = Skip (f s)
with_state f (Halt s) = Halt (f s)
with_state f (Break x) = Break x

then_with : (f : List ℕ → List ℕ) (r : ActResult) (go : List ℕ → List ℕ → ActResult) → ((s l : List ℕ) → go (f s) l ≡ with_state f (go s l)) → then_run (with_state f r) go ≡ with_state f (then_run r go)
then_with f (Continue s l) go h = h s l
then_with f (Skip s) go h = refl
then_with f (Halt s) go h = refl
then_with f (Break x) go h = refl

locals_with : (f : List ℕ → List ℕ) (l : List ℕ) (r : ActResult) → with_locals l (with_state f r) ≡ with_state f (with_locals l r)
locals_with f l (Continue s m) = refl
locals_with f l (Skip s) = refl
locals_with f l (Halt s) = refl
locals_with f l (Break x) = refl

let_with : (f : List ℕ → List ℕ) (g : Got ℕ) (s l : List ℕ) → let_word g (f s) l ≡ with_state f (let_word g s l)
let_with f (Is x) s l = refl
let_with f (Fails x) s l = refl

read_with : (f : List ℕ → List ℕ) (o : Option ℕ) (s l : List ℕ) → read_item o (f s) l ≡ with_state f (read_item o s l)
read_with f (Some x) s l = refl
read_with f None s l = refl

chosen_with : (f : List ℕ → List ℕ) (w : ℕ) (off on off' on' : ActResult) → off ≡ with_state f off' → on ≡ with_state f on' → choice w off on ≡ with_state f (choice w off' on')
chosen_with f zero off on off' on' h k = h
chosen_with f (suc w) off on off' on' h k = k

then_same : (r : ActResult) (f g : List ℕ → List ℕ → ActResult) → ((s l : List ℕ) → f s l ≡ g s l) → then_run r f ≡ then_run r g
then_same (Continue s l) f g h = h s l
then_same (Skip s) f g h = refl
then_same (Halt s) f g h = refl
then_same (Break x) f g h = refl

pub then_then : (r : ActResult) (first second : List ℕ → List ℕ → ActResult) → then_run (then_run r first) second ≡ then_run r (λ s l. then_run (first s l) second)
then_then (Continue s l) first second = refl
then_then (Skip s) first second = refl
then_then (Halt s) first second = refl
then_then (Break x) first second = refl

-- this holds of the state, where there is one
abbrev pub AtState : (List ℕ → Type 0) → ActResult → Type 0
AtState P (Continue s l) = P s
AtState P (Skip s) = P s
AtState P (Halt s) = P s
AtState P (Break x) = Unit {0}

pub at_more : (P Q : List ℕ → Type 0) (r : ActResult) → ((s : List ℕ) → P s → Q s) → AtState P r → AtState Q r
at_more P Q (Continue s l) f h = f s h
at_more P Q (Skip s) f h = f s h
at_more P Q (Halt s) f h = f s h
at_more P Q (Break x) f h = tt

at_then : (P Q : List ℕ → Type 0) (r : ActResult) (go : List ℕ → List ℕ → ActResult) → AtState P r → ((s : List ℕ) → P s → Q s) → ((s l : List ℕ) → P s → AtState Q (go s l)) → AtState Q (then_run r go)
at_then P Q (Continue s l) go h f g = g s l h
at_then P Q (Skip s) go h f g = f s h
at_then P Q (Halt s) go h f g = f s h
at_then P Q (Break x) go h f g = tt

at_locals : (P : List ℕ → Type 0) (l : List ℕ) (r : ActResult) → AtState P r → AtState P (with_locals l r)
at_locals P l (Continue s m) h = h
at_locals P l (Skip s) h = h
at_locals P l (Halt s) h = h
at_locals P l (Break x) h = tt

pub at_choice : (P : List ℕ → Type 0) (w : ℕ) (off on : ActResult) → AtState P off → AtState P on → AtState P (choice w off on)
at_choice P zero off on h k = h
at_choice P (suc w) off on h k = k

at_let : (P : List ℕ → Type 0) (g : Got ℕ) (s l : List ℕ) → P s → AtState P (let_word g s l)
at_let P (Is x) s l h = h
at_let P (Fails x) s l h = tt

at_read : (P : List ℕ → Type 0) (o : Option ℕ) (s l : List ℕ) → P s → AtState P (read_item o s l)
at_read P (Some x) s l h = h
at_read P None s l h = tt

-- the acts didn't lead on
abbrev pub IsOver : ActResult → Type 0
IsOver (Continue s l) = ⊥
IsOver _ = Unit {0}

over_then : (r : ActResult) (go : List ℕ → List ℕ → ActResult) → ((s l : List ℕ) → IsOver (go s l)) → IsOver (then_run r go)
over_then (Continue s l) go h = h s l
over_then (Skip s) go h = tt
over_then (Halt s) go h = tt
over_then (Break x) go h = tt

-- where acts led on, there are so many local words
abbrev pub HasLocals : ℕ → ActResult → Type 0
HasLocals n (Continue s l) = length l ≡ n
HasLocals n _ = Unit {0}

has_then : (n m : ℕ) (r : ActResult) (go : List ℕ → List ℕ → ActResult) → HasLocals n r → ((s l : List ℕ) → length l ≡ n → HasLocals m (go s l)) → HasLocals m (then_run r go)
has_then n m (Continue s l) go h f = f s l h
has_then n m (Skip s) go h f = tt
has_then n m (Halt s) go h f = tt
has_then n m (Break x) go h f = tt

has_chosen : (n w : ℕ) (s l : List ℕ) (off : ActResult) → length l ≡ n → HasLocals n off → HasLocals n (choice w off (Continue s l))
has_chosen n zero s l off h k = k
has_chosen n (suc w) s l off h k = h

has_let : (g : Got ℕ) (s l : List ℕ) → HasLocals (length l + 1) (let_word g s l)
has_let (Is x) s l = length-append l (x ∷ [])
has_let (Fails x) s l = tt

has_read : (o : Option ℕ) (s l : List ℕ) → HasLocals (length l + 1) (read_item o s l)
has_read (Some x) s l = length-append l (x ∷ [])
has_read None s l = tt

has_locals : (l : List ℕ) (r : ActResult) → HasLocals (length l) (with_locals l r)
has_locals l (Continue s m) = refl
has_locals l (Skip s) = tt
has_locals l (Halt s) = tt
has_locals l (Break x) = tt

has_at : (n m : ℕ) (r : ActResult) → n ≡ m → HasLocals n r → HasLocals m r
has_at n m r e h = subst (λ k. HasLocals k r) e h

module _ (env : List ℕ) (inputs : List Input) where
  pub length_values : (es : List Term) (words : List ℕ) → length (word_values es words inputs) ≡ length es
  length_values [] words = refl
  length_values (e ∷ es) words = ap suc (length_values es words)

  -- ---- writes that acts neither read nor set

  module _ (k : ℕ) (xs : List ℕ) where
    seen_state : (s l : List ℕ) (j : ℕ) → (j < k) ⊎ (k + length xs ≤ j) → slice_index (env ++ (overwrite k xs s ++ l)) (length env + j) ≡ slice_index (env ++ (s ++ l)) (length env + j)
    seen_state s l j side = elim (cases_lt j (length s)) [
      | inl within ↦ state_word env (overwrite k xs s) l j (omega (arith, within, length_overwrite k xs s)) ∙ (other side ∙ sym (state_word env s l j within))
      | inr behind ↦ at_local (j - length s) (omega (arith, behind))
    ]
      where
        other : (j < k) ⊎ (k + length xs ≤ j) → slice_index (overwrite k xs s) j ≡ slice_index s j
        other (inl before) = overwrite_before k xs s j before
        other (inr after) = overwrite_behind k xs s j after

        at_local : (i : ℕ) → j ≡ length s + i → slice_index (env ++ (overwrite k xs s ++ l)) (length env + j) ≡ slice_index (env ++ (s ++ l)) (length env + j)
        at_local i is =
            let n : j ≡ length (overwrite k xs s) + i = omega (arith, is, length_overwrite k xs s) in
            ap (λ m. slice_index (env ++ (overwrite k xs s ++ l)) (length env + m)) n ∙ local_word env (overwrite k xs s) l i
            ∙ sym (ap (λ m. slice_index (env ++ (s ++ l)) (length env + m)) is ∙ local_word env s l i)

    seen : (s l : List ℕ) (m : ℕ) → (m < length env + k) ⊎ (length env + k + length xs ≤ m) → slice_index (env ++ (overwrite k xs s ++ l)) m ≡ slice_index (env ++ (s ++ l)) m
    seen s l m side = elim (cases_lt m (length env)) [
      | inl within ↦ scope_word env (overwrite k xs s) l m within ∙ sym (scope_word env s l m within)
      | inr behind ↦ at_state (m - length env) (omega (arith, behind)) side
    ]
      where
        side_of : (j : ℕ) → m ≡ length env + j → (m < length env + k) ⊎ (length env + k + length xs ≤ m) → (j < k) ⊎ (k + length xs ≤ j)
        side_of j is (inl before) = inl (omega (arith, is, before))
        side_of j is (inr after) = inr (omega (arith, is, after))

        at_state : (j : ℕ) → m ≡ length env + j → (m < length env + k) ⊎ (length env + k + length xs ≤ m) → slice_index (env ++ (overwrite k xs s ++ l)) m ≡ slice_index (env ++ (s ++ l)) m
        at_state j is side = subst (λ n. slice_index (env ++ (overwrite k xs s ++ l)) n ≡ slice_index (env ++ (s ++ l)) n) (sym is) (seen_state s l j (side_of j is side))

    module _ (test : Term → Bool) (others : (m : ℕ) → IsTrue (test (Var m)) → (m < length env + k) ⊎ (length env + k + length xs ≤ m)) where
      abbrev over : List ℕ → List ℕ
      over s = overwrite k xs s

      same_value : (s l : List ℕ) (m : ℕ) → IsTrue (test (Var m)) → slice_index (env ++ (over s ++ l)) m ≡ slice_index (env ++ (s ++ l)) m
      same_value s l m h = seen s l m (others m h)

      sets_apart : (n : ℕ) (ys s : List ℕ) → (n + length ys ≤ k) ⊎ (k + length xs ≤ n) → overwrite n ys (over s) ≡ over (overwrite n ys s)
      sets_apart n ys s (inl before) = sym (overwrite_twice n ys k xs s before)
      sets_apart n ys s (inr behind) = overwrite_twice k xs n ys s behind

      update_commutes : (n : ℕ) (es : List Term) (s l : List ℕ) → IsTrue (row_leaves test es) → IsTrue (action_keeps k (length xs) (Update n es)) → run_act (Update n es) env inputs (over s) l ≡ with_state over (run_act (Update n es) env inputs s l)
      update_commutes n es s l h q =
          let same = words_same inputs test (env ++ (over s ++ l)) (env ++ (s ++ l)) (same_value s l) es h in
          let ys : List ℕ = word_values es (env ++ (s ++ l)) inputs in
          ap (λ zs. Continue (overwrite n zs (over s)) l) same
          ∙ ap (λ z. Continue z l) (sets_apart n ys s (subst (λ m. (n + m ≤ k) ⊎ (k + length xs ≤ n)) (sym (length_values es (env ++ (s ++ l)))) (keeps_apart k (length xs) n es q)))

      mutual
        act_commutes : (a : Action) (s l : List ℕ) → IsTrue (action_leaves test a) → IsTrue (action_keeps k (length xs) a) → run_act a env inputs (over s) l ≡ with_state over (run_act a env inputs s l)
        act_commutes (Let e) s l h q =
            ap (λ g. let_word g (over s) l) (value_same inputs test (env ++ (over s ++ l)) (env ++ (s ++ l)) (same_value s l) e h)
            ∙ let_with over (value e (env ++ (s ++ l)) inputs) s l
        act_commutes (Read n e) s l h q =
            let p = both_true (test (Len n)) (all_leaves test e) h in
            ap (λ g. read_item (slice_get (items_in (slice_get inputs n)) (or_zero g)) (over s) l) (value_same inputs test (env ++ (over s ++ l)) (env ++ (s ++ l)) (same_value s l) e p.1)
            ∙ read_with over (slice_get (items_in (slice_get inputs n)) (word_value e (env ++ (s ++ l)) inputs)) s l
        act_commutes (KeepIf e) s l h q =
            ap (λ g. choice (or_zero g) (Skip (over s)) (Continue (over s) l)) (value_same inputs test (env ++ (over s ++ l)) (env ++ (s ++ l)) (same_value s l) e h)
            ∙ chosen_with over (word_value e (env ++ (s ++ l)) inputs) (Skip (over s)) (Continue (over s) l) (Skip s) (Continue s l) refl refl
        act_commutes (StopUnless e) s l h q =
            ap (λ g. choice (or_zero g) (Halt (over s)) (Continue (over s) l)) (value_same inputs test (env ++ (over s ++ l)) (env ++ (s ++ l)) (same_value s l) e h)
            ∙ chosen_with over (word_value e (env ++ (s ++ l)) inputs) (Halt (over s)) (Continue (over s) l) (Halt s) (Continue s l) refl refl
        act_commutes (Update n es) s l h q = update_commutes n es s l h q
        act_commutes (When e a b) s l h q =
            let p = both_true (all_leaves test e) (actions_leaves test a && actions_leaves test b) h in
            let r = both_true (actions_leaves test a) (actions_leaves test b) p.1 in
            let t = both_true (actions_keep k (length xs) a) (actions_keep k (length xs) b) q in
            ap (λ g. with_locals l (choice (or_zero g) (run_acts b env inputs (over s) l) (run_acts a env inputs (over s) l))) (value_same inputs test (env ++ (over s ++ l)) (env ++ (s ++ l)) (same_value s l) e p.0)
            ∙ ap (with_locals l) (chosen_with over (word_value e (env ++ (s ++ l)) inputs) (run_acts b env inputs (over s) l) (run_acts a env inputs (over s) l) (run_acts b env inputs s l) (run_acts a env inputs s l) (acts_commute_by b s l r.1 t.1) (acts_commute_by a s l r.0 t.0))
            ∙ locals_with over l (choice (word_value e (env ++ (s ++ l)) inputs) (run_acts b env inputs s l) (run_acts a env inputs s l))

        acts_commute_by : (acts : Actions) (s l : List ℕ) → IsTrue (actions_leaves test acts) → IsTrue (actions_keep k (length xs) acts) → run_acts acts env inputs (over s) l ≡ with_state over (run_acts acts env inputs s l)
        acts_commute_by Nil s l h q = refl
        acts_commute_by (Cons a acts) s l h q =
            let p = both_true (action_leaves test a) (actions_leaves test acts) h in
            let r = both_true (action_keeps k (length xs) a) (actions_keep k (length xs) acts) q in
            ap (λ z. then_run z (λ t m. run_acts acts env inputs t m)) (act_commutes a s l p.0 r.0)
            ∙ then_with over (run_act a env inputs s l) (λ t m. run_acts acts env inputs t m) (λ t m. acts_commute_by acts t m p.1 r.1)

    pub acts_commute : (acts : Actions) (s l : List ℕ) → IsTrue (are_unread (length env + k) (length xs) acts) → IsTrue (actions_keep k (length xs) acts) → run_acts acts env inputs (overwrite k xs s) l ≡ with_state (overwrite k xs) (run_acts acts env inputs s l)
    acts_commute acts s l h q = acts_commute_by (is_other_leaf (length env + k) (length xs)) (λ m other. other_word (length env + k) (length xs) m other) acts s l h q

  -- ---- words that acts don't set

  -- the state has the same length, and the words that this test names are the same
  pub record IsSameState (keeps : ℕ → Bool) (s t : List ℕ) : Type 0 where
    pub long : length t ≡ length s
    pub words : (j : ℕ) → IsTrue (keeps j) → slice_index t j ≡ slice_index s j

  abbrev SameAct : Action → List ℕ → List ℕ → Type 0
  SameAct a s t = IsSameState (λ j. action_keeps j 1 a) s t

  abbrev pub SameActs : Actions → List ℕ → List ℕ → Type 0
  SameActs acts s t = IsSameState (λ j. actions_keep j 1 acts) s t

  no_change : (keeps : ℕ → Bool) (s : List ℕ) → IsSameState keeps s s
  no_change keeps s = record { long = refl; words = λ j h. refl }

  fewer_kept : (f g : ℕ → Bool) (s t : List ℕ) → ((j : ℕ) → IsTrue (g j) → IsTrue (f j)) → IsSameState f s t → IsSameState g s t
  fewer_kept f g s t more h = record { long = h.long; words = λ j is. h.words j (more j is) }

  both_kept : (f g h : ℕ → Bool) (s t u : List ℕ) → ((j : ℕ) → IsTrue (h j) → IsTrue (f j) × IsTrue (g j)) → IsSameState f s t → IsSameState g t u → IsSameState h s u
  both_kept f g h s t u parts p q = record { long = q.long ∙ p.long; words = λ j is. q.words j (parts j is).1 ∙ p.words j (parts j is).0 }

  update_kept : (n : ℕ) (es : List Term) (ys s : List ℕ) → length ys ≡ length es → SameAct (Update n es) s (overwrite n ys s)
  update_kept n es ys s len = record { long = length_overwrite n ys s; words = λ j is. other j (keeps_apart j 1 n es is) }
    where
      other : (j : ℕ) → (n + length es ≤ j) ⊎ (j + 1 ≤ n) → slice_index (overwrite n ys s) j ≡ slice_index s j
      other j (inl before) = overwrite_behind n ys s j (omega (arith, before, len))
      other j (inr behind) = overwrite_before n ys s j (omega (arith, behind))

  mutual
    act_keeps : (a : Action) (s l : List ℕ) → AtState (SameAct a s) (run_act a env inputs s l)
    act_keeps (Let e) s l = at_let (SameAct (Let e) s) (value e (env ++ (s ++ l)) inputs) s l (no_change (λ j. true) s)
    act_keeps (Read n e) s l = at_read (SameAct (Read n e) s) (slice_get (items_in (slice_get inputs n)) (word_value e (env ++ (s ++ l)) inputs)) s l (no_change (λ j. true) s)
    act_keeps (KeepIf e) s l = at_choice (SameAct (KeepIf e) s) (word_value e (env ++ (s ++ l)) inputs) (Skip s) (Continue s l) (no_change (λ j. true) s) (no_change (λ j. true) s)
    act_keeps (StopUnless e) s l = at_choice (SameAct (StopUnless e) s) (word_value e (env ++ (s ++ l)) inputs) (Halt s) (Continue s l) (no_change (λ j. true) s) (no_change (λ j. true) s)
    act_keeps (Update n es) s l = update_kept n es (word_values es (env ++ (s ++ l)) inputs) s (length_values es (env ++ (s ++ l)))
    act_keeps (When e a b) s l =
        at_locals (SameAct (When e a b) s) l (choice (word_value e (env ++ (s ++ l)) inputs) (run_acts b env inputs s l) (run_acts a env inputs s l))
        (at_choice (SameAct (When e a b) s) (word_value e (env ++ (s ++ l)) inputs) (run_acts b env inputs s l) (run_acts a env inputs s l)
        (at_more (SameActs b s) (SameAct (When e a b) s) (run_acts b env inputs s l) (λ t h. fewer_kept (λ j. actions_keep j 1 b) (λ j. action_keeps j 1 (When e a b)) s t (λ j is. (both_true (actions_keep j 1 a) (actions_keep j 1 b) is).1) h) (acts_keep b s l))
        (at_more (SameActs a s) (SameAct (When e a b) s) (run_acts a env inputs s l) (λ t h. fewer_kept (λ j. actions_keep j 1 a) (λ j. action_keeps j 1 (When e a b)) s t (λ j is. (both_true (actions_keep j 1 a) (actions_keep j 1 b) is).0) h) (acts_keep a s l)))

    pub acts_keep : (acts : Actions) (s l : List ℕ) → AtState (SameActs acts s) (run_acts acts env inputs s l)
    acts_keep Nil s l = no_change (λ j. true) s
    acts_keep (Cons a acts) s l =
        at_then (SameAct a s) (SameActs (Cons a acts) s) (run_act a env inputs s l) (λ t m. run_acts acts env inputs t m) (act_keeps a s l)
        (λ t h. fewer_kept (λ j. action_keeps j 1 a) (λ j. actions_keep j 1 (Cons a acts)) s t (λ j is. (both_true (action_keeps j 1 a) (actions_keep j 1 acts) is).0) h)
        (λ t m h. at_more (SameActs acts t) (SameActs (Cons a acts) s) (run_acts acts env inputs t m)
        (λ u k. both_kept (λ j. action_keeps j 1 a) (λ j. actions_keep j 1 acts) (λ j. actions_keep j 1 (Cons a acts)) s t u (λ j is. both_true (action_keeps j 1 a) (actions_keep j 1 acts) is) h k)
        (acts_keep acts t m))

  -- ---- local words that acts add

  act_grows : (a : Action) (s l : List ℕ) → HasLocals (length l + action_locals a) (run_act a env inputs s l)
  act_grows (Let e) s l = has_let (value e (env ++ (s ++ l)) inputs) s l
  act_grows (Read n e) s l = has_read (slice_get (items_in (slice_get inputs n)) (word_value e (env ++ (s ++ l)) inputs)) s l
  act_grows (KeepIf e) s l = has_chosen (length l + 0) (word_value e (env ++ (s ++ l)) inputs) s l (Skip s) (omega arith) tt
  act_grows (StopUnless e) s l = has_chosen (length l + 0) (word_value e (env ++ (s ++ l)) inputs) s l (Halt s) (omega arith) tt
  act_grows (Update n es) s l = omega arith
  act_grows (When e a b) s l =
      has_at (length l) (length l + 0) (run_act (When e a b) env inputs s l) (omega arith)
      (has_locals l (choice (word_value e (env ++ (s ++ l)) inputs) (run_acts b env inputs s l) (run_acts a env inputs s l)))

  pub acts_grow : (acts : Actions) (s l : List ℕ) → HasLocals (length l + actions_locals acts) (run_acts acts env inputs s l)
  acts_grow Nil s l = omega arith
  acts_grow (Cons a acts) s l =
      has_then (length l + action_locals a) (length l + actions_locals (Cons a acts)) (run_act a env inputs s l) (λ t m. run_acts acts env inputs t m) (act_grows a s l)
      (λ t m h. has_at (length m + actions_locals acts) (length l + actions_locals (Cons a acts)) (run_acts acts env inputs t m) (omega (arith, h)) (acts_grow acts t m))

  -- ---- acts that don't lead on

  pub never_leads_on : (acts : Actions) (s l : List ℕ) → IsTrue (never_go_on acts) → IsOver (run_acts acts env inputs s l)
  never_leads_on Nil s l h = absurd cc
  never_leads_on (Cons (KeepIf (Truth false)) acts) s l h = tt
  never_leads_on (Cons (StopUnless (Truth false)) acts) s l h = tt
  never_leads_on (Cons a acts) s l h = over_then (run_act a env inputs s l) (λ t m. run_acts acts env inputs t m) (λ t m. never_leads_on acts t m h)

  -- ---- acts behind others, and the local words of a row

  pub run_joined : (acts more : Actions) (s l : List ℕ) → run_acts (join acts more) env inputs s l ≡ then_run (run_acts acts env inputs s l) (λ t m. run_acts more env inputs t m)
  run_joined Nil more s l = refl
  run_joined (Cons a acts) more s l =
      then_same (run_act a env inputs s l) (λ t m. run_acts (join acts more) env inputs t m) (λ t m. then_run (run_acts acts env inputs t m) (λ u n. run_acts more env inputs u n)) (λ t m. run_joined acts more t m)
      ∙ sym (then_then (run_act a env inputs s l) (λ t m. run_acts acts env inputs t m) (λ t m. run_acts more env inputs t m))

  module _ (laws : Laws) (s l : List ℕ) where
    before_more : (added : List ℕ) (m : ℕ) → IsTrue (is_bound_leaf (length (env ++ (s ++ l))) (Var m)) → slice_index (env ++ (s ++ (l ++ added))) m ≡ slice_index (env ++ (s ++ l)) m
    before_more added m h =
        let q : env ++ (s ++ (l ++ added)) ≡ (env ++ (s ++ l)) ++ added = simp append_assoc in
        ap (λ z. slice_index z m) q ∙ get_or_append_left (env ++ (s ++ l)) added 0 m (ltb-true m (length (env ++ (s ++ l))) h)

    pub run_lets : (es : List Term) (added : List ℕ) → IsTrue (all_bound (length (env ++ (s ++ l))) es) → IsTrue (all_undivided es) → run_acts (let_all es Nil) env inputs s (l ++ added) ≡ Continue s (l ++ (added ++ word_values es (env ++ (s ++ l)) inputs))
    run_lets [] added b u = ap (λ z. Continue s (l ++ z)) (sym (append-nil added))
    run_lets (e ∷ es) added b u =
        let p = both_true (is_bound (length (env ++ (s ++ l))) e) (all_bound (length (env ++ (s ++ l))) es) b in
        let q = both_true (is_undivided e) (all_undivided es) u in
        let x = laws.undivided_value (env ++ (s ++ l)) inputs e q.0 in
        let is : value e (env ++ (s ++ (l ++ added))) inputs ≡ Is x.0 = value_same inputs (is_bound_leaf (length (env ++ (s ++ l)))) (env ++ (s ++ (l ++ added))) (env ++ (s ++ l)) (before_more added) e p.0 ∙ x.1 in
        ap (λ g. then_run (let_word g s (l ++ added)) (λ t m. run_acts (let_all es Nil) env inputs t m)) is
        ∙ ap (λ m. run_acts (let_all es Nil) env inputs s m) (append_assoc l added (x.0 ∷ []))
        ∙ run_lets es (added ++ x.0 ∷ []) p.1 q.1
        ∙ ap (λ z. Continue s (l ++ z)) (append_assoc added (x.0 ∷ []) (word_values es (env ++ (s ++ l)) inputs) ∙ ap (λ w. added ++ (w ∷ word_values es (env ++ (s ++ l)) inputs)) (sym (ap or_zero x.1)))
