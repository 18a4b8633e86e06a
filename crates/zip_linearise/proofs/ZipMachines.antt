-- The machine of a Zip takes the turns of two machines side by side.
use Rattle.std.proofs.Common.{◌≡◌, ℕ, zero, suc, ◌+◌, List, [], ◌∷◌, ◌++◌, length, Bool, true, false, refl, sym, ap, ◌∙◌, subst, arith, length-append, append_assoc, append-nil}
use Rattle.std.specs.Prelude.{IsTrue, slice_index, if◌then◌else◌}
use Rattle.std.proofs.lemmas.List.{length-replicate}
use Rattle.list_denotation.specs.declared.input.Input.{Input}
use Rattle.list_denotation.specs.TermRows.{variables}
use Rattle.list_denotation.specs.Terms.{Term, Lit, Var, Not, And, Or}
use Rattle.list_denotation.specs.Values.{Got, Is, Fails, with_value, choice, value}
use Rattle.machine_turns.specs.ZipTurns.{ZipState, LeftDue, RightDue, zip_guard, left_turn, right_turn, zip_step}
use Rattle.stateful_core.specs.Actions.{ActResult, Continue, Skip, Halt, Break, then_run, with_locals, run_acts}
use Rattle.stateful_core.specs.CoreRows.{turn_end, core_turn, guard_value}
use Rattle.stateful_core.specs.CoreTerms.{StopUnless, Update, Actions, Nil, Cons}
use Rattle.stateful_core.specs.Turns.{Gives, Skips}
use Rattle.stateful_core.specs.WellFormed.{are_sound_actions}
use Rattle.stateful_core.specs.WordValues.{or_zero, word_value, word_values}
use Rattle.stateful_core.proofs.VariableRows.{word_behind, variables_at}
use Rattle.act_moves.specs.Flags.{skip_with}
use Rattle.act_moves.specs.Renumbering.{renumber, renumber_row, move_actions}
use Rattle.act_moves.proofs.ActLengths.{run_join, KeepsState, acts_keep}
use Rattle.act_moves.proofs.MovedActs.{placed, run_moved}
use Rattle.act_moves.proofs.RenumberedValues.{length_values, values_append, value_renumbered, values_renumbered, room_at}
use Rattle.machine_turns.specs.AlikeTurns.{AlikeTurns, both_give, both_skip, both_stop, both_break, SameTruth}
use Rattle.stage_machines.specs.JoinedGuards.{is_always}
use Rattle.stage_machines.specs.MachineParts.{MachineParts}
use Rattle.stage_machines.proofs.JoinedGuards.{always_true, same_twice}
use Rattle.zip_linearise.specs.HeldRows.{zeros, first_word, second_place}
use Rattle.zip_linearise.specs.ZipMachine.{right_word, due_guard, zip_machine}
use Rattle.zip_linearise.proofs.HeldRows.{first_words, run_first, holds_row}

-- ---- guards

-- a word that is the second of an And or an Or, behind a first that leaves it to this
as_second : (g : Got ℕ) → SameTruth (or_zero (with_value g (λ y. Is (choice y 0 1)))) (or_zero g)
as_second (Is y) = same_twice y
as_second (Fails f) = refl

-- and the first of an Or whose second is false
as_first : (g : Got ℕ) → SameTruth (or_zero (with_value (with_value g (λ y. Is (choice y 0 1))) (λ x. choice x (Is 0) (Is 1)))) (or_zero g)
as_first (Is zero) = refl
as_first (Is (suc y)) = refl
as_first (Fails f) = refl

module _ (flag right left : Term) (env : List ℕ) (inputs : List Input) where
  -- the guard of a Zip is that of the left machine where the flag isn't set
  guard_of_left : value flag env inputs ≡ Is 0 → SameTruth (word_value (due_guard flag right left) env inputs) (word_value left env inputs)
  guard_of_left e = by_form (is_always right) (is_always left) refl
    where
      by_form : (t u : Bool) → is_always left ≡ u → SameTruth (word_value (if t then (if u then left else Or flag left) else Or (And flag right) (if u then Not flag else And (Not flag) left)) env inputs) (word_value left env inputs)
      by_form true true q = refl
      by_form true false q = rw e (as_second (value left env inputs))
      by_form false true q = rw (e, always_true left q) refl
      by_form false false q =
          rw e (as_second (with_value (value left env inputs) (λ y. Is (choice y 0 1))) ∙ as_second (value left env inputs))

  -- and that of the right one where it is set
  guard_of_right : value flag env inputs ≡ Is 1 → SameTruth (word_value (due_guard flag right left) env inputs) (word_value right env inputs)
  guard_of_right e = by_form (is_always right) refl (is_always left) refl
    where
      by_form : (t : Bool) → is_always right ≡ t → (u : Bool) → is_always left ≡ u → SameTruth (word_value (if t then (if u then left else Or flag left) else Or (And flag right) (if u then Not flag else And (Not flag) left)) env inputs) (word_value right env inputs)
      by_form true p true q = rw (always_true right p, always_true left q) refl
      by_form true p false q = rw (e, always_true right p) refl
      by_form false p true q = rw e (as_first (value right env inputs))
      by_form false p false q = rw e (as_first (value right env inputs))

-- ---- states

-- a flag, the left row, and the states of the left machine and of the right one
pub data HeldZip (w a b : ℕ) : List ℕ → ZipState (List ℕ) (List ℕ) → Type 0 where
  left_due : (x r s t : List ℕ) → x ≡ 0 ∷ (r ++ (s ++ t)) → length r ≡ w → length s ≡ a → length t ≡ b → HeldZip w a b x (LeftDue s t)
  right_due : (x r s t : List ℕ) → x ≡ 1 ∷ (r ++ (s ++ t)) → length r ≡ w → length s ≡ a → length t ≡ b → HeldZip w a b x (RightDue r s t)

module _ (inputs : List Input) (env : List ℕ) (left right : MachineParts) (scoped : length env ≡ left.scope) where
  abbrev w : ℕ
  w = length left.item

  abbrev a : ℕ
  a = length left.init

  abbrev b : ℕ
  b = length right.init

  abbrev f : ℕ → ℕ
  f = first_word left b

  abbrev g : ℕ → ℕ
  g = right_word left

  abbrev R : List ℕ → ZipState (List ℕ) (List ℕ) → Type 0
  R = HeldZip w a b

  -- the words of a state: the flag, the left row, and the states of both machines
  abbrev state : ℕ → List ℕ → List ℕ → List ℕ → List ℕ
  state v r s t = v ∷ (r ++ (s ++ t))

  -- the same, as words before the state of the right machine
  abbrev grouped : ℕ → List ℕ → List ℕ → List ℕ → List ℕ
  grouped v r s t = v ∷ ((r ++ s) ++ (t ++ []))

  same_state : (v : ℕ) (r s t : List ℕ) → grouped v r s t ≡ state v r s t
  same_state v r s t = simp (append_assoc, append-nil)

  -- the left machine is due first
  pub zip_start : R (word_values (zip_machine left right).init env inputs) (LeftDue (word_values left.init env inputs) (word_values right.init env inputs))
  zip_start =
      left_due _ (word_values (zeros w) env inputs) (word_values left.init env inputs) (word_values right.init env inputs)
      (ap (λ z. 0 ∷ z) (values_append inputs (zeros w) (left.init ++ right.init) env
      ∙ ap (λ z. word_values (zeros w) env inputs ++ z) (values_append inputs left.init right.init env)))
      (length_values inputs (zeros w) env ∙ length-replicate w (Lit 0)) (length_values inputs left.init env)
      (length_values inputs right.init env)

  -- ---- words

  left_words : (v : ℕ) (r s t : List ℕ) → length r ≡ w → length s ≡ a → length t ≡ b → (l : List ℕ) (i : ℕ) → slice_index (env ++ (state v r s t ++ l)) (f i) ≡ slice_index (env ++ (s ++ l)) i
  left_words v r s t hr hs ht l i = first_words inputs env left b scoped v r t hr ht s l hs i

  right_words : (v : ℕ) (r s t : List ℕ) → length r ≡ w → length s ≡ a → (l : List ℕ) (i : ℕ) → slice_index (env ++ (grouped v r s t ++ l)) (g i) ≡ slice_index (env ++ (t ++ l)) i
  right_words v r s t hr hs l i =
      room_at env (v ∷ (r ++ s)) (t ++ l) (env ++ (grouped v r s t ++ l)) (env ++ (t ++ l)) left.scope (second_place left)
      scoped (omega (arith, length-append r s)) (simp (append_assoc, append-nil)) refl i

  -- the words that a guard reads, which has no local words behind the state
  without_locals : (h : ℕ → ℕ) (x s : List ℕ) → ((i : ℕ) → slice_index (env ++ (x ++ [])) (h i) ≡ slice_index (env ++ (s ++ [])) i) → (i : ℕ) → slice_index (env ++ x) (h i) ≡ slice_index (env ++ s) i
  without_locals h x s e i =
      ap (λ z. slice_index (env ++ z) (h i)) (sym (append-nil x)) ∙ e i ∙ ap (λ z. slice_index (env ++ z) i) (append-nil s)

  -- ---- guards

  pub zip_guards : (x : List ℕ) (z : ZipState (List ℕ) (List ℕ)) → R x z → SameTruth (guard_value (zip_machine left right).guard env inputs x) (zip_guard (guard_value left.guard env inputs) (guard_value right.guard env inputs) z)
  zip_guards x z (left_due y r s t e hr hs ht) =
      rw (
        e,
        ← value_renumbered inputs f (env ++ state 0 r s t) (env ++ s)
            (without_locals f (state 0 r s t) s (left_words 0 r s t hr hs ht [])) left.guard,
      )
      (guard_of_left (Var left.scope) (renumber g right.guard) (renumber f left.guard) (env ++ state 0 r s t) inputs
      (ap Is (word_behind env (r ++ (s ++ t)) 0 left.scope scoped)))
  zip_guards x z (right_due y r s t e hr hs ht) =
      rw (
        e ∙ sym (same_state 1 r s t),
        ← value_renumbered inputs g (env ++ grouped 1 r s t) (env ++ t)
            (without_locals g (grouped 1 r s t) t (right_words 1 r s t hr hs [])) right.guard,
      )
      (guard_of_right (Var left.scope) (renumber g right.guard) (renumber f left.guard) (env ++ grouped 1 r s t) inputs
      (ap Is (word_behind env ((r ++ s) ++ (t ++ [])) 1 left.scope scoped)))

  -- ---- turns

  abbrev row_of : List ℕ → List ℕ → List ℕ
  row_of s l = word_values (zip_machine left right).item (env ++ (s ++ l)) inputs

  abbrev left_row : List ℕ → List ℕ → List ℕ
  left_row s l = word_values left.item (env ++ (s ++ l)) inputs

  abbrev right_row : List ℕ → List ℕ → List ℕ
  right_row t l = word_values right.item (env ++ (t ++ l)) inputs

  -- the acts behind those of the left machine, and behind those of the right one
  abbrev holding : Actions
  holding = Cons (Update 1 (renumber_row f left.item)) (skip_with 1)

  abbrev clearing : Actions
  clearing = Cons (Update 0 (Lit 0 ∷ [])) Nil

  run_holding : (r s t l : List ℕ) → length r ≡ w → length s ≡ a → length t ≡ b → run_acts holding env inputs (state 0 r s t) l ≡ Skip (state 1 (left_row s l) s t)
  run_holding r s t l hr hs ht =
      ap (λ u. then_run u (λ x k. run_acts (skip_with 1) env inputs x k)) (holds_row inputs env left b scoped r s t l hr hs ht)

  -- a turn of the left machine holds its row, where it gives one
  left_turns : (r t : List ℕ) → length r ≡ w → length t ≡ b → (go : List ℕ → List ℕ → ActResult) → (u : ActResult) → KeepsState a u → AlikeTurns R (turn_end (then_run (with_locals [] (then_run (placed (0 ∷ r) t [] u) (λ x k. run_acts holding env inputs x k))) go) row_of) (left_turn t (turn_end u left_row))
  left_turns r t hr ht go (Continue s l) hs =
      subst (λ u. AlikeTurns R (turn_end (then_run (with_locals [] u) go) row_of) (Skips (RightDue (left_row s l) s t)))
      (sym (run_holding r s t l hr hs ht))
      (both_skip (right_due _ (left_row s l) s t refl (length_values inputs left.item (env ++ (s ++ l))) hs ht))
  left_turns r t hr ht go (Skip s) hs = both_skip (left_due _ r s t refl hr hs ht)
  left_turns r t hr ht go (Halt s) hs = both_stop
  left_turns r t hr ht go (Break x) hs = both_break x

  both_rows : (r s t l : List ℕ) → length r ≡ w → length s ≡ a → row_of (grouped 0 r s t) l ≡ r ++ right_row t l
  both_rows r s t l hr hs =
      let whole = env ++ (grouped 0 r s t ++ l) in
      values_append inputs (variables (left.scope + 1) w) (renumber_row g right.item) whole
      ∙ ap (λ z. z ++ word_values (renumber_row g right.item) whole inputs)
      (variables_at inputs (env ++ 0 ∷ []) r (s ++ (t ++ l)) whole (left.scope + 1) w (omega (arith, length-append env (0 ∷ []))) hr
      (simp (append_assoc, append-nil)))
      ∙ ap (λ z. r ++ z) (values_renumbered inputs g whole (env ++ (t ++ l)) (right_words 0 r s t hr hs l) right.item)

  -- a turn of the right machine that gives a row gives both
  right_turns : (r s : List ℕ) → length r ≡ w → length s ≡ a → (u : ActResult) → KeepsState b u → AlikeTurns R (turn_end (then_run (placed (1 ∷ (r ++ s)) [] [] u) (λ x k. run_acts clearing env inputs x k)) row_of) (right_turn r s (turn_end u right_row))
  right_turns r s hr hs (Continue t l) ht =
      subst (λ z. AlikeTurns R (Gives z (grouped 0 r s t)) (Gives (r ++ right_row t l) (LeftDue s t))) (sym (both_rows r s t l hr hs))
      (both_give _ (left_due _ r s t (same_state 0 r s t) hr hs ht))
  right_turns r s hr hs (Skip t) ht = both_skip (right_due _ r s t (same_state 1 r s t) hr hs ht)
  right_turns r s hr hs (Halt t) ht = both_stop
  right_turns r s hr hs (Break x) ht = both_break x

  -- n words are bound where the acts of the left machine begin, and k where those of the right one do
  module _ (n k : ℕ) (sound : IsTrue (are_sound_actions a n left.acts)) (right_sound : IsTrue (are_sound_actions b k right.acts)) where
    abbrev left_acts : Actions
    left_acts = move_actions f (1 + w) StopUnless left.acts

    abbrev right_acts : Actions
    right_acts = move_actions g (second_place left) StopUnless right.acts

    run_right : (r s t : List ℕ) → length r ≡ w → length s ≡ a → length t ≡ b → run_acts right_acts env inputs (grouped 1 r s t) [] ≡ placed (1 ∷ (r ++ s)) [] [] (run_acts right.acts env inputs t [])
    run_right r s t hr hs ht =
        ap (λ i. run_acts (move_actions g i StopUnless right.acts) env inputs (grouped 1 r s t) [])
        (let q : second_place left ≡ length (1 ∷ (r ++ s)) = omega (arith, length-append r s) in q)
        ∙ run_moved inputs env env (1 ∷ (r ++ s)) [] [] b g (λ u l h i. right_words 1 r s u hr hs l i) right.acts k t [] ht right_sound

    pub zip_turns : (x : List ℕ) (z : ZipState (List ℕ) (List ℕ)) → R x z → AlikeTurns R (core_turn (zip_machine left right).acts (zip_machine left right).item env inputs x []) (zip_step (λ s. core_turn left.acts left.item env inputs s []) (λ t. core_turn right.acts right.item env inputs t []) z)
    zip_turns x z (left_due y r s t e hr hs ht) =
        rw (
          e,
          word_behind env ((r ++ (s ++ t)) ++ []) 0 left.scope scoped,
          run_join left_acts holding env inputs (state 0 r s t) [],
          run_first inputs env left b scoped n sound r s t hr hs ht,
        )
        (left_turns r t hr ht _ (run_acts left.acts env inputs s []) (acts_keep a inputs env left.acts s [] hs))
    zip_turns x z (right_due y r s t e hr hs ht) =
        rw (
          e ∙ sym (same_state 1 r s t),
          word_behind env (((r ++ s) ++ (t ++ [])) ++ []) 1 left.scope scoped,
          run_join right_acts clearing env inputs (grouped 1 r s t) [],
          run_right r s t hr hs ht,
        )
        (right_turns r s hr hs (run_acts right.acts env inputs t []) (acts_keep b inputs env right.acts t [] ht))
