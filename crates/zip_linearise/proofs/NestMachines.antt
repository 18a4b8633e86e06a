-- The machine of an outer machine and an inner one takes the turns of the nested machines.
use Rattle.std.proofs.Common.{◌≡◌, ℕ, zero, suc, ◌+◌, List, [], ◌∷◌, ◌++◌, length, Bool, true, false, refl, sym, ap, ◌∙◌, subst, arith, length-append, append_assoc, append-nil}
use Rattle.std.proofs.lemmas.List.{length-replicate}
use Rattle.std.specs.Prelude.{IsTrue, slice_index, if◌then◌else◌}
use Rattle.strm_num.proofs.Truths.{both_true}
use Rattle.list_denotation.specs.declared.input.Input.{Input}
use Rattle.list_denotation.specs.Scopes.{is_bound, all_bound}
use Rattle.list_denotation.specs.Terms.{Term, Lit, Var, Or}
use Rattle.list_denotation.specs.Values.{Got, Is, Fails, with_value, choice, value}
use Rattle.stateful_core.specs.CoreTerms.{StopUnless, Update, Actions, Cons}
use Rattle.stateful_core.specs.CoreRows.{turn_end, core_turn, guard_value}
use Rattle.stateful_core.specs.Turns.{Gives, Skips}
use Rattle.stateful_core.specs.WordValues.{or_zero, word_value, word_values}
use Rattle.stateful_core.specs.Actions.{ActResult, Continue, Skip, Halt, Break, then_run, with_locals, overwrite, run_act, run_acts}
use Rattle.stateful_core.specs.WellFormed.{are_sound_actions}
use Rattle.machine_turns.specs.NestTurns.{NestState, Closed, Opened, nest_guard, outer_turn, inner_turn, nest_step}
use Rattle.stateful_core.proofs.VariableRows.{word_behind}
use Rattle.act_moves.specs.Flags.{skip_with, close_unless}
use Rattle.act_moves.specs.Renumbering.{renumber, renumber_row, move_actions}
use Rattle.act_moves.proofs.ActLengths.{run_join, KeepsState, acts_keep}
use Rattle.act_moves.proofs.MovedActs.{lift, acts_moved, placed}
use Rattle.act_moves.proofs.RenumberedValues.{value_renumbered, values_renumbered, length_values, values_append, room_at}
use Rattle.machine_turns.specs.AlikeTurns.{AlikeTurns, both_give, both_skip, both_stop, both_break, SameTruth}
use Rattle.stage_machines.specs.JoinedGuards.{is_always}
use Rattle.stage_machines.specs.MachineParts.{MachineParts}
use Rattle.stage_machines.proofs.JoinedGuards.{always_true, same_twice}
use Rattle.zip_linearise.specs.HeldRows.{zeros, first_word, second_place, flag_or}
use Rattle.zip_linearise.specs.Laws.{Laws}
use Rattle.zip_linearise.specs.NestMachine.{inner_word, guarded_acts, nest_machine}
use Rattle.zip_linearise.proofs.HeldRows.{overwritten_at, first_words, run_first, holds_row}

-- ---- guards

always_either : (x : ℕ) → SameTruth 1 (choice x 1 1)
always_either zero = refl
always_either (suc x) = refl

either_word : (x : ℕ) (g : Got ℕ) → SameTruth (or_zero (choice x (with_value g (λ y. Is (choice y 0 1))) (Is 1))) (choice x (or_zero g) 1)
either_word zero (Is y) = same_twice y
either_word zero (Fails f) = refl
either_word (suc x) g = refl

-- a guard behind a flag is true where the flag or the guard is
flag_joined : (k : ℕ) (g : Term) (env : List ℕ) (inputs : List Input) → SameTruth (word_value (flag_or (Var k) g) env inputs) (choice (slice_index env k) (word_value g env inputs) 1)
flag_joined k g env inputs = by_form (is_always g) refl
  where
    by_form : (t : Bool) → is_always g ≡ t → SameTruth (word_value (if t then g else Or (Var k) g) env inputs) (choice (slice_index env k) (word_value g env inputs) 1)
    by_form true e = rw (always_true g e) (always_either (slice_index env k))
    by_form false e = either_word (slice_index env k) (value g env inputs)

-- ---- the act that closes

module _ (inputs : List Input) (env : List ℕ) where
  -- where its test is false the flag is no longer set, and the turn is over
  closes_state : (t : Term) (s l : List ℕ) → run_act (close_unless t) env inputs (1 ∷ s) l ≡ choice (word_value t (env ++ ((1 ∷ s) ++ l)) inputs) (Skip (0 ∷ s)) (Continue (1 ∷ s) l)
  closes_state t s l = by_word (word_value t (env ++ ((1 ∷ s) ++ l)) inputs)
    where
      by_word : (x : ℕ) → with_locals l (choice x (Skip (0 ∷ s)) (Continue (1 ∷ s) l)) ≡ choice x (Skip (0 ∷ s)) (Continue (1 ∷ s) l)
      by_word zero = refl
      by_word (suc x) = refl

  -- the acts behind a guard run where it is true
  run_guarded : (t : Term) (acts : Actions) (s l : List ℕ) → run_acts (guarded_acts t acts) env inputs (1 ∷ s) l ≡ choice (word_value t (env ++ ((1 ∷ s) ++ l)) inputs) (Skip (0 ∷ s)) (run_acts acts env inputs (1 ∷ s) l)
  run_guarded t acts s l = by_form (is_always t) refl
    where
      by_word : (x : ℕ) → then_run (choice x (Skip (0 ∷ s)) (Continue (1 ∷ s) l)) (λ p k. run_acts acts env inputs p k) ≡ choice x (Skip (0 ∷ s)) (run_acts acts env inputs (1 ∷ s) l)
      by_word zero = refl
      by_word (suc x) = refl

      by_form : (b : Bool) → is_always t ≡ b → run_acts (if b then acts else (Cons (close_unless t) acts)) env inputs (1 ∷ s) l ≡ choice (word_value t (env ++ ((1 ∷ s) ++ l)) inputs) (Skip (0 ∷ s)) (run_acts acts env inputs (1 ∷ s) l)
      by_form true e = rw (always_true t e) refl
      by_form false e = ap (λ u. then_run u (λ p k. run_acts acts env inputs p k)) (closes_state t s l) ∙ by_word (word_value t (env ++ ((1 ∷ s) ++ l)) inputs)

-- ---- states

-- The state of the machine is the flag, the outer row, the outer state and the inner state. While no inner stream is open the
-- row and the inner state are any words.
pub data HeldNest (w a b : ℕ) : List ℕ → NestState (List ℕ) (List ℕ) → Type 0 where
  held_closed : (x r s t : List ℕ) → x ≡ 0 ∷ (r ++ (s ++ t)) → length r ≡ w → length s ≡ a → length t ≡ b → HeldNest w a b x (Closed s)
  held_opened : (x r s t : List ℕ) → x ≡ 1 ∷ (r ++ (s ++ t)) → length r ≡ w → length s ≡ a → length t ≡ b → HeldNest w a b x (Opened r s t)

-- the same words, with the inner state apart
inner_apart : (v : ℕ) (r s t : List ℕ) → v ∷ ((r ++ s) ++ (t ++ [])) ≡ v ∷ (r ++ (s ++ t))
inner_apart v r s t = simp (append_assoc, append-nil)

-- words that are bound in a scope have the same values where more words follow
values_before : (laws : Laws) (inputs : List Input) (env more : List ℕ) (es : List Term) → IsTrue (all_bound (length env) es) → word_values es (env ++ more) inputs ≡ word_values es env inputs
values_before laws inputs env more [] h = refl
values_before laws inputs env more (e ∷ es) h =
    let p = both_true (is_bound (length env) e) (all_bound (length env) es) h in
    rw (laws.bound_value env more inputs e p.0, values_before laws inputs env more es p.1) refl

-- ---- turns

-- Where the acts of the outer machine begin n words are bound, and k where those of the inner machine begin.
module _ (laws : Laws) (inputs : List Input) (env : List ℕ) (n k : ℕ) (outer inner : MachineParts)
    (scoped : length env ≡ outer.scope) (init_bound : IsTrue (all_bound (outer.scope + length outer.item) inner.init))
    (sound : IsTrue (are_sound_actions (length outer.init) n outer.acts)) (inner_sound : IsTrue (are_sound_actions (length inner.init) k inner.acts)) where
  abbrev w : ℕ
  w = length outer.item

  abbrev a : ℕ
  a = length outer.init

  abbrev b : ℕ
  b = length inner.init

  abbrev f : ℕ → ℕ
  f = first_word outer b

  abbrev g : ℕ → ℕ
  g = inner_word outer

  abbrev R : List ℕ → NestState (List ℕ) (List ℕ) → Type 0
  R = HeldNest w a b

  -- the state in which a row opens the inner machine
  abbrev start : List ℕ → List ℕ
  start r = word_values inner.init (env ++ r) inputs

  abbrev outer_row : List ℕ → List ℕ → List ℕ
  outer_row s l = word_values outer.item (env ++ (s ++ l)) inputs

  abbrev inner_row : List ℕ → List ℕ → List ℕ → List ℕ
  inner_row r t l = word_values inner.item ((env ++ r) ++ (t ++ l)) inputs

  abbrev row_of : List ℕ → List ℕ → List ℕ
  row_of s l = word_values (renumber_row g inner.item) (env ++ (s ++ l)) inputs

  length_start : (r : List ℕ) → length (start r) ≡ b
  length_start r = length_values inputs inner.init (env ++ r)

  length_row : (s l : List ℕ) → length (outer_row s l) ≡ w
  length_row s l = length_values inputs outer.item (env ++ (s ++ l))

  -- each word that the inner machine reads stands at its number
  inner_words : (v : ℕ) (r s t whole : List ℕ) → length r ≡ w → length s ≡ a → whole ≡ env ++ (v ∷ (r ++ (s ++ t))) → (i : ℕ) → slice_index whole (g i) ≡ slice_index ((env ++ r) ++ t) i
  inner_words v r s t whole hr hs q i =
      room_at (env ++ (v ∷ r)) s t whole (env ++ ((v ∷ []) ++ (r ++ t))) (outer.scope + 1 + w) a
      (omega (arith, length-append env (v ∷ r))) hs (q ∙ simp append_assoc) (simp append_assoc) _
      ∙ room_at env (v ∷ []) (r ++ t) (env ++ ((v ∷ []) ++ (r ++ t))) ((env ++ r) ++ t) outer.scope 1 scoped refl refl (append_assoc env r t) i

  inner_words_apart : (r s : List ℕ) → length r ≡ w → length s ≡ a → (t l : List ℕ) → length t ≡ b → (i : ℕ) → slice_index (env ++ (((1 ∷ (r ++ s)) ++ (t ++ [])) ++ l)) (g i) ≡ slice_index ((env ++ r) ++ (t ++ l)) i
  inner_words_apart r s hr hs t l ht i = inner_words 1 r s (t ++ l) _ hr hs (simp (append_assoc, append-nil)) i

  -- ---- a turn of the outer machine

  abbrev opening : Actions
  opening = Cons (Update (second_place outer) (renumber_row g inner.init)) (skip_with 1)

  abbrev holding : Actions
  holding = Cons (Update 1 (renumber_row f outer.item)) opening

  start_values : (r s t l : List ℕ) → length r ≡ w → length s ≡ a → word_values (renumber_row g inner.init) (env ++ ((0 ∷ (r ++ (s ++ t))) ++ l)) inputs ≡ start r
  start_values r s t l hr hs =
      values_renumbered inputs g (env ++ ((0 ∷ (r ++ (s ++ t))) ++ l)) ((env ++ r) ++ (t ++ l)) (inner_words 0 r s (t ++ l) _ hr hs (simp append_assoc)) inner.init
      ∙ values_before laws inputs (env ++ r) (t ++ l) inner.init (subst (λ z. IsTrue (all_bound z inner.init)) (omega (arith, length-append env r)) init_bound)

  begins_inner : (r s t l : List ℕ) → length r ≡ w → length s ≡ a → length t ≡ b → run_act (Update (second_place outer) (renumber_row g inner.init)) env inputs (0 ∷ (r ++ (s ++ t))) l ≡ Continue (0 ∷ (r ++ (s ++ start r))) l
  begins_inner r s t l hr hs ht =
      ap (λ z. Continue (overwrite (second_place outer) z (0 ∷ (r ++ (s ++ t)))) l) (start_values r s t l hr hs)
      ∙ ap (λ z. Continue (overwrite (second_place outer) (start r) z) l) (sym (inner_apart 0 r s t))
      ∙ ap (λ z. Continue z l) (overwritten_at (0 ∷ (r ++ s)) (start r) t [] (second_place outer) (omega (arith, length-append r s)) (length_start r ∙ sym ht))
      ∙ ap (λ z. Continue z l) (inner_apart 0 r s (start r))

  run_opening : (r s t l : List ℕ) → length r ≡ w → length s ≡ a → length t ≡ b → run_acts opening env inputs (0 ∷ (r ++ (s ++ t))) l ≡ Skip (1 ∷ (r ++ (s ++ start r)))
  run_opening r s t l hr hs ht = ap (λ u. then_run u (λ p q. run_acts (skip_with 1) env inputs p q)) (begins_inner r s t l hr hs ht)

  -- behind the acts of the outer machine its row is held, and the inner machine begins
  run_holding : (r s t l : List ℕ) → length r ≡ w → length s ≡ a → length t ≡ b → run_acts holding env inputs (0 ∷ (r ++ (s ++ t))) l ≡ Skip (1 ∷ (outer_row s l ++ (s ++ start (outer_row s l))))
  run_holding r s t l hr hs ht =
      ap (λ u. then_run u (λ p q. run_acts opening env inputs p q)) (holds_row inputs env outer b scoped r s t l hr hs ht)
      ∙ run_opening (outer_row s l) s t l (length_row s l) hs ht

  outer_ends : (r t : List ℕ) → length r ≡ w → length t ≡ b → (go : List ℕ → List ℕ → ActResult) (u : ActResult) → KeepsState a u → AlikeTurns R (turn_end (then_run (with_locals [] (then_run (placed (0 ∷ r) t [] u) (λ p q. run_acts holding env inputs p q))) go) row_of) (outer_turn start (turn_end u outer_row))
  outer_ends r t hr ht go (Continue s l) hs =
      subst (λ v. AlikeTurns R (turn_end (then_run (with_locals [] v) go) row_of) (outer_turn start (Gives (outer_row s l) s))) (sym (run_holding r s t l hr hs ht))
      (both_skip (held_opened _ (outer_row s l) s (start (outer_row s l)) refl (length_row s l) hs (length_start (outer_row s l))))
  outer_ends r t hr ht go (Skip s) hs = both_skip (held_closed _ r s t refl hr hs ht)
  outer_ends r t hr ht go (Halt s) hs = both_stop
  outer_ends r t hr ht go (Break x) hs = both_break x

  -- ---- a turn of the inner machine

  abbrev closed : List ℕ → List ℕ → List ℕ → ActResult
  closed r s t = Skip (0 ∷ ((r ++ s) ++ (t ++ [])))

  closes : (r s : List ℕ) → length r ≡ w → length s ≡ a → (e : Term) (t l : List ℕ) → length t ≡ b → run_act (close_unless (renumber g e)) env inputs ((1 ∷ (r ++ s)) ++ (t ++ [])) l ≡ choice (word_value e ((env ++ r) ++ (t ++ l)) inputs) (closed r s t) (Continue ((1 ∷ (r ++ s)) ++ (t ++ [])) l)
  closes r s hr hs e t l ht =
      closes_state inputs env (renumber g e) ((r ++ s) ++ (t ++ [])) l
      ∙ ap (λ v. choice (or_zero v) (closed r s t) (Continue ((1 ∷ (r ++ s)) ++ (t ++ [])) l)) (value_renumbered inputs g _ ((env ++ r) ++ (t ++ l)) (inner_words_apart r s hr hs t l ht) e)

  -- a stop of the inner machine closes it
  inner_ends : (r s : List ℕ) (hr : length r ≡ w) (hs : length s ≡ a) (u : ActResult) → KeepsState b u → AlikeTurns R (turn_end (lift inputs (env ++ r) env (1 ∷ (r ++ s)) [] [] b g close_unless (closed r s) (λ t l ht i. inner_words_apart r s hr hs t l ht i) (λ e t l ht. closes r s hr hs e t l ht) (λ t go. refl) (λ t l. refl) u) row_of) (inner_turn r s (turn_end u (inner_row r)))
  inner_ends r s hr hs (Continue t l) ht =
      rw (values_renumbered inputs g (env ++ (((1 ∷ (r ++ s)) ++ (t ++ [])) ++ l)) ((env ++ r) ++ (t ++ l)) (inner_words_apart r s hr hs t l ht) inner.item)
      (both_give _ (held_opened _ r s t (inner_apart 1 r s t) hr hs ht))
  inner_ends r s hr hs (Skip t) ht = both_skip (held_opened _ r s t (inner_apart 1 r s t) hr hs ht)
  inner_ends r s hr hs (Halt t) ht = both_skip (held_closed _ r s t (inner_apart 0 r s t) hr hs ht)
  inner_ends r s hr hs (Break x) ht = both_break x

  abbrev inner_acts : Actions
  inner_acts = move_actions g (second_place outer) close_unless inner.acts

  run_inner : (r s t : List ℕ) → length r ≡ w → length s ≡ a → length t ≡ b → (x : ℕ) → AlikeTurns R (turn_end (choice x (closed r s t) (run_acts inner_acts env inputs ((1 ∷ (r ++ s)) ++ (t ++ [])) [])) row_of) (choice x (Skips (Closed s)) (inner_turn r s (core_turn inner.acts inner.item (env ++ r) inputs t [])))
  run_inner r s t hr hs ht zero = both_skip (held_closed _ r s t (inner_apart 0 r s t) hr hs ht)
  run_inner r s t hr hs ht (suc x) =
      let q : length (1 ∷ (r ++ s)) ≡ second_place outer = omega (arith, length-append r s) in
      rw (
        ← q,
        acts_moved inputs (env ++ r) env (1 ∷ (r ++ s)) [] [] b g close_unless (closed r s) (λ t l ht i. inner_words_apart r s hr hs t l ht i)
            (λ e t l ht. closes r s hr hs e t l ht) (λ t go. refl) (λ t l. refl) inner.acts k t [] ht inner_sound,
      )
      (inner_ends r s hr hs (run_acts inner.acts (env ++ r) inputs t []) (acts_keep b inputs (env ++ r) inner.acts t [] ht))

  -- ---- a turn of the machine

  pub nest_turns : (x : List ℕ) (z : NestState (List ℕ) (List ℕ)) → R x z → AlikeTurns R (core_turn (nest_machine outer inner).acts (nest_machine outer inner).item env inputs x []) (nest_step (λ s. core_turn outer.acts outer.item env inputs s []) (λ r t. guard_value inner.guard (env ++ r) inputs t) (λ r t. core_turn inner.acts inner.item (env ++ r) inputs t []) start z)
  nest_turns x z (held_closed y r s t e hr hs ht) =
      rw (
        e,
        word_behind env ((r ++ (s ++ t)) ++ []) 0 outer.scope scoped,
        run_join (move_actions f (1 + w) StopUnless outer.acts) holding env inputs (0 ∷ (r ++ (s ++ t))) [],
        run_first inputs env outer b scoped n sound r s t hr hs ht,
      )
      (outer_ends r t hr ht _ (run_acts outer.acts env inputs s []) (acts_keep a inputs env outer.acts s [] hs))
  nest_turns x z (held_opened y r s t e hr hs ht) =
      rw (
        e ∙ sym (inner_apart 1 r s t),
        word_behind env (((r ++ s) ++ (t ++ [])) ++ []) 1 outer.scope scoped,
        run_guarded inputs env (renumber g inner.guard) inner_acts ((r ++ s) ++ (t ++ [])) [],
        value_renumbered inputs g (env ++ (((1 ∷ (r ++ s)) ++ (t ++ [])) ++ [])) ((env ++ r) ++ (t ++ [])) (inner_words_apart r s hr hs t [] ht) inner.guard
            ∙ ap (λ z. value inner.guard ((env ++ r) ++ z) inputs) (append-nil t),
      )
      (run_inner r s t hr hs ht (guard_value inner.guard (env ++ r) inputs t))

  pub nest_guards : (x : List ℕ) (z : NestState (List ℕ) (List ℕ)) → R x z → SameTruth (guard_value (nest_machine outer inner).guard env inputs x) (nest_guard (guard_value outer.guard env inputs) z)
  nest_guards x z (held_closed y r s t e hr hs ht) =
      rw e
      (flag_joined outer.scope (renumber f outer.guard) (env ++ (0 ∷ (r ++ (s ++ t)))) inputs
      ∙ rw (
        word_behind env (r ++ (s ++ t)) 0 outer.scope scoped,
        value_renumbered inputs f (env ++ (0 ∷ (r ++ (s ++ t)))) (env ++ s)
            (λ i. let h = first_words inputs env outer b scoped 0 r t hr ht s [] hs i in simp append-nil at h) outer.guard,
      )
      refl)
  nest_guards x z (held_opened y r s t e hr hs ht) =
      rw e
      (flag_joined outer.scope (renumber f outer.guard) (env ++ (1 ∷ (r ++ (s ++ t)))) inputs
      ∙ rw (word_behind env (r ++ (s ++ t)) 1 outer.scope scoped) refl)

  -- no inner stream is open where the machine begins
  pub nest_start : R (word_values (nest_machine outer inner).init env inputs) (Closed (word_values outer.init env inputs))
  nest_start =
      held_closed _ (word_values (zeros w) env inputs) (word_values outer.init env inputs) (word_values (zeros b) env inputs)
      (ap (λ z. 0 ∷ z)
      (values_append inputs (zeros w) (outer.init ++ zeros b) env ∙ ap (λ z. word_values (zeros w) env inputs ++ z) (values_append inputs outer.init (zeros b) env)))
      (length_values inputs (zeros w) env ∙ length-replicate w (Lit 0)) (length_values inputs outer.init env) (length_values inputs (zeros b) env ∙ length-replicate b (Lit 0))
