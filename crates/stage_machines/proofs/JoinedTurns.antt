-- The parts that join a stage and what is below it take the turns of both, over both states.
use Rattle.std.proofs.Common.{◌≡◌, ℕ, ◌+◌, List, [], ◌∷◌, ◌++◌, length, refl, sym, ap, ◌∙◌, arith, length-append, append_assoc, append-nil}
use Rattle.std.specs.Prelude.{IsTrue, slice_index}
use Rattle.strm_num.proofs.Truths.{both_true}
use Rattle.list_denotation.specs.declared.input.Input.{Input}
use Rattle.list_denotation.specs.Scopes.{is_bound, all_bound}
use Rattle.list_denotation.specs.Terms.{Term}
use Rattle.list_denotation.specs.Typing.{is_undivided, all_undivided}
use Rattle.list_denotation.specs.Values.{Is, value}
use Rattle.stateful_core.specs.Actions.{ActResult, Continue, Skip, Halt, Break, then_run, run_acts}
use Rattle.stateful_core.specs.CoreRows.{turn_end}
use Rattle.stateful_core.specs.CoreShapes.{actions_locals}
use Rattle.stateful_core.specs.CoreTerms.{StopUnless, Actions}
use Rattle.stateful_core.specs.StreamCores.{let_all}
use Rattle.stateful_core.specs.WordValues.{or_zero, word_value, word_values}
use Rattle.act_moves.specs.Renumbering.{renumber, renumber_row, move_actions}
use Rattle.act_moves.proofs.ActLengths.{run_join, KeepsState, acts_keep, HasLocals, has_locals_at, acts_add}
use Rattle.act_moves.proofs.MovedActs.{run_moved, placed}
use Rattle.act_moves.proofs.RenumberedValues.{value_renumbered, values_renumbered, length_values, values_append, room_at}
use Rattle.act_moves.proofs.SoundActs.{SoundParts, sound_parts}
use Rattle.machine_turns.specs.AlikeTurns.{AlikeTurns, both_give, both_skip, both_stop, both_break, SameTruth}
use Rattle.machine_turns.specs.StageTurns.{with_state, join_turn, join_guard}
use Rattle.stage_machines.specs.JoinedStates.{BothStates, both}
use Rattle.stage_machines.specs.Laws.{Laws}
use Rattle.stage_machines.specs.MachineParts.{MachineParts, first_state, machine_guard, machine_turn, machine_locals}
use Rattle.stage_machines.specs.StageMachine.{lower_word, guard_word, stage_word, stage_machine, IsStageOver}
use Rattle.stage_machines.proofs.JoinedGuards.{guards_joined}

-- ---- states and guards

module _ (inputs : List Input) (env : List ℕ) (w : ℕ) (m stage : MachineParts) where
  pub states_joined : BothStates (length m.init) (length stage.init) (first_state (stage_machine w m stage) env inputs) (first_state m env inputs, first_state stage env inputs)
  states_joined =
      both _ (first_state m env inputs) (first_state stage env inputs) (values_append inputs m.init stage.init env)
      (length_values inputs m.init env) (length_values inputs stage.init env)

  pub guards_of_both : length env ≡ m.scope → (x : List ℕ) (p : List ℕ × List ℕ) → BothStates (length m.init) (length stage.init) x p → SameTruth (machine_guard (stage_machine w m stage) env inputs x) (join_guard (machine_guard m env inputs) (machine_guard stage env inputs) p)
  guards_of_both scoped x p (both y s t e hs ht) =
      rw (
        e,
        ← value_renumbered inputs (guard_word m) (env ++ (s ++ t)) (env ++ t)
            (λ i. room_at env s t (env ++ (s ++ t)) (env ++ t) m.scope (length m.init) scoped hs refl refl i) stage.guard,
        ← value_renumbered inputs (lower_word m stage) (env ++ (s ++ t)) (env ++ s)
            (λ i. room_at (env ++ s) t [] (env ++ (s ++ t)) (env ++ s) (m.scope + length m.init) (length stage.init) (omega (arith, length-append env s)) ht
            (simp (append_assoc, append-nil)) (simp append-nil) i) m.guard,
      )
      (guards_joined (renumber (guard_word m) stage.guard) (renumber (lower_word m stage) m.guard) (env ++ (s ++ t)) inputs)

-- ---- turns

module _ (laws : Laws) (inputs : List Input) (env : List ℕ) (w : ℕ) (m stage : MachineParts) (over : IsStageOver w m stage) (scoped : length env ≡ m.scope) where
  abbrev a : ℕ
  a = length m.init

  abbrev b : ℕ
  b = length stage.init

  abbrev f : ℕ → ℕ
  f = lower_word m stage

  abbrev g : ℕ → ℕ
  g = stage_word w m stage

  abbrev R : List ℕ → List ℕ × List ℕ → Type 0
  R = BothStates a b

  lower : SoundParts m.scope w m.init m.guard m.acts m.item
  lower = sound_parts m.scope w m.init m.guard m.acts m.item over.lower_sound

  own : SoundParts stage.scope (length m.item) stage.init stage.guard stage.acts stage.item
  own = sound_parts stage.scope (length m.item) stage.init stage.guard stage.acts stage.item over.stage_sound

  item_sure : IsTrue (all_bound (m.scope + a + w + actions_locals m.acts) m.item) × IsTrue (all_undivided m.item)
  item_sure = both_true (all_bound (m.scope + a + w + actions_locals m.acts) m.item) (all_undivided m.item) lower.item_sure

  item_bound : (n : ℕ) → n ≡ m.scope + a + machine_locals w m → IsTrue (all_bound n m.item)
  item_bound n e = laws.bound_within (m.scope + a + w + actions_locals m.acts) n m.item (omega arith) item_sure.0

  lower_words : (t : List ℕ) → length t ≡ b → (s l : List ℕ) → length s ≡ a → (i : ℕ) → slice_index (env ++ ((s ++ t) ++ l)) (f i) ≡ slice_index (env ++ (s ++ l)) i
  lower_words t ht s l hs i =
      room_at (env ++ s) t l (env ++ ((s ++ t) ++ l)) (env ++ (s ++ l)) (m.scope + a) b
      (omega (arith, length-append env s)) ht (simp append_assoc) (simp append_assoc) i

  stage_words : (s l : List ℕ) → length s ≡ a → length l ≡ machine_locals w m → (t k : List ℕ) → length t ≡ b → (i : ℕ) → slice_index (env ++ ((s ++ (t ++ [])) ++ (l ++ k))) (g i) ≡ slice_index (env ++ (t ++ k)) i
  stage_words s l hs hl t k ht i =
      room_at (env ++ (s ++ t)) l k (env ++ ((s ++ (t ++ [])) ++ (l ++ k))) (env ++ (s ++ (t ++ k))) (m.scope + a + b) (machine_locals w m)
      (omega (arith, length-append env (s ++ t), length-append s t)) hl (simp (append_assoc, append-nil)) (simp append_assoc) _
      ∙ room_at env s (t ++ k) (env ++ (s ++ (t ++ k))) (env ++ (t ++ k)) m.scope a scoped hs refl refl i

  -- a word of the lower row has a value, whatever local words were added
  item_value : (e : Term) (s t l added : List ℕ) → length s ≡ a → length t ≡ b → IsTrue (is_bound (length (env ++ (s ++ l))) e) → IsTrue (is_undivided e) → value (renumber f e) (env ++ ((s ++ t) ++ (l ++ added))) inputs ≡ Is (word_value e (env ++ (s ++ l)) inputs)
  item_value e s t l added hs ht bound undivided =
      value_renumbered inputs f (env ++ ((s ++ t) ++ (l ++ added))) (env ++ (s ++ (l ++ added))) (lower_words t ht s (l ++ added) hs) e
      ∙ ap (λ z. value e z inputs) (let q : env ++ (s ++ (l ++ added)) ≡ (env ++ (s ++ l)) ++ added = simp append_assoc in q)
      ∙ laws.bound_value (env ++ (s ++ l)) added inputs e bound
      ∙ has_value (laws.undivided_value (env ++ (s ++ l)) inputs e undivided)
    where
      has_value : ((x : ℕ) × (value e (env ++ (s ++ l)) inputs ≡ Is x)) → value e (env ++ (s ++ l)) inputs ≡ Is (or_zero (value e (env ++ (s ++ l)) inputs))
      has_value p = rw p.1 refl

  run_item : (es : List Term) (rest : Actions) (s t l added whole : List ℕ) → whole ≡ l ++ added → length s ≡ a → length t ≡ b → IsTrue (all_bound (length (env ++ (s ++ l))) es) → IsTrue (all_undivided es) → run_acts (let_all (renumber_row f es) rest) env inputs (s ++ t) whole ≡ run_acts rest env inputs (s ++ t) (l ++ (added ++ word_values es (env ++ (s ++ l)) inputs))
  run_item [] rest s t l added whole q hs ht bound undivided = ap (λ z. run_acts rest env inputs (s ++ t) z) (q ∙ ap (λ z. l ++ z) (sym (append-nil added)))
  run_item (e ∷ es) rest s t l added whole q hs ht bound undivided =
      let p = both_true (is_bound (length (env ++ (s ++ l))) e) (all_bound (length (env ++ (s ++ l))) es) bound in
      let v = both_true (is_undivided e) (all_undivided es) undivided in
      rw (q, item_value e s t l added hs ht p.0 v.0)
      (run_item es rest s t l (added ++ word_value e (env ++ (s ++ l)) inputs ∷ []) _ (append_assoc l added (word_value e (env ++ (s ++ l)) inputs ∷ [])) hs ht p.1 v.1
      ∙ ap (λ z. run_acts rest env inputs (s ++ t) (l ++ z)) (append_assoc added (word_value e (env ++ (s ++ l)) inputs ∷ []) (word_values es (env ++ (s ++ l)) inputs)))

  abbrev row_of : List ℕ → List ℕ → List ℕ
  row_of s l = word_values (renumber_row g stage.item) (env ++ (s ++ l)) inputs

  own_turn : (s l : List ℕ) → length s ≡ a → length l ≡ machine_locals w m → (u : ActResult) → KeepsState b u → AlikeTurns R (turn_end (placed s [] l u) row_of) (with_state (turn_end u (λ t k. word_values stage.item (env ++ (t ++ k)) inputs)) s)
  own_turn s l hs hl (Continue t k) h =
      rw (values_renumbered inputs g (env ++ ((s ++ (t ++ [])) ++ (l ++ k))) (env ++ (t ++ k)) (stage_words s l hs hl t k h) stage.item)
      (both_give _ (both _ s t (ap (λ z. s ++ z) (append-nil t)) hs h))
  own_turn s l hs hl (Skip t) h = both_skip (both _ s t (ap (λ z. s ++ z) (append-nil t)) hs h)
  own_turn s l hs hl (Halt t) h = both_stop
  own_turn s l hs hl (Break x) h = both_break x

  abbrev rest : Actions
  rest = let_all (renumber_row f m.item) (move_actions g a StopUnless stage.acts)

  run_rest : (s t l : List ℕ) → length s ≡ a → length t ≡ b → length l ≡ machine_locals w m → run_acts rest env inputs (s ++ t) l ≡ placed s [] l (run_acts stage.acts env inputs t (word_values m.item (env ++ (s ++ l)) inputs))
  run_rest s t l hs ht hl =
      run_item m.item (move_actions g a StopUnless stage.acts) s t l [] l (sym (append-nil l)) hs ht
      (item_bound _ (omega (arith, length-append env (s ++ l), length-append s l))) item_sure.1
      ∙ ap (λ z. run_acts (move_actions g a StopUnless stage.acts) env inputs (s ++ z) (l ++ word_values m.item (env ++ (s ++ l)) inputs)) (sym (append-nil t))
      ∙ ap (λ z. run_acts (move_actions g z StopUnless stage.acts) env inputs (s ++ (t ++ [])) (l ++ word_values m.item (env ++ (s ++ l)) inputs)) (sym hs)
      ∙ run_moved inputs env env s [] l b g (λ t k h i. stage_words s l hs hl t k h i) stage.acts _ t (word_values m.item (env ++ (s ++ l)) inputs) ht own.acts_sound

  behind_lower : (t : List ℕ) → length t ≡ b → (u : ActResult) → KeepsState a u → HasLocals (machine_locals w m) u → AlikeTurns R (turn_end (then_run (placed [] t [] u) (λ s l. run_acts rest env inputs s l)) row_of) (join_turn (turn_end u (λ s l. word_values m.item (env ++ (s ++ l)) inputs)) (machine_turn stage env inputs) t)
  behind_lower t ht (Continue s l) hs hl =
      rw (run_rest s t l hs ht hl)
      (own_turn s l hs hl (run_acts stage.acts env inputs t (word_values m.item (env ++ (s ++ l)) inputs)) (acts_keep b inputs env stage.acts t _ ht))
  behind_lower t ht (Skip s) hs hl = both_skip (both _ s t refl hs ht)
  behind_lower t ht (Halt s) hs hl = both_stop
  behind_lower t ht (Break x) hs hl = both_break x

  pub turns_of_both : (r : List ℕ) → length r ≡ w → (x : List ℕ) (p : List ℕ × List ℕ) → R x p → AlikeTurns R (machine_turn (stage_machine w m stage) env inputs x r) (join_turn (machine_turn m env inputs p.0 r) (machine_turn stage env inputs) p.1)
  turns_of_both r hr x p (both y s t e hs ht) =
      rw (
        e,
        run_join (move_actions f 0 StopUnless m.acts) rest env inputs (s ++ t) r,
        run_moved inputs env env [] t [] a f (λ s l h i. lower_words t ht s l h i) m.acts _ s r hs lower.acts_sound,
      )
      (behind_lower t ht (run_acts m.acts env inputs s r) (acts_keep a inputs env m.acts s r hs)
      (has_locals_at (length r + actions_locals m.acts) (machine_locals w m) (run_acts m.acts env inputs s r) (omega arith) (acts_add inputs env m.acts s r)))
