-- The parts that join a stage and what is below it are sound, and add no more words than both.
use Rattle.std.proofs.Common.{◌≡◌, ℕ, ◌+◌, ◌<◌, ◌≤◌, List, [], ◌∷◌, ◌++◌, length, refl, ap, subst, arith, length-append}
use Rattle.std.specs.Prelude.{IsTrue}
use Rattle.strm_num.proofs.Truths.{both_true, true_both}
use Rattle.list_denotation.specs.Scopes.{is_bound, all_bound}
use Rattle.list_denotation.specs.Terms.{Term}
use Rattle.list_denotation.specs.Typing.{all_undivided}
use Rattle.stateful_core.specs.CoreShapes.{actions_locals}
use Rattle.stateful_core.specs.CoreTerms.{StopUnless, Actions}
use Rattle.stateful_core.specs.MostWords.{parts_words, added_words}
use Rattle.stateful_core.specs.StreamCores.{let_all}
use Rattle.stateful_core.specs.WellFormed.{is_sure, is_sound_action, are_sound_actions}
use Rattle.act_moves.specs.Renumbering.{with_room, renumber, renumber_row, move_actions}
use Rattle.act_moves.proofs.MovedWords.{words_join, words_lets, words_moved}
use Rattle.act_moves.proofs.RenumberedLeaves.{length_renumbered}
use Rattle.act_moves.proofs.SoundActs.{SoundParts, sound_parts, parts_sound, locals_join, locals_lets, locals_moved, room_cases, room_within, sure_renumbered, bound_renumbered, all_sure_renumbered, sure_append, sound_join, sound_moved}
use Rattle.stage_machines.specs.Laws.{Laws}
use Rattle.stage_machines.specs.MachineParts.{MachineParts, machine_core, is_sound_machine, machine_locals}
use Rattle.stage_machines.specs.StageMachine.{lower_word, guard_word, stage_word, stage_acts, stage_machine, IsStageOver}
use Rattle.stage_machines.proofs.JoinedGuards.{sure_guards}

-- ---- a local word for each word of a row

sound_lets : (m : ℕ) (laws : Laws) (es : List Term) (more : Actions) (n : ℕ) → IsTrue (all_bound n es) → IsTrue (are_sound_actions m (n + length es) more) → IsTrue (are_sound_actions m n (let_all es more))
sound_lets m laws [] more n b h = let P : ℕ → Type 0 = λ i. IsTrue (are_sound_actions m i more) in let q : n + length {A = Term} [] ≡ n = omega arith in subst P q h
sound_lets m laws (e ∷ es) more n b h =
    let p = both_true (is_bound n e) (all_bound n es) b in
    let P : ℕ → Type 0 = λ i. IsTrue (are_sound_actions m i more) in
    let q : n + length (e ∷ es) ≡ n + 1 + length es = omega arith in
    true_both (is_bound n e) (are_sound_actions m (n + 1) (let_all es more)) p.0
    (sound_lets m laws es more (n + 1) (laws.bound_within n (n + 1) es (omega arith) p.1) (subst P q h))

module _ (w : ℕ) (m stage : MachineParts) (over : IsStageOver w m stage) where
  abbrev e : ℕ
  e = m.scope

  abbrev a : ℕ
  a = length m.init

  abbrev b : ℕ
  b = length stage.init

  abbrev f : ℕ → ℕ
  f = lower_word m stage

  abbrev g : ℕ → ℕ
  g = stage_word w m stage

  lower : SoundParts e w m.init m.guard m.acts m.item
  lower = sound_parts e w m.init m.guard m.acts m.item over.lower_sound

  own : SoundParts e (length m.item) stage.init stage.guard stage.acts stage.item
  own =
      subst (λ x. SoundParts x (length m.item) stage.init stage.guard stage.acts stage.item) over.same_scope
      (sound_parts stage.scope (length m.item) stage.init stage.guard stage.acts stage.item over.stage_sound)

  two_states : length (m.init ++ stage.init) ≡ a + b
  two_states = length-append m.init stage.init

  abbrev lower_acts : Actions
  lower_acts = move_actions f 0 StopUnless m.acts

  abbrev own_acts : Actions
  own_acts = move_actions g a StopUnless stage.acts

  -- ---- words

  pub joined_words : added_words (machine_core (stage_machine w m stage)) ≤ added_words (machine_core m) + added_words (machine_core stage)
  joined_words =
      omega (
        arith,
        words_moved f 0 a e e (λ i at count low o. omega (arith, o, room_cases (e + a) b i)) StopUnless (λ t. omega arith) m.acts
            (e + a + w) lower.acts_sound,
        words_moved g a b e e
            (λ i at count low o. omega (arith, o, room_cases e a i, room_cases (e + a + b) (machine_locals w m) (with_room e a i))) StopUnless
            (λ t. omega arith)
            stage.acts (e + b + length m.item) own.acts_sound,
        two_states,
        length_renumbered g stage.item,
        length_renumbered f m.item,
        words_join e lower_acts (let_all (renumber_row f m.item) own_acts),
        words_lets e (renumber_row f m.item) own_acts,
        ap (λ x. parts_words x stage.init stage.acts stage.item) over.same_scope,
      )

  -- ---- sound parts

  lower_within : (n i : ℕ) → i < n → f i < n + b
  lower_within n i h = room_within (e + a) b n i h

  stage_within : (n i : ℕ) → i < n → g i < n + a + machine_locals w m
  stage_within n i h = room_within (e + a + b) (machine_locals w m) (n + a) (with_room e a i) (room_within e a n i h)

  plain_halts : (n : ℕ) (t : Term) → IsTrue (is_sure n t) → IsTrue (is_sound_action (length (m.init ++ stage.init)) n (StopUnless t))
  plain_halts n t h = h

  abbrev n : ℕ
  n = e + length (m.init ++ stage.init) + w

  lower_acts_sound : IsTrue (are_sound_actions (length (m.init ++ stage.init)) n lower_acts)
  lower_acts_sound =
      sound_moved f 0 a (length (m.init ++ stage.init)) (omega (arith, two_states)) StopUnless plain_halts (λ t. refl) m.acts (e + a + w) n
      (λ j i h. omega (arith, lower_within (e + a + w + j) i h, two_states)) lower.acts_sound

  own_acts_sound : IsTrue (are_sound_actions (length (m.init ++ stage.init)) (n + actions_locals lower_acts + length (renumber_row f m.item)) own_acts)
  own_acts_sound =
      sound_moved g a b (length (m.init ++ stage.init)) (omega (arith, two_states)) StopUnless plain_halts (λ t. refl) stage.acts (e + b + length m.item) (n + actions_locals lower_acts + length (renumber_row f m.item))
      (λ j i h. omega (arith, stage_within (e + b + length m.item + j) i h, two_states, locals_moved f 0 StopUnless (λ t. refl) m.acts, length_renumbered f m.item)) own.acts_sound

  row_bound : IsTrue (all_bound (n + actions_locals lower_acts) (renumber_row f m.item))
  row_bound =
      bound_renumbered f (e + a + w + actions_locals m.acts) (n + actions_locals lower_acts)
      (λ i h. omega (arith, lower_within (e + a + w + actions_locals m.acts) i h, two_states, locals_moved f 0 StopUnless (λ t. refl) m.acts))
      m.item (both_true (all_bound (e + a + w + actions_locals m.acts) m.item) (all_undivided m.item) lower.item_sure).0

  acts_locals : actions_locals (stage_acts w m stage) ≡ actions_locals m.acts + (length m.item + actions_locals stage.acts)
  acts_locals =
      omega (
        arith,
        locals_join lower_acts (let_all (renumber_row f m.item) own_acts),
        locals_lets (renumber_row f m.item) own_acts,
        length_renumbered f m.item,
        locals_moved f 0 StopUnless (λ t. refl) m.acts,
        locals_moved g a StopUnless (λ t. refl) stage.acts,
      )

  pub joined_sound : Laws → IsTrue (is_sound_machine w (stage_machine w m stage))
  joined_sound laws =
      parts_sound e w (m.init ++ stage.init) (stage_machine w m stage).guard (stage_acts w m stage) (renumber_row g stage.item) (record {
        init_sure = sure_append e m.init stage.init lower.init_sure own.init_sure;
        guard_sure = sure_guards (e + length (m.init ++ stage.init)) (renumber (guard_word m) stage.guard) (renumber f m.guard)
            (sure_renumbered (guard_word m) (e + b) (e + length (m.init ++ stage.init)) (λ i h. omega (arith, room_within e a (e + b) i h, two_states)) stage.guard own.guard_sure)
            (sure_renumbered f (e + a) (e + length (m.init ++ stage.init)) (λ i h. omega (arith, lower_within (e + a) i h, two_states)) m.guard lower.guard_sure);
        acts_sound = sound_join (length (m.init ++ stage.init)) lower_acts (let_all (renumber_row f m.item) own_acts) n lower_acts_sound
            (sound_lets (length (m.init ++ stage.init)) laws (renumber_row f m.item) own_acts (n + actions_locals lower_acts) row_bound own_acts_sound);
        item_sure = all_sure_renumbered g (e + b + length m.item + actions_locals stage.acts) (n + actions_locals (stage_acts w m stage))
            (λ i h. omega (arith, stage_within (e + b + length m.item + actions_locals stage.acts) i h, two_states, acts_locals)) stage.item own.item_sure;
      })
