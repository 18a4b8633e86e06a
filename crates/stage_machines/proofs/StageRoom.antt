-- Where the words of a stage and of what is below it are few enough, each of them has a number of 32 bits in the parts of both.
use Rattle.std.proofs.Common.{◌≡◌, ℕ, ◌+◌, ◌-◌, ◌^◌, ◌<◌, List, ◌++◌, length, refl, ap, subst, arith}
use Rattle.list_denotation.specs.Terms.{Term}
use Rattle.stateful_core.specs.CoreTerms.{StopUnless, Actions, join}
use Rattle.stateful_core.specs.CoreShapes.{actions_locals}
use Rattle.stateful_core.specs.MostWords.{parts_words, added_words}
use Rattle.stateful_core.specs.StreamCores.{let_all}
use Rattle.act_moves.specs.Renumbering.{renumber, renumber_row, move_actions}
use Rattle.act_moves.specs.WordRoom.{ReadsBelow, RowReadsBelow, StayBelow, number_in, most_in}
use Rattle.act_moves.specs.declared.renumbering.Room.{Room}
use Rattle.act_moves.proofs.SoundActs.{SoundParts, sound_parts}
use Rattle.act_moves.proofs.WordsBelow.{sure_reads_below, sure_row_reads_below, all_locals_few, acts_stay_below, one_room}
use Rattle.stage_machines.specs.JoinedGuards.{join_guards}
use Rattle.stage_machines.specs.MachineParts.{MachineParts, machine_from, machine_core, machine_locals}
use Rattle.stage_machines.specs.StageMachine.{stage_machine, IsStageOver}

-- the rooms of the code, where the lower part has a words of state and leaves so many local words, and the stage has b words
abbrev pub lower_room : ℕ → ℕ → ℕ → Room
lower_room scope a b = record { at = scope + a; by = b; then_at = 0; then_by = 0 }

abbrev pub guard_room : ℕ → ℕ → Room
guard_room scope a = record { at = scope; by = a; then_at = 0; then_by = 0 }

abbrev pub stage_room : ℕ → ℕ → ℕ → ℕ → Room
stage_room scope a b locals = record { at = scope; by = a; then_at = scope + a + b; then_by = locals }

module _ (w : ℕ) (m stage : MachineParts) (over : IsStageOver w m stage)
    (room : m.scope + w + added_words (machine_core m) + added_words (machine_core stage) < 2 ^ 32) where
  abbrev e : ℕ
  e = m.scope

  lower : SoundParts e w m.init m.guard m.acts m.item
  lower = sound_parts e w m.init m.guard m.acts m.item over.lower_sound

  own : SoundParts e (length m.item) stage.init stage.guard stage.acts stage.item
  own =
      subst (λ x. SoundParts x (length m.item) stage.init stage.guard stage.acts stage.item) over.same_scope
      (sound_parts stage.scope (length m.item) stage.init stage.guard stage.acts stage.item over.stage_sound)

  words : e + w + parts_words e m.init m.acts m.item + parts_words e stage.init stage.acts stage.item < 2 ^ 32
  words = omega (arith, ap (λ x. parts_words x stage.init stage.acts stage.item) over.same_scope)

  pub few_locals : w + actions_locals m.acts < 2 ^ 32
  few_locals = omega (arith, all_locals_few e m.acts)

  module _ (a b locals : ℕ) (a_is : a ≡ length m.init) (b_is : b ≡ length stage.init) (locals_are : locals ≡ machine_locals w m) where
    pub guard_below : ReadsBelow (most_in (guard_room e a)) stage.guard
    guard_below = sure_reads_below (e + length stage.init) (most_in (guard_room e a)) (omega (arith, words)) stage.guard own.guard_sure

    pub lower_guard_below : ReadsBelow (most_in (lower_room e a b)) m.guard
    lower_guard_below = sure_reads_below (e + length m.init) (most_in (lower_room e a b)) (omega (arith, words)) m.guard lower.guard_sure

    pub lower_item_below : RowReadsBelow (most_in (lower_room e a b)) m.item
    lower_item_below =
        sure_row_reads_below (e + length m.init + w + actions_locals m.acts) (most_in (lower_room e a b)) (omega (arith, words, all_locals_few e m.acts)) m.item lower.item_sure

    pub item_below : RowReadsBelow (most_in (stage_room e a b locals)) stage.item
    item_below =
        sure_row_reads_below (e + length stage.init + length m.item + actions_locals stage.acts) (most_in (stage_room e a b locals))
        (omega (arith, words, all_locals_few e m.acts, all_locals_few e stage.acts)) stage.item own.item_sure

    pub lower_acts_below : StayBelow (most_in (lower_room e a b)) (2 ^ 32) m.acts
    lower_acts_below =
        acts_stay_below e (length m.init) (most_in (lower_room e a b)) (2 ^ 32) (omega (arith, words)) m.acts (e + length m.init + w) (omega (arith, words)) lower.acts_sound

    pub acts_below : StayBelow (most_in (stage_room e a b locals)) (2 ^ 32 - a) stage.acts
    acts_below =
        acts_stay_below e (length stage.init) (most_in (stage_room e a b locals)) (2 ^ 32 - a) (omega (arith, words)) stage.acts (e + length stage.init + length m.item)
        (omega (arith, words, all_locals_few e m.acts)) own.acts_sound

-- ---- what is made of them

module _ (w : ℕ) (m stage : MachineParts) (a b locals : ℕ) where
  -- the parts that the code makes are those of both
  pub stage_made : (made_init : List Term) (g h made_guard : Term) (made_acts : Actions) (made_item : List Term) → a ≡ length m.init → b ≡ length stage.init → locals ≡ machine_locals w m
      → made_init ≡ m.init ++ stage.init → g ≡ renumber (number_in (guard_room m.scope a)) stage.guard → h ≡ renumber (number_in (lower_room m.scope a b)) m.guard
      → made_guard ≡ join_guards g h
      → made_acts ≡ join (move_actions (number_in (lower_room m.scope a b)) 0 StopUnless m.acts)
      (let_all (renumber_row (number_in (lower_room m.scope a b)) m.item) (move_actions (number_in (stage_room m.scope a b locals)) a StopUnless stage.acts))
      → made_item ≡ renumber_row (number_in (stage_room m.scope a b locals)) stage.item
      → machine_from m.scope made_init made_guard made_acts made_item ≡ stage_machine w m stage
  stage_made made_init g h made_guard made_acts made_item a_is b_is locals_are i_is g_is h_is guard_is acts_are item_is =
      rw (i_is, guard_is, g_is, h_is, acts_are, item_is, a_is, b_is, locals_are, one_room m.scope (length m.init), one_room (m.scope + length m.init) (length stage.init)) refl
