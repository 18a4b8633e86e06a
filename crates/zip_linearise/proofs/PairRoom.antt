-- Where the words of two machines are few enough, each of them has a number of 32 bits in the machine of both.
use Rattle.std.proofs.Common.{◌≡◌, ℕ, ◌+◌, ◌-◌, ◌^◌, ◌<◌, List, [], ◌∷◌, ◌++◌, length, refl, ap, arith}
use Rattle.std.specs.Prelude.{IsTrue}
use Rattle.list_denotation.specs.TermRows.{variables}
use Rattle.list_denotation.specs.Terms.{Term, Lit, Var}
use Rattle.stateful_core.specs.CoreTerms.{StopUnless, Update, When, Actions, Nil, Cons, join}
use Rattle.stateful_core.specs.CoreShapes.{actions_locals}
use Rattle.stateful_core.specs.MostWords.{actions_words}
use Rattle.stateful_core.specs.StreamCores.{set_state}
use Rattle.stateful_core.specs.WellFormed.{is_sound_core}
use Rattle.act_moves.specs.Flags.{skip_with, close_unless}
use Rattle.act_moves.specs.Renumbering.{renumber, renumber_row, move_actions}
use Rattle.act_moves.specs.WordRoom.{ReadsBelow, RowReadsBelow, StayBelow, number_in, most_in}
use Rattle.act_moves.specs.declared.renumbering.Room.{Room}
use Rattle.act_moves.proofs.SoundActs.{SoundParts, sound_parts}
use Rattle.act_moves.proofs.WordsBelow.{sure_reads_below, sure_row_reads_below, all_locals_few, acts_stay_below, one_room}
use Rattle.stage_machines.specs.MachineParts.{MachineParts, machine_from, machine_core}
use Rattle.zip_linearise.specs.HeldRows.{zeros, first_word, second_place, flag_or}
use Rattle.zip_linearise.specs.NestMachine.{inner_word, guarded_acts, nest_machine}
use Rattle.zip_linearise.specs.ZipMachine.{right_word, due_guard, zip_machine}

-- the rooms of the code, over a machine with a row of r words and a states, where the other machine has b states
abbrev pub first_room : ℕ → ℕ → ℕ → ℕ → Room
first_room scope r a b = record { at = scope; by = 1 + r; then_at = scope + (1 + r + a); then_by = b }

abbrev pub inner_room : ℕ → ℕ → ℕ → Room
inner_room scope r a = record { at = scope; by = 1; then_at = scope + 1 + r; then_by = a }

abbrev pub right_room : ℕ → ℕ → Room
right_room scope place = record { at = scope; by = place; then_at = 0; then_by = 0 }

-- ---- a machine that is sound, in a room

-- where its words, with those of the room, are few enough, each has a number of 32 bits there
module _ (m : MachineParts) (sound : IsTrue (is_sound_core (machine_core m))) (room : Room)
    (few : m.scope + length m.init + actions_words m.scope m.acts + (room.by + room.then_by) < 2 ^ 32) where
  parts : SoundParts m.scope 0 m.init m.guard m.acts m.item
  parts = sound_parts m.scope 0 m.init m.guard m.acts m.item sound

  pub guard_in_room : ReadsBelow (most_in room) m.guard
  guard_in_room = sure_reads_below (m.scope + length m.init) (most_in room) (omega arith) m.guard parts.guard_sure

  pub init_in_room : RowReadsBelow (most_in room) m.init
  init_in_room = sure_row_reads_below m.scope (most_in room) (omega arith) m.init parts.init_sure

  pub item_in_room : RowReadsBelow (most_in room) m.item
  item_in_room =
      sure_row_reads_below (m.scope + length m.init + 0 + actions_locals m.acts) (most_in room) (omega (arith, all_locals_few m.scope m.acts)) m.item parts.item_sure

  pub acts_in_room : (place : ℕ) → length m.init + place < 2 ^ 32 → StayBelow (most_in room) (2 ^ 32 - place) m.acts
  acts_in_room place h =
      acts_stay_below m.scope (length m.init) (most_in room) (2 ^ 32 - place) (omega arith) m.acts (m.scope + length m.init + 0) (omega arith) parts.acts_sound

-- ---- numbers of words

pub first_numbers : (m : MachineParts) (r a b others : ℕ) → r ≡ length m.item → a ≡ length m.init → b ≡ others → number_in (first_room m.scope r a b) ≡ first_word m others
first_numbers m r a b others r_is a_is b_is =
    rw (r_is, a_is, b_is)
    (ap (λ p. number_in (record { at = m.scope; by = 1 + length m.item; then_at = p; then_by = others }))
    (let q : m.scope + (1 + length m.item + length m.init) ≡ m.scope + 1 + length m.item + length m.init = omega arith in q))

pub inner_numbers : (m : MachineParts) (r a : ℕ) → r ≡ length m.item → a ≡ length m.init → number_in (inner_room m.scope r a) ≡ inner_word m
inner_numbers m r a r_is a_is = rw (r_is, a_is) refl

pub right_numbers : (m : MachineParts) (place : ℕ) → place ≡ second_place m → number_in (right_room m.scope place) ≡ right_word m
right_numbers m place is = rw is (one_room m.scope (second_place m))

-- ---- what is made of them

-- the parts that the code makes are those of the machine of an outer machine and an inner one
pub nest_made : (outer inner : MachineParts) (f g : ℕ → ℕ) (place : ℕ) (init : List Term) (h guard : Term) (opening acts : Actions) (item : List Term)
    → f ≡ first_word outer (length inner.init) → g ≡ inner_word outer → place ≡ second_place outer
    → init ≡ Lit 0 ∷ (zeros (length outer.item) ++ (outer.init ++ zeros (length inner.init))) → h ≡ renumber f outer.guard → guard ≡ flag_or (Var outer.scope) h
    → opening ≡ join (move_actions f (1 + length outer.item) StopUnless outer.acts) (Cons (Update 1 (renumber_row f outer.item)) (Cons (Update place (renumber_row g inner.init)) (skip_with 1)))
    → acts ≡ Cons (When (Var outer.scope) Nil opening) (guarded_acts (renumber g inner.guard) (move_actions g place close_unless inner.acts))
    → item ≡ renumber_row g inner.item → machine_from outer.scope init guard acts item ≡ nest_machine outer inner
nest_made outer inner f g place init h guard opening acts item f_is g_is place_is i_is h_is guard_is o_is acts_are item_is =
    rw (i_is, guard_is, h_is, acts_are, o_is, item_is, f_is, g_is, place_is) refl

-- and those of the machine of two machines side by side
pub zip_made : (left right : MachineParts) (f g : ℕ → ℕ) (row place : ℕ) (init : List Term) (h k guard : Term) (holding acts : Actions) (item : List Term)
    → f ≡ first_word left (length right.init) → g ≡ right_word left → row ≡ length left.item → place ≡ second_place left
    → init ≡ Lit 0 ∷ (zeros (length left.item) ++ (left.init ++ right.init)) → h ≡ renumber g right.guard → k ≡ renumber f left.guard → guard ≡ due_guard (Var left.scope) h k
    → holding ≡ join (move_actions f (1 + length left.item) StopUnless left.acts) (Cons (Update 1 (renumber_row f left.item)) (skip_with 1))
    → acts ≡ Cons (When (Var left.scope) Nil holding) (join (move_actions g place StopUnless right.acts) (set_state (Lit 0 ∷ [])))
    → item ≡ variables (left.scope + 1) row ++ renumber_row g right.item → machine_from left.scope init guard acts item ≡ zip_machine left right
zip_made left right f g row place init h k guard holding acts item f_is g_is row_is place_is i_is h_is k_is guard_is o_is acts_are item_is =
    rw (i_is, guard_is, h_is, k_is, acts_are, o_is, item_is, f_is, g_is, row_is, place_is) refl
