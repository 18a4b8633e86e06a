-- A machine adds at most the words that are counted for its term.
use Rattle.std.proofs.Common.{◌≡◌, ℕ, ◌+◌, ◌≤◌, [], ◌∷◌, length, Bool, true, false, arith, length-append}
use Rattle.std.specs.Prelude.{IsTrue, if◌then◌else◌}
use Rattle.std.proofs.lemmas.Bool.{ltb-true}
use Rattle.std.proofs.lemmas.List.{length-replicate}
use Rattle.strm_num.proofs.Truths.{both_true}
use Rattle.list_denotation.specs.Scopes.{is_bound_leaf, all_bound}
use Rattle.list_denotation.specs.TermRows.{variables}
use Rattle.list_denotation.specs.Terms.{Term, Lit}
use Rattle.list_denotation.specs.Typing.{all_undivided}
use Rattle.stateful_core.specs.CoreTerms.{StopUnless, Update, Actions, Nil, Cons, CoreTerm, Lin, Tr, Nest, Zip}
use Rattle.stateful_core.specs.CoreShapes.{actions_locals}
use Rattle.stateful_core.specs.MostWords.{actions_words, added_words, most_words}
use Rattle.stateful_core.specs.WellFormed.{is_sound_core}
use Rattle.stateful_core.proofs.VariableRows.{length_variables}
use Rattle.stateful_core.proofs.SoundTerms.{stage_of, nest_of, zip_of}
use Rattle.act_moves.specs.Flags.{skip_with, close_unless}
use Rattle.act_moves.specs.Renumbering.{with_room, renumber, renumber_row, move_actions}
use Rattle.act_moves.proofs.RenumberedLeaves.{length_renumbered}
use Rattle.act_moves.proofs.SoundActs.{SoundParts, room_cases}
use Rattle.act_moves.proofs.MovedWords.{words_join, straight_renumbered, straight_words, words_moved}
use Rattle.stage_machines.specs.JoinedGuards.{is_always}
use Rattle.stage_machines.specs.MachineParts.{MachineParts, machine_from, machine_core}
use Rattle.zip_linearise.specs.HeldRows.{zeros, first_word, second_place, hold_acts}
use Rattle.zip_linearise.specs.Laws.{Laws}
use Rattle.zip_linearise.specs.LinearMachine.{linear_machine}
use Rattle.zip_linearise.specs.NestMachine.{inner_word, guarded_acts, nest_machine}
use Rattle.zip_linearise.specs.ZipMachine.{right_word, zip_machine}
use Rattle.zip_linearise.proofs.SoundMachines.{machine_width, machine_parts, machine_scope, inner_scope, right_scope, stage_over, machine_is_sound}
use Rattle.zip_linearise.proofs.MachineTemps.{machine_temps}
use Rattle.zip_linearise.proofs.SureGuards.{held_length}

-- ---- machines

-- the row is written over words that it doesn't read
hold_words : (m : MachineParts) (others : ℕ) (more : Actions) → SoundParts m.scope 0 m.init m.guard m.acts m.item → actions_words m.scope (hold_acts m others more) ≤ actions_words m.scope m.acts + actions_words m.scope more
hold_words m others more lower =
    let e = m.scope in
    let w = length m.item in
    let a = length m.init in
    let f = first_word m others in
    let n = e + a + 0 + actions_locals m.acts in
    let bound = both_true (all_bound n m.item) (all_undivided m.item) lower.item_sure in
    omega (
      arith,
      words_moved f (1 + w) a e e
          (λ i at count low o. omega (arith, o, room_cases e (1 + w) i, room_cases (e + 1 + w + a) others (with_room e (1 + w) i)))
          StopUnless (λ t. omega arith)
          m.acts (e + a + 0) lower.acts_sound,
      words_join e (move_actions f (1 + w) StopUnless m.acts) (Cons (Update 1 (renumber_row f m.item)) more),
      straight_words e 1 (renumber_row f m.item)
          (straight_renumbered f (e + 1) (is_bound_leaf n) m.item
          (λ i p. omega (arith, room_cases e (1 + w) i, room_cases (e + 1 + w + a) others (with_room e (1 + w) i))) bound.0),
    )

guarded_words : (scope : ℕ) (g : Term) (acts : Actions) → actions_words scope (guarded_acts g acts) ≤ 3 + actions_words scope acts
guarded_words scope g acts = by_form (is_always g)
  where
    by_form : (t : Bool) → actions_words scope (if t then acts else Cons (close_unless g) acts) ≤ 3 + actions_words scope acts
    by_form true = omega arith
    by_form false = omega arith

-- the inner state is begun from words before it
nest_words : (outer inner : MachineParts) → SoundParts outer.scope 0 outer.init outer.guard outer.acts outer.item → SoundParts inner.scope 0 inner.init inner.guard inner.acts inner.item → inner.scope ≡ outer.scope + length outer.item → added_words (machine_core (nest_machine outer inner)) ≤ added_words (machine_core outer) + added_words (machine_core inner) + 7
nest_words outer inner lower own nested =
    let e = outer.scope in
    let w = length outer.item in
    let a = length outer.init in
    let b = length inner.init in
    let p = second_place outer in
    let g = inner_word outer in
    let begin = both_true (all_bound inner.scope inner.init) (all_undivided inner.init) own.init_sure in
    omega (
      arith,
      words_moved g p b inner.scope e
          (λ i at count low o. omega (arith, o, room_cases e 1 i, room_cases (e + 1 + w) a (with_room e 1 i))) close_unless
          (λ t. omega arith)
          inner.acts (inner.scope + b + 0) own.acts_sound,
      hold_words outer b (Cons (Update p (renumber_row g inner.init)) (skip_with 1)) lower,
      straight_words e p (renumber_row g inner.init)
          (straight_renumbered g (e + p) (is_bound_leaf inner.scope) inner.init
          (λ i q. omega (arith, ltb-true i inner.scope q, room_cases e 1 i, room_cases (e + 1 + w) a (with_room e 1 i)))
          begin.0),
      guarded_words e (renumber g inner.guard) (move_actions g p close_unless inner.acts),
      length_renumbered g inner.item,
      held_length w outer.init (zeros b),
      length-replicate b (Lit 0),
    )

zip_words : (left right : MachineParts) → SoundParts left.scope 0 left.init left.guard left.acts left.item → SoundParts right.scope 0 right.init right.guard right.acts right.item → right.scope ≡ left.scope → added_words (machine_core (zip_machine left right)) ≤ added_words (machine_core left) + added_words (machine_core right) + length left.item + 4
zip_words left right lower own beside =
    let e = left.scope in
    let p = second_place left in
    let g = right_word left in
    omega (
      arith,
      words_moved g p (length right.init) right.scope e (λ i at count low o. omega (arith, o, room_cases e p i)) StopUnless
          (λ t. omega arith)
          right.acts (right.scope + length right.init + 0) own.acts_sound,
      hold_words left (length right.init) (skip_with 1) lower,
      words_join e (move_actions g p StopUnless right.acts) (Cons (Update 0 (Lit 0 ∷ [])) Nil),
      length-append (variables (e + 1) (length left.item)) (renumber_row g right.item),
      length_variables (e + 1) (length left.item),
      length_renumbered g right.item,
      held_length (length left.item) left.init right.init,
    )

-- ---- terms

pub machine_added_words : (laws : Laws) (c : CoreTerm) → IsTrue (is_sound_core c) → added_words (machine_core (linear_machine c)) ≤ added_words c
machine_added_words laws (Lin scope init guard acts item) h = omega arith
machine_added_words laws (Tr scope of init guard acts item) h =
    let s = stage_of scope of init guard acts item h in
    let m = linear_machine of in
    omega (
      arith,
      machine_added_words laws of s.below,
      laws.stage_words 0 m (machine_from scope init guard acts item) (stage_over scope of init guard acts item s (machine_is_sound laws of s.below)),
    )
machine_added_words laws (Nest of inner) h =
    let s = nest_of of inner h in
    let o = linear_machine of in
    let i = linear_machine inner in
    omega (
      arith,
      machine_added_words laws of s.first,
      machine_added_words laws inner s.second,
      nest_words o i (machine_parts laws of s.first) (machine_parts laws inner s.second) (inner_scope of inner s),
    )
machine_added_words laws (Zip left right) h =
    let s = zip_of left right h in
    let o = linear_machine left in
    let i = linear_machine right in
    omega (
      arith,
      machine_added_words laws left s.first,
      machine_added_words laws right s.second,
      machine_width left,
      zip_words o i (machine_parts laws left s.first) (machine_parts laws right s.second) (right_scope left right s),
    )

pub machine_most_words : (laws : Laws) (c : CoreTerm) → IsTrue (is_sound_core c) → (d : ℕ) → most_words (machine_core (linear_machine c)) d ≤ most_words c d
machine_most_words laws c h d = omega (arith, machine_added_words laws c h, machine_temps laws c, machine_scope c h)
