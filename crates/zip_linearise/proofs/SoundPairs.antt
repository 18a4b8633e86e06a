-- The machine of two sound machines is sound: of an outer one and an inner one, and of two side by side.
use Rattle.std.proofs.Common.{◌≡◌, ℕ, ◌+◌, ◌≤◌, ◌<◌, [], ◌∷◌, ◌++◌, length, Bool, true, false, refl, subst, arith}
use Rattle.std.proofs.lemmas.Bool.{le-leb}
use Rattle.std.proofs.lemmas.List.{length-replicate}
use Rattle.std.specs.Prelude.{IsTrue, nat_le, if◌then◌else◌}
use Rattle.strm_num.proofs.Truths.{true_both}
use Rattle.list_denotation.specs.TermRows.{variables}
use Rattle.list_denotation.specs.Terms.{Lit, Var}
use Rattle.stateful_core.specs.CoreTerms.{StopUnless, Update, When, Actions, Nil, Cons, join}
use Rattle.stateful_core.specs.CoreShapes.{actions_locals}
use Rattle.stateful_core.specs.WellFormed.{is_sure, all_sure, is_sound_action, are_sound_actions}
use Rattle.stateful_core.proofs.SoundCores.{sure_variables}
use Rattle.act_moves.specs.Flags.{skip_with, close_unless}
use Rattle.act_moves.specs.Renumbering.{with_room, renumber, renumber_row, move_actions}
use Rattle.act_moves.proofs.RenumberedLeaves.{length_renumbered}
use Rattle.act_moves.proofs.SoundActs.{SoundParts, locals_join, locals_moved, room_within, sure_renumbered, all_sure_renumbered, sure_append, sound_join, sound_moved, sound_flag, sound_skip, sound_close}
use Rattle.stage_machines.specs.JoinedGuards.{is_always}
use Rattle.stage_machines.specs.MachineParts.{MachineParts}
use Rattle.zip_linearise.specs.HeldRows.{zeros, first_word, second_place, hold_acts}
use Rattle.zip_linearise.specs.NestMachine.{inner_word, guarded_acts, nest_acts, nest_machine}
use Rattle.zip_linearise.specs.ZipMachine.{right_word, zip_acts, zip_machine}
use Rattle.zip_linearise.proofs.SureGuards.{sure_zeros, held_length, sure_held, sure_flag, sure_flag_or, sure_due}

-- ---- the machine whose row is held

module _ (m : MachineParts) (others states : ℕ) (counted : states ≡ 1 + length m.item + length m.init + others) (lower : SoundParts m.scope 0 m.init m.guard m.acts m.item) where
  abbrev w : ℕ
  w = length m.item

  abbrev a : ℕ
  a = length m.init

  abbrev f : ℕ → ℕ
  f = first_word m others

  first_within : (n i : ℕ) → i < m.scope + a + n → f i < m.scope + states + n
  first_within n i h =
      omega (
        arith,
        room_within m.scope (1 + w) (m.scope + a + n) i h,
        room_within (m.scope + 1 + w + a) others (m.scope + a + n + (1 + w)) (with_room m.scope (1 + w) i),
      )

  first_guard : IsTrue (is_sure (m.scope + states) (renumber f m.guard))
  first_guard = sure_renumbered f (m.scope + a) (m.scope + states) (λ i h. omega (arith, first_within 0 i (omega arith)))
      m.guard lower.guard_sure

  abbrev n : ℕ
  n = m.scope + states

  abbrev first_acts : Actions
  first_acts = move_actions f (1 + w) StopUnless m.acts

  first_sound : IsTrue (are_sound_actions states n first_acts)
  first_sound =
      sound_moved f (1 + w) a states (omega arith) StopUnless (λ i e h. h) (λ e. refl) m.acts (m.scope + a + 0) n
      (λ j i h. omega (arith, first_within j i (omega arith))) lower.acts_sound

  row_sound : IsTrue (is_sound_action states (n + actions_locals first_acts) (Update 1 (renumber_row f m.item)))
  row_sound =
      true_both (nat_le (1 + length (renumber_row f m.item)) states)
      (all_sure (n + actions_locals first_acts) (renumber_row f m.item))
      (le-leb (1 + length (renumber_row f m.item)) states (omega (arith, length_renumbered f m.item)))
      (all_sure_renumbered f (m.scope + a + 0 + actions_locals m.acts) (n + actions_locals first_acts)
      (λ i h. omega (
        arith,
        first_within (actions_locals m.acts) i (omega arith),
        locals_moved f (1 + w) StopUnless (λ e. refl) m.acts,
      )) m.item lower.item_sure)

  hold_sound : (more : Actions) → ((i : ℕ) → n ≤ i → IsTrue (are_sound_actions states i more)) → IsTrue (are_sound_actions states n (hold_acts m others more))
  hold_sound more h =
      sound_join states first_acts (Cons (Update 1 (renumber_row f m.item)) more) n first_sound
      (true_both (is_sound_action states (n + actions_locals first_acts) (Update 1 (renumber_row f m.item)))
      (are_sound_actions states (n + actions_locals first_acts + 0) more) row_sound
      (h (n + actions_locals first_acts + 0) (omega arith)))

-- ---- an outer machine and an inner one

module _ (outer inner : MachineParts) (lower : SoundParts outer.scope 0 outer.init outer.guard outer.acts outer.item) (own : SoundParts inner.scope 0 inner.init inner.guard inner.acts inner.item)
    (nested : inner.scope ≡ outer.scope + length outer.item) where
  abbrev e : ℕ
  e = outer.scope

  abbrev p : ℕ
  p = second_place outer

  abbrev b : ℕ
  b = length inner.init

  abbrev g : ℕ → ℕ
  g = inner_word outer

  abbrev states : ℕ
  states = length (nest_machine outer inner).init

  nest_states : states ≡ 1 + length outer.item + length outer.init + b
  nest_states = omega (arith, held_length (length outer.item) outer.init (zeros b), length-replicate b (Lit 0))

  inner_within : (n i : ℕ) → i < inner.scope + b + n → g i < e + states + n
  inner_within n i h =
      omega (
        arith,
        nest_states,
        room_within e 1 (inner.scope + b + n) i h,
        room_within (e + 1 + length outer.item) (length outer.init) (inner.scope + b + n + 1) (with_room e 1 i),
      )

  -- the state of the inner machine is begun from words of the scope and the row
  begins : (n : ℕ) → e + states ≤ n → IsTrue (is_sound_action states n (Update p (renumber_row g inner.init)))
  begins n h =
      true_both (nat_le (p + length (renumber_row g inner.init)) states) (all_sure n (renumber_row g inner.init))
      (le-leb (p + length (renumber_row g inner.init)) states (omega (arith, nest_states, length_renumbered g inner.init)))
      (all_sure_renumbered g inner.scope n (λ i k. omega (arith, inner_within 0 i (omega arith))) inner.init own.init_sure)

  abbrev open_acts : Actions
  open_acts = Cons (Update p (renumber_row g inner.init)) (skip_with 1)

  opens : (n : ℕ) → e + states ≤ n → IsTrue (are_sound_actions states n open_acts)
  opens n h =
      true_both (is_sound_action states n (Update p (renumber_row g inner.init)))
      (are_sound_actions states (n + 0) (skip_with 1)) (begins n h) (sound_skip states (n + 0) 1 (omega (arith, nest_states)))

  inner_guard : (n : ℕ) → e + states ≤ n → IsTrue (is_sure n (renumber g inner.guard))
  inner_guard n h =
      sure_renumbered g (inner.scope + b) n (λ i k. omega (arith, inner_within 0 i (omega arith))) inner.guard own.guard_sure

  abbrev inner_acts : Actions
  inner_acts = move_actions g p close_unless inner.acts

  inner_sound : (n : ℕ) → e + states ≤ n → IsTrue (are_sound_actions states n inner_acts)
  inner_sound n h =
      sound_moved g p b states (omega (arith, nest_states)) close_unless
      (λ i t k. sound_close states i t (omega (arith, nest_states)) k) (λ t. refl) inner.acts (inner.scope + b + 0) n
      (λ j i k. omega (arith, inner_within j i (omega arith))) own.acts_sound

  guarded_sound : (n : ℕ) → e + states ≤ n → IsTrue (are_sound_actions states n (guarded_acts (renumber g inner.guard) inner_acts))
  guarded_sound n h = by_form (is_always (renumber g inner.guard))
    where
      by_form : (t : Bool) → IsTrue (are_sound_actions states n (if t then inner_acts else Cons (close_unless (renumber g inner.guard)) inner_acts))
      by_form true = inner_sound n h
      by_form false =
          true_both (is_sound_action states n (close_unless (renumber g inner.guard)))
          (are_sound_actions states (n + 0) inner_acts)
          (sound_close states n (renumber g inner.guard) (omega (arith, nest_states)) (inner_guard n h))
          (inner_sound (n + 0) (omega arith))

  guarded_locals : actions_locals (guarded_acts (renumber g inner.guard) inner_acts) ≡ actions_locals inner.acts
  guarded_locals = by_form (is_always (renumber g inner.guard))
    where
      by_form : (t : Bool) → actions_locals (if t then inner_acts else Cons (close_unless (renumber g inner.guard)) inner_acts) ≡ actions_locals inner.acts
      by_form true = locals_moved g p close_unless (λ t. refl) inner.acts
      by_form false = omega (arith, locals_moved g p close_unless (λ t. refl) inner.acts)

  pub nest_sound : SoundParts e 0 (nest_machine outer inner).init (nest_machine outer inner).guard (nest_acts outer inner) (renumber_row g inner.item)
  nest_sound = record {
    init_sure = sure_held e (length outer.item) outer.init (zeros b) lower.init_sure (sure_zeros e b);
    guard_sure = sure_flag_or (e + states) (Var e) (renumber (first_word outer b) outer.guard)
        (sure_flag (e + states) e (omega (arith, nest_states))) (first_guard outer b states nest_states lower);
    acts_sound = subst (λ i. IsTrue (are_sound_actions states i (nest_acts outer inner)))
        (let q : e + states ≡ e + states + 0 = omega arith in q)
        (true_both (is_sound_action states (e + states) (When (Var e) Nil (hold_acts outer b open_acts)))
        (are_sound_actions states (e + states + 0) (guarded_acts (renumber g inner.guard) inner_acts))
        (true_both (is_sure (e + states) (Var e)) (are_sound_actions states (e + states) (hold_acts outer b open_acts))
        (sure_flag (e + states) e (omega (arith, nest_states))) (hold_sound outer b states nest_states lower open_acts opens))
        (guarded_sound (e + states + 0) (omega arith)));
    item_sure = all_sure_renumbered g (inner.scope + b + 0 + actions_locals inner.acts)
        (e + states + 0 + actions_locals (nest_acts outer inner))
        (λ i h. omega (arith, inner_within (actions_locals inner.acts) i (omega arith), guarded_locals))
        inner.item own.item_sure;
  }

-- ---- two machines side by side

module _ (left right : MachineParts) (lower : SoundParts left.scope 0 left.init left.guard left.acts left.item) (own : SoundParts right.scope 0 right.init right.guard right.acts right.item)
    (beside : right.scope ≡ left.scope) where
  abbrev scope : ℕ
  scope = left.scope

  abbrev place : ℕ
  place = second_place left

  abbrev others : ℕ
  others = length right.init

  abbrev word : ℕ → ℕ
  word = right_word left

  abbrev two_states : ℕ
  two_states = length (zip_machine left right).init

  zip_states : two_states ≡ 1 + length left.item + length left.init + others
  zip_states = held_length (length left.item) left.init right.init

  right_within : (n i : ℕ) → i < right.scope + others + n → word i < scope + two_states + n
  right_within n i k = omega (arith, zip_states, room_within scope place (right.scope + others + n) i k)

  right_guard : IsTrue (is_sure (scope + two_states) (renumber word right.guard))
  right_guard = sure_renumbered word (right.scope + others) (scope + two_states)
      (λ i k. omega (arith, right_within 0 i (omega arith))) right.guard own.guard_sure

  abbrev right_acts : Actions
  right_acts = move_actions word place StopUnless right.acts

  abbrev due_acts : Actions
  due_acts = join right_acts (Cons (Update 0 (Lit 0 ∷ [])) Nil)

  right_sound : (n : ℕ) → scope + two_states ≤ n → IsTrue (are_sound_actions two_states n due_acts)
  right_sound n k =
      sound_join two_states right_acts (Cons (Update 0 (Lit 0 ∷ [])) Nil) n
      (sound_moved word place others two_states (omega (arith, zip_states)) StopUnless (λ i e s. s) (λ e. refl) right.acts
      (right.scope + others + 0) n (λ j i l. omega (arith, right_within j i (omega arith))) own.acts_sound)
      (true_both (is_sound_action two_states (n + actions_locals right_acts) (Update 0 (Lit 0 ∷ []))) true
      (sound_flag two_states (n + actions_locals right_acts) 0 (omega (arith, zip_states))) refl)

  due_locals : actions_locals due_acts ≡ actions_locals right.acts
  due_locals = omega (
    arith,
    locals_join right_acts (Cons (Update 0 (Lit 0 ∷ [])) Nil),
    locals_moved word place StopUnless (λ e. refl) right.acts,
  )

  -- both rows stand among the words of the machine
  rows_sure : (n : ℕ) → scope + two_states + actions_locals right.acts ≤ n → IsTrue (all_sure n (variables (scope + 1) (length left.item) ++ renumber_row word right.item))
  rows_sure n k =
      sure_append n (variables (scope + 1) (length left.item)) (renumber_row word right.item)
      (sure_variables n (scope + 1) (length left.item) (omega (arith, zip_states)))
      (all_sure_renumbered word (right.scope + others + 0 + actions_locals right.acts) n
      (λ i l. omega (arith, right_within (actions_locals right.acts) i (omega arith))) right.item own.item_sure)

  pub zip_sound : SoundParts scope 0 (zip_machine left right).init (zip_machine left right).guard (zip_acts left right) (zip_machine left right).item
  zip_sound = record {
    init_sure = sure_held scope (length left.item) left.init right.init lower.init_sure
        (subst (λ i. IsTrue (all_sure i right.init)) beside own.init_sure);
    guard_sure = sure_due (scope + two_states) (Var scope) (renumber word right.guard)
        (renumber (first_word left others) left.guard) (sure_flag (scope + two_states) scope (omega (arith, zip_states)))
        right_guard
        (first_guard left others two_states zip_states lower);
    acts_sound = subst (λ i. IsTrue (are_sound_actions two_states i (zip_acts left right)))
        (let k : scope + two_states ≡ scope + two_states + 0 = omega arith in k)
        (true_both (is_sound_action two_states (scope + two_states)
        (When (Var scope) Nil (hold_acts left others (skip_with 1))))
        (are_sound_actions two_states (scope + two_states + 0) due_acts)
        (true_both (is_sure (scope + two_states) (Var scope))
        (are_sound_actions two_states (scope + two_states) (hold_acts left others (skip_with 1)))
        (sure_flag (scope + two_states) scope (omega (arith, zip_states)))
        (hold_sound left others two_states zip_states lower (skip_with 1)
        (λ n k. sound_skip two_states n 1 (omega (arith, zip_states)))))
        (right_sound (scope + two_states + 0) (omega arith)));
    item_sure = rows_sure (scope + two_states + 0 + actions_locals (zip_acts left right)) (omega (arith, due_locals));
  }
