-- A machine has at most the temporaries that are counted for its term.
use Rattle.std.proofs.Common.{◌≡◌, ℕ, zero, suc, ◌+◌, ◌≤◌, max, List, [], ◌∷◌, ◌++◌, length, Bool, true, false, refl, arith}
use Rattle.std.specs.Prelude.{if◌then◌else◌}
use Rattle.list_denotation.specs.TermRows.{variables}
use Rattle.list_denotation.specs.Terms.{Term, Lit, Var, Not, And, Or}
use Rattle.stateful_core.specs.CoreTerms.{StopUnless, Update, When, Actions, Nil, Cons, join, CoreTerm, Lin, Tr, Nest, Zip}
use Rattle.stateful_core.specs.MostWords.{most_temps, row_temps, actions_temps, parts_temps, core_temps}
use Rattle.act_moves.specs.Flags.{skip_with, close_unless}
use Rattle.act_moves.specs.Renumbering.{renumber, renumber_row, move_actions}
use Rattle.act_moves.proofs.MovedTemps.{temps_renumbered, row_temps_renumbered, temps_moved, row_temps_append, temps_join}
use Rattle.stage_machines.specs.JoinedGuards.{is_always, join_guards}
use Rattle.stage_machines.specs.MachineParts.{MachineParts, machine_from, machine_core}
use Rattle.stage_machines.proofs.JoinedGuards.{temps_guards}
use Rattle.zip_linearise.specs.HeldRows.{zeros, first_word, second_place, hold_acts, flag_or}
use Rattle.zip_linearise.specs.Laws.{Laws}
use Rattle.zip_linearise.specs.LinearMachine.{linear_machine}
use Rattle.zip_linearise.specs.NestMachine.{inner_word, guarded_acts, nest_acts, nest_machine}
use Rattle.zip_linearise.specs.ZipMachine.{right_word, due_guard, zip_acts, zip_machine}

-- ---- parts

-- parts have at most n temporaries where each of them has
module _ (n : ℕ) where
  parts_within : (init : List Term) (guard : Term) (acts : Actions) (item : List Term) → row_temps init ≤ n → most_temps guard ≤ n → actions_temps acts ≤ n → row_temps item ≤ n → parts_temps init guard acts item ≤ n
  parts_within init guard acts item a b c d = omega arith

record TempsWithin (n : ℕ) (init : List Term) (guard : Term) (acts : Actions) (item : List Term) : Type 0 where
  in_init : row_temps init ≤ n
  in_guard : most_temps guard ≤ n
  in_acts : actions_temps acts ≤ n
  in_item : row_temps item ≤ n

within_parts : (n : ℕ) (init : List Term) (guard : Term) (acts : Actions) (item : List Term) → parts_temps init guard acts item ≤ n → TempsWithin n init guard acts item
within_parts n init guard acts item h = record { in_init = omega arith; in_guard = omega arith; in_acts = omega arith; in_item = omega arith }

-- ---- machines

zeros_temps : (k : ℕ) → row_temps (zeros k) ≡ 0
zeros_temps zero = refl
zeros_temps (suc k) = omega (arith, zeros_temps k)

variables_temps : (k n : ℕ) → row_temps (variables k n) ≡ 0
variables_temps k zero = refl
variables_temps k (suc n) = omega (arith, variables_temps (suc k) n)

-- two machines in one have at most n temporaries where each of them has
module _ (n : ℕ) where
  -- acts behind a choice by the flag
  turn_temps : (k : ℕ) (a b : Actions) → actions_temps a ≤ n → actions_temps b ≤ n → actions_temps (Cons (When (Var k) Nil a) b) ≤ n
  turn_temps k a b h l = omega arith

  held_temps : (w : ℕ) (one other : List Term) → row_temps one ≤ n → row_temps other ≤ n → row_temps (Lit 0 ∷ (zeros w ++ (one ++ other))) ≤ n
  held_temps w one other h k =
      omega (
        arith,
        row_temps_append n (zeros w) (one ++ other) (omega (arith, zeros_temps w)) (row_temps_append n one other h k),
      )

  temps_flag_or : (k : ℕ) (g : Term) → most_temps g ≤ n → most_temps (flag_or (Var k) g) ≤ n
  temps_flag_or k g h = by_form (is_always g)
    where
      by_form : (t : Bool) → most_temps (if t then g else Or (Var k) g) ≤ n
      by_form true = h
      by_form false = omega arith

  temps_due : (k : ℕ) (right left : Term) → most_temps right ≤ n → most_temps left ≤ n → most_temps (due_guard (Var k) right left) ≤ n
  temps_due k right left h l = by_form (is_always right)
    where
      by_form : (t : Bool) → most_temps (if t then flag_or (Var k) left else Or (And (Var k) right) (join_guards (Not (Var k)) left)) ≤ n
      by_form true = temps_flag_or k left l
      by_form false = omega (arith, temps_guards n (Not (Var k)) left (omega arith) l)

  temps_guarded : (g : Term) (acts : Actions) → most_temps g ≤ n → actions_temps acts ≤ n → actions_temps (guarded_acts g acts) ≤ n
  temps_guarded g acts h k = by_form (is_always g)
    where
      by_form : (t : Bool) → actions_temps (if t then acts else Cons (close_unless g) acts) ≤ n
      by_form true = k
      by_form false = omega arith

  hold_temps : (m : MachineParts) (others : ℕ) (more : Actions) → TempsWithin n m.init m.guard m.acts m.item → actions_temps more ≤ n → actions_temps (hold_acts m others more) ≤ n
  hold_temps m others more h k =
      let f = first_word m others in
      temps_join n (move_actions f (1 + length m.item) StopUnless m.acts) (Cons (Update 1 (renumber_row f m.item)) more)
      (omega (arith, h.in_acts, temps_moved f (1 + length m.item) StopUnless (λ e. refl) m.acts))
      (omega (arith, h.in_item, row_temps_renumbered f m.item))

  nest_temps : (outer inner : MachineParts) → TempsWithin n outer.init outer.guard outer.acts outer.item → TempsWithin n inner.init inner.guard inner.acts inner.item → core_temps (machine_core (nest_machine outer inner)) ≤ n
  nest_temps outer inner h k =
      let b = length inner.init in
      let p = second_place outer in
      let f = first_word outer b in
      let g = inner_word outer in
      let opens = Cons (Update p (renumber_row g inner.init)) (skip_with 1) in
      let inner_acts = move_actions g p close_unless inner.acts in
      parts_within n (nest_machine outer inner).init (nest_machine outer inner).guard (nest_acts outer inner)
      (renumber_row g inner.item)
      (held_temps (length outer.item) outer.init (zeros b) h.in_init (omega (arith, zeros_temps b)))
      (temps_flag_or outer.scope (renumber f outer.guard) (omega (arith, h.in_guard, temps_renumbered f outer.guard)))
      (turn_temps outer.scope (hold_acts outer b opens) (guarded_acts (renumber g inner.guard) inner_acts)
      (hold_temps outer b opens h (omega (arith, k.in_init, row_temps_renumbered g inner.init)))
      (temps_guarded (renumber g inner.guard) inner_acts (omega (arith, k.in_guard, temps_renumbered g inner.guard))
      (omega (arith, k.in_acts, temps_moved g p close_unless (λ e. omega arith) inner.acts))))
      (omega (arith, k.in_item, row_temps_renumbered g inner.item))

  zip_temps : (left right : MachineParts) → TempsWithin n left.init left.guard left.acts left.item → TempsWithin n right.init right.guard right.acts right.item → core_temps (machine_core (zip_machine left right)) ≤ n
  zip_temps left right h k =
      let b = length right.init in
      let p = second_place left in
      let f = first_word left b in
      let g = right_word left in
      let right_acts = move_actions g p StopUnless right.acts in
      let due = Cons (Update 0 (Lit 0 ∷ [])) Nil in
      parts_within n (zip_machine left right).init (zip_machine left right).guard (zip_acts left right)
      (zip_machine left right).item
      (held_temps (length left.item) left.init right.init h.in_init k.in_init)
      (temps_due left.scope (renumber g right.guard) (renumber f left.guard)
      (omega (arith, k.in_guard, temps_renumbered g right.guard)) (omega (arith, h.in_guard, temps_renumbered f left.guard)))
      (turn_temps left.scope (hold_acts left b (skip_with 1)) (join right_acts due)
      (hold_temps left b (skip_with 1) h (omega arith))
      (temps_join n right_acts due (omega (arith, k.in_acts, temps_moved g p StopUnless (λ e. refl) right.acts)) (omega arith)))
      (row_temps_append n (variables (left.scope + 1) (length left.item)) (renumber_row g right.item)
      (omega (arith, variables_temps (left.scope + 1) (length left.item)))
      (omega (arith, k.in_item, row_temps_renumbered g right.item)))

-- ---- terms

at_most_first : (x y z : ℕ) → x ≤ y → x ≤ max y z
at_most_first x y z h = omega arith

at_most_second : (x y z : ℕ) → x ≤ z → x ≤ max y z
at_most_second x y z h = omega arith

pub machine_temps : (laws : Laws) (c : CoreTerm) → core_temps (machine_core (linear_machine c)) ≤ core_temps c
machine_temps laws (Lin scope init guard acts item) = omega arith
machine_temps laws (Tr scope of init guard acts item) =
    omega (arith, machine_temps laws of, laws.stage_temps 0 (linear_machine of) (machine_from scope init guard acts item))
machine_temps laws (Nest of inner) =
    let o = linear_machine of in
    let i = linear_machine inner in
    let n = core_temps (Nest of inner) in
    nest_temps n o i
    (within_parts n o.init o.guard o.acts o.item
    (at_most_first (core_temps (machine_core o)) (core_temps of) (core_temps inner) (machine_temps laws of)))
    (within_parts n i.init i.guard i.acts i.item
    (at_most_second (core_temps (machine_core i)) (core_temps of) (core_temps inner) (machine_temps laws inner)))
machine_temps laws (Zip left right) =
    let o = linear_machine left in
    let i = linear_machine right in
    let n = core_temps (Zip left right) in
    zip_temps n o i
    (within_parts n o.init o.guard o.acts o.item
    (at_most_first (core_temps (machine_core o)) (core_temps left) (core_temps right) (machine_temps laws left)))
    (within_parts n i.init i.guard i.acts i.item
    (at_most_second (core_temps (machine_core i)) (core_temps left) (core_temps right) (machine_temps laws right)))
