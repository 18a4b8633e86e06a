-- The rows of the machine of a Zip, and what it reaches: those of the machines of its two terms, side by side.
use Rattle.std.proofs.Common.{◌≡◌, ℕ, ◌+◌, List, [], length, sym, ◌∙◌}
use Rattle.list_denotation.specs.declared.input.Input.{Input}
use Rattle.list_denotation.specs.Rows.{Rows, zip_rows}
use Rattle.denotation_laws.specs.FarRows.{FarRows}
use Rattle.machine_turns.specs.MachineRuns.{Runs}
use Rattle.machine_turns.specs.ZipTurns.{ZipState, LeftDue, zip_guard, zip_step}
use Rattle.stateful_core.specs.CoreRows.{core_turn, guard_value, core_rows}
use Rattle.stateful_core.specs.CoreShapes.{core_scope}
use Rattle.stateful_core.specs.CoreTerms.{CoreTerm}
use Rattle.stateful_core.specs.Turns.{Turn, turn_rows}
use Rattle.stateful_core.specs.WordValues.{word_values}
use Rattle.stateful_core.proofs.SoundTerms.{SoundPair}
use Rattle.act_moves.proofs.SoundActs.{SoundParts}
use Rattle.machine_turns.specs.AlikeTurns.{AlikeTurns, SameTruth}
use Rattle.machine_turns.proofs.AlikeTurns.{alike_rows, alike_runs}
use Rattle.stage_machines.specs.MachineParts.{MachineParts, machine_core}
use Rattle.zip_linearise.specs.Laws.{Laws}
use Rattle.zip_linearise.specs.LinearMachine.{linear_machine}
use Rattle.zip_linearise.specs.ZipMachine.{zip_machine}
use Rattle.zip_linearise.proofs.SoundMachines.{machine_parts, machine_scope}
use Rattle.zip_linearise.proofs.ZipMachines.{HeldZip, zip_start, zip_guards, zip_turns}

module _ (laws : Laws) (inputs : List Input) (env : List ℕ) (left right : CoreTerm)
    (z : SoundPair left right (core_scope left)) (scoped : length env ≡ core_scope left) where
  abbrev guard_of : MachineParts → List ℕ → ℕ
  guard_of m s = guard_value m.guard env inputs s

  abbrev turn_of : MachineParts → List ℕ → Turn (List ℕ)
  turn_of m s = core_turn m.acts m.item env inputs s []

  abbrev start_of : MachineParts → List ℕ
  start_of m = word_values m.init env inputs

  abbrev a : MachineParts
  a = linear_machine left

  abbrev b : MachineParts
  b = linear_machine right

  abbrev m : MachineParts
  m = zip_machine a b

  abbrev State : Type 0
  State = ZipState (List ℕ) (List ℕ)

  abbrev R : List ℕ → State → Type 0
  R = HeldZip (length a.item) (length a.init) (length b.init)

  abbrev due : State → ℕ
  due = zip_guard (guard_of a) (guard_of b)

  in_scope : length env ≡ a.scope
  in_scope = scoped ∙ sym (machine_scope left z.first)

  sound : SoundParts a.scope 0 a.init a.guard a.acts a.item
  sound = machine_parts laws left z.first

  right_sound : SoundParts b.scope 0 b.init b.guard b.acts b.item
  right_sound = machine_parts laws right z.second

  alike_guards : (x : List ℕ) (s : State) → R x s → SameTruth (guard_of m x) (due s)
  alike_guards x s r = zip_guards inputs env a b in_scope x s r

  alike_turns : (x : List ℕ) (s : State) → R x s → AlikeTurns R (turn_of m x) (zip_step (turn_of a) (turn_of b) s)
  alike_turns x s r = zip_turns inputs env a b in_scope _ _ sound.acts_sound right_sound.acts_sound x s r

  start : R (start_of m) (LeftDue (start_of a) (start_of b))
  start = zip_start inputs env a b in_scope

  -- the machine gives what the two machines give in one
  zipped_rows : (n : ℕ) → core_rows (machine_core m) env inputs n ≡ turn_rows due (zip_step (turn_of a) (turn_of b)) n (LeftDue (start_of a) (start_of b))
  zipped_rows n =
      alike_rows R (guard_of m) (turn_of m) due (zip_step (turn_of a) (turn_of b)) alike_guards alike_turns
      n (start_of m) (LeftDue (start_of a) (start_of b)) start

  -- which is no further than rows of both sides that are as far as those of their machines
  pub zipped_no_further : (x y : Rows) (n : ℕ) → FarRows (core_rows (machine_core a) env inputs n) x → FarRows (core_rows (machine_core b) env inputs n) y → FarRows (core_rows (machine_core m) env inputs n) (zip_rows x y)
  zipped_no_further x y n h k =
      rw (zipped_rows n)
      (laws.far_through _ _ _
      (laws.zip_no_further (guard_of a) (turn_of a) (guard_of b) (turn_of b) n (start_of a) (start_of b)) (laws.far_zipped _ _ _ _ h k))

  -- and rows of both sides that their machines reach are reached, side by side, in the turns of both
  pub zipped_reaches : (x y : Rows) (v w : ℕ) → Runs (guard_of a) (turn_of a) x (start_of a) v → Runs (guard_of b) (turn_of b) y (start_of b) w → Runs (guard_of m) (turn_of m) (zip_rows x y) (start_of m) (v + w)
  zipped_reaches x y v w h k =
      alike_runs R (guard_of m) (turn_of m) due (zip_step (turn_of a) (turn_of b)) alike_guards alike_turns
      (laws.zip_reaches (guard_of a) (turn_of a) (guard_of b) (turn_of b) x y (start_of a) (start_of b) v w h k)
      (start_of m) start
