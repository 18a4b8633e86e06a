-- What is asked for where the loop program of a machine is made.
use Rattle.std.specs.Prelude.{◌≡◌, ℕ, ◌+◌, ◌<◌, ◌≤◌, ◌^◌, List, length, slice_index, EachIndex, IsTrue}
use Rattle.list_denotation.specs.Scopes.{is_bound, all_bound}
use Rattle.list_denotation.specs.Terms.{Term, Finish, Fold, Print}
use Rattle.loop_ir.specs.Statements.{Block}
use Rattle.state_alloc.specs.declared.slots.Slots.{Slots}
use Rattle.expr_lower.specs.Costs.{temps_of}
use Rattle.stateful_core.specs.CoreShapes.{actions_locals}
use Rattle.stateful_core.specs.CoreTerms.{Actions}
use Rattle.stateful_core.specs.WellFormed.{are_sound_actions}
use Rattle.turn_blocks.specs.Temporaries.{row_temps, acts_temps}
use Rattle.turn_emit.specs.declared.turns.Turn.{Turn}
use Rattle.row_emit.specs.Readiness.{FitsFold, FitsTail}
use Rattle.row_emit.specs.TurnCopies.{stop_of, stop_vars, tail_of, tail_width}
use Rattle.loop_emit.specs.Emission.{seed_is_bound, finish_temps, finish_tail, finish_stop, held_vars, state_vars, guard_var, first_local, turn_piece, body_block}

-- what the terminal holds stands in variables below `next`, and its expressions read these words and those of a row
abbrev pub FitsFinish : ℕ → ℕ → Finish → List ℕ → ℕ → Type 0
FitsFinish temps next (Fold seed es) held width = FitsFold 0 temps next held width es
FitsFinish temps next Print held width = Unit {0}

-- the expressions read bound words, so many temporaries are enough, and a variable has a number of 32 bits
pub record HasRoom (temps : ℕ) (init : List Term) (guard : Term) (turn : Actions) (width : ℕ) (terminal : Finish) : Type 0 where
  pub init_bound : IsTrue (all_bound 0 init)
  pub init_few : row_temps init ≤ temps
  pub guard_bound : IsTrue (is_bound (length init) guard)
  pub guard_few : temps_of guard ≤ temps
  pub turn_sound : IsTrue (are_sound_actions (length init) (length init) turn)
  pub turn_few : acts_temps turn ≤ temps
  pub row_few : width < 2 ^ 32
  pub row_there : width ≤ length init + actions_locals turn
  pub seed_bound : IsTrue (seed_is_bound terminal)
  pub terminal_few : finish_temps terminal ≤ temps
  pub terminal_fits : FitsFinish temps (first_local temps init guard turn width terminal) terminal (held_vars temps init guard turn width terminal) width
  pub locals : first_local temps init guard turn width terminal < 2 ^ 32
  pub room : (turn_piece temps init guard turn width terminal).next < 2 ^ 32

-- a turn as the code has it is one of the machine with these parts
pub record IsTurnFor (temps : ℕ) (init : List Term) (guard : Term) (acts : Actions) (width : ℕ) (terminal : Finish) (turn : Turn) : Type 0 where
  pub scope : turn.place.scope ≡ 0
  pub states : turn.place.states ≡ length init
  pub tail : tail_of 0 turn.tail ≡ finish_tail terminal (held_vars temps init guard acts width terminal) width
  pub row : tail_width turn.tail ≡ width
  pub stop : stop_of turn.stop ≡ finish_stop terminal (held_vars temps init guard acts width terminal)
  pub fits : FitsTail 0 temps (first_local temps init guard acts width terminal) turn.tail
  pub given : EachIndex (stop_vars turn.stop) (λ i. slice_index (stop_vars turn.stop) i < 2 ^ 32)

-- the words of this scope are those of the state of the machine with these parts
pub record IsStateScope (temps : ℕ) (init : List Term) (guard : Term) (acts : Actions) (width : ℕ) (terminal : Finish) (scope : Slots) : Type 0 where
  pub rows : scope.rows ≡ state_vars temps init guard acts width terminal
  pub first_temp : scope.first_temp ≡ 0
  pub same_temps : scope.temps ≡ temps
  pub next : scope.next ≡ guard_var temps init guard acts width terminal

-- the statements of the program of the machine with these parts, and how many variables there are
pub record IsBodyOf (temps : ℕ) (init : List Term) (guard : Term) (acts : Actions) (width : ℕ) (terminal : Finish) (block : Block) (vars : ℕ) : Type 0 where
  pub statements : block ≡ body_block temps init guard acts width terminal
  pub variables : vars ≡ (turn_piece temps init guard acts width terminal).next
