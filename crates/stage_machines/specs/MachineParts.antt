-- What a Lin is made of, and a Tr beside the term below it: a state, a guard, and the acts and the row of a turn.
use Rattle.std.specs.Prelude.{ℕ, ◌+◌, Bool, List}
use Rattle.list_denotation.specs.declared.input.Input.{Input}
use Rattle.list_denotation.specs.Terms.{Term}
use Rattle.stateful_core.specs.CoreRows.{core_turn, guard_value}
use Rattle.stateful_core.specs.CoreShapes.{actions_locals}
use Rattle.stateful_core.specs.CoreTerms.{Actions, CoreTerm, Lin, Tr}
use Rattle.stateful_core.specs.Turns.{Turn}
use Rattle.stateful_core.specs.WellFormed.{are_sound_parts}
use Rattle.stateful_core.specs.WordValues.{word_values}

pub record MachineParts : Type 0 where
  pub scope : ℕ
  pub init : List Term
  pub guard : Term
  pub acts : Actions
  pub item : List Term

abbrev pub machine_from : ℕ → List Term → Term → Actions → List Term → MachineParts
machine_from scope init guard acts item = record { scope = scope; init = init; guard = guard; acts = acts; item = item }

-- the parts as a source, and as a stage over a term
abbrev pub machine_core : MachineParts → CoreTerm
machine_core m = Lin m.scope m.init m.guard m.acts m.item

abbrev pub stage_core : CoreTerm → MachineParts → CoreTerm
stage_core of m = Tr m.scope of m.init m.guard m.acts m.item

-- ---- what they do in a scope of bound words

-- the state that they begin with
abbrev pub first_state : MachineParts → List ℕ → List Input → List ℕ
first_state m env inputs = word_values m.init env inputs

abbrev pub machine_guard : MachineParts → List ℕ → List Input → List ℕ → ℕ
machine_guard m env inputs s = guard_value m.guard env inputs s

-- a turn from a state, whose local words begin as a row
abbrev pub machine_turn : MachineParts → List ℕ → List Input → List ℕ → List ℕ → Turn (List ℕ)
machine_turn m env inputs s r = core_turn m.acts m.item env inputs s r

-- ---- parts whose turns begin with a row of w words: 0 of a source

abbrev pub is_sound_machine : ℕ → MachineParts → Bool
is_sound_machine w m = are_sound_parts m.scope w m.init m.guard m.acts m.item

-- the local words that a turn leaves
abbrev pub machine_locals : ℕ → MachineParts → ℕ
machine_locals w m = w + actions_locals m.acts
