-- The variables of a machine's loop program are at most as many as the bound on the machine's words.
use Rattle.std.proofs.Common.{◌≡◌, ℕ, ◌+◌, ◌≤◌, Bool, true, false, max, List, [], ◌∷◌, length, arith}
use Rattle.std.specs.Prelude.{if◌then◌else◌}
use Rattle.list_denotation.specs.Counts.{row_depth, finish_depth}
use Rattle.list_denotation.specs.InputNames.{InputNames}
use Rattle.list_denotation.specs.Terms.{Term, Finish, Fold, Print}
use Rattle.denotation_laws.specs.StreamScopes.{FinishReadsScope}
use Rattle.expr_forms.specs.Forms.{Condition, is_empty}
use Rattle.expr_lower.specs.Lowering.{lowered_test}
use Rattle.stateful_core.specs.CoreTerms.{Action, Let, Read, KeepIf, StopUnless, Update, When, Actions, Nil, Cons, Lin}
use Rattle.stateful_core.specs.MostWords as bound
use Rattle.stateful_core.specs.MostWords.{kept_aside, most_temps, actions_words, most_words}
use Rattle.turn_blocks.specs.Pieces.{behind_scratch}
use Rattle.turn_blocks.specs.Temporaries.{row_temps, action_temps, acts_temps}
use Rattle.turn_blocks.specs.TurnBlocks.{turn_acts}
use Rattle.loop_emit.specs.Emission as emission
use Rattle.loop_emit.specs.Emission.{finish_temps, held_count, finish_tail, finish_stop}
use Rattle.loop_emit.specs.Laws.{Laws}
use Rattle.loop_emit.proofs.ExpressionTemps.{temps_within}
use Rattle.loop_emit.proofs.MachineParts.{IsEmittable, is_turn, states_width}
use Rattle.loop_emit.proofs.TerminalRuns.{held_from}

-- ---- temporaries

row_within : (es : List Term) → row_temps es ≤ bound.row_temps es
row_within [] = omega arith
row_within (e ∷ es) = omega (arith, temps_within e, row_within es)

mutual
  act_within : (a : Action) → action_temps a ≤ bound.action_temps a
  act_within (Let e) = temps_within e
  act_within (Read k e) = temps_within e
  act_within (KeepIf e) = temps_within e
  act_within (StopUnless e) = temps_within e
  act_within (Update k es) = row_within es
  act_within (When e a b) = omega (arith, temps_within e, acts_within a, acts_within b)

  acts_within : (acts : Actions) → acts_temps acts ≤ bound.actions_temps acts
  acts_within Nil = omega arith
  acts_within (Cons a acts) = omega (arith, act_within a, acts_within acts)

module _ (laws : Laws) where
  row_shallow : (es : List Term) → row_temps es ≤ row_depth es
  row_shallow [] = omega arith
  row_shallow (e ∷ es) = omega (arith, laws.temporaries e, row_shallow es)

  finish_shallow : (t : Finish) → finish_temps t ≤ finish_depth t
  finish_shallow (Fold seed next) = omega (arith, row_shallow seed, row_shallow next)
  finish_shallow Print = omega arith

  -- ---- what the terminal holds, and the variables that it takes for a row

  abbrev most_of : Finish → ℕ
  most_of (Fold seed next) = length next
  most_of Print = 0

  most_for_row : (t : Finish) (a width : ℕ) (row : List ℕ) (n : ℕ) → ((finish_tail t (held_from t a) width).piece row n).next ≤ n + most_of t
  most_for_row (Fold seed next) a width row n = laws.fold_few (held_from (Fold seed next) a) row 0 width n next
  most_for_row Print a width row n = omega (arith, laws.print_few width n row)

  few_held : (may : InputNames) (width : ℕ) (t : Finish) → FinishReadsScope may width t → (held_count t ≤ 8) × (most_of t ≤ 8)
  few_held may width (Fold seed next) reads =
      let seed_few = reads.seed_reads.reads.few in
      let next_few = reads.next_reads.few in
      (seed_few, next_few)
  few_held may width Print reads = (omega arith, omega arith)

one_behind : (c : Condition) (n : ℕ) → behind_scratch c n ≤ n + 1
one_behind c n = by_statements (is_empty c.block)
  where
    by_statements : (b : Bool) → (if b then n else n + 1) ≤ n + 1
    by_statements true = omega arith
    by_statements false = omega arith

-- ---- all variables, at expressions of this depth in the terminal

pub few_variables : (laws : Laws) (may : InputNames) (init : List Term) (guard : Term) (acts : Actions) (item : List Term) (terminal : Finish) (d : ℕ) → IsEmittable may init guard acts item terminal → finish_depth terminal ≤ d → emission.machine_vars init guard acts item terminal ≤ most_words (Lin 0 init guard acts item) d
few_variables laws may init guard acts item terminal d is shallow =
    let temps = emission.machine_temps init guard acts item terminal in
    let guard_var = emission.guard_var temps init guard (turn_acts acts item) (length item) terminal in
    let state_vars = emission.state_vars temps init guard (turn_acts acts item) (length item) terminal in
    let held_vars = emission.held_vars temps init guard (turn_acts acts item) (length item) terminal in
    let first_local = emission.first_local temps init guard (turn_acts acts item) (length item) terminal in
    let states : length state_vars ≡ 0 + length init + 0 = omega (arith, states_width laws may init guard acts item terminal is) in
    let few =
    laws.turn_few 0 (length init) 0 0 temps first_local (most_of laws terminal) state_vars (finish_tail terminal held_vars (length item)) (finish_stop terminal held_vars) acts item
    (is_turn laws may init guard acts item terminal is) states (most_for_row laws terminal temps (length item)) in
    let held = few_held laws may (length item) terminal is.reads in
    let held_few = held.0 in
    let row_few = held.1 in
    let behind = one_behind (lowered_test state_vars guard guard_var 0) guard_var in
    let most = max d (bound.core_temps (Lin 0 init guard acts item)) in
    let all_temps : temps ≤ most = omega (arith, row_within init, temps_within guard, acts_within acts, row_within item, finish_shallow laws terminal, shallow) in
    omega (arith, few, held_few, row_few, behind, all_temps)
