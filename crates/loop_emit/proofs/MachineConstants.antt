-- Each constant of a machine's loop program is a word.
use Rattle.std.proofs.Common.{◌≡◌, ℕ, ◌+◌, ◌<◌, ◌≤◌, ◌^◌, Bool, true, false, ◌&&◌, List, [], ◌∷◌, length, refl, arith}
use Rattle.std.specs.Prelude.{IsTrue, if◌then◌else◌}
use Rattle.strm_num.proofs.Truths.{true_both}
use Rattle.list_denotation.specs.InputNames.{InputNames}
use Rattle.list_denotation.specs.Terms.{Term, Finish, Fold, Print}
use Rattle.loop_ir.specs.Constants.{test_has_words, block_has_words}
use Rattle.loop_ir.specs.Statements.{Const, Var, Same, Not, Loop, Cons, join}
use Rattle.loop_ir.proofs.JoinedBlocks.{words_joined}
use Rattle.expr_forms.specs.Forms.{Condition, is_empty}
use Rattle.expr_lower.specs.Lowering.{lowered_into, lowered_test}
use Rattle.stateful_core.specs.CoreTerms.{Actions}
use Rattle.turn_blocks.specs.Consumers.{print_block, done}
use Rattle.turn_blocks.specs.TurnBlocks.{turn_acts}
use Rattle.loop_emit.specs.Emission as emission
use Rattle.loop_emit.specs.Emission.{held_count, finish_tail, finish_stop, finish_ending, finish_openings, openings}
use Rattle.loop_emit.specs.Laws.{Laws}
use Rattle.loop_emit.proofs.LoopGuards.{guard_puts, guard_tells}
use Rattle.loop_emit.proofs.MachineParts.{IsEmittable, is_terminal, init_open, is_guard, is_turn, states_width, behind_states, behind_turn, laid_out}
use Rattle.loop_emit.proofs.OpenedWords.{AreOpen, first_open, rest_open, opening_puts}
use Rattle.loop_emit.proofs.TerminalRuns.{IsTerminal, held_from, seed_open, is_fold}

module _ (laws : Laws) where
  openings_constants : (temps : ℕ) (es : List Term) (v : ℕ) → AreOpen temps es → temps ≤ v → v + length es < 2 ^ 32 → IsTrue (block_has_words (openings es v))
  openings_constants temps [] v opens le small = refl
  openings_constants temps (e ∷ es) v opens le small =
      words_joined (lowered_into [] e v 0) (openings es (v + 1)) (opening_puts laws temps e v le (omega (arith, small)) (first_open temps e es opens)).constants
      (openings_constants temps es (v + 1) (rest_open temps e es opens) (omega (arith, le)) (omega (arith, small)))

  -- ---- the terminal

  module _ (may : InputNames) (temps width : ℕ) where
    finish_openings_constants : (t : Finish) → IsTerminal may temps width t → temps + held_count t < 2 ^ 32 → IsTrue (block_has_words (finish_openings t temps))
    finish_openings_constants (Fold seed next) is small = openings_constants temps seed temps (seed_open laws may temps width seed next is) (omega arith) small
    finish_openings_constants Print is small = refl

    finish_stop_constants : (t : Finish) (vars : List ℕ) → IsTrue (block_has_words (finish_stop t vars))
    finish_stop_constants (Fold seed next) vars = words_joined (print_block vars) done (laws.print_constants 0 0 vars) refl
    finish_stop_constants Print vars = refl

    finish_ending_constants : (t : Finish) (vars : List ℕ) → IsTrue (block_has_words (finish_ending t vars))
    finish_ending_constants (Fold seed next) vars = laws.print_constants 0 0 vars
    finish_ending_constants Print vars = refl

    finish_tail_constants : (t : Finish) (a : ℕ) → IsTerminal may temps width t → (row : List ℕ) (n : ℕ) → IsTrue (block_has_words ((finish_tail t (held_from t a) width).piece row n).block)
    finish_tail_constants (Fold seed next) a is row n =
        laws.fold_constants width temps 0 n (held_from (Fold seed next) a) row next (is_fold laws may temps width seed next a is)
    finish_tail_constants Print a is row n = laws.print_constants width n row

-- ---- the program of a machine

module _ (laws : Laws) (may : InputNames) (init : List Term) (guard : Term) (acts : Actions) (item : List Term) (terminal : Finish) (is : IsEmittable may init guard acts item terminal) (few : emission.machine_vars init guard acts item terminal < 2 ^ 32) where
  abbrev temps : ℕ
  temps = emission.machine_temps init guard acts item terminal

  abbrev guard_var : ℕ
  guard_var = emission.guard_var temps init guard (turn_acts acts item) (length item) terminal

  abbrev held_vars : List ℕ
  held_vars = emission.held_vars temps init guard (turn_acts acts item) (length item) terminal

  abbrev state_vars : List ℕ
  state_vars = emission.state_vars temps init guard (turn_acts acts item) (length item) terminal

  record GuardConstants (c : Condition) : Type 0 where
    statements : IsTrue (block_has_words c.block)
    test : IsTrue (test_has_words c.test)

  guard_constants : guard_var < 2 ^ 32 → GuardConstants (emission.machine_guard temps init guard (turn_acts acts item) (length item) terminal)
  guard_constants small = by_statements (is_empty c.block)
    where
      c : Condition
      c = lowered_test state_vars guard guard_var 0

      by_statements : (b : Bool) → GuardConstants (if b then c else record { block = lowered_into state_vars guard guard_var 0; test = Not (Same (Var guard_var) (Const 0)) })
      by_statements true =
          let told =
          guard_tells laws temps state_vars guard_var guard (laid_out laws may init guard acts item terminal is guard_var (omega arith) small) (is_guard laws may init guard acts item terminal is) in
          record { statements = told.constants; test = told.test_constants }
      by_statements false =
          let put =
          guard_puts laws temps state_vars guard_var guard (laid_out laws may init guard acts item terminal is guard_var (omega arith) small) (is_guard laws may init guard acts item terminal is) in
          record { statements = put.constants; test = refl }

  pub routine_constants : IsTrue (block_has_words (emission.body_block temps init guard (turn_acts acts item) (length item) terminal))
  routine_constants =
      let terminal_is = is_terminal laws may init guard acts item terminal is in
      let behind = behind_states laws may init guard acts item terminal is in
      let within = behind_turn laws may init guard acts item terminal is in
      let states : length state_vars ≡ 0 + length init + 0 = omega (arith, states_width laws may init guard acts item terminal is) in
      let guarded = guard_constants (omega (arith, behind, within, few)) in
      let condition = emission.machine_guard temps init guard (turn_acts acts item) (length item) terminal in
      let piece = emission.turn_piece temps init guard (turn_acts acts item) (length item) terminal in
      let turn = emission.turn_block temps init guard (turn_acts acts item) (length item) terminal in
      let ending = finish_ending terminal held_vars in
      let first_state = emission.first_state temps init guard (turn_acts acts item) (length item) terminal in
      let loop = emission.loop_block temps init guard (turn_acts acts item) (length item) terminal in
      let taken : IsTrue (block_has_words piece.block) =
      laws.turn_constants 0 (length init) 0 0 temps (emission.first_local temps init guard (turn_acts acts item) (length item) terminal) state_vars (finish_tail terminal held_vars (length item)) (finish_stop terminal held_vars) acts item
      (is_turn laws may init guard acts item terminal is) states
      (finish_stop_constants laws may temps (length item) terminal held_vars)
      (finish_tail_constants laws may temps (length item) terminal temps terminal_is) in
      let body : IsTrue (block_has_words turn) = words_joined piece.block condition.block taken guarded.statements in
      let last : IsTrue (block_has_words ending) = finish_ending_constants laws may temps (length item) terminal held_vars in
      let looped : IsTrue (block_has_words (Cons (Loop condition.test turn) ending)) =
      true_both (test_has_words condition.test && block_has_words turn) (block_has_words ending)
      (true_both (test_has_words condition.test) (block_has_words turn) guarded.test body) last in
      words_joined (finish_openings terminal temps) (join (openings init first_state) loop)
      (finish_openings_constants laws may temps (length item) terminal terminal_is (omega (arith, behind, within, few)))
      (words_joined (openings init first_state) loop
      (openings_constants laws temps init first_state (init_open laws may init guard acts item terminal is) (omega arith) (omega (arith, behind, within, few)))
      (words_joined condition.block (Cons (Loop condition.test turn) ending) guarded.statements looped))
