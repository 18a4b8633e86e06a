-- What follows of the parts of a machine that are well formed, and of a terminal over its rows.
use Rattle.std.proofs.Common.{◌≡◌, ℕ, ◌+◌, ◌<◌, ◌≤◌, ◌^◌, Bool, true, false, ◌&&◌, List, [], length, All, Contains, sym, subst, append-nil, arith}
use Rattle.std.specs.Prelude.{IsTrue, if◌then◌else◌}
use Rattle.std.proofs.lemmas.List.FromFn.{length-range_with_len}
use Rattle.strm_num.proofs.Truths.{both_true}
use Rattle.list_denotation.specs.InputNames.{InputNames}
use Rattle.list_denotation.specs.Literals.{is_word_leaf, has_words, all_have_words}
use Rattle.list_denotation.specs.Scopes.{is_bound, all_bound}
use Rattle.list_denotation.specs.Terms.{Term, Finish}
use Rattle.list_denotation.specs.Typing.{is_undivided, all_undivided}
use Rattle.denotation_laws.specs.StreamScopes.{FinishReadsScope}
use Rattle.state_alloc.specs.Layouts.{IsWordVariable, IsLaidOut}
use Rattle.expr_forms.specs.Forms.{Condition, is_empty}
use Rattle.expr_lower.specs.Lowering.{lowered_test}
use Rattle.stateful_core.specs.CoreLeaves.{actions_leaves, parts_leaves}
use Rattle.stateful_core.specs.CoreShapes.{actions_locals}
use Rattle.stateful_core.specs.CoreTerms.{Actions}
use Rattle.stateful_core.specs.WellFormed.{is_sure, all_sure, are_sound_actions, are_sound_parts}
use Rattle.turn_blocks.specs.Pieces.{behind_scratch}
use Rattle.turn_blocks.specs.TurnBlocks.{turn_acts}
use Rattle.turn_blocks.specs.TurnContract.{Frame, IsTurnLayout, IsTurn}
use Rattle.loop_emit.specs.Emission as emission
use Rattle.loop_emit.specs.Emission.{finish_temps, held_count, finish_tail, finish_stop, behind_guard}
use Rattle.loop_emit.specs.Laws.{Laws}
use Rattle.loop_emit.proofs.LoopGuards.{IsGuard}
use Rattle.loop_emit.proofs.OpenedWords.{AreOpen}
use Rattle.loop_emit.proofs.TerminalRuns.{IsTerminal, tail_grows}
use Rattle.loop_emit.proofs.Variables.{range_at, all_range, all_none, range_contains}

-- the parts are well formed and their numbers are words, and the terminal reads its scope
pub record IsEmittable (may : InputNames) (init : List Term) (guard : Term) (acts : Actions) (item : List Term) (terminal : Finish) : Type 0 where
  pub sound : IsTrue (are_sound_parts 0 0 init guard acts item)
  pub numbers : IsTrue (parts_leaves is_word_leaf init guard acts item)
  pub reads : FinishReadsScope may (length item) terminal

pub behind_grows : (c : Condition) (n : ℕ) → n ≤ behind_scratch c n
behind_grows c n = by_statements (is_empty c.block)
  where
    by_statements : (b : Bool) → n ≤ (if b then n else n + 1)
    by_statements true = omega arith
    by_statements false = omega arith

module _ (laws : Laws) (may : InputNames) (init : List Term) (guard : Term) (acts : Actions) (item : List Term) (terminal : Finish) (is : IsEmittable may init guard acts item terminal) where
  abbrev temps : ℕ
  temps = emission.machine_temps init guard acts item terminal

  abbrev first_state : ℕ
  first_state = emission.first_state temps init guard (turn_acts acts item) (length item) terminal

  abbrev guard_var : ℕ
  guard_var = emission.guard_var temps init guard (turn_acts acts item) (length item) terminal

  abbrev first_local : ℕ
  first_local = emission.first_local temps init guard (turn_acts acts item) (length item) terminal

  abbrev held_vars : List ℕ
  held_vars = emission.held_vars temps init guard (turn_acts acts item) (length item) terminal

  abbrev state_vars : List ℕ
  state_vars = emission.state_vars temps init guard (turn_acts acts item) (length item) terminal

  abbrev vars : ℕ
  vars = emission.machine_vars init guard acts item terminal

  -- ---- the parts

  record SoundParts : Type 0 where
    opening : IsTrue (all_sure 0 init)
    guarding : IsTrue (is_sure (0 + length init) guard)
    acting : IsTrue (are_sound_actions (length init) (0 + length init + 0) acts)
    giving : IsTrue (all_sure (0 + length init + 0 + actions_locals acts) item)

  sound_parts : SoundParts
  sound_parts =
      let opening = all_sure 0 init in
      let guarding = is_sure (0 + length init) guard in
      let acting = are_sound_actions (length init) (0 + length init + 0) acts in
      let giving = all_sure (0 + length init + 0 + actions_locals acts) item in
      let first = both_true opening (guarding && (acting && giving)) is.sound in
      let second = both_true guarding (acting && giving) first.1 in
      let third = both_true acting giving second.1 in
      record { opening = first.0; guarding = second.0; acting = third.0; giving = third.1 }

  record WordParts : Type 0 where
    opening : IsTrue (all_have_words init)
    guarding : IsTrue (has_words guard)
    acting : IsTrue (actions_leaves is_word_leaf acts)
    giving : IsTrue (all_have_words item)

  word_parts : WordParts
  word_parts =
      let opening = all_have_words init in
      let guarding = has_words guard in
      let acting = actions_leaves is_word_leaf acts in
      let giving = all_have_words item in
      let first = both_true opening (guarding && (acting && giving)) is.numbers in
      let second = both_true guarding (acting && giving) first.1 in
      let third = both_true acting giving second.1 in
      record { opening = first.0; guarding = second.0; acting = third.0; giving = third.1 }

  pub is_terminal : IsTerminal may temps (length item) terminal
  is_terminal = record { reads = is.reads; few = omega arith }

  pub init_open : AreOpen temps init
  init_open =
      let sure = both_true (all_bound 0 init) (all_undivided init) sound_parts.opening in
      record { bound = sure.0; undivided = sure.1; numbers = word_parts.opening; few = omega arith }

  pub states_width : length state_vars ≡ length init
  states_width = length-range_with_len first_state (length init)

  pub is_guard : IsGuard (length state_vars) temps guard
  is_guard =
      let sure = both_true (is_bound (0 + length init) guard) (is_undivided guard) sound_parts.guarding in
      let width : 0 + length init ≡ length state_vars = omega (arith, states_width) in
      record {
        bound = subst (λ n. IsTrue (is_bound n guard)) width sure.0;
        undivided = sure.1;
        numbers = word_parts.guarding;
        few = omega arith;
      }

  pub is_turn : IsTurn 0 (length init) 0 temps acts item
  is_turn =
      record {
        acts_sound = sound_parts.acting;
        item_sound = sound_parts.giving;
        acts_words = word_parts.acting;
        item_words = word_parts.giving;
        acts_few = omega arith;
        item_few = omega arith;
      }

  -- ---- the variables

  pub behind_states : guard_var ≤ first_local
  behind_states = behind_grows (lowered_test state_vars guard guard_var 0) guard_var

  pub behind_turn : first_local ≤ vars
  behind_turn =
      laws.turn_grows 0 (length init) 0 first_local state_vars (finish_tail terminal held_vars (length item)) (finish_stop terminal held_vars) (turn_acts acts item)
      (tail_grows laws may temps (length item) terminal temps is_terminal)

  pub all_states : (P : ℕ → Type 0) → ((x : ℕ) → first_state ≤ x → x < guard_var → P x) → All P state_vars
  all_states P each = all_range P first_state (length init) (λ i lt. each (first_state + i) (omega arith) (omega (arith, lt)))

  pub all_held : (P : ℕ → Type 0) → ((x : ℕ) → temps ≤ x → x < first_state → P x) → All P held_vars
  all_held P each = all_range P temps (held_count terminal) (λ i lt. each (temps + i) (omega arith) (omega (arith, lt)))

  word_variable : (next x : ℕ) → temps ≤ x → x < next → IsWordVariable 0 temps next x
  word_variable next x low high = record { below = high; apart = λ temporary. omega (arith, temporary.1, low) }

  pub laid_out : (next : ℕ) → guard_var ≤ next → next < 2 ^ 32 → IsLaidOut state_vars 0 temps next
  laid_out next le small = record {
    few = small;
    temporaries = omega (arith, le);
    words = all_states (IsWordVariable 0 temps next) (λ x low high. word_variable next x (omega (arith, low)) (omega (arith, high, le)));
  }

  abbrev pub frame : Frame
  frame = record { first_temp = 0; temps = temps; next = first_local }

  pub turn_layout : vars < 2 ^ 32 → IsTurnLayout frame [] state_vars [] held_vars
  turn_layout few =
      record {
        laid_out = subst (λ vs. IsLaidOut vs 0 temps first_local) (sym (append-nil state_vars)) (laid_out first_local behind_states (omega (arith, few, behind_turn)));
        states_differ = λ i j lt lt' same.
            let at = range_at first_state (length init) i (omega (arith, lt, states_width)) in
            let at' = range_at first_state (length init) j (omega (arith, lt', states_width)) in
            omega (arith, at, at', same);
        scope_differs = all_none (λ v. ¬ Contains state_vars v);
        row_differs = all_none (λ v. ¬ Contains state_vars v);
        held_given = all_held (IsWordVariable 0 temps first_local) (λ x low high. word_variable first_local x low (omega (arith, high, behind_states)));
        held_differs = subst (λ vs. All (λ v. ¬ Contains vs v) held_vars) (sym (append-nil state_vars)) (all_held (λ v. ¬ Contains state_vars v) (λ x low high there. let between = range_contains first_state (length init) x there in omega (arith, high, between.0)));
      }
