-- Each name of a machine's loop program is declared.
use Rattle.std.proofs.Common.{◌≡◌, ℕ, ◌+◌, ◌<◌, ◌≤◌, ◌^◌, Bool, true, false, ◌&&◌, List, [], ◌∷◌, length, All, refl, sym, subst, ◌∙◌, arith}
use Rattle.std.specs.Prelude.{IsTrue, nat_lt, slice_index, if◌then◌else◌}
use Rattle.std.proofs.lemmas.Bool.{lt-ltb}
use Rattle.strm_num.proofs.Truths.{both_true, true_both}
use Rattle.list_denotation.specs.declared.input.InputKind.{InputKind}
use Rattle.list_denotation.specs.InputNames.{declared_inputs, is_named_leaf, names_inputs, all_name_inputs}
use Rattle.list_denotation.specs.Terms.{Term, Finish, Fold, Print}
use Rattle.loop_ir.specs.DeclaredNames.{Names, declared_names, test_names, block_names}
use Rattle.loop_ir.specs.Statements.{Const, Var, Same, Not, Loop, Cons, join}
use Rattle.loop_ir.proofs.JoinedBlocks.{names_joined}
use Rattle.expr_forms.specs.Forms.{Condition, is_empty}
use Rattle.expr_lower.specs.Lowering.{lowered_into, lowered_test}
use Rattle.stateful_core.specs.CoreLeaves.{actions_leaves, parts_leaves}
use Rattle.stateful_core.specs.CoreTerms.{Actions}
use Rattle.turn_blocks.specs.Consumers.{print_block, done}
use Rattle.turn_blocks.specs.TurnBlocks.{turn_acts}
use Rattle.loop_emit.specs.Emission as emission
use Rattle.loop_emit.specs.Emission.{held_count, finish_tail, finish_stop, finish_ending, finish_openings, openings}
use Rattle.loop_emit.specs.Laws.{Laws}
use Rattle.loop_emit.proofs.LoopGuards.{guard_scope, no_statements, guard_puts}
use Rattle.loop_emit.proofs.MachineParts.{IsEmittable, is_terminal, init_open, is_guard, is_turn, states_width, behind_states, behind_turn, all_states, all_held, laid_out}
use Rattle.loop_emit.proofs.OpenedWords.{AreOpen, first_open, rest_open, opening_puts}
use Rattle.loop_emit.proofs.TerminalRuns.{IsTerminal, held_from, seed_open, is_fold, tail_width, tail_grows}

-- the terminal's expressions name declared inputs
abbrev pub FinishNames : List InputKind → Finish → Type 0
FinishNames kinds (Fold seed next) = IsTrue (all_name_inputs (declared_inputs kinds) seed) × IsTrue (all_name_inputs (declared_inputs kinds) next)
FinishNames kinds Print = Unit {0}

module _ (laws : Laws) (kinds : List InputKind) (vars : ℕ) where
  abbrev pub may : Names
  may = declared_names kinds vars

  below : (v : ℕ) → v < vars → IsTrue (nat_lt v vars)
  below v lt = lt-ltb v vars lt

  openings_name : (temps : ℕ) (es : List Term) (v : ℕ) → AreOpen temps es → IsTrue (all_name_inputs (declared_inputs kinds) es) → temps ≤ v → v + length es ≤ vars → vars < 2 ^ 32 → IsTrue (block_names may (openings es v))
  openings_name temps [] v opens names le room small = refl
  openings_name temps (e ∷ es) v opens names le room small =
      let both = both_true (names_inputs (declared_inputs kinds) e) (all_name_inputs (declared_inputs kinds) es) names in
      let first = first_open temps e es opens in
      names_joined may (lowered_into [] e v 0) (openings es (v + 1))
      ((opening_puts laws temps e v le (omega (arith, room, small)) first).names may
      (record {
        at_target = below v (omega (arith, room));
        temporaries = λ x low high. below x (omega (arith, high, le, room));
        words = laws.names may [] e first.bound (λ k lt. absurd (omega (arith, lt)));
        inputs = both.0;
      }))
      (openings_name temps es (v + 1) (rest_open temps e es opens) both.1 (omega (arith, le)) (omega (arith, room)) small)

  -- a row in variables that are declared is printed
  print_names : (row : List ℕ) → All (λ v. v < vars) row → IsTrue (block_names may (print_block row))
  print_names row all = laws.print_names kinds vars 0 vars row all (omega arith)

  -- ---- the terminal

  module _ (temps width a : ℕ) where
    finish_openings_name : (t : Finish) → IsTerminal (declared_inputs kinds) temps width t → FinishNames kinds t → temps + held_count t ≤ vars → vars < 2 ^ 32 → IsTrue (block_names may (finish_openings t temps))
    finish_openings_name (Fold seed next) is names room small =
        openings_name temps seed temps (seed_open laws (declared_inputs kinds) temps width seed next is) names.0 (omega arith) room small
    finish_openings_name Print is names room small = refl

    finish_stop_names : (t : Finish) → All (λ v. v < vars) (held_from t a) → IsTrue (block_names may (finish_stop t (held_from t a)))
    finish_stop_names (Fold seed next) all = names_joined may (print_block (held_from (Fold seed next) a)) done (print_names (held_from (Fold seed next) a) all) refl
    finish_stop_names Print all = refl

    finish_ending_names : (t : Finish) → All (λ v. v < vars) (held_from t a) → IsTrue (block_names may (finish_ending t (held_from t a)))
    finish_ending_names (Fold seed next) all = print_names (held_from (Fold seed next) a) all
    finish_ending_names Print all = refl

    finish_tail_names : (t : Finish) → IsTerminal (declared_inputs kinds) temps width t → FinishNames kinds t → (row : List ℕ) (n : ℕ) → All (λ v. v < n) (held_from t a) → All (λ v. v < n) row → length row ≡ width → temps ≤ n → ((finish_tail t (held_from t a) width).piece row n).next ≤ vars → IsTrue (block_names may ((finish_tail t (held_from t a) width).piece row n).block)
    finish_tail_names (Fold seed next) is names row n held all same le room =
        laws.fold_names kinds vars width temps 0 n (held_from (Fold seed next) a) row next (is_fold laws (declared_inputs kinds) temps width seed next a is) names.1 held all same (omega (arith, le)) room
    finish_tail_names Print is names row n held all same le room = laws.print_names kinds vars width n row all room

-- ---- the program of a machine

module _ (laws : Laws) (kinds : List InputKind) (init : List Term) (guard : Term) (acts : Actions) (item : List Term) (terminal : Finish) (is : IsEmittable (declared_inputs kinds) init guard acts item terminal) (few : emission.machine_vars init guard acts item terminal < 2 ^ 32) (names : IsTrue (parts_leaves (is_named_leaf (declared_inputs kinds)) init guard acts item)) (finish_names : FinishNames kinds terminal) where
  abbrev temps : ℕ
  temps = emission.machine_temps init guard acts item terminal

  abbrev guard_var : ℕ
  guard_var = emission.guard_var temps init guard (turn_acts acts item) (length item) terminal

  abbrev first_local : ℕ
  first_local = emission.first_local temps init guard (turn_acts acts item) (length item) terminal

  abbrev held_vars : List ℕ
  held_vars = emission.held_vars temps init guard (turn_acts acts item) (length item) terminal

  abbrev state_vars : List ℕ
  state_vars = emission.state_vars temps init guard (turn_acts acts item) (length item) terminal

  abbrev all_vars : ℕ
  all_vars = emission.machine_vars init guard acts item terminal

  abbrev all_names : Names
  all_names = declared_names kinds all_vars

  record NamedParts : Type 0 where
    opening : IsTrue (all_name_inputs (declared_inputs kinds) init)
    guarding : IsTrue (names_inputs (declared_inputs kinds) guard)
    acting : IsTrue (actions_leaves (is_named_leaf (declared_inputs kinds)) acts)
    giving : IsTrue (all_name_inputs (declared_inputs kinds) item)

  named_parts : NamedParts
  named_parts =
      let opening = all_name_inputs (declared_inputs kinds) init in
      let guarding = names_inputs (declared_inputs kinds) guard in
      let acting = actions_leaves (is_named_leaf (declared_inputs kinds)) acts in
      let giving = all_name_inputs (declared_inputs kinds) item in
      let first = both_true opening (guarding && (acting && giving)) names in
      let second = both_true guarding (acting && giving) first.1 in
      let third = both_true acting giving second.1 in
      record { opening = first.0; guarding = second.0; acting = third.0; giving = third.1 }

  behind : guard_var ≤ first_local
  behind = behind_states laws (declared_inputs kinds) init guard acts item terminal is

  within : first_local ≤ all_vars
  within = behind_turn laws (declared_inputs kinds) init guard acts item terminal is

  states_below : (n : ℕ) → guard_var ≤ n → All (λ v. v < n) state_vars
  states_below n le = all_states laws (declared_inputs kinds) init guard acts item terminal is (λ v. v < n) (λ x low high. omega (arith, high, le))

  held_below : (n : ℕ) → guard_var ≤ n → All (λ v. v < n) held_vars
  held_below n le = all_held laws (declared_inputs kinds) init guard acts item terminal is (λ v. v < n) (λ x low high. omega (arith, high, le))

  state_names : (k : ℕ) → k < length state_vars → IsTrue (nat_lt (slice_index state_vars k) all_vars)
  state_names k lt = lt-ltb (slice_index state_vars k) all_vars (states_below all_vars (omega (arith, behind, within)) k 0 lt)

  -- ---- the guard

  record GuardNames (c : Condition) : Type 0 where
    statements : IsTrue (block_names all_names c.block)
    test : IsTrue (test_names all_names c.test)

  guard_names : GuardNames (emission.machine_guard temps init guard (turn_acts acts item) (length item) terminal)
  guard_names = by_statements (is_empty c.block) refl within
    where
      c : Condition
      c = lowered_test state_vars guard guard_var 0

      by_statements : (b : Bool) → is_empty c.block ≡ b → (if b then guard_var else guard_var + 1) ≤ all_vars → GuardNames (if b then c else record { block = lowered_into state_vars guard guard_var 0; test = Not (Same (Var guard_var) (Const 0)) })
      by_statements true empty room =
          let guarded = is_guard laws (declared_inputs kinds) init guard acts item terminal is in
          record {
            statements = subst (λ b. IsTrue (block_names all_names b)) (sym (no_statements c.block empty)) refl;
            test = laws.bare_tests all_names (guard_scope temps state_vars) guard guard_var guarded.numbers empty (laws.names all_names state_vars guard guarded.bound state_names) named_parts.guarding;
          }
      by_statements false full room =
          let guarded = is_guard laws (declared_inputs kinds) init guard acts item terminal is in
          let at : IsTrue (nat_lt guard_var all_vars) = lt-ltb guard_var all_vars (omega (arith, room)) in
          record {
            statements =
                (guard_puts laws temps state_vars guard_var guard (laid_out laws (declared_inputs kinds) init guard acts item terminal is guard_var (omega arith) (omega (arith, room, few))) guarded).names all_names
                (record {
                  at_target = at;
                  temporaries = λ x low high. lt-ltb x all_vars (omega (arith, high, room));
                  words = laws.names all_names state_vars guard guarded.bound state_names;
                  inputs = named_parts.guarding;
                });
            test = true_both (nat_lt guard_var all_vars) true at refl;
          }

  -- ---- a turn, and the whole program

  turn_names : IsTrue (block_names all_names (emission.turn_piece temps init guard (turn_acts acts item) (length item) terminal).block)
  turn_names =
      let terminal_is = is_terminal laws (declared_inputs kinds) init guard acts item terminal is in
      let states : length state_vars ≡ 0 + length init + 0 = omega (arith, states_width laws (declared_inputs kinds) init guard acts item terminal is) in
      laws.turn_names kinds all_vars 0 (length init) 0 0 temps first_local state_vars (finish_tail terminal held_vars (length item)) (finish_stop terminal held_vars) acts item
      (is_turn laws (declared_inputs kinds) init guard acts item terminal is) states (states_below first_local behind) (omega (arith, behind)) named_parts.acting named_parts.giving
      (finish_stop_names laws kinds all_vars temps (length item) temps terminal (held_below all_vars (omega (arith, behind, within))))
      (λ row n all le same room.
      finish_tail_names laws kinds all_vars temps (length item) temps terminal terminal_is finish_names row n (held_below n (omega (arith, behind, le))) all
      (same ∙ tail_width terminal held_vars (length item)) (omega (arith, behind, le)) room)
      (tail_width terminal held_vars (length item))
      (tail_grows laws (declared_inputs kinds) temps (length item) terminal temps terminal_is) (omega arith)

  pub routine_names : IsTrue (block_names all_names (emission.body_block temps init guard (turn_acts acts item) (length item) terminal))
  routine_names =
      let terminal_is = is_terminal laws (declared_inputs kinds) init guard acts item terminal is in
      let condition = emission.machine_guard temps init guard (turn_acts acts item) (length item) terminal in
      let turn = emission.turn_block temps init guard (turn_acts acts item) (length item) terminal in
      let ending = finish_ending terminal held_vars in
      let first_state = emission.first_state temps init guard (turn_acts acts item) (length item) terminal in
      let loop = emission.loop_block temps init guard (turn_acts acts item) (length item) terminal in
      let body : IsTrue (block_names all_names turn) =
      names_joined all_names (emission.turn_piece temps init guard (turn_acts acts item) (length item) terminal).block condition.block turn_names guard_names.statements in
      let last : IsTrue (block_names all_names ending) =
      finish_ending_names laws kinds all_vars temps (length item) temps terminal (held_below all_vars (omega (arith, behind, within))) in
      let looped : IsTrue (block_names all_names (Cons (Loop condition.test turn) ending)) =
      true_both (test_names all_names condition.test && block_names all_names turn) (block_names all_names ending)
      (true_both (test_names all_names condition.test) (block_names all_names turn) guard_names.test body) last in
      names_joined all_names (finish_openings terminal temps) (join (openings init first_state) loop)
      (finish_openings_name laws kinds all_vars temps (length item) temps terminal terminal_is finish_names (omega (arith, behind, within)) few)
      (names_joined all_names (openings init first_state) loop
      (openings_name laws kinds all_vars temps init first_state (init_open laws (declared_inputs kinds) init guard acts item terminal is) named_parts.opening (omega arith) (omega (arith, behind, within)) few)
      (names_joined all_names condition.block (Cons (Loop condition.test turn) ending) guard_names.statements looped))
