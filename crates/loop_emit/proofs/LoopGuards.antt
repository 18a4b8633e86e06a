-- What the guard of a loop does: its statements go on without an event, and then its test tells whether the guard is true.
use Rattle.std.proofs.Common.{◌≡◌, inr, ℕ, zero, suc, ◌+◌, ◌<◌, ◌≤◌, Bool, true, false, not, List, [], ◌∷◌, ◌++◌, length, refl, sym, ap, ◌∙◌, arith, length-append, ne_eqb}
use Rattle.std.specs.Prelude.{IsTrue, slice_index, ◌==◌, if◌then◌else◌}
use Rattle.list_denotation.specs.declared.input.Input.{Input}
use Rattle.list_denotation.specs.Literals.{has_words}
use Rattle.list_denotation.specs.Scopes.{is_bound}
use Rattle.list_denotation.specs.Terms.{Term}
use Rattle.list_denotation.specs.Typing.{is_undivided}
use Rattle.list_denotation.specs.Values.{Got, Is, Fails, value}
use Rattle.loop_ir.specs.Meaning.{Outcome, Runs, Over, operand_value, test_value, run}
use Rattle.loop_ir.specs.Statements.{Operand, Const, Var, Len, Int, Bin, Test, Less, Same, Both, Either, Not, Block, Nil, Cons}
use Rattle.state_alloc.specs.Layouts.{IsLaidOut}
use Rattle.expr_lower.specs.Contract.{Scope, IsIn as InVariable, IsLowerable, GoesOn, ComesTo, PutsValue, TellsTruth, is_true}
use Rattle.expr_lower.specs.Costs.{temps_of}
use Rattle.expr_forms.specs.Forms.{Condition, is_empty}
use Rattle.expr_lower.specs.Lowering.{lowered_into, lowered_test}
use Rattle.expr_lower.specs.Scopes.{ScopeInPlace}
use Rattle.stateful_core.specs.WordValues.{or_zero, word_value}
use Rattle.turn_blocks.specs.TurnContract.{IsIn, HasWordInputs}
use Rattle.loop_emit.specs.Emission.{loop_guard, behind_guard}
use Rattle.loop_emit.specs.Laws.{Laws}
use Rattle.loop_emit.proofs.Variables.{scope_in_place}

-- ---- a variable that isn't there counts as 0

pub one_more_word : (env : List ℕ) (x : ℕ) → slice_index (env ++ 0 ∷ []) x ≡ slice_index env x
one_more_word [] zero = refl
one_more_word [] (suc x) = refl
one_more_word (y ∷ env) zero = refl
one_more_word (y ∷ env) (suc x) = one_more_word env x

module _ (inputs : List Input) (env env' : List ℕ) (same : (x : ℕ) → slice_index env' x ≡ slice_index env x) where
  operand_same : (w : Operand) → operand_value inputs w env' ≡ operand_value inputs w env
  operand_same (Const n) = refl
  operand_same (Var v) = ap (λ x. Is x) (same v)
  operand_same (Len a) = refl
  operand_same (Int k) = refl
  operand_same (Bin op a b) =
      rw (operand_same a, operand_same b) refl

  test_same : (t : Test) → test_value inputs t env' ≡ test_value inputs t env
  test_same (Less a b) = rw (operand_same a, operand_same b) refl
  test_same (Same a b) = rw (operand_same a, operand_same b) refl
  test_same (Both a b) = rw (test_same a, test_same b) refl
  test_same (Either a b) = rw (test_same a, test_same b) refl
  test_same (Not a) = rw (test_same a) refl

-- ---- a guard

pub no_statements : (b : Block) → is_empty b ≡ true → b ≡ Nil
no_statements Nil h = refl
no_statements (Cons s ss) h = absurd cc

same_variables : (inputs : List Input) (b : Block) (env env' : List ℕ) → b ≡ Nil → run inputs b env 0 ≡ Runs [] env' 0 → env ≡ env'
same_variables inputs b env env' is h = runs_same (ap (λ c. run inputs c env 0) (sym is) ∙ h)
  where
    variables_of : Outcome → List ℕ
    variables_of (Runs events vs left) = vs
    variables_of (Over events standing) = []

    runs_same : run inputs Nil env 0 ≡ Runs [] env' 0 → env ≡ env'
    runs_same e = ap variables_of e

-- words in these variables, and the first ones as temporaries
abbrev pub guard_scope : ℕ → List ℕ → Scope
guard_scope temps rows = record { rows = rows; first_temp = 0; temps = temps }

-- an expression that a guard may be, over so many words
pub record IsGuard (width temps : ℕ) (e : Term) : Type 0 where
  pub bound : IsTrue (is_bound width e)
  pub undivided : IsTrue (is_undivided e)
  pub numbers : IsTrue (has_words e)
  pub few : temps_of e ≤ temps

-- the statements go on to a state in which the test tells this truth, and leave the variables below v that are no temporaries
pub record Looks (inputs : List Input) (c : Condition) (env : List ℕ) (temps v : ℕ) (truth : Bool) : Type 0 where
  pub env' : List ℕ
  pub runs : (left : ℕ) → run inputs c.block env left ≡ Runs [] env' left
  pub same : length env' ≡ length env
  pub before : (x : ℕ) → temps ≤ x → x < v → slice_index env' x ≡ slice_index env x
  pub tells : test_value inputs c.test env' ≡ Is truth

module _ (laws : Laws) (temps : ℕ) (rows : List ℕ) (v : ℕ) (e : Term) (laid_out : IsLaidOut rows 0 temps v) (is_guard : IsGuard (length rows) temps e) where
  abbrev scope : Scope
  scope = guard_scope temps rows

  guard_lowers : IsLowerable scope e v
  guard_lowers =
      record { words = is_guard.numbers; bound = is_guard.bound; temporaries = is_guard.few; is_target = laws.target scope v e v laid_out is_guard.bound (omega arith) }

  pub guard_puts : PutsValue scope e v (lowered_into rows e v 0)
  guard_puts = laws.values scope v e v laid_out guard_lowers

  pub guard_tells : TellsTruth scope e v (lowered_test rows e v 0).block (lowered_test rows e v 0).test
  guard_tells = laws.conditions scope v e v laid_out guard_lowers

  module _ (inputs : List Input) (has : HasWordInputs inputs) (words : List ℕ) where
    goes_on_with : (block : Block) (env : List ℕ) (P : ℕ → List ℕ → Type 0) (g : Got ℕ) → ((w : ℕ) × (g ≡ Is w)) → ComesTo inputs block env v 0 (0 + temps) P g → GoesOn inputs block env v 0 (0 + temps) P (or_zero g)
    goes_on_with block env P (Is w) is goes = goes
    goes_on_with block env P (Fails f) is goes = absurd cc

    -- a condition without statements: the variables are those that stood there
    looks_at_once : (env : List ℕ) → temps ≤ v → v ≤ length env → IsIn env rows words → is_empty (lowered_test rows e v 0).block ≡ true → Looks inputs (lowered_test rows e v 0) env temps v (is_true (word_value e words inputs))
    looks_at_once env le room is empty =
        let c = lowered_test rows e v 0 in
        let none = no_statements c.block empty in
        let longer = env ++ 0 ∷ [] in
        let size : length longer ≡ length env + 1 = length-append env (0 ∷ []) in
        let place : ScopeInPlace rows words inputs env = scope_in_place inputs env rows words has is in
        let there : ScopeInPlace rows words inputs longer = record {
          in_variables = λ k lt. record { same = one_more_word env (slice_index rows k) ∙ (place.in_variables k lt).same; word = (place.in_variables k lt).word };
          ints = has.ints;
          lengths = has.lengths;
        } in
        let goes =
        goes_on_with c.block longer (λ x env'. test_value inputs c.test env' ≡ Is (is_true x)) (value e words inputs) (laws.undivided_value words inputs e is_guard.undivided)
        (guard_tells.gives inputs words longer (omega (arith, size, room)) (omega (arith, size, room, le)) (laws.in_place rows words inputs longer e is_guard.bound there)) in
        let stays : longer ≡ goes.env' = same_variables inputs c.block longer goes.env' none (goes.runs 0) in
        record {
          env' = env;
          runs = λ left. ap (λ b. run inputs b env left) none;
          same = refl;
          before = λ x low high. refl;
          tells =
              sym (test_same inputs env longer (one_more_word env) c.test)
              ∙ ap (λ vs. test_value inputs c.test vs) stays
              ∙ goes.holds;
        }

    kept_truth : (x y : ℕ) → x ≡ y → Is (not (x == 0)) ≡ Is (is_true y)
    kept_truth zero y h = ap (λ z. Is (is_true z)) h
    kept_truth (suc x) y h = ap (λ b. Is (not b)) (ne_eqb (suc x) 0 (λ e. omega (arith, e))) ∙ ap (λ z. Is (is_true z)) h

    -- else a variable holds its value
    looks_at_value : (env : List ℕ) → temps ≤ v → v + 1 ≤ length env → IsIn env rows words → Looks inputs (record { block = lowered_into rows e v 0; test = Not (Same (Var v) (Const 0)) }) env temps v (is_true (word_value e words inputs))
    looks_at_value env le room is =
        let goes =
        goes_on_with (lowered_into rows e v 0) env (InVariable v) (value e words inputs) (laws.undivided_value words inputs e is_guard.undivided)
        (guard_puts.gives inputs words env (omega (arith, room)) (omega (arith, room, le)) (laws.in_place rows words inputs env e is_guard.bound (scope_in_place inputs env rows words has is))) in
        record {
          env' = goes.env';
          runs = goes.runs;
          same = goes.kept.same;
          before = λ x low high. goes.kept.others x (λ e. omega (arith, high, e)) (inr (omega (arith, low)));
          tells = kept_truth (slice_index goes.env' v) (word_value e words inputs) goes.holds;
        }

    -- the guard of a loop
    pub looks : (env : List ℕ) → temps ≤ v → behind_guard rows e v ≤ length env → IsIn env rows words → Looks inputs (loop_guard rows e v) env temps v (is_true (word_value e words inputs))
    looks env le room is = by_statements (is_empty (lowered_test rows e v 0).block) refl room
      where
        by_statements : (b : Bool) → is_empty (lowered_test rows e v 0).block ≡ b → (if b then v else v + 1) ≤ length env → Looks inputs (if b then lowered_test rows e v 0 else record { block = lowered_into rows e v 0; test = Not (Same (Var v) (Const 0)) }) env temps v (is_true (word_value e words inputs))
        by_statements true empty room = looks_at_once env le room is empty
        by_statements false full room = looks_at_value env le room is
