-- What statements do that come to a value: they go on with it, or the run is over where there is none.
use Rattle.std.proofs.Common.{◌≡◌, ℕ, ◌+◌, ◌<◌, ◌^◌, Bool, true, false, List, [], append-nil, length, refl, ap, ◌∙◌, arith}
use Rattle.std.specs.Prelude.{slice_set}
use Rattle.std.proofs.lemmas.List.{get_or-set_same, get_or-set_other, length-set}
use Rattle.strm_num.specs.Words.{truth_of}
use Rattle.list_denotation.specs.declared.input.Input.{Input}
use Rattle.list_denotation.specs.Values.{Fault, Got, Is, Fails, with_value}
use Rattle.list_denotation.specs.Observation.{Failed}
use Rattle.loop_ir.specs.Statements.{Operand, Const, Test, If, Block, Nil, Cons, join}
use Rattle.loop_ir.specs.Meaning.{Outcome, Runs, Over, then_do, on_value, on_test, operand_value, test_value, run}
use Rattle.loop_ir.proofs.Joins.{after_nothing, goes_on, run_join}
use Rattle.expr_phrases.specs.Results.{Assigns}
use Rattle.expr_lower.specs.Contract.{Kept, GoesOn, ComesTo, IsIn}
use Rattle.expr_phrases.specs.Phrases.{set, set_truth}
use Rattle.expr_lower.proofs.Disjointness.{not_outside, outside_more}

-- ---- variables that are kept

pub kept_all : (v t top : ℕ) (env : List ℕ) → Kept v t top env env
kept_all v t top env = record { same = refl; others = λ x other outside. refl }

pub kept_twice : (v t top : ℕ) (a b c : List ℕ) → Kept v t top a b → Kept v t top b c → Kept v t top a c
kept_twice v t top a b c first second = record {
  same = second.same ∙ first.same;
  others = λ x other outside. second.others x other outside ∙ first.others x other outside;
}

pub kept_set : (v t top : ℕ) (env : List ℕ) (y : ℕ) → Kept v t top env (slice_set env v y)
kept_set v t top env y = record {
  same = length-set env v y;
  others = λ x other outside. get_or-set_other env v x y 0 other;
}

-- what keeps all but a first temporary and those after it keeps all but the temporaries
pub kept_right : (v t top : ℕ) (a b : List ℕ) → t < top → Kept t (t + 1) top a b → Kept v t top a b
kept_right v t top a b lt kept = record {
  same = kept.same;
  others = λ x other outside. kept.others x (not_outside t top x lt outside) (outside_more t top x outside);
}

-- ---- statements that come to a value

-- the value is a word, where there is one
abbrev pub IsWordValue : Got ℕ → Type 0
IsWordValue (Is x) = x < 2 ^ 64
IsWordValue (Fails f) = Unit {0}

module _ (inputs : List Input) where
  -- ---- one after the other

  -- a run that goes on without an event leads to what comes after it
  pub passes_on : (a b : Block) (env env' : List ℕ) (left : ℕ) (o : Outcome) → run inputs a env left ≡ Runs [] env' left → run inputs b env' left ≡ o → run inputs (join a b) env left ≡ o
  passes_on a b env env' left o first second =
      goes_on inputs a b [] env env' left first ∙ after_nothing (run inputs b env' left) ∙ second

  pub ends_there : (a b : Block) (env : List ℕ) (left : ℕ) (f : Fault) → run inputs a env left ≡ Over [] (Failed f) → run inputs (join a b) env left ≡ Over [] (Failed f)
  ends_there a b env left f h = run_join inputs a b env left ∙ ap (λ o. then_do o (run inputs b)) h

  pub after_first : (a b : Block) (env env' : List ℕ) (v t top : ℕ) (P : ℕ → List ℕ → Type 0) (g : Got ℕ) → ((left : ℕ) → run inputs a env left ≡ Runs [] env' left) → Kept v t top env env' → ComesTo inputs b env' v t top P g → ComesTo inputs (join a b) env v t top P g
  after_first a b env env' v t top P (Is x) first kept second = record {
    env' = second.env';
    runs = λ left. passes_on a b env env' left (Runs [] second.env' left) (first left) (second.runs left);
    kept = kept_twice v t top env env' second.env' kept second.kept;
    word = second.word;
    holds = second.holds;
  }
  after_first a b env env' v t top P (Fails f) first kept second = λ left. passes_on a b env env' left (Over [] (Failed f)) (first left) (second left)

  -- the value of the first statements goes into the second ones
  pub then_comes : (a b : Block) (env : List ℕ) (v t top : ℕ) (P Q : ℕ → List ℕ → Type 0) (g : Got ℕ) (h : ℕ → Got ℕ) → ComesTo inputs a env v t top P g → ((x : ℕ) (env' : List ℕ) → x < 2 ^ 64 → Kept v t top env env' → P x env' → ComesTo inputs b env' v t top Q (h x)) → ComesTo inputs (join a b) env v t top Q (with_value g h)
  then_comes a b env v t top P Q (Is x) h first second =
      after_first a b env first.env' v t top Q (h x) first.runs first.kept (second x first.env' first.word first.kept first.holds)
  then_comes a b env v t top P Q (Fails f) h first second = λ left. ends_there a b env left f (first left)

  -- the second statements keep the value
  pub then_keeps : (a b : Block) (env : List ℕ) (v t top : ℕ) (P Q : ℕ → List ℕ → Type 0) (g : Got ℕ) → ComesTo inputs a env v t top P g → ((x : ℕ) (env' : List ℕ) → x < 2 ^ 64 → Kept v t top env env' → P x env' → GoesOn inputs b env' v t top Q x) → ComesTo inputs (join a b) env v t top Q g
  then_keeps a b env v t top P Q (Is x) first second =
      after_first a b env first.env' v t top Q (Is x) first.runs first.kept (second x first.env' first.word first.kept first.holds)
  then_keeps a b env v t top P Q (Fails f) first second = λ left. ends_there a b env left f (first left)

  -- another value, and what holds of it, without a statement
  pub maps : (a : Block) (env : List ℕ) (v t top : ℕ) (P Q : ℕ → List ℕ → Type 0) (g : Got ℕ) (f : ℕ → ℕ) → ComesTo inputs a env v t top P g → ((x : ℕ) (env' : List ℕ) → x < 2 ^ 64 → Kept v t top env env' → P x env' → (f x < 2 ^ 64) × Q (f x) env') → ComesTo inputs a env v t top Q (with_value g (λ x. Is (f x)))
  maps a env v t top P Q (Is x) f first second =
      let h = second x first.env' first.word first.kept first.holds in
      record { env' = first.env'; runs = first.runs; kept = first.kept; word = h.0; holds = h.1 }
  maps a env v t top P Q (Fails e) f first second = first

  pub holds_too : (a : Block) (env : List ℕ) (v t top : ℕ) (P Q : ℕ → List ℕ → Type 0) (g : Got ℕ) → ComesTo inputs a env v t top P g → ((x : ℕ) (env' : List ℕ) → x < 2 ^ 64 → Kept v t top env env' → P x env' → Q x env') → ComesTo inputs a env v t top Q g
  holds_too a env v t top P Q (Is x) first second =
      record { env' = first.env'; runs = first.runs; kept = first.kept; word = first.word; holds = second x first.env' first.word first.kept first.holds }
  holds_too a env v t top P Q (Fails f) first second = first

  -- no statements
  pub nothing_comes : (env : List ℕ) (v t top x : ℕ) (P : ℕ → List ℕ → Type 0) → x < 2 ^ 64 → P x env → GoesOn inputs Nil env v t top P x
  nothing_comes env v t top x P word holds =
      record { env' = env; runs = λ left. refl; kept = kept_all v t top env; word = word; holds = holds }

  -- ---- single statements

  -- statements that do what an assignment does
  pub assigns_comes : (block : Block) (env : List ℕ) (v t top : ℕ) (g : Got ℕ) → v < length env → IsWordValue g → Assigns inputs block v g env → ComesTo inputs block env v t top (IsIn v) g
  assigns_comes block env v t top (Is x) inside word does = record {
    env' = slice_set env v x;
    runs = does;
    kept = kept_set v t top env x;
    word = word;
    holds = get_or-set_same env v x 0 inside;
  }
  assigns_comes block env v t top (Fails f) inside word does = does

  pub set_comes : (env : List ℕ) (v t top : ℕ) (w : Operand) (x : ℕ) → v < length env → x < 2 ^ 64 → operand_value inputs w env ≡ Is x → GoesOn inputs (set v w) env v t top (IsIn v) x
  set_comes env v t top w x inside word is =
      assigns_comes (set v w) env v t top (Is x) inside word
      (λ left. ap (λ g. then_do (on_value g (λ y. Runs [] (slice_set env v y) left)) (run inputs Nil)) is)

  then_nothing : (o : Outcome) → then_do o (run inputs Nil) ≡ o
  then_nothing (Runs events env left) = ap (λ e. Runs e env left) (append-nil events)
  then_nothing (Over events standing) = refl

  if_runs : (c : Test) (a b : Block) (env : List ℕ) (left : ℕ) (truth : Bool) → test_value inputs c env ≡ Is truth → run inputs (Cons (If c a b) Nil) env left ≡ on_test (Is truth) (run inputs a env left) (run inputs b env left)
  if_runs c a b env left truth is =
      then_nothing (on_test (test_value inputs c env) (run inputs a env left) (run inputs b env left))
      ∙ ap (λ g. on_test g (run inputs a env left) (run inputs b env left)) is

  -- a choice does what the branch does that is chosen
  pub first_comes : (c : Test) (a b : Block) (env : List ℕ) (v t top : ℕ) (P : ℕ → List ℕ → Type 0) (g : Got ℕ) → test_value inputs c env ≡ Is true → ComesTo inputs a env v t top P g → ComesTo inputs (Cons (If c a b) Nil) env v t top P g
  first_comes c a b env v t top P (Is x) is h =
      record { env' = h.env'; runs = λ left. if_runs c a b env left true is ∙ h.runs left; kept = h.kept; word = h.word; holds = h.holds }
  first_comes c a b env v t top P (Fails f) is h = λ left. if_runs c a b env left true is ∙ h left

  pub second_comes : (c : Test) (a b : Block) (env : List ℕ) (v t top : ℕ) (P : ℕ → List ℕ → Type 0) (g : Got ℕ) → test_value inputs c env ≡ Is false → ComesTo inputs b env v t top P g → ComesTo inputs (Cons (If c a b) Nil) env v t top P g
  second_comes c a b env v t top P (Is x) is h =
      record { env' = h.env'; runs = λ left. if_runs c a b env left false is ∙ h.runs left; kept = h.kept; word = h.word; holds = h.holds }
  second_comes c a b env v t top P (Fails f) is h = λ left. if_runs c a b env left false is ∙ h left

  pub set_truth_comes : (env : List ℕ) (v t top : ℕ) (c : Test) (truth : Bool) → v < length env → test_value inputs c env ≡ Is truth → GoesOn inputs (set_truth v c) env v t top (IsIn v) (truth_of truth)
  set_truth_comes env v t top c true inside is =
      first_comes c (set v (Const 1)) (set v (Const 0)) env v t top (IsIn v) (Is 1) is (set_comes env v t top (Const 1) 1 inside (omega arith) refl)
  set_truth_comes env v t top c false inside is =
      second_comes c (set v (Const 1)) (set v (Const 0)) env v t top (IsIn v) (Is 0) is (set_comes env v t top (Const 0) 0 inside (omega arith) refl)
