-- How the value of an expression is used, once its statements have run: as an operand, as a condition, or in its target.
use Rattle.std.proofs.Common.{◌≡◌, ℕ, zero, suc, ◌<◌, ◌^◌, Bool, true, false, List, length, refl, sym, ap, ◌∙◌, subst}
use Rattle.std.specs.Prelude.{slice_index, not, ◌==◌}
use Rattle.std.proofs.Math.Dec.{eqb-suc-zero}
use Rattle.strm_num.specs.Words.{truth_of}
use Rattle.list_denotation.specs.declared.input.Input.{Input}
use Rattle.list_denotation.specs.Terms as term
use Rattle.list_denotation.specs.Terms.{Term}
use Rattle.list_denotation.specs.Values.{Got, Is}
use Rattle.loop_ir.specs.Statements.{Operand, Const, Var, Test, Same, Not, Block, Nil, join}
use Rattle.loop_ir.specs.Meaning.{operand_value, test_value}
use Rattle.expr_lower.specs.Contract.{is_true, Kept, ComesTo, GoesOn, IsIn}
use Rattle.expr_phrases.specs.Phrases.{set, set_truth}
use Rattle.expr_forms.specs.Forms.{Form, AWord, ATest, InTarget, operand_rest, operand_in, word_test, condition_in, target_rest}
use Rattle.expr_lower.specs.Scopes.{IsLeafInPlace, WordsInPlace}
use Rattle.expr_lower.proofs.Disjointness.{IsDisjointLeaf, IsDisjoint}
use Rattle.expr_lower.proofs.Leaves.{both_leaves}
use Rattle.expr_lower.proofs.Effects.{then_keeps, holds_too, nothing_comes, set_comes, set_truth_comes}

pub not_zero : (x : ℕ) → not (x == 0) ≡ is_true x
not_zero zero = refl
not_zero (suc x) = ap not (eqb-suc-zero x)

pub true_truth : (b : Bool) → is_true (truth_of b) ≡ b
true_truth true = refl
true_truth false = refl

module _ (rows words : List ℕ) (inputs : List Input) where
  -- words that stand in variables that are kept stand there still
  pub still_in_place : (e : Term) (v t top : ℕ) (env env' : List ℕ) → IsDisjoint rows v t top e → Kept v t top env env' → WordsInPlace rows words inputs env e → WordsInPlace rows words inputs env' e
  still_in_place e v t top env env' apart kept in_place =
      both_leaves (IsDisjointLeaf rows v t top) (IsLeafInPlace rows words inputs env) (IsLeafInPlace rows words inputs env') (leaf env env' kept) e apart in_place
    where
      leaf : (env env' : List ℕ) → Kept v t top env env' → (x : Term) → IsDisjointLeaf rows v t top x → IsLeafInPlace rows words inputs env x → IsLeafInPlace rows words inputs env' x
      leaf env env' kept (term.Var k) other there =
          record { same = kept.others (slice_index rows k) other.0 other.1 ∙ there.same; word = there.word }
      leaf env env' kept (term.Param k) other there = there
      leaf env env' kept (term.Len k) other there = there
      leaf env env' kept _ other there = tt

  -- the test has this truth
  pub record HasTruth (c : Test) (env : List ℕ) (x : ℕ) : Type 0 where
    pub truth : Bool
    pub is : test_value inputs c env ≡ Is truth
    pub as_word : x ≡ truth_of truth

  -- where the value x of an expression is found behind its statements
  abbrev pub IsFound : Term → Form → ℕ → ℕ → List ℕ → Type 0
  IsFound e (AWord w) v x env' = (env : List ℕ) → WordsInPlace rows words inputs env e → operand_value inputs w env ≡ Is x
  IsFound e (ATest c) v x env' = HasTruth c env' x
  IsFound e InTarget v x env' = slice_index env' v ≡ x

  -- the operand has the value, as long as the words that are read and the variable stay
  abbrev pub IsOperand : Term → Operand → ℕ → ℕ → List ℕ → Type 0
  IsOperand e w v x env' =
      (env : List ℕ) → WordsInPlace rows words inputs env e → slice_index env v ≡ slice_index env' v → operand_value inputs w env ≡ Is x

  abbrev pub IsCondition : Test → ℕ → List ℕ → Type 0
  IsCondition c x env' = test_value inputs c env' ≡ Is (is_true x)

  in_variable : (e : Term) (v x : ℕ) (env' : List ℕ) → slice_index env' v ≡ x → IsOperand e (Var v) v x env'
  in_variable e v x env' h = λ env in_place same. ap Is (same ∙ h)

  pub operand_comes : (e : Term) (block : Block) (form : Form) (v t top : ℕ) (env : List ℕ) (g : Got ℕ) → v < length env → ComesTo inputs block env v t top (IsFound e form v) g → ComesTo inputs (join block (operand_rest form v)) env v t top (IsOperand e (operand_in form v) v) g
  operand_comes e block (AWord w) v t top env g inside h =
      then_keeps inputs block Nil env v t top (IsFound e (AWord w) v) (IsOperand e w v) g h
      (λ x env' word kept found. nothing_comes inputs env' v t top x (IsOperand e w v) word (λ env'' in_place same. found env'' in_place))
  operand_comes e block (ATest c) v t top env g inside h =
      then_keeps inputs block (set_truth v c) env v t top (IsFound e (ATest c) v) (IsOperand e (Var v) v) g h
      (λ x env' word kept found. truth_kept e c v t top x env' (subst (λ n. v < n) (sym kept.same) inside) found)
    where
      truth_kept : (e : Term) (c : Test) (v t top x : ℕ) (env' : List ℕ) → v < length env' → HasTruth c env' x → GoesOn inputs (set_truth v c) env' v t top (IsOperand e (Var v) v) x
      truth_kept e c v t top x env' inside found =
          let set = set_truth_comes inputs env' v t top c found.truth inside found.is in
          let there : slice_index set.env' v ≡ x = set.holds ∙ sym found.as_word in
          record { env' = set.env'; runs = set.runs; kept = set.kept; word = subst (λ n. n < 2 ^ 64) (sym found.as_word) set.word; holds = in_variable e v x set.env' there }
  operand_comes e block InTarget v t top env g inside h =
      then_keeps inputs block Nil env v t top (IsFound e InTarget v) (IsOperand e (Var v) v) g h
      (λ x env' word kept found. nothing_comes inputs env' v t top x (IsOperand e (Var v) v) word (in_variable e v x env' found))

  condition_word : (w : Operand) (x : ℕ) (env' : List ℕ) → operand_value inputs w env' ≡ Is x → IsCondition (Not (Same w (Const 0))) x env'
  condition_word w x env' h = rw (h) (ap Is (not_zero x))

  -- a constant other than 0 is always true
  word_condition : (w : Operand) (x : ℕ) (env' : List ℕ) → operand_value inputs w env' ≡ Is x → IsCondition (word_test w) x env'
  word_condition (Const (suc c)) x env' h = let same : suc c ≡ x = cc in ap (λ n. Is (is_true n)) same
  word_condition w x env' h = condition_word w x env' h

  condition_truth : (c : Test) (x : ℕ) (env' : List ℕ) → HasTruth c env' x → IsCondition c x env'
  condition_truth c x env' h = h.is ∙ ap Is (sym (ap is_true h.as_word ∙ true_truth h.truth))

  pub condition_comes : (e : Term) (block : Block) (form : Form) (v t top : ℕ) (env : List ℕ) (g : Got ℕ) → IsDisjoint rows v t top e → WordsInPlace rows words inputs env e → ComesTo inputs block env v t top (IsFound e form v) g → ComesTo inputs block env v t top (IsCondition (condition_in form v)) g
  condition_comes e block (AWord w) v t top env g apart in_place h =
      holds_too inputs block env v t top (IsFound e (AWord w) v) (IsCondition (word_test w)) g h
      (λ x env' word kept found. word_condition w x env' (found env' (still_in_place e v t top env env' apart kept in_place)))
  condition_comes e block (ATest c) v t top env g apart in_place h =
      holds_too inputs block env v t top (IsFound e (ATest c) v) (IsCondition c) g h (λ x env' word kept found. condition_truth c x env' found)
  condition_comes e block InTarget v t top env g apart in_place h =
      holds_too inputs block env v t top (IsFound e InTarget v) (IsCondition (Not (Same (Var v) (Const 0)))) g h
      (λ x env' word kept found. condition_word (Var v) x env' (ap Is found))

  set_truth_found : (c : Test) (v t top x : ℕ) (env : List ℕ) → v < length env → HasTruth c env x → GoesOn inputs (set_truth v c) env v t top (IsIn v) x
  set_truth_found c v t top x env inside found =
      subst (λ n. GoesOn inputs (set_truth v c) env v t top (IsIn v) n) (sym found.as_word) (set_truth_comes inputs env v t top c found.truth inside found.is)

  pub target_comes : (e : Term) (block : Block) (form : Form) (v t top : ℕ) (env : List ℕ) (g : Got ℕ) → v < length env → IsDisjoint rows v t top e → WordsInPlace rows words inputs env e → ComesTo inputs block env v t top (IsFound e form v) g → ComesTo inputs (join block (target_rest form v)) env v t top (IsIn v) g
  target_comes e block (AWord w) v t top env g inside apart in_place h =
      then_keeps inputs block (set v w) env v t top (IsFound e (AWord w) v) (IsIn v) g h
      (λ x env' word kept found. set_comes inputs env' v t top w x (subst (λ n. v < n) (sym kept.same) inside) word (found env' (still_in_place e v t top env env' apart kept in_place)))
  target_comes e block (ATest c) v t top env g inside apart in_place h =
      then_keeps inputs block (set_truth v c) env v t top (IsFound e (ATest c) v) (IsIn v) g h
      (λ x env' word kept found. set_truth_found c v t top x env' (subst (λ n. v < n) (sym kept.same) inside) found)
  target_comes e block InTarget v t top env g inside apart in_place h =
      then_keeps inputs block Nil env v t top (IsFound e InTarget v) (IsIn v) g h
      (λ x env' word kept found. nothing_comes inputs env' v t top x (IsIn v) word found)
