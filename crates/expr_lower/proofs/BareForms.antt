-- What an expression without statements comes to: a word or a test of its leaves, which doesn't name its target.
use Rattle.std.proofs.Common.{◌≡◌, ℕ, zero, suc, ◌+◌, List, Option, Some, None, Bool, true, false, ◌&&◌, refl, arith}
use Rattle.std.specs.Prelude.{IsTrue, if◌then◌else◌}
use Rattle.strm_num.proofs.Truths.{both_true, true_both}
use Rattle.strm_num.specs.Words.{IsWord}
use Rattle.strm_num.specs.Magnitudes.{magnitude_of}
use Rattle.list_denotation.specs.declared.expr.BinOp.{BinOp}
use Rattle.list_denotation.specs.declared.expr.BinOp.TheVariants as sign
use Rattle.list_denotation.specs.Terms.{Term, Lit, Truth, Var, Param, Len, Neg, Not, Bin, And, Or, If}
use Rattle.loop_ir.specs.declared.syntax.WOp.{WOp}
use Rattle.loop_ir.specs.declared.syntax.WOp.TheVariants as op
use Rattle.loop_ir.specs.Leaves.{operand_leaves, test_leaves}
use Rattle.loop_ir.specs.Statements as s
use Rattle.loop_ir.specs.Statements.{Operand, Test, Same, Block, Nil, Cons, join}
use Rattle.expr_phrases.specs.Phrases.{Division, Quotient, Remainder, set, minus, set_truth, by_dividend, by_divisor, Connective, Conjunction, Disjunction, connected_test, connected_block, divides_modulus, magnitude_block, multiple_test}
use Rattle.expr_constants.specs.Constants.{by_constant, constant_of, IsWordConstant}
use Rattle.expr_forms.specs.Forms.{Form, AWord, ATest, InTarget, Lowered, Condition, condition_of, is_word, operand_rest, operand_block, operand_in, word_test, condition_in, into, as_word, in_target, lowered_minus, lowered_not, lowered_arithmetic, lowered_comparison, division_operand_block, division_operand_in, lowered_division, lowered_operation, lowered_multiple, is_empty, is_neutral, lowered_truth, lowered_connective, lowered_connected, lowered_choice, lowered_chosen}
use Rattle.expr_lower.specs.Lowering.{folded, lowered_parts, lowered_dividend, lowered_term}
use Rattle.expr_lower.specs.Multiples.{dividend_of, multiple_divisor}
use Rattle.expr_lower.specs.Laws.{Laws}
use Rattle.expr_lower.specs.Scopes.{EachLeaf, IsWordLeaf}
use Rattle.expr_lower.proofs.LeafTests.{leaf_operand}
use Rattle.expr_lower.proofs.Leaves.{leaves_word}
use Rattle.expr_lower.proofs.MultipleTests.{multiple_is, divisor_word}

-- ---- statements of which there are none

empty_parts : (a b : Block) → IsTrue (is_empty (join a b)) → IsTrue (is_empty a) × IsTrue (is_empty b)
empty_parts Nil b h = (refl, h)
empty_parts (Cons s ss) b h = absurd cc

by_dividend_not_empty : (d : Division) (m : Option ℕ) (x y : Operand) (negative : Bool) (v : ℕ) → IsTrue (is_empty (by_dividend d m x y negative v)) → ⊥
by_dividend_not_empty d (Some c) x y negative v h = absurd cc
by_dividend_not_empty d None x y negative v h = absurd cc

by_divisor_not_empty : (d : Division) (m n : Option ℕ) (x y : Operand) (v : ℕ) → IsTrue (is_empty (by_divisor d m n x y v)) → ⊥
by_divisor_not_empty d m (Some zero) x y v h = absurd cc
by_divisor_not_empty d m (Some (suc c)) x y v h = by_dividend_not_empty d m x _ _ v h
by_divisor_not_empty d m None x y v h = absurd cc

connected_not_empty : (o : Connective) (t : Test) (second : Block) (v : ℕ) → IsTrue (is_empty (connected_block o t second v)) → ⊥
connected_not_empty Conjunction t second v h = absurd cc
connected_not_empty Disjunction t second v h = absurd cc

module _ (laws : Laws) (passes : Operand → Bool) (constants : (c : ℕ) → IsWord c → IsTrue (passes (s.Const c))) where
  abbrev InOperand : Operand → Type 0
  InOperand w = IsTrue (operand_leaves passes w)

  abbrev InTest : Test → Type 0
  InTest t = IsTrue (test_leaves passes t)

  -- a form behind these statements: a word of leaves, or else a test of leaves if there are no statements
  abbrev BareIn : Block → Form → Type 0
  BareIn b (AWord w) = InOperand w
  BareIn b (ATest t) = IsTrue (is_empty b) → InTest t
  BareIn b InTarget = IsTrue (is_empty b) → ⊥

  abbrev IsBare : Lowered → Type 0
  IsBare l = BareIn l.block l.form

  abbrev IsBareCondition : Condition → Type 0
  IsBareCondition c = IsTrue (is_empty c.block) → InTest c.test

  -- ---- uses of values

  word_bare : (b : Block) (f : Form) (v : ℕ) → BareIn b f → is_word f ≡ true → InOperand (operand_in f v)
  word_bare b (AWord w) v h is = h
  word_bare b (ATest t) v h is = absurd cc
  word_bare b InTarget v h is = absurd cc

  rest_bare : (b : Block) (f : Form) (v : ℕ) → BareIn b f → IsTrue (is_empty b) → IsTrue (is_empty (operand_rest f v)) → InOperand (operand_in f v)
  rest_bare b (AWord w) v h none rest = h
  rest_bare b (ATest t) v h none rest = absurd cc
  rest_bare b InTarget v h none rest = absurd (h none)

  operand_bare : (l : Lowered) (v : ℕ) → IsBare l → IsTrue (is_empty (operand_block l v)) → InOperand (operand_in l.form v)
  operand_bare l v h none =
      let parts = empty_parts l.block (operand_rest l.form v) none in rest_bare l.block l.form v h parts.0 parts.1

  zero_bare : InOperand (s.Const 0)
  zero_bare = constants 0 (omega arith)

  both_bare : (a b : Operand) → InOperand a → InOperand b → IsTrue (operand_leaves passes a && operand_leaves passes b)
  both_bare a b h k = true_both (operand_leaves passes a) (operand_leaves passes b) h k

  word_test_bare : (w : Operand) → InOperand w → InTest (word_test w)
  word_test_bare (s.Const (suc c)) h = both_bare (s.Const 0) (s.Const 0) zero_bare zero_bare
  word_test_bare w h = both_bare w (s.Const 0) h zero_bare

  form_bare : (b : Block) (f : Form) (v : ℕ) → BareIn b f → IsTrue (is_empty b) → InTest (condition_in f v)
  form_bare b (AWord w) v h none = word_test_bare w h
  form_bare b (ATest t) v h none = h none
  form_bare b InTarget v h none = absurd (h none)

  condition_bare : (l : Lowered) (v : ℕ) → IsBare l → IsBareCondition (condition_of l v)
  condition_bare l v h = λ none. form_bare l.block l.form v h none

  -- ---- expressions that are put together

  word_bare_if : (c : Bool) (w : Operand) (b : Block) → (c ≡ true → InOperand w) → (IsTrue (is_empty b) → ⊥) → IsBare (if c then as_word w else in_target b)
  word_bare_if true w b h k = h refl
  word_bare_if false w b h k = k

  minus_bare : (a : Lowered) (v : ℕ) → IsBare a → IsBare (lowered_minus a v)
  minus_bare a v h =
      word_bare_if (is_word a.form) (minus (operand_in a.form v)) (join (operand_block a v) (set v (minus (s.Var v))))
      (λ is. both_bare (s.Const 0) (operand_in a.form v) zero_bare (word_bare a.block a.form v h is))
      (λ none. let parts = empty_parts (operand_block a v) (set v (minus (s.Var v))) none in absurd cc)

  not_bare : (c : Condition) → IsBareCondition c → IsBare (lowered_not c)
  not_bare c h = λ none. laws.opposite_test_leaves passes c.test (h none)

  arithmetic_bare : (o : WOp) (a b : Lowered) (v t : ℕ) → IsBare a → IsBare b → IsBare (lowered_arithmetic o a b v t)
  arithmetic_bare o a b v t h k =
      let x : Operand = operand_in a.form v in
      let y : Operand = operand_in b.form t in
      word_bare_if (is_word a.form && is_word b.form) (s.Bin o x y) (join (operand_block a v) (join (operand_block b t) (set v (s.Bin o x y))))
      (λ is. let words = both_true (is_word a.form) (is_word b.form) is in both_bare x y (word_bare a.block a.form v h words.0) (word_bare b.block b.form t k words.1))
      (λ none.
      let parts = empty_parts (operand_block a v) (join (operand_block b t) (set v (s.Bin o x y))) none in
      let rest = empty_parts (operand_block b t) (set v (s.Bin o x y)) parts.1 in absurd cc)

  comparison_bare : (o : BinOp) (a b : Lowered) (v t : ℕ) → IsBare a → IsBare b → IsBare (lowered_comparison o a b v t)
  comparison_bare o a b v t h k = λ none.
      let parts = empty_parts (operand_block a v) (operand_block b t) none in
      laws.comparison_test_leaves passes o (operand_in a.form v) (operand_in b.form t) constants (operand_bare a v h parts.0) (operand_bare b t k parts.1)

  division_bare : (d : Division) (x y : Term) (a b : Lowered) (v t : ℕ) → IsBare (lowered_division d x y a b v t)
  division_bare d x y a b v t = λ none.
      let divided : Block = by_divisor d (constant_of x) (constant_of y) (division_operand_in x a.form v) (division_operand_in y b.form t) v in
      let parts = empty_parts (division_operand_block x a v) (join (division_operand_block y b t) divided) none in
      let rest = empty_parts (division_operand_block y b t) divided parts.1 in
      by_divisor_not_empty d (constant_of x) (constant_of y) (division_operand_in x a.form v) (division_operand_in y b.form t) v rest.1

  operation_bare : (o : BinOp) (x y : Term) (a b : Lowered) (v t : ℕ) → IsBare a → IsBare b → IsBare (lowered_operation o x y a b v t)
  operation_bare sign.Add x y a b v t h k = arithmetic_bare op.Add a b v t h k
  operation_bare sign.Sub x y a b v t h k = arithmetic_bare op.Sub a b v t h k
  operation_bare sign.Mul x y a b v t h k = arithmetic_bare op.Mul a b v t h k
  operation_bare sign.Div x y a b v t h k = division_bare Quotient x y a b v t
  operation_bare sign.Rem x y a b v t h k = division_bare Remainder x y a b v t
  operation_bare sign.Eq x y a b v t h k = comparison_bare sign.Eq a b v t h k
  operation_bare sign.Ne x y a b v t h k = comparison_bare sign.Ne a b v t h k
  operation_bare sign.Lt x y a b v t h k = comparison_bare sign.Lt a b v t h k
  operation_bare sign.Le x y a b v t h k = comparison_bare sign.Le a b v t h k
  operation_bare sign.Gt x y a b v t h k = comparison_bare sign.Gt a b v t h k
  operation_bare sign.Ge x y a b v t h k = comparison_bare sign.Ge a b v t h k

  multiple_bare : (o : BinOp) (x : Term) (c : ℕ) (l : Lowered) (v : ℕ) → IsWord c → IsBare l → IsBare (lowered_multiple o x c l v)
  multiple_bare o x c l v word h = by_magnitude (divides_modulus (magnitude_of c))
    where
      by_magnitude : (divides : Bool) → IsTrue (is_empty (if divides then operand_block l v else join (division_operand_block x l v) (magnitude_block (division_operand_in x l.form v) v))) → InTest (multiple_test o (if divides then operand_in l.form v else s.Var v) (magnitude_of c))
      by_magnitude true none = laws.multiple_test_leaves passes o (operand_in l.form v) c constants word (operand_bare l v h none)
      by_magnitude false none =
          let parts = empty_parts (division_operand_block x l v) (magnitude_block (division_operand_in x l.form v) v) none in absurd cc

  connected_bare : (o : Connective) (a b : Test) → InTest a → InTest b → InTest (connected_test o a b)
  connected_bare Conjunction a b h k = true_both (test_leaves passes a) (test_leaves passes b) h k
  connected_bare Disjunction a b h k = true_both (test_leaves passes a) (test_leaves passes b) h k

  connective_bare_if : (c : Bool) (o : Connective) (first : Block) (s t : Test) (second : Block) (v : ℕ) → (IsTrue (is_empty first) → InTest s) → (c ≡ true → InTest t) → BareIn (join first (if c then Nil else connected_block o s second v)) (if c then ATest (connected_test o s t) else InTarget)
  connective_bare_if true o first s t second v h k = λ none. connected_bare o s t (h (empty_parts first Nil none).0) (k refl)
  connective_bare_if false o first s t second v h k = λ none. connected_not_empty o s second v (empty_parts first (connected_block o s second v) none).1

  connective_bare : (o : Connective) (a b : Condition) (v : ℕ) → IsBareCondition a → IsBareCondition b → IsBare (lowered_connective o a b v)
  connective_bare o a b v h k = connective_bare_if (is_empty b.block) o a.block a.test b.test (join b.block (set_truth v b.test)) v h k

  -- a part that is constant leaves it to the other one
  connected_bare_by : (o : Connective) (first second : Option ℕ) (a b : Condition) (v : ℕ) → IsBareCondition a → IsBareCondition b → IsBare (lowered_connected o first second a b v)
  connected_bare_by o (Some c) second a b v h k = k
  connected_bare_by o None second a b v h k = by_neutral (is_neutral o second)
    where
      by_neutral : (neutral : Bool) → IsBare (if neutral then lowered_truth a else lowered_connective o a b v)
      by_neutral true = h
      by_neutral false = connective_bare o a b v h k

  choice_bare : (c : Condition) (a b : Block) → IsBare (lowered_choice c a b)
  choice_bare c a b = λ none. let parts = empty_parts c.block (Cons (s.If c.test a b) Nil) none in absurd cc

  chosen_bare : (condition : Option ℕ) (c : Condition) (a b : Lowered) (v : ℕ) → IsBare a → IsBare b → IsBare (lowered_chosen condition c a b v)
  chosen_bare (Some zero) c a b v h k = k
  chosen_bare (Some (suc x)) c a b v h k = h
  chosen_bare None c a b v h k = choice_bare c (into a v) (into b v)

  -- ---- expressions

  folded_bare_by : (k : Option ℕ) (l : Lowered) → IsWordConstant k → IsBare l → IsBare (folded k l)
  folded_bare_by (Some c) l word h = constants c word
  folded_bare_by None l word h = h

  module _ (rows : List ℕ) where
    abbrev InLeaf : Term → Type 0
    InLeaf x = InOperand (leaf_operand rows x)

    binary_bare : (o : BinOp) (a b : Term) (v t : ℕ) → EachLeaf IsWordLeaf (Bin o a b) → IsBare (lowered_dividend rows a v t) → IsBare (lowered_dividend rows b v t) → IsBare (lowered_term rows a v t) → IsBare (lowered_term rows b t (t + 1)) → IsBare (lowered_parts rows (Bin o a b) v t)
    unfolding lowered_term
    binary_bare o a b v t has left right first second = by_divisors (multiple_divisor o a b) (multiple_divisor o b a) refl refl
      where
        by_divisors : (j k : Option ℕ) → multiple_divisor o a b ≡ j → multiple_divisor o b a ≡ k → IsBare (by_constant j (λ c. lowered_multiple o (dividend_of a) c (lowered_dividend rows a v t) v) (by_constant k (λ c. lowered_multiple o (dividend_of b) c (lowered_dividend rows b v t) v) (lowered_operation o a b (lowered_term rows a v t) (lowered_term rows b t (t + 1)) v t)))
        by_divisors (Some c) k is other =
            multiple_bare o (dividend_of a) c (lowered_dividend rows a v t) v (divisor_word laws a c has.0 (multiple_is o a b c is).divisor) left
        by_divisors None (Some c) is other =
            multiple_bare o (dividend_of b) c (lowered_dividend rows b v t) v (divisor_word laws b c has.1 (multiple_is o b a c other).divisor) right
        by_divisors None None is other = operation_bare o a b (lowered_term rows a v t) (lowered_term rows b t (t + 1)) v t first second

    -- a constant is a word, and all else is what its parts give
    folded_bare : (e : Term) (v t : ℕ) → EachLeaf IsWordLeaf e → IsBare (lowered_parts rows e v t) → IsBare (lowered_term rows e v t)
    unfolding lowered_term
    folded_bare e v t has h = folded_bare_by (constant_of e) (lowered_parts rows e v t) (laws.constant_word e (leaves_word e has)) h

    mutual
      unfolding lowered_term

      parts_bare : (e : Term) (v t : ℕ) → EachLeaf IsWordLeaf e → EachLeaf InLeaf e → IsBare (lowered_parts rows e v t)
      parts_bare (Lit c) v t has h = h
      parts_bare (Truth b) v t has h = h
      parts_bare (Var k) v t has h = h
      parts_bare (Param k) v t has h = h
      parts_bare (Len k) v t has h = h
      parts_bare (Neg a) v t has h = minus_bare (lowered_term rows a v t) v (folded_bare a v t has (parts_bare a v t has h))
      parts_bare (Not a) v t has h =
          not_bare (condition_of (lowered_term rows a v t) v) (condition_bare (lowered_term rows a v t) v (folded_bare a v t has (parts_bare a v t has h)))
      parts_bare (Bin o a b) v t has h =
          binary_bare o a b v t has (dividend_bare a v t has.0 h.0) (dividend_bare b v t has.1 h.1)
          (folded_bare a v t has.0 (parts_bare a v t has.0 h.0)) (folded_bare b t (t + 1) has.1 (parts_bare b t (t + 1) has.1 h.1))
      parts_bare (And a b) v t has h =
          connected_bare_by Conjunction (constant_of a) (constant_of b) (condition_of (lowered_term rows a v t) v) (condition_of (lowered_term rows b v t) v) v
          (condition_bare (lowered_term rows a v t) v (folded_bare a v t has.0 (parts_bare a v t has.0 h.0)))
          (condition_bare (lowered_term rows b v t) v (folded_bare b v t has.1 (parts_bare b v t has.1 h.1)))
      parts_bare (Or a b) v t has h =
          connected_bare_by Disjunction (constant_of a) (constant_of b) (condition_of (lowered_term rows a v t) v) (condition_of (lowered_term rows b v t) v) v
          (condition_bare (lowered_term rows a v t) v (folded_bare a v t has.0 (parts_bare a v t has.0 h.0)))
          (condition_bare (lowered_term rows b v t) v (folded_bare b v t has.1 (parts_bare b v t has.1 h.1)))
      parts_bare (If c a b) v t has h =
          chosen_bare (constant_of c) (condition_of (lowered_term rows c v t) v) (lowered_term rows a v t) (lowered_term rows b v t) v
          (folded_bare a v t has.1.0 (parts_bare a v t has.1.0 h.1.0)) (folded_bare b v t has.1.1 (parts_bare b v t has.1.1 h.1.1))

      dividend_bare : (a : Term) (v t : ℕ) → EachLeaf IsWordLeaf a → EachLeaf InLeaf a → IsBare (lowered_dividend rows a v t)
      dividend_bare (Bin o x y) v t has h = folded_bare x v t has.0 (parts_bare x v t has.0 h.0)
      dividend_bare _ v t has h = zero_bare

    -- a condition without statements is a test of the expression's leaves
    pub bare_test : (e : Term) (v t : ℕ) → EachLeaf IsWordLeaf e → EachLeaf InLeaf e → IsTrue (is_empty (lowered_term rows e v t).block) → InTest (condition_in (lowered_term rows e v t).form v)
    bare_test e v t has h none = condition_bare (lowered_term rows e v t) v (folded_bare e v t has (parts_bare e v t has h)) none
