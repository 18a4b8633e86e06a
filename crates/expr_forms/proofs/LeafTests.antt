-- The leaves of forms and operations: what passes in the parts passes in the whole.
use Rattle.std.proofs.Common.{◌≡◌, ℕ, suc, Bool, true, false, ◌&&◌, refl, ◌∙◌, arith}
use Rattle.std.specs.Prelude.{IsTrue, if◌then◌else◌}
use Rattle.strm_num.proofs.Truths.{true_both}
use Rattle.strm_num.specs.Words.{IsWord}
use Rattle.strm_num.specs.Magnitudes.{magnitude_of}
use Rattle.list_denotation.specs.declared.expr.BinOp.{BinOp}
use Rattle.list_denotation.specs.declared.expr.BinOp.TheVariants as sign
use Rattle.list_denotation.specs.Literals.{has_words}
use Rattle.list_denotation.specs.Terms.{Term}
use Rattle.list_denotation.specs.Typing.{is_division}
use Rattle.loop_ir.specs.declared.syntax.WOp.{WOp}
use Rattle.loop_ir.specs.declared.syntax.WOp.TheVariants as op
use Rattle.loop_ir.specs.Leaves.{operand_leaves, test_leaves, block_leaves}
use Rattle.loop_ir.specs.Statements as s
use Rattle.loop_ir.specs.Statements.{Operand, Test, Same, Block, Nil, Cons, join}
use Rattle.expr_phrases.specs.Phrases.{Division, Quotient, Remainder, set, minus, set_truth, by_divisor, Connective, Conjunction, Disjunction, connected_test, connected_block, divides_modulus, magnitude_block}
use Rattle.expr_constants.specs.Constants.{constant_of}
use Rattle.expr_constants.specs.Simple.{is_simple}
use Rattle.expr_forms.specs.FormLeaves as leaf
use Rattle.expr_forms.specs.FormLeaves.{IsLeafTest}
use Rattle.expr_forms.specs.Forms.{Form, AWord, ATest, InTarget, Lowered, Condition, condition_of, is_word, operand_rest, operand_block, operand_in, word_test, condition_in, target_rest, into, as_word, in_target, lowered_minus, lowered_not, lowered_arithmetic, lowered_comparison, division_operand_block, division_operand_in, lowered_division, lowered_operation, lowered_multiple, is_empty, connective_rest, lowered_connective, lowered_choice}
use Rattle.expr_forms.specs.Laws.{Laws}

-- both tests fail together where one does
not_first : (a b : Bool) → a ≡ false → (a && b) ≡ false
not_first a b h = rw h refl

-- a word where the condition holds, and else a value in the target
word_if : (c : Bool) (w : Operand) (b : Block) → is_word (if c then as_word w else in_target b).form ≡ c
word_if true w b = refl
word_if false w b = refl

module _ (laws : Laws) (passes : Operand → Bool) (is : IsLeafTest passes) where
  abbrev InVariable : ℕ → Type 0
  InVariable v = leaf.InVariable passes v

  abbrev InOperand : Operand → Type 0
  InOperand w = leaf.InOperand passes w

  abbrev InTest : Test → Type 0
  InTest t = leaf.InTest passes t

  abbrev InBlock : Block → Type 0
  InBlock b = leaf.InBlock passes b

  abbrev InForm : Form → Type 0
  InForm f = leaf.InForm passes f

  abbrev InLowered : Lowered → Type 0
  InLowered l = leaf.InLowered passes l

  abbrev InCondition : Condition → Type 0
  InCondition c = leaf.InCondition passes c

  -- ---- phrases

  operands_in : (a b : Operand) → InOperand a → InOperand b → IsTrue (operand_leaves passes a && operand_leaves passes b)
  operands_in a b h k = true_both (operand_leaves passes a) (operand_leaves passes b) h k

  tests_in : (a b : Test) → InTest a → InTest b → IsTrue (test_leaves passes a && test_leaves passes b)
  tests_in a b h k = true_both (test_leaves passes a) (test_leaves passes b) h k

  set_in : (v : ℕ) (w : Operand) → InVariable v → InOperand w → InBlock (set v w)
  set_in v w h k = true_both (passes (s.Var v) && operand_leaves passes w) true (true_both (passes (s.Var v)) (operand_leaves passes w) h k) refl

  if_in : (t : Test) (a b : Block) → InTest t → InBlock a → InBlock b → InBlock (Cons (s.If t a b) Nil)
  if_in t a b h j k =
      true_both (test_leaves passes t && (block_leaves passes a && block_leaves passes b)) true
      (true_both (test_leaves passes t) (block_leaves passes a && block_leaves passes b) h (true_both (block_leaves passes a) (block_leaves passes b) j k)) refl

  zero_in : InOperand (s.Const 0)
  zero_in = is.constants 0 (omega arith)

  constant_set : (v c : ℕ) → InVariable v → IsWord c → InBlock (set v (s.Const c))
  constant_set v c h word = set_in v (s.Const c) h (is.constants c word)

  truth_in : (v : ℕ) (t : Test) → InVariable v → InTest t → InBlock (set_truth v t)
  truth_in v t h k =
      if_in t (set v (s.Const 1)) (set v (s.Const 0)) k (constant_set v 1 h (omega arith)) (constant_set v 0 h (omega arith))

  minus_in : (w : Operand) → InOperand w → InOperand (minus w)
  minus_in w h = operands_in (s.Const 0) w zero_in h

  -- ---- forms

  -- an operand: one that is no word names the target
  rest_in : (f : Form) (v : ℕ) → InForm f → (is_word f ≡ false → InVariable v) → InBlock (operand_rest f v)
  rest_in (AWord w) v h at = refl
  rest_in (ATest t) v h at = truth_in v t (at refl) h
  rest_in InTarget v h at = refl

  pub operand_in_in : (f : Form) (v : ℕ) → InForm f → (is_word f ≡ false → InVariable v) → InOperand (operand_in f v)
  operand_in_in (AWord w) v h at = h
  operand_in_in (ATest t) v h at = at refl
  operand_in_in InTarget v h at = at refl

  -- a condition, and the value in the target
  not_zero_in : (w : Operand) → InOperand w → InTest (s.Not (Same w (s.Const 0)))
  not_zero_in w h = operands_in w (s.Const 0) h zero_in

  word_test_in : (w : Operand) → InOperand w → InTest (word_test w)
  word_test_in (s.Const (suc c)) h = operands_in (s.Const 0) (s.Const 0) zero_in zero_in
  word_test_in w h = not_zero_in w h

  condition_in_in : (f : Form) (v : ℕ) → InForm f → InVariable v → InTest (condition_in f v)
  condition_in_in (AWord w) v h at = word_test_in w h
  condition_in_in (ATest t) v h at = h
  condition_in_in InTarget v h at = not_zero_in (s.Var v) at

  target_in : (f : Form) (v : ℕ) → InForm f → InVariable v → InBlock (target_rest f v)
  target_in (AWord w) v h at = set_in v w at h
  target_in (ATest t) v h at = truth_in v t at h
  target_in InTarget v h at = refl

  -- the same with the statements before it
  pub operand_block_in : (l : Lowered) (v : ℕ) → InLowered l → (is_word l.form ≡ false → InVariable v) → InBlock (operand_block l v)
  operand_block_in l v h at = is.joins l.block (operand_rest l.form v) h.block (rest_in l.form v h.form at)

  pub into_in : (l : Lowered) (v : ℕ) → InLowered l → InVariable v → InBlock (into l v)
  into_in l v h at = is.joins l.block (target_rest l.form v) h.block (target_in l.form v h.form at)

  pub condition_of_in : (l : Lowered) (v : ℕ) → InLowered l → InVariable v → InCondition (condition_of l v)
  condition_of_in l v h at = record { block = h.block; test = condition_in_in l.form v h.form at }

  -- ---- the parts of expressions that are put together. The target of what is no word may be named

  -- a word, or statements that put a value into the target
  word_in_if : (c : Bool) (w : Operand) (b : Block) → InOperand w → (c ≡ false → InBlock b) → InLowered (if c then as_word w else in_target b)
  word_in_if true w b h k = record { block = refl; form = h }
  word_in_if false w b h k = record { block = k refl; form = tt }

  pub minus_form_in : (a : Lowered) (v : ℕ) → InLowered a → (is_word a.form ≡ false → InVariable v) → InLowered (lowered_minus a v)
  minus_form_in a v h at =
      word_in_if (is_word a.form) (minus (operand_in a.form v)) (join (operand_block a v) (set v (minus (s.Var v))))
      (minus_in (operand_in a.form v) (operand_in_in a.form v h.form at))
      (λ none. is.joins (operand_block a v) (set v (minus (s.Var v))) (operand_block_in a v h at)
      (set_in v (minus (s.Var v)) (at none) (minus_in (s.Var v) (at none))))

  pub not_form_in : (c : Condition) → InCondition c → InLowered (lowered_not c)
  not_form_in c h = record { block = h.block; form = laws.opposite_leaves passes c.test h.test }

  connected_test_in : (o : Connective) (a b : Test) → InTest a → InTest b → InTest (connected_test o a b)
  connected_test_in Conjunction a b h k = tests_in a b h k
  connected_test_in Disjunction a b h k = tests_in a b h k

  connected_block_in : (o : Connective) (t : Test) (second : Block) (v : ℕ) → InTest t → InBlock second → InVariable v → InBlock (connected_block o t second v)
  connected_block_in Conjunction t second v h k at = if_in t second (set v (s.Const 0)) h k (constant_set v 0 at (omega arith))
  connected_block_in Disjunction t second v h k at = if_in t (set v (s.Const 1)) second h (constant_set v 1 at (omega arith)) k

  -- nothing, or these statements; a test, or a value in the target
  nothing_or_in : (c : Bool) (b : Block) → InBlock b → InBlock (if c then Nil else b)
  nothing_or_in true b h = refl
  nothing_or_in false b h = h

  test_or_in : (c : Bool) (t : Test) → InTest t → InForm (if c then ATest t else InTarget)
  test_or_in true t h = h
  test_or_in false t h = tt

  pub connective_in : (o : Connective) (a b : Condition) (v : ℕ) → InCondition a → InCondition b → InVariable v → InLowered (lowered_connective o a b v)
  connective_in o a b v h k at =
      let second : InBlock (join b.block (set_truth v b.test)) = is.joins b.block (set_truth v b.test) k.block (truth_in v b.test at k.test) in
      record {
        block = is.joins a.block (connective_rest o a.test b v) h.block
            (nothing_or_in (is_empty b.block) (connected_block o a.test (join b.block (set_truth v b.test)) v)
            (connected_block_in o a.test (join b.block (set_truth v b.test)) v h.test second at));
        form = test_or_in (is_empty b.block) (connected_test o a.test b.test) (connected_test_in o a.test b.test h.test k.test);
      }

  pub choice_in : (c : Condition) (a b : Block) → InCondition c → InBlock a → InBlock b → InLowered (lowered_choice c a b)
  choice_in c a b h j k =
      record { block = is.joins c.block (Cons (s.If c.test a b) Nil) h.block (if_in c.test a b h.test j k); form = tt }

  arithmetic_in : (o : WOp) (a b : Lowered) (v t : ℕ) → InLowered a → InLowered b → ((is_word a.form && is_word b.form) ≡ false → InVariable v) → (is_word b.form ≡ false → InVariable t) → InLowered (lowered_arithmetic o a b v t)
  arithmetic_in o a b v t h k at temp =
      let first : is_word a.form ≡ false → InVariable v = λ none. at (not_first (is_word a.form) (is_word b.form) none) in
      let x : Operand = operand_in a.form v in
      let y : Operand = operand_in b.form t in
      let words : InOperand (s.Bin o x y) = operands_in x y (operand_in_in a.form v h.form first) (operand_in_in b.form t k.form temp) in
      word_in_if (is_word a.form && is_word b.form) (s.Bin o x y) (join (operand_block a v) (join (operand_block b t) (set v (s.Bin o x y)))) words
      (λ none. is.joins (operand_block a v) (join (operand_block b t) (set v (s.Bin o x y))) (operand_block_in a v h first)
      (is.joins (operand_block b t) (set v (s.Bin o x y)) (operand_block_in b t k temp) (set_in v (s.Bin o x y) (at none) words)))

  comparison_form_in : (o : BinOp) (a b : Lowered) (v t : ℕ) → InLowered a → InLowered b → InVariable v → (is_word b.form ≡ false → InVariable t) → InLowered (lowered_comparison o a b v t)
  comparison_form_in o a b v t h k at temp = record {
    block = is.joins (operand_block a v) (operand_block b t) (operand_block_in a v h (λ none. at)) (operand_block_in b t k temp);
    form = laws.comparison_leaves passes o (operand_in a.form v) (operand_in b.form t) is.constants (operand_in_in a.form v h.form (λ none. at)) (operand_in_in b.form t k.form temp);
  }

  -- the operands of a division
  division_operand_block_in : (c : Bool) (l : Lowered) (v : ℕ) → InLowered l → (c ≡ false → InVariable v) → InBlock (if c then Nil else into l v)
  division_operand_block_in true l v h at = refl
  division_operand_block_in false l v h at = into_in l v h (at refl)

  division_operand_in_in : (c : Bool) (f : Form) (v : ℕ) → InForm f → (is_word f ≡ false → InVariable v) → (c ≡ false → InVariable v) → InOperand (if c then operand_in f v else s.Var v)
  division_operand_in_in true f v h word at = operand_in_in f v h word
  division_operand_in_in false f v h word at = at refl

  division_in : (d : Division) (x y : Term) (a b : Lowered) (v t : ℕ) → IsTrue (has_words x) → IsTrue (has_words y) → InLowered a → InLowered b → InVariable v → (is_word b.form ≡ false → InVariable t) → (is_simple y ≡ false → InVariable t) → InLowered (lowered_division d x y a b v t)
  division_in d x y a b v t has_x has_y h k at word temp =
      let left : InOperand (division_operand_in x a.form v) = division_operand_in_in (is_simple x) a.form v h.form (λ none. at) (λ none. at) in
      let right : InOperand (division_operand_in y b.form t) = division_operand_in_in (is_simple y) b.form t k.form word temp in
      let divided : Block = by_divisor d (constant_of x) (constant_of y) (division_operand_in x a.form v) (division_operand_in y b.form t) v in
      record {
        block = is.joins (division_operand_block x a v) (join (division_operand_block y b t) divided) (division_operand_block_in (is_simple x) a v h (λ none. at))
            (is.joins (division_operand_block y b t) divided (division_operand_block_in (is_simple y) b t k temp)
            (laws.division_leaves passes d (constant_of x) (constant_of y) (division_operand_in x a.form v) (division_operand_in y b.form t) v is.constants (laws.constant_word x has_x) (laws.constant_word y has_y) at left right));
        form = tt;
      }

  -- a right operand that is no word, or is kept, has a temporary
  pub operation_in : (o : BinOp) (x y : Term) (a b : Lowered) (v t : ℕ) → IsTrue (has_words x) → IsTrue (has_words y) → InLowered a → InLowered b → (is_word (lowered_operation o x y a b v t).form ≡ false → InVariable v) → (is_word b.form ≡ false → InVariable t) → (IsTrue (is_division o) → is_simple y ≡ false → InVariable t) → InLowered (lowered_operation o x y a b v t)
  operation_in sign.Add x y a b v t has_x has_y h k at word temp = arithmetic_in op.Add a b v t h k (λ none. at (word_if (is_word a.form && is_word b.form) _ _ ∙ none)) word
  operation_in sign.Sub x y a b v t has_x has_y h k at word temp = arithmetic_in op.Sub a b v t h k (λ none. at (word_if (is_word a.form && is_word b.form) _ _ ∙ none)) word
  operation_in sign.Mul x y a b v t has_x has_y h k at word temp = arithmetic_in op.Mul a b v t h k (λ none. at (word_if (is_word a.form && is_word b.form) _ _ ∙ none)) word
  operation_in sign.Div x y a b v t has_x has_y h k at word temp = division_in Quotient x y a b v t has_x has_y h k (at refl) word (temp refl)
  operation_in sign.Rem x y a b v t has_x has_y h k at word temp = division_in Remainder x y a b v t has_x has_y h k (at refl) word (temp refl)
  operation_in sign.Eq x y a b v t has_x has_y h k at word temp = comparison_form_in sign.Eq a b v t h k (at refl) word
  operation_in sign.Ne x y a b v t has_x has_y h k at word temp = comparison_form_in sign.Ne a b v t h k (at refl) word
  operation_in sign.Lt x y a b v t has_x has_y h k at word temp = comparison_form_in sign.Lt a b v t h k (at refl) word
  operation_in sign.Le x y a b v t has_x has_y h k at word temp = comparison_form_in sign.Le a b v t h k (at refl) word
  operation_in sign.Gt x y a b v t has_x has_y h k at word temp = comparison_form_in sign.Gt a b v t h k (at refl) word
  operation_in sign.Ge x y a b v t has_x has_y h k at word temp = comparison_form_in sign.Ge a b v t h k (at refl) word

  pub multiple_in : (o : BinOp) (x : Term) (c : ℕ) (l : Lowered) (v : ℕ) → IsWord c → InLowered l → InVariable v → InLowered (lowered_multiple o x c l v)
  multiple_in o x c l v word h at = record {
    block = by_block (divides_modulus (magnitude_of c));
    form = laws.multiple_leaves passes o (if divides_modulus (magnitude_of c) then operand_in l.form v else s.Var v) c is.constants word (by_operand (divides_modulus (magnitude_of c)));
  }
    where
      side : InOperand (division_operand_in x l.form v)
      side = division_operand_in_in (is_simple x) l.form v h.form (λ none. at) (λ none. at)

      by_block : (b : Bool) → InBlock (if b then operand_block l v else join (division_operand_block x l v) (magnitude_block (division_operand_in x l.form v) v))
      by_block true = operand_block_in l v h (λ none. at)
      by_block false =
          is.joins (division_operand_block x l v) (magnitude_block (division_operand_in x l.form v) v) (division_operand_block_in (is_simple x) l v h (λ none. at))
          (laws.magnitude_leaves passes (division_operand_in x l.form v) v is.constants at side)

      by_operand : (b : Bool) → InOperand (if b then operand_in l.form v else s.Var v)
      by_operand true = operand_in_in l.form v h.form (λ none. at)
      by_operand false = at
