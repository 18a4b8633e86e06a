-- A plain expression needs no statements: it is one word of the C text, and has a value.
use Rattle.std.proofs.Common.{◌≡◌, ℕ, zero, suc, ◌+◌, ◌-◌, ◌*◌, ◌<◌, ◌^◌, Bool, true, false, ◌&&◌, ◌||◌, List, length, Option, Some, None, refl, sym, ap, ◌∙◌, subst, arith}
use Rattle.std.specs.Prelude.{slice_index, slice_get, IsTrue, is_some}
use Rattle.std.proofs.Math.Nat.{mod-lt}
use Rattle.strm_num.proofs.Truths.{both_true}
use Rattle.strm_num.specs.Words.{sum_of, difference_of, product_of, negation_of, quotient_of, remainder_of, truth_of}
use Rattle.list_denotation.specs.declared.expr.BinOp.{BinOp}
use Rattle.list_denotation.specs.declared.expr.BinOp.TheVariants as sign
use Rattle.list_denotation.specs.declared.input.Input.{Input}
use Rattle.list_denotation.specs.Inputs.{items_in, word_in}
use Rattle.list_denotation.specs.Terms as term
use Rattle.list_denotation.specs.Terms.{Term}
use Rattle.list_denotation.specs.Values.{Trap, Got, Is, Fails, with_value, choice, unless_zero, operation_of, value}
use Rattle.loop_ir.specs.Statements.{Operand, Const, Bin}
use Rattle.loop_ir.specs.Meaning.{operand_value, word_operation}
use Rattle.expr_constants.specs.Constants.{by_constant, constant_of}
use Rattle.expr_phrases.specs.Phrases.{Quotient, Remainder}
use Rattle.expr_lower.specs.Laws.{Laws}
use Rattle.expr_forms.specs.Forms.{Lowered, Condition, as_word, lowered_minus, lowered_operation, lowered_chosen}
use Rattle.expr_lower.specs.Lowering.{folded, lowered_parts, lowered_dividend, lowered_term}
use Rattle.expr_lower.specs.Costs.{is_arithmetic, chosen_plain, has_plain_parts, is_plain}
use Rattle.expr_lower.specs.PlainWords.{folded_word, arithmetic_operator, parts_word, plain_word}
use Rattle.expr_lower.specs.Scopes.{EachLeaf, IsWordLeaf, WordsInPlace}
use Rattle.expr_lower.proofs.Effects.{IsWordValue}
use Rattle.expr_lower.proofs.MultipleTests.{binary_arithmetic}

abbrev pub arithmetic_value : BinOp → ℕ → ℕ → ℕ
arithmetic_value sign.Sub x y = difference_of x y
arithmetic_value sign.Mul x y = product_of x y
arithmetic_value _ x y = sum_of x y

pub arithmetic_word : (o : BinOp) (x y : ℕ) → arithmetic_value o x y < 2 ^ 64
arithmetic_word sign.Sub x y = mod-lt (x + (2 ^ 64 - y)) (omega arith)
arithmetic_word sign.Mul x y = mod-lt (x * y) (omega arith)
arithmetic_word _ x y = mod-lt (x + y) (omega arith)

-- ---- the word of a plain expression

record PlainParts (o : BinOp) (a b : Term) : Type 0 where
  operator : IsTrue (is_arithmetic o)
  left : IsTrue (is_plain a)
  right : IsTrue (is_plain b)

plain_parts : (o : BinOp) (a b : Term) → IsTrue (has_plain_parts (term.Bin o a b)) → PlainParts o a b
plain_parts o a b plain =
    let first = both_true (is_arithmetic o) (is_plain a && is_plain b) plain in
    let rest = both_true (is_plain a) (is_plain b) first.1 in
    record { operator = first.0; left = rest.0; right = rest.1 }

operation_lowered : (o : BinOp) (x y : Term) (wa wb : Operand) (v t : ℕ) → IsTrue (is_arithmetic o) → lowered_operation o x y (as_word wa) (as_word wb) v t ≡ as_word (Bin (arithmetic_operator o) wa wb)
operation_lowered sign.Add x y wa wb v t h = refl
operation_lowered sign.Sub x y wa wb v t h = refl
operation_lowered sign.Mul x y wa wb v t h = refl
operation_lowered _ x y wa wb v t h = absurd cc

folded_lowered : (k : Option ℕ) (l : Lowered) (w : Operand) (parts : Bool) → (IsTrue parts → l ≡ as_word w) → IsTrue (is_some k || parts) → folded k l ≡ as_word (folded_word k w)
folded_lowered (Some c) l w parts f h = refl
folded_lowered None l w parts f h = f h

chosen_lowered : (condition : Option ℕ) (c : Condition) (a b : Lowered) (wa wb : Operand) (v : ℕ) (first second : Bool) → (IsTrue first → a ≡ as_word wa) → (IsTrue second → b ≡ as_word wb) → IsTrue (chosen_plain condition first second) → lowered_chosen condition c a b v ≡ as_word (by_constant condition (λ x. choice x wb wa) (Const 0))
chosen_lowered (Some zero) c a b wa wb v first second f g h = g h
chosen_lowered (Some (suc x)) c a b wa wb v first second f g h = f h
chosen_lowered None c a b wa wb v first second f g h = absurd cc

parts_lowered : (rows : List ℕ) (e : Term) (v t : ℕ) → IsTrue (has_plain_parts e) → lowered_parts rows e v t ≡ as_word (parts_word rows e)
unfolding lowered_term
parts_lowered rows (term.Lit c) v t plain = refl
parts_lowered rows (term.Truth b) v t plain = refl
parts_lowered rows (term.Var k) v t plain = refl
parts_lowered rows (term.Param k) v t plain = refl
parts_lowered rows (term.Len k) v t plain = refl
parts_lowered rows (term.Neg a) v t plain =
    ap (λ l. lowered_minus l v) (folded_lowered (constant_of a) (lowered_parts rows a v t) (parts_word rows a) (has_plain_parts a) (parts_lowered rows a v t) plain)
parts_lowered rows (term.Bin o a b) v t plain =
    let parts = plain_parts o a b plain in
    let first = folded_lowered (constant_of a) (lowered_parts rows a v t) (parts_word rows a) (has_plain_parts a) (parts_lowered rows a v t) parts.left in
    let second = folded_lowered (constant_of b) (lowered_parts rows b t (t + 1)) (parts_word rows b) (has_plain_parts b) (parts_lowered rows b t (t + 1)) parts.right in
    binary_arithmetic o a b (lowered_dividend rows a v t) (lowered_dividend rows b v t) (lowered_term rows a v t) (lowered_term rows b t (t + 1)) v t parts.operator
    ∙ ap (λ l. lowered_operation o a b l (lowered_term rows b t (t + 1)) v t) first
    ∙ ap (λ l. lowered_operation o a b (as_word (plain_word rows a)) l v t) second
    ∙ operation_lowered o a b (plain_word rows a) (plain_word rows b) v t parts.operator
parts_lowered rows (term.If c a b) v t plain =
    chosen_lowered (constant_of c) _ (lowered_term rows a v t) (lowered_term rows b v t) (plain_word rows a) (plain_word rows b) v (is_plain a) (is_plain b)
    (folded_lowered (constant_of a) (lowered_parts rows a v t) (parts_word rows a) (has_plain_parts a) (parts_lowered rows a v t))
    (folded_lowered (constant_of b) (lowered_parts rows b v t) (parts_word rows b) (has_plain_parts b) (parts_lowered rows b v t)) plain
parts_lowered rows _ v t plain = absurd cc

pub plain_lowered : (rows : List ℕ) (e : Term) (v t : ℕ) → IsTrue (is_plain e) → lowered_term rows e v t ≡ as_word (plain_word rows e)
unfolding lowered_term
plain_lowered rows e v t plain =
    folded_lowered (constant_of e) (lowered_parts rows e v t) (parts_word rows e) (has_plain_parts e) (parts_lowered rows e v t) plain

-- ---- its value

operation_value : (o : BinOp) (x y : ℕ) → IsTrue (is_arithmetic o) → operation_of o x y ≡ Is (arithmetic_value o x y)
operation_value sign.Add x y h = refl
operation_value sign.Sub x y h = refl
operation_value sign.Mul x y h = refl
operation_value _ x y h = absurd cc

-- a value that is there
record IsThere (g : Got ℕ) : Type 0 where
  x : ℕ
  is : g ≡ Is x

there_with : (g : Got ℕ) (f : ℕ → Got ℕ) → IsThere g → ((x : ℕ) → IsThere (f x)) → IsThere (with_value g f)
there_with g f here next =
    let after = next here.x in record { x = after.x; is = ap (λ h. with_value h f) here.is ∙ after.is }

abbrev pub value_or_zero : Got ℕ → ℕ
value_or_zero (Is x) = x
value_or_zero (Fails f) = 0

there_is : (g : Got ℕ) → IsThere g → g ≡ Is (value_or_zero g)
there_is (Is x) h = refl
there_is (Fails f) h = let e : Fails f ≡ Is h.x = h.is in absurd cc

-- the value of a plain expression
abbrev pub plain_value : Term → List ℕ → List Input → ℕ
plain_value e words inputs = value_or_zero (value e words inputs)

module _ (laws : Laws) (words : List ℕ) (inputs : List Input) where
  folded_there : (e : Term) (k : Option ℕ) (parts : Bool) → constant_of e ≡ k → (IsTrue parts → IsThere (value e words inputs)) → IsTrue (is_some k || parts) → IsThere (value e words inputs)
  folded_there e (Some c) parts is f h = record { x = c; is = laws.constant_value e c words inputs is }
  folded_there e None parts is f h = f h

  -- a condition that is constant chooses
  pub chosen_value : (c a b : Term) (n : ℕ) → constant_of c ≡ Some n → value (term.If c a b) words inputs ≡ choice n (value b words inputs) (value a words inputs)
  chosen_value c a b n is =
      ap (λ g. with_value g (λ x. choice x (value b words inputs) (value a words inputs))) (laws.constant_value c n words inputs is)

  chosen_there : (c a b : Term) (k : Option ℕ) (first second : Bool) → constant_of c ≡ k → (IsTrue first → IsThere (value a words inputs)) → (IsTrue second → IsThere (value b words inputs)) → IsTrue (chosen_plain k first second) → IsThere (value (term.If c a b) words inputs)
  chosen_there c a b (Some zero) first second is f g h = let there = g h in record { x = there.x; is = chosen_value c a b 0 is ∙ there.is }
  chosen_there c a b (Some (suc n)) first second is f g h = let there = f h in record { x = there.x; is = chosen_value c a b (suc n) is ∙ there.is }
  chosen_there c a b None first second is f g h = absurd cc

  parts_there : (e : Term) → IsTrue (has_plain_parts e) → IsThere (value e words inputs)
  parts_there (term.Lit c) plain = record { x = c; is = refl }
  parts_there (term.Truth b) plain = record { x = truth_of b; is = refl }
  parts_there (term.Var k) plain = record { x = slice_index words k; is = refl }
  parts_there (term.Param k) plain = record { x = word_in (slice_get inputs k); is = refl }
  parts_there (term.Len k) plain = record { x = length (items_in (slice_get inputs k)); is = refl }
  parts_there (term.Neg a) plain =
      there_with (value a words inputs) (λ x. Is (negation_of x)) (folded_there a (constant_of a) (has_plain_parts a) refl (parts_there a) plain)
      (λ x. record { x = negation_of x; is = refl })
  parts_there (term.Bin o a b) plain =
      let parts = plain_parts o a b plain in
      there_with (value a words inputs) (λ x. with_value (value b words inputs) (λ y. operation_of o x y))
      (folded_there a (constant_of a) (has_plain_parts a) refl (parts_there a) parts.left)
      (λ x. there_with (value b words inputs) (λ y. operation_of o x y)
      (folded_there b (constant_of b) (has_plain_parts b) refl (parts_there b) parts.right)
      (λ y. record { x = arithmetic_value o x y; is = operation_value o x y parts.operator }))
  parts_there (term.If c a b) plain =
      chosen_there c a b (constant_of c) (is_plain a) (is_plain b) refl
      (folded_there a (constant_of a) (has_plain_parts a) refl (parts_there a))
      (folded_there b (constant_of b) (has_plain_parts b) refl (parts_there b)) plain
  parts_there _ plain = absurd cc

  plain_there : (e : Term) → IsTrue (is_plain e) → IsThere (value e words inputs)
  plain_there e plain = folded_there e (constant_of e) (has_plain_parts e) refl (parts_there e) plain

  pub value_plain : (e : Term) → IsTrue (is_plain e) → value e words inputs ≡ Is (plain_value e words inputs)
  value_plain e plain = there_is (value e words inputs) (plain_there e plain)

-- the operator of the C text does the same
operator_same : (o : BinOp) (x y : ℕ) → IsTrue (is_arithmetic o) → word_operation (arithmetic_operator o) x y ≡ operation_of o x y
operator_same sign.Add x y h = refl
operator_same sign.Sub x y h = refl
operator_same sign.Mul x y h = refl
operator_same _ x y h = absurd cc

operation_same : (o : BinOp) (g h : Got ℕ) → IsTrue (is_arithmetic o) → with_value g (λ x. with_value h (λ y. word_operation (arithmetic_operator o) x y)) ≡ with_value g (λ x. with_value h (λ y. operation_of o x y))
operation_same o (Is x) (Is y) h = operator_same o x y h
operation_same o (Is x) (Fails f) h = refl
operation_same o (Fails f) h k = refl

-- ---- values are words

pub truth_word : (b : Bool) → truth_of b < 2 ^ 64
truth_word true = omega arith
truth_word false = omega arith

choice_word : (x : ℕ) (g h : Got ℕ) → IsWordValue g → IsWordValue h → IsWordValue (choice x g h)
choice_word zero g h first second = first
choice_word (suc x) g h first second = second

word_with : (g : Got ℕ) (f : ℕ → Got ℕ) → ((x : ℕ) → IsWordValue (f x)) → IsWordValue (with_value g f)
word_with (Is x) f h = h x
word_with (Fails e) f h = tt

-- a quotient or remainder is a word, where there is one
pub word_unless_zero : (y r : ℕ) → r < 2 ^ 64 → IsWordValue (unless_zero Trap y r)
word_unless_zero zero r word = tt
word_unless_zero (suc y) r word = word

truth_is_word : (g : Got ℕ) → IsWordValue (with_value g (λ y. Is (choice y 0 1)))
truth_is_word g = word_with g _ (λ y. by_choice y)
  where
    by_choice : (y : ℕ) → choice y 0 1 < 2 ^ 64
    by_choice zero = omega arith
    by_choice (suc y) = omega arith

module _ (laws : Laws) (rows words : List ℕ) (inputs : List Input) (env : List ℕ) where
  result_word : (o : BinOp) (x y : ℕ) → IsWordValue (operation_of o x y)
  result_word sign.Add x y = mod-lt (x + y) (omega arith)
  result_word sign.Sub x y = mod-lt (x + (2 ^ 64 - y)) (omega arith)
  result_word sign.Mul x y = mod-lt (x * y) (omega arith)
  result_word sign.Div x y = word_unless_zero y (quotient_of x y) (laws.division_word Quotient x y)
  result_word sign.Rem x y = word_unless_zero y (remainder_of x y) (laws.division_word Remainder x y)
  result_word sign.Eq x y = truth_word _
  result_word sign.Ne x y = truth_word _
  result_word sign.Lt x y = truth_word _
  result_word sign.Le x y = truth_word _
  result_word sign.Gt x y = truth_word _
  result_word sign.Ge x y = truth_word _

  pub value_word : (e : Term) → EachLeaf IsWordLeaf e → WordsInPlace rows words inputs env e → IsWordValue (value e words inputs)
  value_word (term.Lit c) has in_place = has
  value_word (term.Truth b) has in_place = truth_word b
  value_word (term.Var k) has in_place = in_place.word
  value_word (term.Param k) has in_place = in_place
  value_word (term.Len k) has in_place = in_place
  value_word (term.Neg a) has in_place = word_with (value a words inputs) _ (λ x. mod-lt (2 ^ 64 - x) (omega arith))
  value_word (term.Not a) has in_place = word_with (value a words inputs) _ (λ x. by_choice x)
    where
      by_choice : (x : ℕ) → choice x 1 0 < 2 ^ 64
      by_choice zero = omega arith
      by_choice (suc x) = omega arith
  value_word (term.Bin o a b) has in_place =
      word_with (value a words inputs) _ (λ x. word_with (value b words inputs) _ (λ y. result_word o x y))
  value_word (term.And a b) has in_place =
      word_with (value a words inputs) _ (λ x. choice_word x (Is 0) _ (omega arith) (truth_is_word (value b words inputs)))
  value_word (term.Or a b) has in_place =
      word_with (value a words inputs) _ (λ x. choice_word x _ (Is 1) (truth_is_word (value b words inputs)) (omega arith))
  value_word (term.If c a b) has in_place =
      word_with (value c words inputs) _
      (λ x. choice_word x (value b words inputs) (value a words inputs) (value_word b has.1.1 in_place.1.1) (value_word a has.1.0 in_place.1.0))

  pub plain_is_word : (e : Term) → IsTrue (is_plain e) → EachLeaf IsWordLeaf e → WordsInPlace rows words inputs env e → plain_value e words inputs < 2 ^ 64
  plain_is_word e plain has in_place = subst IsWordValue (value_plain laws words inputs e plain) (value_word e has in_place)

  -- ---- the word of a plain expression has its value, as long as the words that are read stand in their variables

  abbrev HasSame : Term → Operand → Type 0
  HasSame e w = operand_value inputs w env ≡ value e words inputs

  folded_same : (e : Term) (k : Option ℕ) (w : Operand) (parts : Bool) → constant_of e ≡ k → (IsTrue parts → HasSame e w) → IsTrue (is_some k || parts) → HasSame e (folded_word k w)
  folded_same e (Some c) w parts is f h = sym (laws.constant_value e c words inputs is)
  folded_same e None w parts is f h = f h

  chosen_same : (c a b : Term) (k : Option ℕ) (wa wb : Operand) (first second : Bool) → constant_of c ≡ k → (IsTrue first → HasSame a wa) → (IsTrue second → HasSame b wb) → IsTrue (chosen_plain k first second) → HasSame (term.If c a b) (by_constant k (λ x. choice x wb wa) (Const 0))
  chosen_same c a b (Some zero) wa wb first second is f g h = g h ∙ sym (chosen_value laws words inputs c a b 0 is)
  chosen_same c a b (Some (suc n)) wa wb first second is f g h = f h ∙ sym (chosen_value laws words inputs c a b (suc n) is)
  chosen_same c a b None wa wb first second is f g h = absurd cc

  parts_same : (e : Term) → IsTrue (has_plain_parts e) → WordsInPlace rows words inputs env e → HasSame e (parts_word rows e)
  parts_same (term.Lit c) plain in_place = refl
  parts_same (term.Truth b) plain in_place = refl
  parts_same (term.Var k) plain in_place = ap Is in_place.same
  parts_same (term.Param k) plain in_place = refl
  parts_same (term.Len k) plain in_place = refl
  parts_same (term.Neg a) plain in_place =
      let there = plain_there laws words inputs a plain in
      let part = folded_same a (constant_of a) (parts_word rows a) (has_plain_parts a) refl (λ h. parts_same a h in_place) plain in
      laws.minus_value inputs (plain_word rows a) there.x env (part ∙ there.is) ∙ sym (ap (λ g. with_value g (λ x. Is (negation_of x))) there.is)
  parts_same (term.Bin o a b) plain in_place =
      let parts = plain_parts o a b plain in
      let first : HasSame a (plain_word rows a) = folded_same a (constant_of a) (parts_word rows a) (has_plain_parts a) refl (λ h. parts_same a h in_place.0) parts.left in
      let second : HasSame b (plain_word rows b) = folded_same b (constant_of b) (parts_word rows b) (has_plain_parts b) refl (λ h. parts_same b h in_place.1) parts.right in
      ap (λ g. with_value g (λ x. with_value (operand_value inputs (plain_word rows b) env) (λ y. word_operation (arithmetic_operator o) x y))) first
      ∙ ap (λ g. with_value (value a words inputs) (λ x. with_value g (λ y. word_operation (arithmetic_operator o) x y))) second
      ∙ operation_same o (value a words inputs) (value b words inputs) parts.operator
  parts_same (term.If c a b) plain in_place =
      chosen_same c a b (constant_of c) (plain_word rows a) (plain_word rows b) (is_plain a) (is_plain b) refl
      (folded_same a (constant_of a) (parts_word rows a) (has_plain_parts a) refl (λ h. parts_same a h in_place.1.0))
      (folded_same b (constant_of b) (parts_word rows b) (has_plain_parts b) refl (λ h. parts_same b h in_place.1.1)) plain
  parts_same _ plain in_place = absurd cc

  pub plain_holds : (e : Term) → IsTrue (is_plain e) → WordsInPlace rows words inputs env e → operand_value inputs (plain_word rows e) env ≡ Is (plain_value e words inputs)
  plain_holds e plain in_place =
      folded_same e (constant_of e) (parts_word rows e) (has_plain_parts e) refl (λ h. parts_same e h in_place) plain ∙ value_plain laws words inputs e plain
