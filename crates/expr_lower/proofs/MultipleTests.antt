-- Comparisons of a remainder with 0: what is known of the remainder, of its dividend and of its divisor.
use Rattle.std.proofs.Common.{◌≡◌, ◌≢◌, ℕ, zero, suc, ◌+◌, ◌≤◌, Bool, true, false, ◌&&◌, List, Option, Some, None, refl, sym, ap, ◌∙◌, subst, arith}
use Rattle.std.specs.Prelude.{IsTrue, if◌then◌else◌, not, ◌==◌}
use Rattle.std.proofs.Math.Dec.{eqb-zero-suc, eqb-suc-zero}
use Rattle.strm_num.proofs.Truths.{both_true}
use Rattle.strm_num.specs.Words.{IsWord, remainder_of, truth_of}
use Rattle.list_denotation.specs.declared.expr.BinOp.{BinOp}
use Rattle.list_denotation.specs.declared.expr.BinOp.TheVariants as sign
use Rattle.list_denotation.specs.declared.input.Input.{Input}
use Rattle.list_denotation.specs.Counts.{term_depth}
use Rattle.list_denotation.specs.Terms as term
use Rattle.list_denotation.specs.Terms.{Term}
use Rattle.list_denotation.specs.Values.{Trap, Got, Is, Fails, with_value, unless_zero, operation_of, value}
use Rattle.expr_constants.specs.Constants.{by_constant, constant_of, IsWordConstant}
use Rattle.expr_phrases.specs.Results.{comparison_truth, is_equality}
use Rattle.expr_lower.specs.Costs.{is_arithmetic, binary_temps, operation_temps, parts_temps, dividend_temps, temps_of}
use Rattle.expr_lower.specs.Laws.{Laws}
use Rattle.expr_forms.specs.Forms.{Lowered, lowered_operation, lowered_multiple}
use Rattle.expr_lower.specs.Lowering.{lowered_binary, lowered_parts, lowered_dividend, lowered_term}
use Rattle.expr_lower.specs.Multiples.{is_remainder, is_zero_constant, nonzero_constant, divisor_of, dividend_of, multiple_divisor}
use Rattle.expr_lower.specs.Scopes.{EachLeaf, IsWordLeaf}
use Rattle.expr_lower.proofs.Leaves.{leaves_word}

-- ---- where a remainder is compared with 0

if_some : (b : Bool) (k : Option ℕ) (c : ℕ) → (if b then k else None) ≡ Some c → IsTrue b × (k ≡ Some c)
if_some true k c h = (refl, h)
if_some false k c h = absurd cc

nonzero_is : (k : Option ℕ) (c : ℕ) → nonzero_constant k ≡ Some c → (k ≡ Some c) × (c ≢ 0)
nonzero_is (Some zero) c h = absurd cc
nonzero_is (Some (suc n)) c h = let same : suc n ≡ c = cc in (ap Some same, λ none. let e : suc n ≡ 0 = same ∙ none in absurd cc)
nonzero_is None c h = absurd cc

zero_is : (k : Option ℕ) → IsTrue (is_zero_constant k) → k ≡ Some 0
zero_is (Some zero) h = refl
zero_is (Some (suc c)) h = absurd cc
zero_is None h = absurd cc

pub record IsMultiple (o : BinOp) (a b : Term) (c : ℕ) : Type 0 where
  pub equality : IsTrue (is_equality o)
  pub zero_side : constant_of b ≡ Some 0
  pub divisor : divisor_of a ≡ Some c

pub multiple_is : (o : BinOp) (a b : Term) (c : ℕ) → multiple_divisor o a b ≡ Some c → IsMultiple o a b c
multiple_is o a b c h =
    let parts = if_some (is_equality o && is_zero_constant (constant_of b)) (divisor_of a) c h in
    let tests = both_true (is_equality o) (is_zero_constant (constant_of b)) parts.0 in
    record { equality = tests.0; zero_side = zero_is (constant_of b) tests.1; divisor = parts.1 }

pub divisor_not_zero : (a : Term) (c : ℕ) → divisor_of a ≡ Some c → c ≢ 0
divisor_not_zero (term.Bin o x y) c h = (nonzero_is (constant_of y) c (if_some (is_remainder o) (nonzero_constant (constant_of y)) c h).1).1
divisor_not_zero _ c h = absurd cc

pub multiple_not_zero : (o : BinOp) (a b : Term) (c : ℕ) → multiple_divisor o a b ≡ Some c → c ≢ 0
multiple_not_zero o a b c h = divisor_not_zero a c (multiple_is o a b c h).divisor

pub divisor_word : (laws : Laws) (a : Term) (c : ℕ) → EachLeaf IsWordLeaf a → divisor_of a ≡ Some c → IsWord c
divisor_word laws (term.Bin o x y) c has h =
    let known : constant_of y ≡ Some c = (nonzero_is (constant_of y) c (if_some (is_remainder o) (nonzero_constant (constant_of y)) c h).1).0 in
    subst IsWordConstant known (laws.constant_word y (leaves_word y has.1))
divisor_word laws _ c has h = absurd cc

-- ---- arithmetic is none of these

pub arithmetic_no_multiple : (o : BinOp) (a b : Term) → IsTrue (is_arithmetic o) → multiple_divisor o a b ≡ None
arithmetic_no_multiple sign.Add a b h = refl
arithmetic_no_multiple sign.Sub a b h = refl
arithmetic_no_multiple sign.Mul a b h = refl
arithmetic_no_multiple _ a b h = absurd cc

pub equality_not_arithmetic : (o : BinOp) → IsTrue (is_equality o) → is_arithmetic o ≡ false
equality_not_arithmetic sign.Eq h = refl
equality_not_arithmetic sign.Ne h = refl
equality_not_arithmetic _ h = absurd cc

pub binary_arithmetic : (o : BinOp) (a b : Term) (x y first second : Lowered) (v t : ℕ) → IsTrue (is_arithmetic o) → lowered_binary o a b x y first second v t ≡ lowered_operation o a b first second v t
binary_arithmetic sign.Add a b x y first second v t h = refl
binary_arithmetic sign.Sub a b x y first second v t h = refl
binary_arithmetic sign.Mul a b x y first second v t h = refl
binary_arithmetic _ a b x y first second v t h = absurd cc

-- ---- the dividend

pub dividend_leaves : (P : Term → Type 0) (a : Term) → EachLeaf P a → EachLeaf P (dividend_of a)
dividend_leaves P (term.Bin o x y) h = h.0
dividend_leaves P _ h = h

pub dividend_shallow : (a : Term) → term_depth (dividend_of a) ≤ term_depth a
dividend_shallow (term.Bin o x y) = omega arith
dividend_shallow _ = omega arith

pub dividend_room : (a : Term) (c : ℕ) → divisor_of a ≡ Some c → dividend_temps a ≡ temps_of (dividend_of a)
dividend_room (term.Bin o x y) c h = refl
dividend_room _ c h = absurd cc

pub dividend_lowered : (rows : List ℕ) (a : Term) (c v t : ℕ) → divisor_of a ≡ Some c → lowered_dividend rows a v t ≡ lowered_term rows (dividend_of a) v t
unfolding lowered_term
dividend_lowered rows (term.Bin o x y) c v t h = refl
dividend_lowered rows _ c v t h = absurd cc

-- ---- what an operation is, and how many temporaries it needs

module _ (o : BinOp) (a b : Term) where
  pub first_temps : (c : ℕ) → multiple_divisor o a b ≡ Some c → parts_temps (term.Bin o a b) ≡ temps_of (dividend_of a)
  first_temps c is =
      ap (λ k. binary_temps k (multiple_divisor o b a) (dividend_temps a) (dividend_temps b) (operation_temps o a b)) is ∙ dividend_room a c (multiple_is o a b c is).divisor

  pub second_temps : (c : ℕ) → multiple_divisor o a b ≡ None → multiple_divisor o b a ≡ Some c → parts_temps (term.Bin o a b) ≡ temps_of (dividend_of b)
  second_temps c none is =
      ap (λ k. binary_temps k (multiple_divisor o b a) (dividend_temps a) (dividend_temps b) (operation_temps o a b)) none
      ∙ ap (λ k. binary_temps None k (dividend_temps a) (dividend_temps b) (operation_temps o a b)) is ∙ dividend_room b c (multiple_is o b a c is).divisor

  pub other_temps : multiple_divisor o a b ≡ None → multiple_divisor o b a ≡ None → parts_temps (term.Bin o a b) ≡ operation_temps o a b
  other_temps none neither =
      ap (λ k. binary_temps k (multiple_divisor o b a) (dividend_temps a) (dividend_temps b) (operation_temps o a b)) none
      ∙ ap (λ k. binary_temps None k (dividend_temps a) (dividend_temps b) (operation_temps o a b)) neither

  module _ (rows : List ℕ) (v t : ℕ) where
    abbrev binary : Option ℕ → Option ℕ → Lowered
    binary j k =
        by_constant j (λ c. lowered_multiple o (dividend_of a) c (lowered_dividend rows a v t) v)
        (by_constant k (λ c. lowered_multiple o (dividend_of b) c (lowered_dividend rows b v t) v) (lowered_operation o a b (lowered_term rows a v t) (lowered_term rows b t (t + 1)) v t))

    pub first_lowered : (c : ℕ) → multiple_divisor o a b ≡ Some c → lowered_parts rows (term.Bin o a b) v t ≡ lowered_multiple o (dividend_of a) c (lowered_term rows (dividend_of a) v t) v
    unfolding lowered_term
    first_lowered c is =
        ap (λ k. binary k (multiple_divisor o b a)) is ∙ ap (λ l. lowered_multiple o (dividend_of a) c l v) (dividend_lowered rows a c v t (multiple_is o a b c is).divisor)

    pub second_lowered : (c : ℕ) → multiple_divisor o a b ≡ None → multiple_divisor o b a ≡ Some c → lowered_parts rows (term.Bin o a b) v t ≡ lowered_multiple o (dividend_of b) c (lowered_term rows (dividend_of b) v t) v
    unfolding lowered_term
    second_lowered c none is =
        ap (λ k. binary k (multiple_divisor o b a)) none ∙ ap (binary None) is ∙ ap (λ l. lowered_multiple o (dividend_of b) c l v) (dividend_lowered rows b c v t (multiple_is o b a c is).divisor)

    pub other_lowered : multiple_divisor o a b ≡ None → multiple_divisor o b a ≡ None → lowered_parts rows (term.Bin o a b) v t ≡ lowered_operation o a b (lowered_term rows a v t) (lowered_term rows b t (t + 1)) v t
    unfolding lowered_term
    other_lowered none neither = ap (λ k. binary k (multiple_divisor o b a)) none ∙ ap (binary None) neither

-- ---- values

pub with_same : (g : Got ℕ) (f h : ℕ → Got ℕ) → ((x : ℕ) → f x ≡ h x) → with_value g f ≡ with_value g h
with_same (Is x) f h same = same x
with_same (Fails e) f h same = refl

with_with : (g : Got ℕ) (f h : ℕ → Got ℕ) → with_value (with_value g f) h ≡ with_value g (λ x. with_value (f x) h)
with_with (Is x) f h = refl
with_with (Fails e) f h = refl

zero_equal : (r : ℕ) → (0 == r) ≡ (r == 0)
zero_equal zero = refl
zero_equal (suc r) = eqb-zero-suc r ∙ sym (eqb-suc-zero r)

-- the truth of a comparison of a remainder with 0, as a word
abbrev pub multiple_value : BinOp → ℕ → ℕ → ℕ
multiple_value o c x = truth_of (comparison_truth o (remainder_of x c) 0)

equality_value : (o : BinOp) (r : ℕ) → IsTrue (is_equality o) → operation_of o r 0 ≡ Is (truth_of (comparison_truth o r 0))
equality_value sign.Eq r h = refl
equality_value sign.Ne r h = refl
equality_value _ r h = absurd cc

turned_value : (o : BinOp) (r : ℕ) → IsTrue (is_equality o) → operation_of o 0 r ≡ Is (truth_of (comparison_truth o r 0))
turned_value sign.Eq r h = ap (λ b. Is (truth_of b)) (zero_equal r)
turned_value sign.Ne r h = ap (λ b. Is (truth_of (not b))) (zero_equal r)
turned_value _ r h = absurd cc

module _ (laws : Laws) (words : List ℕ) (inputs : List Input) where
  known_quotient : (x c : ℕ) → c ≢ 0 → unless_zero Trap c (remainder_of x c) ≡ Is (remainder_of x c)
  known_quotient x zero h = absurd (h refl)
  known_quotient x (suc c) h = refl

  remainder_value : (a : Term) (c : ℕ) → divisor_of a ≡ Some c → value a words inputs ≡ with_value (value (dividend_of a) words inputs) (λ x. Is (remainder_of x c))
  remainder_value (term.Bin sign.Rem x y) c h =
      let known = nonzero_is (constant_of y) c h in
      ap (λ g. with_value (value x words inputs) (λ m. with_value g (λ n. unless_zero Trap n (remainder_of m n)))) (laws.constant_value y c words inputs known.0)
      ∙ with_same (value x words inputs) _ _ (λ m. known_quotient m c known.1)
  remainder_value (term.Bin _ x y) c h = absurd cc
  remainder_value _ c h = absurd cc

  module _ (o : BinOp) (a b : Term) (c : ℕ) where
    pub left_multiple : IsMultiple o a b c → value (term.Bin o a b) words inputs ≡ with_value (value (dividend_of a) words inputs) (λ x. Is (multiple_value o c x))
    left_multiple is =
        ap (λ g. with_value (value a words inputs) (λ p. with_value g (λ q. operation_of o p q))) (laws.constant_value b 0 words inputs is.zero_side)
        ∙ ap (λ g. with_value g (λ p. operation_of o p 0)) (remainder_value a c is.divisor)
        ∙ with_with (value (dividend_of a) words inputs) (λ x. Is (remainder_of x c)) (λ p. operation_of o p 0)
        ∙ with_same (value (dividend_of a) words inputs) _ _ (λ x. equality_value o (remainder_of x c) is.equality)

    pub right_multiple : IsMultiple o b a c → value (term.Bin o a b) words inputs ≡ with_value (value (dividend_of b) words inputs) (λ x. Is (multiple_value o c x))
    right_multiple is =
        ap (λ g. with_value g (λ p. with_value (value b words inputs) (λ q. operation_of o p q))) (laws.constant_value a 0 words inputs is.zero_side)
        ∙ ap (λ g. with_value g (λ q. operation_of o 0 q)) (remainder_value b c is.divisor)
        ∙ with_with (value (dividend_of b) words inputs) (λ x. Is (remainder_of x c)) (λ q. operation_of o 0 q)
        ∙ with_same (value (dividend_of b) words inputs) _ _ (λ x. turned_value o (remainder_of x c) is.equality)

pub ruleset binary_temporaries = (first_temps, second_temps, other_temps, dividend_shallow)

pub ruleset binary_steps = (first_lowered, second_lowered, other_lowered, binary_temporaries, dividend_leaves, multiple_not_zero)
