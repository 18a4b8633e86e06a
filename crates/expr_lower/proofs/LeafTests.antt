-- The constants and the names in the statements of an expression: leaves, each of which passes a test where the leaves of the
-- expression, its target, its temporaries and all word constants do.
use Rattle.std.proofs.Common.{◌≡◌, ℕ, zero, suc, ◌+◌, ◌<◌, ◌≤◌, max, List, Option, Some, None, Bool, true, false, ◌&&◌, ◌||◌, refl, sym, ap, ◌∙◌, arith}
use Rattle.std.specs.Prelude.{IsTrue, if◌then◌else◌, is_some, slice_index}
use Rattle.strm_num.specs.Words.{IsWord, truth_of}
use Rattle.list_denotation.specs.declared.expr.BinOp.{BinOp}
use Rattle.list_denotation.specs.declared.expr.BinOp.TheVariants as sign
use Rattle.list_denotation.specs.Terms.{Term, Lit, Truth, Var, Param, Len, Neg, Not, Bin, And, Or, If}
use Rattle.list_denotation.specs.Typing.{is_division}
use Rattle.loop_ir.specs.Leaves.{block_leaves}
use Rattle.loop_ir.specs.Statements as s
use Rattle.loop_ir.specs.Statements.{Operand, Test, Same, Block, Nil, Cons, join}
use Rattle.expr_phrases.specs.Results.{is_equality}
use Rattle.expr_phrases.specs.Phrases.{Connective, Conjunction, Disjunction}
use Rattle.expr_constants.specs.Constants.{by_constant, constant_of, IsWordConstant}
use Rattle.expr_constants.specs.Simple.{is_simple}
use Rattle.expr_forms.specs.FormLeaves as leaf
use Rattle.expr_forms.specs.FormLeaves.{IsLeafTest}
use Rattle.expr_forms.specs.Forms.{Lowered, Condition, condition_of, operand_block, operand_in, into, lowered_operation, lowered_multiple, is_neutral, lowered_truth, lowered_connective, lowered_connected, lowered_chosen}
use Rattle.expr_lower.specs.Lowering.{folded, lowered_parts, lowered_dividend, lowered_term, lowered_into}
use Rattle.expr_lower.specs.Costs.{is_arithmetic, chosen_plain, has_plain_parts, is_plain, is_direct, unless_constant, binary_temps, connected_temps, chosen_temps, operation_temps, parts_temps, dividend_temps, temps_of}
use Rattle.expr_lower.specs.Multiples.{dividend_of, multiple_divisor}
use Rattle.expr_lower.specs.Laws.{Laws}
use Rattle.expr_lower.specs.Scopes.{EachLeaf, IsWordLeaf}
use Rattle.expr_lower.proofs.Leaves.{leaves_word}
use Rattle.expr_lower.proofs.MultipleTests.{multiple_is, divisor_word, equality_not_arithmetic}
use Rattle.expr_lower.proofs.Plain.{operation_form, plain_form, operands_form, simple_plain}

-- both tests fail together where one does
not_first : (a b : Bool) → a ≡ false → (a && b) ≡ false
not_first a b h = rw h refl

not_second : (a b : Bool) → b ≡ false → (a && b) ≡ false
not_second true b h = h
not_second false b h = refl

-- ---- operands that are kept

-- an operation is not plain where a part isn't, or where its right operand is kept in a temporary
left_not_plain : (o : BinOp) (a b : Term) → is_plain a ≡ false → has_plain_parts (Bin o a b) ≡ false
left_not_plain o a b h = not_second (is_arithmetic o) (is_plain a && is_plain b) (not_first (is_plain a) (is_plain b) h)

right_not_plain : (o : BinOp) (a b : Term) → is_plain b ≡ false → has_plain_parts (Bin o a b) ≡ false
right_not_plain o a b h = not_second (is_arithmetic o) (is_plain a && is_plain b) (not_second (is_plain a) (is_plain b) h)

kept_not_plain : (o : BinOp) (a b : Term) → is_direct o b ≡ false → has_plain_parts (Bin o a b) ≡ false
kept_not_plain sign.Add a b h = right_not_plain sign.Add a b h
kept_not_plain sign.Sub a b h = right_not_plain sign.Sub a b h
kept_not_plain sign.Mul a b h = right_not_plain sign.Mul a b h
kept_not_plain _ a b h = refl

-- of two tests, of which the first is the stronger, each fails where the second does
either_fails : (division simple plain : Bool) → (IsTrue simple → IsTrue plain) → plain ≡ false → (if division then simple else plain) ≡ false
either_fails true true plain h none = let is : plain ≡ true = h refl in absurd cc
either_fails true false plain h none = refl
either_fails false simple plain h none = none

-- a right operand that is not plain is kept
kept_operand : (o : BinOp) (b : Term) → is_plain b ≡ false → is_direct o b ≡ false
kept_operand o b none = either_fails (is_division o) (is_simple b) (is_plain b) (simple_plain b) none

-- it has a temporary beside its own
kept_temps : (direct : Bool) (n : ℕ) → direct ≡ false → (if direct then 0 else n + 1) ≡ n + 1
kept_temps direct n h = rw h refl

-- the word that a leaf is
abbrev pub leaf_operand : List ℕ → Term → Operand
leaf_operand rows (Lit c) = s.Const c
leaf_operand rows (Truth b) = s.Const (truth_of b)
leaf_operand rows (Var k) = s.Var (slice_index rows k)
leaf_operand rows (Param k) = s.Int k
leaf_operand rows (Len k) = s.Len k
leaf_operand rows _ = s.Const 0

module _ (laws : Laws) (passes : Operand → Bool) (constants : (c : ℕ) → IsWord c → IsTrue (passes (s.Const c))) (joins : (a b : Block) → IsTrue (block_leaves passes a) → IsTrue (block_leaves passes b) → IsTrue (block_leaves passes (join a b))) where
  abbrev InVariable : ℕ → Type 0
  InVariable v = leaf.InVariable passes v

  abbrev InOperand : Operand → Type 0
  InOperand w = leaf.InOperand passes w

  abbrev InBlock : Block → Type 0
  InBlock b = leaf.InBlock passes b

  abbrev pub InLowered : Lowered → Type 0
  InLowered l = leaf.InLowered passes l

  abbrev pub InCondition : Condition → Type 0
  InCondition c = leaf.InCondition passes c

  is_test : IsLeafTest passes
  is_test = record { constants = constants; joins = joins }

  -- ---- expressions

  -- of the target and so many temporaries, unless the expression is plain and uses none of them
  record HasRoom (plain : Bool) (n v t : ℕ) : Type 0 where
    target : plain ≡ false → InVariable v
    temps : plain ≡ false → (x : ℕ) → t ≤ x → x < t + n → InVariable x

  -- a part has room where the whole has
  room : (plain : Bool) (m v t n : ℕ) → InVariable v → ((x : ℕ) → t ≤ x → x < t + n → InVariable x) → m ≤ n → HasRoom plain m v t
  room plain m v t n at temps le = record { target = λ none. at; temps = λ none x low high. temps x low (omega arith) }

  left_room : (o : BinOp) (a b : Term) (v t : ℕ) → HasRoom (has_plain_parts (Bin o a b)) (operation_temps o a b) v t → HasRoom (is_plain a) (temps_of a) v t
  left_room o a b v t r = record {
    target = λ none. r.target (left_not_plain o a b none);
    temps = λ none x low high. r.temps (left_not_plain o a b none) x low (omega arith);
  }

  -- the first temporary is that of a right operand that is kept
  first_temp : (o : BinOp) (a b : Term) (v t : ℕ) → HasRoom (has_plain_parts (Bin o a b)) (operation_temps o a b) v t → is_direct o b ≡ false → InVariable t
  first_temp o a b v t r kept =
      r.temps (kept_not_plain o a b kept) t (omega arith) (omega (arith, kept_temps (is_direct o b) (temps_of b) kept))

  right_room : (o : BinOp) (a b : Term) (v t : ℕ) → HasRoom (has_plain_parts (Bin o a b)) (operation_temps o a b) v t → HasRoom (is_plain b) (temps_of b) t (t + 1)
  right_room o a b v t r = record {
    target = λ none. first_temp o a b v t r (kept_operand o b none);
    temps = λ none x low high. r.temps (right_not_plain o a b none) x (omega arith) (omega (arith, kept_temps (is_direct o b) (temps_of b) (kept_operand o b none)));
  }

  -- the parts that no constant rules out
  second_room : (first : Option ℕ) (plain : Bool) (m n v t : ℕ) → HasRoom false (connected_temps first m n) v t → HasRoom plain n v t
  second_room (Some c) plain m n v t r = room plain n v t n (r.target refl) (r.temps refl) (omega arith)
  second_room None plain m n v t r = room plain n v t (max m n) (r.target refl) (r.temps refl) (omega arith)

  truth_form_in : (l : Lowered) (v : ℕ) → InLowered l → InVariable v → InLowered (lowered_truth (condition_of l v))
  truth_form_in l v h at = let c = laws.condition_leaves passes l v is_test h at in record { block = c.block; form = c.test }

  connected_in : (o : Connective) (first second : Option ℕ) (a b : Lowered) (m n v t : ℕ) (plain : Bool) → HasRoom false (connected_temps first m n) v t → (HasRoom plain m v t → InLowered a) → InLowered b → InLowered (lowered_connected o first second (condition_of a v) (condition_of b v) v)
  connected_in o (Some c) second a b m n v t plain r h k = truth_form_in b v k (r.target refl)
  connected_in o None second a b m n v t plain r h k = by_neutral (is_neutral o second)
    where
      first_in : InLowered a
      first_in = h (room plain m v t (max m n) (r.target refl) (r.temps refl) (omega arith))

      by_neutral : (neutral : Bool) → InLowered (if neutral then lowered_truth (condition_of a v) else lowered_connective o (condition_of a v) (condition_of b v) v)
      by_neutral true = truth_form_in a v first_in (r.target refl)
      by_neutral false =
          laws.connective_leaves passes o (condition_of a v) (condition_of b v) v is_test (laws.condition_leaves passes a v is_test first_in (r.target refl)) (laws.condition_leaves passes b v is_test k (r.target refl)) (r.target refl)

  chosen_in : (condition : Option ℕ) (c a b : Lowered) (plain first second : Bool) (l m n v t : ℕ) → HasRoom (chosen_plain condition first second) (chosen_temps condition l m n) v t → (HasRoom plain l v t → InLowered c) → (HasRoom first m v t → InLowered a) → (HasRoom second n v t → InLowered b) → InLowered (lowered_chosen condition (condition_of c v) a b v)
  chosen_in (Some zero) c a b plain first second l m n v t r h j k = k r
  chosen_in (Some (suc x)) c a b plain first second l m n v t r h j k = j r
  chosen_in None c a b plain first second l m n v t r h j k =
      let all = max l (max m n) in
      laws.choice_leaves passes (condition_of c v) (into a v) (into b v) is_test
      (laws.condition_leaves passes c v is_test (h (room plain l v t all (r.target refl) (r.temps refl) (omega arith))) (r.target refl))
      (laws.value_leaves passes a v is_test (j (room first m v t all (r.target refl) (r.temps refl) (omega arith))) (r.target refl))
      (laws.value_leaves passes b v is_test (k (room second n v t all (r.target refl) (r.temps refl) (omega arith))) (r.target refl))

  -- a comparison of a remainder with 0 is no word, and has room for its dividend
  abbrev DividendIn : List ℕ → Term → ℕ → ℕ → Type 0
  DividendIn rows a v t = InVariable v → ((x : ℕ) → t ≤ x → x < t + dividend_temps a → InVariable x) → InLowered (lowered_dividend rows a v t)

  binary_in : (rows : List ℕ) (o : BinOp) (a b : Term) (v t : ℕ) → EachLeaf IsWordLeaf (Bin o a b) → HasRoom (has_plain_parts (Bin o a b)) (parts_temps (Bin o a b)) v t → DividendIn rows a v t → DividendIn rows b v t → (HasRoom (is_plain a) (temps_of a) v t → InLowered (lowered_term rows a v t)) → (HasRoom (is_plain b) (temps_of b) t (t + 1) → InLowered (lowered_term rows b t (t + 1))) → InLowered (lowered_parts rows (Bin o a b) v t)
  unfolding lowered_term
  binary_in rows o a b v t has r left right first second = by_left (multiple_divisor o a b) (multiple_divisor o b a) refl refl r
    where
      no_plain : IsTrue (is_equality o) → has_plain_parts (Bin o a b) ≡ false
      no_plain equality = not_first (is_arithmetic o) (is_plain a && is_plain b) (equality_not_arithmetic o equality)

      by_left : (j k : Option ℕ) → multiple_divisor o a b ≡ j → multiple_divisor o b a ≡ k → HasRoom (has_plain_parts (Bin o a b)) (binary_temps j k (dividend_temps a) (dividend_temps b) (operation_temps o a b)) v t → InLowered (by_constant j (λ c. lowered_multiple o (dividend_of a) c (lowered_dividend rows a v t) v) (by_constant k (λ c. lowered_multiple o (dividend_of b) c (lowered_dividend rows b v t) v) (lowered_operation o a b (lowered_term rows a v t) (lowered_term rows b t (t + 1)) v t)))
      by_left (Some c) k is other r =
          let h = multiple_is o a b c is in
          let none = no_plain h.equality in
          laws.multiple_leaves passes o (dividend_of a) c (lowered_dividend rows a v t) v is_test (divisor_word laws a c has.0 h.divisor) (left (r.target none) (r.temps none)) (r.target none)
      by_left None (Some c) is other r =
          let h = multiple_is o b a c other in
          let none = no_plain h.equality in
          laws.multiple_leaves passes o (dividend_of b) c (lowered_dividend rows b v t) v is_test (divisor_word laws b c has.1 h.divisor) (right (r.target none) (r.temps none)) (r.target none)
      by_left None None is other r =
          laws.operation_leaves passes o a b (lowered_term rows a v t) (lowered_term rows b t (t + 1)) v t is_test (leaves_word a has.0) (leaves_word b has.1)
          (first (left_room o a b v t r)) (second (right_room o a b v t r))
          (λ none. r.target (sym (operands_form rows o a b v t) ∙ sym (operation_form o a b (lowered_term rows a v t) (lowered_term rows b t (t + 1)) v t) ∙ none))
          (λ none. first_temp o a b v t r (kept_operand o b (sym (plain_form rows b t (t + 1)) ∙ none)))
          (λ division simple. first_temp o a b v t r (ap (λ d. if d then is_simple b else is_plain b) division ∙ simple))

  module _ (rows : List ℕ) where
    -- of each leaf, as the word that it is
    abbrev pub InLeaf : Term → Type 0
    InLeaf x = InOperand (leaf_operand rows x)

    -- a constant is a word, and all else is what its parts give
    folded_in : (e : Term) (v t : ℕ) → EachLeaf IsWordLeaf e → (HasRoom (has_plain_parts e) (parts_temps e) v t → InLowered (lowered_parts rows e v t)) → HasRoom (is_plain e) (temps_of e) v t → InLowered (lowered_term rows e v t)
    unfolding lowered_term
    folded_in e v t has parts r = by_constant_of (constant_of e) (laws.constant_word e (leaves_word e has)) r
      where
        by_constant_of : (k : Option ℕ) → IsWordConstant k → HasRoom (is_some k || has_plain_parts e) (unless_constant k (parts_temps e)) v t → InLowered (folded k (lowered_parts rows e v t))
        by_constant_of (Some c) word r = record { block = refl; form = constants c word }
        by_constant_of None word r = parts r

    mutual
      unfolding lowered_term

      parts_in : (e : Term) (v t : ℕ) → EachLeaf IsWordLeaf e → EachLeaf InLeaf e → HasRoom (has_plain_parts e) (parts_temps e) v t → InLowered (lowered_parts rows e v t)
      parts_in (Lit c) v t has m r = record { block = refl; form = m }
      parts_in (Truth b) v t has m r = record { block = refl; form = m }
      parts_in (Var k) v t has m r = record { block = refl; form = m }
      parts_in (Param k) v t has m r = record { block = refl; form = m }
      parts_in (Len k) v t has m r = record { block = refl; form = m }
      parts_in (Neg a) v t has m r =
          laws.minus_leaves passes (lowered_term rows a v t) v is_test (folded_in a v t has (parts_in a v t has m) (record { target = r.target; temps = r.temps }))
          (λ none. r.target (sym (plain_form rows a v t) ∙ none))
      parts_in (Not a) v t has m r =
          let part = room (is_plain a) (temps_of a) v t (temps_of a) (r.target refl) (r.temps refl) (omega arith) in
          laws.opposite_leaves passes (condition_of (lowered_term rows a v t) v) is_test (laws.condition_leaves passes (lowered_term rows a v t) v is_test (folded_in a v t has (parts_in a v t has m) part) (r.target refl))
      parts_in (Bin o a b) v t has m r =
          binary_in rows o a b v t has r (λ at temps. dividend_in a v t has.0 m.0 at temps) (λ at temps. dividend_in b v t has.1 m.1 at temps)
          (λ part. folded_in a v t has.0 (parts_in a v t has.0 m.0) part) (λ part. folded_in b t (t + 1) has.1 (parts_in b t (t + 1) has.1 m.1) part)
      parts_in (And a b) v t has m r =
          connected_in Conjunction (constant_of a) (constant_of b) (lowered_term rows a v t) (lowered_term rows b v t) (temps_of a) (temps_of b) v t (is_plain a) r
          (folded_in a v t has.0 (parts_in a v t has.0 m.0))
          (folded_in b v t has.1 (parts_in b v t has.1 m.1) (second_room (constant_of a) (is_plain b) (temps_of a) (temps_of b) v t r))
      parts_in (Or a b) v t has m r =
          connected_in Disjunction (constant_of a) (constant_of b) (lowered_term rows a v t) (lowered_term rows b v t) (temps_of a) (temps_of b) v t (is_plain a) r
          (folded_in a v t has.0 (parts_in a v t has.0 m.0))
          (folded_in b v t has.1 (parts_in b v t has.1 m.1) (second_room (constant_of a) (is_plain b) (temps_of a) (temps_of b) v t r))
      parts_in (If c a b) v t has m r =
          chosen_in (constant_of c) (lowered_term rows c v t) (lowered_term rows a v t) (lowered_term rows b v t) (is_plain c) (is_plain a) (is_plain b)
          (temps_of c) (temps_of a) (temps_of b) v t r
          (folded_in c v t has.0 (parts_in c v t has.0 m.0)) (folded_in a v t has.1.0 (parts_in a v t has.1.0 m.1.0)) (folded_in b v t has.1.1 (parts_in b v t has.1.1 m.1.1))

      dividend_in : (a : Term) (v t : ℕ) → EachLeaf IsWordLeaf a → EachLeaf InLeaf a → InVariable v → ((x : ℕ) → t ≤ x → x < t + dividend_temps a → InVariable x) → InLowered (lowered_dividend rows a v t)
      dividend_in (Bin o x y) v t has m at temps =
          folded_in x v t has.0 (parts_in x v t has.0 m.0) (room (is_plain x) (temps_of x) v t (temps_of x) at temps (omega arith))
      dividend_in _ v t has m at temps = record { block = refl; form = constants 0 (omega arith) }

    module _ (e : Term) (v t top : ℕ) (at : InVariable v) (temps : (x : ℕ) → t ≤ x → x < top → InVariable x) (le : t + temps_of e ≤ top) (has : EachLeaf IsWordLeaf e) (leaves : EachLeaf InLeaf e) where
      lowered_in : InLowered (lowered_term rows e v t)
      lowered_in =
          folded_in e v t has (parts_in e v t has leaves) (room (is_plain e) (temps_of e) v t (temps_of e) at (λ x low high. temps x low (omega (arith, high, le))) (omega arith))

      -- the statements that put the value of an expression into its target
      pub value_in : InBlock (lowered_into rows e v t)
      value_in = laws.value_leaves passes (lowered_term rows e v t) v is_test lowered_in at

      -- those of a condition, and its test
      pub test_in : InCondition (condition_of (lowered_term rows e v t) v)
      test_in = laws.condition_leaves passes (lowered_term rows e v t) v is_test lowered_in at

      -- those of an operand, and its word
      pub operand_statements_in : InBlock (operand_block (lowered_term rows e v t) v)
      operand_statements_in = laws.operand_leaves passes (lowered_term rows e v t) v is_test lowered_in at

      pub operand_word_in : InOperand (operand_in (lowered_term rows e v t).form v)
      operand_word_in = laws.word_leaves passes (lowered_term rows e v t) v is_test lowered_in at
