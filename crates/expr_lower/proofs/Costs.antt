-- How many statements and temporaries an expression takes.
use Rattle.std.proofs.Common.{◌≡◌, ℕ, zero, suc, ◌+◌, ◌*◌, ◌<◌, ◌≤◌, max, List, Option, Some, None, Bool, true, false, ◌&&◌, refl, arith}
use Rattle.std.specs.Prelude.{if◌then◌else◌}
use Rattle.strm_num.specs.Magnitudes.{magnitude_of}
use Rattle.list_denotation.specs.declared.expr.BinOp.{BinOp}
use Rattle.list_denotation.specs.declared.expr.BinOp.TheVariants as sign
use Rattle.list_denotation.specs.Terms.{Term, Neg, Not, Bin, And, Or, If}
use Rattle.list_denotation.specs.Costs.{operation_cost, cost}
use Rattle.list_denotation.specs.Counts.{term_depth}
use Rattle.loop_ir.specs.declared.syntax.WOp.{WOp}
use Rattle.loop_ir.specs.Statements as s
use Rattle.loop_ir.specs.Statements.{Operand, Var, Test, Set, Block, Nil, Cons, join}
use Rattle.loop_ir.specs.Counts.{block_count, block_loops}
use Rattle.expr_phrases.specs.Phrases.{Division, set, set_truth, by_divisor, Connective, Conjunction, Disjunction, connected_test, connected_block, divides_modulus, magnitude_block, multiple_test}
use Rattle.expr_constants.specs.Constants.{by_constant, constant_of}
use Rattle.expr_constants.specs.Simple.{is_simple}
use Rattle.expr_forms.specs.Forms.{Form, AWord, ATest, InTarget, Lowered, is_word, operand_rest, operand_block, target_rest, into, as_word, in_target, lowered_minus, lowered_arithmetic, lowered_comparison, division_operand_block, division_operand_in, operand_in, lowered_division, lowered_operation, lowered_multiple, condition_in, condition_of, is_empty, is_neutral, lowered_truth, lowered_connective, lowered_connected, lowered_chosen}
use Rattle.expr_lower.specs.Lowering.{lowered_binary, folded, lowered_parts, lowered_dividend, lowered_term, lowered_into, lowered_test}
use Rattle.expr_lower.specs.Laws.{Laws}
use Rattle.expr_lower.specs.Costs.{is_direct, unless_constant, binary_temps, connected_temps, chosen_temps, operation_temps, parts_temps, dividend_temps, temps_of}
use Rattle.expr_lower.specs.Multiples.{divisor_of, dividend_of, multiple_divisor}
use Rattle.expr_lower.proofs.MultipleTests.{multiple_is}
use Rattle.loop_ir.proofs.JoinedBlocks.{count_join, loops_join}

-- ---- statements

-- a size of statements, where each assignment and choice adds u, and a division at most nine times that
record IsSize (size : Block → ℕ) (u : ℕ) : Type 0 where
  of_nil : size Nil ≡ 0
  of_set : (v : ℕ) (w : Operand) (ss : Block) → size (Cons (Set v w) ss) ≡ size ss + u
  of_if : (t : Test) (a b ss : Block) → size (Cons (s.If t a b) ss) ≡ size a + size b + size ss + u
  of_division : (d : Division) (m n : Option ℕ) (x y : Operand) (v : ℕ) → size (by_divisor d m n x y v) ≤ u * 9
  of_magnitude : (w : Operand) (v : ℕ) → size (magnitude_block w v) ≤ u * 3
  of_join : (b more : Block) → size (join b more) ≡ size b + size more

-- each lemma bounds the size of statements by that of their parts
module _ (size : Block → ℕ) (u : ℕ) (is : IsSize size u) where
  -- ---- phrases

  set_size : (v : ℕ) (w : Operand) → size (set v w) ≡ u
  set_size v w = omega (arith, is.of_nil, is.of_set)

  -- a single choice
  if_size : (t : Test) (a b : Block) → size (Cons (s.If t a b) Nil) ≡ size a + size b + u
  if_size t a b = omega (arith, is.of_nil, is.of_if)

  truth_size : (v : ℕ) (t : Test) → size (set_truth v t) ≡ u * 3
  truth_size v t = omega (arith, if_size, set_size)

  -- ---- forms: what leaves an operand is no larger than what puts the value into the target

  rest_within : (f : Form) (v : ℕ) → size (operand_rest f v) ≤ size (target_rest f v)
  rest_within (AWord w) v = omega (arith, is.of_nil)
  rest_within (ATest t) v = omega arith
  rest_within InTarget v = omega arith

  operand_within : (l : Lowered) (v : ℕ) → size (operand_block l v) ≤ size (into l v)
  operand_within l v = omega (arith, is.of_join, rest_within)

  block_within : (l : Lowered) (v : ℕ) → size l.block ≤ size (into l v)
  block_within l v = omega (arith, is.of_join)

  -- ---- expressions, from their parts

  -- a word, or statements that put a value into the target
  word_size : (c : Bool) (w : Operand) (b : Block) (v n : ℕ) → u ≤ n → size b ≤ n → size (into (if c then as_word w else in_target b) v) ≤ n
  word_size true w b v n one h = omega (arith, is.of_join, is.of_nil, set_size)
  word_size false w b v n one h = omega (arith, is.of_join, is.of_nil)

  -- a test, or statements that put a value into the target
  test_size : (c : Bool) (t : Test) (b more : Block) (v n : ℕ) → size b + u * 3 ≤ n → size b + size more ≤ n → size (into (record { block = join b (if c then Nil else more); form = if c then ATest t else InTarget }) v) ≤ n
  test_size true t b more v n h k = omega (arith, is.of_join, is.of_nil, truth_size)
  test_size false t b more v n h k = omega (arith, is.of_join, is.of_nil)

  minus_size : (a : Lowered) (v : ℕ) → size (into (lowered_minus a v) v) ≤ size (into a v) + u
  minus_size a v = word_size (is_word a.form) _ _ v (size (into a v) + u) (omega arith) (omega (arith, is.of_join, operand_within, set_size))

  arithmetic_size : (o : WOp) (a b : Lowered) (v t : ℕ) → size (into (lowered_arithmetic o a b v t) v) ≤ size (into a v) + size (into b t) + u
  arithmetic_size o a b v t =
      word_size (is_word a.form && is_word b.form) _ _ v (size (into a v) + size (into b t) + u) (omega arith)
      (omega (arith, is.of_join, operand_within, set_size))

  comparison_size : (o : BinOp) (a b : Lowered) (v t : ℕ) → size (into (lowered_comparison o a b v t) v) ≤ size (into a v) + size (into b t) + u * 3
  comparison_size o a b v t = omega (arith, is.of_join, operand_within, truth_size)

  division_operand_size : (e : Term) (l : Lowered) (v : ℕ) → size (division_operand_block e l v) ≤ size (into l v)
  division_operand_size e l v =
      elim (is_simple e) as (λ c. size (if c then Nil else into l v) ≤ size (into l v)) [ true ↦ omega (arith, is.of_nil) | false ↦ omega arith ]

  division_size : (d : Division) (x y : Term) (a b : Lowered) (v t : ℕ) → size (into (lowered_division d x y a b v t) v) ≤ size (into a v) + size (into b t) + u * 9
  division_size d x y a b v t = omega (arith, is.of_join, is.of_nil, division_operand_size, is.of_division)

  operation_size : (o : BinOp) (x y : Term) (a b : Lowered) (v t : ℕ) → size (into (lowered_operation o x y a b v t) v) ≤ size (into a v) + size (into b t) + u * operation_cost o
  operation_size sign.Add x y a b v t = omega (arith, arithmetic_size)
  operation_size sign.Sub x y a b v t = omega (arith, arithmetic_size)
  operation_size sign.Mul x y a b v t = omega (arith, arithmetic_size)
  operation_size sign.Div x y a b v t = omega (arith, division_size)
  operation_size sign.Rem x y a b v t = omega (arith, division_size)
  operation_size sign.Eq x y a b v t = omega (arith, comparison_size)
  operation_size sign.Ne x y a b v t = omega (arith, comparison_size)
  operation_size sign.Lt x y a b v t = omega (arith, comparison_size)
  operation_size sign.Le x y a b v t = omega (arith, comparison_size)
  operation_size sign.Gt x y a b v t = omega (arith, comparison_size)
  operation_size sign.Ge x y a b v t = omega (arith, comparison_size)

  connected_size : (o : Connective) (t : Test) (second : Block) (v : ℕ) → size (connected_block o t second v) ≡ size second + u * 2
  connected_size Conjunction t second v = omega (arith, if_size, set_size)
  connected_size Disjunction t second v = omega (arith, if_size, set_size)

  connective_size : (o : Connective) (a b : Lowered) (v : ℕ) → size (into (lowered_connective o (condition_of a v) (condition_of b v) v) v) ≤ size (into a v) + size (into b v) + u * 5
  connective_size o a b v =
      let first : Test = condition_in a.form v in
      let truth : Block = set_truth v (condition_in b.form v) in
      let second : Block = join b.block truth in
      test_size (is_empty b.block) (connected_test o first (condition_in b.form v)) a.block (connected_block o first second v) v (size (into a v) + size (into b v) + u * 5)
      (omega (arith, block_within a v))
      (omega (arith, connected_size o first second v, is.of_join b.block truth, truth_size v (condition_in b.form v), block_within a v, block_within b v))

  multiple_size : (o : BinOp) (x : Term) (c : ℕ) (l : Lowered) (v : ℕ) → size (into (lowered_multiple o x c l v) v) ≤ size (into l v) + u * 6
  multiple_size o x c l v = by_modulus (divides_modulus (magnitude_of c)) (ATest (multiple_test o (if divides_modulus (magnitude_of c) then operand_in l.form v else Var v) (magnitude_of c)))
    where
      by_modulus : (b : Bool) (f : Form) → size (join (if b then operand_block l v else join (division_operand_block x l v) (magnitude_block (division_operand_in x l.form v) v)) (target_rest f v)) ≤ size (into l v) + u * 6
      by_modulus true (ATest t) = omega (arith, is.of_join, operand_within l v, truth_size)
      by_modulus false (ATest t) = omega (arith, is.of_join, division_operand_size x l v, is.of_magnitude, truth_size)
      by_modulus true (AWord w) = omega (arith, is.of_join, operand_within l v, set_size)
      by_modulus false (AWord w) = omega (arith, is.of_join, division_operand_size x l v, is.of_magnitude, set_size)
      by_modulus true InTarget = omega (arith, is.of_join, operand_within l v, is.of_nil)
      by_modulus false InTarget = omega (arith, is.of_join, division_operand_size x l v, is.of_magnitude, is.of_nil)

  binary_size : (o : BinOp) (a b : Term) (x y first second : Lowered) (v t m n : ℕ) → ((c : ℕ) → divisor_of a ≡ Some c → size (into x v) + u * 6 ≤ m) → ((c : ℕ) → divisor_of b ≡ Some c → size (into y v) + u * 6 ≤ n) → size (into first v) ≤ m → size (into second t) ≤ n → size (into (lowered_binary o a b x y first second v t) v) ≤ m + n + u * operation_cost o
  binary_size o a b x y first second v t m n left right whole rest = by_left (multiple_divisor o a b) (multiple_divisor o b a) refl refl
    where
      by_left : (j k : Option ℕ) → multiple_divisor o a b ≡ j → multiple_divisor o b a ≡ k → size (into (by_constant j (λ c. lowered_multiple o (dividend_of a) c x v) (by_constant k (λ c. lowered_multiple o (dividend_of b) c y v) (lowered_operation o a b first second v t))) v) ≤ m + n + u * operation_cost o
      by_left (Some c) k is other = omega (arith, multiple_size o (dividend_of a) c x v, left c (multiple_is o a b c is).divisor)
      by_left None (Some c) is other = omega (arith, multiple_size o (dividend_of b) c y v, right c (multiple_is o b a c other).divisor)
      by_left None None is other = omega (arith, operation_size o a b first second v t, whole, rest)

  connected_first : (o : Connective) (first second : Option ℕ) (a b : Lowered) (v : ℕ) → size (into (lowered_connected o first second (condition_of a v) (condition_of b v) v) v) ≤ size (into a v) + size (into b v) + u * 5
  connected_first o (Some c) second a b v = omega (arith, is.of_join, truth_size, block_within b v)
  connected_first o None second a b v = by_neutral (is_neutral o second)
    where
      by_neutral : (neutral : Bool) → size (into (if neutral then lowered_truth (condition_of a v) else lowered_connective o (condition_of a v) (condition_of b v) v) v) ≤ size (into a v) + size (into b v) + u * 5
      by_neutral true = omega (arith, is.of_join, truth_size, block_within a v)
      by_neutral false = connective_size o a b v

  choice_size : (condition : Option ℕ) (c a b : Lowered) (v : ℕ) → size (into (lowered_chosen condition (condition_of c v) a b v) v) ≤ size (into c v) + size (into a v) + size (into b v) + u
  choice_size (Some zero) c a b v = omega arith
  choice_size (Some (suc x)) c a b v = omega arith
  choice_size None c a b v = omega (arith, is.of_join, is.of_nil, if_size, block_within c v)

  -- an expression costs one statement at least
  one_within : (e : Term) → u ≤ u * cost e
  one_within (Bin o a b) = omega (arith, one_within a)
  one_within (If c a b) = omega arith
  one_within _ = omega arith

  -- a constant takes one
  folded_size : (k : Option ℕ) (l : Lowered) (v n : ℕ) → u ≤ n → size (into l v) ≤ n → size (into (folded k l) v) ≤ n
  folded_size (Some c) l v n one h = omega (arith, is.of_join, is.of_nil, set_size)
  folded_size None l v n one h = h

  mutual
    unfolding lowered_term

    -- the size of an expression's statements is within its cost
    parts_within : (rows : List ℕ) (e : Term) (v t : ℕ) → size (into (lowered_parts rows e v t) v) ≤ u * cost e
    parts_within rows (Neg a) v t =
        omega (arith, minus_size (lowered_term rows a v t) v, folded_size (constant_of a) (lowered_parts rows a v t) v (u * cost a) (one_within a) (parts_within rows a v t))
    parts_within rows (Not a) v t =
        omega (arith, is.of_join, truth_size, block_within (lowered_term rows a v t) v, folded_size (constant_of a) (lowered_parts rows a v t) v (u * cost a) (one_within a) (parts_within rows a v t))
    parts_within rows (Bin o a b) v t =
        let all : size (into (lowered_parts rows (Bin o a b) v t) v) ≤ u * cost a + u * cost b + u * operation_cost o =
        binary_size o a b (lowered_dividend rows a v t) (lowered_dividend rows b v t) (lowered_term rows a v t) (lowered_term rows b t (t + 1)) v t (u * cost a) (u * cost b)
        (λ c is. dividend_within rows a c v t is) (λ c is. dividend_within rows b c v t is)
        (folded_size (constant_of a) (lowered_parts rows a v t) v (u * cost a) (one_within a) (parts_within rows a v t))
        (folded_size (constant_of b) (lowered_parts rows b t (t + 1)) t (u * cost b) (one_within b) (parts_within rows b t (t + 1))) in
        omega (arith, all)
    parts_within rows (And a b) v t =
        omega (
          arith,
          connected_first Conjunction (constant_of a) (constant_of b) (lowered_term rows a v t) (lowered_term rows b v t) v,
          folded_size (constant_of a) (lowered_parts rows a v t) v (u * cost a) (one_within a) (parts_within rows a v t),
          folded_size (constant_of b) (lowered_parts rows b v t) v (u * cost b) (one_within b) (parts_within rows b v t),
        )
    parts_within rows (Or a b) v t =
        omega (
          arith,
          connected_first Disjunction (constant_of a) (constant_of b) (lowered_term rows a v t) (lowered_term rows b v t) v,
          folded_size (constant_of a) (lowered_parts rows a v t) v (u * cost a) (one_within a) (parts_within rows a v t),
          folded_size (constant_of b) (lowered_parts rows b v t) v (u * cost b) (one_within b) (parts_within rows b v t),
        )
    parts_within rows (If c a b) v t =
        omega (
          arith,
          choice_size (constant_of c) (lowered_term rows c v t) (lowered_term rows a v t) (lowered_term rows b v t) v,
          folded_size (constant_of c) (lowered_parts rows c v t) v (u * cost c) (one_within c) (parts_within rows c v t),
          folded_size (constant_of a) (lowered_parts rows a v t) v (u * cost a) (one_within a) (parts_within rows a v t),
          folded_size (constant_of b) (lowered_parts rows b v t) v (u * cost b) (one_within b) (parts_within rows b v t),
        )
    parts_within rows _ v t = omega (arith, is.of_join, is.of_nil, set_size)

    -- a remainder costs 6 more than its dividend
    dividend_within : (rows : List ℕ) (a : Term) (c v t : ℕ) → divisor_of a ≡ Some c → size (into (lowered_dividend rows a v t) v) + u * 6 ≤ u * cost a
    dividend_within rows (Bin sign.Rem x y) c v t is =
        omega (arith, folded_size (constant_of x) (lowered_parts rows x v t) v (u * cost x) (one_within x) (parts_within rows x v t))
    dividend_within rows (Bin _ x y) c v t is = absurd cc
    dividend_within rows _ c v t is = absurd cc

  size_within : (rows : List ℕ) (e : Term) (v t : ℕ) → size (lowered_into rows e v t) ≤ u * cost e
  unfolding lowered_term
  size_within rows e v t =
      folded_size (constant_of e) (lowered_parts rows e v t) v (u * cost e) (one_within e) (parts_within rows e v t)

count_size : Laws → IsSize block_count 1
count_size laws = record {
  of_nil = refl;
  of_set = λ v w ss. omega arith;
  of_if = λ t a b ss. omega arith;
  of_division = λ d m n x y v. omega (arith, laws.division_few d m n x y v);
  of_magnitude = λ w v. omega (arith, laws.magnitude_few w v);
  of_join = count_join;
}

-- an expression has no more statements than it costs
pub few_statements : (laws : Laws) (rows : List ℕ) (e : Term) (v t : ℕ) → block_count (lowered_into rows e v t) ≤ cost e
few_statements laws rows e v t = omega (arith, size_within block_count 1 (count_size laws) rows e v t)

loops_size : Laws → IsSize block_loops 0
loops_size laws = record {
  of_nil = refl;
  of_set = λ v w ss. omega arith;
  of_if = λ t a b ss. omega arith;
  of_division = λ d m n x y v. omega (arith, laws.division_loops d m n x y v);
  of_magnitude = λ w v. omega (arith, laws.magnitude_loops w v);
  of_join = loops_join;
}

-- and no loops
pub no_loops : (laws : Laws) (rows : List ℕ) (e : Term) (v t : ℕ) → block_loops (lowered_into rows e v t) ≡ 0
no_loops laws rows e v t = omega (arith, size_within block_loops 0 (loops_size laws) rows e v t)

-- so it is of a condition
pub few_in_condition : (laws : Laws) (rows : List ℕ) (e : Term) (v t : ℕ) → block_count (lowered_test rows e v t).block ≤ cost e
few_in_condition laws rows e v t = omega (arith, block_within block_count 1 (count_size laws) (lowered_term rows e v t) v, few_statements laws rows e v t)

pub no_loops_in_condition : (laws : Laws) (rows : List ℕ) (e : Term) (v t : ℕ) → block_loops (lowered_test rows e v t).block ≡ 0
no_loops_in_condition laws rows e v t = omega (arith, block_within block_loops 0 (loops_size laws) (lowered_term rows e v t) v, no_loops laws rows e v t)

-- and of an operand
pub few_in_operand : (laws : Laws) (rows : List ℕ) (e : Term) (v t : ℕ) → block_count (operand_block (lowered_term rows e v t) v) ≤ cost e
few_in_operand laws rows e v t = omega (arith, operand_within block_count 1 (count_size laws) (lowered_term rows e v t) v, few_statements laws rows e v t)

pub no_loops_in_operand : (laws : Laws) (rows : List ℕ) (e : Term) (v t : ℕ) → block_loops (operand_block (lowered_term rows e v t) v) ≡ 0
no_loops_in_operand laws rows e v t = omega (arith, operand_within block_loops 0 (loops_size laws) (lowered_term rows e v t) v, no_loops laws rows e v t)

-- ---- temporaries

-- at most one more than those of a right operand that is kept
kept_within : (c : Bool) (n : ℕ) → (if c then 0 else n + 1) ≤ n + 1
kept_within true n = omega arith
kept_within false n = omega arith

-- those of a right operand that is kept are fewer than those of the operation
pub kept_few : (o : BinOp) (a b : Term) (n : ℕ) → is_direct o b ≡ false → max (temps_of a) (if is_direct o b then 0 else temps_of b + 1) < n → temps_of b + 1 < n
kept_few o a b n kept le = by_kept (is_direct o b) kept le
  where
    by_kept : (c : Bool) → c ≡ false → max (temps_of a) (if c then 0 else temps_of b + 1) < n → temps_of b + 1 < n
    by_kept true kept le = absurd cc
    by_kept false kept le = omega arith

fewer_unless : (k : Option ℕ) (m n : ℕ) → m ≤ n → unless_constant k m ≤ n
fewer_unless (Some c) m n h = omega arith
fewer_unless None m n h = h

connected_depth : (first : Option ℕ) (m n p q : ℕ) → m ≤ p → n ≤ q → connected_temps first m n ≤ max p q
connected_depth (Some c) m n p q h k = omega arith
connected_depth None m n p q h k = omega arith

chosen_depth : (condition : Option ℕ) (l m n p q r : ℕ) → l ≤ p → m ≤ q → n ≤ r → chosen_temps condition l m n ≤ max p (max q r)
chosen_depth (Some zero) l m n p q r h j k = omega arith
chosen_depth (Some (suc x)) l m n p q r h j k = omega arith
chosen_depth None l m n p q r h j k = omega arith

binary_depth : (left right : Option ℕ) (m n p d : ℕ) → m ≤ d → n ≤ d → p ≤ d → binary_temps left right m n p ≤ d
binary_depth (Some c) right m n p d h j k = h
binary_depth None (Some c) m n p d h j k = j
binary_depth None None m n p d h j k = k

mutual
  -- at most one for each level of depth
  parts_depth : (e : Term) → parts_temps e ≤ term_depth e
  parts_depth (Neg a) = omega (arith, fewer_unless (constant_of a) (parts_temps a) (term_depth a) (parts_depth a))
  parts_depth (Not a) = omega (arith, fewer_unless (constant_of a) (parts_temps a) (term_depth a) (parts_depth a))
  parts_depth (Bin o a b) =
      binary_depth (multiple_divisor o a b) (multiple_divisor o b a) (dividend_temps a) (dividend_temps b) (operation_temps o a b) (term_depth (Bin o a b))
      (omega (arith, dividend_depth a)) (omega (arith, dividend_depth b))
      (omega (
        arith,
        fewer_unless (constant_of a) (parts_temps a) (term_depth a) (parts_depth a),
        fewer_unless (constant_of b) (parts_temps b) (term_depth b) (parts_depth b),
        kept_within (is_direct o b) (temps_of b),
      ))
  parts_depth (And a b) =
      omega (
        arith,
        connected_depth (constant_of a) (temps_of a) (temps_of b) (term_depth a) (term_depth b)
            (fewer_unless (constant_of a) (parts_temps a) (term_depth a) (parts_depth a)) (fewer_unless (constant_of b) (parts_temps b) (term_depth b) (parts_depth b)),
      )
  parts_depth (Or a b) =
      omega (
        arith,
        connected_depth (constant_of a) (temps_of a) (temps_of b) (term_depth a) (term_depth b)
            (fewer_unless (constant_of a) (parts_temps a) (term_depth a) (parts_depth a)) (fewer_unless (constant_of b) (parts_temps b) (term_depth b) (parts_depth b)),
      )
  parts_depth (If c a b) =
      omega (
        arith,
        chosen_depth (constant_of c) (temps_of c) (temps_of a) (temps_of b) (term_depth c) (term_depth a) (term_depth b)
            (fewer_unless (constant_of c) (parts_temps c) (term_depth c) (parts_depth c)) (fewer_unless (constant_of a) (parts_temps a) (term_depth a) (parts_depth a))
            (fewer_unless (constant_of b) (parts_temps b) (term_depth b) (parts_depth b)),
      )
  parts_depth _ = omega arith

  dividend_depth : (a : Term) → dividend_temps a ≤ term_depth a
  dividend_depth (Bin o x y) = omega (arith, fewer_unless (constant_of x) (parts_temps x) (term_depth x) (parts_depth x))
  dividend_depth _ = omega arith

pub temps_depth : (e : Term) → temps_of e ≤ term_depth e
temps_depth e = fewer_unless (constant_of e) (parts_temps e) (term_depth e) (parts_depth e)
