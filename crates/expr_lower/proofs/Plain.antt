-- Plain expressions: they are words of the C text, and need no statements.
use Rattle.std.proofs.Common.{◌≡◌, ℕ, zero, suc, ◌+◌, List, Bool, true, false, ◌&&◌, ◌||◌, Option, Some, None, refl, ◌∙◌}
use Rattle.std.specs.Prelude.{IsTrue, if◌then◌else◌, is_some}
use Rattle.list_denotation.specs.declared.expr.BinOp.{BinOp}
use Rattle.list_denotation.specs.declared.expr.BinOp.TheVariants.{Add, Sub, Mul, Eq, Ne}
use Rattle.list_denotation.specs.Terms.{Term, Neg, Not, Bin, And, Or, If}
use Rattle.loop_ir.specs.Statements.{Operand, Test, Block}
use Rattle.expr_constants.specs.Constants.{by_constant, constant_of}
use Rattle.expr_constants.specs.Simple.{is_leaf, is_simple}
use Rattle.expr_phrases.specs.Phrases.{Connective, Conjunction, Disjunction}
use Rattle.expr_forms.specs.Forms.{Lowered, Condition, ATest, InTarget, is_word, as_word, in_target, lowered_operation, lowered_multiple, is_empty, is_neutral, lowered_truth, lowered_connective, lowered_connected, lowered_chosen}
use Rattle.expr_lower.specs.Lowering.{lowered_binary, folded, lowered_parts, lowered_dividend, lowered_term}
use Rattle.expr_lower.specs.Multiples.{dividend_of, multiple_divisor}
use Rattle.expr_lower.specs.Costs.{is_arithmetic, chosen_plain, has_plain_parts, is_plain}

-- ---- forms and statements, from those of the parts

-- a word where the condition holds, and else a value in the target
word_if : (c : Bool) (w : Operand) (b : Block) → is_word (if c then as_word w else in_target b).form ≡ c
word_if true w b = refl
word_if false w b = refl

-- a test, or a value in the target, is no word
no_word : (c : Bool) (t : Test) → is_word (if c then ATest t else InTarget) ≡ false
no_word true t = refl
no_word false t = refl

-- arithmetic on parts that answer the same
same_parts : (o : BinOp) (a b c d : Bool) → a ≡ c → b ≡ d → (is_arithmetic o && (a && b)) ≡ (is_arithmetic o && (c && d))
same_parts o a b c d p q = cc

-- sums and products are words where both parts are
pub operation_form : (o : BinOp) (x y : Term) (a b : Lowered) (v t : ℕ) → is_word (lowered_operation o x y a b v t).form ≡ (is_arithmetic o && (is_word a.form && is_word b.form))
operation_form Add x y a b v t = word_if (is_word a.form && is_word b.form) _ _
operation_form Sub x y a b v t = word_if (is_word a.form && is_word b.form) _ _
operation_form Mul x y a b v t = word_if (is_word a.form && is_word b.form) _ _
operation_form _ x y a b v t = refl

-- nor is a comparison of a remainder with 0
other_form : (left right : Option ℕ) (f g : ℕ → Lowered) (rest : Lowered) → ((c : ℕ) → is_word (f c).form ≡ false) → ((c : ℕ) → is_word (g c).form ≡ false) → is_word rest.form ≡ false → is_word (by_constant left f (by_constant right g rest)).form ≡ false
other_form (Some c) right f g rest first second third = first c
other_form None (Some c) f g rest first second third = second c
other_form None None f g rest first second third = third

binary_form : (o : BinOp) (p q : Term) (x y a b : Lowered) (v t : ℕ) → is_word (lowered_binary o p q x y a b v t).form ≡ (is_arithmetic o && (is_word a.form && is_word b.form))
binary_form Add p q x y a b v t = operation_form Add p q a b v t
binary_form Sub p q x y a b v t = operation_form Sub p q a b v t
binary_form Mul p q x y a b v t = operation_form Mul p q a b v t
binary_form Eq p q x y a b v t =
    other_form (multiple_divisor Eq p q) (multiple_divisor Eq q p) (λ c. lowered_multiple Eq (dividend_of p) c x v) (λ c. lowered_multiple Eq (dividend_of q) c y v) (lowered_operation Eq p q a b v t) (λ c. refl) (λ c. refl) refl
binary_form Ne p q x y a b v t =
    other_form (multiple_divisor Ne p q) (multiple_divisor Ne q p) (λ c. lowered_multiple Ne (dividend_of p) c x v) (λ c. lowered_multiple Ne (dividend_of q) c y v) (lowered_operation Ne p q a b v t) (λ c. refl) (λ c. refl) refl
binary_form _ p q x y a b v t = refl

-- a test, or a value in the target, is no word either where a part is constant
connected_form : (o : Connective) (first second : Option ℕ) (a b : Condition) (v : ℕ) → is_word (lowered_connected o first second a b v).form ≡ false
connected_form o (Some c) second a b v = refl
connected_form o None second a b v = by_neutral (is_neutral o second)
  where
    by_neutral : (neutral : Bool) → is_word (if neutral then lowered_truth a else lowered_connective o a b v).form ≡ false
    by_neutral true = refl
    by_neutral false = no_word (is_empty b.block) _

-- the branch that is chosen
chosen_form : (condition : Option ℕ) (c : Condition) (a b : Lowered) (v : ℕ) (first second : Bool) → is_word a.form ≡ first → is_word b.form ≡ second → is_word (lowered_chosen condition c a b v).form ≡ chosen_plain condition first second
chosen_form (Some zero) c a b v first second h k = k
chosen_form (Some (suc x)) c a b v first second h k = h
chosen_form None c a b v first second h k = refl

-- a constant is a word
folded_form : (k : Option ℕ) (l : Lowered) (parts : Bool) → is_word l.form ≡ parts → is_word (folded k l).form ≡ (is_some k || parts)
folded_form (Some c) l parts h = refl
folded_form None l parts h = h

-- ---- plain expressions

-- the expressions whose parts make them plain are those whose parts make them words
pub parts_form : (rows : List ℕ) (e : Term) (v t : ℕ) → is_word (lowered_parts rows e v t).form ≡ has_plain_parts e
unfolding lowered_term
parts_form rows (Neg a) v t = word_if (is_word (folded (constant_of a) (lowered_parts rows a v t)).form) _ _ ∙ folded_form (constant_of a) (lowered_parts rows a v t) (has_plain_parts a) (parts_form rows a v t)
parts_form rows (Bin o a b) v t =
    let first = lowered_term rows a v t in
    let second = lowered_term rows b t (t + 1) in
    binary_form o a b (lowered_dividend rows a v t) (lowered_dividend rows b v t) first second v t
    ∙ same_parts o (is_word first.form) (is_word second.form) (is_plain a) (is_plain b)
    (folded_form (constant_of a) (lowered_parts rows a v t) (has_plain_parts a) (parts_form rows a v t))
    (folded_form (constant_of b) (lowered_parts rows b t (t + 1)) (has_plain_parts b) (parts_form rows b t (t + 1)))
parts_form rows (And a b) v t = connected_form Conjunction (constant_of a) (constant_of b) _ _ v
parts_form rows (Or a b) v t = connected_form Disjunction (constant_of a) (constant_of b) _ _ v
parts_form rows (If c a b) v t =
    chosen_form (constant_of c) _ (lowered_term rows a v t) (lowered_term rows b v t) v (is_plain a) (is_plain b)
    (folded_form (constant_of a) (lowered_parts rows a v t) (has_plain_parts a) (parts_form rows a v t))
    (folded_form (constant_of b) (lowered_parts rows b v t) (has_plain_parts b) (parts_form rows b v t))
parts_form rows _ v t = refl

-- the plain expressions are those that are words
pub plain_form : (rows : List ℕ) (e : Term) (v t : ℕ) → is_word (lowered_term rows e v t).form ≡ is_plain e
unfolding lowered_term
plain_form rows e v t = folded_form (constant_of e) (lowered_parts rows e v t) (has_plain_parts e) (parts_form rows e v t)

-- an operation is plain where it is arithmetic on words
pub operands_form : (rows : List ℕ) (o : BinOp) (a b : Term) (v t : ℕ) → (is_arithmetic o && (is_word (lowered_term rows a v t).form && is_word (lowered_term rows b t (t + 1)).form)) ≡ has_plain_parts (Bin o a b)
operands_form rows o a b v t =
    same_parts o (is_word (lowered_term rows a v t).form) (is_word (lowered_term rows b t (t + 1)).form) (is_plain a) (is_plain b) (plain_form rows a v t) (plain_form rows b t (t + 1))

-- ---- constants and names are plain

leaf_plain : (e : Term) → IsTrue (is_leaf e) → IsTrue (has_plain_parts e)
leaf_plain (Neg a) h = absurd cc
leaf_plain (Not a) h = absurd cc
leaf_plain (Bin o a b) h = absurd cc
leaf_plain (And a b) h = absurd cc
leaf_plain (Or a b) h = absurd cc
leaf_plain (If c a b) h = absurd cc
leaf_plain _ h = refl

pub either_true : (k a b : Bool) → (IsTrue a → IsTrue b) → IsTrue (k || a) → IsTrue (k || b)
either_true true a b f h = refl
either_true false a b f h = f h

pub simple_plain : (e : Term) → IsTrue (is_simple e) → IsTrue (is_plain e)
simple_plain e h = either_true (is_some (constant_of e)) (is_leaf e) (has_plain_parts e) (leaf_plain e) h

pub parts_plain : (e : Term) → IsTrue (has_plain_parts e) → IsTrue (is_plain e)
parts_plain e h = second_true (is_some (constant_of e)) (has_plain_parts e) h
  where
    second_true : (a b : Bool) → IsTrue b → IsTrue (a || b)
    second_true true b h = refl
    second_true false b h = h
