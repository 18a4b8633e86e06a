-- The statements of an expression. They put its value into a target variable, or return 1 where it traps.
use Rattle.std.specs.Prelude.{ℕ, ◌+◌, List, slice_index, Option}
use Rattle.strm_num.specs.Words.{truth_of}
use Rattle.list_denotation.specs.declared.expr.BinOp.{BinOp}
use Rattle.list_denotation.specs.Terms as term
use Rattle.list_denotation.specs.Terms.{Term}
use Rattle.loop_ir.specs.Statements.{Const, Var, Len, Int, Block}
use Rattle.expr_phrases.specs.Phrases.{Conjunction, Disjunction}
use Rattle.expr_constants.specs.Constants.{by_constant, constant_of}
use Rattle.expr_forms.specs.Forms.{Lowered, Condition, condition_of, into, as_word, lowered_minus, lowered_not, lowered_operation, lowered_multiple, lowered_connected, lowered_chosen}
use Rattle.expr_lower.specs.Multiples.{dividend_of, multiple_divisor}

-- an operation on a and b, whose dividends are x and y where they are remainders
abbrev pub lowered_binary : BinOp → Term → Term → Lowered → Lowered → Lowered → Lowered → ℕ → ℕ → Lowered
lowered_binary o a b x y first second v t =
    by_constant (multiple_divisor o a b) (λ c. lowered_multiple o (dividend_of a) c x v)
    (by_constant (multiple_divisor o b a) (λ c. lowered_multiple o (dividend_of b) c y v) (lowered_operation o a b first second v t))

-- a constant is one word, and all else is what its parts give
abbrev pub folded : Option ℕ → Lowered → Lowered
folded k l = by_constant k (λ c. as_word (Const c)) l

abbrev mutual
  -- an expression from its parts, whose bound words stand in the variables `rows`, with the target v. Its temporaries are
  -- those from t on
  pub lowered_parts : List ℕ → Term → ℕ → ℕ → Lowered
  lowered_parts rows (term.Lit c) v t = as_word (Const c)
  lowered_parts rows (term.Truth b) v t = as_word (Const (truth_of b))
  lowered_parts rows (term.Var k) v t = as_word (Var (slice_index rows k))
  lowered_parts rows (term.Param k) v t = as_word (Int k)
  lowered_parts rows (term.Len k) v t = as_word (Len k)
  lowered_parts rows (term.Neg a) v t = lowered_minus (folded (constant_of a) (lowered_parts rows a v t)) v
  lowered_parts rows (term.Not a) v t = lowered_not (condition_of (folded (constant_of a) (lowered_parts rows a v t)) v)
  lowered_parts rows (term.Bin o a b) v t =
      lowered_binary o a b (lowered_dividend rows a v t) (lowered_dividend rows b v t) (folded (constant_of a) (lowered_parts rows a v t))
      (folded (constant_of b) (lowered_parts rows b t (t + 1))) v t
  lowered_parts rows (term.And a b) v t =
      lowered_connected Conjunction (constant_of a) (constant_of b) (condition_of (folded (constant_of a) (lowered_parts rows a v t)) v)
      (condition_of (folded (constant_of b) (lowered_parts rows b v t)) v) v
  lowered_parts rows (term.Or a b) v t =
      lowered_connected Disjunction (constant_of a) (constant_of b) (condition_of (folded (constant_of a) (lowered_parts rows a v t)) v)
      (condition_of (folded (constant_of b) (lowered_parts rows b v t)) v) v
  lowered_parts rows (term.If c a b) v t =
      lowered_chosen (constant_of c) (condition_of (folded (constant_of c) (lowered_parts rows c v t)) v)
      (folded (constant_of a) (lowered_parts rows a v t)) (folded (constant_of b) (lowered_parts rows b v t)) v

  -- the dividend of a remainder. The last case stands for what is no remainder
  pub lowered_dividend : List ℕ → Term → ℕ → ℕ → Lowered
  lowered_dividend rows (term.Bin o x y) v t = folded (constant_of x) (lowered_parts rows x v t)
  lowered_dividend rows _ v t = as_word (Const 0)

-- an expression
unfoldable pub lowered_term : List ℕ → Term → ℕ → ℕ → Lowered
lowered_term rows e v t = folded (constant_of e) (lowered_parts rows e v t)

-- the statements that put the value of the expression into v
abbrev pub lowered_into : List ℕ → Term → ℕ → ℕ → Block
lowered_into rows e v t = into (lowered_term rows e v t) v

-- its condition: the statements, and the test that holds then where the value is true. The target v is scratch
abbrev pub lowered_test : List ℕ → Term → ℕ → ℕ → Condition
lowered_test rows e v t = condition_of (lowered_term rows e v t) v
