-- The word of the C text that a plain expression is. The last case of each definition stands for what isn't plain.
use Rattle.std.specs.Prelude.{ℕ, Option, List, slice_index}
use Rattle.strm_num.specs.Words.{truth_of}
use Rattle.list_denotation.specs.declared.expr.BinOp.{BinOp}
use Rattle.list_denotation.specs.declared.expr.BinOp.TheVariants as sign
use Rattle.list_denotation.specs.Terms as term
use Rattle.list_denotation.specs.Terms.{Term}
use Rattle.list_denotation.specs.Values.{choice}
use Rattle.loop_ir.specs.declared.syntax.WOp.{WOp}
use Rattle.loop_ir.specs.declared.syntax.WOp.TheVariants as op
use Rattle.loop_ir.specs.Statements.{Operand, Const, Var, Len, Int, Bin}
use Rattle.expr_constants.specs.Constants.{by_constant, constant_of}
use Rattle.expr_phrases.specs.Phrases.{minus}

-- a constant is one word
abbrev pub folded_word : Option ℕ → Operand → Operand
folded_word k w = by_constant k (λ c. Const c) w

abbrev pub arithmetic_operator : BinOp → WOp
arithmetic_operator sign.Sub = op.Sub
arithmetic_operator sign.Mul = op.Mul
arithmetic_operator _ = op.Add

-- by its parts, where the bound words stand in the variables `rows`
abbrev pub parts_word : List ℕ → Term → Operand
parts_word rows (term.Lit c) = Const c
parts_word rows (term.Truth b) = Const (truth_of b)
parts_word rows (term.Var k) = Var (slice_index rows k)
parts_word rows (term.Param k) = Int k
parts_word rows (term.Len k) = Len k
parts_word rows (term.Neg a) = minus (folded_word (constant_of a) (parts_word rows a))
parts_word rows (term.Bin o a b) =
    Bin (arithmetic_operator o) (folded_word (constant_of a) (parts_word rows a)) (folded_word (constant_of b) (parts_word rows b))
parts_word rows (term.If c a b) =
    by_constant (constant_of c) (λ x. choice x (folded_word (constant_of b) (parts_word rows b)) (folded_word (constant_of a) (parts_word rows a)))
    (Const 0)
parts_word rows _ = Const 0

abbrev pub plain_word : List ℕ → Term → Operand
plain_word rows e = folded_word (constant_of e) (parts_word rows e)
