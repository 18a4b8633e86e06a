-- The constants in statements, each of which is a word: below 2 ^ 64.
use Rattle.std.specs.Prelude.{◌^◌, Bool, true, nat_lt}
use Rattle.loop_ir.specs.Statements.{Operand, Const, Var, Len, Int, Bin, Test, Statement, Block}
use Rattle.loop_ir.specs.Leaves.{operand_leaves, test_leaves, statement_leaves, block_leaves}

abbrev pub is_word_leaf : Operand → Bool
is_word_leaf (Const n) = nat_lt n (2 ^ 64)
is_word_leaf (Var v) = true
is_word_leaf (Len a) = true
is_word_leaf (Int k) = true
is_word_leaf (Bin op a b) = true

abbrev pub operand_has_words : Operand → Bool
operand_has_words = operand_leaves is_word_leaf

abbrev pub test_has_words : Test → Bool
test_has_words = test_leaves is_word_leaf

abbrev pub statement_has_words : Statement → Bool
statement_has_words = statement_leaves is_word_leaf

-- whether each constant in the statements is a word
abbrev pub block_has_words : Block → Bool
block_has_words = block_leaves is_word_leaf
