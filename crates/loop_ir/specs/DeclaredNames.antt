-- The names in statements, and those that a program declares.
use Rattle.std.specs.Prelude.{ℕ, Bool, true, nat_lt, List}
use Rattle.list_denotation.specs.declared.input.InputKind.{InputKind}
use Rattle.list_denotation.specs.InputNames.{InputNames, declared_inputs}
use Rattle.loop_ir.specs.Statements.{Operand, Const, Var, Len, Int, Bin, Test, Statement, Block}
use Rattle.loop_ir.specs.Leaves.{operand_leaves, test_leaves, statement_leaves, block_leaves}

-- which variables may be named, and which inputs as an array or as an int
pub record Names : Type 0 where
  pub var : ℕ → Bool
  pub inputs : InputNames

abbrev pub is_named_leaf : Names → Operand → Bool
is_named_leaf may (Const n) = true
is_named_leaf may (Var v) = may.var v
is_named_leaf may (Len a) = may.inputs.array a
is_named_leaf may (Int k) = may.inputs.int k
is_named_leaf may (Bin op a b) = true

abbrev pub operand_names : Names → Operand → Bool
operand_names may = operand_leaves (is_named_leaf may)

abbrev pub test_names : Names → Test → Bool
test_names may = test_leaves (is_named_leaf may)

abbrev pub statement_names : Names → Statement → Bool
statement_names may = statement_leaves (is_named_leaf may)

-- whether statements name nothing but these
abbrev pub block_names : Names → Block → Bool
block_names may = block_leaves (is_named_leaf may)

-- the names of a program with these parameters and so many variables
abbrev pub declared_names : List InputKind → ℕ → Names
declared_names params vars = record {
  var = λ v. nat_lt v vars;
  inputs = declared_inputs params;
}
