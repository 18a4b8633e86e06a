-- The C text of a loop program.
use Rattle.std.specs.Prelude.{ℕ, zero, suc, ◌+◌, List, [], ◌∷◌, ◌++◌, codes, decimal, min, replicate}
use Rattle.list_denotation.specs.declared.input.InputKind.{InputKind}
use Rattle.list_denotation.specs.declared.input.InputKind.TheVariants as kind
use Rattle.loop_ir.specs.declared.syntax.WOp.{WOp}
use Rattle.loop_ir.specs.declared.syntax.WOp.TheVariants as op
use Rattle.loop_ir.specs.declared.syntax.Verdict.{Verdict}
use Rattle.loop_ir.specs.declared.syntax.Verdict.TheVariants as verdict
use Rattle.loop_ir.specs.Statements.{Operand, Const, Var, Len, Int, Bin, Test, Less, Same, Both, Either, Not, Statement, Set, Read, If, Loop, Emit, EndRow, Ret, Block, Nil, Cons, Routine}

abbrev pub operator_text : WOp → List ℕ
operator_text op.Add = codes " + "
operator_text op.Sub = codes " - "
operator_text op.Mul = codes " * "
operator_text op.Div = codes " / "
operator_text op.Rem = codes " % "
operator_text op.Xor = codes " ^ "

abbrev pub operand_text : Operand → List ℕ
operand_text (Const n) = decimal n ++ codes "ULL"
operand_text (Var v) = codes "v" ++ decimal v
operand_text (Len a) = codes "n" ++ decimal a
operand_text (Int k) = codes "i" ++ decimal k
operand_text (Bin op a b) = codes "(" ++ operand_text a ++ operator_text op ++ operand_text b ++ codes ")"

abbrev pub test_text : Test → List ℕ
test_text (Less a b) = codes "(" ++ operand_text a ++ codes " < " ++ operand_text b ++ codes ")"
test_text (Same a b) = codes "(" ++ operand_text a ++ codes " == " ++ operand_text b ++ codes ")"
test_text (Both a b) = codes "(" ++ test_text a ++ codes " && " ++ test_text b ++ codes ")"
test_text (Either a b) = codes "(" ++ test_text a ++ codes " || " ++ test_text b ++ codes ")"
test_text (Not a) = codes "(!" ++ test_text a ++ codes ")"

-- the blanks before a line
abbrev pub indent : ℕ → List ℕ
indent blanks = replicate blanks 32

-- two blanks for each open brace, but never more than 32
abbrev pub deeper : ℕ → ℕ
deeper blanks = min (blanks + 2) 32

abbrev pub set_text : ℕ → Operand → List ℕ
set_text v w = codes "v" ++ decimal v ++ codes " = " ++ operand_text w ++ codes ";\n"

abbrev pub read_text : ℕ → ℕ → Operand → List ℕ
read_text v a w = codes "v" ++ decimal v ++ codes " = a" ++ decimal a ++ codes "[" ++ operand_text w ++ codes "];\n"

abbrev pub return_text : Verdict → List ℕ
return_text verdict.Done = codes "return 0;\n"
return_text verdict.Trap = codes "return 1;\n"

-- the line that begins a choice
abbrev pub choice_text : Test → List ℕ
choice_text t = codes "if " ++ test_text t ++ codes " {\n"

-- the line that ends a loop where its test fails
abbrev pub guard_text : Test → List ℕ
guard_text t = codes "if " ++ test_text t ++ codes " { } else { break; }\n"

-- a loop's first two lines; it goes on while the test holds
abbrev pub loop_head_text : Test → ℕ → List ℕ
loop_head_text t blanks = codes "while (1) {\n" ++ indent (deeper blanks) ++ guard_text t

abbrev mutual
  pub statement_text : Statement → ℕ → List ℕ
  statement_text (Set v w) blanks = indent blanks ++ set_text v w
  statement_text (Read v a w) blanks = indent blanks ++ read_text v a w
  statement_text (If t a b) blanks =
      indent blanks ++ choice_text t ++ block_text a (deeper blanks)
      ++ indent blanks ++ codes "} else {\n" ++ block_text b (deeper blanks) ++ indent blanks ++ codes "}\n"
  statement_text (Loop t body) blanks =
      indent blanks ++ loop_head_text t blanks ++ block_text body (deeper blanks) ++ indent blanks ++ codes "}\n"
  statement_text (Emit w) blanks = indent blanks ++ codes "EMIT(" ++ operand_text w ++ codes ");\n"
  statement_text EndRow blanks = indent blanks ++ codes "ENDROW();\n"
  statement_text (Ret v) blanks = indent blanks ++ return_text v

  pub block_text : Block → ℕ → List ℕ
  block_text Nil blanks = []
  block_text (Cons s ss) blanks = statement_text s blanks ++ block_text ss blanks

abbrev pub param_text : ℕ → InputKind → List ℕ
param_text k kind.Array = codes "const uint64_t *a" ++ decimal k ++ codes ", uint64_t n" ++ decimal k
param_text k kind.Int = codes "uint64_t i" ++ decimal k

-- the parameters from number k on, each after a comma
abbrev pub more_params_text : ℕ → List InputKind → List ℕ
more_params_text k [] = []
more_params_text k (p ∷ ps) = codes ", " ++ param_text k p ++ more_params_text (k + 1) ps

abbrev pub params_text : List InputKind → List ℕ
params_text [] = codes "void"
params_text (p ∷ ps) = param_text 0 p ++ more_params_text 1 ps

abbrev pub declaration_text : ℕ → List ℕ
declaration_text k = codes "  uint64_t v" ++ decimal k ++ codes " = 0ULL;\n"

-- the declarations of so many variables from number k on
abbrev pub declarations_text : ℕ → ℕ → List ℕ
declarations_text k zero = []
declarations_text k (suc n) = declaration_text k ++ declarations_text (k + 1) n

-- the two lines before the declarations
abbrev pub head_text : List InputKind → List ℕ
head_text params = codes "#include \"pipeline.h\"\nint pipeline(" ++ params_text params ++ codes ") {\n"

abbrev pub layout : Routine → List ℕ
layout q =
    head_text q.params ++ declarations_text 0 q.vars ++ block_text q.body 2 ++ codes "  return 0;\n}\n"
