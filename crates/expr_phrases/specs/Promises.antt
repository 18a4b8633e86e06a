-- What is promised of the definitions. Each statement has one name, which its law and those who stand on it cite.
use Rattle.std.specs.Prelude.{◌≡◌, ◌≢◌, ◌≤◌, ℕ, Bool, not, List, Option, IsTrue}
use Rattle.strm_num.specs.Words.{IsWord, negation_of, remainder_of}
use Rattle.strm_num.specs.Magnitudes.{magnitude_of}
use Rattle.list_denotation.specs.declared.expr.BinOp.{BinOp}
use Rattle.list_denotation.specs.declared.input.Input.{Input}
use Rattle.list_denotation.specs.Values.{Trap, Is, unless_zero}
use Rattle.loop_ir.specs.Counts.{block_count, block_loops}
use Rattle.loop_ir.specs.Leaves.{operand_leaves, test_leaves, block_leaves}
use Rattle.loop_ir.specs.Meaning.{operand_value, test_value}
use Rattle.loop_ir.specs.Statements.{Operand, Const, Var, Test}
use Rattle.expr_constants.specs.Constants.{IsWordConstant}
use Rattle.expr_phrases.specs.Phrases.{Division, minus, opposite, comparison_test, by_divisor, divides_modulus, magnitude_block, multiple_test}
use Rattle.expr_phrases.specs.Results.{comparison_truth, is_equality, result_of, HasValue, Assigns}

-- 0 minus a word has the negated value, and the opposite of a test holds exactly where the test
-- doesn't. The constants and the names in an opposite are those of its test.
abbrev pub MinusNegates : Type 0
MinusNegates =
    (inputs : List Input) (w : Operand) (x : ℕ) (env : List ℕ)
    → operand_value inputs w env ≡ Is x
    → operand_value inputs (minus w) env ≡ Is (negation_of x)

abbrev pub OppositesNegate : Type 0
OppositesNegate =
    (inputs : List Input) (t : Test) (env : List ℕ) (truth : Bool)
    → test_value inputs t env ≡ Is truth
    → test_value inputs (opposite t) env ≡ Is (not truth)

abbrev pub OppositesHaveLeavesOfTheirTest : Type 0
OppositesHaveLeavesOfTheirTest =
    (passes : Operand → Bool) (t : Test)
    → IsTrue (test_leaves passes t) → IsTrue (test_leaves passes (opposite t))

-- The test of a comparison of two words holds exactly where the comparison of their signed values
-- does. The names in it are those of the words, and its constants are words if theirs are.
abbrev pub ComparisonsTellTheSignedOrder : Type 0
ComparisonsTellTheSignedOrder =
    (inputs : List Input) (o : BinOp) (a b : Operand) (x y : ℕ) (env : List ℕ)
    → IsWord x → IsWord y
    → operand_value inputs a env ≡ Is x → operand_value inputs b env ≡ Is y
    → test_value inputs (comparison_test o a b) env ≡ Is (comparison_truth o x y)

abbrev pub ComparisonsHaveLeavesOfTheirWords : Type 0
ComparisonsHaveLeavesOfTheirWords =
    (passes : Operand → Bool) (o : BinOp) (a b : Operand)
    → ((c : ℕ) → IsWord c → IsTrue (passes (Const c)))
    → IsTrue (operand_leaves passes a) → IsTrue (operand_leaves passes b)
    → IsTrue (test_leaves passes (comparison_test o a b))

-- The statements of a division put the quotient or the remainder of the signed values, which is a
-- word, into the variable v, and change nothing else; where the divisor is 0 they return 1. They
-- are at most 9, and none is a loop. They name v and what the operands name, and their constants are
-- words if those of the operands are.
abbrev pub DivisionsAssignSignedResults : Type 0
DivisionsAssignSignedResults =
    (inputs : List Input) (d : Division) (m n : Option ℕ) (a b : Operand)
    (x y v : ℕ) (env : List ℕ)
    → HasValue inputs m a x env → HasValue inputs n b y env
    → Assigns inputs (by_divisor d m n a b v) v (unless_zero Trap y (result_of d x y)) env

abbrev pub ResultsOfDivisionsAreWords : Type 0
ResultsOfDivisionsAreWords =
    (d : Division) (x y : ℕ) → IsWord (result_of d x y)

abbrev pub DivisionsHaveLeavesOfTheirOperands : Type 0
DivisionsHaveLeavesOfTheirOperands =
    (passes : Operand → Bool) (d : Division) (m n : Option ℕ) (a b : Operand)
    (v : ℕ)
    → ((c : ℕ) → IsWord c → IsTrue (passes (Const c)))
    → IsWordConstant m → IsWordConstant n → IsTrue (passes (Var v))
    → IsTrue (operand_leaves passes a) → IsTrue (operand_leaves passes b)
    → IsTrue (block_leaves passes (by_divisor d m n a b v))

abbrev pub DivisionsHaveFewStatements : Type 0
DivisionsHaveFewStatements =
    (d : Division) (m n : Option ℕ) (a b : Operand) (v : ℕ)
    → block_count (by_divisor d m n a b v) ≤ 9

abbrev pub DivisionsHaveNoLoops : Type 0
DivisionsHaveNoLoops =
    (d : Division) (m n : Option ℕ) (a b : Operand) (v : ℕ)
    → block_loops (by_divisor d m n a b v) ≡ 0

-- The remainder of a signed value by a constant is 0 where that of the magnitudes is, and where the
-- constant's magnitude divides 2^64 also where that of the word itself is: this is what the test of
-- a multiple tells. The statement of a magnitude puts it, which is a word, into the variable v, and
-- changes nothing else; it counts 3 at most, with no loop. Both name what the operand names, and v, and their
-- constants are words if those of the operand are.
abbrev pub MagnitudesAreAssigned : Type 0
MagnitudesAreAssigned =
    (inputs : List Input) (w : Operand) (x v : ℕ) (env : List ℕ)
    → operand_value inputs w env ≡ Is x
    → Assigns inputs (magnitude_block w v) v (Is (magnitude_of x)) env

abbrev pub MultiplesAreToldByMagnitudes : Type 0
MultiplesAreToldByMagnitudes =
    (inputs : List Input) (o : BinOp) (w : Operand) (x c : ℕ) (env : List ℕ)
    → IsTrue (is_equality o) → IsWord x → IsWord c → c ≢ 0
    → operand_value inputs w env ≡ Is (magnitude_of x)
    → test_value inputs (multiple_test o w (magnitude_of c)) env
    ≡ Is (comparison_truth o (remainder_of x c) 0)

abbrev pub MultiplesAreToldByWords : Type 0
MultiplesAreToldByWords =
    (inputs : List Input) (o : BinOp) (w : Operand) (x c : ℕ) (env : List ℕ)
    → IsTrue (is_equality o) → IsWord x → IsWord c → c ≢ 0
    → IsTrue (divides_modulus (magnitude_of c)) → operand_value inputs w env ≡ Is x
    → test_value inputs (multiple_test o w (magnitude_of c)) env
    ≡ Is (comparison_truth o (remainder_of x c) 0)

abbrev pub MagnitudesHaveLeavesOfTheirOperand : Type 0
MagnitudesHaveLeavesOfTheirOperand =
    (passes : Operand → Bool) (w : Operand) (v : ℕ)
    → ((c : ℕ) → IsWord c → IsTrue (passes (Const c))) → IsTrue (passes (Var v))
    → IsTrue (operand_leaves passes w) → IsTrue (block_leaves passes (magnitude_block w v))

abbrev pub MultiplesHaveLeavesOfTheirOperand : Type 0
MultiplesHaveLeavesOfTheirOperand =
    (passes : Operand → Bool) (o : BinOp) (w : Operand) (c : ℕ)
    → ((c : ℕ) → IsWord c → IsTrue (passes (Const c))) → IsWord c
    → IsTrue (operand_leaves passes w)
    → IsTrue (test_leaves passes (multiple_test o w (magnitude_of c)))

abbrev pub MagnitudesHaveFewStatements : Type 0
MagnitudesHaveFewStatements =
    (w : Operand) (v : ℕ) → block_count (magnitude_block w v) ≤ 3

abbrev pub MagnitudesHaveNoLoops : Type 0
MagnitudesHaveNoLoops =
    (w : Operand) (v : ℕ) → block_loops (magnitude_block w v) ≡ 0
