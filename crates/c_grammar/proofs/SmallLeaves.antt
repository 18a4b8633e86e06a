-- In a well-formed program each constant is a word, and each name has a number of 32 bits.
use Rattle.std.proofs.Common.{ℕ, zero, suc, ◌^◌, ◌<◌, ◌≤◌, List, [], ◌∷◌, length, Bool, true, ◌&&◌, nat_lt, slice_get, refl, arith}
use Rattle.std.specs.Prelude.{IsTrue}
use Rattle.std.proofs.lemmas.Bool.{lt-ltb, ltb-true}
use Rattle.strm_num.proofs.Truths.{both_true, true_both}
use Rattle.list_denotation.specs.declared.input.InputKind.{InputKind}
use Rattle.list_denotation.specs.Typing.{is_array, is_int}
use Rattle.loop_ir.specs.Statements.{Operand, Const, Var, Len, Int, Bin, Test, Less, Same, Both, Either, Not, Statement, Set, Read, If, Loop, Emit, EndRow, Ret, Block, Nil, Cons, Routine}
use Rattle.loop_ir.specs.Leaves.{operand_leaves, test_leaves, statement_leaves, block_leaves}
use Rattle.loop_ir.specs.DeclaredNames.{is_named_leaf, declared_names}
use Rattle.loop_ir.specs.Constants.{is_word_leaf}
use Rattle.loop_ir.specs.WellFormed.{IsWellFormed}

abbrev pub is_small_leaf : Operand → Bool
is_small_leaf (Const n) = nat_lt n (2 ^ 64)
is_small_leaf (Var k) = nat_lt k (2 ^ 32)
is_small_leaf (Len k) = nat_lt k (2 ^ 32)
is_small_leaf (Int k) = nat_lt k (2 ^ 32)
is_small_leaf (Bin op a b) = true

joined : {a b c d e f : Bool} → (IsTrue a → IsTrue b → IsTrue c) → (IsTrue d → IsTrue e → IsTrue f) → IsTrue (a && d) → IsTrue (b && e) → IsTrue (c && f)
joined {a} {b} {c} {d} {e} {f} left right h k =
    let first = both_true a d h in
    let second = both_true b e k in
    true_both c f (left first.0 second.0) (right first.1 second.1)

-- what follows of each leaf from two tests follows of all
module _ (one two both : Operand → Bool) (follows : (w : Operand) → IsTrue (one w) → IsTrue (two w) → IsTrue (both w)) where
  operand_follows : (w : Operand) → IsTrue (operand_leaves one w) → IsTrue (operand_leaves two w) → IsTrue (operand_leaves both w)
  operand_follows (Const n) = follows (Const n)
  operand_follows (Var v) = follows (Var v)
  operand_follows (Len a) = follows (Len a)
  operand_follows (Int k) = follows (Int k)
  operand_follows (Bin op a b) = joined (operand_follows a) (operand_follows b)

  test_follows : (t : Test) → IsTrue (test_leaves one t) → IsTrue (test_leaves two t) → IsTrue (test_leaves both t)
  test_follows (Less a b) = joined (operand_follows a) (operand_follows b)
  test_follows (Same a b) = joined (operand_follows a) (operand_follows b)
  test_follows (Both a b) = joined (test_follows a) (test_follows b)
  test_follows (Either a b) = joined (test_follows a) (test_follows b)
  test_follows (Not a) = test_follows a

  mutual
    statement_follows : (s : Statement) → IsTrue (statement_leaves one s) → IsTrue (statement_leaves two s) → IsTrue (statement_leaves both s)
    statement_follows (Set v w) = joined (follows (Var v)) (operand_follows w)
    statement_follows (Read v a w) = joined (follows (Var v)) (joined (follows (Len a)) (operand_follows w))
    statement_follows (If t a b) = joined (test_follows t) (joined (block_follows a) (block_follows b))
    statement_follows (Loop t body) = joined (test_follows t) (block_follows body)
    statement_follows (Emit w) = operand_follows w
    statement_follows EndRow = λ h k. refl
    statement_follows (Ret v) = λ h k. refl

    block_follows : (b : Block) → IsTrue (block_leaves one b) → IsTrue (block_leaves two b) → IsTrue (block_leaves both b)
    block_follows Nil = λ h k. refl
    block_follows (Cons s ss) = joined (statement_follows s) (block_follows ss)

array_below : (params : List InputKind) (k : ℕ) → IsTrue (is_array (slice_get params k)) → k < length params
array_below [] k h = absurd cc
array_below (p ∷ ps) zero h = omega arith
array_below (p ∷ ps) (suc k) h = omega (arith, array_below ps k h)

int_below : (params : List InputKind) (k : ℕ) → IsTrue (is_int (slice_get params k)) → k < length params
int_below [] k h = absurd cc
int_below (p ∷ ps) zero h = omega arith
int_below (p ∷ ps) (suc k) h = omega (arith, int_below ps k h)

small_leaf : (params : List InputKind) (vars : ℕ) → length params ≤ 2 ^ 32 → vars ≤ 2 ^ 32 → (w : Operand) → IsTrue (is_named_leaf (declared_names params vars) w) → IsTrue (is_word_leaf w) → IsTrue (is_small_leaf w)
small_leaf params vars few fewer (Const n) h k = k
small_leaf params vars few fewer (Var v) h k =
    let below : v < vars = ltb-true v vars h in lt-ltb v (2 ^ 32) (omega arith)
small_leaf params vars few fewer (Len a) h k =
    let below : a < length params = array_below params a h in lt-ltb a (2 ^ 32) (omega arith)
small_leaf params vars few fewer (Int i) h k =
    let below : i < length params = int_below params i h in lt-ltb i (2 ^ 32) (omega arith)
small_leaf params vars few fewer (Bin op a b) h k = refl

pub leaves_are_small : (q : Routine) → IsWellFormed q → q.vars ≤ 2 ^ 32 → IsTrue (block_leaves is_small_leaf q.body)
leaves_are_small q formed fewer =
    block_follows (is_named_leaf (declared_names q.params q.vars)) is_word_leaf is_small_leaf
    (small_leaf q.params q.vars formed.few fewer) q.body formed.names formed.constants
