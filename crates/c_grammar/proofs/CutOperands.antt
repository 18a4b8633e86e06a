-- The texts of operands and tests are cut into their tokens.
use Rattle.std.proofs.Common.{ℕ, ◌^◌, List, ◌++◌, refl, append_assoc, codes}
use Rattle.std.specs.Prelude.{IsTrue}
use Rattle.std.proofs.lemmas.Bool.{ltb-true}
use Rattle.strm_num.proofs.Truths.{both_true}
use Rattle.loop_ir.specs.declared.syntax.WOp.{WOp}
use Rattle.loop_ir.specs.declared.syntax.WOp.TheVariants as op
use Rattle.loop_ir.specs.Statements.{Operand, Const, Var, Len, Int, Bin, Test, Less, Same, Both, Either, Not}
use Rattle.loop_ir.specs.Leaves.{operand_leaves, test_leaves}
use Rattle.loop_ir.specs.Layout.{operator_text, operand_text, test_text}
use Rattle.c_tokens.specs.declared.symbol.Symbol.TheVariants as sym
use Rattle.c_tokens.specs.Pieces.{What}
use Rattle.c_grammar.specs.Grammar.{Then, Sign, sign_of, IsOperand, IsTest}
use Rattle.c_grammar.proofs.Cuttings.{Cuts, IsCut, Stops, ended, space, phrase, name, constant, open_paren, close_paren, bang, equal_equal, and_and, bar_bar, less, spaced}
use Rattle.c_grammar.proofs.SmallLeaves.{is_small_leaf}

operator_cut : {holds : List What → Type 0} {rest : List ℕ} (o : WOp) → IsCut holds rest → IsCut (Sign (sign_of o) holds) (operator_text o ++ rest)
operator_cut op.Add h = space (spaced sym.Plus 43 refl (space h))
operator_cut op.Sub h = space (spaced sym.Minus 45 refl (space h))
operator_cut op.Mul h = space (spaced sym.Star 42 refl (space h))
operator_cut op.Div h = space (spaced sym.Slash 47 refl (space h))
operator_cut op.Rem h = space (spaced sym.Percent 37 refl (space h))
operator_cut op.Xor h = space (spaced sym.Caret 94 refl (space h))

operator_stops : (o : WOp) (rest : List ℕ) → Stops (operator_text o ++ rest)
operator_stops op.Add rest = refl
operator_stops op.Sub rest = refl
operator_stops op.Mul rest = refl
operator_stops op.Div rest = refl
operator_stops op.Rem rest = refl
operator_stops op.Xor rest = refl

operand_cut : (w : Operand) → IsTrue (operand_leaves is_small_leaf w) → (rest : List ℕ) → Stops rest → (r : List What) → Cuts rest r → IsCut (λ x. IsOperand w x r) (operand_text w ++ rest)
operand_cut (Const n) small rest stops r h = simp append_assoc (constant n (ltb-true n (2 ^ 64) small) stops (ended h))
operand_cut (Var k) small rest stops r h = name (codes "v") k refl (ltb-true k (2 ^ 32) small) stops (ended h)
operand_cut (Len k) small rest stops r h = name (codes "n") k refl (ltb-true k (2 ^ 32) small) stops (ended h)
operand_cut (Int k) small rest stops r h = name (codes "i") k refl (ltb-true k (2 ^ 32) small) stops (ended h)
operand_cut (Bin o a b) small rest stops r h =
    let parts = both_true (operand_leaves is_small_leaf a) (operand_leaves is_small_leaf b) small in
    simp append_assoc
    (open_paren (phrase (operand_cut a parts.0 _ (operator_stops o _)) (operator_cut o (phrase (operand_cut b parts.1 _ refl) (close_paren (ended h))))))

-- an operand, and then something holds of the rest
pub operand : {holds : List What → Type 0} {rest : List ℕ} (w : Operand) → IsTrue (operand_leaves is_small_leaf w) → Stops rest → IsCut holds rest → IsCut (Then (IsOperand w) holds) (operand_text w ++ rest)
operand {rest = rest} w small stops = phrase (operand_cut w small rest stops)

test_cut : (t : Test) → IsTrue (test_leaves is_small_leaf t) → (rest : List ℕ) → (r : List What) → Cuts rest r → IsCut (λ x. IsTest t x r) (test_text t ++ rest)
test_cut (Less a b) small rest r h =
    let parts = both_true (operand_leaves is_small_leaf a) (operand_leaves is_small_leaf b) small in
    simp append_assoc (open_paren (operand a parts.0 refl (space (less (space (operand b parts.1 refl (close_paren (ended h))))))))
test_cut (Same a b) small rest r h =
    let parts = both_true (operand_leaves is_small_leaf a) (operand_leaves is_small_leaf b) small in
    simp append_assoc (open_paren (operand a parts.0 refl (space (equal_equal (space (operand b parts.1 refl (close_paren (ended h))))))))
test_cut (Both a b) small rest r h =
    let parts = both_true (test_leaves is_small_leaf a) (test_leaves is_small_leaf b) small in
    simp append_assoc (open_paren (phrase (test_cut a parts.0 _) (space (and_and (space (phrase (test_cut b parts.1 _) (close_paren (ended h))))))))
test_cut (Either a b) small rest r h =
    let parts = both_true (test_leaves is_small_leaf a) (test_leaves is_small_leaf b) small in
    simp append_assoc (open_paren (phrase (test_cut a parts.0 _) (space (bar_bar (space (phrase (test_cut b parts.1 _) (close_paren (ended h))))))))
test_cut (Not a) small rest r h = simp append_assoc (open_paren (bang (phrase (test_cut a small _) (close_paren (ended h)))))

-- a test, and then something holds of the rest
pub test : {holds : List What → Type 0} {rest : List ℕ} (t : Test) → IsTrue (test_leaves is_small_leaf t) → IsCut holds rest → IsCut (Then (IsTest t) holds) (test_text t ++ rest)
test {rest = rest} t small = phrase (test_cut t small rest)
