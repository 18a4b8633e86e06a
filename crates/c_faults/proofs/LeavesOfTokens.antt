-- What holds of each token of a program tells of its leaves, if it tells of each leaf that is a token.
use Rattle.std.proofs.Common.{◌≡◌, ℕ, zero, suc, ◌+◌, ◌^◌, ◌<◌, List, [], ◌∷◌, ◌++◌, codes, decimal, Bool, true, ◌&&◌, All, refl, sym}
use Rattle.std.specs.Prelude.{IsTrue}
use Rattle.std.proofs.lemmas.List.Elements.{All-head, All-tail, All-same}
use Rattle.strm_num.proofs.Truths.{true_both}
use Rattle.list_denotation.specs.declared.input.InputKind.{InputKind}
use Rattle.list_denotation.specs.declared.input.InputKind.TheVariants as kind
use Rattle.loop_ir.specs.Statements.{Operand, Const, Var, Len, Int, Bin, Test, Less, Same, Both, Either, Not, Statement, Set, Read, If, Loop, Emit, EndRow, Ret, Block, Nil, Cons, Routine}
use Rattle.loop_ir.specs.Leaves.{operand_leaves, test_leaves, statement_leaves, block_leaves}
use Rattle.c_tokens.specs.Pieces as piece
use Rattle.c_tokens.specs.Pieces.{What, Word}
use Rattle.c_grammar.specs.Grammar.{Fixed, Then, Ends, Named, IsOperand, IsTest, IsLoopTest, IsStatement, IsBlock, IsParam, AreMoreParams, AreParams, AreDeclarations, IsProgram}

-- what holds of a token tells of the leaf that it is
pub record TellsLeaves (holds : What → Type 0) (test : Operand → Bool) : Type 0 where
  pub constant : (n : ℕ) → holds (piece.Const n) → IsTrue (test (Const n))
  pub variable : (k : ℕ) → k < 2 ^ 32 → holds (Word (codes "v" ++ decimal k)) → IsTrue (test (Var k))
  pub array : (k : ℕ) → k < 2 ^ 32 → holds (Word (codes "a" ++ decimal k)) → IsTrue (test (Len k))
  pub array_length : (k : ℕ) → k < 2 ^ 32 → holds (Word (codes "n" ++ decimal k)) → IsTrue (test (Len k))
  pub int : (k : ℕ) → k < 2 ^ 32 → holds (Word (codes "i" ++ decimal k)) → IsTrue (test (Int k))

module _ (P : What → Type 0) (test : Operand → Bool) (tells : TellsLeaves P test) where
  -- from what holds of each token of these follows something
  abbrev Gives : (List What → Type 0) → Type 0 → Type 0
  Gives holds result = (x : List What) → holds x → All P x → result

  -- the leaves of a phrase pass the test, and each token behind it keeps what it had
  abbrev Passes : (List What → List What → Type 0) → Bool → Type 0
  Passes phrase leaves = (r : List What) → Gives (λ x. phrase x r) (IsTrue leaves × All P r)

  -- ---- parts of phrases

  ended : {r : List What} → Gives (Ends r) (All P r)
  ended {r} x e all = All-same P r x (sym e) all

  first : {what : What} {rest x : List What} → x ≡ what ∷ rest → All P x → P what
  first {what} {rest} {x} e all = All-head P what rest (All-same P (what ∷ rest) x (sym e) all)

  behind : {what : What} {rest x : List What} → x ≡ what ∷ rest → All P x → All P rest
  behind {what} {rest} {x} e all = All-tail P what rest (All-same P (what ∷ rest) x (sym e) all)

  fixed : {what : What} {holds : List What → Type 0} {result : Type 0} → Gives holds result → Gives (Fixed what holds) result
  fixed gives x f all = gives f.rest f.goes_on (behind f.is all)

  -- a name that is no leaf
  named : {letter : List ℕ} {k : ℕ} {holds : List What → Type 0} {result : Type 0} → Gives holds result → Gives (Named letter k holds) result
  named gives x f all = fixed gives x f.fixed all

  -- a name that is a leaf, and then others
  leaf : {letter : List ℕ} {k : ℕ} {holds : List What → Type 0} {a b : Bool} {R : Type 0} → (k < 2 ^ 32 → P (Word (letter ++ decimal k)) → IsTrue a) → Gives holds (IsTrue b × R) → Gives (Named letter k holds) (IsTrue (a && b) × R)
  leaf {a = a} {b = b} it gives x f all =
      let others = gives f.fixed.rest f.fixed.goes_on (behind f.fixed.is all) in
      (true_both a b (it f.small (first f.fixed.is all)) others.0, others.1)

  -- a name that is the only leaf
  last_leaf : {letter : List ℕ} {k : ℕ} {holds : List What → Type 0} {a : Bool} {R : Type 0} → (k < 2 ^ 32 → P (Word (letter ++ decimal k)) → IsTrue a) → Gives holds R → Gives (Named letter k holds) (IsTrue a × R)
  last_leaf it gives x f all = (it f.small (first f.fixed.is all), gives f.fixed.rest f.fixed.goes_on (behind f.fixed.is all))

  -- a phrase, and then others
  both : {phrase : List What → List What → Type 0} {holds : List What → Type 0} {a b : Bool} {R : Type 0} → Passes phrase a → Gives holds (IsTrue b × R) → Gives (Then phrase holds) (IsTrue (a && b) × R)
  both {a = a} {b = b} passes gives x f all =
      let it = passes f.rest x f.phrase_is all in
      let others = gives f.rest f.goes_on it.1 in
      (true_both a b it.0 others.0, others.1)

  -- a phrase behind which are no leaves
  last : {phrase : List What → List What → Type 0} {holds : List What → Type 0} {a : Bool} {R : Type 0} → Passes phrase a → Gives holds R → Gives (Then phrase holds) (IsTrue a × R)
  last passes gives x f all =
      let it = passes f.rest x f.phrase_is all in
      (it.0, gives f.rest f.goes_on it.1)

  -- a phrase without leaves
  passed : {phrase : List What → List What → Type 0} {holds : List What → Type 0} {R : Type 0} → ((r : List What) → Gives (λ x. phrase x r) (All P r)) → Gives holds R → Gives (Then phrase holds) R
  passed passes gives x f all = gives f.rest f.goes_on (passes f.rest x f.phrase_is all)

  no_leaves : {holds : List What → Type 0} {R : Type 0} → Gives holds R → Gives holds (IsTrue true × R)
  no_leaves gives x f all = (refl, gives x f all)

  -- ---- operands, tests and statements

  operand_passes : (w : Operand) → Passes (IsOperand w) (operand_leaves test w)
  operand_passes (Const n) r = λ x f all. (tells.constant n (first f.is all), ended f.rest f.goes_on (behind f.is all))
  operand_passes (Var k) r = last_leaf (tells.variable k) ended
  operand_passes (Len k) r = last_leaf (tells.array_length k) ended
  operand_passes (Int k) r = last_leaf (tells.int k) ended
  operand_passes (Bin op a b) r = fixed (both (operand_passes a) (fixed (last (operand_passes b) (fixed ended))))

  test_passes : (t : Test) → Passes (IsTest t) (test_leaves test t)
  test_passes (Less a b) r = fixed (both (operand_passes a) (fixed (last (operand_passes b) (fixed ended))))
  test_passes (Same a b) r = fixed (both (operand_passes a) (fixed (last (operand_passes b) (fixed ended))))
  test_passes (Both a b) r = fixed (both (test_passes a) (fixed (last (test_passes b) (fixed ended))))
  test_passes (Either a b) r = fixed (both (test_passes a) (fixed (last (test_passes b) (fixed ended))))
  test_passes (Not a) r = fixed (fixed (last (test_passes a) (fixed ended)))

  loop_test_passes : (t : Test) → Passes (IsLoopTest t) (test_leaves test t)
  loop_test_passes t r = fixed (last (test_passes t) (fixed (fixed (fixed (fixed (fixed (fixed (fixed ended))))))))

  mutual
    statement_passes : (s : Statement) → Passes (IsStatement s) (statement_leaves test s)
    statement_passes (Set v w) r = leaf (tells.variable v) (fixed (last (operand_passes w) (fixed ended)))
    statement_passes (Read v a w) r =
        leaf (tells.variable v) (fixed (leaf (tells.array a) (fixed (last (operand_passes w) (fixed (fixed ended))))))
    statement_passes (If t a b) r =
        fixed (both (test_passes t) (fixed (both (block_passes a) (fixed (fixed (fixed (last (block_passes b) (fixed ended))))))))
    statement_passes (Loop t body) r =
        fixed (fixed (fixed (fixed (fixed (both (loop_test_passes t) (last (block_passes body) (fixed ended)))))))
    statement_passes (Emit w) r = fixed (fixed (last (operand_passes w) (fixed (fixed ended))))
    statement_passes EndRow r = no_leaves (fixed (fixed (fixed (fixed ended))))
    statement_passes (Ret v) r = no_leaves (fixed (fixed (fixed ended)))

    block_passes : (b : Block) → Passes (IsBlock b) (block_leaves test b)
    block_passes Nil r = no_leaves ended
    block_passes (Cons s ss) r = both (statement_passes s) (block_passes ss r)

  -- ---- what stands before the statements

  param_keeps : (k : ℕ) (p : InputKind) (r : List What) → Gives (λ x. IsParam k p x r) (All P r)
  param_keeps k kind.Array r = fixed (fixed (fixed (named (fixed (fixed (named ended))))))
  param_keeps k kind.Int r = fixed (named ended)

  more_params_keep : (ps : List InputKind) (k : ℕ) (r : List What) → Gives (λ x. AreMoreParams k ps x r) (All P r)
  more_params_keep [] k r = ended
  more_params_keep (p ∷ ps) k r = fixed (passed (param_keeps k p) (more_params_keep ps (k + 1) r))

  params_keep : (ps : List InputKind) (r : List What) → Gives (λ x. AreParams ps x r) (All P r)
  params_keep [] r = fixed ended
  params_keep (p ∷ ps) r = passed (param_keeps 0 p) (more_params_keep ps 1 r)

  declarations_keep : (n k : ℕ) (r : List What) → Gives (λ x. AreDeclarations k n x r) (All P r)
  declarations_keep zero k r = ended
  declarations_keep (suc n) k r = fixed (named (fixed (fixed (fixed (declarations_keep n (k + 1) r)))))

  pub leaves_of_tokens : (q : Routine) (x : List What) → IsProgram q x → All P x → IsTrue (block_leaves test q.body)
  leaves_of_tokens q =
      fixed (fixed (fixed (passed (params_keep q.params) (fixed (fixed (passed (declarations_keep q.vars 0)
      (λ x f all. (block_passes q.body f.rest x f.phrase_is all).0)))))))
