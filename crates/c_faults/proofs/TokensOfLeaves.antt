-- What a test says of the leaves of a program tells of each of its tokens, if it tells of each that is a
-- leaf, its parameters and variables pass, and the tokens that are no names hold it anyhow.
use Rattle.std.proofs.Common.{◌≡◌, ℕ, zero, suc, ◌+◌, ◌^◌, ◌<◌, ◌≤◌, List, [], ◌∷◌, ◌++◌, codes, decimal, get_or, slice_get, Bool, false, ◌&&◌, Some, All, refl, ap, ◌∙◌, arith}
use Rattle.std.specs.Prelude.{IsTrue}
use Rattle.std.proofs.lemmas.List.Elements.{All-nil, All-cons, All-same}
use Rattle.strm_num.proofs.Truths.{both_true}
use Rattle.list_denotation.specs.declared.input.InputKind.{InputKind}
use Rattle.list_denotation.specs.declared.input.InputKind.TheVariants as kind
use Rattle.loop_ir.specs.Statements.{Operand, Const, Var, Len, Int, Bin, Test, Less, Same, Both, Either, Not, Statement, Set, Read, If, Loop, Emit, EndRow, Ret, Block, Nil, Cons, Routine}
use Rattle.loop_ir.specs.Leaves.{operand_leaves, test_leaves, statement_leaves, block_leaves}
use Rattle.c_tokens.specs.Characters.{is_digit}
use Rattle.c_tokens.specs.Pieces as piece
use Rattle.c_tokens.specs.Pieces.{What, Word, Bare, Sym}
use Rattle.c_tokens.specs.declared.symbol.Symbol.{Symbol}
use Rattle.c_grammar.specs.Grammar.{Fixed, Then, Ends, Key, Sign, Named, verdict_number, IsOperand, IsTest, IsReturn, IsLoopTest, IsStatement, IsBlock, IsParam, AreMoreParams, AreParams, AreDeclarations, IsClosed, IsProgram}
use Rattle.loop_ir.specs.declared.syntax.Verdict.{Verdict}
use Rattle.loop_ir.specs.declared.syntax.Verdict.TheVariants as verdict

-- what the test says of a leaf tells of its token, and a token that is no name holds it anyhow: neither a
-- number nor a symbol is one, nor a word whose second character is no digit
pub record TellsTokens (holds : What → Type 0) (test : Operand → Bool) : Type 0 where
  pub variable : (k : ℕ) → k < 2 ^ 32 → IsTrue (test (Var k)) → holds (Word (codes "v" ++ decimal k))
  pub array : (k : ℕ) → k < 2 ^ 32 → IsTrue (test (Len k)) → holds (Word (codes "a" ++ decimal k))
  pub array_length : (k : ℕ) → k < 2 ^ 32 → IsTrue (test (Len k)) → holds (Word (codes "n" ++ decimal k))
  pub int : (k : ℕ) → k < 2 ^ 32 → IsTrue (test (Int k)) → holds (Word (codes "i" ++ decimal k))
  pub constant : (n : ℕ) → holds (piece.Const n)
  pub bare : (n : ℕ) → holds (Bare n)
  pub symbol : (s : Symbol) → holds (Sym s)
  pub keyword : (text : List ℕ) → is_digit (get_or text 1 0) ≡ false → holds (Word text)

-- the names of the parameters and of so many variables pass the test
pub record PassDeclared (params : List InputKind) (vars : ℕ) (test : Operand → Bool) : Type 0 where
  pub array : (k : ℕ) → slice_get params k ≡ Some kind.Array → IsTrue (test (Len k))
  pub int : (k : ℕ) → slice_get params k ≡ Some kind.Int → IsTrue (test (Int k))
  pub variable : (k : ℕ) → k < vars → IsTrue (test (Var k))

module _ (P : What → Type 0) (test : Operand → Bool) (tells : TellsTokens P test) where
  -- where this holds, P does of each token
  abbrev Gives : (List What → Type 0) → Type 0
  Gives holds = (x : List What) → holds x → All P x

  -- it holds of each token of the phrase, if it does of each behind it
  abbrev Joins : (List What → List What → Type 0) → Type 0
  Joins phrase = (r : List What) → All P r → Gives (λ x. phrase x r)

  -- ---- parts of phrases

  ended : {r : List What} → All P r → Gives (Ends r)
  ended {r} all x e = All-same P x r e all

  fixed : {what : What} {holds : List What → Type 0} → P what → Gives holds → Gives (Fixed what holds)
  fixed {what} first gives x f = All-same P x (what ∷ f.rest) f.is (All-cons P what f.rest first (gives f.rest f.goes_on))

  sign : {s : Symbol} {holds : List What → Type 0} → Gives holds → Gives (Sign s holds)
  sign {s} gives = fixed (tells.symbol s) gives

  key : {text : List ℕ} {holds : List What → Type 0} → is_digit (get_or text 1 0) ≡ false → Gives holds → Gives (Key text holds)
  key {text} no_name gives = fixed (tells.keyword text no_name) gives

  named : {letter : List ℕ} {k : ℕ} {holds : List What → Type 0} → (k < 2 ^ 32 → P (Word (letter ++ decimal k))) → Gives holds → Gives (Named letter k holds)
  named first gives x f = fixed (first f.small) gives x f.fixed

  phrase : {is_phrase : List What → List What → Type 0} {holds : List What → Type 0} → Joins is_phrase → Gives holds → Gives (Then is_phrase holds)
  phrase joins gives x f = joins f.rest (gives f.rest f.goes_on) x f.phrase_is

  -- ---- operands, tests and statements

  operand_joins : (w : Operand) → IsTrue (operand_leaves test w) → Joins (IsOperand w)
  operand_joins (Const n) pass r all = fixed (tells.constant n) (ended all)
  operand_joins (Var k) pass r all = named (λ small. tells.variable k small pass) (ended all)
  operand_joins (Len k) pass r all = named (λ small. tells.array_length k small pass) (ended all)
  operand_joins (Int k) pass r all = named (λ small. tells.int k small pass) (ended all)
  operand_joins (Bin op a b) pass r all =
      let parts = both_true (operand_leaves test a) (operand_leaves test b) pass in
      sign (phrase (operand_joins a parts.0) (sign (phrase (operand_joins b parts.1) (sign (ended all)))))

  test_joins : (t : Test) → IsTrue (test_leaves test t) → Joins (IsTest t)
  test_joins (Less a b) pass r all =
      let parts = both_true (operand_leaves test a) (operand_leaves test b) pass in
      sign (phrase (operand_joins a parts.0) (sign (phrase (operand_joins b parts.1) (sign (ended all)))))
  test_joins (Same a b) pass r all =
      let parts = both_true (operand_leaves test a) (operand_leaves test b) pass in
      sign (phrase (operand_joins a parts.0) (sign (phrase (operand_joins b parts.1) (sign (ended all)))))
  test_joins (Both a b) pass r all =
      let parts = both_true (test_leaves test a) (test_leaves test b) pass in
      sign (phrase (test_joins a parts.0) (sign (phrase (test_joins b parts.1) (sign (ended all)))))
  test_joins (Either a b) pass r all =
      let parts = both_true (test_leaves test a) (test_leaves test b) pass in
      sign (phrase (test_joins a parts.0) (sign (phrase (test_joins b parts.1) (sign (ended all)))))
  test_joins (Not a) pass r all = sign (sign (phrase (test_joins a pass) (sign (ended all))))

  loop_test_joins : (t : Test) → IsTrue (test_leaves test t) → Joins (IsLoopTest t)
  loop_test_joins t pass r all =
      key refl (phrase (test_joins t pass) (sign (sign (key refl (sign (key refl (sign (sign (ended all)))))))))

  return_joins : (v : Verdict) → Joins (IsReturn v)
  return_joins v r all = key refl (fixed (tells.bare (verdict_number v)) (sign (ended all)))

  mutual
    statement_joins : (s : Statement) → IsTrue (statement_leaves test s) → Joins (IsStatement s)
    statement_joins (Set v w) pass r all =
        let parts = both_true (test (Var v)) (operand_leaves test w) pass in
        named (λ small. tells.variable v small parts.0) (sign (phrase (operand_joins w parts.1) (sign (ended all))))
    statement_joins (Read v a w) pass r all =
        let parts = both_true (test (Var v)) (test (Len a) && operand_leaves test w) pass in
        let more = both_true (test (Len a)) (operand_leaves test w) parts.1 in
        named (λ small. tells.variable v small parts.0) (sign (named (λ small. tells.array a small more.0)
        (sign (phrase (operand_joins w more.1) (sign (sign (ended all)))))))
    statement_joins (If t a b) pass r all =
        let parts = both_true (test_leaves test t) (block_leaves test a && block_leaves test b) pass in
        let blocks = both_true (block_leaves test a) (block_leaves test b) parts.1 in
        key refl (phrase (test_joins t parts.0) (sign (phrase (block_joins a blocks.0) (sign (key refl (sign
        (phrase (block_joins b blocks.1) (sign (ended all)))))))))
    statement_joins (Loop t body) pass r all =
        let parts = both_true (test_leaves test t) (block_leaves test body) pass in
        key refl (sign (fixed (tells.bare 1) (sign (sign (phrase (loop_test_joins t parts.0) (phrase (block_joins body parts.1) (sign (ended all))))))))
    statement_joins (Emit w) pass r all = key refl (sign (phrase (operand_joins w pass) (sign (sign (ended all)))))
    statement_joins EndRow pass r all = key refl (sign (sign (sign (ended all))))
    statement_joins (Ret v) pass r all = return_joins v r all

    block_joins : (b : Block) → IsTrue (block_leaves test b) → Joins (IsBlock b)
    block_joins Nil pass r all = ended all
    block_joins (Cons s ss) pass r all =
        let parts = both_true (statement_leaves test s) (block_leaves test ss) pass in
        phrase (statement_joins s parts.0) (block_joins ss parts.1 r all)

  -- ---- what stands before the statements

  module _ (params : List InputKind) (vars : ℕ) (declared : PassDeclared params vars test) where
    param_joins : (k : ℕ) (p : InputKind) → slice_get params k ≡ Some p → Joins (IsParam k p)
    param_joins k kind.Array is r all =
        key refl (key refl (sign (named (λ small. tells.array k small (declared.array k is))
        (sign (key refl (named (λ small. tells.array_length k small (declared.array k is)) (ended all)))))))
    param_joins k kind.Int is r all = key refl (named (λ small. tells.int k small (declared.int k is)) (ended all))

    -- the parameters from number k on are these
    abbrev From : ℕ → List InputKind → Type 0
    From k ps = (j : ℕ) → slice_get params (k + j) ≡ slice_get ps j

    at_first : (k : ℕ) (p : InputKind) (ps : List InputKind) → From k (p ∷ ps) → slice_get params k ≡ Some p
    at_first k p ps from = let same : k ≡ k + 0 = omega arith in ap (slice_get params) same ∙ from zero

    from_next : (k : ℕ) (p : InputKind) (ps : List InputKind) → From k (p ∷ ps) → From (k + 1) ps
    from_next k p ps from j =
        let same : k + 1 + j ≡ k + suc j = omega arith in ap (slice_get params) same ∙ from (suc j)

    more_params_join : (ps : List InputKind) (k : ℕ) → From k ps → Joins (AreMoreParams k ps)
    more_params_join [] k from r all = ended all
    more_params_join (p ∷ ps) k from r all =
        sign (phrase (param_joins k p (at_first k p ps from)) (more_params_join ps (k + 1) (from_next k p ps from) r all))

    params_join : (ps : List InputKind) → From 0 ps → Joins (AreParams ps)
    params_join [] from r all = key refl (ended all)
    params_join (p ∷ ps) from r all =
        phrase (param_joins 0 p (at_first 0 p ps from)) (more_params_join ps 1 (from_next 0 p ps from) r all)

    declarations_join : (n k : ℕ) → k + n ≤ vars → Joins (AreDeclarations k n)
    declarations_join zero k few r all = ended all
    declarations_join (suc n) k few r all =
        let below : k < vars = omega arith in
        key refl (named (λ small. tells.variable k small (declared.variable k below)) (sign (fixed (tells.constant 0) (sign
        (declarations_join n (k + 1) (omega arith) r all)))))

  pub tokens_of_leaves : (q : Routine) → PassDeclared q.params q.vars test → (x : List What) → IsProgram q x → IsTrue (block_leaves test q.body) → All P x
  tokens_of_leaves q declared x f pass =
      let none : All P [] = All-nil P in
      let closed : Gives IsClosed = phrase (return_joins verdict.Done) (sign (ended none)) in
      let from : (j : ℕ) → slice_get q.params (0 + j) ≡ slice_get q.params j = λ j. let same : 0 + j ≡ j = omega arith in ap (slice_get q.params) same in
      let whole : Gives (IsProgram q) =
      key refl (key refl (sign (phrase (params_join q.params q.vars declared q.params from) (sign (sign
      (phrase (declarations_join q.params q.vars declared q.vars 0 (omega arith)) (phrase (block_joins q.body pass) closed))))))) in
      whole x f
