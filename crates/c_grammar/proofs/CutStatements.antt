-- The texts of statements are cut into their tokens.
use Rattle.std.proofs.Common.{◌≡◌, ℕ, ◌^◌, List, ◌++◌, ◌&&◌, refl, sym, subst, append_assoc, codes}
use Rattle.std.specs.Prelude.{IsTrue}
use Rattle.std.proofs.lemmas.Bool.{ltb-true}
use Rattle.strm_num.proofs.Truths.{both_true}
use Rattle.loop_ir.specs.declared.syntax.Verdict.{Verdict}
use Rattle.loop_ir.specs.declared.syntax.Verdict.TheVariants as verdict
use Rattle.loop_ir.specs.Statements.{Var, Len, Test, Statement, Set, Read, If, Loop, Emit, EndRow, Ret, Block, Nil, Cons}
use Rattle.loop_ir.specs.Leaves.{operand_leaves, test_leaves, statement_leaves, block_leaves}
use Rattle.loop_ir.specs.Layout.{indent, deeper, return_text, guard_text, statement_text, block_text}
use Rattle.c_tokens.specs.Pieces.{What}
use Rattle.c_grammar.specs.Grammar.{Then, IsReturn, IsLoopTest, IsStatement, IsBlock}
use Rattle.c_grammar.proofs.Cuttings.{Cuts, IsCut, ended, space, line, indented, phrase, key, name, bare_zero, bare_one, open_paren, close_paren, open_brace, close_brace, open_bracket, close_bracket, semicolon, equal}
use Rattle.c_grammar.proofs.SmallLeaves.{is_small_leaf}
use Rattle.c_grammar.proofs.CutOperands.{operand, test}

pub return_cut : (v : Verdict) (rest : List ℕ) (r : List What) → Cuts rest r → IsCut (λ x. IsReturn v x r) (return_text v ++ rest)
return_cut verdict.Done rest r h = key (codes "return") refl refl (space (bare_zero refl (semicolon (line (ended h)))))
return_cut verdict.Trap rest r h = key (codes "return") refl refl (space (bare_one refl (semicolon (line (ended h)))))

loop_test_cut : (t : Test) → IsTrue (test_leaves is_small_leaf t) → (rest : List ℕ) (r : List What) → Cuts rest r → IsCut (λ x. IsLoopTest t x r) (guard_text t ++ rest)
loop_test_cut t small rest r h =
    let left = key (codes "break") refl refl (semicolon (space (close_brace (line (ended h))))) in
    simp append_assoc
    (key (codes "if") refl refl (space (test t small (space (open_brace (space (close_brace (space (key (codes "else") refl refl (space (open_brace (space left))))))))))))

loop_guard : {holds : List What → Type 0} {rest : List ℕ} (t : Test) → IsTrue (test_leaves is_small_leaf t) → IsCut holds rest → IsCut (Then (IsLoopTest t) holds) (guard_text t ++ rest)
loop_guard {rest = rest} t small = phrase (loop_test_cut t small rest)

loop_joins : (front head deep guard body end rest : List ℕ) → (front ++ (head ++ deep ++ guard) ++ body ++ front ++ end) ++ rest ≡ front ++ (head ++ (deep ++ (guard ++ (body ++ (front ++ (end ++ rest))))))
loop_joins front head deep guard body end rest = simp append_assoc refl

mutual
  statement_cut : (s : Statement) → IsTrue (statement_leaves is_small_leaf s) → (blanks : ℕ) (rest : List ℕ) (r : List What) → Cuts rest r → IsCut (λ x. IsStatement s x r) (statement_text s blanks ++ rest)
  statement_cut (Set v w) small blanks rest r h =
      let parts = both_true (is_small_leaf (Var v)) (operand_leaves is_small_leaf w) small in
      simp append_assoc
      (indented blanks (name (codes "v") v refl (ltb-true v (2 ^ 32) parts.0) refl (space (equal (space (operand w parts.1 refl (semicolon (line (ended h)))))))))
  statement_cut (Read v a w) small blanks rest r h =
      let parts = both_true (is_small_leaf (Var v)) (is_small_leaf (Len a) && operand_leaves is_small_leaf w) small in
      let more = both_true (is_small_leaf (Len a)) (operand_leaves is_small_leaf w) parts.1 in
      simp append_assoc
      (indented blanks (name (codes "v") v refl (ltb-true v (2 ^ 32) parts.0) refl (space (equal (space
      (name (codes "a") a refl (ltb-true a (2 ^ 32) more.0) refl (open_bracket (operand w more.1 refl (close_bracket (semicolon (line (ended h))))))))))))
  statement_cut (If t a b) small blanks rest r h =
      let parts = both_true (test_leaves is_small_leaf t) (block_leaves is_small_leaf a && block_leaves is_small_leaf b) small in
      let blocks = both_true (block_leaves is_small_leaf a) (block_leaves is_small_leaf b) parts.1 in
      simp append_assoc
      (indented blanks (key (codes "if") refl refl (space (test t parts.0 (space (open_brace (line
      (phrase (block_cut a blocks.0 (deeper blanks) _) (indented blanks (close_brace (space (key (codes "else") refl refl (space (open_brace (line
      (phrase (block_cut b blocks.1 (deeper blanks) _) (indented blanks (close_brace (line (ended h))))))))))))))))))))
  statement_cut (Loop t body) small blanks rest r h =
      let parts = both_true (test_leaves is_small_leaf t) (block_leaves is_small_leaf body) small in
      let joins = loop_joins (indent blanks) (codes "while (1) {\n") (indent (deeper blanks)) (guard_text t) (block_text body (deeper blanks)) (codes "}\n") rest in
      subst (IsCut (λ x. IsStatement (Loop t body) x r)) (sym joins)
      (indented blanks (key (codes "while") refl refl (space (open_paren (bare_one refl (close_paren (space (open_brace (line (indented (deeper blanks)
      (loop_guard t parts.0 (phrase (block_cut body parts.1 (deeper blanks) _) (indented blanks (close_brace (line (ended h))))))))))))))))
  statement_cut (Emit w) small blanks rest r h =
      simp append_assoc (indented blanks (key (codes "EMIT") refl refl (open_paren (operand w small refl (close_paren (semicolon (line (ended h))))))))
  statement_cut EndRow small blanks rest r h =
      simp append_assoc (indented blanks (key (codes "ENDROW") refl refl (open_paren (close_paren (semicolon (line (ended h)))))))
  statement_cut (Ret v) small blanks rest r h = simp append_assoc (indented blanks (return_cut v rest r h))

  pub block_cut : (b : Block) → IsTrue (block_leaves is_small_leaf b) → (blanks : ℕ) (rest : List ℕ) (r : List What) → Cuts rest r → IsCut (λ x. IsBlock b x r) (block_text b blanks ++ rest)
  block_cut Nil small blanks rest r h = ended h
  block_cut (Cons s ss) small blanks rest r h =
      let parts = both_true (statement_leaves is_small_leaf s) (block_leaves is_small_leaf ss) small in
      simp append_assoc (phrase (statement_cut s parts.0 blanks _) (block_cut ss parts.1 blanks rest r h))
