-- What the statements that are left name and which constants they have.
use Rattle.std.proofs.Common.{◌≡◌, ℕ, ◌<◌, Bool, true, false, List, length, get_or, set, refl, sym, ap, ◌∙◌, subst, ltb-true}
use Rattle.std.specs.Prelude.{◌&&◌, ◌==◌, if◌then◌else◌, IsTrue}
use Rattle.std.proofs.lemmas.Bool.{lt-ltb}
use Rattle.std.proofs.lemmas.List.{get_or-set_same, set-get_or}
use Rattle.strm_num.proofs.Truths.{both_true, true_both}
use Rattle.list_denotation.specs.declared.input.InputKind.{InputKind}
use Rattle.loop_ir.specs.Constants.{is_word_leaf, block_has_words}
use Rattle.loop_ir.specs.Counts.{block_loops}
use Rattle.loop_ir.specs.DeclaredNames.{is_named_leaf, declared_names, block_names}
use Rattle.loop_ir.specs.Leaves.{operand_leaves, test_leaves, statement_leaves, block_leaves}
use Rattle.loop_ir.specs.Statements.{Operand, Const, Var, Len, Int, Bin, Test, Less, Same, Both, Either, Not, Statement, Set, Read, If, Loop, Emit, EndRow, Ret, Block, Nil, Cons}
use Rattle.loop_ir.proofs.JoinedBlocks.{leaves_joined}
use Rattle.dead_code.specs.Ends.{statement_ends, behind, reached_statement, reached}
use Rattle.dead_code.specs.FirstZeros.{is_first_zero, marks_behind, unless_dropped, without_first_zeros}
use Rattle.dead_code.specs.Live.{marked_count, ranks, number_in, renumbered, renumbered_test, is_nil, only_if, choice, live_statement, live}
use Rattle.dead_code.specs.Needs.{is_marked, with_mark, with_operand, with_test, needs_of, needs_of_block}
use Rattle.dead_code.proofs.ClosedMarks.{both_operands, both_tests, loop_parts, cons_parts, choice_parts, set_parts}
use Rattle.dead_code.proofs.KeptVariables.{ranked, rank_below}
use Rattle.dead_code.proofs.LiveRuns.{not_idle}

-- ---- what is dropped takes no leaf from what stays

module _ (test : Operand → Bool) where
  behind_leaves : (ends : Bool) (b : Block) → IsTrue (block_leaves test b) → IsTrue (block_leaves test (behind ends b))
  behind_leaves ends b h = by_test (ends && (block_loops b == 0))
    where
      by_test : (dropped : Bool) → IsTrue (block_leaves test (if dropped then Nil else b))
      by_test true = refl
      by_test false = h

  mutual
    one_reached_leaves : (s : Statement) → IsTrue (statement_leaves test s) → IsTrue (statement_leaves test (reached_statement s))
    one_reached_leaves (Set v w) h = h
    one_reached_leaves (Read v a w) h = h
    one_reached_leaves (If t a b) h =
        let parts = both_true (test_leaves test t) (block_leaves test a && block_leaves test b) h in
        let branches = both_true (block_leaves test a) (block_leaves test b) parts.1 in
        true_both (test_leaves test t) (block_leaves test (reached a) && block_leaves test (reached b)) parts.0
        (true_both (block_leaves test (reached a)) (block_leaves test (reached b)) (reached_leaves a branches.0) (reached_leaves b branches.1))
    one_reached_leaves (Loop t body) h =
        let parts = both_true (test_leaves test t) (block_leaves test body) h in
        true_both (test_leaves test t) (block_leaves test (reached body)) parts.0 (reached_leaves body parts.1)
    one_reached_leaves (Emit w) h = h
    one_reached_leaves EndRow h = h
    one_reached_leaves (Ret v) h = h

    pub reached_leaves : (b : Block) → IsTrue (block_leaves test b) → IsTrue (block_leaves test (reached b))
    reached_leaves Nil h = h
    reached_leaves (Cons s ss) h =
        let parts = both_true (statement_leaves test s) (block_leaves test ss) h in
        true_both (statement_leaves test (reached_statement s)) (block_leaves test (behind (statement_ends s) (reached ss))) (one_reached_leaves s parts.0)
        (behind_leaves (statement_ends s) (reached ss) (reached_leaves ss parts.1))

  dropped_leaves : (dropped : Bool) (s : Statement) (ss : Block) → IsTrue (statement_leaves test s) → IsTrue (block_leaves test ss) → IsTrue (block_leaves test (unless_dropped dropped s ss))
  dropped_leaves true s ss h k = k
  dropped_leaves false s ss h k = true_both (statement_leaves test s) (block_leaves test ss) h k

  pub first_leaves : (m : List Bool) (b : Block) → IsTrue (block_leaves test b) → IsTrue (block_leaves test (without_first_zeros m b))
  first_leaves m Nil h = h
  first_leaves m (Cons s ss) h =
      let parts = both_true (statement_leaves test s) (block_leaves test ss) h in
      dropped_leaves (is_first_zero m s) s _ parts.0 (first_leaves (marks_behind (is_first_zero m s) s m) ss parts.1)

-- ---- leaves over the kept variables

-- where a leaf of the statements passes the first test, so does what becomes of it the second one
record CarriesOver (m : List Bool) (old new : Operand → Bool) : Type 0 where
  constants : (n : ℕ) → IsTrue (old (Const n)) → IsTrue (new (Const n))
  lengths : (a : ℕ) → IsTrue (old (Len a)) → IsTrue (new (Len a))
  ints : (k : ℕ) → IsTrue (old (Int k)) → IsTrue (new (Int k))
  variables : (v : ℕ) → with_mark v m ≡ m → IsTrue (old (Var v)) → IsTrue (new (Var (number_in (ranks m) v)))

is_mark : (m : List Bool) (v : ℕ) → is_marked m v ≡ true → with_mark v m ≡ m
is_mark m v is = ap (set m v) (sym is) ∙ set-get_or m v false

module _ (m : List Bool) (old new : Operand → Bool) (carries : CarriesOver m old new) where
  operand_over : (w : Operand) → with_operand w m ≡ m → IsTrue (operand_leaves old w) → IsTrue (operand_leaves new (renumbered (ranks m) w))
  operand_over (Const n) h k = carries.constants n k
  operand_over (Var v) h k = carries.variables v h k
  operand_over (Len a) h k = carries.lengths a k
  operand_over (Int i) h k = carries.ints i k
  operand_over (Bin op a b) h k =
      let parts = both_operands a b m h in
      let leaves = both_true (operand_leaves old a) (operand_leaves old b) k in
      true_both (operand_leaves new (renumbered (ranks m) a)) (operand_leaves new (renumbered (ranks m) b)) (operand_over a parts.0 leaves.0) (operand_over b parts.1 leaves.1)

  operands_over : (a b : Operand) → with_operand b (with_operand a m) ≡ m → IsTrue (operand_leaves old a && operand_leaves old b) → IsTrue (operand_leaves new (renumbered (ranks m) a) && operand_leaves new (renumbered (ranks m) b))
  operands_over a b h k =
      let parts = both_operands a b m h in
      let leaves = both_true (operand_leaves old a) (operand_leaves old b) k in
      true_both (operand_leaves new (renumbered (ranks m) a)) (operand_leaves new (renumbered (ranks m) b)) (operand_over a parts.0 leaves.0) (operand_over b parts.1 leaves.1)

  test_over : (t : Test) → with_test t m ≡ m → IsTrue (test_leaves old t) → IsTrue (test_leaves new (renumbered_test (ranks m) t))
  test_over (Less a b) h k = operands_over a b h k
  test_over (Same a b) h k = operands_over a b h k
  test_over (Both a b) h k =
      let parts = both_tests a b m h in
      let leaves = both_true (test_leaves old a) (test_leaves old b) k in
      true_both (test_leaves new (renumbered_test (ranks m) a)) (test_leaves new (renumbered_test (ranks m) b)) (test_over a parts.0 leaves.0) (test_over b parts.1 leaves.1)
  test_over (Either a b) h k =
      let parts = both_tests a b m h in
      let leaves = both_true (test_leaves old a) (test_leaves old b) k in
      true_both (test_leaves new (renumbered_test (ranks m) a)) (test_leaves new (renumbered_test (ranks m) b)) (test_over a parts.0 leaves.0) (test_over b parts.1 leaves.1)
  test_over (Not a) h k = test_over a h k

  -- a statement alone
  single_leaves : (s : Statement) → IsTrue (statement_leaves new s) → IsTrue (block_leaves new (Cons s Nil))
  single_leaves s h = true_both (statement_leaves new s) true h refl

  only_leaves : (b : Bool) (s : Statement) → (b ≡ true → IsTrue (statement_leaves new s)) → IsTrue (block_leaves new (only_if b s))
  only_leaves true s h = single_leaves s (h refl)
  only_leaves false s h = refl

  kept_choice_leaves : (t : Test) (a b : Block) → IsTrue (test_leaves new t) → IsTrue (block_leaves new a) → IsTrue (block_leaves new b) → IsTrue (block_leaves new (Cons (If t a b) Nil))
  kept_choice_leaves t a b h k l = single_leaves (If t a b) (true_both (test_leaves new t) (block_leaves new a && block_leaves new b) h (true_both (block_leaves new a) (block_leaves new b) k l))

  choice_leaves : (t : Test) (a b : Block) → (is_nil a && is_nil b ≡ false → IsTrue (test_leaves new t)) → IsTrue (block_leaves new a) → IsTrue (block_leaves new b) → IsTrue (block_leaves new (choice t a b))
  choice_leaves t Nil Nil h k l = refl
  choice_leaves t Nil (Cons s b) h k l = kept_choice_leaves t Nil (Cons s b) (h refl) k l
  choice_leaves t (Cons s a) b h k l = kept_choice_leaves t (Cons s a) b (h refl) k l

  mutual
    one_over : (s : Statement) → needs_of s m ≡ m → IsTrue (statement_leaves old s) → IsTrue (block_leaves new (live_statement m (ranks m) s))
    one_over (Set v w) h k =
        let leaves = both_true (old (Var v)) (operand_leaves old w) k in
        only_leaves (is_marked m v) _
        (λ is. true_both (new (Var (number_in (ranks m) v))) (operand_leaves new (renumbered (ranks m) w)) (carries.variables v (is_mark m v is) leaves.0) (operand_over w (set_parts v w m h is) leaves.1))
    one_over (Read v a w) h k =
        let leaves = both_true (old (Var v)) (old (Len a) && operand_leaves old w) k in
        let others = both_true (old (Len a)) (operand_leaves old w) leaves.1 in
        only_leaves (is_marked m v) _
        (λ is. true_both (new (Var (number_in (ranks m) v))) (new (Len a) && operand_leaves new (renumbered (ranks m) w)) (carries.variables v (is_mark m v is) leaves.0)
        (true_both (new (Len a)) (operand_leaves new (renumbered (ranks m) w)) (carries.lengths a others.0) (operand_over w (set_parts v w m h is) others.1)))
    one_over (If t a b) h k =
        let parts = choice_parts t a b m h in
        let leaves = both_true (test_leaves old t) (block_leaves old a && block_leaves old b) k in
        let branches = both_true (block_leaves old a) (block_leaves old b) leaves.1 in
        choice_leaves (renumbered_test (ranks m) t) (live m (ranks m) a) (live m (ranks m) b) (λ some. test_over t (parts.test (not_idle m a b some)) leaves.0)
        (live_over a parts.first branches.0) (live_over b parts.second branches.1)
    one_over (Loop t body) h k =
        let parts = loop_parts t body m h in
        let leaves = both_true (test_leaves old t) (block_leaves old body) k in
        single_leaves (Loop (renumbered_test (ranks m) t) (live m (ranks m) body))
        (true_both (test_leaves new (renumbered_test (ranks m) t)) (block_leaves new (live m (ranks m) body)) (test_over t parts.0 leaves.0) (live_over body parts.1 leaves.1))
    one_over (Emit w) h k = single_leaves (Emit (renumbered (ranks m) w)) (operand_over w h k)
    one_over EndRow h k = refl
    one_over (Ret v) h k = refl

    live_over : (b : Block) → needs_of_block b m ≡ m → IsTrue (block_leaves old b) → IsTrue (block_leaves new (live m (ranks m) b))
    live_over Nil h k = refl
    live_over (Cons s ss) h k =
        let parts = cons_parts s ss m h in
        let leaves = both_true (statement_leaves old s) (block_leaves old ss) k in
        leaves_joined new (live_statement m (ranks m) s) (live m (ranks m) ss) (one_over s parts.1 leaves.0) (live_over ss parts.0 leaves.1)

-- ---- declared names, and constants

declared_over : (params : List InputKind) (m : List Bool) → CarriesOver m (is_named_leaf (declared_names params (length m))) (is_named_leaf (declared_names params (marked_count m)))
declared_over params m = record {
  constants = λ n h. h;
  lengths = λ a h. h;
  ints = λ k h. h;
  variables = λ v closed h.
      let within : v < length m = ltb-true v (length m) h in
      let is : is_marked m v ≡ true = ap (λ n. get_or n v false) (sym closed) ∙ get_or-set_same m v true false within in
      lt-ltb (number_in (ranks m) v) (marked_count m) (subst (λ n. n < marked_count m) (sym (ranked m v within)) (rank_below m v is));
}

pub names_over : (params : List InputKind) (m : List Bool) (b : Block) → needs_of_block b m ≡ m → IsTrue (block_names (declared_names params (length m)) b) → IsTrue (block_names (declared_names params (marked_count m)) (live m (ranks m) b))
names_over params m b closed h = live_over m (is_named_leaf (declared_names params (length m))) (is_named_leaf (declared_names params (marked_count m))) (declared_over params m) b closed h

pub words_over : (m : List Bool) (b : Block) → needs_of_block b m ≡ m → IsTrue (block_has_words b) → IsTrue (block_has_words (live m (ranks m) b))
words_over m b closed h =
    live_over m is_word_leaf is_word_leaf (record { constants = λ n k. k; lengths = λ a k. k; ints = λ i k. k; variables = λ v c k. k }) b closed h
