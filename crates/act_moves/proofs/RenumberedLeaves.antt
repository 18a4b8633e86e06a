-- Tests of the leaves of expressions and acts whose words have other numbers.
use Rattle.std.proofs.Common.{◌≡◌, ℕ, suc, List, [], ◌∷◌, ◌++◌, length, Bool, ◌&&◌, refl, ap}
use Rattle.std.specs.Prelude.{IsTrue}
use Rattle.std.specs.List.{list_all}
use Rattle.strm_num.proofs.Truths.{both_true, true_both}
use Rattle.list_denotation.specs.InputNames.{InputNames, is_named_leaf}
use Rattle.list_denotation.specs.Leaves.{all_leaves}
use Rattle.list_denotation.specs.Literals.{is_word_leaf}
use Rattle.list_denotation.specs.Terms.{Term, Lit, Truth, Var, Param, Len, Neg, Not, Bin, And, Or, If}
use Rattle.list_denotation.specs.Typing.{is_undivided, all_undivided}
use Rattle.stateful_core.specs.CoreTerms.{Action, Let, Read, KeepIf, StopUnless, Update, When, Actions, Nil, Cons, join}
use Rattle.stateful_core.specs.CoreLeaves.{row_leaves, action_leaves, actions_leaves}
use Rattle.stateful_core.specs.StreamCores.{let_all}
use Rattle.act_moves.specs.Renumbering.{renumber, renumber_row, move_action, move_actions}

-- ---- rows

pub length_renumbered : (f : ℕ → ℕ) (es : List Term) → length (renumber_row f es) ≡ length es
length_renumbered f [] = refl
length_renumbered f (e ∷ es) = ap suc (length_renumbered f es)

pub all_append : {A : Type 0} (test : A → Bool) (xs ys : List A) → IsTrue (list_all test xs) → IsTrue (list_all test ys) → IsTrue (list_all test (xs ++ ys))
all_append test [] ys h k = k
all_append test (x ∷ xs) ys h k =
    let p = both_true (test x) (list_all test xs) h in true_both (test x) (list_all test (xs ++ ys)) p.0 (all_append test xs ys p.1 k)

-- ---- leaves

-- where each leaf that passes one test passes another with its new number, so does each expression
module _ (f : ℕ → ℕ) (test other : Term → Bool) (each : (e : Term) → IsTrue (test e) → IsTrue (other (renumber f e))) where
  pub leaves_renumbered : (e : Term) → IsTrue (all_leaves test e) → IsTrue (all_leaves other (renumber f e))
  leaves_renumbered (Lit w) h = each (Lit w) h
  leaves_renumbered (Truth b) h = each (Truth b) h
  leaves_renumbered (Var k) h = each (Var k) h
  leaves_renumbered (Param k) h = each (Param k) h
  leaves_renumbered (Len k) h = each (Len k) h
  leaves_renumbered (Neg a) h = leaves_renumbered a h
  leaves_renumbered (Not a) h = leaves_renumbered a h
  leaves_renumbered (Bin op a b) h =
      let p = both_true (all_leaves test a) (all_leaves test b) h in true_both (all_leaves other (renumber f a)) (all_leaves other (renumber f b)) (leaves_renumbered a p.0) (leaves_renumbered b p.1)
  leaves_renumbered (And a b) h =
      let p = both_true (all_leaves test a) (all_leaves test b) h in true_both (all_leaves other (renumber f a)) (all_leaves other (renumber f b)) (leaves_renumbered a p.0) (leaves_renumbered b p.1)
  leaves_renumbered (Or a b) h =
      let p = both_true (all_leaves test a) (all_leaves test b) h in true_both (all_leaves other (renumber f a)) (all_leaves other (renumber f b)) (leaves_renumbered a p.0) (leaves_renumbered b p.1)
  leaves_renumbered (If c a b) h =
      let p = both_true (all_leaves test c) (all_leaves test a && all_leaves test b) h in
      let q = both_true (all_leaves test a) (all_leaves test b) p.1 in
      true_both (all_leaves other (renumber f c)) (all_leaves other (renumber f a) && all_leaves other (renumber f b)) (leaves_renumbered c p.0)
      (true_both (all_leaves other (renumber f a)) (all_leaves other (renumber f b)) (leaves_renumbered a q.0) (leaves_renumbered b q.1))

  pub row_renumbered : (es : List Term) → IsTrue (list_all (all_leaves test) es) → IsTrue (list_all (all_leaves other) (renumber_row f es))
  row_renumbered [] h = refl
  row_renumbered (e ∷ es) h =
      let p = both_true (all_leaves test e) (list_all (all_leaves test) es) h in
      true_both (all_leaves other (renumber f e)) (list_all (all_leaves other) (renumber_row f es)) (leaves_renumbered e p.0) (row_renumbered es p.1)

-- ---- divisions

module _ (f : ℕ → ℕ) where
  pub undivided_renumbered : (e : Term) → is_undivided (renumber f e) ≡ is_undivided e
  undivided_renumbered (Lit w) = refl
  undivided_renumbered (Truth b) = refl
  undivided_renumbered (Var k) = refl
  undivided_renumbered (Param k) = refl
  undivided_renumbered (Len k) = refl
  undivided_renumbered (Neg a) = undivided_renumbered a
  undivided_renumbered (Not a) = undivided_renumbered a
  undivided_renumbered (Bin op a b) = rw (undivided_renumbered a, undivided_renumbered b) refl
  undivided_renumbered (And a b) = rw (undivided_renumbered a, undivided_renumbered b) refl
  undivided_renumbered (Or a b) = rw (undivided_renumbered a, undivided_renumbered b) refl
  undivided_renumbered (If c a b) = rw (undivided_renumbered c, undivided_renumbered a, undivided_renumbered b) refl

  pub all_undivided_renumbered : (es : List Term) → all_undivided (renumber_row f es) ≡ all_undivided es
  all_undivided_renumbered [] = refl
  all_undivided_renumbered (e ∷ es) = rw (undivided_renumbered e, all_undivided_renumbered es) refl

-- ---- acts whose leaves pass a test still, whatever the numbers of their words

module _ (test : Term → Bool) (each : (f : ℕ → ℕ) (e : Term) → IsTrue (test e) → IsTrue (test (renumber f e))) where
  pub leaves_join : (a b : Actions) → IsTrue (actions_leaves test a) → IsTrue (actions_leaves test b) → IsTrue (actions_leaves test (join a b))
  leaves_join Nil b h k = k
  leaves_join (Cons x a) b h k =
      let p = both_true (action_leaves test x) (actions_leaves test a) h in true_both (action_leaves test x) (actions_leaves test (join a b)) p.0 (leaves_join a b p.1 k)

  pub leaves_lets : (es : List Term) (more : Actions) → IsTrue (row_leaves test es) → IsTrue (actions_leaves test more) → IsTrue (actions_leaves test (let_all es more))
  leaves_lets [] more h k = k
  leaves_lets (e ∷ es) more h k =
      let p = both_true (all_leaves test e) (row_leaves test es) h in true_both (all_leaves test e) (actions_leaves test (let_all es more)) p.0 (leaves_lets es more p.1 k)

  module _ (f : ℕ → ℕ) (k : ℕ) (halt : Term → Action) (halts : (e : Term) → IsTrue (all_leaves test e) → IsTrue (action_leaves test (halt e))) where
    mutual
      act_leaves_moved : (a : Action) → IsTrue (action_leaves test a) → IsTrue (action_leaves test (move_action f k halt a))
      act_leaves_moved (Let e) h = leaves_renumbered f test test (each f) e h
      act_leaves_moved (Read i e) h =
          let p = both_true (test (Len i)) (all_leaves test e) h in true_both (test (Len i)) (all_leaves test (renumber f e)) p.0 (leaves_renumbered f test test (each f) e p.1)
      act_leaves_moved (KeepIf e) h = leaves_renumbered f test test (each f) e h
      act_leaves_moved (StopUnless e) h = halts (renumber f e) (leaves_renumbered f test test (each f) e h)
      act_leaves_moved (Update i es) h = row_renumbered f test test (each f) es h
      act_leaves_moved (When e a b) h =
          let p = both_true (all_leaves test e) (actions_leaves test a && actions_leaves test b) h in
          let q = both_true (actions_leaves test a) (actions_leaves test b) p.1 in
          true_both (all_leaves test (renumber f e)) _ (leaves_renumbered f test test (each f) e p.0)
          (true_both (actions_leaves test (move_actions f k halt a)) (actions_leaves test (move_actions f k halt b)) (leaves_moved a q.0) (leaves_moved b q.1))

      pub leaves_moved : (acts : Actions) → IsTrue (actions_leaves test acts) → IsTrue (actions_leaves test (move_actions f k halt acts))
      leaves_moved Nil h = refl
      leaves_moved (Cons a acts) h =
          let p = both_true (action_leaves test a) (actions_leaves test acts) h in
          true_both (action_leaves test (move_action f k halt a)) (actions_leaves test (move_actions f k halt acts)) (act_leaves_moved a p.0) (leaves_moved acts p.1)

-- ---- names and numbers

pub named_renumbered : (may : InputNames) (f : ℕ → ℕ) (e : Term) → IsTrue (is_named_leaf may e) → IsTrue (is_named_leaf may (renumber f e))
named_renumbered may f (Param k) h = h
named_renumbered may f (Len k) h = h
named_renumbered may f _ h = refl

pub word_renumbered : (f : ℕ → ℕ) (e : Term) → IsTrue (is_word_leaf e) → IsTrue (is_word_leaf (renumber f e))
word_renumbered f (Lit w) h = h
word_renumbered f _ h = refl
