-- What follows of the leaves of expressions and acts from tests that they pass.
use Rattle.std.proofs.Common.{◌≡◌, ℕ, List, [], ◌∷◌, Bool, ◌&&◌, refl, ap, ◌∙◌}
use Rattle.std.specs.Prelude.{IsTrue, slice_index}
use Rattle.strm_num.proofs.Truths.{both_true, true_both}
use Rattle.list_denotation.specs.declared.input.Input.{Input}
use Rattle.list_denotation.specs.Leaves.{all_leaves}
use Rattle.list_denotation.specs.Terms.{Term, Lit, Truth, Var, Param, Len, Neg, Not, Bin, And, Or, If}
use Rattle.list_denotation.specs.Values.{Is, value}
use Rattle.expr_lower.specs.Scopes.{EachLeaf}
use Rattle.stateful_core.specs.CoreLeaves.{row_leaves, action_leaves, actions_leaves}
use Rattle.stateful_core.specs.CoreTerms.{Action, Let, Read, KeepIf, StopUnless, Update, When, Actions, Nil, Cons}
use Rattle.stateful_core.specs.WordValues.{word_value, word_values, or_zero}

-- ---- from two tests

module _ (f g : Term → Bool) (P : Term → Type 0) (each : (x : Term) → IsTrue (f x) → IsTrue (g x) → P x) where
  pub each_leaf : (e : Term) → IsTrue (all_leaves f e) → IsTrue (all_leaves g e) → EachLeaf P e
  each_leaf (Lit c) p q = each (Lit c) p q
  each_leaf (Truth b) p q = each (Truth b) p q
  each_leaf (Var k) p q = each (Var k) p q
  each_leaf (Param k) p q = each (Param k) p q
  each_leaf (Len k) p q = each (Len k) p q
  each_leaf (Neg a) p q = each_leaf a p q
  each_leaf (Not a) p q = each_leaf a p q
  each_leaf (Bin o a b) p q =
      let m = both_true (all_leaves f a) (all_leaves f b) p in
      let n = both_true (all_leaves g a) (all_leaves g b) q in (each_leaf a m.0 n.0, each_leaf b m.1 n.1)
  each_leaf (And a b) p q =
      let m = both_true (all_leaves f a) (all_leaves f b) p in
      let n = both_true (all_leaves g a) (all_leaves g b) q in (each_leaf a m.0 n.0, each_leaf b m.1 n.1)
  each_leaf (Or a b) p q =
      let m = both_true (all_leaves f a) (all_leaves f b) p in
      let n = both_true (all_leaves g a) (all_leaves g b) q in (each_leaf a m.0 n.0, each_leaf b m.1 n.1)
  each_leaf (If c a b) p q =
      let m = both_true (all_leaves f c) (all_leaves f a && all_leaves f b) p in
      let n = both_true (all_leaves g c) (all_leaves g a && all_leaves g b) q in
      let k = both_true (all_leaves f a) (all_leaves f b) m.1 in
      let l = both_true (all_leaves g a) (all_leaves g b) n.1 in (each_leaf c m.0 n.0, (each_leaf a k.0 l.0, each_leaf b k.1 l.1))

pub leaves_tested : (test : Term → Bool) (e : Term) → EachLeaf (λ x. IsTrue (test x)) e → IsTrue (all_leaves test e)
leaves_tested test (Lit c) h = h
leaves_tested test (Truth b) h = h
leaves_tested test (Var k) h = h
leaves_tested test (Param k) h = h
leaves_tested test (Len k) h = h
leaves_tested test (Neg a) h = leaves_tested test a h
leaves_tested test (Not a) h = leaves_tested test a h
leaves_tested test (Bin o a b) h =
    true_both (all_leaves test a) (all_leaves test b) (leaves_tested test a h.0) (leaves_tested test b h.1)
leaves_tested test (And a b) h =
    true_both (all_leaves test a) (all_leaves test b) (leaves_tested test a h.0) (leaves_tested test b h.1)
leaves_tested test (Or a b) h =
    true_both (all_leaves test a) (all_leaves test b) (leaves_tested test a h.0) (leaves_tested test b h.1)
leaves_tested test (If c a b) h =
    true_both (all_leaves test c) (all_leaves test a && all_leaves test b) (leaves_tested test c h.0)
    (true_both (all_leaves test a) (all_leaves test b) (leaves_tested test a h.1.0) (leaves_tested test b h.1.1))

module _ (f g h : Term → Bool) (each : (x : Term) → IsTrue (f x) → IsTrue (g x) → IsTrue (h x)) where
  pub leaves_of_both : (e : Term) → IsTrue (all_leaves f e) → IsTrue (all_leaves g e) → IsTrue (all_leaves h e)
  leaves_of_both e p q = leaves_tested h e (each_leaf f g (λ x. IsTrue (h x)) each e p q)

  pub row_of_both : (es : List Term) → IsTrue (row_leaves f es) → IsTrue (row_leaves g es) → IsTrue (row_leaves h es)
  row_of_both [] p q = refl
  row_of_both (e ∷ es) p q =
      let m = both_true (all_leaves f e) (row_leaves f es) p in
      let n = both_true (all_leaves g e) (row_leaves g es) q in
      true_both (all_leaves h e) (row_leaves h es) (leaves_of_both e m.0 n.0) (row_of_both es m.1 n.1)

  mutual
    action_of_both : (a : Action) → IsTrue (action_leaves f a) → IsTrue (action_leaves g a) → IsTrue (action_leaves h a)
    action_of_both (Let e) p q = leaves_of_both e p q
    action_of_both (Read k e) p q =
        let m = both_true (f (Len k)) (all_leaves f e) p in
        let n = both_true (g (Len k)) (all_leaves g e) q in
        true_both (h (Len k)) (all_leaves h e) (each (Len k) m.0 n.0) (leaves_of_both e m.1 n.1)
    action_of_both (KeepIf e) p q = leaves_of_both e p q
    action_of_both (StopUnless e) p q = leaves_of_both e p q
    action_of_both (Update k es) p q = row_of_both es p q
    action_of_both (When e a b) p q =
        let m = both_true (all_leaves f e) (actions_leaves f a && actions_leaves f b) p in
        let n = both_true (all_leaves g e) (actions_leaves g a && actions_leaves g b) q in
        let k = both_true (actions_leaves f a) (actions_leaves f b) m.1 in
        let l = both_true (actions_leaves g a) (actions_leaves g b) n.1 in
        true_both (all_leaves h e) (actions_leaves h a && actions_leaves h b) (leaves_of_both e m.0 n.0)
        (true_both (actions_leaves h a) (actions_leaves h b) (acts_of_both a k.0 l.0) (acts_of_both b k.1 l.1))

    pub acts_of_both : (acts : Actions) → IsTrue (actions_leaves f acts) → IsTrue (actions_leaves g acts) → IsTrue (actions_leaves h acts)
    acts_of_both Nil p q = refl
    acts_of_both (Cons a acts) p q =
        let m = both_true (action_leaves f a) (actions_leaves f acts) p in
        let n = both_true (action_leaves g a) (actions_leaves g acts) q in
        true_both (action_leaves h a) (actions_leaves h acts) (action_of_both a m.0 n.0) (acts_of_both acts m.1 n.1)

-- ---- an expression doesn't see a change of words that it doesn't read

module _ (inputs : List Input) (test : Term → Bool) (a b : List ℕ) (same : (k : ℕ) → IsTrue (test (Var k)) → slice_index a k ≡ slice_index b k) where
  pub value_same : (e : Term) → IsTrue (all_leaves test e) → value e a inputs ≡ value e b inputs
  value_same (Lit c) h = refl
  value_same (Truth t) h = refl
  value_same (Var k) h = ap Is (same k h)
  value_same (Param k) h = refl
  value_same (Len k) h = refl
  value_same (Neg c) h = rw (value_same c h) refl
  value_same (Not c) h = rw (value_same c h) refl
  value_same (Bin o c d) h = let p = both_true (all_leaves test c) (all_leaves test d) h in rw (value_same c p.0, value_same d p.1) refl
  value_same (And c d) h = let p = both_true (all_leaves test c) (all_leaves test d) h in rw (value_same c p.0, value_same d p.1) refl
  value_same (Or c d) h = let p = both_true (all_leaves test c) (all_leaves test d) h in rw (value_same c p.0, value_same d p.1) refl
  value_same (If t c d) h =
      let p = both_true (all_leaves test t) (all_leaves test c && all_leaves test d) h in
      let q = both_true (all_leaves test c) (all_leaves test d) p.1 in rw (value_same t p.0, value_same c q.0, value_same d q.1) refl

  pub words_same : (es : List Term) → IsTrue (row_leaves test es) → word_values es a inputs ≡ word_values es b inputs
  words_same [] h = refl
  words_same (e ∷ es) h =
      let p = both_true (all_leaves test e) (row_leaves test es) h in
      ap (λ g. or_zero g ∷ word_values es a inputs) (value_same e p.0) ∙ ap (λ ws. word_value e b inputs ∷ ws) (words_same es p.1)
