-- What holds of each leaf of an expression.
use Rattle.std.proofs.Common.{ℕ, ◌<◌, ◌^◌, refl, Bool, ◌&&◌, List, length}
use Rattle.std.proofs.lemmas.Bool.{lt-ltb, ltb-true}
use Rattle.std.specs.Prelude.{IsTrue, slice_index}
use Rattle.strm_num.proofs.Truths.{both_true, true_both}
use Rattle.list_denotation.specs.declared.input.Input.{Input}
use Rattle.list_denotation.specs.Leaves.{all_leaves}
use Rattle.list_denotation.specs.Literals.{has_words, is_word_leaf}
use Rattle.list_denotation.specs.Scopes.{is_bound, is_bound_leaf}
use Rattle.list_denotation.specs.Terms.{Term, Lit, Truth, Var, Param, Len, Neg, Not, Bin, And, Or, If}
use Rattle.loop_ir.specs.DeclaredNames.{Names}
use Rattle.expr_lower.specs.Scopes.{EachLeaf, IsWordLeaf, IsBoundLeaf, IsLeafInPlace, WordsInPlace, ScopeInPlace, MayNameLeaf, MayNameWords}

-- what follows of each leaf from two facts
pub both_leaves : (P Q R : Term → Type 0) → ((x : Term) → P x → Q x → R x) → (e : Term) → EachLeaf P e → EachLeaf Q e → EachLeaf R e
both_leaves P Q R f (Lit c) p q = f (Lit c) p q
both_leaves P Q R f (Truth b) p q = f (Truth b) p q
both_leaves P Q R f (Var k) p q = f (Var k) p q
both_leaves P Q R f (Param k) p q = f (Param k) p q
both_leaves P Q R f (Len k) p q = f (Len k) p q
both_leaves P Q R f (Neg a) p q = both_leaves P Q R f a p q
both_leaves P Q R f (Not a) p q = both_leaves P Q R f a p q
both_leaves P Q R f (Bin o a b) p q = (both_leaves P Q R f a p.0 q.0, both_leaves P Q R f b p.1 q.1)
both_leaves P Q R f (And a b) p q = (both_leaves P Q R f a p.0 q.0, both_leaves P Q R f b p.1 q.1)
both_leaves P Q R f (Or a b) p q = (both_leaves P Q R f a p.0 q.0, both_leaves P Q R f b p.1 q.1)
both_leaves P Q R f (If c a b) p q =
    (both_leaves P Q R f c p.0 q.0, (both_leaves P Q R f a p.1.0 q.1.0, both_leaves P Q R f b p.1.1 q.1.1))

-- and from one
pub each_leaf : (P Q : Term → Type 0) → ((x : Term) → P x → Q x) → (e : Term) → EachLeaf P e → EachLeaf Q e
each_leaf P Q f e p = both_leaves P P Q (λ x h _. f x h) e p p

-- ---- leaves that pass a test

pub tested_leaves : (test : Term → Bool) (e : Term) → IsTrue (all_leaves test e) → EachLeaf (λ x. IsTrue (test x)) e
tested_leaves test (Lit c) h = h
tested_leaves test (Truth b) h = h
tested_leaves test (Var k) h = h
tested_leaves test (Param k) h = h
tested_leaves test (Len k) h = h
tested_leaves test (Neg a) h = tested_leaves test a h
tested_leaves test (Not a) h = tested_leaves test a h
tested_leaves test (Bin o a b) h =
    let parts = both_true (all_leaves test a) (all_leaves test b) h in (tested_leaves test a parts.0, tested_leaves test b parts.1)
tested_leaves test (And a b) h =
    let parts = both_true (all_leaves test a) (all_leaves test b) h in (tested_leaves test a parts.0, tested_leaves test b parts.1)
tested_leaves test (Or a b) h =
    let parts = both_true (all_leaves test a) (all_leaves test b) h in (tested_leaves test a parts.0, tested_leaves test b parts.1)
tested_leaves test (If c a b) h =
    let parts = both_true (all_leaves test c) (all_leaves test a && all_leaves test b) h in
    let rest = both_true (all_leaves test a) (all_leaves test b) parts.1 in
    (tested_leaves test c parts.0, (tested_leaves test a rest.0, tested_leaves test b rest.1))

pub leaves_tested : (test : Term → Bool) (e : Term) → EachLeaf (λ x. IsTrue (test x)) e → IsTrue (all_leaves test e)
leaves_tested test (Lit c) h = h
leaves_tested test (Truth b) h = h
leaves_tested test (Var k) h = h
leaves_tested test (Param k) h = h
leaves_tested test (Len k) h = h
leaves_tested test (Neg a) h = leaves_tested test a h
leaves_tested test (Not a) h = leaves_tested test a h
leaves_tested test (Bin o a b) h =
    true_both (all_leaves test a) (all_leaves test b) (leaves_tested test a h.0) (leaves_tested test b h.1)
leaves_tested test (And a b) h =
    true_both (all_leaves test a) (all_leaves test b) (leaves_tested test a h.0) (leaves_tested test b h.1)
leaves_tested test (Or a b) h =
    true_both (all_leaves test a) (all_leaves test b) (leaves_tested test a h.0) (leaves_tested test b h.1)
leaves_tested test (If c a b) h =
    true_both (all_leaves test c) (all_leaves test a && all_leaves test b) (leaves_tested test c h.0)
    (true_both (all_leaves test a) (all_leaves test b) (leaves_tested test a h.1.0) (leaves_tested test b h.1.1))

-- ---- words that are bound, and numbers that are words

bound_leaf : (n : ℕ) (x : Term) → IsTrue (is_bound_leaf n x) → IsBoundLeaf n x
bound_leaf n (Var k) h = ltb-true k n h
bound_leaf n _ h = tt

pub bound_leaves : (n : ℕ) (e : Term) → IsTrue (is_bound n e) → EachLeaf (IsBoundLeaf n) e
bound_leaves n e h =
    each_leaf (λ x. IsTrue (is_bound_leaf n x)) (IsBoundLeaf n) (bound_leaf n) e (tested_leaves (is_bound_leaf n) e h)

word_leaf : (x : Term) → IsTrue (is_word_leaf x) → IsWordLeaf x
word_leaf (Lit c) h = ltb-true c (2 ^ 64) h
word_leaf _ h = tt

pub word_leaves : (e : Term) → IsTrue (has_words e) → EachLeaf IsWordLeaf e
word_leaves e h = each_leaf (λ x. IsTrue (is_word_leaf x)) IsWordLeaf word_leaf e (tested_leaves is_word_leaf e h)

leaf_word : (x : Term) → IsWordLeaf x → IsTrue (is_word_leaf x)
leaf_word (Lit c) h = lt-ltb c (2 ^ 64) h
leaf_word (Truth b) h = refl
leaf_word (Var k) h = refl
leaf_word (Param k) h = refl
leaf_word (Len k) h = refl
leaf_word _ h = refl

pub leaves_word : (e : Term) → EachLeaf IsWordLeaf e → IsTrue (has_words e)
leaves_word e h = leaves_tested is_word_leaf e (each_leaf IsWordLeaf (λ x. IsTrue (is_word_leaf x)) leaf_word e h)

-- ---- what holds of all words of a scope

place_leaf : (rows words : List ℕ) (inputs : List Input) (env : List ℕ) → ScopeInPlace rows words inputs env → (x : Term) → IsBoundLeaf (length rows) x → IsLeafInPlace rows words inputs env x
place_leaf rows words inputs env place (Var k) bound = place.in_variables k bound
place_leaf rows words inputs env place (Param k) bound = place.ints k
place_leaf rows words inputs env place (Len k) bound = place.lengths k
place_leaf rows words inputs env place _ bound = tt

pub scope_in_place : (rows words : List ℕ) (inputs : List Input) (env : List ℕ) (e : Term) → IsTrue (is_bound (length rows) e) → ScopeInPlace rows words inputs env → WordsInPlace rows words inputs env e
scope_in_place rows words inputs env e bound place =
    each_leaf (IsBoundLeaf (length rows)) (IsLeafInPlace rows words inputs env) (place_leaf rows words inputs env place) e (bound_leaves (length rows) e bound)

name_leaf : (may : Names) (rows : List ℕ) → ((k : ℕ) → k < length rows → IsTrue (may.var (slice_index rows k))) → (x : Term) → IsBoundLeaf (length rows) x → MayNameLeaf may rows x
name_leaf may rows all (Var k) bound = all k bound
name_leaf may rows all _ bound = tt

pub scope_names : (may : Names) (rows : List ℕ) (e : Term) → IsTrue (is_bound (length rows) e) → ((k : ℕ) → k < length rows → IsTrue (may.var (slice_index rows k))) → MayNameWords may rows e
scope_names may rows e bound all =
    each_leaf (IsBoundLeaf (length rows)) (MayNameLeaf may rows) (name_leaf may rows all) e (bound_leaves (length rows) e bound)
