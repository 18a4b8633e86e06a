-- Values over longer scopes, and values of expressions without division.
use Rattle.std.proofs.Common.{◌≡◌, ℕ, zero, suc, ◌<◌, ◌≤◌, List, [], ◌∷◌, ◌++◌, length, Bool, true, false, ◌&&◌, refl, ap, arith}
use Rattle.std.specs.Prelude.{IsTrue, if◌then◌else◌}
use Rattle.std.proofs.lemmas.Bool.{ltb-true, lt-ltb}
use Rattle.std.proofs.lemmas.List.{get_or_append_left}
use Rattle.strm_num.proofs.Truths.{both_true, true_both}
use Rattle.list_denotation.specs.declared.expr.BinOp.{BinOp}
use Rattle.list_denotation.specs.declared.expr.BinOp.TheVariants as sign
use Rattle.list_denotation.specs.declared.input.Input.{Input}
use Rattle.list_denotation.specs.Terms.{Term, Lit, Truth, Var, Param, Len, Neg, Not, Bin, And, Or, If}
use Rattle.list_denotation.specs.Leaves.{all_leaves}
use Rattle.list_denotation.specs.Scopes.{is_bound_leaf, is_bound, all_bound}
use Rattle.list_denotation.specs.Typing.{is_division, is_undivided, all_undivided}
use Rattle.list_denotation.specs.Values.{Got, Is, Fails, with_value, choice, operation_of, value, row_value}

-- ---- longer scopes

leaves_weaker : (p q : Term → Bool) → ((x : Term) → IsTrue (p x) → IsTrue (q x)) → (e : Term) → IsTrue (all_leaves p e) → IsTrue (all_leaves q e)
leaves_weaker p q each (Lit w) h = each (Lit w) h
leaves_weaker p q each (Truth b) h = each (Truth b) h
leaves_weaker p q each (Var k) h = each (Var k) h
leaves_weaker p q each (Param k) h = each (Param k) h
leaves_weaker p q each (Len k) h = each (Len k) h
leaves_weaker p q each (Neg a) h = leaves_weaker p q each a h
leaves_weaker p q each (Not a) h = leaves_weaker p q each a h
leaves_weaker p q each (Bin op a b) h =
    let parts = both_true (all_leaves p a) (all_leaves p b) h in
    true_both (all_leaves q a) (all_leaves q b) (leaves_weaker p q each a parts.0) (leaves_weaker p q each b parts.1)
leaves_weaker p q each (And a b) h =
    let parts = both_true (all_leaves p a) (all_leaves p b) h in
    true_both (all_leaves q a) (all_leaves q b) (leaves_weaker p q each a parts.0) (leaves_weaker p q each b parts.1)
leaves_weaker p q each (Or a b) h =
    let parts = both_true (all_leaves p a) (all_leaves p b) h in
    true_both (all_leaves q a) (all_leaves q b) (leaves_weaker p q each a parts.0) (leaves_weaker p q each b parts.1)
leaves_weaker p q each (If c a b) h =
    let parts = both_true (all_leaves p c) (all_leaves p a && all_leaves p b) h in
    let arms = both_true (all_leaves p a) (all_leaves p b) parts.1 in
    true_both (all_leaves q c) (all_leaves q a && all_leaves q b) (leaves_weaker p q each c parts.0)
    (true_both (all_leaves q a) (all_leaves q b) (leaves_weaker p q each a arms.0) (leaves_weaker p q each b arms.1))

module _ (n m : ℕ) (le : n ≤ m) where
  leaf_bound_more : (x : Term) → IsTrue (is_bound_leaf n x) → IsTrue (is_bound_leaf m x)
  leaf_bound_more (Var k) h = let lt : k < n = ltb-true k n h in lt-ltb k m (omega arith)
  leaf_bound_more _ h = refl

  pub bound_more : (e : Term) → IsTrue (is_bound n e) → IsTrue (is_bound m e)
  bound_more e h = leaves_weaker (is_bound_leaf n) (is_bound_leaf m) leaf_bound_more e h

  pub all_bound_more : (es : List Term) → IsTrue (all_bound n es) → IsTrue (all_bound m es)
  all_bound_more [] h = refl
  all_bound_more (e ∷ es) h =
      let parts = both_true (is_bound n e) (all_bound n es) h in
      true_both (is_bound m e) (all_bound m es) (bound_more e parts.0) (all_bound_more es parts.1)

module _ (env more : List ℕ) (inputs : List Input) where
  pub value_longer : (e : Term) → IsTrue (is_bound (length env) e) → value e (env ++ more) inputs ≡ value e env inputs
  value_longer (Lit w) h = refl
  value_longer (Truth b) h = refl
  value_longer (Var k) h = ap Is (get_or_append_left env more 0 k (ltb-true k (length env) h))
  value_longer (Param k) h = refl
  value_longer (Len k) h = refl
  value_longer (Neg a) h = rw (value_longer a h) refl
  value_longer (Not a) h = rw (value_longer a h) refl
  value_longer (Bin op a b) h =
      let parts = both_true (is_bound (length env) a) (is_bound (length env) b) h in rw (value_longer a parts.0, value_longer b parts.1) refl
  value_longer (And a b) h =
      let parts = both_true (is_bound (length env) a) (is_bound (length env) b) h in rw (value_longer a parts.0, value_longer b parts.1) refl
  value_longer (Or a b) h =
      let parts = both_true (is_bound (length env) a) (is_bound (length env) b) h in rw (value_longer a parts.0, value_longer b parts.1) refl
  value_longer (If c a b) h =
      let parts = both_true (is_bound (length env) c) (is_bound (length env) a && is_bound (length env) b) h in
      let arms = both_true (is_bound (length env) a) (is_bound (length env) b) parts.1 in
      rw (value_longer c parts.0, value_longer a arms.0, value_longer b arms.1) refl

  pub row_longer : (es : List Term) → IsTrue (all_bound (length env) es) → row_value es (env ++ more) inputs ≡ row_value es env inputs
  row_longer [] h = refl
  row_longer (e ∷ es) h =
      let parts = both_true (is_bound (length env) e) (all_bound (length env) es) h in rw (value_longer e parts.0, row_longer es parts.1) refl

-- ---- without division

abbrev HasValue : {A : Type 0} → Got A → Type 0
HasValue (Is x) = Unit {0}
HasValue (Fails f) = ⊥

its_value : {A : Type 0} (g : Got A) → HasValue g → (x : A) × (g ≡ Is x)
its_value (Is x) h = (x, refl)
its_value (Fails f) h = absurd h

with_has : {A B : Type 0} (x : Got A) (go : A → Got B) → HasValue x → ((a : A) → HasValue (go a)) → HasValue (with_value x go)
with_has (Is a) go h k = k a
with_has (Fails f) go h k = h

choice_has : {A : Type 0} (w : ℕ) (a b : Got A) → HasValue a → HasValue b → HasValue (choice w a b)
choice_has zero a b h k = h
choice_has (suc w) a b h k = k

operation_has : (op : BinOp) (x y : ℕ) → IsTrue (if is_division op then false else true) → HasValue (operation_of op x y)
operation_has sign.Add x y h = tt
operation_has sign.Sub x y h = tt
operation_has sign.Mul x y h = tt
operation_has sign.Div x y h = absurd cc
operation_has sign.Rem x y h = absurd cc
operation_has sign.Eq x y h = tt
operation_has sign.Ne x y h = tt
operation_has sign.Lt x y h = tt
operation_has sign.Le x y h = tt
operation_has sign.Gt x y h = tt
operation_has sign.Ge x y h = tt

module _ (env : List ℕ) (inputs : List Input) where
  has_value : (e : Term) → IsTrue (is_undivided e) → HasValue (value e env inputs)
  has_value (Lit w) h = tt
  has_value (Truth b) h = tt
  has_value (Var k) h = tt
  has_value (Param k) h = tt
  has_value (Len k) h = tt
  has_value (Neg a) h = with_has (value a env inputs) _ (has_value a h) (λ x. tt)
  has_value (Not a) h = with_has (value a env inputs) _ (has_value a h) (λ x. tt)
  has_value (Bin op a b) h =
      let whole = both_true (if is_division op then false else true) (is_undivided a && is_undivided b) h in
      let parts = both_true (is_undivided a) (is_undivided b) whole.1 in
      with_has (value a env inputs) _ (has_value a parts.0) (λ x.
      with_has (value b env inputs) _ (has_value b parts.1) (λ y. operation_has op x y whole.0))
  has_value (And a b) h =
      let parts = both_true (is_undivided a) (is_undivided b) h in
      with_has (value a env inputs) _ (has_value a parts.0) (λ x.
      choice_has x _ _ tt (with_has (value b env inputs) _ (has_value b parts.1) (λ y. tt)))
  has_value (Or a b) h =
      let parts = both_true (is_undivided a) (is_undivided b) h in
      with_has (value a env inputs) _ (has_value a parts.0) (λ x.
      choice_has x _ _ (with_has (value b env inputs) _ (has_value b parts.1) (λ y. tt)) tt)
  has_value (If c a b) h =
      let parts = both_true (is_undivided c) (is_undivided a && is_undivided b) h in
      let arms = both_true (is_undivided a) (is_undivided b) parts.1 in
      with_has (value c env inputs) _ (has_value c parts.0) (λ x. choice_has x _ _ (has_value b arms.1) (has_value a arms.0))

  row_has_value : (es : List Term) → IsTrue (all_undivided es) → HasValue (row_value es env inputs)
  row_has_value [] h = tt
  row_has_value (e ∷ es) h =
      let parts = both_true (is_undivided e) (all_undivided es) h in
      with_has (value e env inputs) _ (has_value e parts.0) (λ x. with_has (row_value es env inputs) _ (row_has_value es parts.1) (λ row. tt))

  pub undivided_value : (e : Term) → IsTrue (is_undivided e) → (x : ℕ) × (value e env inputs ≡ Is x)
  undivided_value e h = its_value (value e env inputs) (has_value e h)

  pub undivided_row : (es : List Term) → IsTrue (all_undivided es) → (row : List ℕ) × (row_value es env inputs ≡ Is row)
  undivided_row es h = its_value (row_value es env inputs) (row_has_value es h)
