-- An expression that has a kind reads bound words alone, and names declared inputs alone.
use Rattle.std.proofs.Common.{ℕ, zero, suc, ◌<◌, List, [], ◌∷◌, length, Option, Some, None, Bool, true, false, ◌&&◌, refl, arith}
use Rattle.std.specs.Prelude.{IsTrue, IsSome, slice_get, if◌then◌else◌}
use Rattle.std.proofs.lemmas.Bool.{lt-ltb}
use Rattle.strm_num.proofs.Truths.{both_true, true_both}
use Rattle.list_denotation.specs.declared.expr.BinOp.{BinOp}
use Rattle.list_denotation.specs.declared.expr.BinOp.TheVariants as sign
use Rattle.list_denotation.specs.declared.input.InputKind.{InputKind}
use Rattle.list_denotation.specs.declared.kind.Kind.{Kind}
use Rattle.list_denotation.specs.declared.kind.Kind.TheVariants as kind
use Rattle.list_denotation.specs.Terms.{Term, Lit, Truth, Var, Param, Len, Neg, Not, Bin, And, Or, If}
use Rattle.list_denotation.specs.Leaves.{all_leaves}
use Rattle.list_denotation.specs.Scopes.{is_bound_leaf, is_bound}
use Rattle.list_denotation.specs.InputNames.{is_named_leaf, names_inputs, declared_inputs}
use Rattle.list_denotation.specs.Typing.{is_array, is_int, is_kind, same_kind, kind_if, operation_kind, kind_of}

-- ---- what has a kind, has parts that have kinds

condition_holds : (b : Bool) (k : Kind) → IsSome (kind_if b k) → IsTrue b
condition_holds true k h = refl
condition_holds false k h = absurd cc

kind_some : (k : Kind) (o : Option Kind) → IsTrue (is_kind k o) → IsSome o
kind_some kind.Int None h = absurd cc
kind_some kind.Bool None h = absurd cc
kind_some k (Some j) h = refl

kinds_some : (k : Kind) (a b : Option Kind) → IsTrue (is_kind k a && is_kind k b) → IsSome a × IsSome b
kinds_some k a b h =
    let parts = both_true (is_kind k a) (is_kind k b) h in (kind_some k a parts.0, kind_some k b parts.1)

same_some : (a b : Option Kind) → IsTrue (same_kind a b) → IsSome a × IsSome b
same_some None b h = absurd cc
same_some (Some k) b h = (refl, kind_some k b h)

part_some : (k j : Kind) (o : Option Kind) → IsSome (kind_if (is_kind k o) j) → IsSome o
part_some k j o h = kind_some k o (condition_holds (is_kind k o) j h)

pair_some : (k j : Kind) (a b : Option Kind) → IsSome (kind_if (is_kind k a && is_kind k b) j) → IsSome a × IsSome b
pair_some k j a b h = kinds_some k a b (condition_holds (is_kind k a && is_kind k b) j h)

operands_some : (o : BinOp) (a b : Option Kind) → IsSome (operation_kind o a b) → IsSome a × IsSome b
operands_some sign.Add a b h = pair_some kind.Int kind.Int a b h
operands_some sign.Sub a b h = pair_some kind.Int kind.Int a b h
operands_some sign.Mul a b h = pair_some kind.Int kind.Int a b h
operands_some sign.Div a b h = pair_some kind.Int kind.Int a b h
operands_some sign.Rem a b h = pair_some kind.Int kind.Int a b h
operands_some sign.Eq a b h = same_some a b (condition_holds (same_kind a b) kind.Bool h)
operands_some sign.Ne a b h = same_some a b (condition_holds (same_kind a b) kind.Bool h)
operands_some sign.Lt a b h = pair_some kind.Int kind.Bool a b h
operands_some sign.Le a b h = pair_some kind.Int kind.Bool a b h
operands_some sign.Gt a b h = pair_some kind.Int kind.Bool a b h
operands_some sign.Ge a b h = pair_some kind.Int kind.Bool a b h

chosen_holds : (b : Bool) (o : Option Kind) → IsSome (if b then o else None) → IsTrue b
chosen_holds true o h = refl
chosen_holds false o h = absurd cc

choice_some : (c a b : Option Kind) → IsSome (if is_kind kind.Bool c && same_kind a b then a else None) → IsSome c × (IsSome a × IsSome b)
choice_some c a b h =
    let parts = both_true (is_kind kind.Bool c) (same_kind a b) (chosen_holds (is_kind kind.Bool c && same_kind a b) a h) in
    (kind_some kind.Bool c parts.0, same_some a b parts.1)

-- ---- leaves

module _ (inputs : List InputKind) (scope : List Kind) where
  -- what holds of each expression that has a kind, holds of each leaf of one
  module _ (test : Term → Bool) (each : (e : Term) → IsSome (kind_of inputs scope e) → IsTrue (test e)) where
    leaves_pass : (e : Term) → IsSome (kind_of inputs scope e) → IsTrue (all_leaves test e)
    leaves_pass (Lit w) h = each (Lit w) h
    leaves_pass (Truth b) h = each (Truth b) h
    leaves_pass (Var k) h = each (Var k) h
    leaves_pass (Param k) h = each (Param k) h
    leaves_pass (Len k) h = each (Len k) h
    leaves_pass (Neg a) h = leaves_pass a (part_some kind.Int kind.Int (kind_of inputs scope a) h)
    leaves_pass (Not a) h = leaves_pass a (part_some kind.Bool kind.Bool (kind_of inputs scope a) h)
    leaves_pass (Bin op a b) h =
        let parts = operands_some op (kind_of inputs scope a) (kind_of inputs scope b) h in
        true_both (all_leaves test a) (all_leaves test b) (leaves_pass a parts.0) (leaves_pass b parts.1)
    leaves_pass (And a b) h =
        let parts = pair_some kind.Bool kind.Bool (kind_of inputs scope a) (kind_of inputs scope b) h in
        true_both (all_leaves test a) (all_leaves test b) (leaves_pass a parts.0) (leaves_pass b parts.1)
    leaves_pass (Or a b) h =
        let parts = pair_some kind.Bool kind.Bool (kind_of inputs scope a) (kind_of inputs scope b) h in
        true_both (all_leaves test a) (all_leaves test b) (leaves_pass a parts.0) (leaves_pass b parts.1)
    leaves_pass (If c a b) h =
        let parts = choice_some (kind_of inputs scope c) (kind_of inputs scope a) (kind_of inputs scope b) h in
        true_both (all_leaves test c) (all_leaves test a && all_leaves test b) (leaves_pass c parts.0)
        (true_both (all_leaves test a) (all_leaves test b) (leaves_pass a parts.1.0) (leaves_pass b parts.1.1))

  var_below : (ks : List Kind) (k : ℕ) → IsSome (slice_get ks k) → k < length ks
  var_below [] k h = absurd cc
  var_below (x ∷ ks) zero h = omega arith
  var_below (x ∷ ks) (suc k) h = omega (arith, var_below ks k h)

  bound_leaf : (e : Term) → IsSome (kind_of inputs scope e) → IsTrue (is_bound_leaf (length scope) e)
  bound_leaf (Var k) h = lt-ltb k (length scope) (var_below scope k h)
  bound_leaf _ h = refl

  named_leaf : (e : Term) → IsSome (kind_of inputs scope e) → IsTrue (is_named_leaf (declared_inputs inputs) e)
  named_leaf (Param k) h = condition_holds (is_int (slice_get inputs k)) kind.Int h
  named_leaf (Len k) h = condition_holds (is_array (slice_get inputs k)) kind.Int h
  named_leaf _ h = refl

  pub reads_bound : (e : Term) → IsSome (kind_of inputs scope e) → IsTrue (is_bound (length scope) e)
  reads_bound e h = leaves_pass (is_bound_leaf (length scope)) bound_leaf e h

  pub names_declared : (e : Term) → IsSome (kind_of inputs scope e) → IsTrue (names_inputs (declared_inputs inputs) e)
  names_declared e h = leaves_pass (is_named_leaf (declared_inputs inputs)) named_leaf e h
