-- The variables that an expression reads are others than those that its statements change.
use Rattle.std.proofs.Common.{◌≢◌, ℕ, ◌+◌, ◌<◌, ◌≤◌, List, length, inl, inr, arith}
use Rattle.std.proofs.lemmas.Bool.{cases_lt}
use Rattle.std.specs.Prelude.{All, IsTrue, slice_index}
use Rattle.list_denotation.specs.Scopes.{is_bound}
use Rattle.list_denotation.specs.Terms.{Term, Var}
use Rattle.state_alloc.specs.Layouts.{IsTemporary, IsWordVariable, IsLaidOut}
use Rattle.expr_lower.specs.Contract.{Scope, IsTarget}
use Rattle.expr_lower.specs.Scopes.{EachLeaf, IsBoundLeaf, IsOutside, IsUnread, IsUnreadLeaf}
use Rattle.expr_lower.proofs.Leaves.{both_leaves, each_leaf, bound_leaves}

module _ (rows : List ℕ) (v t top : ℕ) where
  abbrev pub IsDisjointLeaf : Term → Type 0
  IsDisjointLeaf (Var k) = (slice_index rows k ≢ v) × IsOutside t top (slice_index rows k)
  IsDisjointLeaf _ = Unit {0}

  -- no word that the expression reads stands in v, or in a temporary from t up to but without top
  abbrev pub IsDisjoint : Term → Type 0
  IsDisjoint e = EachLeaf IsDisjointLeaf e

-- a temporary is none of the variables outside
pub not_outside : (t top x : ℕ) → t < top → IsOutside t top x → x ≢ t
not_outside t top x lt (inl less) = λ e. omega (arith, less, e)
not_outside t top x lt (inr more) = λ e. omega (arith, more, lt, e)

pub outside_more : (t top x : ℕ) → IsOutside t top x → IsOutside (t + 1) top x
outside_more t top x (inl less) = inl (omega (arith, less))
outside_more t top x (inr more) = inr more

-- the right operand's variables are others than its target, the first temporary
pub disjoint_right : (rows : List ℕ) (v t top : ℕ) (e : Term) → t < top → IsDisjoint rows v t top e → IsDisjoint rows t (t + 1) top e
disjoint_right rows v t top e lt apart =
    each_leaf (IsDisjointLeaf rows v t top) (IsDisjointLeaf rows t (t + 1) top) leaf e apart
  where
    leaf : (x : Term) → IsDisjointLeaf rows v t top x → IsDisjointLeaf rows t (t + 1) top x
    leaf (Var k) h = (not_outside t top (slice_index rows k) lt h.1, outside_more t top (slice_index rows k) h.1)
    leaf _ h = tt

-- ---- words that are laid out

no_temporary : (t temps x : ℕ) → ¬ IsTemporary t temps x → IsOutside t (t + temps) x
no_temporary t temps x none = elim (cases_lt x t) [
  | inl less ↦ inl less
  | inr more ↦ elim (cases_lt x (t + temps)) [ inl within ↦ absurd (none (more, within)) | inr behind ↦ inr behind ]
]

-- bound words that are laid out stand in no temporary, so those that are read are disjoint if none stands in v
pub unread_disjoint : (rows : List ℕ) (v t temps next : ℕ) → All (IsWordVariable t temps next) rows → (e : Term) → IsTrue (is_bound (length rows) e) → IsUnread rows v e → IsDisjoint rows v t (t + temps) e
unread_disjoint rows v t temps next laid_out e bound unread =
    both_leaves (IsBoundLeaf (length rows)) (IsUnreadLeaf rows v) (IsDisjointLeaf rows v t (t + temps)) leaf e (bound_leaves (length rows) e bound) unread
  where
    leaf : (x : Term) → IsBoundLeaf (length rows) x → IsUnreadLeaf rows v x → IsDisjointLeaf rows v t (t + temps) x
    leaf (Var k) within other = (other, no_temporary t temps (slice_index rows k) (laid_out k 0 within).apart)
    leaf _ within other = tt

-- a variable that was not given out is a target
pub fresh_target : (scope : Scope) (next : ℕ) (e : Term) (target : ℕ) → IsLaidOut scope.rows scope.first_temp scope.temps next → IsTrue (is_bound (length scope.rows) e) → next ≤ target → IsTarget scope e target
fresh_target scope next e target laid_out bound fresh = record {
  outside = inr (omega (arith, laid_out.temporaries, fresh));
  unread = each_leaf (IsBoundLeaf (length scope.rows)) (IsUnreadLeaf scope.rows target) leaf e (bound_leaves (length scope.rows) e bound);
}
  where
    leaf : (x : Term) → IsBoundLeaf (length scope.rows) x → IsUnreadLeaf scope.rows target x
    leaf (Var k) within = let below = (laid_out.words k 0 within).below in λ same. omega (arith, below, fresh, same)
    leaf _ within = tt
