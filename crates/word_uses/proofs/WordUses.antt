-- Tests of acts, act by act.
use Rattle.std.proofs.Common.{◌≡◌, ◌≢◌, ℕ, ◌+◌, ◌-◌, ◌<◌, tests, rules, Bool, true, false, ◌&&◌, List, length, refl, ◌∙◌}
use Rattle.std.specs.Prelude.{◌||◌, nat_le, nat_lt}
use Rattle.std.proofs.lemmas.Bool.{ne_eqb}
use Rattle.list_denotation.specs.Terms as term
use Rattle.list_denotation.specs.Terms.{Term, Truth}
use Rattle.stateful_core.specs.CoreTerms.{Action, Let, Read, KeepIf, StopUnless, Update, When, Actions, Nil, Cons}
use Rattle.list_denotation.specs.Typing.{is_undivided}
use Rattle.stateful_core.specs.CoreShapes.{actions_locals}
use Rattle.turn_blocks.specs.WordUses as uses
use Rattle.turn_blocks.specs.WordUses.{are_unread, never_go_on, may_wait, stays, is_test_of, copy_use, let_use}

keep_first : (e : Term) (acts : Actions) → never_go_on (Cons (KeepIf e) acts) ≡ (never_go_on (Cons (KeepIf e) Nil) || never_go_on acts)
keep_first (Truth false) acts = refl
keep_first (Truth true) acts = refl
keep_first (term.Lit n) acts = refl
keep_first (term.Var n) acts = refl
keep_first (term.Param n) acts = refl
keep_first (term.Len n) acts = refl
keep_first (term.Neg a) acts = refl
keep_first (term.Not a) acts = refl
keep_first (term.Bin o a b) acts = refl
keep_first (term.And a b) acts = refl
keep_first (term.Or a b) acts = refl
keep_first (term.If c a b) acts = refl

stop_first : (e : Term) (acts : Actions) → never_go_on (Cons (StopUnless e) acts) ≡ (never_go_on (Cons (StopUnless e) Nil) || never_go_on acts)
stop_first (Truth false) acts = refl
stop_first (Truth true) acts = refl
stop_first (term.Lit n) acts = refl
stop_first (term.Var n) acts = refl
stop_first (term.Param n) acts = refl
stop_first (term.Len n) acts = refl
stop_first (term.Neg a) acts = refl
stop_first (term.Not a) acts = refl
stop_first (term.Bin o a b) acts = refl
stop_first (term.And a b) acts = refl
stop_first (term.Or a b) acts = refl
stop_first (term.If c a b) acts = refl

-- acts don't lead on where the first of them or those behind it don't
pub never_first : (a : Action) (acts : Actions) → never_go_on (Cons a acts) ≡ (never_go_on (Cons a Nil) || never_go_on acts)
never_first (Let e) acts = refl
never_first (Read k e) acts = refl
never_first (KeepIf e) acts = keep_first e acts
never_first (StopUnless e) acts = stop_first e acts
never_first (Update k es) acts = refl
never_first (When e a b) acts = refl

pub and_then : (a b r : Bool) → a ≡ true → r ≡ b → r ≡ (a && b)
and_then a b r h is = rw h is

pub and_else : (a b r : Bool) → a ≡ false → r ≡ a → r ≡ (a && b)
and_else a b r h is = rw h (is ∙ h)

pub stays_else : (scope states j : ℕ) (a : Action) (k : ℕ) (es : List Term) (acts : Actions) (w : Bool) → a ≡ Update k es → (nat_le (k + length es) j || nat_lt j k) ≡ false → w ≡ may_wait scope states k es acts → w ≡ stays scope states j (Cons a acts)
stays_else scope states j a k es acts w is apart e = rw is (rw apart e)

module _ (scope states width x : ℕ) (e : Term) (acts : Actions) (some : x ≢ 0) (more : nat_lt (actions_locals acts) width ≡ false) where
  pub let_tested : is_test_of scope states x acts ≡ true → let_use scope states width x e acts ≡ uses.Tested
  let_tested h = rw (ne_eqb x 0 some, more, h) refl

  pub let_unused : is_test_of scope states x acts ≡ false → (is_undivided e && are_unread x 1 acts) ≡ true → let_use scope states width x e acts ≡ uses.Unused
  let_unused h u = rw (ne_eqb x 0 some, more, h, u) refl

  pub let_copied : is_test_of scope states x acts ≡ false → (is_undivided e && are_unread x 1 acts) ≡ false → let_use scope states width x e acts ≡ copy_use scope states e acts
  let_copied h u = rw (ne_eqb x 0 some, more, h, u) refl

pub one_fewer : (n width : ℕ) → 0 < width → nat_lt (1 + n) width ≡ nat_lt n (width - 1)
one_fewer n width some = search (tests, rules)
