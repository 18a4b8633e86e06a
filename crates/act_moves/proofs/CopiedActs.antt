-- Expressions and acts whose words keep their numbers are the same.
use Rattle.std.proofs.Common.{◌≡◌, List, [], ◌∷◌, refl, ap, ◌∙◌, zero-add}
use Rattle.std.proofs.Math.Path.{fun_ext}
use Rattle.list_denotation.specs.Terms.{Term, Lit, Truth, Var, Param, Len, Neg, Not, Bin, And, Or, If}
use Rattle.stateful_core.specs.CoreTerms.{Action, Let, Read, KeepIf, StopUnless, Update, When, Actions, Nil, Cons}
use Rattle.act_moves.specs.Renumbering.{with_room, renumber, renumber_row, move_action, move_actions}
use Rattle.act_moves.specs.WordRoom.{number_in}
use Rattle.act_moves.proofs.WordsBelow.{no_room}

same_term : (e : Term) → renumber (λ k. k) e ≡ e
same_term (Lit w) = refl
same_term (Truth b) = refl
same_term (Var k) = refl
same_term (Param k) = refl
same_term (Len k) = refl
same_term (Neg a) = ap Neg (same_term a)
same_term (Not a) = ap Not (same_term a)
same_term (Bin op a b) = rw (same_term a, same_term b) refl
same_term (And a b) = rw (same_term a, same_term b) refl
same_term (Or a b) = rw (same_term a, same_term b) refl
same_term (If c a b) = rw (same_term c, same_term a, same_term b) refl

same_row : (es : List Term) → renumber_row (λ k. k) es ≡ es
same_row [] = refl
same_row (e ∷ es) = rw (same_term e, same_row es) refl

mutual
  same_act : (a : Action) → move_action (λ k. k) 0 StopUnless a ≡ a
  same_act (Let e) = ap Let (same_term e)
  same_act (Read k e) = ap (Read k) (same_term e)
  same_act (KeepIf e) = ap KeepIf (same_term e)
  same_act (StopUnless e) = ap (λ t. StopUnless t) (same_term e)
  same_act (Update k es) = ap (λ i. Update i (renumber_row (λ j. j) es)) (zero-add k) ∙ ap (Update k) (same_row es)
  same_act (When e a b) = rw (same_term e, same_acts a, same_acts b) refl

  same_acts : (acts : Actions) → move_actions (λ k. k) 0 StopUnless acts ≡ acts
  same_acts Nil = refl
  same_acts (Cons a acts) = rw (same_act a, same_acts acts) refl

pub acts_copied : (acts : Actions) → move_actions (number_in (record { at = 0; by = 0; then_at = 0; then_by = 0 })) 0 StopUnless acts ≡ acts
acts_copied acts =
    ap (λ f. move_actions f 0 StopUnless acts) (let q : number_in (record { at = 0; by = 0; then_at = 0; then_by = 0 }) ≡ (λ k. k) = fun_ext (λ k. no_room (with_room 0 0 k) ∙ no_room k) in q)
    ∙ same_acts acts
