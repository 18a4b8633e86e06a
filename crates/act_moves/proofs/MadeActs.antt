-- Acts that the code appends one by one.
use Rattle.std.proofs.Common.{◌≡◌, ℕ, false, ◌+◌, ◌<◌, ◌≤◌, List, [], ◌∷◌, ◌++◌, length, drop, get_or, sym, ap, ◌∙◌, subst}
use Rattle.std.specs.Prelude.{Result, OnOk}
use Rattle.std.proofs.lemmas.Result.{on_ok_weaker}
use Rattle.std.proofs.lemmas.List.{drop_all, at_drop_more}
use Rattle.list_denotation.specs.declared.expr.Expr.{Expr}
use Rattle.list_denotation.specs.declared.expr.Expr.TheVariants as expr
use Rattle.list_denotation.specs.Copies.{term_of, terms_of}
use Rattle.list_denotation.specs.Terms.{Term, Lit}
use Rattle.stateful_core.specs.declared.core_term.Act.{Act}
use Rattle.stateful_core.specs.declared.core_term.Act.TheVariants as act
use Rattle.stateful_core.specs.CoreCopies.{action_of, actions_of}
use Rattle.stateful_core.specs.StreamCores.{set_state}
use Rattle.stateful_core.specs.CoreTerms.{Action, Let, Read, KeepIf, StopUnless, Update, When, Actions, Nil, Cons, join}
use Rattle.act_moves.specs.Flags.{skip_with, close_unless}
use Rattle.act_moves.specs.Renumbering.{renumber, renumber_row, move_action, move_actions}
use Rattle.act_moves.specs.WordRoom.{StaysBelow, StayBelow}
use Rattle.stateful_core.proofs.ActCopies.{let_copy, read_copy, keep_copy, stop_copy, update_copy, when_copy, join_join, join_nil, act_push}

-- what is left at a place begins with the item there
pub at_index : (acts : List Act) (i : ℕ) (a : Act) → i < length acts → a ≡ get_or acts i a → drop i acts ≡ a ∷ drop (i + 1) acts
at_index acts i a h is = at_drop_more (λ z. z) acts i a h ∙ ap (λ z. z ∷ drop (i + 1) acts) (sym is)

pub from_empty : (f : ℕ → ℕ) (k : ℕ) (halt : Term → Action) (old s acts : List Act) (now : Actions) → old ≡ [] → s ≡ acts → now ≡ join (actions_of old) (move_actions f k halt (actions_of s)) → now ≡ move_actions f k halt (actions_of acts)
from_empty f k halt old s acts now e q h = h ∙ ap (λ z. join (actions_of z) (move_actions f k halt (actions_of s))) e ∙ ap (λ z. move_actions f k halt (actions_of z)) q

pub move_step : (f : ℕ → ℕ) (k : ℕ) (halt : Term → Action) (before now : Actions) (acts : List Act) (i : ℕ) (a : Act) → i < length acts → a ≡ get_or acts i a → now ≡ join before (Cons (move_action f k halt (action_of a)) Nil) → join now (move_actions f k halt (actions_of (drop (i + 1) acts))) ≡ join before (move_actions f k halt (actions_of (drop i acts)))
move_step f k halt before now acts i a h is q =
    ap (λ z. join z (move_actions f k halt (actions_of (drop (i + 1) acts)))) q
    ∙ join_join before (Cons (move_action f k halt (action_of a)) Nil) (move_actions f k halt (actions_of (drop (i + 1) acts)))
    ∙ sym (ap (λ l. join before (move_actions f k halt (actions_of l))) (at_index acts i a h is))

pub move_end : (f : ℕ → ℕ) (k : ℕ) (halt : Term → Action) (before : Actions) (acts : List Act) (i : ℕ) → length acts ≤ i → join before (move_actions f k halt (actions_of (drop i acts))) ≡ before
move_end f k halt before acts i h = ap (λ l. join before (move_actions f k halt (actions_of l))) (drop_all i acts h) ∙ join_nil before

pub acts_below : (n m : ℕ) (acts : List Act) (i : ℕ) (a : Act) → i < length acts → a ≡ get_or acts i a → StayBelow n m (actions_of (drop i acts)) → StaysBelow n m (action_of a) × StayBelow n m (actions_of (drop (i + 1) acts))
acts_below n m acts i a h is b = subst (λ z. StayBelow n m (actions_of z)) (at_index acts i a h is) b

pub ruleset move_steps = (move_step, move_end, acts_below)

-- ---- one act

-- an act that was pushed, where it is another one moved
module _ (f : ℕ → ℕ) (k : ℕ) (halt : Term → Action) {A E : Type 0} (r : Result A E) (old now : List Act) (x : Act) where
  pushed : (y : Act) → action_of y ≡ move_action f k halt (action_of x) → OnOk r (now ≡ old ++ y ∷ []) → OnOk r (actions_of now ≡ join (actions_of old) (Cons (move_action f k halt (action_of x)) Nil))
  pushed y q h = on_ok_weaker r (λ e. ap actions_of e ∙ act_push old y ∙ ap (λ z. join (actions_of old) (Cons z Nil)) q) h

  pub let_pushed : (e c : Expr) → x ≡ act.Let e → term_of c ≡ renumber f (term_of e) → OnOk r (now ≡ old ++ act.Let c ∷ []) → OnOk r (actions_of now ≡ join (actions_of old) (Cons (move_action f k halt (action_of x)) Nil))
  let_pushed e c is q h = pushed (act.Let c) (let_copy c ∙ ap Let q ∙ sym (ap (move_action f k halt) (ap action_of is ∙ let_copy e))) h

  pub read_pushed : (i : ℕ) (e c : Expr) → x ≡ act.Read i e → term_of c ≡ renumber f (term_of e) → OnOk r (now ≡ old ++ act.Read i c ∷ []) → OnOk r (actions_of now ≡ join (actions_of old) (Cons (move_action f k halt (action_of x)) Nil))
  read_pushed i e c is q h = pushed (act.Read i c) (read_copy i c ∙ ap (Read i) q ∙ sym (ap (move_action f k halt) (ap action_of is ∙ read_copy i e))) h

  pub keep_pushed : (e c : Expr) → x ≡ act.KeepIf e → term_of c ≡ renumber f (term_of e) → OnOk r (now ≡ old ++ act.KeepIf c ∷ []) → OnOk r (actions_of now ≡ join (actions_of old) (Cons (move_action f k halt (action_of x)) Nil))
  keep_pushed e c is q h = pushed (act.KeepIf c) (keep_copy c ∙ ap KeepIf q ∙ sym (ap (move_action f k halt) (ap action_of is ∙ keep_copy e))) h

  pub stop_pushed : (e c : Expr) → x ≡ act.StopUnless e → term_of c ≡ renumber f (term_of e) → OnOk r (actions_of now ≡ join (actions_of old) (Cons (halt (term_of c)) Nil)) → OnOk r (actions_of now ≡ join (actions_of old) (Cons (move_action f k halt (action_of x)) Nil))
  stop_pushed e c is q h =
      on_ok_weaker r (λ p. p ∙ ap (λ z. join (actions_of old) (Cons (halt z) Nil)) q ∙ sym (ap (λ z. join (actions_of old) (Cons (move_action f k halt z) Nil)) (ap action_of is ∙ stop_copy e))) h

  pub update_pushed : (i : ℕ) (es cs : List Expr) → x ≡ act.Update i es → terms_of cs ≡ renumber_row f (terms_of es) → OnOk r (now ≡ old ++ act.Update (k + i) cs ∷ []) → OnOk r (actions_of now ≡ join (actions_of old) (Cons (move_action f k halt (action_of x)) Nil))
  update_pushed i es cs is q h =
      pushed (act.Update (k + i) cs) (update_copy (k + i) cs ∙ ap (Update (k + i)) q ∙ sym (ap (move_action f k halt) (ap action_of is ∙ update_copy i es))) h

  pub when_pushed : (e c : Expr) (a b first second : List Act) → x ≡ act.When e a b → term_of c ≡ renumber f (term_of e) → actions_of first ≡ move_actions f k halt (actions_of a) → actions_of second ≡ move_actions f k halt (actions_of b) → OnOk r (now ≡ old ++ act.When c first second ∷ []) → OnOk r (actions_of now ≡ join (actions_of old) (Cons (move_action f k halt (action_of x)) Nil))
  when_pushed e c a b first second is q p s h =
      pushed (act.When c first second)
      (when_copy c first second ∙ ap (λ z. When z (actions_of first) (actions_of second)) q ∙ ap (λ z. When (renumber f (term_of e)) z (actions_of second)) p
      ∙ ap (λ z. When (renumber f (term_of e)) (move_actions f k halt (actions_of a)) z) s
      ∙ sym (ap (move_action f k halt) (ap action_of is ∙ when_copy e a b))) h

-- ---- acts that set a flag, and end the turn

pub stop_push : (made : List Act) (e : Expr) → actions_of (made ++ act.StopUnless e ∷ []) ≡ join (actions_of made) (Cons (StopUnless (term_of e)) Nil)
stop_push made e = act_push made (act.StopUnless e) ∙ ap (λ z. join (actions_of made) (Cons z Nil)) (stop_copy e)

pub skip_push : (old : Actions) (made : List Act) (flag : ℕ) → actions_of made ≡ join old (set_state (Lit flag ∷ [])) → actions_of (made ++ act.KeepIf (expr.Truth false) ∷ []) ≡ join old (skip_with flag)
skip_push old made flag h =
    act_push made (act.KeepIf (expr.Truth false)) ∙ ap (λ z. join z (Cons (action_of (act.KeepIf (expr.Truth false))) Nil)) h
    ∙ join_join old (set_state (Lit flag ∷ [])) (Cons (action_of (act.KeepIf (expr.Truth false))) Nil)
    ∙ ap (λ z. join old (Cons (Update 0 (Lit flag ∷ [])) (Cons z Nil))) (keep_copy (expr.Truth false))

pub close_push : (start none close made : List Act) (e : Expr) → start ≡ [] → none ≡ [] → actions_of close ≡ join (actions_of start) (skip_with 0) → actions_of (made ++ act.When e none close ∷ []) ≡ join (actions_of made) (Cons (close_unless (term_of e)) Nil)
close_push start none close made e s n h =
    act_push made (act.When e none close)
    ∙ ap (λ z. join (actions_of made) (Cons z Nil))
    (when_copy e none close ∙ ap (λ z. When (term_of e) (actions_of z) (actions_of close)) n
    ∙ ap (λ z. When (term_of e) Nil z) (h ∙ ap (λ z. join (actions_of z) (skip_with 0)) s))

pub ruleset flag_steps = (stop_push, skip_push, close_push)
