-- Acts of machines that are made of two, which the code appends one by one.
use Rattle.std.proofs.Common.{◌≡◌, ℕ, true, false, ◌+◌, List, [], ◌∷◌, ◌++◌, length, sym, ap, ◌∙◌}
use Rattle.std.specs.Prelude.{if◌then◌else◌}
use Rattle.list_denotation.specs.declared.expr.Expr.{Expr}
use Rattle.list_denotation.specs.declared.expr.Expr.TheVariants as expr
use Rattle.list_denotation.specs.Copies.{terms_of}
use Rattle.list_denotation.specs.Terms.{Term, Lit, Var}
use Rattle.stateful_core.specs.declared.core_term.Act.{Act}
use Rattle.stateful_core.specs.declared.core_term.Act.TheVariants as act
use Rattle.stateful_core.specs.CoreCopies.{action_of, actions_of}
use Rattle.stateful_core.specs.StreamCores.{set_state}
use Rattle.stateful_core.specs.CoreTerms.{Action, StopUnless, Update, When, Actions, Nil, Cons, join}
use Rattle.act_moves.specs.Flags.{skip_with, close_unless}
use Rattle.act_moves.specs.Renumbering.{renumber, renumber_row, move_actions}
use Rattle.stateful_core.proofs.ActCopies.{update_copy, when_copy, join_join, act_push}
use Rattle.stage_machines.specs.JoinedGuards.{is_always}
use Rattle.stage_machines.proofs.JoinedGuards.{always_renumbered}
use Rattle.zip_linearise.specs.NestMachine.{guarded_acts}

-- the acts of a machine, and the act that holds its row
pub held_push : (f : ℕ → ℕ) (old : Actions) (moved acts s : List Act) (row : List Expr) (es : List Term) (w : ℕ) → s ≡ acts → w ≡ length es → actions_of moved ≡ join old (move_actions f (1 + w) StopUnless (actions_of s)) → terms_of row ≡ renumber_row f es → actions_of (moved ++ act.Update 1 row ∷ []) ≡ join old (join (move_actions f (1 + length es) StopUnless (actions_of acts)) (Cons (Update 1 (renumber_row f es)) Nil))
held_push f old moved acts s row es w is wide h r =
    act_push moved (act.Update 1 row) ∙ ap (λ z. join z (Cons (action_of (act.Update 1 row)) Nil)) h
    ∙ ap (λ z. join (join old (move_actions f (1 + w) StopUnless (actions_of s))) (Cons z Nil)) (update_copy 1 row ∙ ap (Update 1) r)
    ∙ ap (λ z. join (join old (move_actions f (1 + w) StopUnless (actions_of z))) (Cons (Update 1 (renumber_row f es)) Nil)) is
    ∙ ap (λ z. join (join old (move_actions f (1 + z) StopUnless (actions_of acts))) (Cons (Update 1 (renumber_row f es)) Nil)) wide
    ∙ join_join old (move_actions f (1 + length es) StopUnless (actions_of acts)) (Cons (Update 1 (renumber_row f es)) Nil)

-- acts that end with one more, and then others
then_acts : (start held : List Act) (acts : Actions) (a : Action) (more last : Actions) → start ≡ [] → actions_of held ≡ join (actions_of start) (join acts (Cons a Nil)) → last ≡ join (actions_of held) more → last ≡ join acts (Cons a more)
then_acts start held acts a more last s h l =
    l ∙ ap (λ z. join z more) (h ∙ ap (λ z. join (actions_of z) (join acts (Cons a Nil))) s) ∙ join_join acts (Cons a Nil) more

pub holding_made : (start held : List Act) (acts : Actions) (a : Action) (last : Actions) → start ≡ [] → actions_of held ≡ join (actions_of start) (join acts (Cons a Nil)) → last ≡ join (actions_of held) (skip_with 1) → last ≡ join acts (Cons a (skip_with 1))
holding_made start held acts a last s h l = then_acts start held acts a (skip_with 1) last s h l

pub opening_made : (start held opened : List Act) (acts : Actions) (a : Action) (place : ℕ) (row : List Expr) (es : List Term) (last : Actions) → start ≡ [] → actions_of held ≡ join (actions_of start) (join acts (Cons a Nil)) → opened ≡ held ++ act.Update place row ∷ [] → terms_of row ≡ es → last ≡ join (actions_of opened) (skip_with 1) → last ≡ join acts (Cons a (Cons (Update place es) (skip_with 1)))
opening_made start held opened acts a place row es last s h t r l =
    then_acts start held acts a (Cons (Update place es) (skip_with 1)) last s h
    (l ∙ ap (λ z. join z (skip_with 1)) (ap actions_of t ∙ act_push held (act.Update place row))
    ∙ join_join (actions_of held) (Cons (action_of (act.Update place row)) Nil) (skip_with 1)
    ∙ ap (λ z. join (actions_of held) (Cons z (skip_with 1))) (update_copy place row ∙ ap (Update place) r))

-- the acts of the inner machine, without or with a test of its guard
module _ (f : ℕ → ℕ) (k : ℕ) (guard : Term) (acts s : List Act) (old last : Actions) (is : s ≡ acts) where
  pub inner_always : is_always guard ≡ true → last ≡ join old (move_actions f k close_unless (actions_of s)) → last ≡ join old (guarded_acts (renumber f guard) (move_actions f k close_unless (actions_of acts)))
  inner_always always l =
      l ∙ ap (λ z. join old (move_actions f k close_unless (actions_of z))) is
      ∙ ap (λ t. join old (if t then move_actions f k close_unless (actions_of acts) else Cons (close_unless (renumber f guard)) (move_actions f k close_unless (actions_of acts))))
      (sym always ∙ sym (always_renumbered f guard))

  pub inner_guarded : (mid : Actions) (g : Term) → is_always guard ≡ false → g ≡ renumber f guard → mid ≡ join old (Cons (close_unless g) Nil) → last ≡ join mid (move_actions f k close_unless (actions_of s)) → last ≡ join old (guarded_acts (renumber f guard) (move_actions f k close_unless (actions_of acts)))
  inner_guarded mid g sometimes g_is m l =
      l ∙ ap (λ z. join z (move_actions f k close_unless (actions_of s))) (m ∙ ap (λ z. join old (Cons (close_unless z) Nil)) g_is)
      ∙ ap (λ z. join (join old (Cons (close_unless (renumber f guard)) Nil)) (move_actions f k close_unless (actions_of z))) is
      ∙ join_join old (Cons (close_unless (renumber f guard)) Nil) (move_actions f k close_unless (actions_of acts))
      ∙ ap (λ t. join old (if t then move_actions f k close_unless (actions_of acts) else Cons (close_unless (renumber f guard)) (move_actions f k close_unless (actions_of acts))))
      (sym sometimes ∙ sym (always_renumbered f guard))

-- the acts of the right machine, and the act that makes the left one due
pub right_made : (f : ℕ → ℕ) (k : ℕ) (acts s : List Act) (old mid last : Actions) → s ≡ acts → mid ≡ join old (move_actions f k StopUnless (actions_of s)) → last ≡ join mid (set_state (Lit 0 ∷ [])) → last ≡ join old (join (move_actions f k StopUnless (actions_of acts)) (set_state (Lit 0 ∷ [])))
right_made f k acts s old mid last is m l =
    l ∙ ap (λ z. join z (set_state (Lit 0 ∷ []))) (m ∙ ap (λ z. join old (move_actions f k StopUnless (actions_of z))) is)
    ∙ join_join old (move_actions f k StopUnless (actions_of acts)) (set_state (Lit 0 ∷ []))

-- a choice by the flag, and then other acts
pub choice_first : (start none opened made : List Act) (k : ℕ) (more last : Actions) → start ≡ [] → none ≡ [] → made ≡ start ++ act.When (expr.Var k) none opened ∷ [] → last ≡ join (actions_of made) more → last ≡ Cons (When (Var k) Nil (actions_of opened)) more
choice_first start none opened made k more last s n m l =
    l
    ∙ ap (λ z. join z more)
    (ap actions_of m ∙ act_push start (act.When (expr.Var k) none opened) ∙ ap (λ z. join (actions_of z) (Cons (action_of (act.When (expr.Var k) none opened)) Nil)) s)
    ∙ ap (λ z. Cons z more) (when_copy (expr.Var k) none opened ∙ ap (λ z. When (Var k) (actions_of z) (actions_of opened)) n)
