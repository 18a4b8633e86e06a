-- How many acts there are, those inside others included.
use Rattle.std.specs.Prelude.{ℕ, ◌+◌}
use Rattle.stateful_core.specs.CoreTerms.{Action, Let, Read, KeepIf, StopUnless, Update, When, Actions, Nil, Cons}

abbrev mutual
  pub action_size : Action → ℕ
  action_size (Let e) = 1
  action_size (Read k e) = 1
  action_size (KeepIf e) = 1
  action_size (StopUnless e) = 1
  action_size (Update k es) = 1
  action_size (When e a b) = actions_size a + actions_size b + 1

  pub actions_size : Actions → ℕ
  actions_size Nil = 0
  actions_size (Cons a acts) = action_size a + actions_size acts
