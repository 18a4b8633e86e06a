-- The temporaries that the statements of a turn use.
use Rattle.std.specs.Prelude.{ℕ, max, List, [], ◌∷◌}
use Rattle.list_denotation.specs.Terms.{Term}
use Rattle.expr_lower.specs.Costs.{temps_of}
use Rattle.stateful_core.specs.CoreTerms.{Action, Let, Read, KeepIf, StopUnless, Update, When, Actions, Nil, Cons}

abbrev pub row_temps : List Term → ℕ
row_temps [] = 0
row_temps (e ∷ es) = max (temps_of e) (row_temps es)

abbrev mutual
  pub action_temps : Action → ℕ
  action_temps (Let e) = temps_of e
  action_temps (Read k e) = temps_of e
  action_temps (KeepIf e) = temps_of e
  action_temps (StopUnless e) = temps_of e
  action_temps (Update k es) = row_temps es
  action_temps (When e a b) = max (temps_of e) (max (acts_temps a) (acts_temps b))

  pub acts_temps : Actions → ℕ
  acts_temps Nil = 0
  acts_temps (Cons a acts) = max (action_temps a) (acts_temps acts)
