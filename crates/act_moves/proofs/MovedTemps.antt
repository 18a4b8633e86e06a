-- Expressions and acts whose words have other numbers have as many temporaries.
use Rattle.std.proofs.Common.{◌≡◌, ℕ, ◌≤◌, List, [], ◌∷◌, ◌++◌, refl, ◌∙◌, arith}
use Rattle.list_denotation.specs.Terms.{Term, Lit, Truth, Var, Param, Len, Neg, Not, Bin, And, Or, If}
use Rattle.stateful_core.specs.CoreTerms.{Action, Let, Read, KeepIf, StopUnless, Update, When, Actions, Nil, Cons, join}
use Rattle.stateful_core.specs.MostWords.{kept_aside, most_temps, row_temps, action_temps, actions_temps}
use Rattle.stateful_core.specs.StreamCores.{let_all}
use Rattle.act_moves.specs.Renumbering.{renumber, renumber_row, move_action, move_actions}

module _ (f : ℕ → ℕ) where
  aside_renumbered : (e : Term) (n : ℕ) → kept_aside (renumber f e) n ≡ kept_aside e n
  aside_renumbered (Lit w) n = refl
  aside_renumbered (Truth b) n = refl
  aside_renumbered (Var k) n = refl
  aside_renumbered (Param k) n = refl
  aside_renumbered (Len k) n = refl
  aside_renumbered (Neg a) n = refl
  aside_renumbered (Not a) n = refl
  aside_renumbered (Bin op a b) n = refl
  aside_renumbered (And a b) n = refl
  aside_renumbered (Or a b) n = refl
  aside_renumbered (If c a b) n = refl

  pub temps_renumbered : (e : Term) → most_temps (renumber f e) ≡ most_temps e
  temps_renumbered (Lit w) = refl
  temps_renumbered (Truth b) = refl
  temps_renumbered (Var k) = refl
  temps_renumbered (Param k) = refl
  temps_renumbered (Len k) = refl
  temps_renumbered (Neg a) = temps_renumbered a
  temps_renumbered (Not a) = temps_renumbered a
  temps_renumbered (Bin op a b) = rw (temps_renumbered a, temps_renumbered b, aside_renumbered b (most_temps b)) refl
  temps_renumbered (And a b) = rw (temps_renumbered a, temps_renumbered b) refl
  temps_renumbered (Or a b) = rw (temps_renumbered a, temps_renumbered b) refl
  temps_renumbered (If c a b) = rw (temps_renumbered c, temps_renumbered a, temps_renumbered b) refl

  pub row_temps_renumbered : (es : List Term) → row_temps (renumber_row f es) ≡ row_temps es
  row_temps_renumbered [] = refl
  row_temps_renumbered (e ∷ es) = rw (temps_renumbered e, row_temps_renumbered es) refl

  module _ (k : ℕ) (halt : Term → Action) (halts : (e : Term) → action_temps (halt e) ≡ most_temps e) where
    mutual
      act_temps_moved : (a : Action) → action_temps (move_action f k halt a) ≡ action_temps a
      act_temps_moved (Let e) = temps_renumbered e
      act_temps_moved (Read i e) = temps_renumbered e
      act_temps_moved (KeepIf e) = temps_renumbered e
      act_temps_moved (StopUnless e) = halts (renumber f e) ∙ temps_renumbered e
      act_temps_moved (Update i es) = row_temps_renumbered es
      act_temps_moved (When e a b) = rw (temps_renumbered e, temps_moved a, temps_moved b) refl

      pub temps_moved : (acts : Actions) → actions_temps (move_actions f k halt acts) ≡ actions_temps acts
      temps_moved Nil = refl
      temps_moved (Cons a acts) = rw (act_temps_moved a, temps_moved acts) refl

-- ---- rows and acts behind others

-- rows and acts in one have at most n temporaries where each of them has
module _ (n : ℕ) where
  pub row_temps_append : (es fs : List Term) → row_temps es ≤ n → row_temps fs ≤ n → row_temps (es ++ fs) ≤ n
  row_temps_append [] fs h k = k
  row_temps_append (e ∷ es) fs h k = let rest : row_temps (es ++ fs) ≤ n = row_temps_append es fs (omega arith) k in omega arith

  pub temps_join : (a b : Actions) → actions_temps a ≤ n → actions_temps b ≤ n → actions_temps (join a b) ≤ n
  temps_join Nil b h k = k
  temps_join (Cons x a) b h k = let rest : actions_temps (join a b) ≤ n = temps_join a b (omega arith) k in omega arith

  pub temps_lets : (es : List Term) (more : Actions) → row_temps es ≤ n → actions_temps more ≤ n → actions_temps (let_all es more) ≤ n
  temps_lets [] more h k = k
  temps_lets (e ∷ es) more h k = let rest : actions_temps (let_all es more) ≤ n = temps_lets es more (omega arith) k in omega arith
