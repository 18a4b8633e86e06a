-- Other numbers for the words that expressions and acts read.
use Rattle.std.specs.Prelude.{ℕ, ◌+◌, List, [], ◌∷◌, nat_lt, if◌then◌else◌}
use Rattle.list_denotation.specs.Terms.{Term, Lit, Truth, Var, Param, Len, Neg, Not, Bin, And, Or, If}
use Rattle.stateful_core.specs.CoreTerms.{Action, Let, Read, KeepIf, StopUnless, Update, When, Actions, Nil, Cons}

-- the number of word k, where there is room for d more words from word p on
abbrev pub with_room : ℕ → ℕ → ℕ → ℕ
with_room p d k = if nat_lt k p then k else k + d

-- the expression, with these numbers for its words
abbrev pub renumber : (ℕ → ℕ) → Term → Term
renumber f (Lit w) = Lit w
renumber f (Truth b) = Truth b
renumber f (Var k) = Var (f k)
renumber f (Param k) = Param k
renumber f (Len k) = Len k
renumber f (Neg a) = Neg (renumber f a)
renumber f (Not a) = Not (renumber f a)
renumber f (Bin op a b) = Bin op (renumber f a) (renumber f b)
renumber f (And a b) = And (renumber f a) (renumber f b)
renumber f (Or a b) = Or (renumber f a) (renumber f b)
renumber f (If c a b) = If (renumber f c) (renumber f a) (renumber f b)

abbrev pub renumber_row : (ℕ → ℕ) → List Term → List Term
renumber_row f [] = []
renumber_row f (e ∷ es) = renumber f e ∷ renumber_row f es

-- acts over another state: their words have other numbers, what they write stands k words further on, and a StopUnless
-- becomes some act of its test
module _ (f : ℕ → ℕ) (k : ℕ) (halt : Term → Action) where
  abbrev mutual
    pub move_action : Action → Action
    move_action (Let e) = Let (renumber f e)
    move_action (Read i e) = Read i (renumber f e)
    move_action (KeepIf e) = KeepIf (renumber f e)
    move_action (StopUnless e) = halt (renumber f e)
    move_action (Update i es) = Update (k + i) (renumber_row f es)
    move_action (When e a b) = When (renumber f e) (move_actions a) (move_actions b)

    pub move_actions : Actions → Actions
    move_actions Nil = Nil
    move_actions (Cons a acts) = Cons (move_action a) (move_actions acts)
