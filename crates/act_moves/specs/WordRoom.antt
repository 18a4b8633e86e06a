-- Room for more words among those that expressions and acts read: numbers of 32 bits.
use Rattle.std.specs.Prelude.{ℕ, ◌+◌, ◌-◌, ◌^◌, ◌<◌, List, [], ◌∷◌}
use Rattle.list_denotation.specs.Terms.{Term, Lit, Truth, Var, Param, Len, Neg, Not, Bin, And, Or, If}
use Rattle.stateful_core.specs.CoreTerms.{Action, Let, Read, KeepIf, StopUnless, Update, When, Actions, Nil, Cons}
use Rattle.act_moves.specs.declared.renumbering.Room.{Room}
use Rattle.act_moves.specs.Renumbering.{with_room}

-- each word that the expression reads has a number below n
abbrev pub ReadsBelow : ℕ → Term → Type 0
ReadsBelow n (Lit w) = Unit {0}
ReadsBelow n (Truth b) = Unit {0}
ReadsBelow n (Var k) = k < n
ReadsBelow n (Param k) = Unit {0}
ReadsBelow n (Len k) = Unit {0}
ReadsBelow n (Neg a) = ReadsBelow n a
ReadsBelow n (Not a) = ReadsBelow n a
ReadsBelow n (Bin op a b) = ReadsBelow n a × ReadsBelow n b
ReadsBelow n (And a b) = ReadsBelow n a × ReadsBelow n b
ReadsBelow n (Or a b) = ReadsBelow n a × ReadsBelow n b
ReadsBelow n (If c a b) = ReadsBelow n c × (ReadsBelow n a × ReadsBelow n b)

abbrev pub RowReadsBelow : ℕ → List Term → Type 0
RowReadsBelow n [] = Unit {0}
RowReadsBelow n (e ∷ es) = ReadsBelow n e × RowReadsBelow n es

-- acts read words below n, and write from a word below m on
module _ (n m : ℕ) where
  abbrev mutual
    pub StaysBelow : Action → Type 0
    StaysBelow (Let e) = ReadsBelow n e
    StaysBelow (Read k e) = ReadsBelow n e
    StaysBelow (KeepIf e) = ReadsBelow n e
    StaysBelow (StopUnless e) = ReadsBelow n e
    StaysBelow (Update k es) = (k < m) × RowReadsBelow n es
    StaysBelow (When e a b) = ReadsBelow n e × (StayBelow a × StayBelow b)

    pub StayBelow : Actions → Type 0
    StayBelow Nil = Unit {0}
    StayBelow (Cons a acts) = StaysBelow a × StayBelow acts

-- the number of word k in a room
abbrev pub number_in : Room → ℕ → ℕ
number_in r k = with_room r.then_at r.then_by (with_room r.at r.by k)

-- words below this have a number of 32 bits in a room
abbrev pub most_in : Room → ℕ
most_in r = 2 ^ 32 - (r.by + r.then_by)
