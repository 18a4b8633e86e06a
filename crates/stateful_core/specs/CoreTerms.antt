-- Plain copies of core terms. Every definition speaks of these.
use Rattle.std.specs.Prelude.{ℕ, List}
use Rattle.list_denotation.specs.Terms.{Term}

-- an act of a turn, and acts in order
mutual
  pub data Action : Type 0 where
    Let : Term → Action
    Read : ℕ → Term → Action
    KeepIf StopUnless : Term → Action
    Update : ℕ → List Term → Action
    When : Term → Actions → Actions → Action

  pub data Actions : Type 0 where
    Nil : Actions
    Cons : Action → Actions → Actions

-- a core term: rows of turns over a state, such turns over rows, rows for each row, and rows side by side
pub data CoreTerm : Type 0 where
  Lin : (scope : ℕ) → (init : List Term) → (guard : Term) → (acts : Actions) → (item : List Term) → CoreTerm
  Tr : (scope : ℕ) → (of : CoreTerm) → (init : List Term) → (guard : Term) → (acts : Actions) → (item : List Term) → CoreTerm
  Nest Zip : CoreTerm → CoreTerm → CoreTerm

-- acts after acts
abbrev pub join : Actions → Actions → Actions
join Nil more = more
join (Cons a acts) more = Cons a (join acts more)
