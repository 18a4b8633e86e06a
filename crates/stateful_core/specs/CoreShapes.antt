-- How many words a core term has around it, in its rows, and in its turns.
use Rattle.std.specs.Prelude.{ℕ, ◌+◌, Bool, true, false, ◌&&◌, ◌||◌, length}
use Rattle.stateful_core.specs.CoreTerms.{Action, Let, Read, KeepIf, StopUnless, Update, When, Actions, Nil, Cons, CoreTerm, Lin, Tr, Nest, Zip}

-- the local words that an act adds for those behind it
abbrev pub action_locals : Action → ℕ
action_locals (Let e) = 1
action_locals (Read k e) = 1
action_locals (KeepIf e) = 0
action_locals (StopUnless e) = 0
action_locals (Update k es) = 0
action_locals (When e a b) = 0

abbrev pub actions_locals : Actions → ℕ
actions_locals Nil = 0
actions_locals (Cons a acts) = action_locals a + actions_locals acts

-- the bound words of the scope in which the term stands
abbrev pub core_scope : CoreTerm → ℕ
core_scope (Lin scope init guard acts item) = scope
core_scope (Tr scope of init guard acts item) = scope
core_scope (Nest of inner) = core_scope of
core_scope (Zip left right) = core_scope left

-- the words of its rows
abbrev pub core_width : CoreTerm → ℕ
core_width (Lin scope init guard acts item) = length item
core_width (Tr scope of init guard acts item) = length item
core_width (Nest of inner) = core_width inner
core_width (Zip left right) = core_width left + core_width right

-- whether a Zip stands in the term, at any depth
abbrev pub has_zip : CoreTerm → Bool
has_zip (Lin scope init guard acts item) = false
has_zip (Tr scope of init guard acts item) = has_zip of
has_zip (Nest of inner) = has_zip of || has_zip inner
has_zip (Zip left right) = true

-- each turn of the acts that doesn't stop or trap gives a row: no KeepIf stands in them, at any depth
abbrev mutual
  pub is_exact_action : Action → Bool
  is_exact_action (Let e) = true
  is_exact_action (Read k e) = true
  is_exact_action (KeepIf e) = false
  is_exact_action (StopUnless e) = true
  is_exact_action (Update k es) = true
  is_exact_action (When e a b) = are_exact_actions a && are_exact_actions b

  pub are_exact_actions : Actions → Bool
  are_exact_actions Nil = true
  are_exact_actions (Cons a acts) = is_exact_action a && are_exact_actions acts
