-- A bound on the words of a core term, and so on the variables of its loops.
use Rattle.std.specs.Prelude.{ℕ, ◌+◌, ◌*◌, Bool, true, ◌||◌, not, nat_lt, List, [], ◌∷◌, length, max, if◌then◌else◌}
use Rattle.std.specs.List.{list_all}
use Rattle.list_denotation.specs.Terms.{Term, Lit, Truth, Var, Param, Len, Neg, Not, Bin, And, Or, If}
use Rattle.list_denotation.specs.Leaves.{all_leaves}
use Rattle.stateful_core.specs.CoreTerms.{Action, Let, Read, KeepIf, StopUnless, Update, When, Actions, Nil, Cons, CoreTerm, Lin, Tr, Nest, Zip}
use Rattle.stateful_core.specs.CoreShapes.{core_scope, core_width}

-- ---- temporaries

-- one more than this for an expression with parts, and none for one without
abbrev pub kept_aside : Term → ℕ → ℕ
kept_aside (Lit w) n = 0
kept_aside (Truth b) n = 0
kept_aside (Var k) n = 0
kept_aside (Param k) n = 0
kept_aside (Len k) n = 0
kept_aside (Neg a) n = n + 1
kept_aside (Not a) n = n + 1
kept_aside (Bin op a b) n = n + 1
kept_aside (And a b) n = n + 1
kept_aside (Or a b) n = n + 1
kept_aside (If c a b) n = n + 1

-- a bound on the temporaries of an expression: one for each right operand with parts, those inside it included
abbrev pub most_temps : Term → ℕ
most_temps (Lit w) = 0
most_temps (Truth b) = 0
most_temps (Var k) = 0
most_temps (Param k) = 0
most_temps (Len k) = 0
most_temps (Neg a) = most_temps a
most_temps (Not a) = most_temps a
most_temps (Bin op a b) = max (most_temps a) (kept_aside b (most_temps b))
most_temps (And a b) = max (most_temps a) (most_temps b)
most_temps (Or a b) = max (most_temps a) (most_temps b)
most_temps (If c a b) = max (most_temps c) (max (most_temps a) (most_temps b))

abbrev pub row_temps : List Term → ℕ
row_temps [] = 0
row_temps (e ∷ es) = max (most_temps e) (row_temps es)

abbrev mutual
  pub action_temps : Action → ℕ
  action_temps (Let e) = most_temps e
  action_temps (Read k e) = most_temps e
  action_temps (KeepIf e) = most_temps e
  action_temps (StopUnless e) = most_temps e
  action_temps (Update k es) = row_temps es
  action_temps (When e a b) = max (most_temps e) (max (actions_temps a) (actions_temps b))

  pub actions_temps : Actions → ℕ
  actions_temps Nil = 0
  actions_temps (Cons a acts) = max (action_temps a) (actions_temps acts)

abbrev pub parts_temps : List Term → Term → Actions → List Term → ℕ
parts_temps init guard acts item = max (row_temps init) (max (most_temps guard) (max (actions_temps acts) (row_temps item)))

abbrev pub core_temps : CoreTerm → ℕ
core_temps (Lin scope init guard acts item) = parts_temps init guard acts item
core_temps (Tr scope of init guard acts item) = max (core_temps of) (parts_temps init guard acts item)
core_temps (Nest of inner) = max (core_temps of) (core_temps inner)
core_temps (Zip left right) = max (core_temps left) (core_temps right)

-- ---- words

-- the leaf is none of so many bound words from one on
abbrev pub is_other_leaf : ℕ → ℕ → Term → Bool
is_other_leaf first count (Var k) = nat_lt k first || not (nat_lt k (first + count))
is_other_leaf first count _ = true

-- no expression of a row reads a word that the row is written over, so that each may be written at once
abbrev pub is_written_straight : ℕ → List Term → Bool
is_written_straight first es = list_all (all_leaves (is_other_leaf first (length es))) es

-- the words that acts add to those of a scope and a state: the local words, one for each word of an update that has to be
-- computed aside, one for each test, and two for each choice of acts. A StopUnless counts as a choice with a test in it, which
-- it becomes where it stops an inner stream alone
module _ (scope : ℕ) where
  abbrev mutual
    pub action_words : Action → ℕ
    action_words (Let e) = 1
    action_words (Read k e) = 1
    action_words (KeepIf e) = 1
    action_words (StopUnless e) = 3
    action_words (Update k es) = if is_written_straight (scope + k) es then 0 else length es
    action_words (When e a b) = actions_words a + actions_words b + 2

    pub actions_words : Actions → ℕ
    actions_words Nil = 0
    actions_words (Cons a acts) = action_words a + actions_words acts

-- the state, what the acts add, and the row
abbrev pub parts_words : ℕ → List Term → Actions → List Term → ℕ
parts_words scope init acts item = length init + actions_words scope acts + length item

-- the words that a term adds to those of its scope. A Nest adds a flag that an inner stream is open, two choices of acts, and
-- a test in each. A Zip adds a flag that the right arm is due, the left row once more, and a choice with a test
abbrev pub added_words : CoreTerm → ℕ
added_words (Lin scope init guard acts item) = parts_words scope init acts item
added_words (Tr scope of init guard acts item) = added_words of + parts_words scope init acts item
added_words (Nest of inner) = added_words of + added_words inner + 7
added_words (Zip left right) = added_words left + added_words right + core_width left + 4

-- with those of the scope, six for each temporary, and 40 for what is done with the rows and for guards, at expressions of
-- this depth
abbrev pub most_words : CoreTerm → ℕ → ℕ
most_words c d = core_scope c + added_words c + 6 * max d (core_temps c) + 40
