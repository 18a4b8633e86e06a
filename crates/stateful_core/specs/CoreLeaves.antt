-- The leaves of a core term: those of its expressions, and the names of the arrays that it reads.
use Rattle.std.specs.Prelude.{Bool, true, ◌&&◌, List}
use Rattle.std.specs.List.{list_all}
use Rattle.list_denotation.specs.Terms.{Term, Len}
use Rattle.list_denotation.specs.Leaves.{all_leaves}
use Rattle.list_denotation.specs.InputNames.{InputNames, is_named_leaf}
use Rattle.list_denotation.specs.Literals.{is_word_leaf}
use Rattle.stateful_core.specs.CoreTerms.{Action, Let, Read, KeepIf, StopUnless, Update, When, Actions, Nil, Cons, CoreTerm, Lin, Tr, Nest, Zip}

-- each leaf passes the test; an array that is read is one as its length is
module _ (test : Term → Bool) where
  abbrev pub row_leaves : List Term → Bool
  row_leaves = list_all (all_leaves test)

  abbrev mutual
    pub action_leaves : Action → Bool
    action_leaves (Let e) = all_leaves test e
    action_leaves (Read k e) = test (Len k) && all_leaves test e
    action_leaves (KeepIf e) = all_leaves test e
    action_leaves (StopUnless e) = all_leaves test e
    action_leaves (Update k es) = row_leaves es
    action_leaves (When e a b) = all_leaves test e && (actions_leaves a && actions_leaves b)

    pub actions_leaves : Actions → Bool
    actions_leaves Nil = true
    actions_leaves (Cons a acts) = action_leaves a && actions_leaves acts

  abbrev pub parts_leaves : List Term → Term → Actions → List Term → Bool
  parts_leaves init guard acts item = row_leaves init && (all_leaves test guard && (actions_leaves acts && row_leaves item))

  abbrev pub core_leaves : CoreTerm → Bool
  core_leaves (Lin scope init guard acts item) = parts_leaves init guard acts item
  core_leaves (Tr scope of init guard acts item) = core_leaves of && parts_leaves init guard acts item
  core_leaves (Nest of inner) = core_leaves of && core_leaves inner
  core_leaves (Zip left right) = core_leaves left && core_leaves right

-- the term names no other input as an array or as an int
abbrev pub core_names_inputs : InputNames → CoreTerm → Bool
core_names_inputs may = core_leaves (is_named_leaf may)

-- each number in the term is a word
abbrev pub core_has_words : CoreTerm → Bool
core_has_words = core_leaves is_word_leaf
