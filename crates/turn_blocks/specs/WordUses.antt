-- Which words acts read, and which words of the state they set.
use Rattle.std.specs.Prelude.{ℕ, ◌+◌, ◌-◌, Bool, true, false, ◌&&◌, ◌||◌, not, ◌==◌, nat_le, nat_lt, List, length, if◌then◌else◌}
use Rattle.list_denotation.specs.Terms.{Term, Truth, Var}
use Rattle.list_denotation.specs.Typing.{is_undivided}
use Rattle.list_denotation.specs.Leaves.{all_leaves}
use Rattle.stateful_core.specs.CoreLeaves.{row_leaves, actions_leaves}
use Rattle.stateful_core.specs.CoreShapes.{actions_locals}
use Rattle.stateful_core.specs.CoreTerms.{Action, Let, Read, KeepIf, StopUnless, Update, When, Actions, Nil, Cons}
use Rattle.stateful_core.specs.MostWords.{is_other_leaf}

-- ---- reads, by the numbers of words

abbrev pub avoids : ℕ → Term → Bool
avoids k = all_leaves (is_other_leaf k 1)

abbrev pub row_avoids : ℕ → List Term → Bool
row_avoids k = row_leaves (is_other_leaf k 1)

-- the acts read none of so many words from one on
abbrev pub are_unread : ℕ → ℕ → Actions → Bool
are_unread first count = actions_leaves (is_other_leaf first count)

-- ---- writes, by the places of words in the state

-- the acts set none of so many words of the state from one on
module _ (first count : ℕ) where
  abbrev mutual
    pub action_keeps : Action → Bool
    action_keeps (Let e) = true
    action_keeps (Read k e) = true
    action_keeps (KeepIf e) = true
    action_keeps (StopUnless e) = true
    action_keeps (Update k es) = nat_le (k + length es) first || nat_le (first + count) k
    action_keeps (When e a b) = actions_keep a && actions_keep b

    pub actions_keep : Actions → Bool
    actions_keep Nil = true
    actions_keep (Cons a acts) = action_keeps a && actions_keep acts

-- the acts don't lead on: one of them ends each turn that comes to it
abbrev pub never_go_on : Actions → Bool
never_go_on Nil = false
never_go_on (Cons (KeepIf (Truth false)) acts) = true
never_go_on (Cons (StopUnless (Truth false)) acts) = true
never_go_on (Cons a acts) = never_go_on acts

-- ---- what may be done later, or not at all

-- what a new local word comes to: it is tested at once and not read again; it is not read at all; it is another word; or it
-- has a variable of its own
pub data LetUse : Type 0 where
  Tested Unused Own : LetUse
  Same : ℕ → LetUse

-- where so many words are bound before the state, which has so many
module _ (scope states : ℕ) where
  -- a word that none of these acts sets: one of the scope, or one of the state that they keep
  abbrev pub is_lasting_leaf : Actions → Term → Bool
  is_lasting_leaf acts (Var k) = nat_lt k scope || (nat_lt k (scope + states) && actions_keep (k - scope) 1 acts)
  is_lasting_leaf acts _ = true

  -- an update that may wait for the acts behind it: they neither read nor set its words, and set none that it reads
  abbrev pub may_wait : ℕ → List Term → Actions → Bool
  may_wait k es acts =
      are_unread (scope + k) (length es) acts && (actions_keep k (length es) acts && row_leaves (is_lasting_leaf acts) es)

  -- the word at this place of the state is as it is while the acts run: each update that sets it may wait
  abbrev pub stays : ℕ → Actions → Bool
  stays j Nil = true
  stays j (Cons (Update k es) acts) = if nat_le (k + length es) j || nat_lt j k then stays j acts else may_wait k es acts
  stays j (Cons (When e a b) acts) = actions_keep j 1 a && (actions_keep j 1 b && stays j acts)
  stays j (Cons a acts) = stays j acts

  -- a word that isn't set while the acts run
  abbrev pub is_steady : ℕ → Actions → Bool
  is_steady k acts = nat_lt k scope || (not (nat_lt k (scope + states)) || stays (k - scope) acts)

  -- the first of the acts tests this word, and no other reads it
  abbrev pub is_test_of : ℕ → Actions → Bool
  is_test_of x (Cons (KeepIf (Var k)) acts) = (k == x) && are_unread x 1 acts
  is_test_of x (Cons (StopUnless (Var k)) acts) = (k == x) && are_unread x 1 acts
  is_test_of x _ = false

  abbrev pub copy_use : Term → Actions → LetUse
  copy_use (Var k) acts = if is_steady k acts then Same k else Own
  copy_use _ acts = Own

  -- word x is new, and these acts are behind it. What follows them takes the last `width` local words, and so reads one with
  -- fewer behind it. The first word of all has its own variable
  abbrev pub let_use : ℕ → ℕ → Term → Actions → LetUse
  let_use width x e acts =
      if x == 0 then Own
      else if nat_lt (actions_locals acts) width then copy_use e acts
      else if is_test_of x acts then Tested
      else if is_undivided e && are_unread x 1 acts then Unused
      else copy_use e acts
