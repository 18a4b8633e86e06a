-- Acts whose words have other numbers add at most as many words.
use Rattle.std.proofs.Common.{◌≡◌, ℕ, ◌+◌, ◌≤◌, List, [], ◌∷◌, length, Bool, true, false, ◌&&◌, ◌||◌, refl, sym, subst, arith}
use Rattle.std.specs.Prelude.{IsTrue, nat_lt, nat_le, not, if◌then◌else◌}
use Rattle.std.proofs.lemmas.Bool.{ltb-true, ltb-false, leb-true}
use Rattle.strm_num.proofs.Truths.{both_true}
use Rattle.list_denotation.specs.Terms.{Term, Var}
use Rattle.stateful_core.specs.CoreTerms.{Action, Let, Read, KeepIf, StopUnless, Update, When, Actions, Nil, Cons, join}
use Rattle.stateful_core.specs.CoreLeaves.{row_leaves}
use Rattle.stateful_core.specs.CoreShapes.{action_locals}
use Rattle.stateful_core.specs.MostWords.{is_other_leaf, is_written_straight, action_words, actions_words}
use Rattle.stateful_core.specs.StreamCores.{let_all}
use Rattle.stateful_core.specs.WellFormed.{is_sure, all_sure, is_sound_action, are_sound_actions}
use Rattle.act_moves.specs.Renumbering.{renumber, renumber_row, move_action, move_actions}
use Rattle.act_moves.proofs.RenumberedLeaves.{length_renumbered, row_renumbered}

-- ---- acts

pub words_join : (e : ℕ) (a b : Actions) → actions_words e (join a b) ≡ actions_words e a + actions_words e b
words_join e Nil b = omega arith
words_join e (Cons x a) b = omega (arith, words_join e a b)

pub words_lets : (e : ℕ) (es : List Term) (more : Actions) → actions_words e (let_all es more) ≡ length es + actions_words e more
words_lets e [] more = omega arith
words_lets e (t ∷ es) more = omega (arith, words_lets e es more)

-- ---- updates

-- a word is outside of so many from one on
abbrev pub Outside : ℕ → ℕ → ℕ → Type 0
Outside first count i = first ≤ i → first + count ≤ i

other_outside : (first count i : ℕ) → IsTrue (is_other_leaf first count (Var i)) → Outside first count i
other_outside first count i h low = by_places (nat_lt i first) (nat_lt i (first + count)) refl refl h
  where
    by_places : (t u : Bool) → nat_lt i first ≡ t → nat_lt i (first + count) ≡ u → IsTrue (t || not u) → first + count ≤ i
    by_places true u p q s = absurd (omega (arith, ltb-true i first p))
    by_places false true p q s = absurd cc
    by_places false false p q s = ltb-false i (first + count) q

outside_other : (first count i : ℕ) → Outside first count i → IsTrue (is_other_leaf first count (Var i))
outside_other first count i o = by_places (nat_lt i first) (nat_lt i (first + count)) refl refl
  where
    by_places : (t u : Bool) → nat_lt i first ≡ t → nat_lt i (first + count) ≡ u → IsTrue (t || not u)
    by_places true u p q = refl
    by_places false true p q = absurd (omega (arith, o, ltb-false i first p, ltb-true i (first + count) q))
    by_places false false p q = refl

-- an update may be written at once where the numbers of the words that it reads are outside of those that it is written over
pub straight_renumbered : (f : ℕ → ℕ) (first : ℕ) (test : Term → Bool) (es : List Term) → ((i : ℕ) → IsTrue (test (Var i)) → Outside first (length es) (f i)) → IsTrue (row_leaves test es) → IsTrue (is_written_straight first (renumber_row f es))
straight_renumbered f first test es outside h =
    subst (λ n. IsTrue (row_leaves (is_other_leaf first n) (renumber_row f es))) (sym (length_renumbered f es))
    (row_renumbered f test (is_other_leaf first (length es)) other es h)
  where
    other : (e : Term) → IsTrue (test e) → IsTrue (is_other_leaf first (length es) (renumber f e))
    other (Var i) p = outside_other first (length es) (f i) (outside i p)
    other _ p = refl

-- and then it counts for nothing
pub straight_words : (scope k : ℕ) (es : List Term) → IsTrue (is_written_straight (scope + k) es) → action_words scope (Update k es) ≡ 0
straight_words scope k es h = by_form (is_written_straight (scope + k) es) h
  where
    by_form : (t : Bool) → IsTrue t → (if t then 0 else length es) ≡ 0
    by_form true p = refl
    by_form false p = absurd cc

if_straight : (a b : Bool) (n m : ℕ) → m ≡ n → (IsTrue a → IsTrue b) → (if b then 0 else m) ≤ (if a then 0 else n)
if_straight true true n m e h = omega arith
if_straight true false n m e h = absurd (let p : IsTrue false = h refl in cc)
if_straight false true n m e h = omega arith
if_straight false false n m e h = omega arith

-- ---- acts with other numbers

-- Acts over m words of state in a scope of so many words, moved k words further on in another scope: where no word of the state
-- is taken for another one, an update that could be written at once still can.
module _ (f : ℕ → ℕ) (k m from to : ℕ) (apart : (i at count : ℕ) → at + count ≤ m → Outside (from + at) count i → Outside (to + (k + at)) count (f i))
    (halt : Term → Action) (halts : (e : Term) → action_words to (halt e) ≤ 3) where
  mutual
    act_words_moved : (a : Action) (n : ℕ) → IsTrue (is_sound_action m n a) → action_words to (move_action f k halt a) ≤ action_words from a
    act_words_moved (Let e) n h = omega arith
    act_words_moved (Read i e) n h = omega arith
    act_words_moved (KeepIf e) n h = omega arith
    act_words_moved (StopUnless e) n h = halts (renumber f e)
    act_words_moved (Update i es) n h =
        let p = both_true (nat_le (i + length es) m) (all_sure n es) h in
        if_straight (is_written_straight (from + i) es) (is_written_straight (to + (k + i)) (renumber_row f es)) (length es)
        (length (renumber_row f es)) (length_renumbered f es)
        (straight_renumbered f (to + (k + i)) (is_other_leaf (from + i) (length es)) es
        (λ j q. apart j i (length es) (leb-true (i + length es) m p.0) (other_outside (from + i) (length es) j q)))
    act_words_moved (When e a b) n h =
        let p = both_true (is_sure n e) (are_sound_actions m n a && are_sound_actions m n b) h in
        let q = both_true (are_sound_actions m n a) (are_sound_actions m n b) p.1 in
        omega (arith, words_moved a n q.0, words_moved b n q.1)

    pub words_moved : (acts : Actions) (n : ℕ) → IsTrue (are_sound_actions m n acts) → actions_words to (move_actions f k halt acts) ≤ actions_words from acts
    words_moved Nil n h = omega arith
    words_moved (Cons a acts) n h =
        let p = both_true (is_sound_action m n a) (are_sound_actions m (n + action_locals a) acts) h in
        omega (arith, act_words_moved a n p.0, words_moved acts (n + action_locals a) p.1)
