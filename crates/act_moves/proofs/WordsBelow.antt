-- Sound expressions and acts read words below a number, and which numbers words have in a room.
use Rattle.std.proofs.Common.{◌≡◌, ℕ, ◌+◌, ◌≤◌, ◌<◌, List, [], ◌∷◌, length, Bool, true, false, ◌&&◌, refl, arith}
use Rattle.std.specs.Prelude.{IsTrue, nat_lt, nat_le, if◌then◌else◌}
use Rattle.std.proofs.lemmas.Bool.{ltb-true, leb-true}
use Rattle.std.proofs.Math.Path.{fun_ext}
use Rattle.strm_num.proofs.Truths.{both_true}
use Rattle.list_denotation.specs.Scopes.{is_bound, all_bound}
use Rattle.list_denotation.specs.Terms.{Term, Lit, Truth, Var, Param, Len, Neg, Not, Bin, And, Or, If}
use Rattle.list_denotation.specs.Typing.{is_undivided, all_undivided}
use Rattle.stateful_core.specs.CoreTerms.{Action, Let, Read, KeepIf, StopUnless, Update, When, Actions, Nil, Cons}
use Rattle.stateful_core.specs.CoreShapes.{action_locals, actions_locals}
use Rattle.stateful_core.specs.MostWords.{action_words, actions_words}
use Rattle.stateful_core.specs.WellFormed.{is_sure, all_sure, is_sound_action, are_sound_actions}
use Rattle.act_moves.specs.Renumbering.{with_room}
use Rattle.act_moves.specs.WordRoom.{ReadsBelow, RowReadsBelow, StaysBelow, StayBelow, number_in}

-- ---- words that are read

module _ (n m : ℕ) (le : n ≤ m) where
  reads_below : (e : Term) → IsTrue (is_bound n e) → ReadsBelow m e
  reads_below (Lit w) h = tt
  reads_below (Truth b) h = tt
  reads_below (Var k) h = omega (arith, ltb-true k n h)
  reads_below (Param k) h = tt
  reads_below (Len k) h = tt
  reads_below (Neg a) h = reads_below a h
  reads_below (Not a) h = reads_below a h
  reads_below (Bin op a b) h = let p = both_true (is_bound n a) (is_bound n b) h in (reads_below a p.0, reads_below b p.1)
  reads_below (And a b) h = let p = both_true (is_bound n a) (is_bound n b) h in (reads_below a p.0, reads_below b p.1)
  reads_below (Or a b) h = let p = both_true (is_bound n a) (is_bound n b) h in (reads_below a p.0, reads_below b p.1)
  reads_below (If c a b) h =
      let p = both_true (is_bound n c) (is_bound n a && is_bound n b) h in
      let q = both_true (is_bound n a) (is_bound n b) p.1 in
      (reads_below c p.0, (reads_below a q.0, reads_below b q.1))

  row_reads_below : (es : List Term) → IsTrue (all_bound n es) → RowReadsBelow m es
  row_reads_below [] h = tt
  row_reads_below (e ∷ es) h = let p = both_true (is_bound n e) (all_bound n es) h in (reads_below e p.0, row_reads_below es p.1)

  pub sure_reads_below : (e : Term) → IsTrue (is_sure n e) → ReadsBelow m e
  sure_reads_below e h = reads_below e (both_true (is_bound n e) (is_undivided e) h).0

  pub sure_row_reads_below : (es : List Term) → IsTrue (all_sure n es) → RowReadsBelow m es
  sure_row_reads_below es h = row_reads_below es (both_true (all_bound n es) (all_undivided es) h).0

-- an act adds no more local words than are counted for it
locals_few : (scope : ℕ) (a : Action) → action_locals a ≤ action_words scope a
locals_few scope (Let e) = omega arith
locals_few scope (Read k e) = omega arith
locals_few scope (KeepIf e) = omega arith
locals_few scope (StopUnless e) = omega arith
locals_few scope (Update k es) = omega arith
locals_few scope (When e a b) = omega arith

pub all_locals_few : (scope : ℕ) (acts : Actions) → actions_locals acts ≤ actions_words scope acts
all_locals_few scope Nil = omega arith
all_locals_few scope (Cons a acts) = omega (arith, locals_few scope a, all_locals_few scope acts)

-- sound acts read words below the number of those that are bound before them and those that are counted for them
module _ (scope m to most : ℕ) (within : m < most) where
  mutual
    act_stays_below : (a : Action) (n : ℕ) → n + action_words scope a ≤ to → IsTrue (is_sound_action m n a) → StaysBelow to most a
    act_stays_below (Let e) n le h = reads_below n to (omega arith) e h
    act_stays_below (Read k e) n le h = sure_reads_below n to (omega arith) e h
    act_stays_below (KeepIf e) n le h = sure_reads_below n to (omega arith) e h
    act_stays_below (StopUnless e) n le h = sure_reads_below n to (omega arith) e h
    act_stays_below (Update k es) n le h =
        let p = both_true (nat_le (k + length es) m) (all_sure n es) h in
        (omega (arith, leb-true (k + length es) m p.0), sure_row_reads_below n to (omega arith) es p.1)
    act_stays_below (When e a b) n le h =
        let p = both_true (is_sure n e) (are_sound_actions m n a && are_sound_actions m n b) h in
        let q = both_true (are_sound_actions m n a) (are_sound_actions m n b) p.1 in
        (sure_reads_below n to (omega arith) e p.0, (acts_stay_below a n (omega arith) q.0, acts_stay_below b n (omega arith) q.1))

    pub acts_stay_below : (acts : Actions) (n : ℕ) → n + actions_words scope acts ≤ to → IsTrue (are_sound_actions m n acts) → StayBelow to most acts
    acts_stay_below Nil n le h = tt
    acts_stay_below (Cons a acts) n le h =
        let p = both_true (is_sound_action m n a) (are_sound_actions m (n + action_locals a) acts) h in
        (act_stays_below a n (omega arith) p.0, acts_stay_below acts (n + action_locals a) (omega (arith, locals_few scope a)) p.1)

-- ---- numbers in a room

pub no_room : (k : ℕ) → with_room 0 0 k ≡ k
no_room k = by_place (nat_lt k 0)
  where
    by_place : (t : Bool) → (if t then k else (k + 0)) ≡ k
    by_place true = refl
    by_place false = omega arith

pub one_room : (p d : ℕ) → number_in (record { at = p; by = d; then_at = 0; then_by = 0 }) ≡ with_room p d
one_room p d = fun_ext (λ k. no_room (with_room p d k))
