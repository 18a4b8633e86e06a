-- What the tests of writes say: words of the state that acts keep, and those that stay until all updates are done.
use Rattle.std.proofs.Common.{◌≡◌, ◌⊎◌, ℕ, ◌+◌, ◌-◌, ◌<◌, ◌≤◌, List, length, Bool, true, false, ◌&&◌, ◌||◌, refl, inl, inr, arith}
use Rattle.std.specs.Prelude.{IsTrue, not, nat_le, nat_lt, if◌then◌else◌}
use Rattle.std.proofs.lemmas.Bool.{leb-true, leb-false, ltb-true, ltb-false, le-leb, lt-ltb, or_parts}
use Rattle.strm_num.proofs.Truths.{both_true, true_both}
use Rattle.list_denotation.specs.Terms.{Term, Var}
use Rattle.stateful_core.specs.CoreLeaves.{row_leaves}
use Rattle.stateful_core.specs.CoreTerms.{Let, Read, KeepIf, StopUnless, Update, When, Actions, Nil, Cons}
use Rattle.stateful_core.specs.MostWords.{is_other_leaf}
use Rattle.turn_blocks.specs.WordUses.{are_unread, action_keeps, actions_keep, is_lasting_leaf, may_wait, stays}

-- ---- tests

pub either_true : (a b : Bool) → IsTrue (a || b) → IsTrue a ⊎ IsTrue b
either_true true b h = inl refl
either_true false b h = inr h

pub true_left : (a b : Bool) → IsTrue a → IsTrue (a || b)
true_left true b h = refl
true_left false b h = absurd cc

pub true_right : (a b : Bool) → IsTrue b → IsTrue (a || b)
true_right true b h = refl
true_right false b h = h

pub not_false : (a : Bool) → a ≡ false → IsTrue (not a)
not_false true h = absurd cc
not_false false h = refl

pub false_not : (a : Bool) → IsTrue (not a) → a ≡ false
false_not true h = absurd cc
false_not false h = refl

if_true : (b x y : Bool) → b ≡ true → IsTrue x → IsTrue (if b then x else y)
if_true true x y is h = h
if_true false x y is h = absurd cc

-- a word that is none of so many from one on
pub other_word : (first count m : ℕ) → IsTrue (is_other_leaf first count (Var m)) → (m < first) ⊎ (first + count ≤ m)
other_word first count m h = elim (either_true (nat_lt m first) (not (nat_lt m (first + count))) h) [
  | inl before ↦ inl (ltb-true m first before)
  | inr behind ↦ inr (ltb-false m (first + count) (false_not (nat_lt m (first + count)) behind))
]

pub word_other : (first count m : ℕ) → (m < first) ⊎ (first + count ≤ m) → IsTrue (is_other_leaf first count (Var m))
word_other first count m (inl before) = true_left (nat_lt m first) (not (nat_lt m (first + count))) (lt-ltb m first before)
word_other first count m (inr behind) =
    true_right (nat_lt m first) (not (nat_lt m (first + count))) (not_false (nat_lt m (first + count)) (at_least m (first + count) behind))
  where
    at_least : (m n : ℕ) → n ≤ m → nat_lt m n ≡ false
    at_least m n le = go (nat_lt m n) refl
      where
        go : (b : Bool) → nat_lt m n ≡ b → b ≡ false
        go true is = let lt = ltb-true m n is in absurd (omega (arith, lt, le))
        go false is = refl

-- ---- words that are kept

-- an update of n words from k on doesn't set these
outside : (k n first count : ℕ) → IsTrue (nat_le (k + n) first || nat_le (first + count) k) → (k + n ≤ first) ⊎ (first + count ≤ k)
outside k n first count h = elim (either_true (nat_le (k + n) first) (nat_le (first + count) k) h) [
  | inl before ↦ inl (leb-true (k + n) first before)
  | inr behind ↦ inr (leb-true (first + count) k behind)
]

outside_true : (k n first count : ℕ) → (k + n ≤ first) ⊎ (first + count ≤ k) → IsTrue (nat_le (k + n) first || nat_le (first + count) k)
outside_true k n first count (inl before) = true_left (nat_le (k + n) first) (nat_le (first + count) k) (le-leb (k + n) first before)
outside_true k n first count (inr behind) = true_right (nat_le (k + n) first) (nat_le (first + count) k) (le-leb (first + count) k behind)

-- an update that keeps words sets none of them
pub keeps_apart : (first count k : ℕ) (es : List Term) → IsTrue (action_keeps first count (Update k es)) → (k + length es ≤ first) ⊎ (first + count ≤ k)
keeps_apart first count k es h = outside k (length es) first count h

module _ (first count j : ℕ) (low : first ≤ j) (high : j < first + count) where
  apart_one : (k n : ℕ) → (k + n ≤ first) ⊎ (first + count ≤ k) → (k + n ≤ j) ⊎ (j + 1 ≤ k)
  apart_one k n (inl before) = inl (omega (arith, before, low))
  apart_one k n (inr behind) = inr (omega (arith, behind, high))

  -- acts that keep words keep each of them
  pub keep_one : (acts : Actions) → IsTrue (actions_keep first count acts) → IsTrue (actions_keep j 1 acts)
  keep_one Nil h = refl
  keep_one (Cons (Let e) acts) h = keep_one acts h
  keep_one (Cons (Read k e) acts) h = keep_one acts h
  keep_one (Cons (KeepIf e) acts) h = keep_one acts h
  keep_one (Cons (StopUnless e) acts) h = keep_one acts h
  keep_one (Cons (Update k es) acts) h =
      let p = both_true (action_keeps first count (Update k es)) (actions_keep first count acts) h in
      true_both (action_keeps j 1 (Update k es)) (actions_keep j 1 acts)
      (outside_true k (length es) j 1 (apart_one k (length es) (keeps_apart first count k es p.0))) (keep_one acts p.1)
  keep_one (Cons (When e a b) acts) h =
      let p = both_true (actions_keep first count a && actions_keep first count b) (actions_keep first count acts) h in
      let q = both_true (actions_keep first count a) (actions_keep first count b) p.0 in
      true_both (actions_keep j 1 a && actions_keep j 1 b) (actions_keep j 1 acts)
      (true_both (actions_keep j 1 a) (actions_keep j 1 b) (keep_one a q.0) (keep_one b q.1)) (keep_one acts p.1)

-- ---- words that stay

module _ (scope states : ℕ) where
  not_set : (k n j : ℕ) → (k + n ≤ j) ⊎ (j + 1 ≤ k) → (nat_le (k + n) j || nat_lt j k) ≡ true
  not_set k n j (inl before) = true_left (nat_le (k + n) j) (nat_lt j k) (le-leb (k + n) j before)
  not_set k n j (inr behind) = true_right (nat_le (k + n) j) (nat_lt j k) (lt-ltb j k (omega (arith, behind)))

  -- a word that acts keep stays
  pub kept_stays : (j : ℕ) (acts : Actions) → IsTrue (actions_keep j 1 acts) → IsTrue (stays scope states j acts)
  kept_stays j Nil h = refl
  kept_stays j (Cons (Let e) acts) h = kept_stays j acts h
  kept_stays j (Cons (Read k e) acts) h = kept_stays j acts h
  kept_stays j (Cons (KeepIf e) acts) h = kept_stays j acts h
  kept_stays j (Cons (StopUnless e) acts) h = kept_stays j acts h
  kept_stays j (Cons (Update k es) acts) h =
      let p = both_true (action_keeps j 1 (Update k es)) (actions_keep j 1 acts) h in
      if_true (nat_le (k + length es) j || nat_lt j k) (stays scope states j acts) (may_wait scope states k es acts)
      (not_set k (length es) j (keeps_apart j 1 k es p.0)) (kept_stays j acts p.1)
  kept_stays j (Cons (When e a b) acts) h =
      let p = both_true (actions_keep j 1 a && actions_keep j 1 b) (actions_keep j 1 acts) h in
      let q = both_true (actions_keep j 1 a) (actions_keep j 1 b) p.0 in
      true_both (actions_keep j 1 a) (actions_keep j 1 b && stays scope states j acts) q.0
      (true_both (actions_keep j 1 b) (stays scope states j acts) q.1 (kept_stays j acts p.1))

  -- what an update that may wait promises
  pub record Waits (k : ℕ) (es : List Term) (acts : Actions) : Type 0 where
    pub unread : IsTrue (are_unread (scope + k) (length es) acts)
    pub keeps : IsTrue (actions_keep k (length es) acts)
    pub lasting : IsTrue (row_leaves (is_lasting_leaf scope states acts) es)

  pub waits : (k : ℕ) (es : List Term) (acts : Actions) → IsTrue (may_wait scope states k es acts) → Waits k es acts
  waits k es acts h =
      let p = both_true (are_unread (scope + k) (length es) acts) (actions_keep k (length es) acts && row_leaves (is_lasting_leaf scope states acts) es) h in
      let q = both_true (actions_keep k (length es) acts) (row_leaves (is_lasting_leaf scope states acts) es) p.1 in
      record { unread = p.0; keeps = q.0; lasting = q.1 }

  module _ (k : ℕ) (es : List Term) (acts : Actions) (j : ℕ) where
    -- a word stays behind an update that leaves it, or may wait
    pub stays_behind : IsTrue (stays scope states j (Cons (Update k es) acts)) → IsTrue (stays scope states j acts)
    stays_behind h = go (nat_le (k + length es) j || nat_lt j k) refl h
      where
        go : (b : Bool) → (nat_le (k + length es) j || nat_lt j k) ≡ b → IsTrue (if b then stays scope states j acts else may_wait scope states k es acts) → IsTrue (stays scope states j acts)
        go true is h = h
        go false is h =
            let parts = or_parts (nat_le (k + length es) j) (nat_lt j k) is in
            let high = leb-false (k + length es) j parts.0 in
            let low = ltb-false j k parts.1 in
            kept_stays j acts (keep_one k (length es) j low high acts (waits k es acts h).keeps)

    -- a word that stays is none of those that are set at once
    pub not_set_at_once : may_wait scope states k es acts ≡ false → IsTrue (stays scope states j (Cons (Update k es) acts)) → (j < k) ⊎ (k + length es ≤ j)
    not_set_at_once none h = go (nat_le (k + length es) j || nat_lt j k) refl h
      where
        go : (b : Bool) → (nat_le (k + length es) j || nat_lt j k) ≡ b → IsTrue (if b then stays scope states j acts else may_wait scope states k es acts) → (j < k) ⊎ (k + length es ≤ j)
        go true is h = elim (either_true (nat_le (k + length es) j) (nat_lt j k) is) [
          | inl before ↦ inr (leb-true (k + length es) j before)
          | inr behind ↦ inl (ltb-true j k behind)
        ]
        go false is h = absurd cc

  -- a word that no act sets: one of the scope, or one of the state that is kept
  pub lasting_word : (acts : Actions) (k : ℕ) → IsTrue (is_lasting_leaf scope states acts (Var k)) → (k < scope) ⊎ ((k < scope + states) × IsTrue (actions_keep (k - scope) 1 acts))
  lasting_word acts k h = elim (either_true (nat_lt k scope) (nat_lt k (scope + states) && actions_keep (k - scope) 1 acts) h) [
    | inl before ↦ inl (ltb-true k scope before)
    | inr both ↦ inr (two both)
  ]
    where
      two : IsTrue (nat_lt k (scope + states) && actions_keep (k - scope) 1 acts) → (k < scope + states) × IsTrue (actions_keep (k - scope) 1 acts)
      two both = let p = both_true (nat_lt k (scope + states)) (actions_keep (k - scope) 1 acts) both in (ltb-true k (scope + states) p.0, p.1)
