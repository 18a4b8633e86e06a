-- A pass only adds marks, and where it adds none, no later one does.
use Rattle.std.proofs.Common.{◌≡◌, inl, inr, ◌⊎◌, ℕ, zero, suc, ◌+◌, ◌-◌, ◌<◌, ◌≤◌, Bool, true, false, List, [], ◌∷◌, length, refl, sym, ap, ◌∙◌, arith}
use Rattle.std.specs.Prelude.{◌&&◌, if◌then◌else◌, replicate}
use Rattle.std.proofs.lemmas.Bool.{cases_lt}
use Rattle.std.proofs.lemmas.List.{length-replicate}
use Rattle.loop_ir.specs.Statements.{Operand, Const, Var, Len, Int, Bin, Test, Less, Same, Both, Either, Not, Statement, Set, Read, If, Loop, Emit, EndRow, Ret, Block, Nil, Cons}
use Rattle.dead_code.proofs.KeptVariables.{count_within}
use Rattle.dead_code.specs.Live.{marked_count}
use Rattle.dead_code.specs.Needs.{is_marked, with_mark, with_operand, with_test, are_idle, needs_of_set, needs_of_choice, needs_of, needs_of_block, needs_in, needed}

-- each variable that is marked in the first list is marked in the second one, for as many variables
pub data IsWithin : List Bool → List Bool → Type 0 where
  None : IsWithin [] []
  Kept : {b : Bool} {m n : List Bool} → IsWithin m n → IsWithin (b ∷ m) (b ∷ n)
  Marked : {m n : List Bool} → IsWithin m n → IsWithin (false ∷ m) (true ∷ n)

pub within_refl : (m : List Bool) → IsWithin m m
within_refl [] = None
within_refl (b ∷ m) = Kept (within_refl m)

pub within_trans : {m n k : List Bool} → IsWithin m n → IsWithin n k → IsWithin m k
within_trans None None = None
within_trans (Kept p) (Kept q) = Kept (within_trans p q)
within_trans (Kept p) (Marked q) = Marked (within_trans p q)
within_trans (Marked p) (Kept q) = Marked (within_trans p q)

pub within_long : {m n : List Bool} → IsWithin m n → length n ≡ length m
within_long None = refl
within_long (Kept p) = ap suc (within_long p)
within_long (Marked p) = ap suc (within_long p)

count_more : (b : Bool) (m n : List Bool) → marked_count m ≤ marked_count n → marked_count (b ∷ m) ≤ marked_count (b ∷ n)
count_more true m n h = omega (arith, h)
count_more false m n h = h

count_same : (b : Bool) (m n : List Bool) → marked_count (b ∷ m) ≡ marked_count (b ∷ n) → marked_count m ≡ marked_count n
count_same true m n e = omega (arith, e)
count_same false m n e = e

pub within_count : {m n : List Bool} → IsWithin m n → marked_count m ≤ marked_count n
within_count None = omega arith
within_count (Kept {b} {m} {n} p) = count_more b m n (within_count p)
within_count (Marked p) = omega (arith, within_count p)

-- as many marks are the same marks
pub same_within : {m n : List Bool} → IsWithin m n → marked_count m ≡ marked_count n → n ≡ m
same_within None e = refl
same_within (Kept {b} {m} {n} p) e = ap (λ z. b ∷ z) (same_within p (count_same b m n e))
same_within (Marked p) e = absurd (omega (arith, within_count p, e))

pub within_both : {m n : List Bool} → IsWithin m n → IsWithin n m → n ≡ m
within_both p q = same_within p (omega (arith, within_count p, within_count q))

-- ---- each step adds marks

pub mark_within : (v : ℕ) (m : List Bool) → IsWithin m (with_mark v m)
mark_within v [] = None
mark_within zero (true ∷ m) = Kept (within_refl m)
mark_within zero (false ∷ m) = Marked (within_refl m)
mark_within (suc v) (b ∷ m) = Kept (mark_within v m)

pub operand_within : (w : Operand) (m : List Bool) → IsWithin m (with_operand w m)
operand_within (Const n) m = within_refl m
operand_within (Var v) m = mark_within v m
operand_within (Len a) m = within_refl m
operand_within (Int k) m = within_refl m
operand_within (Bin op a b) m = within_trans (operand_within a m) (operand_within b (with_operand a m))

both_within : (a b : Operand) (m : List Bool) → IsWithin m (with_operand b (with_operand a m))
both_within a b m = within_trans (operand_within a m) (operand_within b (with_operand a m))

pub test_within : (t : Test) (m : List Bool) → IsWithin m (with_test t m)
test_within (Less a b) m = both_within a b m
test_within (Same a b) m = both_within a b m
test_within (Both a b) m = within_trans (test_within a m) (test_within b (with_test a m))
test_within (Either a b) m = within_trans (test_within a m) (test_within b (with_test a m))
test_within (Not a) m = test_within a m

pub either_within : (b : Bool) (m n k : List Bool) → IsWithin m n → IsWithin m k → IsWithin m (if b then n else k)
either_within true m n k p q = p
either_within false m n k p q = q

set_within : (v : ℕ) (w : Operand) (m : List Bool) → IsWithin m (needs_of_set v w m)
set_within v w m = either_within (is_marked m v) m (with_operand w m) m (operand_within w m) (within_refl m)

pub choice_within : (t : Test) (a b : Block) (m : List Bool) → IsWithin m (needs_of_choice t a b m)
choice_within t a b m = either_within (are_idle m a && are_idle m b) m m (with_test t m) (within_refl m) (test_within t m)

mutual
  pub one_within : (s : Statement) (m : List Bool) → IsWithin m (needs_of s m)
  one_within (Set v w) m = set_within v w m
  one_within (Read v a w) m = set_within v w m
  one_within (If t a b) m =
      within_trans (block_within b m) (within_trans (block_within a (needs_of_block b m)) (choice_within t a b (needs_of_block a (needs_of_block b m))))
  one_within (Loop t body) m = within_trans (test_within t m) (block_within body (with_test t m))
  one_within (Emit w) m = operand_within w m
  one_within EndRow m = within_refl m
  one_within (Ret v) m = within_refl m

  pub block_within : (b : Block) (m : List Bool) → IsWithin m (needs_of_block b m)
  block_within Nil m = within_refl m
  block_within (Cons s ss) m = within_trans (block_within ss m) (one_within s (needs_of_block ss m))

pub passes_within : (n : ℕ) (b : Block) (m : List Bool) → IsWithin m (needs_in n b m)
passes_within zero b m = within_refl m
passes_within (suc n) b m = within_trans (block_within b m) (passes_within n b (needs_of_block b m))

-- ---- passes come to an end

pub no_more : (n : ℕ) (b : Block) (m : List Bool) → needs_of_block b m ≡ m → needs_in n b m ≡ m
no_more zero b m h = refl
no_more (suc n) b m h = ap (needs_in n b) h ∙ no_more n b m h

-- each pass adds a mark, until none does
come_to_end : (n : ℕ) (b : Block) (m : List Bool) → (needs_of_block b (needs_in n b m) ≡ needs_in n b m) ⊎ (marked_count m + n ≤ marked_count (needs_in n b m))
come_to_end zero b m = inr (omega arith)
come_to_end (suc n) b m = elim (come_to_end n b (needs_of_block b m)) [ inl h ↦ inl h | inr h ↦ by_count (cases_lt (marked_count m) (marked_count (needs_of_block b m))) h ]
  where
    more : List Bool
    more = needs_of_block b m

    by_count : (marked_count m < marked_count more) ⊎ (marked_count more ≤ marked_count m) → marked_count more + n ≤ marked_count (needs_in n b more) → (needs_of_block b (needs_in (suc n) b m) ≡ needs_in (suc n) b m) ⊎ (marked_count m + suc n ≤ marked_count (needs_in (suc n) b m))
    by_count (inl grew) h = inr (omega (arith, grew, h))
    by_count (inr few) h =
        let same : more ≡ m = same_within (block_within b m) (omega (arith, few, within_count (block_within b m))) in
        let end : needs_in n b more ≡ m = ap (needs_in n b) same ∙ no_more n b m same in
        inl (ap (needs_of_block b) end ∙ same ∙ sym end)

pub needed_long : (vars : ℕ) (b : Block) → length (needed vars b) ≡ vars
needed_long vars b = within_long (passes_within (suc vars) b (replicate vars false)) ∙ length-replicate vars false

-- a pass over the block adds nothing to what it needs
pub needed_closed : (vars : ℕ) (b : Block) → needs_of_block b (needed vars b) ≡ needed vars b
needed_closed vars b =
    elim (come_to_end (suc vars) b (replicate vars false)) [ inl h ↦ h | inr h ↦ absurd (omega (arith, h, count_within (needed vars b), needed_long vars b)) ]

-- ---- the code's passes

-- as many marks as before are the same
pub same_count : (b : Block) (m n : List Bool) → n ≡ needs_of_block b m → marked_count n ≡ marked_count m → n ≡ m
same_count b m n is e = is ∙ same_within (block_within b m) (sym (sym (ap marked_count is) ∙ e))

-- the passes that are left, and one fewer
pub one_pass : (n i : ℕ) (b : Block) (m k : List Bool) → i < n → k ≡ needs_of_block b m → needs_in (n - (i + 1)) b k ≡ needs_in (n - i) b m
one_pass n i b m k h is =
    let next : n - i ≡ suc (n - (i + 1)) = omega (arith, h) in
    ap (needs_in (n - (i + 1)) b) is ∙ sym (ap (λ j. needs_in j b m) next)

-- no pass is left, or none that adds a mark
pub last_pass : (n i : ℕ) (b : Block) (m : List Bool) → n ≤ i → needs_in (n - i) b m ≡ m
last_pass n i b m h = let none : n - i ≡ 0 = omega (arith, h) in ap (λ j. needs_in j b m) none

pub end_pass : (n i : ℕ) (b : Block) (m k : List Bool) → k ≡ needs_of_block b m → k ≡ m → k ≡ needs_in (n - i) b m
end_pass n i b m k is same = same ∙ sym (no_more (n - i) b m (sym is ∙ same))

pub ruleset pass_steps = (one_pass, last_pass, end_pass)

pub all_passes : (vars : ℕ) (b : Block) (m k : List Bool) → m ≡ replicate vars false → k ≡ needs_in (length m + 1) b m → k ≡ needed vars b
all_passes vars b m k none is =
    let long : length m + 1 ≡ suc vars = omega (arith, ap length none, length-replicate vars false) in
    is ∙ ap (λ j. needs_in j b m) long ∙ ap (needs_in (suc vars) b) none
