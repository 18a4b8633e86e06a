-- A variable that no statement has set is 0, so setting it to 0 does nothing.
use Rattle.std.proofs.Common.{◌≡◌, ◌≢◌, inl, inr, ◌⊎◌, ℕ, zero, suc, Bool, true, false, List, [], ◌∷◌, ◌++◌, length, get_or, set, refl, sym, ap, ◌∙◌, subst, arith, true≢false}
use Rattle.std.specs.Prelude.{◌&&◌, ◌==◌, not, slice_get, slice_index}
use Rattle.std.proofs.Math.ListN.{get_or-eq_default}
use Rattle.std.proofs.lemmas.Bool.{eqb-true, cases_lt}
use Rattle.std.proofs.lemmas.Bool.Decides.{eqb_tells}
use Rattle.std.proofs.lemmas.List.{length-set, get_or-set_same, get_or-set_other, set-get_or, set_past}
use Rattle.list_denotation.specs.declared.event.Event.{Event}
use Rattle.list_denotation.specs.declared.input.Input.{Input}
use Rattle.list_denotation.specs.Inputs.{items_in}
use Rattle.list_denotation.specs.Values.{Got, Is, Fails}
use Rattle.loop_ir.specs.Counts.{block_loops}
use Rattle.loop_ir.specs.LoopTurns.{no_turns, turns_behind, statement_turns, block_turns}
use Rattle.loop_ir.specs.Meaning.{Outcome, Runs, Over, after, then_do, on_value, on_test, spend, turns, item_of, operand_value, test_value, run_one, run}
use Rattle.loop_ir.specs.Statements.{Const, Var, Len, Int, Bin, Statement, Set, Read, If, Loop, Emit, EndRow, Ret, Block, Nil, Cons}
use Rattle.loop_ir.proofs.Joins.{after_nothing}
use Rattle.dead_code.specs.FirstZeros.{with_set, with_sets, is_first_zero, marks_behind, unless_dropped, without_first_zeros}
use Rattle.dead_code.specs.Needs.{is_marked, with_mark}
use Rattle.dead_code.proofs.ClosedMarks.{two_closed}
use Rattle.dead_code.proofs.FirstZeroBlocks.{first_loops}
use Rattle.dead_code.proofs.Growth.{IsWithin, None, Kept, Marked, within_refl, within_trans, within_long, mark_within}

-- ---- marks of the variables that statements set

mutual
  one_sets_within : (s : Statement) (m : List Bool) → IsWithin m (with_set s m)
  one_sets_within (Set v w) m = mark_within v m
  one_sets_within (Read v a w) m = mark_within v m
  one_sets_within (If t a b) m = within_trans (sets_within a m) (sets_within b (with_sets a m))
  one_sets_within (Loop t body) m = sets_within body m
  one_sets_within (Emit w) m = within_refl m
  one_sets_within EndRow m = within_refl m
  one_sets_within (Ret v) m = within_refl m

  sets_within : (b : Block) (m : List Bool) → IsWithin m (with_sets b m)
  sets_within Nil m = within_refl m
  sets_within (Cons s ss) m = within_trans (one_sets_within s m) (sets_within ss (with_set s m))

branch_sets : (a b : Block) (m : List Bool) → with_sets b (with_sets a m) ≡ m → (with_sets a m ≡ m) × (with_sets b m ≡ m)
branch_sets a b m h = two_closed (with_sets a) (with_sets b) m (sets_within a m) (sets_within b (with_sets a m)) h

cons_sets : (s : Statement) (ss : Block) (m : List Bool) → with_sets ss (with_set s m) ≡ m → (with_set s m ≡ m) × (with_sets ss m ≡ m)
cons_sets s ss m h = two_closed (with_set s) (with_sets ss) m (one_sets_within s m) (sets_within ss (with_set s m)) h

-- a variable that is marked, or past the last one, is so in all lists with more marks
mark_more : {m n : List Bool} → IsWithin m n → (v : ℕ) → with_mark v m ≡ m → with_mark v n ≡ n
mark_more None v h = refl
mark_more (Kept {b} {m} {n} p) zero h = let is : true ≡ b = cc in ap (λ z. z ∷ n) is
mark_more (Kept {b} {m} {n} p) (suc v) h = let rest : with_mark v m ≡ m = cc in ap (λ z. b ∷ z) (mark_more p v rest)
mark_more (Marked {m} {n} p) zero h = refl
mark_more (Marked {m} {n} p) (suc v) h = let rest : with_mark v m ≡ m = cc in ap (λ z. true ∷ z) (mark_more p v rest)

mutual
  one_more : (s : Statement) (m n : List Bool) → IsWithin m n → with_set s m ≡ m → with_set s n ≡ n
  one_more (Set v w) m n p h = mark_more p v h
  one_more (Read v a w) m n p h = mark_more p v h
  one_more (If t a b) m n p h = let parts = branch_sets a b m h in ap (with_sets b) (all_more a m n p parts.0) ∙ all_more b m n p parts.1
  one_more (Loop t body) m n p h = all_more body m n p h
  one_more (Emit w) m n p h = refl
  one_more EndRow m n p h = refl
  one_more (Ret v) m n p h = refl

  all_more : (b : Block) (m n : List Bool) → IsWithin m n → with_sets b m ≡ m → with_sets b n ≡ n
  all_more Nil m n p h = refl
  all_more (Cons s ss) m n p h = let parts = cons_sets s ss m h in ap (with_sets ss) (one_more s m n p parts.0) ∙ all_more ss m n p parts.1

mark_again : (v : ℕ) (m : List Bool) → with_mark v (with_mark v m) ≡ with_mark v m
mark_again v [] = refl
mark_again zero (b ∷ m) = refl
mark_again (suc v) (b ∷ m) = ap (λ z. b ∷ z) (mark_again v m)

mutual
  one_again : (s : Statement) (m : List Bool) → with_set s (with_set s m) ≡ with_set s m
  one_again (Set v w) m = mark_again v m
  one_again (Read v a w) m = mark_again v m
  one_again (If t a b) m =
      ap (with_sets b) (all_more a (with_sets a m) (with_sets b (with_sets a m)) (sets_within b (with_sets a m)) (all_again a m)) ∙ all_again b (with_sets a m)
  one_again (Loop t body) m = all_again body m
  one_again (Emit w) m = refl
  one_again EndRow m = refl
  one_again (Ret v) m = refl

  all_again : (b : Block) (m : List Bool) → with_sets b (with_sets b m) ≡ with_sets b m
  all_again Nil m = refl
  all_again (Cons s ss) m =
      ap (with_sets ss) (one_more s (with_set s m) (with_sets ss (with_set s m)) (sets_within ss (with_set s m)) (one_again s m)) ∙ all_again ss (with_set s m)

-- ---- variables that aren't marked are 0

pub record IsZeroed (m : List Bool) (env : List ℕ) : Type 0 where
  pub long : length env ≡ length m
  pub zeros : (v : ℕ) → is_marked m v ≡ false → slice_index env v ≡ 0

unmarked_before : {m n : List Bool} → IsWithin m n → (v : ℕ) → is_marked n v ≡ false → is_marked m v ≡ false
unmarked_before None v h = h
unmarked_before (Kept p) zero h = h
unmarked_before (Kept p) (suc v) h = unmarked_before p v h
unmarked_before (Marked p) zero h = absurd (true≢false h)
unmarked_before (Marked p) (suc v) h = unmarked_before p v h

more_zeroed : (m n : List Bool) (env : List ℕ) → IsWithin m n → IsZeroed m env → IsZeroed n env
more_zeroed m n env p h = record {
  long = h.long ∙ sym (within_long p);
  zeros = λ v k. h.zeros v (unmarked_before p v k);
}

set_zeroed : (m : List Bool) (env : List ℕ) (v x : ℕ) → IsZeroed m env → IsZeroed (with_mark v m) (set env v x)
set_zeroed m env v x h = record {
  long = length-set env v x ∙ h.long ∙ sym (length-set m v true);
  zeros = λ u k. by_name u k (eqb_tells u v);
}
  where
    here : (u : ℕ) → is_marked (with_mark v m) u ≡ false → u ≡ v → slice_index (set env v x) u ≡ 0
    here u k e = elim (cases_lt v (length m)) [
      | inl within ↦ absurd (true≢false (sym (get_or-set_same m v true false within) ∙ ap (is_marked (with_mark v m)) (sym e) ∙ k))
      | inr past ↦
          ap (λ z. slice_index z u) (set_past env v x (let l = h.long in omega (arith, l, past)))
          ∙ get_or-eq_default env 0 (let l = h.long in omega (arith, l, past, e))
    ]

    by_name : (u : ℕ) → is_marked (with_mark v m) u ≡ false → ((u == v) ≡ true) × (u ≡ v) ⊎ ((u == v) ≡ false) × (u ≢ v) → slice_index (set env v x) u ≡ 0
    by_name u k (inl same) = here u k same.1
    by_name u k (inr other) = get_or-set_other env v u x 0 other.1 ∙ h.zeros u (sym (get_or-set_other m v u true false other.1) ∙ k)

-- ---- statements that set marked variables alone leave the others as they are

module _ (m : List Bool) where
  abbrev LeavesZeros : Outcome → Type 0
  LeavesZeros (Runs events env left) = IsZeroed m env
  LeavesZeros (Over events standing) = Unit {0}

  after_zeros : (before : List Event) (o : Outcome) → LeavesZeros o → LeavesZeros (after before o)
  after_zeros before (Runs events env left) h = h
  after_zeros before (Over events standing) h = tt

  then_zeros : (o : Outcome) (f : List ℕ → ℕ → Outcome) → ((env : List ℕ) (left : ℕ) → IsZeroed m env → LeavesZeros (f env left)) → LeavesZeros o → LeavesZeros (then_do o f)
  then_zeros (Runs events env left) f fg h = after_zeros events (f env left) (fg env left h)
  then_zeros (Over events standing) f fg h = tt

  value_zeros : {A : Type 0} (x : Got A) (f : A → Outcome) → ((a : A) → LeavesZeros (f a)) → LeavesZeros (on_value x f)
  value_zeros (Is a) f h = h a
  value_zeros (Fails x) f h = tt

  test_zeros : (x : Got Bool) (a b : Outcome) → LeavesZeros a → LeavesZeros b → LeavesZeros (on_test x a b)
  test_zeros (Is true) a b h k = h
  test_zeros (Is false) a b h k = k
  test_zeros (Fails x) a b h k = tt

  spend_zeros : (left : ℕ) (f : ℕ → Outcome) → ((rest : ℕ) → LeavesZeros (f rest)) → LeavesZeros (spend left f)
  spend_zeros zero f h = tt
  spend_zeros (suc left) f h = h left

  turns_zeros : (bound : ℕ) (guard : List ℕ → Got Bool) (body : List ℕ → ℕ → Outcome) → ((env : List ℕ) (left : ℕ) → IsZeroed m env → LeavesZeros (body env left)) → (env : List ℕ) (left : ℕ) → IsZeroed m env → LeavesZeros (turns bound guard body env left)
  turns_zeros zero guard body h env left z = test_zeros (guard env) _ _ tt z
  turns_zeros (suc bound) guard body h env left z =
      test_zeros (guard env) _ _ (spend_zeros left _ (λ rest. then_zeros (body env rest) _ (turns_zeros bound guard body h) (h env rest z))) z

  set_zeros : (v : ℕ) (env : List ℕ) (x : ℕ) → with_mark v m ≡ m → IsZeroed m env → IsZeroed m (set env v x)
  set_zeros v env x closed z = subst (λ n. IsZeroed n (set env v x)) closed (set_zeroed m env v x z)

  module _ (inputs : List Input) where
    mutual
      one_zeros : (s : Statement) → with_set s m ≡ m → (env : List ℕ) (left : ℕ) → IsZeroed m env → LeavesZeros (run_one inputs s env left)
      one_zeros (Set v w) h env left z = value_zeros (operand_value inputs w env) _ (λ x. set_zeros v env x h z)
      one_zeros (Read v a w) h env left z =
          value_zeros (operand_value inputs w env) _ (λ i. value_zeros (item_of (slice_get (items_in (slice_get inputs a)) i)) _ (λ x. set_zeros v env x h z))
      one_zeros (If t a b) h env left z =
          let parts = branch_sets a b m h in test_zeros (test_value inputs t env) _ _ (all_zeros a parts.0 env left z) (all_zeros b parts.1 env left z)
      one_zeros (Loop t body) h env left z = turns_zeros left (test_value inputs t) (run inputs body) (all_zeros body h) env left z
      one_zeros (Emit w) h env left z = value_zeros (operand_value inputs w env) _ (λ x. z)
      one_zeros EndRow h env left z = z
      one_zeros (Ret v) h env left z = tt

      all_zeros : (b : Block) → with_sets b m ≡ m → (env : List ℕ) (left : ℕ) → IsZeroed m env → LeavesZeros (run inputs b env left)
      all_zeros Nil h env left z = z
      all_zeros (Cons s ss) h env left z =
          let parts = cons_sets s ss m h in then_zeros (run_one inputs s env left) (run inputs ss) (all_zeros ss parts.1) (one_zeros s parts.0 env left z)

-- behind a statement the variables are 0 that were so, and that it doesn't set
leaves_zeros : (inputs : List Input) (m : List Bool) (s : Statement) (env : List ℕ) (left : ℕ) → IsZeroed m env → LeavesZeros (with_set s m) (run_one inputs s env left)
leaves_zeros inputs m s env left z =
    one_zeros (with_set s m) inputs s (one_again s m) env left (more_zeroed m (with_set s m) env (one_sets_within s m) z)

-- ---- so a first zero does nothing

both_hold : (a b : Bool) → a && b ≡ true → (a ≡ true) × (b ≡ true)
both_hold true true h = (refl, refl)
both_hold true false h = absurd (true≢false (sym h))
both_hold false b h = absurd (true≢false (sym h))

is_not : (b : Bool) → not b ≡ true → b ≡ false
is_not true h = absurd (true≢false (sym h))
is_not false h = refl

module _ (inputs : List Input) where
  zero_run : (m : List Bool) (s : Statement) (env : List ℕ) (left : ℕ) → is_first_zero m s ≡ true → IsZeroed m env → run_one inputs s env left ≡ Runs [] env left
  zero_run m (Set v (Const n)) env left h z =
      let parts = both_hold (n == 0) (not (is_marked m v)) h in
      let none : n ≡ get_or env v 0 = eqb-true n 0 parts.0 ∙ sym (z.zeros v (is_not (is_marked m v) parts.1)) in
      ap (λ e. Runs [] e left) (ap (set env v) none ∙ set-get_or env v 0)
  zero_run m (Set v (Var u)) env left h z = absurd (true≢false (sym h))
  zero_run m (Set v (Len a)) env left h z = absurd (true≢false (sym h))
  zero_run m (Set v (Int k)) env left h z = absurd (true≢false (sym h))
  zero_run m (Set v (Bin op a b)) env left h z = absurd (true≢false (sym h))
  zero_run m (Read v a w) env left h z = absurd (true≢false (sym h))
  zero_run m (If t a b) env left h z = absurd (true≢false (sym h))
  zero_run m (Loop t body) env left h z = absurd (true≢false (sym h))
  zero_run m (Emit w) env left h z = absurd (true≢false (sym h))
  zero_run m EndRow env left h z = absurd (true≢false (sym h))
  zero_run m (Ret v) env left h z = absurd (true≢false (sym h))

  zero_turns : (m : List Bool) (s : Statement) (env : List ℕ) (left : ℕ) → is_first_zero m s ≡ true → statement_turns inputs s env left ≡ []
  zero_turns m (Set v w) env left h = refl
  zero_turns m (Read v a w) env left h = refl
  zero_turns m (If t a b) env left h = absurd (true≢false (sym h))
  zero_turns m (Loop t body) env left h = absurd (true≢false (sym h))
  zero_turns m (Emit w) env left h = refl
  zero_turns m EndRow env left h = refl
  zero_turns m (Ret v) env left h = refl

  -- two that go on the same from such variables
  then_first : (m : List Bool) (o : Outcome) (f g : List ℕ → ℕ → Outcome) → LeavesZeros m o → ((env : List ℕ) (left : ℕ) → IsZeroed m env → f env left ≡ g env left) → then_do o f ≡ then_do o g
  then_first m (Runs events env left) f g z h = ap (after events) (h env left z)
  then_first m (Over events standing) f g z h = refl

  behind_first : (m : List Bool) (n k : ℕ) (o : Outcome) (f g : List ℕ → ℕ → List ℕ) → n ≡ k → LeavesZeros m o → ((env : List ℕ) (left : ℕ) → IsZeroed m env → f env left ≡ g env left) → turns_behind n o f ≡ turns_behind k o g
  behind_first m n k (Runs events env left) f g e z h = h env left z
  behind_first m n k (Over events standing) f g e z h = ap no_turns e

  module _ (m : List Bool) (s : Statement) (ss : Block) where
    dropped_run : (b : Bool) → is_first_zero m s ≡ b → ((n : List Bool) (env : List ℕ) (left : ℕ) → IsZeroed n env → run inputs (without_first_zeros n ss) env left ≡ run inputs ss env left) → (env : List ℕ) (left : ℕ) → IsZeroed m env → run inputs (unless_dropped b s (without_first_zeros (marks_behind b s m) ss)) env left ≡ run inputs (Cons s ss) env left
    dropped_run true is rest env left z =
        rest m env left z ∙ sym (ap (λ o. then_do o (run inputs ss)) (zero_run m s env left is z) ∙ after_nothing (run inputs ss env left))
    dropped_run false is rest env left z =
        then_first (with_set s m) (run_one inputs s env left) (run inputs (without_first_zeros (with_set s m) ss)) (run inputs ss) (leaves_zeros inputs m s env left z) (rest (with_set s m))

    dropped_turns : (b : Bool) → is_first_zero m s ≡ b → ((n : List Bool) (env : List ℕ) (left : ℕ) → IsZeroed n env → block_turns inputs (without_first_zeros n ss) env left ≡ block_turns inputs ss env left) → (env : List ℕ) (left : ℕ) → IsZeroed m env → block_turns inputs (unless_dropped b s (without_first_zeros (marks_behind b s m) ss)) env left ≡ block_turns inputs (Cons s ss) env left
    dropped_turns true is rest env left z =
        rest m env left z
        ∙ sym (ap (λ y. y ++ turns_behind (block_loops ss) (run_one inputs s env left) (block_turns inputs ss)) (zero_turns m s env left is)
        ∙ ap (λ o. turns_behind (block_loops ss) o (block_turns inputs ss)) (zero_run m s env left is z))
    dropped_turns false is rest env left z =
        ap (λ y. statement_turns inputs s env left ++ y)
        (behind_first (with_set s m) (block_loops (without_first_zeros (with_set s m) ss)) (block_loops ss) (run_one inputs s env left) (block_turns inputs (without_first_zeros (with_set s m) ss)) (block_turns inputs ss) (first_loops (with_set s m) ss) (leaves_zeros inputs m s env left z) (rest (with_set s m)))

  pub first_run : (m : List Bool) (b : Block) (env : List ℕ) (left : ℕ) → IsZeroed m env → run inputs (without_first_zeros m b) env left ≡ run inputs b env left
  first_run m Nil env left z = refl
  first_run m (Cons s ss) env left z = dropped_run m s ss (is_first_zero m s) refl (λ n. first_run n ss) env left z

  pub first_turns : (m : List Bool) (b : Block) (env : List ℕ) (left : ℕ) → IsZeroed m env → block_turns inputs (without_first_zeros m b) env left ≡ block_turns inputs b env left
  first_turns m Nil env left z = refl
  first_turns m (Cons s ss) env left z = dropped_turns m s ss (is_first_zero m s) refl (λ n. first_turns n ss) env left z
