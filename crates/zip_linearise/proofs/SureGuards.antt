-- Rows and guards of machines that are made of others are sure where their parts are.
use Rattle.std.proofs.Common.{◌≡◌, ℕ, zero, suc, ◌+◌, ◌<◌, List, ◌∷◌, ◌++◌, length, Bool, true, false, refl, arith, length-append}
use Rattle.std.proofs.lemmas.Bool.{lt-ltb}
use Rattle.std.proofs.lemmas.List.{length-replicate}
use Rattle.std.specs.Prelude.{IsTrue, nat_lt, if◌then◌else◌}
use Rattle.strm_num.proofs.Truths.{true_both}
use Rattle.list_denotation.specs.Terms.{Term, Lit, Var, Not, And, Or}
use Rattle.stateful_core.specs.WellFormed.{is_sure, all_sure}
use Rattle.act_moves.proofs.SoundActs.{sure_append, sure_and}
use Rattle.stage_machines.specs.JoinedGuards.{is_always, join_guards}
use Rattle.stage_machines.proofs.JoinedGuards.{sure_guards}
use Rattle.zip_linearise.specs.HeldRows.{zeros, flag_or}
use Rattle.zip_linearise.specs.ZipMachine.{due_guard}

pub sure_zeros : (n k : ℕ) → IsTrue (all_sure n (zeros k))
sure_zeros n zero = refl
sure_zeros n (suc k) = sure_zeros n k

-- the words of the flag, the row and the two states
pub held_length : (w : ℕ) (one other : List Term) → length (Lit 0 ∷ (zeros w ++ (one ++ other))) ≡ 1 + w + length one + length other
held_length w one other =
    omega (arith, length-append (zeros w) (one ++ other), length-append one other, length-replicate w (Lit 0))

pub sure_held : (n w : ℕ) (one other : List Term) → IsTrue (all_sure n one) → IsTrue (all_sure n other) → IsTrue (all_sure n (Lit 0 ∷ (zeros w ++ (one ++ other))))
sure_held n w one other h k = sure_append n (zeros w) (one ++ other) (sure_zeros n w) (sure_append n one other h k)

pub sure_flag : (n k : ℕ) → k < n → IsTrue (is_sure n (Var k))
sure_flag n k h = true_both (nat_lt k n) true (lt-ltb k n h) refl

pub sure_flag_or : (n : ℕ) (flag g : Term) → IsTrue (is_sure n flag) → IsTrue (is_sure n g) → IsTrue (is_sure n (flag_or flag g))
sure_flag_or n flag g p q = by_form (is_always g)
  where
    by_form : (t : Bool) → IsTrue (is_sure n (if t then g else Or flag g))
    by_form true = q
    by_form false = sure_and n flag g p q

pub sure_due : (n : ℕ) (flag right left : Term) → IsTrue (is_sure n flag) → IsTrue (is_sure n right) → IsTrue (is_sure n left) → IsTrue (is_sure n (due_guard flag right left))
sure_due n flag right left p q r = by_form (is_always right)
  where
    by_form : (t : Bool) → IsTrue (is_sure n (if t then flag_or flag left else Or (And flag right) (join_guards (Not flag) left)))
    by_form true = sure_flag_or n flag left p r
    by_form false =
        sure_and n (And flag right) (join_guards (Not flag) left) (sure_and n flag right p q)
        (sure_guards n (Not flag) left p r)
