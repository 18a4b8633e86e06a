-- Guards that are joined: what they hold of is what holds of both.
use Rattle.std.proofs.Common.{◌≡◌, ℕ, zero, suc, ◌≤◌, List, Bool, true, false, refl, arith}
use Rattle.std.specs.Prelude.{IsTrue, if◌then◌else◌}
use Rattle.strm_num.proofs.Truths.{true_both}
use Rattle.list_denotation.specs.declared.input.Input.{Input}
use Rattle.list_denotation.specs.Leaves.{all_leaves}
use Rattle.list_denotation.specs.Terms.{Term, Lit, Truth, Var, Param, Len, Neg, Not, Bin, And, Or, If}
use Rattle.list_denotation.specs.Values.{Got, Is, Fails, with_value, choice, value}
use Rattle.stateful_core.specs.MostWords.{most_temps}
use Rattle.stateful_core.specs.WellFormed.{is_sure}
use Rattle.stateful_core.specs.WordValues.{or_zero, word_value}
use Rattle.act_moves.specs.Renumbering.{renumber}
use Rattle.act_moves.proofs.SoundActs.{sure_and}
use Rattle.machine_turns.specs.AlikeTurns.{SameTruth}
use Rattle.stage_machines.specs.JoinedGuards.{is_always, join_guards}

-- ---- truth

pub always_true : (g : Term) → is_always g ≡ true → g ≡ Truth true
always_true (Truth true) h = refl
always_true (Truth false) h = absurd cc
always_true (Lit w) h = absurd cc
always_true (Var k) h = absurd cc
always_true (Param k) h = absurd cc
always_true (Len k) h = absurd cc
always_true (Neg a) h = absurd cc
always_true (Not a) h = absurd cc
always_true (Bin op a b) h = absurd cc
always_true (And a b) h = absurd cc
always_true (Or a b) h = absurd cc
always_true (If c a b) h = absurd cc

same_where_true : (w : ℕ) → SameTruth w (choice w 0 1)
same_where_true zero = refl
same_where_true (suc w) = refl

pub same_twice : (w : ℕ) → SameTruth (choice w 0 1) w
same_twice zero = refl
same_twice (suc w) = refl

both_words : (g h : Got ℕ) → SameTruth (or_zero (with_value g (λ x. choice x (Is 0) (with_value h (λ y. Is (choice y 0 1)))))) (choice (or_zero g) 0 (or_zero h))
both_words (Is zero) h = refl
both_words (Is (suc x)) (Is y) = same_twice y
both_words (Is (suc x)) (Fails f) = refl
both_words (Fails f) h = refl

-- a joined guard is true where both guards are
pub guards_joined : (g h : Term) (env : List ℕ) (inputs : List Input) → SameTruth (word_value (join_guards g h) env inputs) (choice (word_value g env inputs) 0 (word_value h env inputs))
guards_joined g h env inputs = by_form (is_always g) refl (is_always h) refl
  where
    by_form : (t : Bool) → is_always g ≡ t → (u : Bool) → is_always h ≡ u → SameTruth (word_value (if t then h else (if u then g else And g h)) env inputs) (choice (word_value g env inputs) 0 (word_value h env inputs))
    by_form true e u q = rw (always_true g e) refl
    by_form false e true q = rw (always_true h q) (same_where_true (word_value g env inputs))
    by_form false e false q = both_words (value g env inputs) (value h env inputs)

-- ---- what guards read

-- a guard that always holds does so with other numbers for its words
pub always_renumbered : (f : ℕ → ℕ) (e : Term) → is_always (renumber f e) ≡ is_always e
always_renumbered f (Truth true) = refl
always_renumbered f (Truth false) = refl
always_renumbered f (Lit w) = refl
always_renumbered f (Var k) = refl
always_renumbered f (Param k) = refl
always_renumbered f (Len k) = refl
always_renumbered f (Neg a) = refl
always_renumbered f (Not a) = refl
always_renumbered f (Bin op a b) = refl
always_renumbered f (And a b) = refl
always_renumbered f (Or a b) = refl
always_renumbered f (If c a b) = refl

pub sure_guards : (n : ℕ) (g h : Term) → IsTrue (is_sure n g) → IsTrue (is_sure n h) → IsTrue (is_sure n (join_guards g h))
sure_guards n g h p q = by_form (is_always g) (is_always h)
  where
    by_form : (t u : Bool) → IsTrue (is_sure n (if t then h else (if u then g else And g h)))
    by_form true u = q
    by_form false true = p
    by_form false false = sure_and n g h p q

-- a joined guard has at most n temporaries where both have
pub temps_guards : (n : ℕ) (g h : Term) → most_temps g ≤ n → most_temps h ≤ n → most_temps (join_guards g h) ≤ n
temps_guards n g h p q = by_form (is_always g) (is_always h)
  where
    by_form : (t u : Bool) → most_temps (if t then h else (if u then g else And g h)) ≤ n
    by_form true u = q
    by_form false true = p
    by_form false false = omega arith

-- and its leaves pass a test where those of both do
pub leaves_guards : (test : Term → Bool) (g h : Term) → IsTrue (all_leaves test g) → IsTrue (all_leaves test h) → IsTrue (all_leaves test (join_guards g h))
leaves_guards test g h p q = by_form (is_always g) (is_always h)
  where
    by_form : (t u : Bool) → IsTrue (all_leaves test (if t then h else (if u then g else And g h)))
    by_form true u = q
    by_form false true = p
    by_form false false = true_both (all_leaves test g) (all_leaves test h) p q
