-- The loops together have spent the turns that are gone: all of them where the run is still going.
use Rattle.std.proofs.Common.{◌≡◌, ℕ, zero, suc, ◌+◌, ◌≤◌, Bool, true, false, List, [], ◌∷◌, ◌++◌, refl, sym, subst, arith}
use Rattle.std.specs.Prelude.{replicate}
use Rattle.list_denotation.specs.declared.event.Event.{Event}
use Rattle.list_denotation.specs.declared.input.Input.{Input}
use Rattle.list_denotation.specs.Observation.{Done, Going, Failed}
use Rattle.list_denotation.specs.Values.{Got, Is, Fails}
use Rattle.loop_ir.specs.declared.syntax.Verdict.{Verdict}
use Rattle.loop_ir.specs.declared.syntax.Verdict.TheVariants as verdict
use Rattle.loop_ir.specs.Statements.{Statement, Set, Read, If, Loop, Emit, EndRow, Ret, Block, Nil, Cons, Routine}
use Rattle.loop_ir.specs.Counts.{block_loops}
use Rattle.loop_ir.specs.Meaning.{Outcome, Runs, Over, after, then_do, on_value, on_test, spend, turns, item_of, operand_value, test_value, verdict_of, run_one, run, meaning, seen_of}
use Rattle.loop_ir.specs.LoopTurns.{added, no_turns, turns_behind, chosen_turns, spent_turns, turns_of_loop, statement_turns, block_turns, loop_turns, all_turns}
use Rattle.list_denotation.specs.Inputs.{items_in}
use Rattle.std.specs.Prelude.{slice_get}

sum_joined : (xs ys : List ℕ) → all_turns (xs ++ ys) ≡ all_turns xs + all_turns ys
sum_joined [] ys = omega arith
sum_joined (x ∷ xs) ys = let h = sum_joined xs ys in omega (arith, h)

sum_added : (xs ys : List ℕ) → all_turns (added xs ys) ≡ all_turns xs + all_turns ys
sum_added [] ys = omega arith
sum_added (x ∷ xs) [] = omega arith
sum_added (x ∷ xs) (y ∷ ys) = let h = sum_added xs ys in omega (arith, h)

sum_none : (n : ℕ) → all_turns (no_turns n) ≡ 0
sum_none zero = refl
sum_none (suc n) = let h = sum_none n in omega (arith, h)

-- with so many turns left first, so many were spent, and the outcome has what is left then
abbrev pub Spends : ℕ → ℕ → Outcome → Type 0
Spends left n (Runs events env more) = n + more ≡ left
Spends left n (Over events Going) = n ≡ left
Spends left n (Over events Done) = n ≤ left
Spends left n (Over events (Failed f)) = n ≤ left

spends_same : (left n n' : ℕ) (o : Outcome) → n ≡ n' → Spends left n o → Spends left n' o
spends_same left n n' o e h = subst (λ k. Spends left k o) e h

spends_more : (left n m rest : ℕ) (events : List Event) (o : Outcome) → n + rest ≡ left → Spends rest m o → Spends left (n + m) (after events o)
spends_more left n m rest events (Runs more env left') e h = omega (arith, e, h)
spends_more left n m rest events (Over more Going) e h = omega (arith, e, h)
spends_more left n m rest events (Over more Done) e h = omega (arith, e, h)
spends_more left n m rest events (Over more (Failed f)) e h = omega (arith, e, h)

then_spends : (loops left n : ℕ) (o : Outcome) (f : List ℕ → ℕ → Outcome) (go : List ℕ → ℕ → List ℕ) → ((env : List ℕ) (rest : ℕ) → rest ≤ left → Spends rest (all_turns (go env rest)) (f env rest)) → Spends left n o → Spends left (n + all_turns (turns_behind loops o go)) (then_do o f)
then_spends loops left n (Runs events env rest) f go fg h =
    spends_more left n (all_turns (go env rest)) rest events (f env rest) h (fg env rest (omega (arith, h)))
then_spends loops left n (Over events Going) f go fg h = omega (arith, h, sum_none loops)
then_spends loops left n (Over events Done) f go fg h = omega (arith, h, sum_none loops)
then_spends loops left n (Over events (Failed f')) f go fg h = omega (arith, h, sum_none loops)

value_spends : (left : ℕ) (x : Got ℕ) (f : ℕ → Outcome) → ((v : ℕ) → Spends left 0 (f v)) → Spends left 0 (on_value x f)
value_spends left (Is v) f fg = fg v
value_spends left (Fails f') f fg = omega arith

test_spends : (left : ℕ) (x : Got Bool) (p q : Outcome) (a b c : List ℕ) → Spends left (all_turns a) p → Spends left (all_turns b) q → all_turns c ≡ 0 → Spends left (all_turns (chosen_turns x a b c)) (on_test x p q)
test_spends left (Is true) p q a b c hp hq hc = hp
test_spends left (Is false) p q a b c hp hq hc = hq
test_spends left (Fails f) p q a b c hp hq hc = omega (arith, hc)

spend_spends : (left : ℕ) (f : ℕ → Outcome) (go : ℕ → List ℕ) (none : List ℕ) → ((rest : ℕ) → suc rest ≡ left → Spends left (all_turns (go rest)) (f rest)) → all_turns none ≡ 0 → Spends left (all_turns (spent_turns left go none)) (spend left f)
spend_spends zero f go none fg hn = hn
spend_spends (suc left) f go none fg hn = fg left refl

loop_spends : (inner bound : ℕ) (guard : List ℕ → Got Bool) (body : List ℕ → ℕ → Outcome) (inside : List ℕ → ℕ → List ℕ) → ((env : List ℕ) (left : ℕ) → Spends left (all_turns (inside env left)) (body env left)) → (env : List ℕ) (left : ℕ) → left ≤ bound → Spends left (all_turns (turns_of_loop inner bound guard body inside env left)) (turns bound guard body env left)
loop_spends inner zero guard body inside h env left le = go (guard env)
  where
    zeros : all_turns (no_turns (suc inner)) ≡ 0
    zeros = sum_none (suc inner)

    go : (x : Got Bool) → Spends left (all_turns (no_turns (suc inner))) (on_test x (Over [] Going) (Runs [] env left))
    go (Is true) = let z = zeros in omega (arith, z, le)
    go (Is false) = let z = zeros in omega (arith, z)
    go (Fails f) = let z = zeros in omega (arith, z)
loop_spends inner (suc bound) guard body inside h env left le =
    let zeros = sum_none (suc inner) in
    test_spends left (guard env) _ (Runs [] env left) _ (no_turns (suc inner)) (no_turns (suc inner))
    (spend_spends left (λ rest. then_do (body env rest) (turns bound guard body))
    (λ rest. added (1 ∷ inside env rest) (turns_behind (suc inner) (body env rest) (turns_of_loop inner bound guard body inside))) (no_turns (suc inner))
    (λ rest is.
    spends_same left (1 + (all_turns (inside env rest) + all_turns (turns_behind (suc inner) (body env rest) (turns_of_loop inner bound guard body inside))))
    (all_turns (added (1 ∷ inside env rest) (turns_behind (suc inner) (body env rest) (turns_of_loop inner bound guard body inside))))
    (then_do (body env rest) (turns bound guard body))
    (let e = sum_added (1 ∷ inside env rest) (turns_behind (suc inner) (body env rest) (turns_of_loop inner bound guard body inside)) in omega (arith, e))
    (one_more (then_do (body env rest) (turns bound guard body)) rest _ is
    (then_spends (suc inner) rest (all_turns (inside env rest)) (body env rest) (turns bound guard body) (turns_of_loop inner bound guard body inside)
    (λ env' rest' below. loop_spends inner bound guard body inside h env' rest' (omega (arith, is, le, below))) (h env rest))))
    zeros)
    (omega (arith, zeros)) zeros
  where
    one_more : (o : Outcome) (rest n : ℕ) → suc rest ≡ left → Spends rest n o → Spends left (1 + n) o
    one_more (Runs events env more) rest n e k = omega (arith, e, k)
    one_more (Over events Going) rest n e k = omega (arith, e, k)
    one_more (Over events Done) rest n e k = omega (arith, e, k)
    one_more (Over events (Failed f)) rest n e k = omega (arith, e, k)

returned_spends : (left : ℕ) (v : Verdict) → Spends left 0 (Over [] (verdict_of v))
returned_spends left verdict.Done = omega arith
returned_spends left verdict.Trap = omega arith

module _ (inputs : List Input) where
  mutual
    pub one_spends : (s : Statement) (env : List ℕ) (left : ℕ) → Spends left (all_turns (statement_turns inputs s env left)) (run_one inputs s env left)
    one_spends (Set v w) env left = value_spends left (operand_value inputs w env) _ (λ x. omega arith)
    one_spends (Read v a w) env left = value_spends left (operand_value inputs w env) _ (λ i. value_spends left (item_of (slice_get (items_in (slice_get inputs a)) i)) _ (λ x. omega arith))
    one_spends (If t a b) env left =
        test_spends left (test_value inputs t env) (run inputs a env left) (run inputs b env left) _ _ (no_turns (block_loops a + block_loops b))
        (spends_same left (all_turns (block_turns inputs a env left)) (all_turns (block_turns inputs a env left ++ no_turns (block_loops b))) (run inputs a env left)
        (omega (arith, sum_joined (block_turns inputs a env left) (no_turns (block_loops b)), sum_none (block_loops b))) (block_spends a env left))
        (spends_same left (all_turns (block_turns inputs b env left)) (all_turns (no_turns (block_loops a) ++ block_turns inputs b env left)) (run inputs b env left)
        (omega (arith, sum_joined (no_turns (block_loops a)) (block_turns inputs b env left), sum_none (block_loops a))) (block_spends b env left))
        (sum_none (block_loops a + block_loops b))
    one_spends (Loop t body) env left =
        loop_spends (block_loops body) left (test_value inputs t) (run inputs body) (block_turns inputs body) (block_spends body) env left (omega arith)
    one_spends (Emit w) env left = value_spends left (operand_value inputs w env) _ (λ x. omega arith)
    one_spends EndRow env left = omega arith
    one_spends (Ret v) env left = returned_spends left v

    pub block_spends : (ss : Block) (env : List ℕ) (left : ℕ) → Spends left (all_turns (block_turns inputs ss env left)) (run inputs ss env left)
    block_spends Nil env left = omega arith
    block_spends (Cons s ss) env left =
        spends_same left (all_turns (statement_turns inputs s env left) + all_turns (turns_behind (block_loops ss) (run_one inputs s env left) (block_turns inputs ss)))
        (all_turns (block_turns inputs (Cons s ss) env left)) (run inputs (Cons s ss) env left)
        (sym (sum_joined (statement_turns inputs s env left) (turns_behind (block_loops ss) (run_one inputs s env left) (block_turns inputs ss))))
        (then_spends (block_loops ss) left (all_turns (statement_turns inputs s env left)) (run_one inputs s env left) (run inputs ss) (block_turns inputs ss)
        (λ env' rest below. block_spends ss env' rest) (one_spends s env left))

all_spent : (m n : ℕ) (o : Outcome) → Spends m n o → (seen_of o).standing ≡ Going → n ≡ m
all_spent m n (Runs events env left) h e = absurd cc
all_spent m n (Over events Going) h e = h
all_spent m n (Over events Done) h e = absurd cc
all_spent m n (Over events (Failed f)) h e = absurd cc

few_spent : (m n : ℕ) (o : Outcome) → Spends m n o → n ≤ m
few_spent m n (Runs events env left) h = omega (arith, h)
few_spent m n (Over events Going) h = omega (arith, h)
few_spent m n (Over events Done) h = h
few_spent m n (Over events (Failed f)) h = h

pub turns_are_spent : (q : Routine) (inputs : List Input) (m : ℕ) → all_turns (loop_turns q inputs m) ≤ m
turns_are_spent q inputs m = few_spent m (all_turns (loop_turns q inputs m)) (run inputs q.body (replicate q.vars 0) m) (block_spends inputs q.body (replicate q.vars 0) m)

pub all_turns_are_spent : (q : Routine) (inputs : List Input) (m : ℕ) → (meaning q inputs m).standing ≡ Going → all_turns (loop_turns q inputs m) ≡ m
all_turns_are_spent q inputs m e = all_spent m (all_turns (loop_turns q inputs m)) (run inputs q.body (replicate q.vars 0) m) (block_spends inputs q.body (replicate q.vars 0) m) e
