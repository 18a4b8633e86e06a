-- There is a number for each loop.
use Rattle.std.proofs.Common.{◌≡◌, ℕ, zero, suc, ◌+◌, Bool, true, false, List, [], ◌∷◌, length, refl, length-append, arith}
use Rattle.std.specs.Prelude.{replicate}
use Rattle.std.proofs.lemmas.List.{length-replicate}
use Rattle.list_denotation.specs.declared.input.Input.{Input}
use Rattle.list_denotation.specs.Values.{Got, Is, Fails}
use Rattle.loop_ir.specs.declared.counts.Measure.TheVariants.{Loops}
use Rattle.loop_ir.specs.Statements.{Statement, Set, Read, If, Loop, Emit, EndRow, Ret, Block, Nil, Cons, Routine}
use Rattle.loop_ir.specs.Counts.{statement_measure, block_loops}
use Rattle.loop_ir.specs.Meaning.{Outcome, Runs, Over, test_value, run_one, run}
use Rattle.loop_ir.specs.LoopTurns.{added, no_turns, turns_behind, chosen_turns, spent_turns, turns_of_loop, statement_turns, block_turns, loop_turns}

pub none_long : (n : ℕ) → length (no_turns n) ≡ n
none_long n = length-replicate n 0

pub added_long : (xs ys : List ℕ) (n : ℕ) → length xs ≡ n → length ys ≡ n → length (added xs ys) ≡ n
added_long [] ys n hx hy = hy
added_long (x ∷ xs) [] n hx hy = hx
added_long (x ∷ xs) (y ∷ ys) zero hx hy = absurd (omega arith)
added_long (x ∷ xs) (y ∷ ys) (suc n) hx hy = let h = added_long xs ys n (omega (arith, hx)) (omega (arith, hy)) in omega (arith, h)

chosen_long : (x : Got Bool) (a b c : List ℕ) (n : ℕ) → length a ≡ n → length b ≡ n → length c ≡ n → length (chosen_turns x a b c) ≡ n
chosen_long (Is true) a b c n ha hb hc = ha
chosen_long (Is false) a b c n ha hb hc = hb
chosen_long (Fails f) a b c n ha hb hc = hc

pub behind_long : (n : ℕ) (o : Outcome) (go : List ℕ → ℕ → List ℕ) → ((env : List ℕ) (left : ℕ) → length (go env left) ≡ n) → length (turns_behind n o go) ≡ n
behind_long n (Runs events env left) go h = h env left
behind_long n (Over events standing) go h = none_long n

spent_long : (left n : ℕ) (go : ℕ → List ℕ) (none : List ℕ) → ((rest : ℕ) → length (go rest) ≡ n) → length none ≡ n → length (spent_turns left go none) ≡ n
spent_long zero n go none h hn = hn
spent_long (suc left) n go none h hn = h left

pub loop_long : (inner bound : ℕ) (guard : List ℕ → Got Bool) (body : List ℕ → ℕ → Outcome) (inside : List ℕ → ℕ → List ℕ) → ((env : List ℕ) (left : ℕ) → length (inside env left) ≡ inner) → (env : List ℕ) (left : ℕ) → length (turns_of_loop inner bound guard body inside env left) ≡ suc inner
loop_long inner zero guard body inside h env left = none_long (suc inner)
loop_long inner (suc bound) guard body inside h env left =
    chosen_long (guard env) _ _ _ (suc inner)
    (spent_long left (suc inner) _ _
    (λ rest. added_long (1 ∷ inside env rest) _ (suc inner) (let k = h env rest in omega (arith, k))
    (behind_long (suc inner) (body env rest) _ (loop_long inner bound guard body inside h)))
    (none_long (suc inner)))
    (none_long (suc inner)) (none_long (suc inner))

module _ (inputs : List Input) where
  mutual
    pub statement_long : (s : Statement) (env : List ℕ) (left : ℕ) → length (statement_turns inputs s env left) ≡ statement_measure Loops s
    statement_long (Set v w) env left = refl
    statement_long (Read v a w) env left = refl
    statement_long (If t a b) env left =
        let ha = block_long a env left in
        let hb = block_long b env left in
        chosen_long (test_value inputs t env) _ _ _ (block_loops a + block_loops b)
        (omega (arith, ha, length-append (block_turns inputs a env left) (no_turns (block_loops b)), none_long (block_loops b)))
        (omega (arith, hb, length-append (no_turns (block_loops a)) (block_turns inputs b env left), none_long (block_loops a)))
        (none_long (block_loops a + block_loops b))
    statement_long (Loop t body) env left =
        let h = loop_long (block_loops body) left (test_value inputs t) (run inputs body) (block_turns inputs body) (block_long body) env left in
        omega (arith, h)
    statement_long (Emit w) env left = refl
    statement_long EndRow env left = refl
    statement_long (Ret v) env left = refl

    pub block_long : (ss : Block) (env : List ℕ) (left : ℕ) → length (block_turns inputs ss env left) ≡ block_loops ss
    block_long Nil env left = refl
    block_long (Cons s ss) env left =
        let h = statement_long s env left in
        let k = behind_long (block_loops ss) (run_one inputs s env left) (block_turns inputs ss) (block_long ss) in
        omega (arith, h, k, length-append (statement_turns inputs s env left) (turns_behind (block_loops ss) (run_one inputs s env left) (block_turns inputs ss)))

pub turns_long : (q : Routine) (inputs : List Input) (m : ℕ) → length (loop_turns q inputs m) ≡ block_loops q.body
turns_long q inputs m = block_long inputs q.body (replicate q.vars 0) m
