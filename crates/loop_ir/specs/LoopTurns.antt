-- How many turns each loop of a loop program has spent, in the order of the text: a loop stands before those inside it.
use Rattle.std.specs.Prelude.{ℕ, zero, suc, ◌+◌, Bool, true, false, List, [], ◌∷◌, ◌++◌, replicate}
use Rattle.list_denotation.specs.declared.input.Input.{Input}
use Rattle.list_denotation.specs.Values.{Got, Is, Fails}
use Rattle.loop_ir.specs.Statements.{Statement, Set, Read, If, Loop, Emit, EndRow, Ret, Block, Nil, Cons, Routine}
use Rattle.loop_ir.specs.Counts.{block_loops}
use Rattle.loop_ir.specs.Meaning.{Outcome, Runs, Over, test_value, run_one, run}

-- numbers place by place; the longer list goes on alone
abbrev pub added : List ℕ → List ℕ → List ℕ
added [] ns = ns
added (m ∷ ms) [] = m ∷ ms
added (m ∷ ms) (n ∷ ns) = (m + n) ∷ added ms ns

-- so many loops that aren't reached
abbrev pub no_turns : ℕ → List ℕ
no_turns loops = replicate loops 0

-- the turns of so many loops behind statements with this outcome
abbrev pub turns_behind : ℕ → Outcome → (List ℕ → ℕ → List ℕ) → List ℕ
turns_behind loops (Runs events env left) go = go env left
turns_behind loops (Over events standing) go = no_turns loops

-- of two, what the test chooses, and a third where it has no value
abbrev pub chosen_turns : Got Bool → List ℕ → List ℕ → List ℕ → List ℕ
chosen_turns (Is true) on off neither = on
chosen_turns (Is false) on off neither = off
chosen_turns (Fails f) on off neither = neither

-- where a turn is left, it is spent
abbrev pub spent_turns : ℕ → (ℕ → List ℕ) → List ℕ → List ℕ
spent_turns zero go none = none
spent_turns (suc left) go none = go left

-- the turns of a loop, which makes at most `bound` of them, and of the loops inside it, of which there are `inner`: a turn
-- of the body spends these turns of the loops inside it, and has this outcome
abbrev pub turns_of_loop : ℕ → ℕ → (List ℕ → Got Bool) → (List ℕ → ℕ → Outcome) → (List ℕ → ℕ → List ℕ) → List ℕ → ℕ → List ℕ
turns_of_loop inner zero guard body inside env left = no_turns (suc inner)
turns_of_loop inner (suc bound) guard body inside env left =
    chosen_turns (guard env)
    (spent_turns left
    (λ rest. added (1 ∷ inside env rest) (turns_behind (suc inner) (body env rest) (turns_of_loop inner bound guard body inside)))
    (no_turns (suc inner)))
    (no_turns (suc inner)) (no_turns (suc inner))

module _ (inputs : List Input) where
  abbrev mutual
    pub statement_turns : Statement → List ℕ → ℕ → List ℕ
    statement_turns (Set v w) env left = []
    statement_turns (Read v a w) env left = []
    statement_turns (If t a b) env left =
        chosen_turns (test_value inputs t env) (block_turns a env left ++ no_turns (block_loops b))
        (no_turns (block_loops a) ++ block_turns b env left) (no_turns (block_loops a + block_loops b))
    statement_turns (Loop t body) env left =
        turns_of_loop (block_loops body) left (test_value inputs t) (run inputs body) (block_turns body) env left
    statement_turns (Emit w) env left = []
    statement_turns EndRow env left = []
    statement_turns (Ret v) env left = []

    pub block_turns : Block → List ℕ → ℕ → List ℕ
    block_turns Nil env left = []
    block_turns (Cons s ss) env left =
        statement_turns s env left ++ turns_behind (block_loops ss) (run_one inputs s env left) (block_turns ss)

-- the turns that each loop of a loop program has spent where it has m turns
abbrev pub loop_turns : Routine → List Input → ℕ → List ℕ
loop_turns q inputs m = block_turns inputs q.body (replicate q.vars 0) m

-- those of all loops together
abbrev pub all_turns : List ℕ → ℕ
all_turns [] = 0
all_turns (n ∷ ns) = n + all_turns ns
