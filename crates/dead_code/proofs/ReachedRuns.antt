-- What is never reached does nothing: a run is the same without it, and spends the same turns.
use Rattle.std.proofs.Common.{◌≡◌, ℕ, zero, suc, ◌+◌, Bool, true, false, List, ◌∷◌, ◌++◌, refl, sym, ap, ◌∙◌, true≢false}
use Rattle.std.specs.Prelude.{◌&&◌, ◌||◌, ◌==◌, if◌then◌else◌}
use Rattle.std.proofs.lemmas.Bool.{eqb-true}
use Rattle.list_denotation.specs.declared.event.Event.{Event}
use Rattle.list_denotation.specs.declared.input.Input.{Input}
use Rattle.list_denotation.specs.Values.{Got, Is, Fails}
use Rattle.loop_ir.specs.Counts.{block_loops}
use Rattle.loop_ir.specs.LoopTurns.{added, no_turns, turns_behind, chosen_turns, spent_turns, turns_of_loop, statement_turns, block_turns}
use Rattle.loop_ir.specs.Meaning.{Outcome, Runs, Over, after, then_do, on_test, spend, turns, test_value, run_one, run}
use Rattle.loop_ir.specs.Statements.{Statement, Set, Read, If, Loop, Emit, EndRow, Ret, Block, Nil, Cons}
use Rattle.dead_code.specs.Ends.{statement_ends, block_ends, behind, reached_statement, reached}
use Rattle.dead_code.proofs.ReachedBlocks.{reached_loops}

-- ---- statements that end the run

abbrev pub IsOver : Outcome → Type 0
IsOver (Runs events env left) = ⊥
IsOver (Over events standing) = Unit {0}

both_hold : (a b : Bool) → a && b ≡ true → (a ≡ true) × (b ≡ true)
both_hold true true h = (refl, refl)
both_hold true false h = absurd (true≢false (sym h))
both_hold false b h = absurd (true≢false (sym h))

over_after : (before : List Event) (o : Outcome) → IsOver o → IsOver (after before o)
over_after before (Runs events env left) h = h
over_after before (Over events standing) h = tt

over_then : (o : Outcome) (go : List ℕ → ℕ → Outcome) → ((env : List ℕ) (left : ℕ) → IsOver (go env left)) → IsOver (then_do o go)
over_then (Runs events env left) go h = over_after events (go env left) (h env left)
over_then (Over events standing) go h = tt

over_first : (o : Outcome) (go : List ℕ → ℕ → Outcome) → IsOver o → IsOver (then_do o go)
over_first (Runs events env left) go h = absurd h
over_first (Over events standing) go h = tt

over_test : (x : Got Bool) (a b : Outcome) → IsOver a → IsOver b → IsOver (on_test x a b)
over_test (Is true) a b h k = h
over_test (Is false) a b h k = k
over_test (Fails f) a b h k = tt

over_either : (inputs : List Input) (s : Statement) (ss : Block) (e : Bool) (env : List ℕ) (left : ℕ) → (e ≡ true → IsOver (run_one inputs s env left)) → (block_ends ss ≡ true → (env : List ℕ) (left : ℕ) → IsOver (run inputs ss env left)) → e || block_ends ss ≡ true → IsOver (run inputs (Cons s ss) env left)
over_either inputs s ss true env left first rest h = over_first (run_one inputs s env left) (run inputs ss) (first refl)
over_either inputs s ss false env left first rest h = over_then (run_one inputs s env left) (run inputs ss) (rest h)

module _ (inputs : List Input) where
  mutual
    one_over : (s : Statement) → statement_ends s ≡ true → (env : List ℕ) (left : ℕ) → IsOver (run_one inputs s env left)
    one_over (Set v w) h env left = absurd (true≢false (sym h))
    one_over (Read v a w) h env left = absurd (true≢false (sym h))
    one_over (If t a b) h env left =
        let parts = both_hold (block_ends a) (block_ends b) h in
        over_test (test_value inputs t env) (run inputs a env left) (run inputs b env left) (block_over a parts.0 env left) (block_over b parts.1 env left)
    one_over (Loop t body) h env left = absurd (true≢false (sym h))
    one_over (Emit w) h env left = absurd (true≢false (sym h))
    one_over EndRow h env left = absurd (true≢false (sym h))
    one_over (Ret v) h env left = tt

    block_over : (b : Block) → block_ends b ≡ true → (env : List ℕ) (left : ℕ) → IsOver (run inputs b env left)
    block_over Nil h env left = absurd (true≢false (sym h))
    block_over (Cons s ss) h env left = over_either inputs s ss (statement_ends s) env left (λ e. one_over s e env left) (block_over ss) h

-- ---- without what stands behind them

-- two runs that are the same wherever they begin
then_same : (o o' : Outcome) (f f' : List ℕ → ℕ → Outcome) → o' ≡ o → ((env : List ℕ) (left : ℕ) → f' env left ≡ f env left) → then_do o' f' ≡ then_do o f
then_same o o' f f' e h = ap (λ z. then_do z f') e ∙ same_rest o
  where
    same_rest : (o : Outcome) → then_do o f' ≡ then_do o f
    same_rest (Runs events env left) = ap (after events) (h env left)
    same_rest (Over events standing) = refl

test_same : (x : Got Bool) (a b a' b' : Outcome) → a' ≡ a → b' ≡ b → on_test x a' b' ≡ on_test x a b
test_same x a b a' b' h k = ap (λ z. on_test x z b') h ∙ ap (on_test x a) k

spend_same : (left : ℕ) (f f' : ℕ → Outcome) → ((rest : ℕ) → f' rest ≡ f rest) → spend left f' ≡ spend left f
spend_same zero f f' h = refl
spend_same (suc left) f f' h = h left

pub turns_same : (bound : ℕ) (guard : List ℕ → Got Bool) (body body' : List ℕ → ℕ → Outcome) → ((env : List ℕ) (left : ℕ) → body' env left ≡ body env left) → (env : List ℕ) (left : ℕ) → turns bound guard body' env left ≡ turns bound guard body env left
turns_same zero guard body body' h env left = refl
turns_same (suc bound) guard body body' h env left =
    test_same (guard env) _ _ _ _
    (spend_same left (λ rest. then_do (body env rest) (turns bound guard body)) (λ rest. then_do (body' env rest) (turns bound guard body'))
    (λ rest. then_same (body env rest) (body' env rest) (turns bound guard body) (turns bound guard body') (h env rest) (turns_same bound guard body body' h)))
    refl

-- what is dropped behind a statement isn't run
behind_run : (inputs : List Input) (e : Bool) (o : Outcome) (b : Block) → (e ≡ true → IsOver o) → then_do o (run inputs (behind e b)) ≡ then_do o (run inputs b)
behind_run inputs e (Over events standing) b h = refl
behind_run inputs true (Runs events env left) b h = absurd (h refl)
behind_run inputs false (Runs events env left) b h = refl

module _ (inputs : List Input) where
  mutual
    pub one_reached : (s : Statement) (env : List ℕ) (left : ℕ) → run_one inputs (reached_statement s) env left ≡ run_one inputs s env left
    one_reached (Set v w) env left = refl
    one_reached (Read v a w) env left = refl
    one_reached (If t a b) env left = test_same (test_value inputs t env) _ _ _ _ (block_reached a env left) (block_reached b env left)
    one_reached (Loop t body) env left = turns_same left (test_value inputs t) (run inputs body) (run inputs (reached body)) (block_reached body) env left
    one_reached (Emit w) env left = refl
    one_reached EndRow env left = refl
    one_reached (Ret v) env left = refl

    pub block_reached : (b : Block) (env : List ℕ) (left : ℕ) → run inputs (reached b) env left ≡ run inputs b env left
    block_reached Nil env left = refl
    block_reached (Cons s ss) env left =
        ap (λ z. then_do z (run inputs (behind (statement_ends s) (reached ss)))) (one_reached s env left)
        ∙ behind_run inputs (statement_ends s) (run_one inputs s env left) (reached ss) (λ h. one_over inputs s h env left)
        ∙ then_same (run_one inputs s env left) (run_one inputs s env left) (run inputs ss) (run inputs (reached ss)) refl (block_reached ss)

-- ---- turns

behind_turns_same : (n n' : ℕ) (o o' : Outcome) (go go' : List ℕ → ℕ → List ℕ) → n' ≡ n → o' ≡ o → ((env : List ℕ) (left : ℕ) → go' env left ≡ go env left) → turns_behind n' o' go' ≡ turns_behind n o go
behind_turns_same n n' o o' go go' e is h = ap (λ z. turns_behind n' z go') is ∙ same_rest o
  where
    same_rest : (o : Outcome) → turns_behind n' o go' ≡ turns_behind n o go
    same_rest (Runs events env left) = h env left
    same_rest (Over events standing) = ap no_turns e

chosen_same : (x : Got Bool) (a b c a' b' c' : List ℕ) → a' ≡ a → b' ≡ b → c' ≡ c → chosen_turns x a' b' c' ≡ chosen_turns x a b c
chosen_same x a b c a' b' c' h k l = ap (λ z. chosen_turns x z b' c') h ∙ ap (λ z. chosen_turns x a z c') k ∙ ap (chosen_turns x a b) l

spent_same : (left : ℕ) (go go' : ℕ → List ℕ) (none none' : List ℕ) → ((rest : ℕ) → go' rest ≡ go rest) → none' ≡ none → spent_turns left go' none' ≡ spent_turns left go none
spent_same zero go go' none none' h e = e
spent_same (suc left) go go' none none' h e = h left

module _ (inner inner' : ℕ) (same_inner : inner' ≡ inner) (guard : List ℕ → Got Bool) (body body' : List ℕ → ℕ → Outcome) (inside inside' : List ℕ → ℕ → List ℕ) (bodies : (env : List ℕ) (left : ℕ) → body' env left ≡ body env left) (insides : (env : List ℕ) (left : ℕ) → inside' env left ≡ inside env left) where
  pub loop_turns_same : (bound : ℕ) (env : List ℕ) (left : ℕ) → turns_of_loop inner' bound guard body' inside' env left ≡ turns_of_loop inner bound guard body inside env left
  loop_turns_same zero env left = ap (λ n. no_turns (suc n)) same_inner
  loop_turns_same (suc bound) env left =
      let none = ap (λ n. no_turns (suc n)) same_inner in
      chosen_same (guard env) _ _ _ _ _ _
      (spent_same left _ _ _ _
      (λ rest.
      ap (λ z. added (1 ∷ z) (turns_behind (suc inner') (body' env rest) (turns_of_loop inner' bound guard body' inside'))) (insides env rest)
      ∙ ap (λ z. added (1 ∷ inside env rest) z)
      (behind_turns_same (suc inner) (suc inner') (body env rest) (body' env rest) (turns_of_loop inner bound guard body inside) (turns_of_loop inner' bound guard body' inside') (ap suc same_inner) (bodies env rest) (loop_turns_same bound)))
      none) none none

-- what is dropped behind a statement has no loop
behind_no_turns : (inputs : List Input) (e : Bool) (o : Outcome) (b : Block) → (e ≡ true → IsOver o) → turns_behind (block_loops (behind e b)) o (block_turns inputs (behind e b)) ≡ turns_behind (block_loops b) o (block_turns inputs b)
behind_no_turns inputs false o b h = refl
behind_no_turns inputs true (Runs events env left) b h = absurd (h refl)
behind_no_turns inputs true (Over events standing) b h = by_test (block_loops b == 0) refl
  where
    by_test : (none : Bool) → (block_loops b == 0) ≡ none → no_turns (block_loops (if none then Nil else b)) ≡ no_turns (block_loops b)
    by_test true k = ap no_turns (sym (eqb-true (block_loops b) 0 k))
    by_test false k = refl

module _ (inputs : List Input) where
  mutual
    one_turns_reached : (s : Statement) (env : List ℕ) (left : ℕ) → statement_turns inputs (reached_statement s) env left ≡ statement_turns inputs s env left
    one_turns_reached (Set v w) env left = refl
    one_turns_reached (Read v a w) env left = refl
    one_turns_reached (If t a b) env left =
        chosen_same (test_value inputs t env) _ _ _ _ _ _
        (ap (λ z. z ++ no_turns (block_loops (reached b))) (turns_reached a env left) ∙ ap (λ n. block_turns inputs a env left ++ no_turns n) (reached_loops b))
        (ap (λ n. no_turns n ++ block_turns inputs (reached b) env left) (reached_loops a) ∙ ap (λ z. no_turns (block_loops a) ++ z) (turns_reached b env left))
        (ap (λ n. no_turns (n + block_loops (reached b))) (reached_loops a) ∙ ap (λ n. no_turns (block_loops a + n)) (reached_loops b))
    one_turns_reached (Loop t body) env left =
        loop_turns_same (block_loops body) (block_loops (reached body)) (reached_loops body) (test_value inputs t) (run inputs body) (run inputs (reached body)) (block_turns inputs body) (block_turns inputs (reached body)) (block_reached inputs body) (turns_reached body) left env left
    one_turns_reached (Emit w) env left = refl
    one_turns_reached EndRow env left = refl
    one_turns_reached (Ret v) env left = refl

    pub turns_reached : (b : Block) (env : List ℕ) (left : ℕ) → block_turns inputs (reached b) env left ≡ block_turns inputs b env left
    turns_reached Nil env left = refl
    turns_reached (Cons s ss) env left =
        let rest = behind (statement_ends s) (reached ss) in
        ap (λ z. z ++ turns_behind (block_loops rest) (run_one inputs (reached_statement s) env left) (block_turns inputs rest)) (one_turns_reached s env left)
        ∙ ap (λ z. statement_turns inputs s env left ++ z)
        (ap (λ o. turns_behind (block_loops rest) o (block_turns inputs rest)) (one_reached inputs s env left)
        ∙ behind_no_turns inputs (statement_ends s) (run_one inputs s env left) (reached ss) (λ h. one_over inputs s h env left)
        ∙ behind_turns_same (block_loops ss) (block_loops (reached ss)) (run_one inputs s env left) (run_one inputs s env left) (block_turns inputs ss) (block_turns inputs (reached ss)) (reached_loops ss) refl (turns_reached ss))
