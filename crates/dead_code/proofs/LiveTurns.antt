-- The loops of a run that isn't undefined spend the same turns where its live statements are run over the kept variables.
use Rattle.std.proofs.Common.{◌≡◌, ℕ, zero, suc, ◌+◌, Bool, true, false, List, [], ◌∷◌, ◌++◌, length, refl, sym, ap, ◌∙◌, subst, append_assoc, append-nil, arith}
use Rattle.std.specs.Prelude.{◌&&◌}
use Rattle.std.proofs.lemmas.List.{replicate-append-replicate}
use Rattle.list_denotation.specs.declared.event.Event.{Event}
use Rattle.list_denotation.specs.declared.input.Input.{Input}
use Rattle.list_denotation.specs.Observation.{Done, Going, Failed}
use Rattle.list_denotation.specs.Values.{Trap, Stuck, Got, Is, Fails}
use Rattle.loop_ir.specs.Statements.{Test, Statement, Set, Read, If, Loop, Emit, EndRow, Ret, Block, Nil, Cons, join}
use Rattle.loop_ir.specs.Counts.{block_loops}
use Rattle.loop_ir.specs.LoopTurns.{added, no_turns, turns_behind, chosen_turns, spent_turns, turns_of_loop, statement_turns, block_turns}
use Rattle.loop_ir.specs.Meaning.{Outcome, Runs, Over, after, then_do, on_test, spend, turns, test_value, run_one, run}
use Rattle.loop_ir.proofs.JoinedBlocks.{loops_join}
use Rattle.dead_code.specs.Live.{ranks, renumbered, renumbered_test, is_nil, only_if, choice, live_statement, live}
use Rattle.dead_code.specs.Needs.{is_marked, needs_of, needs_of_block}
use Rattle.dead_code.proofs.ClosedMarks.{loop_parts, cons_parts, choice_parts}
use Rattle.dead_code.proofs.KeptVariables.{kept}
use Rattle.dead_code.proofs.LiveCounts.{live_loops}
use Rattle.dead_code.proofs.LiveRuns.{IsKept, test_kept, not_idle, one_kept, block_kept}

-- ---- turns of statements after statements

nothing_joined : (n k : ℕ) → no_turns (n + k) ≡ no_turns n ++ no_turns k
nothing_joined n k = sym (replicate-append-replicate n k 0)

module _ (n : ℕ) (go : List ℕ → ℕ → List ℕ) where
  behind_after : (before : List Event) (o : Outcome) → turns_behind n (after before o) go ≡ turns_behind n o go
  behind_after before (Runs events env left) = refl
  behind_after before (Over events standing) = refl

behind_joined : (n k j : ℕ) (o : Outcome) (f : List ℕ → ℕ → Outcome) (first second both : List ℕ → ℕ → List ℕ) → j ≡ n + k → ((env : List ℕ) (left : ℕ) → both env left ≡ first env left ++ turns_behind k (f env left) second) → turns_behind j o both ≡ turns_behind n o first ++ turns_behind k (then_do o f) second
behind_joined n k j (Runs events env left) f first second both e h = h env left ∙ ap (λ z. first env left ++ z) (sym (behind_after k second events (f env left)))
behind_joined n k j (Over events standing) f first second both e h = ap no_turns e ∙ nothing_joined n k

module _ (inputs : List Input) where
  pub turns_join : (a b : Block) (env : List ℕ) (left : ℕ) → block_turns inputs (join a b) env left ≡ block_turns inputs a env left ++ turns_behind (block_loops b) (run inputs a env left) (block_turns inputs b)
  turns_join Nil b env left = refl
  turns_join (Cons s a) b env left =
      ap (λ z. statement_turns inputs s env left ++ z)
      (behind_joined (block_loops a) (block_loops b) (block_loops (join a b)) (run_one inputs s env left) (run inputs a) (block_turns inputs a) (block_turns inputs b) (block_turns inputs (join a b)) (loops_join a b) (turns_join a b))
      ∙ sym (append_assoc (statement_turns inputs s env left) (turns_behind (block_loops a) (run_one inputs s env left) (block_turns inputs a)) (turns_behind (block_loops b) (then_do (run_one inputs s env left) (run inputs a)) (block_turns inputs b)))

  behind_none : (o : Outcome) → turns_behind 0 o (block_turns inputs Nil) ≡ []
  behind_none (Runs events env left) = refl
  behind_none (Over events standing) = refl

  pub single_turns : (s : Statement) (env : List ℕ) (left : ℕ) → block_turns inputs (Cons s Nil) env left ≡ statement_turns inputs s env left
  single_turns s env left = ap (λ z. statement_turns inputs s env left ++ z) (behind_none (run_one inputs s env left)) ∙ append-nil (statement_turns inputs s env left)

-- ---- the relation: where the run has this outcome, which isn't undefined, the turns are the same

abbrev pub SameTurns : Outcome → List ℕ → List ℕ → Type 0
SameTurns (Runs events env left) xs ys = ys ≡ xs
SameTurns (Over events Done) xs ys = ys ≡ xs
SameTurns (Over events Going) xs ys = ys ≡ xs
SameTurns (Over events (Failed Trap)) xs ys = ys ≡ xs
SameTurns (Over events (Failed Stuck)) xs ys = Unit {0}

same_anyhow : (o : Outcome) (xs ys : List ℕ) → ys ≡ xs → SameTurns o xs ys
same_anyhow (Runs events env left) xs ys h = h
same_anyhow (Over events Done) xs ys h = h
same_anyhow (Over events Going) xs ys h = h
same_anyhow (Over events (Failed Trap)) xs ys h = h
same_anyhow (Over events (Failed Stuck)) xs ys h = tt

same_after : (before : List Event) (o : Outcome) (xs ys : List ℕ) → SameTurns o xs ys → SameTurns (after before o) xs ys
same_after before (Runs events env left) xs ys h = h
same_after before (Over events Done) xs ys h = h
same_after before (Over events Going) xs ys h = h
same_after before (Over events (Failed Trap)) xs ys h = h
same_after before (Over events (Failed Stuck)) xs ys h = tt

-- a function of turns, where the first ones are the same anyhow
same_second : (o : Outcome) (g : List ℕ → List ℕ → List ℕ) (xs xs' ys ys' : List ℕ) → xs' ≡ xs → SameTurns o ys ys' → SameTurns o (g xs ys) (g xs' ys')
same_second (Runs events env left) g xs xs' ys ys' e h = ap (λ z. g z ys') e ∙ ap (g xs) h
same_second (Over events Done) g xs xs' ys ys' e h = ap (λ z. g z ys') e ∙ ap (g xs) h
same_second (Over events Going) g xs xs' ys ys' e h = ap (λ z. g z ys') e ∙ ap (g xs) h
same_second (Over events (Failed Trap)) g xs xs' ys ys' e h = ap (λ z. g z ys') e ∙ ap (g xs) h
same_second (Over events (Failed Stuck)) g xs xs' ys ys' e h = tt

same_first : (o : Outcome) (g : List ℕ → List ℕ → List ℕ) (xs xs' ys ys' : List ℕ) → SameTurns o xs xs' → ys' ≡ ys → SameTurns o (g xs ys) (g xs' ys')
same_first (Runs events env left) g xs xs' ys ys' h e = ap (λ z. g z ys') h ∙ ap (g xs) e
same_first (Over events Done) g xs xs' ys ys' h e = ap (λ z. g z ys') h ∙ ap (g xs) e
same_first (Over events Going) g xs xs' ys ys' h e = ap (λ z. g z ys') h ∙ ap (g xs) e
same_first (Over events (Failed Trap)) g xs xs' ys ys' h e = ap (λ z. g z ys') h ∙ ap (g xs) e
same_first (Over events (Failed Stuck)) g xs xs' ys ys' h e = tt

-- turns of statements, and then of others behind them
same_both : (o : Outcome) (f : List ℕ → ℕ → Outcome) (g : List ℕ → List ℕ → List ℕ) (xs xs' ys ys' : List ℕ) → SameTurns o xs xs' → SameTurns (then_do o f) ys ys' → SameTurns (then_do o f) (g xs ys) (g xs' ys')
same_both (Runs events env left) f g xs xs' ys ys' h k = same_second (then_do (Runs events env left) f) g xs xs' ys ys' h k
same_both (Over events Done) f g xs xs' ys ys' h k = ap (λ z. g z ys') h ∙ ap (g xs) k
same_both (Over events Going) f g xs xs' ys ys' h k = ap (λ z. g z ys') h ∙ ap (g xs) k
same_both (Over events (Failed Trap)) f g xs xs' ys ys' h k = ap (λ z. g z ys') h ∙ ap (g xs) k
same_both (Over events (Failed Stuck)) f g xs xs' ys ys' h k = tt

module _ (m : List Bool) where
  same_behind : (n n' : ℕ) (o u : Outcome) (f : List ℕ → ℕ → Outcome) (go go' : List ℕ → ℕ → List ℕ) → n' ≡ n → ((env : List ℕ) (left : ℕ) → length env ≡ length m → SameTurns (f env left) (go env left) (go' (kept m env) left)) → IsKept m o u → SameTurns (then_do o f) (turns_behind n o go) (turns_behind n' u go')
  same_behind n n' (Runs events env left) u f go go' e h k =
      subst (λ v. SameTurns (after events (f env left)) (go env left) (turns_behind n' v go')) (sym k.1)
      (same_after events (f env left) (go env left) (go' (kept m env) left) (h env left k.0))
  same_behind n n' (Over events Done) u f go go' e h k = ap (λ v. turns_behind n' v go') k ∙ ap no_turns e
  same_behind n n' (Over events Going) u f go go' e h k = ap (λ v. turns_behind n' v go') k ∙ ap no_turns e
  same_behind n n' (Over events (Failed Trap)) u f go go' e h k = ap (λ v. turns_behind n' v go') k ∙ ap no_turns e
  same_behind n n' (Over events (Failed Stuck)) u f go go' e h k = tt

  same_chosen : (x : Got Bool) (p q : Outcome) (a b c a' b' c' : List ℕ) → SameTurns p a a' → SameTurns q b b' → c' ≡ c → SameTurns (on_test x p q) (chosen_turns x a b c) (chosen_turns x a' b' c')
  same_chosen (Is true) p q a b c a' b' c' h k e = h
  same_chosen (Is false) p q a b c a' b' c' h k e = k
  same_chosen (Fails f) p q a b c a' b' c' h k e = same_anyhow (Over [] (Failed f)) c c' e

  same_spent : (left : ℕ) (f : ℕ → Outcome) (go go' : ℕ → List ℕ) (none none' : List ℕ) → ((rest : ℕ) → SameTurns (f rest) (go rest) (go' rest)) → none' ≡ none → SameTurns (spend left f) (spent_turns left go none) (spent_turns left go' none')
  same_spent zero f go go' none none' h e = e
  same_spent (suc left) f go go' none none' h e = h left

  module _ (inner inner' : ℕ) (same_inner : inner' ≡ inner) (guard guard' : List ℕ → Got Bool) (body body' : List ℕ → ℕ → Outcome) (inside inside' : List ℕ → ℕ → List ℕ) (guards : (env : List ℕ) → length env ≡ length m → guard' (kept m env) ≡ guard env) (bodies : (env : List ℕ) (left : ℕ) → length env ≡ length m → IsKept m (body env left) (body' (kept m env) left)) (insides : (env : List ℕ) (left : ℕ) → length env ≡ length m → SameTurns (body env left) (inside env left) (inside' (kept m env) left)) where
    none_inside : no_turns (suc inner') ≡ no_turns (suc inner)
    none_inside = ap (λ n. no_turns (suc n)) same_inner

    loop_same : (bound : ℕ) (env : List ℕ) (left : ℕ) → length env ≡ length m → SameTurns (turns bound guard body env left) (turns_of_loop inner bound guard body inside env left) (turns_of_loop inner' bound guard' body' inside' (kept m env) left)
    loop_same zero env left long = same_anyhow (turns zero guard body env left) (no_turns (suc inner)) (no_turns (suc inner')) none_inside
    loop_same (suc bound) env left long =
        subst (λ x. SameTurns (turns (suc bound) guard body env left) (turns_of_loop inner (suc bound) guard body inside env left)
        (chosen_turns x
        (spent_turns left (λ rest. added (1 ∷ inside' (kept m env) rest) (turns_behind (suc inner') (body' (kept m env) rest) (turns_of_loop inner' bound guard' body' inside'))) (no_turns (suc inner')))
        (no_turns (suc inner')) (no_turns (suc inner')))) (sym (guards env long))
        (same_chosen (guard env) (spend left (λ rest. then_do (body env rest) (turns bound guard body))) (Runs [] env left) _ _ _ _ _ _
        (same_spent left (λ rest. then_do (body env rest) (turns bound guard body)) _ _ _ _
        (λ rest. same_both (body env rest) (turns bound guard body) (λ xs ys. added (1 ∷ xs) ys) (inside env rest) (inside' (kept m env) rest) _ _ (insides env rest long)
        (same_behind (suc inner) (suc inner') (body env rest) (body' (kept m env) rest) (turns bound guard body) (turns_of_loop inner bound guard body inside) (turns_of_loop inner' bound guard' body' inside') (ap suc same_inner) (loop_same bound) (bodies env rest long)))
        none_inside)
        none_inside none_inside)

-- ---- statements and blocks

module _ (inputs : List Input) (m : List Bool) where
  single_same : (o : Outcome) (xs : List ℕ) (s : Statement) (env : List ℕ) (left : ℕ) → SameTurns o xs (statement_turns inputs s env left) → SameTurns o xs (block_turns inputs (Cons s Nil) env left)
  single_same o xs s env left h = subst (SameTurns o xs) (sym (single_turns inputs s env left)) h

  only_same : (o : Outcome) (b : Bool) (s : Statement) (env : List ℕ) (left : ℕ) → statement_turns inputs s env left ≡ [] → SameTurns o [] (block_turns inputs (only_if b s) env left)
  only_same o true s env left h = same_anyhow o [] _ (single_turns inputs s env left ∙ h)
  only_same o false s env left h = same_anyhow o [] [] refl

  -- both branches of a choice, each with the loops of the other one beside it
  module _ (t t' : Test) (env env' : List ℕ) (left : ℕ) (a b : Block) where
    kept_choice : (la lb : Block) → test_value inputs t' env' ≡ test_value inputs t env → block_loops la ≡ block_loops a → block_loops lb ≡ block_loops b → SameTurns (run inputs a env left) (block_turns inputs a env left) (block_turns inputs la env' left) → SameTurns (run inputs b env left) (block_turns inputs b env left) (block_turns inputs lb env' left) → SameTurns (run_one inputs (If t a b) env left) (statement_turns inputs (If t a b) env left) (block_turns inputs (Cons (If t' la lb) Nil) env' left)
    kept_choice la lb same e f h k =
        single_same (run_one inputs (If t a b) env left) (statement_turns inputs (If t a b) env left) (If t' la lb) env' left
        (subst (λ x. SameTurns (run_one inputs (If t a b) env left) (statement_turns inputs (If t a b) env left) (chosen_turns x (block_turns inputs la env' left ++ no_turns (block_loops lb)) (no_turns (block_loops la) ++ block_turns inputs lb env' left) (no_turns (block_loops la + block_loops lb)))) (sym same)
        (same_chosen m (test_value inputs t env) (run inputs a env left) (run inputs b env left) _ _ _ _ _ _
        (same_first (run inputs a env left) (λ xs ys. xs ++ ys) _ _ _ _ h (ap no_turns f))
        (same_second (run inputs b env left) (λ xs ys. xs ++ ys) _ _ _ _ (ap no_turns e) k)
        (ap no_turns (omega (arith, e, f)))))

    no_choice : (x : Got Bool) → 0 ≡ block_loops a → 0 ≡ block_loops b → SameTurns (run inputs a env left) (block_turns inputs a env left) [] → SameTurns (run inputs b env left) (block_turns inputs b env left) [] → SameTurns (on_test x (run inputs a env left) (run inputs b env left)) (chosen_turns x (block_turns inputs a env left ++ no_turns (block_loops b)) (no_turns (block_loops a) ++ block_turns inputs b env left) (no_turns (block_loops a + block_loops b))) []
    no_choice (Is true) e f h k =
        same_first (run inputs a env left) (λ xs ys. xs ++ ys) (block_turns inputs a env left) [] (no_turns (block_loops b)) [] h (ap no_turns f)
    no_choice (Is false) e f h k =
        same_second (run inputs b env left) (λ xs ys. xs ++ ys) (no_turns (block_loops a)) [] (block_turns inputs b env left) [] (ap no_turns e) k
    no_choice (Fails x) e f h k = same_anyhow (Over [] (Failed x)) (no_turns (block_loops a + block_loops b)) [] (let none : 0 ≡ block_loops a + block_loops b = omega (arith, e, f) in ap no_turns none)

    choice_same : (la lb : Block) → (is_nil la && is_nil lb ≡ false → test_value inputs t' env' ≡ test_value inputs t env) → block_loops la ≡ block_loops a → block_loops lb ≡ block_loops b → SameTurns (run inputs a env left) (block_turns inputs a env left) (block_turns inputs la env' left) → SameTurns (run inputs b env left) (block_turns inputs b env left) (block_turns inputs lb env' left) → SameTurns (run_one inputs (If t a b) env left) (statement_turns inputs (If t a b) env left) (block_turns inputs (choice t' la lb) env' left)
    choice_same Nil Nil same e f h k = no_choice (test_value inputs t env) e f h k
    choice_same Nil (Cons s lb) same e f h k = kept_choice Nil (Cons s lb) (same refl) e f h k
    choice_same (Cons s la) lb same e f h k = kept_choice (Cons s la) lb (same refl) e f h k

  mutual
    pub one_same : (s : Statement) → needs_of s m ≡ m → (env : List ℕ) (left : ℕ) → length env ≡ length m → SameTurns (run_one inputs s env left) (statement_turns inputs s env left) (block_turns inputs (live_statement m (ranks m) s) (kept m env) left)
    one_same (Set v w) h env left long = only_same (run_one inputs (Set v w) env left) (is_marked m v) _ (kept m env) left refl
    one_same (Read v a w) h env left long = only_same (run_one inputs (Read v a w) env left) (is_marked m v) _ (kept m env) left refl
    one_same (If t a b) h env left long =
        let parts = choice_parts t a b m h in
        choice_same t (renumbered_test (ranks m) t) env (kept m env) left a b (live m (ranks m) a) (live m (ranks m) b)
        (λ some. test_kept inputs m env long t (parts.test (not_idle m a b some)))
        (live_loops m (ranks m) a) (live_loops m (ranks m) b) (block_same a parts.first env left long) (block_same b parts.second env left long)
    one_same (Loop t body) h env left long =
        let parts = loop_parts t body m h in
        single_same (run_one inputs (Loop t body) env left) (statement_turns inputs (Loop t body) env left) (Loop (renumbered_test (ranks m) t) (live m (ranks m) body)) (kept m env) left
        (loop_same m (block_loops body) (block_loops (live m (ranks m) body)) (live_loops m (ranks m) body) (test_value inputs t) (test_value inputs (renumbered_test (ranks m) t)) (run inputs body) (run inputs (live m (ranks m) body)) (block_turns inputs body) (block_turns inputs (live m (ranks m) body))
        (λ e l. test_kept inputs m e l t parts.0) (block_kept inputs m body parts.1) (block_same body parts.1) left env left long)
    one_same (Emit w) h env left long = same_anyhow (run_one inputs (Emit w) env left) [] _ (single_turns inputs (Emit (renumbered (ranks m) w)) (kept m env) left)
    one_same EndRow h env left long = single_turns inputs EndRow (kept m env) left
    one_same (Ret v) h env left long = same_anyhow (run_one inputs (Ret v) env left) [] _ (single_turns inputs (Ret v) (kept m env) left)

    pub block_same : (b : Block) → needs_of_block b m ≡ m → (env : List ℕ) (left : ℕ) → length env ≡ length m → SameTurns (run inputs b env left) (block_turns inputs b env left) (block_turns inputs (live m (ranks m) b) (kept m env) left)
    block_same Nil h env left long = refl
    block_same (Cons s ss) h env left long =
        let parts = cons_parts s ss m h in
        let head = live_statement m (ranks m) s in
        let rest = live m (ranks m) ss in
        subst (SameTurns (run inputs (Cons s ss) env left) (block_turns inputs (Cons s ss) env left)) (sym (turns_join inputs head rest (kept m env) left))
        (same_both (run_one inputs s env left) (run inputs ss) (λ xs ys. xs ++ ys) (statement_turns inputs s env left) (block_turns inputs head (kept m env) left) _ _ (one_same s parts.1 env left long)
        (same_behind m (block_loops ss) (block_loops rest) (run_one inputs s env left) (run inputs head (kept m env) left) (run inputs ss) (block_turns inputs ss) (block_turns inputs rest) (live_loops m (ranks m) ss) (block_same ss parts.0) (one_kept inputs m s parts.1 env left long)))
