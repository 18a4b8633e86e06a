-- With one more turn no loop has spent fewer; where the run was over, each has spent as many.
use Rattle.std.proofs.Common.{◌≡◌, ℕ, zero, suc, ◌+◌, ◌≤◌, Bool, true, false, List, [], ◌∷◌, ◌++◌, length, refl, sym, ap, ◌∙◌, subst, arith}
use Rattle.std.specs.Prelude.{slice_index, replicate}
use Rattle.list_denotation.specs.declared.event.Event.{Event}
use Rattle.list_denotation.specs.declared.input.Input.{Input}
use Rattle.list_denotation.specs.Observation.{Done, Going, Failed}
use Rattle.list_denotation.specs.Values.{Got, Is, Fails}
use Rattle.loop_ir.specs.Statements.{Statement, Set, Read, If, Loop, Emit, EndRow, Ret, Block, Nil, Cons, Routine}
use Rattle.loop_ir.specs.Counts.{block_loops}
use Rattle.loop_ir.specs.Meaning.{Outcome, Runs, Over, after, then_do, on_test, spend, turns, test_value, run_one, run, seen_of, meaning}
use Rattle.loop_ir.specs.LoopTurns.{added, no_turns, turns_behind, chosen_turns, spent_turns, turns_of_loop, statement_turns, block_turns, loop_turns}
use Rattle.loop_ir.proofs.Ahead.{Ahead, one_ahead, block_ahead}
use Rattle.loop_ir.proofs.LoopTurns.{behind_long, loop_long, block_long}

-- as many numbers, none above the one at its place
abbrev pub Below : List ℕ → List ℕ → Type 0
Below [] [] = Unit {0}
Below (x ∷ xs) (y ∷ ys) = (x ≤ y) × Below xs ys
Below [] (y ∷ ys) = ⊥
Below (x ∷ xs) [] = ⊥

below_itself : (xs : List ℕ) → Below xs xs
below_itself [] = tt
below_itself (x ∷ xs) = (omega arith, below_itself xs)

below_same : (xs ys : List ℕ) → xs ≡ ys → Below xs ys
below_same xs ys e = subst (λ zs. Below xs zs) e (below_itself xs)

below_joined : (a a' b b' : List ℕ) → Below a a' → Below b b' → Below (a ++ b) (a' ++ b')
below_joined [] [] b b' h k = k
below_joined (x ∷ a) (y ∷ a') b b' h k = (h.0, below_joined a a' b b' h.1 k)
below_joined [] (y ∷ a') b b' h k = absurd h
below_joined (x ∷ a) [] b b' h k = absurd h

below_added : (a a' b b' : List ℕ) → Below a a' → Below b b' → Below (added a b) (added a' b')
below_added [] [] b b' h k = k
below_added [] (y ∷ a') b b' h k = absurd h
below_added (x ∷ a) [] b b' h k = absurd h
below_added (x ∷ a) (y ∷ a') [] [] h k = h
below_added (x ∷ a) (y ∷ a') [] (z ∷ b') h k = absurd k
below_added (x ∷ a) (y ∷ a') (z ∷ b) [] h k = absurd k
below_added (x ∷ a) (y ∷ a') (z ∷ b) (w ∷ b') h k = let p = h.0 in let q = k.0 in (omega (arith, p, q), below_added a a' b b' h.1 k.1)

none_below : (n : ℕ) (ys : List ℕ) → length ys ≡ n → Below (no_turns n) ys
none_below zero [] e = tt
none_below zero (y ∷ ys) e = absurd (omega (arith, e))
none_below (suc n) [] e = absurd (omega (arith, e))
none_below (suc n) (y ∷ ys) e = (omega arith, none_below n ys (omega (arith, e)))

pub below_at : (xs ys : List ℕ) (k : ℕ) → Below xs ys → slice_index xs k ≤ slice_index ys k
below_at [] [] k h = omega arith
below_at [] (y ∷ ys) k h = absurd h
below_at (x ∷ xs) [] k h = absurd h
below_at (x ∷ xs) (y ∷ ys) zero h = h.0
below_at (x ∷ xs) (y ∷ ys) (suc k) h = below_at xs ys k h.1

-- ys is what xs may be with one more turn, where the outcome is o: the same, or, where o is still going, not below
abbrev pub TurnsAhead : Outcome → List ℕ → List ℕ → Type 0
TurnsAhead (Runs events env left) xs ys = xs ≡ ys
TurnsAhead (Over events Going) xs ys = Below xs ys
TurnsAhead (Over events Done) xs ys = xs ≡ ys
TurnsAhead (Over events (Failed f)) xs ys = xs ≡ ys

ahead_itself : (o : Outcome) (xs : List ℕ) → TurnsAhead o xs xs
ahead_itself (Runs events env left) xs = refl
ahead_itself (Over events Going) xs = below_itself xs
ahead_itself (Over events Done) xs = refl
ahead_itself (Over events (Failed f)) xs = refl

-- an operation that keeps the order
module _ (op : List ℕ → List ℕ → List ℕ) (ordered : (a a' b b' : List ℕ) → Below a a' → Below b b' → Below (op a b) (op a' b')) where
  after_turns : (events : List Event) (o : Outcome) (xs ys a b : List ℕ) → xs ≡ ys → TurnsAhead o a b → TurnsAhead (after events o) (op xs a) (op ys b)
  after_turns events (Runs more env left) xs ys a b e h = ap (λ zs. op zs a) e ∙ ap (λ zs. op ys zs) h
  after_turns events (Over more Going) xs ys a b e h = ordered xs ys a b (below_same xs ys e) h
  after_turns events (Over more Done) xs ys a b e h = ap (λ zs. op zs a) e ∙ ap (λ zs. op ys zs) h
  after_turns events (Over more (Failed f)) xs ys a b e h = ap (λ zs. op zs a) e ∙ ap (λ zs. op ys zs) h

  then_turns : (n : ℕ) (o u : Outcome) (f : List ℕ → ℕ → Outcome) (xs ys : List ℕ) (go go' : List ℕ → ℕ → List ℕ) → ((env : List ℕ) (left : ℕ) → TurnsAhead (f env left) (go env left) (go' env (suc left))) → ((env : List ℕ) (left : ℕ) → length (go' env left) ≡ n) → Ahead o u → TurnsAhead o xs ys → TurnsAhead (then_do o f) (op xs (turns_behind n o go)) (op ys (turns_behind n u go'))
  then_turns n (Runs events env left) u f xs ys go go' fg long h k =
      subst (λ v. TurnsAhead (after events (f env left)) (op xs (go env left)) (op ys (turns_behind n v go'))) (sym h)
      (after_turns events (f env left) xs ys (go env left) (go' env (suc left)) k (fg env left))
  then_turns n (Over events Going) u f xs ys go go' fg long h k =
      ordered xs ys (no_turns n) (turns_behind n u go') k (none_below n (turns_behind n u go') (behind_long n u go' long))
  then_turns n (Over events Done) u f xs ys go go' fg long h k =
      ap (λ zs. op zs (no_turns n)) k ∙ sym (ap (λ v. op ys (turns_behind n v go')) h)
  then_turns n (Over events (Failed f')) u f xs ys go go' fg long h k =
      ap (λ zs. op zs (no_turns n)) k ∙ sym (ap (λ v. op ys (turns_behind n v go')) h)

test_turns : (x : Got Bool) (p q : Outcome) (a a' b b' c : List ℕ) → TurnsAhead p a a' → TurnsAhead q b b' → TurnsAhead (on_test x p q) (chosen_turns x a b c) (chosen_turns x a' b' c)
test_turns (Is true) p q a a' b b' c hp hq = hp
test_turns (Is false) p q a a' b b' c hp hq = hq
test_turns (Fails f) p q a a' b b' c hp hq = refl

spend_turns : (left : ℕ) (f : ℕ → Outcome) (go go' : ℕ → List ℕ) (n : ℕ) → ((rest : ℕ) → TurnsAhead (f rest) (go rest) (go' (suc rest))) → ((rest : ℕ) → length (go' rest) ≡ n) → TurnsAhead (spend left f) (spent_turns left go (no_turns n)) (spent_turns (suc left) go' (no_turns n))
spend_turns zero f go go' n fg long = none_below n (go' zero) (long zero)
spend_turns (suc left) f go go' n fg long = fg left

-- the turns of a loop, as long as the list of those inside and 1
added_same_length : (xs ys : List ℕ) → length ys ≡ length xs → length (added xs ys) ≡ length xs
added_same_length [] ys e = e
added_same_length (x ∷ xs) [] e = refl
added_same_length (x ∷ xs) (y ∷ ys) e = let h = added_same_length xs ys (omega (arith, e)) in omega (arith, h)

loop_ahead : (inner bound : ℕ) (guard : List ℕ → Got Bool) (body : List ℕ → ℕ → Outcome) (inside : List ℕ → ℕ → List ℕ) → ((env : List ℕ) (left : ℕ) → length (inside env left) ≡ inner) → ((env : List ℕ) (left : ℕ) → Ahead (body env left) (body env (suc left))) → ((env : List ℕ) (left : ℕ) → TurnsAhead (body env left) (inside env left) (inside env (suc left))) → (env : List ℕ) (left : ℕ) → TurnsAhead (turns bound guard body env left) (turns_of_loop inner bound guard body inside env left) (turns_of_loop inner (suc bound) guard body inside env (suc left))
loop_ahead inner zero guard body inside long h k env left = go (guard env)
  where
    next : ℕ → List ℕ
    next rest = added (1 ∷ inside env rest) (turns_behind (suc inner) (body env rest) (turns_of_loop inner zero guard body inside))

    go : (x : Got Bool) → TurnsAhead (on_test x (Over [] Going) (Runs [] env left)) (no_turns (suc inner)) (chosen_turns x (next left) (no_turns (suc inner)) (no_turns (suc inner)))
    go (Is true) =
        none_below (suc inner) (next left)
        (let l = long env left in
        let b = behind_long (suc inner) (body env left) (turns_of_loop inner zero guard body inside) (loop_long inner zero guard body inside long) in
        let e = added_same_length (1 ∷ inside env left) (turns_behind (suc inner) (body env left) (turns_of_loop inner zero guard body inside)) (omega (arith, l, b)) in
        omega (arith, e, l))
    go (Is false) = refl
    go (Fails f) = refl
loop_ahead inner (suc bound) guard body inside long h k env left =
    let loop = turns_of_loop inner bound guard body inside in
    let more = turns_of_loop inner (suc bound) guard body inside in
    test_turns (guard env) _ (Runs [] env left) _ _ (no_turns (suc inner)) (no_turns (suc inner)) (no_turns (suc inner))
    (spend_turns left (λ rest. then_do (body env rest) (turns bound guard body))
    (λ rest. added (1 ∷ inside env rest) (turns_behind (suc inner) (body env rest) loop))
    (λ rest. added (1 ∷ inside env rest) (turns_behind (suc inner) (body env rest) more)) (suc inner)
    (λ rest. then_turns added below_added (suc inner) (body env rest) (body env (suc rest)) (turns bound guard body) (1 ∷ inside env rest) (1 ∷ inside env (suc rest)) loop more
    (loop_ahead inner bound guard body inside long h k) (loop_long inner (suc bound) guard body inside long) (h env rest)
    (one_more (body env rest) (inside env rest) (inside env (suc rest)) (k env rest)))
    (λ rest.
    let l = long env rest in
    let b = behind_long (suc inner) (body env rest) more (loop_long inner (suc bound) guard body inside long) in
    let e = added_same_length (1 ∷ inside env rest) (turns_behind (suc inner) (body env rest) more) (omega (arith, l, b)) in
    omega (arith, e, l)))
    refl
  where
    one_more : (o : Outcome) (xs ys : List ℕ) → TurnsAhead o xs ys → TurnsAhead o (1 ∷ xs) (1 ∷ ys)
    one_more (Runs events env left) xs ys h = ap (λ zs. 1 ∷ zs) h
    one_more (Over events Going) xs ys h = (omega arith, h)
    one_more (Over events Done) xs ys h = ap (λ zs. 1 ∷ zs) h
    one_more (Over events (Failed f)) xs ys h = ap (λ zs. 1 ∷ zs) h

module _ (inputs : List Input) where
  mutual
    pub statement_ahead : (s : Statement) (env : List ℕ) (left : ℕ) → TurnsAhead (run_one inputs s env left) (statement_turns inputs s env left) (statement_turns inputs s env (suc left))
    statement_ahead (Set v w) env left = ahead_itself (run_one inputs (Set v w) env left) []
    statement_ahead (Read v a w) env left = ahead_itself (run_one inputs (Read v a w) env left) []
    statement_ahead (If t a b) env left =
        test_turns (test_value inputs t env) (run inputs a env left) (run inputs b env left) _ _ _ _ (no_turns (block_loops a + block_loops b))
        (joined (run inputs a env left) (block_turns inputs a env left) (block_turns inputs a env (suc left)) (no_turns (block_loops b)) (block_turns_ahead a env left))
        (behind (run inputs b env left) (no_turns (block_loops a)) (block_turns inputs b env left) (block_turns inputs b env (suc left)) (block_turns_ahead b env left))
      where
        joined : (o : Outcome) (xs ys zs : List ℕ) → TurnsAhead o xs ys → TurnsAhead o (xs ++ zs) (ys ++ zs)
        joined (Runs events env left) xs ys zs h = ap (λ l. l ++ zs) h
        joined (Over events Going) xs ys zs h = below_joined xs ys zs zs h (below_itself zs)
        joined (Over events Done) xs ys zs h = ap (λ l. l ++ zs) h
        joined (Over events (Failed f)) xs ys zs h = ap (λ l. l ++ zs) h

        behind : (o : Outcome) (zs xs ys : List ℕ) → TurnsAhead o xs ys → TurnsAhead o (zs ++ xs) (zs ++ ys)
        behind (Runs events env left) zs xs ys h = ap (λ l. zs ++ l) h
        behind (Over events Going) zs xs ys h = below_joined zs zs xs ys (below_itself zs) h
        behind (Over events Done) zs xs ys h = ap (λ l. zs ++ l) h
        behind (Over events (Failed f)) zs xs ys h = ap (λ l. zs ++ l) h
    statement_ahead (Loop t body) env left =
        loop_ahead (block_loops body) left (test_value inputs t) (run inputs body) (block_turns inputs body) (block_long inputs body) (block_ahead inputs body) (block_turns_ahead body) env left
    statement_ahead (Emit w) env left = ahead_itself (run_one inputs (Emit w) env left) []
    statement_ahead EndRow env left = refl
    statement_ahead (Ret v) env left = ahead_itself (run_one inputs (Ret v) env left) []

    pub block_turns_ahead : (ss : Block) (env : List ℕ) (left : ℕ) → TurnsAhead (run inputs ss env left) (block_turns inputs ss env left) (block_turns inputs ss env (suc left))
    block_turns_ahead Nil env left = refl
    block_turns_ahead (Cons s ss) env left =
        then_turns ◌++◌ below_joined (block_loops ss) (run_one inputs s env left) (run_one inputs s env (suc left)) (run inputs ss)
        (statement_turns inputs s env left) (statement_turns inputs s env (suc left)) (block_turns inputs ss) (block_turns inputs ss)
        (block_turns_ahead ss) (block_long inputs ss) (one_ahead inputs s env left) (statement_ahead s env left)

-- no number is greater than with one more turn
ahead_at : (o : Outcome) (xs ys : List ℕ) (k : ℕ) → TurnsAhead o xs ys → slice_index xs k ≤ slice_index ys k
ahead_at (Runs events env left) xs ys k h = below_at xs ys k (below_same xs ys h)
ahead_at (Over events Going) xs ys k h = below_at xs ys k h
ahead_at (Over events Done) xs ys k h = below_at xs ys k (below_same xs ys h)
ahead_at (Over events (Failed f)) xs ys k h = below_at xs ys k (below_same xs ys h)

pub turns_grow : (q : Routine) (inputs : List Input) (m k : ℕ) → slice_index (loop_turns q inputs m) k ≤ slice_index (loop_turns q inputs (m + 1)) k
turns_grow q inputs m k =
    let start : List ℕ = replicate q.vars 0 in
    let more : suc m ≡ m + 1 = omega arith in
    subst (λ n. slice_index (loop_turns q inputs m) k ≤ slice_index (loop_turns q inputs n) k) more
    (ahead_at (run inputs q.body start m) (loop_turns q inputs m) (loop_turns q inputs (suc m)) k (block_turns_ahead inputs q.body start m))

over_same : (o : Outcome) (xs ys : List ℕ) → TurnsAhead o xs ys → ((seen_of o).standing ≡ Going → ⊥) → xs ≡ ys
over_same (Runs events env left) xs ys h e = h
over_same (Over events Going) xs ys h e = absurd (e refl)
over_same (Over events Done) xs ys h e = h
over_same (Over events (Failed f)) xs ys h e = h

-- where the run is over, one turn more changes none
pub turns_stay : (q : Routine) (inputs : List Input) (m : ℕ) → ((meaning q inputs m).standing ≡ Going → ⊥) → loop_turns q inputs m ≡ loop_turns q inputs (m + 1)
turns_stay q inputs m over =
    let start : List ℕ = replicate q.vars 0 in
    let more : suc m ≡ m + 1 = omega arith in
    subst (λ n. loop_turns q inputs m ≡ loop_turns q inputs n) more
    (over_same (run inputs q.body start m) (loop_turns q inputs m) (loop_turns q inputs (suc m)) (block_turns_ahead inputs q.body start m) over)
