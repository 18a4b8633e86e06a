-- A loop program with a marked loop does what the program does, and one end of a row more for each turn of that loop.
use Rattle.std.proofs.Common.{◌≡◌, ℕ, zero, suc, ◌+◌, ◌<◌, Bool, true, false, List, [], ◌∷◌, ◌++◌, length, refl, sym, ap, ◌∙◌, subst, arith}
use Rattle.std.specs.Prelude.{slice_index, replicate, if◌then◌else◌, ◌==◌}
use Rattle.list_denotation.specs.declared.event.Event.{Event}
use Rattle.list_denotation.specs.declared.event.Event.TheVariants as event
use Rattle.list_denotation.specs.declared.input.Input.{Input}
use Rattle.list_denotation.specs.Observation.{Going, Failed}
use Rattle.list_denotation.specs.Values.{Got, Is, Fails}
use Rattle.loop_ir.specs.declared.counts.Measure.TheVariants.{Loops}
use Rattle.loop_ir.specs.Statements.{Statement, Set, Read, If, Loop, Emit, EndRow, Ret, Block, Nil, Cons, Routine, join}
use Rattle.loop_ir.specs.Counts.{statement_measure, block_loops}
use Rattle.loop_ir.specs.Meaning.{Outcome, Runs, Over, after, then_do, on_test, spend, turns, test_value, run_one, run, seen_of, meaning}
use Rattle.loop_ir.specs.LoopTurns.{added, no_turns, turns_behind, chosen_turns, spent_turns, turns_of_loop, statement_turns, block_turns, loop_turns}
use Rattle.loop_ir.specs.Marks.{fronted_statement, fronted_block, row_where, marked, row_ends, HasMoreRows, Same, Kept, Marked, IsMarkedSo}
use Rattle.loop_ir.proofs.LoopTurns.{statement_long}

-- ---- the turns of the loops that are marked, of loops from number k on

abbrev pub counted : Bool → ℕ → ℕ
counted true n = n
counted false n = 0

module _ (here : ℕ → Bool) where
  abbrev pub marks_in : ℕ → List ℕ → ℕ
  marks_in k [] = 0
  marks_in k (n ∷ ns) = counted (here k) n + marks_in (k + 1) ns

  marks_append : (k : ℕ) (xs ys : List ℕ) → marks_in k (xs ++ ys) ≡ marks_in k xs + marks_in (k + length xs) ys
  marks_append k [] ys = let e : k ≡ k + 0 = omega arith in ap (λ j. marks_in j ys) e ∙ (omega arith)
  marks_append k (x ∷ xs) ys =
      let h = marks_append (k + 1) xs ys in
      let e : k + 1 + length xs ≡ k + suc (length xs) = omega arith in
      let g = ap (λ j. marks_in j ys) e in
      omega (arith, h, g)

  if_zero : (b : Bool) → counted b 0 ≡ 0
  if_zero true = refl
  if_zero false = refl

  marks_none : (k n : ℕ) → marks_in k (no_turns n) ≡ 0
  marks_none k zero = refl
  marks_none k (suc n) = let h = marks_none (k + 1) n in let z = if_zero (here k) in omega (arith, h, z)

  if_added : (b : Bool) (x y : ℕ) → counted b (x + y) ≡ counted b x + counted b y
  if_added true x y = refl
  if_added false x y = omega arith

  marks_added : (k : ℕ) (xs ys : List ℕ) → marks_in k (added xs ys) ≡ marks_in k xs + marks_in k ys
  marks_added k [] ys = omega arith
  marks_added k (x ∷ xs) [] = omega arith
  marks_added k (x ∷ xs) (y ∷ ys) = let h = marks_added (k + 1) xs ys in let z = if_added (here k) x y in omega (arith, h, z)

-- ---- events

more_itself : (events : List Event) → HasMoreRows events events
more_itself [] = Same
more_itself (e ∷ events) = Kept e (more_itself events)

more_joined : (a b c d : List Event) → HasMoreRows a b → HasMoreRows c d → HasMoreRows (a ++ c) (b ++ d)
more_joined a b c d Same k = k
more_joined a b c d (Kept e h) k = Kept e (more_joined _ _ c d h k)
more_joined a b c d (Marked h) k = Marked (more_joined _ _ c d h k)

ends_joined : (a b : List Event) → row_ends (a ++ b) ≡ row_ends a + row_ends b
ends_joined [] b = omega arith
ends_joined (event.Emit x ∷ a) b = ends_joined a b
ends_joined (event.EndRow ∷ a) b = let h = ends_joined a b in omega (arith, h)

-- events with so many ends of rows more
pub record Marks (n : ℕ) (events : List Event) : Type 0 where
  pub more : List Event
  pub has : HasMoreRows events more
  pub rows : row_ends more ≡ row_ends events + n

abbrev unmarked : (events : List Event) → Marks 0 events
unmarked events = record { more = events; has = more_itself events; rows = omega arith }

abbrev joined : (m n : ℕ) (a b : List Event) → Marks m a → Marks n b → Marks (m + n) (a ++ b)
joined m n a b x y = record {
  more = x.more ++ y.more;
  has = more_joined a x.more b y.more x.has y.has;
  rows = (let h = x.rows in let k = y.rows in omega (arith, h, k, ends_joined x.more y.more, ends_joined a b));
}

-- ---- outcomes

abbrev pub MarkedAs : ℕ → Outcome → Outcome → Type 0
MarkedAs n (Runs events env left) u = (m : Marks n events) × (u ≡ Runs m.more env left)
MarkedAs n (Over events standing) u = (m : Marks n events) × (u ≡ Over m.more standing)

pub same_marks : (n n' : ℕ) (o u : Outcome) → n ≡ n' → MarkedAs n o u → MarkedAs n' o u
same_marks n n' o u e h = subst (λ k. MarkedAs k o u) e h

marked_itself : (o : Outcome) → MarkedAs 0 o o
marked_itself (Runs events env left) = (unmarked events, refl)
marked_itself (Over events standing) = (unmarked events, refl)

after_marked : (m n : ℕ) (before : List Event) (x : Marks m before) (o u : Outcome) → MarkedAs n o u → MarkedAs (m + n) (after before o) (after x.more u)
after_marked m n before x (Runs events env left) u h = (joined m n before events x h.0, ap (after x.more) h.1)
after_marked m n before x (Over events standing) u h = (joined m n before events x h.0, ap (after x.more) h.1)

module _ (here : ℕ → Bool) where
  then_marked : (k loops m : ℕ) (o u : Outcome) (f g : List ℕ → ℕ → Outcome) (go : List ℕ → ℕ → List ℕ) → ((env : List ℕ) (left : ℕ) → MarkedAs (marks_in here k (go env left)) (f env left) (g env left)) → MarkedAs m o u → MarkedAs (m + marks_in here k (turns_behind loops o go)) (then_do o f) (then_do u g)
  then_marked k loops m (Runs events env left) u f g go fg h =
      subst (λ v. MarkedAs (m + marks_in here k (go env left)) (after events (f env left)) (then_do v g)) (sym h.1)
      (after_marked m (marks_in here k (go env left)) events h.0 (f env left) (g env left) (fg env left))
  then_marked k loops m (Over events standing) u f g go fg h =
      same_marks m (m + marks_in here k (no_turns loops)) (Over events standing) (then_do u g) (omega (arith, marks_none here k loops))
      (h.0, ap (λ v. then_do v g) h.1)

  test_marked : (k : ℕ) (x : Got Bool) (a b c : List ℕ) (p p' q q' : Outcome) → MarkedAs (marks_in here k a) p p' → MarkedAs (marks_in here k b) q q' → marks_in here k c ≡ 0 → MarkedAs (marks_in here k (chosen_turns x a b c)) (on_test x p q) (on_test x p' q')
  test_marked k (Is true) a b c p p' q q' hp hq hc = hp
  test_marked k (Is false) a b c p p' q q' hp hq hc = hq
  test_marked k (Fails f) a b c p p' q q' hp hq hc = same_marks 0 (marks_in here k c) (Over [] (Failed f)) (Over [] (Failed f)) (sym hc) (unmarked [], refl)

  spend_marked : (k left : ℕ) (go : ℕ → List ℕ) (none : List ℕ) (f g : ℕ → Outcome) → ((rest : ℕ) → MarkedAs (marks_in here k (go rest)) (f rest) (g rest)) → marks_in here k none ≡ 0 → MarkedAs (marks_in here k (spent_turns left go none)) (spend left f) (spend left g)
  spend_marked k zero go none f g fg hn = same_marks 0 (marks_in here k none) (Over [] Going) (Over [] Going) (sym hn) (unmarked [], refl)
  spend_marked k (suc left) go none f g fg hn = fg left

  turns_marked : (k inner bound : ℕ) (guard : List ℕ → Got Bool) (body body' : List ℕ → ℕ → Outcome) (inside : List ℕ → ℕ → List ℕ) → ((env : List ℕ) (left : ℕ) → MarkedAs (marks_in here k (1 ∷ inside env left)) (body env left) (body' env left)) → (env : List ℕ) (left : ℕ) → MarkedAs (marks_in here k (turns_of_loop inner bound guard body inside env left)) (turns bound guard body env left) (turns bound guard body' env left)
  turns_marked k inner zero guard body body' inside h env left =
      let none = no_turns (suc inner) in
      let zeros = marks_none here k (suc inner) in
      same_marks (marks_in here k (chosen_turns (guard env) none none none)) (marks_in here k none) (turns zero guard body env left) (turns zero guard body' env left)
      (same_choice (guard env))
      (test_marked k (guard env) none none none (Over [] Going) (Over [] Going) (Runs [] env left) (Runs [] env left)
      (same_marks 0 (marks_in here k none) (Over [] Going) (Over [] Going) (sym zeros) (unmarked [], refl))
      (same_marks 0 (marks_in here k none) (Runs [] env left) (Runs [] env left) (sym zeros) (unmarked [], refl)) zeros)
    where
      same_choice : (x : Got Bool) → marks_in here k (chosen_turns x (no_turns (suc inner)) (no_turns (suc inner)) (no_turns (suc inner))) ≡ marks_in here k (no_turns (suc inner))
      same_choice (Is true) = refl
      same_choice (Is false) = refl
      same_choice (Fails f) = refl
  turns_marked k inner (suc bound) guard body body' inside h env left =
      let none = no_turns (suc inner) in
      let zeros = marks_none here k (suc inner) in
      test_marked k (guard env) _ none none _ _ (Runs [] env left) (Runs [] env left)
      (spend_marked k left (λ rest. added (1 ∷ inside env rest) (turns_behind (suc inner) (body env rest) (turns_of_loop inner bound guard body inside))) none
      (λ rest. then_do (body env rest) (turns bound guard body)) (λ rest. then_do (body' env rest) (turns bound guard body'))
      (λ rest.
      same_marks
      (marks_in here k (1 ∷ inside env rest) + marks_in here k (turns_behind (suc inner) (body env rest) (turns_of_loop inner bound guard body inside)))
      (marks_in here k (added (1 ∷ inside env rest) (turns_behind (suc inner) (body env rest) (turns_of_loop inner bound guard body inside))))
      (then_do (body env rest) (turns bound guard body)) (then_do (body' env rest) (turns bound guard body'))
      (sym (marks_added here k (1 ∷ inside env rest) (turns_behind (suc inner) (body env rest) (turns_of_loop inner bound guard body inside))))
      (then_marked k (suc inner) (marks_in here k (1 ∷ inside env rest)) (body env rest) (body' env rest) (turns bound guard body) (turns bound guard body')
      (turns_of_loop inner bound guard body inside) (turns_marked k inner bound guard body body' inside h) (h env rest)))
      zeros)
      (same_marks 0 (marks_in here k none) (Runs [] env left) (Runs [] env left) (sym zeros) (unmarked [], refl))
      zeros

  -- ---- statements and blocks
  module _ (inputs : List Input) where
    -- the end of a row in front, where there is one
    front_marked : (b : Bool) (n : ℕ) (o : Outcome) (body : Block) (env : List ℕ) (left : ℕ) → MarkedAs n o (run inputs body env left) → MarkedAs (counted b 1 + n) o (run inputs (join (if b then Cons EndRow Nil else Nil) body) env left)
    front_marked false n o body env left h = same_marks n (0 + n) o (run inputs body env left) (omega arith) h
    front_marked true n (Runs events env' left') body env left h =
        (record { more = event.EndRow ∷ h.0.more; has = Marked h.0.has; rows = (let r = h.0.rows in omega (arith, r)) }, ap (after (event.EndRow ∷ [])) h.1)
    front_marked true n (Over events standing) body env left h =
        (record { more = event.EndRow ∷ h.0.more; has = Marked h.0.has; rows = (let r = h.0.rows in omega (arith, r)) }, ap (after (event.EndRow ∷ [])) h.1)

    abbrev front : ℕ → Block
    front = row_where here

    mutual
      pub one_marked : (k : ℕ) (s : Statement) (env : List ℕ) (left : ℕ) → MarkedAs (marks_in here k (statement_turns inputs s env left)) (run_one inputs s env left) (run_one inputs (fronted_statement front k s) env left)
      one_marked k (Set v w) env left = marked_itself (run_one inputs (Set v w) env left)
      one_marked k (Read v a w) env left = marked_itself (run_one inputs (Read v a w) env left)
      one_marked k (If t a b) env left =
          let both = no_turns (block_loops a + block_loops b) in
          test_marked k (test_value inputs t env) _ _ both _ _ _ _
          (same_marks (marks_in here k (block_turns inputs a env left)) (marks_in here k (block_turns inputs a env left ++ no_turns (block_loops b)))
          (run inputs a env left) (run inputs (fronted_block front k a) env left)
          (let e = marks_append here k (block_turns inputs a env left) (no_turns (block_loops b)) in
          let z = marks_none here (k + length (block_turns inputs a env left)) (block_loops b) in omega (arith, e, z))
          (block_marked k a env left))
          (same_marks (marks_in here (k + block_loops a) (block_turns inputs b env left)) (marks_in here k (no_turns (block_loops a) ++ block_turns inputs b env left))
          (run inputs b env left) (run inputs (fronted_block front (k + block_loops a) b) env left)
          (let e = marks_append here k (no_turns (block_loops a)) (block_turns inputs b env left) in
          let z = marks_none here k (block_loops a) in
          let l = length_none (block_loops a) in
          let j = ap (λ i. marks_in here (k + i) (block_turns inputs b env left)) l in omega (arith, e, z, j))
          (block_marked (k + block_loops a) b env left))
          (marks_none here k (block_loops a + block_loops b))
        where
          length_none : (n : ℕ) → length (no_turns n) ≡ n
          length_none zero = refl
          length_none (suc n) = ap suc (length_none n)
      one_marked k (Loop t body) env left =
          turns_marked k (block_loops body) left (test_value inputs t) (run inputs body) (run inputs (join (front k) (fronted_block front (k + 1) body))) (block_turns inputs body)
          (λ env' left'. front_marked (here k) (marks_in here (k + 1) (block_turns inputs body env' left')) (run inputs body env' left') (fronted_block front (k + 1) body) env' left'
          (block_marked (k + 1) body env' left')) env left
      one_marked k (Emit w) env left = marked_itself (run_one inputs (Emit w) env left)
      one_marked k EndRow env left = marked_itself (run_one inputs EndRow env left)
      one_marked k (Ret v) env left = marked_itself (run_one inputs (Ret v) env left)

      pub block_marked : (k : ℕ) (ss : Block) (env : List ℕ) (left : ℕ) → MarkedAs (marks_in here k (block_turns inputs ss env left)) (run inputs ss env left) (run inputs (fronted_block front k ss) env left)
      block_marked k Nil env left = marked_itself (Runs [] env left)
      block_marked k (Cons s ss) env left =
          let first = statement_turns inputs s env left in
          let rest = turns_behind (block_loops ss) (run_one inputs s env left) (block_turns inputs ss) in
          same_marks (marks_in here k first + marks_in here (k + statement_measure Loops s) rest) (marks_in here k (first ++ rest))
          (run inputs (Cons s ss) env left) (run inputs (fronted_block front k (Cons s ss)) env left)
          (let e = marks_append here k first rest in
          let j = ap (λ i. marks_in here (k + i) rest) (statement_long inputs s env left) in omega (arith, e, j))
          (then_marked (k + statement_measure Loops s) (block_loops ss) (marks_in here k first) (run_one inputs s env left) (run_one inputs (fronted_statement front k s) env left)
          (run inputs ss) (run inputs (fronted_block front (k + statement_measure Loops s) ss)) (block_turns inputs ss)
          (block_marked (k + statement_measure Loops s) ss) (one_marked k s env left))

-- ---- the marks of one loop

module _ (i : ℕ) where
  abbrev one : ℕ → Bool
  one k = k == i

  not_one : (k x : ℕ) → i < k → counted (one k) x ≡ 0
  not_one k x h = grind arith

  the_one : (k x : ℕ) → k ≡ i → counted (one k) x ≡ x
  the_one k x h = grind arith

  none_behind : (k : ℕ) (xs : List ℕ) → i < k → marks_in one k xs ≡ 0
  none_behind k [] h = refl
  none_behind k (x ∷ xs) h = let more = none_behind (k + 1) xs (omega (arith, h)) in let z = not_one k x h in omega (arith, more, z)

  marks_at : (k j : ℕ) (xs : List ℕ) → k + j ≡ i → marks_in one k xs ≡ slice_index xs j
  marks_at k zero [] e = refl
  marks_at k (suc j) [] e = refl
  marks_at k zero (x ∷ xs) e =
      let z = the_one k x (omega (arith, e)) in let more = none_behind (k + 1) xs (omega (arith, e)) in omega (arith, z, more)
  marks_at k (suc j) (x ∷ xs) e =
      let z = not_here (omega arith) in let more = marks_at (k + 1) j xs (omega (arith, e)) in omega (arith, z, more)
    where
      not_here : k < i → counted (one k) x ≡ 0
      not_here h = grind arith

seen_marked : (n : ℕ) (o u : Outcome) → MarkedAs n o u → IsMarkedSo n (seen_of o) (seen_of u)
seen_marked n (Runs events env left) u h =
    subst (λ v. IsMarkedSo n (seen_of (Runs events env left)) (seen_of v)) (sym h.1) (record { events = h.0.has; rows = h.0.rows; standing = refl })
seen_marked n (Over events standing) u h =
    subst (λ v. IsMarkedSo n (seen_of (Over events standing)) (seen_of v)) (sym h.1) (record { events = h.0.has; rows = h.0.rows; standing = refl })

-- the marked loop tells each of its turns
pub turns_are_marked : (q : Routine) (inputs : List Input) (m k : ℕ) → IsMarkedSo (slice_index (loop_turns q inputs m) k) (meaning q inputs m) (meaning (marked k q) inputs m)
turns_are_marked q inputs m k =
    let start : List ℕ = replicate q.vars 0 in
    let o = run inputs q.body start m in
    let u = run inputs (fronted_block (row_where (one k)) 0 q.body) start m in
    seen_marked (slice_index (loop_turns q inputs m) k) o u
    (same_marks (marks_in (one k) 0 (loop_turns q inputs m)) (slice_index (loop_turns q inputs m) k) o u
    (marks_at k 0 k (loop_turns q inputs m) (omega arith)) (block_marked (one k) inputs 0 q.body start m))
