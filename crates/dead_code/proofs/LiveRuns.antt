-- A run that isn't undefined is that of the live statements over the kept variables.
--
-- The relation: while both go on, the variables of the second run are the kept ones of the first, and both have the same
-- events and turns left; where the first is over, the second is over with the same. Where the first has come to what C leaves
-- undefined, the second may do anything, so what may be undefined can be dropped.
use Rattle.std.proofs.Common.{◌≡◌, ℕ, zero, suc, Bool, true, false, List, [], ◌∷◌, length, set, refl, sym, ap, ◌∙◌, subst, append-nil}
use Rattle.std.specs.Prelude.{◌&&◌, ◌==◌, not, nat_lt, slice_get, if◌then◌else◌, Option, Some, None}
use Rattle.std.proofs.lemmas.List.{length-set}
use Rattle.list_denotation.specs.declared.event.Event.{Event}
use Rattle.list_denotation.specs.declared.event.Event.TheVariants as event
use Rattle.list_denotation.specs.declared.input.Input.{Input}
use Rattle.list_denotation.specs.Inputs.{items_in}
use Rattle.list_denotation.specs.Observation.{Done, Going, Failed}
use Rattle.list_denotation.specs.Values.{Trap, Stuck, Got, Is, Fails, with_value, unless_zero}
use Rattle.loop_ir.specs.declared.syntax.WOp.{WOp}
use Rattle.loop_ir.specs.declared.syntax.WOp.TheVariants as op
use Rattle.loop_ir.specs.declared.syntax.Verdict.{Verdict}
use Rattle.loop_ir.specs.declared.syntax.Verdict.TheVariants as verdict
use Rattle.loop_ir.specs.Statements.{Operand, Const, Var, Len, Int, Bin, Test, Less, Same, Both, Either, Not, Statement, Set, Read, If, Loop, Emit, EndRow, Ret, Block, Nil, Cons, join}
use Rattle.loop_ir.specs.Meaning.{Outcome, Runs, Over, after, then_do, on_value, on_test, spend, turns, item_of, word_operation, operand_value, test_value, verdict_of, run_one, run}
use Rattle.loop_ir.proofs.Joins.{run_join}
use Rattle.dead_code.specs.Live.{ranks, number_in, renumbered, renumbered_test, is_nil, only_if, choice, live_statement, live}
use Rattle.dead_code.specs.Needs.{is_marked, with_operand, with_test, is_idle, are_idle, needs_of_set, needs_of, needs_of_block}
use Rattle.dead_code.proofs.ClosedMarks.{both_operands, both_tests, loop_parts, cons_parts, choice_parts, set_parts}
use Rattle.dead_code.proofs.KeptVariables.{kept, ranked, marked_within, kept_set, kept_unset, read_kept}

-- ---- values: none of them traps

abbrev pub NeverTraps : {A : Type 0} → Got A → Type 0
NeverTraps (Is x) = Unit {0}
NeverTraps (Fails Stuck) = Unit {0}
NeverTraps (Fails Trap) = ⊥

then_never : {A B : Type 0} (x : Got A) (go : A → Got B) → NeverTraps x → ((a : A) → NeverTraps (go a)) → NeverTraps (with_value x go)
then_never (Is x) go h k = k x
then_never (Fails Stuck) go h k = tt
then_never (Fails Trap) go h k = h

quotient_never : (y q : ℕ) → NeverTraps (unless_zero Stuck y q)
quotient_never zero q = tt
quotient_never (suc y) q = tt

operation_never : (o : WOp) (x y : ℕ) → NeverTraps (word_operation o x y)
operation_never op.Add x y = tt
operation_never op.Sub x y = tt
operation_never op.Mul x y = tt
operation_never op.Div x y = quotient_never y _
operation_never op.Rem x y = quotient_never y _
operation_never op.Xor x y = tt

pub item_never : (x : Option ℕ) → NeverTraps (item_of x)
item_never (Some x) = tt
item_never None = tt

if_never : (b : Bool) (x y : Got Bool) → NeverTraps x → NeverTraps y → NeverTraps (if b then x else y)
if_never true x y h k = h
if_never false x y h k = k

module _ (inputs : List Input) where
  pub operand_never : (w : Operand) (env : List ℕ) → NeverTraps (operand_value inputs w env)
  operand_never (Const n) env = tt
  operand_never (Var v) env = tt
  operand_never (Len a) env = tt
  operand_never (Int k) env = tt
  operand_never (Bin o a b) env =
      then_never (operand_value inputs a env) _ (operand_never a env)
      (λ x. then_never (operand_value inputs b env) _ (operand_never b env) (λ y. operation_never o x y))

  pub test_never : (t : Test) (env : List ℕ) → NeverTraps (test_value inputs t env)
  test_never (Less a b) env =
      then_never (operand_value inputs a env) _ (operand_never a env)
      (λ x. then_never (operand_value inputs b env) _ (operand_never b env) (λ y. tt))
  test_never (Same a b) env =
      then_never (operand_value inputs a env) _ (operand_never a env)
      (λ x. then_never (operand_value inputs b env) _ (operand_never b env) (λ y. tt))
  test_never (Both a b) env =
      then_never (test_value inputs a env) _ (test_never a env) (λ x. if_never x (test_value inputs b env) (Is false) (test_never b env) tt)
  test_never (Either a b) env =
      then_never (test_value inputs a env) _ (test_never a env) (λ x. if_never x (Is true) (test_value inputs b env) tt (test_never b env))
  test_never (Not a) env = then_never (test_value inputs a env) _ (test_never a env) (λ x. tt)

-- ---- what is read of kept variables is the same

module _ (inputs : List Input) (m : List Bool) (env : List ℕ) (long : length env ≡ length m) where
  pub operand_kept : (w : Operand) → with_operand w m ≡ m → operand_value inputs (renumbered (ranks m) w) (kept m env) ≡ operand_value inputs w env
  operand_kept (Const n) h = refl
  operand_kept (Var v) h = ap Is (read_kept m env v long h)
  operand_kept (Len a) h = refl
  operand_kept (Int k) h = refl
  operand_kept (Bin o a b) h =
      let parts = both_operands a b m h in
      ap (λ x. with_value x (λ i. with_value (operand_value inputs (renumbered (ranks m) b) (kept m env)) (λ j. word_operation o i j))) (operand_kept a parts.0)
      ∙ ap (λ y. with_value (operand_value inputs a env) (λ i. with_value y (λ j. word_operation o i j))) (operand_kept b parts.1)

  pub test_kept : (t : Test) → with_test t m ≡ m → test_value inputs (renumbered_test (ranks m) t) (kept m env) ≡ test_value inputs t env
  test_kept (Less a b) h =
      let parts = both_operands a b m h in
      ap (λ x. with_value x (λ i. with_value (operand_value inputs (renumbered (ranks m) b) (kept m env)) (λ j. Is (nat_lt i j)))) (operand_kept a parts.0)
      ∙ ap (λ y. with_value (operand_value inputs a env) (λ i. with_value y (λ j. Is (nat_lt i j)))) (operand_kept b parts.1)
  test_kept (Same a b) h =
      let parts = both_operands a b m h in
      ap (λ x. with_value x (λ i. with_value (operand_value inputs (renumbered (ranks m) b) (kept m env)) (λ j. Is (i == j)))) (operand_kept a parts.0)
      ∙ ap (λ y. with_value (operand_value inputs a env) (λ i. with_value y (λ j. Is (i == j)))) (operand_kept b parts.1)
  test_kept (Both a b) h =
      let parts = both_tests a b m h in
      ap (λ x. with_value x (λ i. if i then test_value inputs (renumbered_test (ranks m) b) (kept m env) else Is false)) (test_kept a parts.0)
      ∙ ap (λ y. with_value (test_value inputs a env) (λ i. if i then y else Is false)) (test_kept b parts.1)
  test_kept (Either a b) h =
      let parts = both_tests a b m h in
      ap (λ x. with_value x (λ i. if i then Is true else test_value inputs (renumbered_test (ranks m) b) (kept m env))) (test_kept a parts.0)
      ∙ ap (λ y. with_value (test_value inputs a env) (λ i. if i then Is true else y)) (test_kept b parts.1)
  test_kept (Not a) h = ap (λ x. with_value x (λ i. Is (not i))) (test_kept a h)

-- ---- the relation, and one lemma for each combinator

module _ (m : List Bool) where
  abbrev pub IsKept : Outcome → Outcome → Type 0
  IsKept (Runs events env left) u = (length env ≡ length m) × (u ≡ Runs events (kept m env) left)
  IsKept (Over events Done) u = u ≡ Over events Done
  IsKept (Over events Going) u = u ≡ Over events Going
  IsKept (Over events (Failed Trap)) u = u ≡ Over events (Failed Trap)
  IsKept (Over events (Failed Stuck)) u = Unit {0}

  after_kept : (before : List Event) (o u : Outcome) → IsKept o u → IsKept (after before o) (after before u)
  after_kept before (Runs events env left) u h = (h.0, ap (after before) h.1)
  after_kept before (Over events Done) u h = ap (after before) h
  after_kept before (Over events Going) u h = ap (after before) h
  after_kept before (Over events (Failed Trap)) u h = ap (after before) h
  after_kept before (Over events (Failed Stuck)) u h = tt

  pub then_kept : (o u : Outcome) (f g : List ℕ → ℕ → Outcome) → ((env : List ℕ) (left : ℕ) → length env ≡ length m → IsKept (f env left) (g (kept m env) left)) → IsKept o u → IsKept (then_do o f) (then_do u g)
  then_kept (Runs events env left) u f g fg h =
      subst (λ v. IsKept (after events (f env left)) (then_do v g)) (sym h.1) (after_kept events (f env left) (g (kept m env) left) (fg env left h.0))
  then_kept (Over events Done) u f g fg h = ap (λ v. then_do v g) h
  then_kept (Over events Going) u f g fg h = ap (λ v. then_do v g) h
  then_kept (Over events (Failed Trap)) u f g fg h = ap (λ v. then_do v g) h
  then_kept (Over events (Failed Stuck)) u f g fg h = tt

  value_kept : {A : Type 0} (x : Got A) (f g : A → Outcome) → ((a : A) → IsKept (f a) (g a)) → IsKept (on_value x f) (on_value x g)
  value_kept (Is a) f g fg = fg a
  value_kept (Fails Trap) f g fg = refl
  value_kept (Fails Stuck) f g fg = tt

  pub on_kept : (x : Got Bool) (a b c d : Outcome) → IsKept a c → IsKept b d → IsKept (on_test x a b) (on_test x c d)
  on_kept (Is true) a b c d ac bd = ac
  on_kept (Is false) a b c d ac bd = bd
  on_kept (Fails Trap) a b c d ac bd = refl
  on_kept (Fails Stuck) a b c d ac bd = tt

  spend_kept : (left : ℕ) (f g : ℕ → Outcome) → ((rest : ℕ) → IsKept (f rest) (g rest)) → IsKept (spend left f) (spend left g)
  spend_kept zero f g fg = refl
  spend_kept (suc left) f g fg = fg left

  pub turns_kept : (bound : ℕ) (guard guard' : List ℕ → Got Bool) (body body' : List ℕ → ℕ → Outcome) → ((env : List ℕ) → length env ≡ length m → guard' (kept m env) ≡ guard env) → ((env : List ℕ) (left : ℕ) → length env ≡ length m → IsKept (body env left) (body' (kept m env) left)) → (env : List ℕ) (left : ℕ) → length env ≡ length m → IsKept (turns bound guard body env left) (turns bound guard' body' (kept m env) left)
  turns_kept zero guard guard' body body' g h env left long =
      subst (λ x. IsKept (turns zero guard body env left) (on_test x (Over [] Going) (Runs [] (kept m env) left))) (sym (g env long))
      (on_kept (guard env) _ _ _ _ refl (long, refl))
  turns_kept (suc bound) guard guard' body body' g h env left long =
      subst (λ x. IsKept (turns (suc bound) guard body env left) (on_test x (spend left (λ rest. then_do (body' (kept m env) rest) (turns bound guard' body'))) (Runs [] (kept m env) left))) (sym (g env long))
      (on_kept (guard env) _ _ _ _
      (spend_kept left (λ rest. then_do (body env rest) (turns bound guard body)) (λ rest. then_do (body' (kept m env) rest) (turns bound guard' body'))
      (λ rest. then_kept (body env rest) (body' (kept m env) rest) (turns bound guard body) (turns bound guard' body') (turns_kept bound guard guard' body body' g h) (h env rest long)))
      (long, refl))

  -- ---- what is dropped

  dropped_value : {A : Type 0} (x : Got A) (f : A → Outcome) (u : Outcome) → NeverTraps x → ((a : A) → IsKept (f a) u) → IsKept (on_value x f) u
  dropped_value (Is a) f u never h = h a
  dropped_value (Fails Stuck) f u never h = tt
  dropped_value (Fails Trap) f u never h = absurd never

  pub dropped_test : (x : Got Bool) (a b u : Outcome) → NeverTraps x → IsKept a u → IsKept b u → IsKept (on_test x a b) u
  dropped_test (Is true) a b u never h k = h
  dropped_test (Is false) a b u never h k = k
  dropped_test (Fails Stuck) a b u never h k = tt
  dropped_test (Fails Trap) a b u never h k = absurd never

-- ---- blocks that are empty when they are live

nil_only : (b : Bool) (s : Statement) → is_nil (only_if b s) ≡ not b
nil_only true s = refl
nil_only false s = refl

nil_choice : (t : Test) (a b : Block) → is_nil (choice t a b) ≡ is_nil a && is_nil b
nil_choice t Nil Nil = refl
nil_choice t Nil (Cons s b) = refl
nil_choice t (Cons s a) b = refl

nil_join : (a b : Block) → is_nil (join a b) ≡ is_nil a && is_nil b
nil_join Nil b = refl
nil_join (Cons s a) b = refl

module _ (m : List Bool) (numbers : List ℕ) where
  mutual
    nil_one : (s : Statement) → is_nil (live_statement m numbers s) ≡ is_idle m s
    nil_one (Set v w) = nil_only (is_marked m v) _
    nil_one (Read v a w) = nil_only (is_marked m v) _
    nil_one (If t a b) = nil_choice (renumbered_test numbers t) (live m numbers a) (live m numbers b) ∙ ap (λ x. x && is_nil (live m numbers b)) (nil_idle a) ∙ ap (λ y. are_idle m a && y) (nil_idle b)
    nil_one (Loop t body) = refl
    nil_one (Emit w) = refl
    nil_one EndRow = refl
    nil_one (Ret v) = refl

    pub nil_idle : (b : Block) → is_nil (live m numbers b) ≡ are_idle m b
    nil_idle Nil = refl
    nil_idle (Cons s ss) = nil_join (live_statement m numbers s) (live m numbers ss) ∙ ap (λ x. x && is_nil (live m numbers ss)) (nil_one s) ∙ ap (λ y. is_idle m s && y) (nil_idle ss)

-- a choice that is kept isn't idle
pub not_idle : (m : List Bool) (a b : Block) → is_nil (live m (ranks m) a) && is_nil (live m (ranks m) b) ≡ false → are_idle m a && are_idle m b ≡ false
not_idle m a b some =
    ap (λ x. x && are_idle m b) (sym (nil_idle m (ranks m) a)) ∙ ap (λ y. is_nil (live m (ranks m) a) && y) (sym (nil_idle m (ranks m) b)) ∙ some

-- ---- statements and blocks

then_nothing : (inputs : List Input) (o : Outcome) → then_do o (run inputs Nil) ≡ o
then_nothing inputs (Runs events env left) = ap (λ e. Runs e env left) (append-nil events)
then_nothing inputs (Over events standing) = refl

module _ (inputs : List Input) (m : List Bool) where
  single : (o : Outcome) (s : Statement) (env : List ℕ) (left : ℕ) → IsKept m o (run_one inputs s env left) → IsKept m o (run inputs (Cons s Nil) env left)
  single o s env left h = subst (IsKept m o) (sym (then_nothing inputs (run_one inputs s env left))) h

  -- a variable that is set, by a value or an item
  module _ (v : ℕ) (env : List ℕ) (left : ℕ) (long : length env ≡ length m) where
    set_long : (x : ℕ) → length (set env v x) ≡ length m
    set_long x = length-set env v x ∙ long

    set_marked : (x : ℕ) → is_marked m v ≡ true → IsKept m (Runs [] (set env v x) left) (Runs [] (set (kept m env) (number_in (ranks m) v) x) left)
    set_marked x is = (
      set_long x,
      ap (λ e. Runs [] e left) (ap (λ n. set (kept m env) n x) (ranked m v (marked_within m v is)) ∙ sym (kept_set m env v x long is)),
    )

    set_unmarked : (x : ℕ) → is_marked m v ≡ false → IsKept m (Runs [] (set env v x) left) (Runs [] (kept m env) left)
    set_unmarked x is = (set_long x, ap (λ e. Runs [] e left) (sym (kept_unset m env v x is)))

    set_kept : (w : Operand) (b : Bool) → is_marked m v ≡ b → needs_of_set v w m ≡ m → IsKept m (run_one inputs (Set v w) env left) (run inputs (only_if b (Set (number_in (ranks m) v) (renumbered (ranks m) w))) (kept m env) left)
    set_kept w true is h =
        single (run_one inputs (Set v w) env left) (Set (number_in (ranks m) v) (renumbered (ranks m) w)) (kept m env) left
        (subst (λ x. IsKept m (run_one inputs (Set v w) env left) (on_value x (λ i. Runs [] (set (kept m env) (number_in (ranks m) v) i) left))) (sym (operand_kept inputs m env long w (set_parts v w m h is)))
        (value_kept m (operand_value inputs w env) _ _ (λ i. set_marked i is)))
    set_kept w false is h = dropped_value m (operand_value inputs w env) _ _ (operand_never inputs w env) (λ i. set_unmarked i is)

    read_kept_one : (a : ℕ) (w : Operand) (b : Bool) → is_marked m v ≡ b → needs_of_set v w m ≡ m → IsKept m (run_one inputs (Read v a w) env left) (run inputs (only_if b (Read (number_in (ranks m) v) a (renumbered (ranks m) w))) (kept m env) left)
    read_kept_one a w true is h =
        single (run_one inputs (Read v a w) env left) (Read (number_in (ranks m) v) a (renumbered (ranks m) w)) (kept m env) left
        (subst (λ x. IsKept m (run_one inputs (Read v a w) env left) (on_value x (λ i. on_value (item_of (slice_get (items_in (slice_get inputs a)) i)) (λ y. Runs [] (set (kept m env) (number_in (ranks m) v) y) left)))) (sym (operand_kept inputs m env long w (set_parts v w m h is)))
        (value_kept m (operand_value inputs w env) _ _ (λ i. value_kept m (item_of (slice_get (items_in (slice_get inputs a)) i)) _ _ (λ y. set_marked y is))))
    read_kept_one a w false is h =
        dropped_value m (operand_value inputs w env) _ _ (operand_never inputs w env)
        (λ i. dropped_value m (item_of (slice_get (items_in (slice_get inputs a)) i)) _ _ (item_never (slice_get (items_in (slice_get inputs a)) i)) (λ y. set_unmarked y is))

  choice_kept : (t t' : Test) (la lb : Block) (o p : Outcome) (env env' : List ℕ) (left : ℕ) → (is_nil la && is_nil lb ≡ false → test_value inputs t' env' ≡ test_value inputs t env) → IsKept m o (run inputs la env' left) → IsKept m p (run inputs lb env' left) → IsKept m (on_test (test_value inputs t env) o p) (run inputs (choice t' la lb) env' left)
  choice_kept t t' Nil Nil o p env env' left same h k = dropped_test m (test_value inputs t env) o p _ (test_never inputs t env) h k
  choice_kept t t' Nil (Cons s lb) o p env env' left same h k =
      single (on_test (test_value inputs t env) o p) (If t' Nil (Cons s lb)) env' left
      (subst (λ x. IsKept m (on_test (test_value inputs t env) o p) (on_test x (run inputs Nil env' left) (run inputs (Cons s lb) env' left))) (sym (same refl))
      (on_kept m (test_value inputs t env) o p _ _ h k))
  choice_kept t t' (Cons s la) lb o p env env' left same h k =
      single (on_test (test_value inputs t env) o p) (If t' (Cons s la) lb) env' left
      (subst (λ x. IsKept m (on_test (test_value inputs t env) o p) (on_test x (run inputs (Cons s la) env' left) (run inputs lb env' left))) (sym (same refl))
      (on_kept m (test_value inputs t env) o p _ _ h k))

  returned_kept : (v : Verdict) → IsKept m (Over [] (verdict_of v)) (Over [] (verdict_of v))
  returned_kept verdict.Done = refl
  returned_kept verdict.Trap = refl

  mutual
    pub one_kept : (s : Statement) → needs_of s m ≡ m → (env : List ℕ) (left : ℕ) → length env ≡ length m → IsKept m (run_one inputs s env left) (run inputs (live_statement m (ranks m) s) (kept m env) left)
    one_kept (Set v w) h env left long = set_kept v env left long w (is_marked m v) refl h
    one_kept (Read v a w) h env left long = read_kept_one v env left long a w (is_marked m v) refl h
    one_kept (If t a b) h env left long =
        let parts = choice_parts t a b m h in
        choice_kept t (renumbered_test (ranks m) t) (live m (ranks m) a) (live m (ranks m) b) (run inputs a env left) (run inputs b env left) env (kept m env) left
        (λ some. test_kept inputs m env long t (parts.test (not_idle m a b some)))
        (block_kept a parts.first env left long) (block_kept b parts.second env left long)
    one_kept (Loop t body) h env left long =
        let parts = loop_parts t body m h in
        single (run_one inputs (Loop t body) env left) (Loop (renumbered_test (ranks m) t) (live m (ranks m) body)) (kept m env) left
        (turns_kept m left (test_value inputs t) (test_value inputs (renumbered_test (ranks m) t)) (run inputs body) (run inputs (live m (ranks m) body))
        (λ e l. test_kept inputs m e l t parts.0) (block_kept body parts.1) env left long)
    one_kept (Emit w) h env left long =
        single (run_one inputs (Emit w) env left) (Emit (renumbered (ranks m) w)) (kept m env) left
        (subst (λ x. IsKept m (run_one inputs (Emit w) env left) (on_value x (λ i. Runs (event.Emit i ∷ []) (kept m env) left))) (sym (operand_kept inputs m env long w h))
        (value_kept m (operand_value inputs w env) _ _ (λ i. (long, refl))))
    one_kept EndRow h env left long = (long, refl)
    one_kept (Ret v) h env left long = returned_kept v

    pub block_kept : (b : Block) → needs_of_block b m ≡ m → (env : List ℕ) (left : ℕ) → length env ≡ length m → IsKept m (run inputs b env left) (run inputs (live m (ranks m) b) (kept m env) left)
    block_kept Nil h env left long = (long, refl)
    block_kept (Cons s ss) h env left long =
        let parts = cons_parts s ss m h in
        subst (IsKept m (run inputs (Cons s ss) env left)) (sym (run_join inputs (live_statement m (ranks m) s) (live m (ranks m) ss) (kept m env) left))
        (then_kept m (run_one inputs s env left) (run inputs (live_statement m (ranks m) s) (kept m env) left) (run inputs ss) (run inputs (live m (ranks m) ss)) (block_kept ss parts.0) (one_kept s parts.1 env left long))
