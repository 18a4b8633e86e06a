-- What each statement does.
use Rattle.std.proofs.Common.{◌≡◌, inl, ℕ, suc, ◌+◌, ◌<◌, List, [], length, drop, get_or, Bool, false, Option, Some, None, Result, Ok, Err, refl, sym, ap, ◌∙◌, subst, add-one, arith}
use Rattle.std.proofs.Math.Seq.{drop-cons}
use Rattle.std.specs.Prelude.{slice_set}
use Rattle.list_denotation.specs.declared.input.Input.{Input}
use Rattle.list_denotation.specs.Observation.{Standing, Failed}
use Rattle.list_denotation.specs.Values.{Got, Is, Fails, Stuck, with_value}
use Rattle.loop_ir.specs.declared.syntax.Stmt.{Stmt}
use Rattle.loop_ir.specs.Statements.{Cons}
use Rattle.loop_ir.specs.StatementCopies.{statement_of, block_of}
use Rattle.loop_ir.specs.Meaning.{Outcome, Runs, Over, then_do, on_value, run_one, run, turns}
use Rattle.loop_interp.specs.declared.outcome.Outcome.{Outcome as Answer}
use Rattle.loop_interp.specs.declared.outcome.Outcome.TheVariants as answer
use Rattle.loop_interp.specs.Answers.{answer_of}
use Rattle.loop_interp.specs.Values.{got_from}
use Rattle.loop_interp.specs.Runs.{State, GoesOn, Follows, Assigns, BeginsTurn}
use Rattle.loop_interp.proofs.Following.{Comes, comes_at_once, goes_on, stops}
use Rattle.loop_interp.proofs.Turns.{Turning, with_left, turns_spent, loop_over, loop_stuck}
use Rattle.loop_interp.proofs.Writing.{wrote_nothing}

-- the same outcome
pub follows_same : (o o' : Outcome) (s s' : State) (result : Result (Unit {0}) Answer) → o ≡ o' → Follows o' s s' result → Follows o s s' result
follows_same o o' s s' result e h = subst (λ u. Follows u s s' result) (sym e) h

-- a statement that is over at once
pub ends_here : (s : State) (standing : Standing) (result : Answer) → result ≡ answer_of standing → Follows (Over [] standing) s s (Err result)
ends_here s standing result e = inl (record { events = []; standing = standing; is = refl; answer = e; wrote = wrote_nothing s.out })

-- the state with these variables
abbrev pub with_env : State → List ℕ → State
with_env s env = record { out = s.out; env = env; left = s.left }

-- a variable is set
pub assigned : (value : Got ℕ) (x : Option ℕ) (v : ℕ) (s : State) (env' : List ℕ) (result : Result (Unit {0}) Answer)
    → got_from x ≡ value → Assigns x v s.env env' result
    → Follows (on_value value (λ x. Runs [] (slice_set s.env v x) s.left)) s (with_env s env') result
assigned value (Some x) v s env' (Ok done) e h = record {
  events = [];
  is = ap (λ g. on_value g (λ x. Runs [] (slice_set s.env v x) s.left)) (sym e) ∙ ap (λ l. Runs [] l s.left) (sym h);
  wrote = wrote_nothing s.out;
  turns = omega arith;
}
assigned value (Some x) v s env' (Err result) e h = absurd h
assigned value None v s env' (Ok done) e h = absurd h
assigned value None v s env' (Err result) e h = inl (record {
  events = [];
  standing = Failed Stuck;
  is = ap (λ g. on_value g (λ x. Runs [] (slice_set s.env v x) s.left)) (sym e);
  answer = h.0;
  wrote = wrote_nothing s.out;
})

-- one value after another
pub value_of_value : (g : Got ℕ) (k : ℕ → Got ℕ) (f : ℕ → Outcome) → on_value g (λ i. on_value (k i) f) ≡ on_value (with_value g k) f
value_of_value (Is x) k f = refl
value_of_value (Fails fault) k f = refl

-- ---- the statements of a block
pub block_left : (xs : List Stmt) (i : ℕ) (x : Stmt) → i < length xs → x ≡ get_or xs i x → block_of (drop i xs) ≡ Cons (statement_of x) (block_of (drop (i + 1) xs))
block_left xs i x h e =
    ap block_of (drop-cons xs i x h)
    ∙ ap (λ y. Cons (statement_of y) (block_of (drop (suc i) xs))) (sym e)
    ∙ ap (λ n. Cons (statement_of x) (block_of (drop n xs))) (sym (add-one i))

module _ (inputs : List Input) (whole : Outcome) (xs : List Stmt) (i : ℕ) (x : Stmt) (within : i < length xs) (item : x ≡ get_or xs i x) (s s' : State) (h : Comes whole (run inputs (block_of (drop i xs)) s'.env s'.left) s s') where
  comes_to_item : Comes whole (then_do (run_one inputs (statement_of x) s'.env s'.left) (run inputs (block_of (drop (i + 1) xs)))) s s'
  comes_to_item = subst (λ b. Comes whole (run inputs b s'.env s'.left) s s') (block_left xs i x within item) h

  pub item_done : (s'' : State) → GoesOn (run_one inputs (statement_of x) s'.env s'.left) s' s'' → Comes whole (run inputs (block_of (drop (i + 1) xs)) s''.env s''.left) s s''
  item_done s'' k = goes_on whole (run_one inputs (statement_of x) s'.env s'.left) (run inputs (block_of (drop (i + 1) xs))) s s' s'' comes_to_item k

  pub item_stops : (s'' : State) (result : Answer) → Follows (run_one inputs (statement_of x) s'.env s'.left) s' s'' (Err result) → Follows whole s s'' (Err result)
  item_stops s'' result k = stops whole (run_one inputs (statement_of x) s'.env s'.left) (run inputs (block_of (drop (i + 1) xs))) s s' s'' result comes_to_item k

-- ---- a loop
pub turning_begins : (whole : Outcome) (guard : List ℕ → Got Bool) (body : List ℕ → ℕ → Outcome) (s : State) → whole ≡ turns s.left guard body s.env s.left → Turning whole guard body s s
turning_begins whole guard body s e = record {
  bound = s.left;
  enough = omega arith;
  comes = subst (λ o. Comes o (turns s.left guard body s.env s.left) s s) (sym e) (comes_at_once (turns s.left guard body s.env s.left) s);
}

module _ (whole : Outcome) (guard : List ℕ → Got Bool) (body : List ℕ → ℕ → Outcome) (s s' : State) (h : Turning whole guard body s s') where
  same_left : (left' : ℕ) (result : Result (Unit {0}) Answer) → s'.left ≡ left' → Follows whole s s' result → Follows whole s (with_left s' left') result
  same_left left' result e k = subst (λ l. Follows whole s (with_left s' l) result) e k

  pub no_turn_begins : (left' : ℕ) (result : Answer) → BeginsTurn (guard s'.env) s'.left left' (Err result) → Follows whole s (with_left s' left') (Err result)
  no_turn_begins left' answer.Undefined k = same_left left' (Err answer.Undefined) k.1 (loop_stuck whole guard body s s' h k.0)
  no_turn_begins left' answer.Spent k = same_left left' (Err answer.Spent) k.1 (turns_spent whole guard body s s' h k.0 k.2)
  no_turn_begins left' answer.Done k = absurd k
  no_turn_begins left' answer.Trap k = absurd k
  no_turn_begins left' answer.Write k = absurd k

  pub no_turn_more : (left' : ℕ) → BeginsTurn (guard s'.env) s'.left left' (Ok false) → Follows whole s (with_left s' left') (Ok tt)
  no_turn_more left' k = same_left left' (Ok tt) k.1 (loop_over whole guard body s s' h k.0)
