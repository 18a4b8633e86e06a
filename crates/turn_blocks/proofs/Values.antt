-- What the statements of an expression do over words that stand in variables: they put its value into a target, tell whether it is
-- true, or leave it in a word. They need no room for a scratch variable where a condition has no statements.
use Rattle.std.proofs.Common.{◌≡◌, ◌≢◌, ℕ, zero, suc, ◌+◌, ◌<◌, ◌≤◌, Bool, true, false, List, [], ◌∷◌, ◌++◌, length, refl, sym, ap, ◌∙◌, inl, inr, arith, length-append, append-nil}
use Rattle.std.specs.Prelude.{IsTrue, slice_index, slice_set, if◌then◌else◌}
use Rattle.std.proofs.lemmas.Bool.{cases_lt, ltb-true}
use Rattle.strm_num.specs.Words.{IsWord}
use Rattle.list_denotation.specs.declared.input.Input.{Input}
use Rattle.list_denotation.specs.Leaves.{all_leaves}
use Rattle.list_denotation.specs.Literals.{has_words}
use Rattle.list_denotation.specs.Observation.{Failed}
use Rattle.list_denotation.specs.Scopes.{is_bound, is_bound_leaf}
use Rattle.list_denotation.specs.Terms as term
use Rattle.list_denotation.specs.Terms.{Term}
use Rattle.list_denotation.specs.Values.{Got, Is, Fails, value}
use Rattle.loop_ir.specs.Statements.{Operand, Const, Var, Len, Int, Bin, Test, Less, Same, Both, Either, Not, If, Block, Nil, Cons, join}
use Rattle.loop_ir.specs.Meaning.{Outcome, Runs, Over, then_do, on_value, on_test, operand_value, test_value, run}
use Rattle.loop_ir.proofs.Joins.{after_nothing, goes_on}
use Rattle.state_alloc.specs.Layouts.{IsTemporary, IsLaidOut}
use Rattle.expr_lower.specs.Contract.{Scope, IsTarget, IsLowerable, Kept, ComesTo, IsIn, is_true, condition_block, condition_test, operand_statements, operand_word}
use Rattle.expr_lower.specs.Costs.{temps_of}
use Rattle.expr_forms.specs.Forms.{Condition, operand_block, operand_in, is_empty}
use Rattle.expr_lower.specs.Lowering.{lowered_term, lowered_into, lowered_test}
use Rattle.expr_lower.specs.Scopes.{IsInVariable, IsLeafInPlace, WordsInPlace, IsOutside}
use Rattle.expr_phrases.specs.Phrases.{set}
use Rattle.turn_blocks.specs.Laws.{Laws}
use Rattle.turn_blocks.specs.Pieces.{behind_scratch}
use Rattle.turn_blocks.specs.TurnContract.{HasWordInputs}
use Rattle.turn_blocks.proofs.LeafTests.{each_leaf}

-- ---- variables with the same words

-- one more variable, at 0, changes no word that is read
padded : (env : List ℕ) (v : ℕ) → slice_index (env ++ 0 ∷ []) v ≡ slice_index env v
padded [] zero = refl
padded [] (suc v) = refl
padded (x ∷ env) zero = refl
padded (x ∷ env) (suc v) = padded env v

module _ (inputs : List Input) (a b : List ℕ) (same : (v : ℕ) → slice_index a v ≡ slice_index b v) where
  operand_same : (w : Operand) → operand_value inputs w a ≡ operand_value inputs w b
  operand_same (Const n) = refl
  operand_same (Var v) = ap Is (same v)
  operand_same (Len k) = refl
  operand_same (Int k) = refl
  operand_same (Bin o x y) = rw (operand_same x, operand_same y) refl

  test_same : (t : Test) → test_value inputs t a ≡ test_value inputs t b
  test_same (Less x y) = rw (operand_same x, operand_same y) refl
  test_same (Same x y) = rw (operand_same x, operand_same y) refl
  test_same (Both s t) = rw (test_same s, test_same t) refl
  test_same (Either s t) = rw (test_same s, test_same t) refl
  test_same (Not t) = rw (test_same t) refl

no_statements : (b : Block) → is_empty b ≡ true → b ≡ Nil
no_statements Nil h = refl
no_statements (Cons s ss) h = absurd cc

pub not_temporary : (t temps v : ℕ) → ¬ IsTemporary t temps v → IsOutside t (t + temps) v
not_temporary t temps v none = elim (cases_lt v t) [
  | inl less ↦ inl less
  | inr more ↦ elim (cases_lt v (t + temps)) [ inl within ↦ absurd (none (more, within)) | inr behind ↦ inr behind ]
]

-- ---- statements that go on without an event

module _ (inputs : List Input) where
  pub passes_on : (a b : Block) (env env' : List ℕ) (left : ℕ) (o : Outcome) → run inputs a env left ≡ Runs [] env' left → run inputs b env' left ≡ o → run inputs (join a b) env left ≡ o
  passes_on a b env env' left o first second = goes_on inputs a b [] env env' left first ∙ (after_nothing (run inputs b env' left) ∙ second)

  then_nothing : (o : Outcome) → then_do o (run inputs Nil) ≡ o
  then_nothing (Runs events env left) = ap (λ e. Runs e env left) (append-nil events)
  then_nothing (Over events standing) = refl

  pub if_runs : (c : Test) (a b : Block) (env : List ℕ) (left : ℕ) (truth : Bool) → test_value inputs c env ≡ Is truth → run inputs (Cons (If c a b) Nil) env left ≡ on_test (Is truth) (run inputs a env left) (run inputs b env left)
  if_runs c a b env left truth is =
      then_nothing (on_test (test_value inputs c env) (run inputs a env left) (run inputs b env left))
      ∙ ap (λ g. on_test g (run inputs a env left) (run inputs b env left)) is

  pub set_runs : (v : ℕ) (w : Operand) (env : List ℕ) (x left : ℕ) → operand_value inputs w env ≡ Is x → run inputs (set v w) env left ≡ Runs [] (slice_set env v x) left
  set_runs v w env x left is = ap (λ g. then_do (on_value g (λ y. Runs [] (slice_set env v y) left)) (run inputs Nil)) is

module _ (laws : Laws) (inputs : List Input) (small : HasWordInputs inputs) (t temps : ℕ) where
  -- each variable that was given out is as it was, but for temporaries
  abbrev pub Untouched : ℕ → List ℕ → List ℕ → Type 0
  Untouched next env env' = (v : ℕ) → v < next → ¬ IsTemporary t temps v → slice_index env' v ≡ slice_index env v

  -- the numbers of an expression are words, it reads bound words that pass a test, and the temporaries are enough
  pub record IsFit (rows : List ℕ) (test : Term → Bool) (e : Term) : Type 0 where
    pub words : IsTrue (has_words e)
    pub bound : IsTrue (is_bound (length rows) e)
    pub few : temps_of e ≤ temps
    pub leaves : IsTrue (all_leaves test e)

  -- the bound words that pass a test stand in their variables
  abbrev pub Readable : List ℕ → List ℕ → (Term → Bool) → List ℕ → Type 0
  Readable rows words test env = (k : ℕ) → k < length rows → IsTrue (test (term.Var k)) → IsInVariable rows words inputs env k

  abbrev pub scope_at : List ℕ → Scope
  scope_at rows = record { rows = rows; first_temp = t; temps = temps }

  -- ---- what they do

  -- the word is in the target then; other variables that were given out are as they were
  pub record Put (block : Block) (target next : ℕ) (env : List ℕ) (x : ℕ) : Type 0 where
    pub env' : List ℕ
    pub runs : (left : ℕ) → run inputs block env left ≡ Runs [] env' left
    pub same : length env' ≡ length env
    pub kept : (v : ℕ) → v < next → ¬ IsTemporary t temps v → v ≢ target → slice_index env' v ≡ slice_index env v
    pub word : IsWord x
    pub is : slice_index env' target ≡ x

  abbrev pub Puts : Block → ℕ → ℕ → List ℕ → Got ℕ → Type 0
  Puts block target next env (Is x) = Put block target next env x
  Puts block target next env (Fails f) = (left : ℕ) → run inputs block env left ≡ Over [] (Failed f)

  -- the test tells whether the word is true then
  pub record Told (c : Condition) (next : ℕ) (env : List ℕ) (x : ℕ) : Type 0 where
    pub env' : List ℕ
    pub runs : (left : ℕ) → run inputs c.block env left ≡ Runs [] env' left
    pub same : length env' ≡ length env
    pub kept : Untouched next env env'
    pub is : test_value inputs c.test env' ≡ Is (is_true x)

  abbrev pub Tells : Condition → ℕ → List ℕ → Got ℕ → Type 0
  Tells c next env (Is x) = Told c next env x
  Tells c next env (Fails f) = (left : ℕ) → run inputs c.block env left ≡ Over [] (Failed f)

  -- the operand has the word then
  pub record Yielded (block : Block) (w : Operand) (next : ℕ) (env : List ℕ) (x : ℕ) : Type 0 where
    pub env' : List ℕ
    pub runs : (left : ℕ) → run inputs block env left ≡ Runs [] env' left
    pub same : length env' ≡ length env
    pub kept : Untouched next env env'
    pub is : operand_value inputs w env' ≡ Is x

  abbrev pub Yields : Block → Operand → ℕ → List ℕ → Got ℕ → Type 0
  Yields block w next env (Is x) = Yielded block w next env x
  Yields block w next env (Fails f) = (left : ℕ) → run inputs block env left ≡ Over [] (Failed f)

  -- ---- from the laws of expressions

  module _ (rows words : List ℕ) (test : Term → Bool) (e : Term) (fit : IsFit rows test e) where
    pub in_place : (env : List ℕ) → Readable rows words test env → WordsInPlace rows words inputs env e
    in_place env readable = each_leaf (is_bound_leaf (length rows)) test (IsLeafInPlace rows words inputs env) (leaf readable) e fit.bound fit.leaves
      where
        leaf : Readable rows words test env → (x : Term) → IsTrue (is_bound_leaf (length rows) x) → IsTrue (test x) → IsLeafInPlace rows words inputs env x
        leaf readable (term.Var k) b h = readable k (ltb-true k (length rows) b) h
        leaf readable (term.Param k) b h = small.ints k
        leaf readable (term.Len k) b h = small.lengths k
        leaf readable _ b h = tt

    lowerable : (target : ℕ) → IsTarget (scope_at rows) e target → IsLowerable (scope_at rows) e target
    lowerable target at = record { words = fit.words; bound = fit.bound; temporaries = fit.few; is_target = at }

    pub fresh : (next : ℕ) → IsLaidOut rows t temps next → IsTarget (scope_at rows) e next
    fresh next laid_out = laws.fresh_target (scope_at rows) next e next laid_out fit.bound (omega arith)

    untouched : (next : ℕ) (env env' : List ℕ) → Kept next t (t + temps) env env' → Untouched next env env'
    untouched next env env' kept v lt none = kept.others v (λ same. omega (arith, lt, same)) (not_temporary t temps v none)

    pub value_puts : (target next : ℕ) (env : List ℕ) → IsLaidOut rows t temps next → Readable rows words test env → IsTarget (scope_at rows) e target → target < length env → next ≤ length env → Puts (lowered_into rows e target t) target next env (value e words inputs)
    value_puts target next env laid_out readable at inside room =
        go (value e words inputs) ((laws.values (scope_at rows) next e target laid_out (lowerable target at)).gives inputs words env inside (omega (arith, laid_out.temporaries, room)) (in_place env readable))
      where
        go : (g : Got ℕ) → ComesTo inputs (lowered_into rows e target t) env target t (t + temps) (IsIn target) g → Puts (lowered_into rows e target t) target next env g
        go (Is x) h = record {
          env' = h.env';
          runs = h.runs;
          same = h.kept.same;
          kept = λ v lt none other. h.kept.others v other (not_temporary t temps v none);
          word = h.word;
          is = h.holds;
        }
        go (Fails f) h = h

    pub operand_yields : (next : ℕ) (env : List ℕ) → IsLaidOut rows t temps next → Readable rows words test env → next < length env → Yields (operand_block (lowered_term rows e next t) next) (operand_in (lowered_term rows e next t).form next) next env (value e words inputs)
    operand_yields next env laid_out readable inside =
        go (value e words inputs) ((laws.operands (scope_at rows) next e next laid_out (lowerable next (fresh next laid_out))).gives inputs words env inside (omega (arith, laid_out.temporaries, inside)) (in_place env readable))
      where
        go : (g : Got ℕ) → ComesTo inputs (operand_statements (scope_at rows) e next) env next t (t + temps) (λ x env'. operand_value inputs (operand_word (scope_at rows) e next) env' ≡ Is x) g → Yields (operand_block (lowered_term rows e next t) next) (operand_in (lowered_term rows e next t).form next) next env g
        go (Is x) h = record { env' = h.env'; runs = h.runs; same = h.kept.same; kept = untouched next env h.env' h.kept; is = h.holds }
        go (Fails f) h = h

    abbrev IsTold : ℕ → ℕ → List ℕ → Type 0
    IsTold next x env' = test_value inputs (condition_test (scope_at rows) e next) env' ≡ Is (is_true x)

    condition_comes : (next : ℕ) (env : List ℕ) → IsLaidOut rows t temps next → Readable rows words test env → next < length env → ComesTo inputs (condition_block (scope_at rows) e next) env next t (t + temps) (IsTold next) (value e words inputs)
    condition_comes next env laid_out readable inside =
        (laws.conditions (scope_at rows) next e next laid_out (lowerable next (fresh next laid_out))).gives inputs words env inside (omega (arith, laid_out.temporaries, inside)) (in_place env readable)

    -- a condition with statements has room for its scratch variable, and one without leaves all variables as they are
    told : (next : ℕ) (env : List ℕ) (g : Got ℕ) → ComesTo inputs (condition_block (scope_at rows) e next) env next t (t + temps) (IsTold next) g → Tells (lowered_test rows e next t) next env g
    told next env (Is x) h = record { env' = h.env'; runs = h.runs; same = h.kept.same; kept = untouched next env h.env' h.kept; is = h.holds }
    told next env (Fails f) h = h

    bare : (next : ℕ) (env : List ℕ) (g : Got ℕ) → (lowered_test rows e next t).block ≡ Nil → ComesTo inputs (condition_block (scope_at rows) e next) (env ++ 0 ∷ []) next t (t + temps) (IsTold next) g → Tells (lowered_test rows e next t) next env g
    bare next env (Is x) none h =
        let o : Runs [] (env ++ 0 ∷ []) 0 ≡ Runs [] h.env' 0 = sym (ap (λ b. run inputs b (env ++ 0 ∷ []) 0) none) ∙ h.runs 0 in
        let same : env ++ 0 ∷ [] ≡ h.env' = cc in
        record {
          env' = env;
          runs = λ left. ap (λ b. run inputs b env left) none;
          same = refl;
          kept = λ v lt apart. refl;
          is = sym (test_same inputs (env ++ 0 ∷ []) env (padded env) (lowered_test rows e next t).test) ∙ (ap (λ z. test_value inputs (lowered_test rows e next t).test z) same ∙ h.holds);
        }
    bare next env (Fails f) none h =
        let o : Runs [] (env ++ 0 ∷ []) 0 ≡ Over [] (Failed f) = sym (ap (λ b. run inputs b (env ++ 0 ∷ []) 0) none) ∙ h 0 in absurd cc

    pub condition_tells : (next : ℕ) (env : List ℕ) → IsLaidOut rows t temps next → Readable rows words test env → next ≤ length env → behind_scratch (lowered_test rows e next t) next ≤ length env → Tells (lowered_test rows e next t) next env (value e words inputs)
    condition_tells next env laid_out readable least room = go (is_empty (lowered_test rows e next t).block) refl room
      where
        pads : Readable rows words test (env ++ 0 ∷ [])
        pads k lt h = let there = readable k lt h in record { same = padded env (slice_index rows k) ∙ there.same; word = there.word }

        go : (empty : Bool) → is_empty (lowered_test rows e next t).block ≡ empty → (if empty then next else next + 1) ≤ length env → Tells (lowered_test rows e next t) next env (value e words inputs)
        go true is room =
            bare next env (value e words inputs) (no_statements (lowered_test rows e next t).block is)
            (condition_comes next (env ++ 0 ∷ []) laid_out pads (omega (arith, least, length-append env (0 ∷ []))))
        go false is room = told next env (value e words inputs) (condition_comes next env laid_out readable (omega (arith, room)))
