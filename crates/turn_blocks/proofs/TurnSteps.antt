-- One act, where the acts behind it do what they say: local words, items that are read, tests, and what is done with the row.
use Rattle.std.proofs.Common.{◌≡◌, ◌≢◌, ◌⊎◌, ℕ, ◌+◌, ◌-◌, ◌<◌, ◌≤◌, ◌^◌, Bool, true, false, ◌&&◌, ◌||◌, List, [], ◌∷◌, ◌++◌, length, refl, sym, ap, ◌∙◌, subst, inl, inr, arith, length-drop, get_or-drop}
use Rattle.std.specs.Prelude.{IsTrue, All, Contains, not, ◌==◌, nat_eq, nat_lt, slice_get, slice_index, if◌then◌else◌, Option, Some, None}
use Rattle.std.proofs.lemmas.Bool.{cases_lt, eqb-true, eqb-false, ltb-true, ltb-false}
use Rattle.std.proofs.lemmas.Option.{slice_get_cases, get_or_from_slice_get}
use Rattle.strm_num.proofs.Truths.{both_true, true_both}
use Rattle.strm_num.specs.Words.{IsWord, truth_of}
use Rattle.list_denotation.specs.declared.input.Input.{Input}
use Rattle.list_denotation.specs.Leaves.{all_leaves}
use Rattle.list_denotation.specs.Literals.{is_word_leaf, has_words}
use Rattle.list_denotation.specs.Observation.{Failed}
use Rattle.list_denotation.specs.Scopes.{is_bound}
use Rattle.list_denotation.specs.Terms.{Term, Var, Truth}
use Rattle.list_denotation.specs.Typing.{is_undivided}
use Rattle.list_denotation.specs.Values.{Got, Is, Fails, choice, value}
use Rattle.loop_ir.specs.Statements as loop
use Rattle.loop_ir.specs.Statements.{Operand, Block, join}
use Rattle.loop_ir.proofs.Joins.{is_over}
use Rattle.state_alloc.specs.Layouts.{IsWordVariable, IsLaidOut}
use Rattle.expr_lower.specs.Costs.{temps_of}
use Rattle.expr_lower.specs.Lowering.{lowered_into}
use Rattle.expr_lower.specs.Scopes.{IsInVariable}
use Rattle.stateful_core.specs.Actions.{ActResult, then_run, let_word, run_acts}
use Rattle.stateful_core.specs.CoreLeaves.{action_leaves, actions_leaves}
use Rattle.stateful_core.specs.CoreShapes.{action_locals, actions_locals}
use Rattle.stateful_core.specs.CoreTerms.{Action, Let, Actions, Nil, Cons}
use Rattle.stateful_core.specs.MostWords.{is_other_leaf}
use Rattle.stateful_core.specs.WellFormed.{is_sound_action, are_sound_actions}
use Rattle.turn_blocks.specs.Pieces.{Piece, Tail, behind, last}
use Rattle.turn_blocks.specs.Temporaries.{acts_temps}
use Rattle.turn_blocks.specs.TurnBlocks.{constant_truth, known_truth, let_piece, acts_piece}
use Rattle.turn_blocks.specs.TurnContract.{Consumer, Fed, Takes, Halts, TurnEnd, Goes, Ends, fed_end, IsIn, FeedRuns, IsTailOf, IsStopOf}
use Rattle.turn_blocks.specs.WordUses.{are_unread, LetUse, Tested, Unused, Own, is_steady, stays, is_test_of, copy_use, let_use}
use Rattle.turn_blocks.specs.WordUses.{Same as SameWord}
use Rattle.turn_blocks.proofs.LeafTests.{acts_of_both}
use Rattle.turn_blocks.proofs.PieceSizes.{acts_grow}
use Rattle.turn_blocks.proofs.StateTests.{either_true, other_word, false_not}
use Rattle.turn_blocks.proofs.Values.{Untouched, IsFit, Puts, fresh, value_puts}
use Rattle.turn_blocks.proofs.WordLists.{each_joined, all_of, Differs, none_of, is_in, still_in}
use Rattle.turn_blocks.proofs.TurnStates.{Setting, is_live, act_end, words_of, scope_at_word, base, Layout, more_layout, push_layout, fresh_given, laid_out, state_given, Course, push_course, Stands, states_in, still_stands, still_held, local_at_word, push_stands, Reaches, reach_behind}

-- ---- constants

constant_is : (e : Term) (b : Bool) → constant_truth e ≡ Some b → e ≡ Truth b
constant_is (Truth c) b h = let q : c ≡ b = cc in ap Truth q
constant_is _ b h = absurd cc

constant_value : (e : Term) (words : List ℕ) (inputs : List Input) (b : Bool) → constant_truth e ≡ Some b → value e words inputs ≡ Is (truth_of b)
constant_value e words inputs b h = ap (λ x. value x words inputs) (constant_is e b h)

pub known_value : (loops : Bool) (e : Term) (words : List ℕ) (inputs : List Input) (b : Bool) → known_truth loops e ≡ Some b → value e words inputs ≡ Is (truth_of b)
known_value false e words inputs b h = constant_value e words inputs b h
known_value true (Truth true) words inputs b h = constant_value (Truth true) words inputs b h
known_value true (Truth false) words inputs b h = absurd cc
known_value true _ words inputs b h = absurd cc

-- ---- items of an array

pub item_word : (items : List ℕ) (i x : ℕ) → All IsWord items → slice_get items i ≡ Some x → IsWord x
item_word items i x all h = elim (slice_get_cases items i).1 [
  | inl found ↦ subst IsWord (get_or_from_slice_get items i x 0 h) (all i 0 found.1)
  | inr past ↦ let none = past.1 in absurd cc
]

-- ---- ends of tests

-- a test ends the turn so, or goes on with the word
abbrev pub test_end : Got ℕ → TurnEnd → (ℕ → TurnEnd) → TurnEnd
test_end (Is x) off on = choice x off (on x)
test_end (Fails f) off on = Ends [] (Failed f)

abbrev pub live_but : (ℕ → Bool) → ℕ → ℕ → Bool
live_but live n k = live k && not (nat_eq k n)

pub live_before : (live : ℕ → Bool) (n k : ℕ) → IsTrue (live_but live n k) → IsTrue (live k)
live_before live n k h = (both_true (live k) (not (nat_eq k n)) h).0

pub still_live : (live : ℕ → Bool) (n k : ℕ) → k ≢ n → IsTrue (live k) → IsTrue (live_but live n k)
still_live live n k other h = true_both (live k) (not (nat_eq k n)) h (go (nat_eq k n) refl)
  where
    go : (b : Bool) → nat_eq k n ≡ b → IsTrue (not b)
    go true is = absurd (other (eqb-true k n is))
    go false is = refl

pub dead : (live : ℕ → Bool) (n : ℕ) → IsTrue (live_but live n n) → ⊥
dead live n h =
    let p = both_true (live n) (not (nat_eq n n)) h in
    eqb-false n n (false_not (nat_eq n n) p.1) refl

pub other_live : (live : ℕ → Bool) (n : ℕ) (x : Term) → IsTrue (is_live live x) → IsTrue (is_other_leaf n 1 x) → IsTrue (is_live (live_but live n) x)
other_live live n (Var k) h other = still_live live n k (λ e. elim (other_word n 1 k other) [ inl before ↦ omega (arith, before, e) | inr behind ↦ omega (arith, behind, e) ]) h
other_live live n _ h other = refl

-- ---- uses of new words

-- what the use of a new word says of it
abbrev pub UseFacts : ℕ → ℕ → ℕ → ℕ → Term → Actions → LetUse → Type 0
UseFacts scope states width x e acts Own = Unit {0}
UseFacts scope states width x e acts Tested = (x ≢ 0) × ((width ≤ actions_locals acts) × IsTrue (is_test_of scope states x acts))
UseFacts scope states width x e acts Unused = (x ≢ 0) × ((width ≤ actions_locals acts) × (IsTrue (is_undivided e) × IsTrue (are_unread x 1 acts)))
UseFacts scope states width x e acts (SameWord k) = (e ≡ Var k) × IsTrue (is_steady scope states k acts)

copy_facts : (scope states width x : ℕ) (e : Term) (acts : Actions) (u : LetUse) → copy_use scope states e acts ≡ u → UseFacts scope states width x e acts u
copy_facts scope states width x e acts u h = subst (UseFacts scope states width x e acts) h (at e refl)
  where
    variable : (k : ℕ) (b : Bool) → e ≡ Var k → is_steady scope states k acts ≡ b → UseFacts scope states width x e acts (if b then SameWord k else Own)
    variable k true same is = (same, is)
    variable k false same is = tt

    at : (f : Term) → e ≡ f → UseFacts scope states width x e acts (copy_use scope states f acts)
    at (Var k) same = variable k (is_steady scope states k acts) same refl
    at _ same = tt

pub use_facts : (scope states width x : ℕ) (e : Term) (acts : Actions) (u : LetUse) → let_use scope states width x e acts ≡ u → UseFacts scope states width x e acts u
use_facts scope states width x e acts u h =
    subst (UseFacts scope states width x e acts) h (go (x == 0) (nat_lt (actions_locals acts) width) (is_test_of scope states x acts) (is_undivided e && are_unread x 1 acts) refl refl refl refl)
  where
    go : (a b c d : Bool) → (x == 0) ≡ a → nat_lt (actions_locals acts) width ≡ b → is_test_of scope states x acts ≡ c → (is_undivided e && are_unread x 1 acts) ≡ d → UseFacts scope states width x e acts (if a then Own else if b then copy_use scope states e acts else if c then Tested else if d then Unused else copy_use scope states e acts)
    go true b c d p q r s = tt
    go false true c d p q r s = copy_facts scope states width x e acts (copy_use scope states e acts) refl
    go false false true d p q r s = (eqb-false x 0 p, (ltb-false (actions_locals acts) width q, r))
    go false false false true p q r s = (eqb-false x 0 p, (ltb-false (actions_locals acts) width q, both_true (is_undivided e) (are_unread x 1 acts) s))
    go false false false false p q r s = copy_facts scope states width x e acts (copy_use scope states e acts) refl

module _ (S : Setting) where
  abbrev pub states : ℕ
  states = length S.state_vars

  abbrev pub piece : Tail → Option Term → Actions → List ℕ → ℕ → Piece
  piece tail held acts rows next = acts_piece S.scope (length S.state_vars) S.t S.stop tail held acts rows next

  abbrev pub run_from : Actions → List ℕ → List ℕ → ActResult
  run_from acts s l = run_acts acts S.scope_words S.inputs s l

  -- who takes the row, and ends the run
  pub record Serves (c : Consumer) (tail : Tail) : Type 0 where
    pub tails : IsTailOf S.inputs S.t S.temps S.scope_vars S.scope_words c tail
    pub stops : IsStopOf S.inputs S.t S.temps c S.stop

  -- the state of variables before acts
  pub record Before (acts : Actions) (c : Consumer) (tail : Tail) (rows : List ℕ) (next : ℕ) (live : ℕ → Bool) (s l env : List ℕ) : Type 0 where
    pub layout : Layout S rows next c.vars
    pub course : Course S acts rows live tail.width
    pub stands : Stands S rows live s l env
    pub holds : IsIn env c.vars c.held
    pub small : length env < 2 ^ 32

  -- the statements of acts do what the acts do, and then with the row what the consumer does
  abbrev pub IsTurned : Actions → Type 0
  IsTurned acts =
      (c : Consumer) (tail : Tail) (rows : List ℕ) (next : ℕ) (live : ℕ → Bool) (s l env : List ℕ) → Serves c tail → Before acts c tail rows next live s l env
      → (piece tail None acts rows next).next ≤ length env → Reaches S next c (piece tail None acts rows next).block env (act_end c tail.width (run_from acts s l))

  -- the same where the first act tests a word that is held
  abbrev pub IsTurnedHeld : Actions → Type 0
  IsTurnedHeld acts =
      (e : Term) (c : Consumer) (tail : Tail) (rows : List ℕ) (next : ℕ) (live : ℕ → Bool) (s l env : List ℕ) → Serves c tail → Before (Cons (Let e) acts) c tail rows next live s l env
      → length rows ≢ 0 → tail.width ≤ actions_locals acts → IsTrue (is_test_of S.scope (length S.state_vars) (length rows) acts)
      → (piece tail (Some e) acts (rows ++ slice_index rows 0 ∷ []) next).next ≤ length env
      → Reaches S next c (piece tail (Some e) acts (rows ++ slice_index rows 0 ∷ []) next).block env (act_end c tail.width (run_from (Cons (Let e) acts) s l))

  -- ---- facts that are used again and again

  module _ (acts : Actions) (c : Consumer) (tail : Tail) (rows : List ℕ) (next : ℕ) (live : ℕ → Bool) (s l env : List ℕ) (b : Before acts c tail rows next live s l env) where
    pub before_in : IsIn env S.state_vars s
    before_in = states_in S rows next c.vars live s l env b.layout b.course.old_live b.stands

    -- no statements: the state and what is held are as they were
    pub stay : Reaches S next c loop.Nil env (Goes [] s c.held c.left)
    stay = record { env' = env; runs = refl; same = refl; states = before_in; holds = b.holds; kept = λ v lt none apart other. refl }

    pub lay : next ≤ length env → IsLaidOut rows S.t S.temps next
    lay le = let small = b.small in laid_out S rows next c.vars (omega (arith, le, small)) b.layout

    -- behind statements that change no variable that was given out
    pub later : (next' : ℕ) (env' : List ℕ) → next ≤ next' → length env' ≡ length env → Untouched S.laws S.inputs S.small S.t S.temps next env env' → Before acts c tail rows next' live s l env'
    later next' env' le same kept = let small = b.small in record {
      layout = more_layout S rows next next' c.vars le b.layout;
      course = b.course;
      stands = still_stands S rows next c.vars live s l env env' b.layout kept b.stands;
      holds = still_held S rows next c.vars c.held env env' b.layout kept b.holds;
      small = omega (arith, small, same);
    }

  -- with other acts
  pub before_acts : (first acts : Actions) (c : Consumer) (tail : Tail) (rows : List ℕ) (next : ℕ) (live : ℕ → Bool) (s l env : List ℕ) → Before first c tail rows next live s l env → Course S acts rows live tail.width → Before acts c tail rows next live s l env
  before_acts first acts c tail rows next live s l env b course = record { layout = b.layout; course = course; stands = b.stands; holds = b.holds; small = b.small }

  -- an expression of sound acts
  pub fit : (rows : List ℕ) (live : ℕ → Bool) (e : Term) → IsTrue (is_bound (length rows) e) → IsTrue (has_words e) → temps_of e ≤ S.temps → IsTrue (all_leaves (is_live live) e) → IsFit S.laws S.inputs S.small S.t S.temps rows (is_live live) e
  fit rows live e bound numbers few leaves = record { words = numbers; bound = bound; few = few; leaves = leaves }

  -- ---- the row

  pub states_apart : (rows : List ℕ) (next : ℕ) (vars : List ℕ) → Layout S rows next vars → (j : ℕ) → j < length S.state_vars → Differs vars (slice_index S.state_vars j)
  states_apart rows next vars layout j lt = subst (Differs vars) (layout.at_states j lt) (layout.held_apart (S.scope + j) (omega (arith, lt, layout.deep)))

  module _ (next : ℕ) (c : Consumer) (block : Block) (env s : List ℕ) (state_in : IsIn env S.state_vars s) (given : (j : ℕ) → j < length S.state_vars → IsWordVariable S.t S.temps next (slice_index S.state_vars j)) (apart : (j : ℕ) → j < length S.state_vars → Differs c.vars (slice_index S.state_vars j)) where
    pub fed_reaches : (fed : Fed) → FeedRuns S.inputs (record { first_temp = S.t; temps = S.temps; next = next }) c block env fed → Reaches S next c block env (fed_end s fed)
    fed_reaches (Takes events held left) h = record {
      env' = h.env';
      runs = h.runs;
      same = h.same;
      states = still_in env S.state_vars s state_in h.env' (λ j lt. let v = given j lt in h.kept (slice_index S.state_vars j) v.below v.apart (none_of c.vars (slice_index S.state_vars j) (apart j lt)));
      holds = h.holds;
      kept = λ v lt none differs other. h.kept v lt none (none_of c.vars v other);
    }
    fed_reaches (Halts events standing) h = h

  pub nil_turned : IsTurned Nil
  nil_turned c tail rows next live s l env serves b room =
      fed_reaches next c (tail.piece (last tail.width rows) next).block env s (before_in Nil c tail rows next live s l env b)
      (state_given S rows next c.vars layout)
      (states_apart rows next c.vars layout)
      (c.feed (last tail.width l))
      (serves.tails.runs next (last tail.width rows) (last tail.width l) env lay_all none_held row_long room b.small scope_in row_in b.holds)
    where
      layout : Layout S rows next c.vars
      layout = b.layout

      deep : base S ≤ length rows
      deep = layout.deep

      wide : base S + tail.width ≤ length rows + 0
      wide = b.course.wide

      long : base S + length l ≡ length rows
      long = b.stands.long

      row_long : length (last tail.width rows) ≡ tail.width
      row_long = length-drop (length rows - tail.width) rows ∙ omega (arith, wide)

      row_at : (i : ℕ) → slice_index (last tail.width rows) i ≡ slice_index rows (length rows - tail.width + i)
      row_at i = get_or-drop (length rows - tail.width) rows i 0

      word_at : (i : ℕ) → slice_index (last tail.width l) i ≡ slice_index l (length l - tail.width + i)
      word_at i = get_or-drop (length l - tail.width) l i 0

      in_rows : (i : ℕ) → i < length (last tail.width rows) → length rows - tail.width + i < length rows
      in_rows i lt = omega (arith, lt, row_long, wide)

      given : (i : ℕ) → i < length (last tail.width rows) → IsWordVariable S.t S.temps next (slice_index (last tail.width rows) i)
      given i lt = subst (IsWordVariable S.t S.temps next) (sym (row_at i)) (layout.given (length rows - tail.width + i) (in_rows i lt))

      scope_at : (k : ℕ) → k < length S.scope_vars → slice_index rows k ≡ slice_index S.scope_vars k
      scope_at k lt = layout.at_scope k (omega (arith, lt, S.scope_wide))

      scope_given : (k : ℕ) → k < length S.scope_vars → IsWordVariable S.t S.temps next (slice_index S.scope_vars k)
      scope_given k lt = subst (IsWordVariable S.t S.temps next) (scope_at k lt) (layout.given k (omega (arith, lt, S.scope_wide, deep)))

      scope_place : (k : ℕ) → k < length S.scope_vars → IsInVariable rows (words_of S s l) S.inputs env k
      scope_place k lt = b.stands.in_place k (omega (arith, lt, S.scope_wide, deep)) (b.course.old_live k (omega (arith, lt, S.scope_wide)))

      scope_in : IsIn env S.scope_vars S.scope_words
      scope_in = is_in env S.scope_vars S.scope_words (S.scope_wide ∙ sym S.scope_long)
          (λ k lt. ap (slice_index env) (sym (scope_at k lt)) ∙ ((scope_place k lt).same ∙ scope_at_word S s l k (omega (arith, lt, S.scope_wide))))
          (λ k lt. subst IsWord (scope_at_word S s l k (omega (arith, lt, S.scope_long))) (scope_place k (omega (arith, lt, S.scope_long, S.scope_wide))).word)

      lay_all : IsLaidOut (c.vars ++ (S.scope_vars ++ last tail.width rows)) S.t S.temps next
      lay_all = let small = b.small in let grown = serves.tails.grows next (last tail.width rows) in record {
        few = omega (arith, small, room, grown);
        temporaries = layout.temps_below;
        words = all_of (IsWordVariable S.t S.temps next) (c.vars ++ (S.scope_vars ++ last tail.width rows)) (each_joined (IsWordVariable S.t S.temps next) c.vars (S.scope_vars ++ last tail.width rows) layout.held_given (each_joined (IsWordVariable S.t S.temps next) S.scope_vars (last tail.width rows) scope_given given));
      }

      none_held : All (λ v. ¬ Contains c.vars v) (S.scope_vars ++ last tail.width rows)
      none_held = all_of (λ v. ¬ Contains c.vars v) (S.scope_vars ++ last tail.width rows)
          (each_joined (λ v. ¬ Contains c.vars v) S.scope_vars (last tail.width rows)
          (λ k lt. none_of c.vars (slice_index S.scope_vars k) (subst (Differs c.vars) (scope_at k lt) (layout.held_apart k (omega (arith, lt, S.scope_wide, deep)))))
          (λ i lt. none_of c.vars (slice_index (last tail.width rows) i) (subst (Differs c.vars) (sym (row_at i)) (layout.held_apart (length rows - tail.width + i) (in_rows i lt)))))

      place : (i : ℕ) → i < length (last tail.width rows) → IsInVariable rows (words_of S s l) S.inputs env (length rows - tail.width + i)
      place i lt = b.stands.in_place (length rows - tail.width + i) (in_rows i lt) (b.course.taken_live (length rows - tail.width + i) (omega (arith, wide)))

      local : (i : ℕ) → slice_index (words_of S s l) (length rows - tail.width + i) ≡ slice_index (last tail.width l) i
      local i =
          let q : length rows - tail.width + i ≡ S.scope + (length s + (length l - tail.width + i)) = omega (arith, long, wide, b.stands.states_long) in
          ap (λ m. slice_index (words_of S s l) m) q ∙ (local_at_word S s l (length l - tail.width + i) ∙ sym (word_at i))

      row_in : IsIn env (last tail.width rows) (last tail.width l)
      row_in = is_in env (last tail.width rows) (last tail.width l) (row_long ∙ sym (length-drop (length l - tail.width) l ∙ omega (arith, wide, long)))
          (λ i lt. ap (slice_index env) (row_at i) ∙ ((place i lt).same ∙ local i))
          (λ i lt. subst IsWord (local i) (place i (omega (arith, lt, row_long, length-drop (length l - tail.width) l, wide, long))).word)

  -- ---- words that get a variable

  -- statements that put a new word into a fresh variable, and then others
  pub own_reaches : (block : Block) (rest : Piece) (next : ℕ) (env s l : List ℕ) (g : Got ℕ) (c : Consumer) (width : ℕ) (go : List ℕ → List ℕ → ActResult) → Puts S.laws S.inputs S.small S.t S.temps block next next env g → ((x : ℕ) (env' : List ℕ) → g ≡ Is x → IsWord x → slice_index env' next ≡ x → length env' ≡ length env → Untouched S.laws S.inputs S.small S.t S.temps next env env' → Reaches S (next + 1) c rest.block env' (act_end c width (go s (l ++ x ∷ [])))) → Reaches S next c (join block rest.block) env (act_end c width (then_run (let_word g s l) go))
  own_reaches block rest next env s l (Is x) c width go puts on =
      let kept : Untouched S.laws S.inputs S.small S.t S.temps next env puts.env' = λ v lt none. puts.kept v lt none (λ e. omega (arith, lt, e)) in
      reach_behind S block rest.block env puts.env' next (next + 1) c (act_end c width (go s (l ++ x ∷ []))) (omega arith) (puts.runs c.left) puts.same
      (λ v lt none apart other. kept v lt none) (on x puts.env' refl puts.word puts.is puts.same kept)
  own_reaches block rest next env s l (Fails f) c width go puts on = is_over S.inputs block rest.block [] (Failed f) env c.left (puts c.left)

  -- the variables before the acts behind a new word, in the variable v
  module _ (a : Action) (acts : Actions) (c : Consumer) (tail : Tail) (rows : List ℕ) (next : ℕ) (live : ℕ → Bool) (s l env : List ℕ) (b : Before (Cons a acts) c tail rows next live s l env) (one : action_locals a ≡ 1) (behind_stays : (j : ℕ) → IsTrue (stays S.scope states j (Cons a acts)) → IsTrue (stays S.scope states j acts)) where
    rest_sound : IsTrue (are_sound_actions states (length rows + 1) acts)
    rest_sound = subst (λ n. IsTrue (are_sound_actions states (length rows + n) acts)) one (both_true (is_sound_action states (length rows) a) (are_sound_actions states (length rows + action_locals a) acts) b.course.sound).1

    rest_numbers : IsTrue (actions_leaves is_word_leaf acts)
    rest_numbers = (both_true (action_leaves is_word_leaf a) (actions_leaves is_word_leaf acts) b.course.numbers).1

    rest_few : acts_temps acts ≤ S.temps
    rest_few = let few = b.course.few in omega (arith, few)

    rest_reads : IsTrue (actions_leaves (is_live live) acts)
    rest_reads = (both_true (action_leaves (is_live live) a) (actions_leaves (is_live live) acts) b.course.reads).1

    -- a word that has a variable
    pub pushed : (next' v x : ℕ) (env' : List ℕ) → next ≤ next' → IsWordVariable S.t S.temps next' v → Differs c.vars v → ((j : ℕ) → j < length S.state_vars → v ≡ slice_index S.state_vars j → IsTrue (stays S.scope states j acts)) → length env' ≡ length env → Untouched S.laws S.inputs S.small S.t S.temps next env env' → slice_index env' v ≡ x → IsWord x → Before acts c tail (rows ++ v ∷ []) next' live s (l ++ x ∷ []) env'
    pushed next' v x env' le given apart alias same kept is word =
        let small = b.small in record {
          layout = push_layout S rows next next' c.vars v le b.layout given apart;
          course = push_course S (Cons a acts) acts rows live live tail.width v b.course b.layout.deep rest_sound rest_numbers rest_few rest_reads (omega (arith, one)) behind_stays
              (λ k is. is) (λ k other is. is) (λ lt. b.course.new_live (length rows) (omega arith)) (λ is j lt e. alias j lt e);
          stands = push_stands S rows live live s l env' v x (still_stands S rows next c.vars live s l env env' b.layout kept b.stands) (λ k is. is) (λ live_too. (is, word));
          holds = still_held S rows next c.vars c.held env env' b.layout kept b.holds;
          small = omega (arith, small, same);
        }

    -- a word that is dead shares the variable of the first one
    pub pushed_dead : (x : ℕ) → length rows ≢ 0 → tail.width ≤ actions_locals acts → IsTrue (are_unread (length rows) 1 acts) → Before acts c tail (rows ++ slice_index rows 0 ∷ []) next (live_but live (length rows)) s (l ++ x ∷ []) env
    pushed_dead x some wide unread = record {
      layout = push_layout S rows next next c.vars (slice_index rows 0) (omega arith) b.layout (b.layout.given 0 (omega (arith, some))) (b.layout.held_apart 0 (omega (arith, some)));
      course = push_course S (Cons a acts) acts rows live (live_but live (length rows)) tail.width (slice_index rows 0) b.course b.layout.deep rest_sound rest_numbers rest_few
          (acts_of_both (is_live live) (is_other_leaf (length rows) 1) (is_live (live_but live (length rows))) (other_live live (length rows)) acts rest_reads unread) (omega (arith, one)) behind_stays
          (live_before live (length rows)) (λ k other is. still_live live (length rows) k other is) (λ lt. absurd (omega (arith, lt, wide)))
          (λ is j lt e. absurd (dead live (length rows) is));
      stands = push_stands S rows live (live_but live (length rows)) s l env (slice_index rows 0) x b.stands (live_before live (length rows)) (λ is. absurd (dead live (length rows) is));
      holds = b.holds;
      small = b.small;
    }

    -- a fresh variable
    pub pushed_fresh : (x : ℕ) (env' : List ℕ) → length env' ≡ length env → Untouched S.laws S.inputs S.small S.t S.temps next env env' → slice_index env' next ≡ x → IsWord x → Before acts c tail (rows ++ next ∷ []) (next + 1) live s (l ++ x ∷ []) env'
    pushed_fresh x env' same kept is word =
        pushed (next + 1) next x env' (omega arith) (fresh_given S (next + 1) next b.layout.temps_below (omega arith))
        (λ j lt. let v = (b.layout.held_given j lt).below in λ e. omega (arith, v, e))
        (λ j lt e. let v = (state_given S rows next c.vars b.layout j lt).below in absurd (omega (arith, v, e)))
        same kept is word

  -- ---- a local word

  module _ (e : Term) (acts : Actions) (ih : IsTurned acts) (ih_held : IsTurnedHeld acts) where
    pub let_turned : IsTurned (Cons (Let e) acts)
    let_turned c tail rows next live s l env serves b room =
        by_use (let_use S.scope states tail.width (length rows) e acts) (use_facts S.scope states tail.width (length rows) e acts (let_use S.scope states tail.width (length rows) e acts) refl) room
      where
        bound : IsTrue (is_bound (length rows) e)
        bound = (both_true (is_bound (length rows) e) (are_sound_actions states (length rows + 1) acts) b.course.sound).0

        numbers : IsTrue (has_words e)
        numbers = (both_true (has_words e) (actions_leaves is_word_leaf acts) b.course.numbers).0

        leaves : IsTrue (all_leaves (is_live live) e)
        leaves = (both_true (all_leaves (is_live live) e) (actions_leaves (is_live live) acts) b.course.reads).0

        fits : IsFit S.laws S.inputs S.small S.t S.temps rows (is_live live) e
        fits = let few = b.course.few in fit rows live e bound numbers (omega (arith, few)) leaves

        by_use : (u : LetUse) → UseFacts S.scope states tail.width (length rows) e acts u → (let_piece u e S.t rows next (λ held r n. piece tail held acts r n)).next ≤ length env → Reaches S next c (let_piece u e S.t rows next (λ held r n. piece tail held acts r n)).block env (act_end c tail.width (then_run (let_word (value e (words_of S s l) S.inputs) s l) (λ t m. run_from acts t m)))
        by_use Tested facts most = ih_held e c tail rows next live s l env serves b facts.0 facts.1.0 facts.1.1 most
        by_use Unused facts most =
            let x = S.laws.undivided_value (words_of S s l) S.inputs e facts.1.1.0 in
            subst (λ g. Reaches S next c (piece tail None acts (rows ++ slice_index rows 0 ∷ []) next).block env (act_end c tail.width (then_run (let_word g s l) (λ t m. run_from acts t m)))) (sym x.1)
            (ih c tail (rows ++ slice_index rows 0 ∷ []) next (live_but live (length rows)) s (l ++ x.0 ∷ []) env serves
            (pushed_dead (Let e) acts c tail rows next live s l env b refl (λ j is. is) x.0 facts.0 facts.1.0 facts.1.1.1) most)
        by_use (SameWord k) facts most =
            subst (λ f. Reaches S next c (piece tail None acts (rows ++ slice_index rows k ∷ []) next).block env (act_end c tail.width (then_run (let_word (value f (words_of S s l) S.inputs) s l) (λ t m. run_from acts t m)))) (sym facts.0)
            (ih c tail (rows ++ slice_index rows k ∷ []) next live s (l ++ slice_index (words_of S s l) k ∷ []) env serves
            (pushed (Let e) acts c tail rows next live s l env b refl (λ j is. is) next (slice_index rows k) (slice_index (words_of S s l) k) env (omega arith) (b.layout.given k within) (b.layout.held_apart k within)
            (alias (cases_lt k S.scope) (cases_lt k (base S))) refl (λ v lt none. refl) there.same there.word) most)
          where
            within : k < length rows
            within = ltb-true k (length rows) (subst (λ x. IsTrue (is_bound (length rows) x)) facts.0 bound)

            is_alive : IsTrue (live k)
            is_alive = subst (λ x. IsTrue (all_leaves (is_live live) x)) facts.0 leaves

            there : IsInVariable rows (words_of S s l) S.inputs env k
            there = b.stands.in_place k within is_alive

            steady_state : S.scope ≤ k → k < base S → IsTrue (stays S.scope states (k - S.scope) acts)
            steady_state high low = elim (either_true (nat_lt k S.scope) (not (nat_lt k (base S)) || stays S.scope states (k - S.scope) acts) facts.1) [
              | inl before ↦ let lt = ltb-true k S.scope before in absurd (omega (arith, lt, high))
              | inr rest ↦ elim (either_true (not (nat_lt k (base S))) (stays S.scope states (k - S.scope) acts) rest) [
                | inl past ↦ let le = ltb-false k (base S) (false_not (nat_lt k (base S)) past) in absurd (omega (arith, le, low))
                | inr is ↦ is
              ]
            ]

            alias : (k < S.scope) ⊎ (S.scope ≤ k) → (k < base S) ⊎ (base S ≤ k) → (j : ℕ) → j < length S.state_vars → slice_index rows k ≡ slice_index S.state_vars j → IsTrue (stays S.scope states j acts)
            alias (inl before) side j lt same = absurd (b.layout.scope_apart k before j lt (sym same))
            alias (inr high) (inl low) j lt same =
                let q : S.scope + (k - S.scope) ≡ k = omega (arith, high) in
                let at : slice_index S.state_vars (k - S.scope) ≡ slice_index S.state_vars j = sym (b.layout.at_states (k - S.scope) (omega (arith, high, low))) ∙ (ap (slice_index rows) q ∙ same) in
                subst (λ n. IsTrue (stays S.scope states n acts)) (S.differ (k - S.scope) j (omega (arith, high, low)) lt at) (steady_state high low)
            alias (inr high) (inr local) j lt same = b.course.alias k local within is_alive j lt same
        by_use Own facts most =
            own_reaches (lowered_into rows e next S.t) (piece tail None acts (rows ++ next ∷ []) (next + 1)) next env s l (value e (words_of S s l) S.inputs) c tail.width (λ t m. run_from acts t m)
            (value_puts S.laws S.inputs S.small S.t S.temps rows (words_of S s l) (is_live live) e fits next next env (lay (Cons (Let e) acts) c tail rows next live s l env b least) b.stands.in_place
            (fresh S.laws S.inputs S.small S.t S.temps rows (words_of S s l) (is_live live) e fits next (lay (Cons (Let e) acts) c tail rows next live s l env b least)) (omega (arith, most, grown)) least)
            (λ x env' got word is same kept. ih c tail (rows ++ next ∷ []) (next + 1) live s (l ++ x ∷ []) env' serves
            (pushed_fresh (Let e) acts c tail rows next live s l env b refl (λ j ok. ok) x env' same kept is word) (omega (arith, most, same)))
          where
            grown : next + 1 ≤ (piece tail None acts (rows ++ next ∷ []) (next + 1)).next
            grown = acts_grow S.scope states S.t S.stop tail None acts (rows ++ next ∷ []) (next + 1) (λ row n. serves.tails.grows n row)

            least : next ≤ length env
            least = omega (arith, most, grown)
