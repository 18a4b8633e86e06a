-- Tests and reads, where the acts behind them do what they say. A test that looks at an expression in place of a word evaluates it
-- there: where it has no value the run is over, as at the word.
use Rattle.std.proofs.Common.{◌≡◌, ◌≢◌, ℕ, zero, suc, ◌+◌, ◌<◌, ◌≤◌, Bool, true, false, ◌&&◌, List, [], ◌∷◌, ◌++◌, length, refl, sym, ap, ◌∙◌, subst, arith}
use Rattle.std.specs.Prelude.{IsTrue, ◌==◌, slice_get, slice_index, slice_set, Option, Some, None}
use Rattle.std.proofs.lemmas.Bool.{eqb-true, ltb-true, lt-ltb}
use Rattle.std.proofs.lemmas.List.{get_or-set_same, get_or-set_other, length-set}
use Rattle.strm_num.proofs.Truths.{both_true, true_both}
use Rattle.strm_num.specs.Words.{truth_of}
use Rattle.list_denotation.specs.Inputs.{items_in}
use Rattle.list_denotation.specs.Leaves.{all_leaves}
use Rattle.list_denotation.specs.Literals.{is_word_leaf, has_words}
use Rattle.list_denotation.specs.Observation.{Failed}
use Rattle.list_denotation.specs.Scopes.{is_bound, is_bound_leaf}
use Rattle.list_denotation.specs.Terms.{Term, Var}
use Rattle.list_denotation.specs.Typing.{is_undivided}
use Rattle.list_denotation.specs.Values.{Stuck, Got, Is, Fails, choice, value}
use Rattle.loop_ir.specs.Statements as loop
use Rattle.loop_ir.specs.Statements.{Operand, Block, join}
use Rattle.loop_ir.specs.Meaning.{Runs, Over, then_do, on_value, item_of, operand_value, run}
use Rattle.loop_ir.proofs.Joins.{is_over}
use Rattle.state_alloc.specs.Layouts.{IsWordVariable}
use Rattle.expr_lower.specs.Costs.{temps_of}
use Rattle.expr_forms.specs.Forms.{Condition, operand_block, operand_in}
use Rattle.expr_lower.specs.Lowering.{lowered_term, lowered_test}
use Rattle.stateful_core.specs.Actions.{ActResult, Continue, Skip, Halt, then_run, let_word, read_item}
use Rattle.stateful_core.specs.CoreLeaves.{action_leaves, actions_leaves}
use Rattle.stateful_core.specs.CoreShapes.{action_locals, actions_locals}
use Rattle.stateful_core.specs.CoreTerms.{Action, Let, Read, KeepIf, StopUnless, Actions, Nil, Cons}
use Rattle.stateful_core.specs.WellFormed.{is_sure, is_sound_action, are_sound_actions}
use Rattle.stateful_core.specs.WordValues.{or_zero, word_value}
use Rattle.turn_blocks.specs.Pieces.{Piece, Tail, behind_scratch}
use Rattle.turn_blocks.specs.Temporaries.{acts_temps}
use Rattle.turn_blocks.specs.TurnBlocks.{known_truth, read_block, test_piece}
use Rattle.turn_blocks.specs.TurnContract.{Consumer, TurnEnd}
use Rattle.turn_blocks.specs.WordUses.{are_unread, stays}
use Rattle.turn_blocks.proofs.LeafTests.{leaves_of_both}
use Rattle.turn_blocks.proofs.PieceSizes.{acts_grow, scratch_least}
use Rattle.turn_blocks.proofs.Values.{Untouched, passes_on, IsFit, Readable, Puts, Tells, Yielded, Yields, operand_yields, condition_tells}
use Rattle.turn_blocks.proofs.WordLists.{all_of, before_last, at_last, length_last, length_words, more_words}
use Rattle.turn_blocks.proofs.TurnStates.{Setting, state_given, is_live, act_end, words_of, next_course, laid_out, Reaches, reach_behind, reach_from, if_reaches}
use Rattle.turn_blocks.proofs.TurnSteps.{known_value, fed_reaches, before_in, states_apart, item_word, test_end, live_but, piece, run_from, Serves, Before, IsTurned, IsTurnedHeld, stay, lay, later, before_acts, fit, own_reaches, pushed_fresh, pushed_dead}

-- ---- ends

-- where a test fails the turn ends so
abbrev IsEnd : (List ℕ → ActResult) → Type 0
IsEnd failed = (s : List ℕ) (go : List ℕ → List ℕ → ActResult) → then_run (failed s) go ≡ failed s

module _ (c : Consumer) (width : ℕ) (failed : List ℕ → ActResult) (ends : IsEnd failed) (go : List ℕ → List ℕ → ActResult) where
  chosen_end : (x : ℕ) (s l : List ℕ) → choice x (act_end c width (failed s)) (act_end c width (go s l)) ≡ act_end c width (then_run (choice x (failed s) (Continue s l)) go)
  chosen_end zero s l = ap (act_end c width) (sym (ends s go))
  chosen_end (suc x) s l = refl

  -- a test of a word
  word_end : (g : Got ℕ) (w : ℕ) (s l : List ℕ) → g ≡ Is w → test_end g (act_end c width (failed s)) (λ x. act_end c width (go s l)) ≡ act_end c width (then_run (choice (or_zero g) (failed s) (Continue s l)) go)
  word_end (Is x) w s l is = chosen_end x s l
  word_end (Fails f) w s l is = absurd cc

  -- a test of a word that was added last
  held_end : (word : List ℕ → List ℕ → ℕ) (g : Got ℕ) (s l : List ℕ) → ((x : ℕ) → word s (l ++ x ∷ []) ≡ x) → test_end g (act_end c width (failed s)) (λ x. act_end c width (go s (l ++ x ∷ []))) ≡ act_end c width (then_run (let_word g s l) (λ t m. then_run (choice (word t m) (failed t) (Continue t m)) go))
  held_end word (Is x) s l is = chosen_end x s (l ++ x ∷ []) ∙ ap (λ w. act_end c width (then_run (choice w (failed s) (Continue s (l ++ x ∷ []))) go)) (sym (is x))
  held_end word (Fails f) s l is = refl

read_let : (o : Option ℕ) (s l : List ℕ) → let_word (item_of o) s l ≡ read_item o s l
read_let (Some x) s l = refl
read_let None s l = refl

wider_leaf : (n m : ℕ) → n ≤ m → (x : Term) → IsTrue (is_bound_leaf n x) → IsTrue (is_bound_leaf n x) → IsTrue (is_bound_leaf m x)
wider_leaf n m le (Var k) h again = let lt = ltb-true k n h in lt-ltb k m (omega (arith, lt, le))
wider_leaf n m le _ h again = refl

-- what reads the first n words reads the first m
pub wider : (n m : ℕ) → n ≤ m → (e : Term) → IsTrue (is_bound n e) → IsTrue (is_bound m e)
wider n m le e h = leaves_of_both (is_bound_leaf n) (is_bound_leaf n) (is_bound_leaf m) (wider_leaf n m le) e h h

module _ (S : Setting) where
  abbrev Still : ℕ → List ℕ → List ℕ → Type 0
  Still next env env' = Untouched S.laws S.inputs S.small S.t S.temps next env env'

  -- a test, and what stands in its branches
  test_reaches : (o : Option Bool) (g : Got ℕ) (c : Condition) (next : ℕ) (go : ℕ → Piece) (off : Block) (k : Consumer) (env : List ℕ) (end_off : TurnEnd) (end_on : ℕ → TurnEnd) → ((b : Bool) → o ≡ Some b → g ≡ Is (truth_of b)) → ((n : ℕ) → n ≤ (go n).next) → (behind_scratch c next ≤ length env → Tells S.laws S.inputs S.small S.t S.temps c next env g) → ((x n : ℕ) (env' : List ℕ) → g ≡ Is x → next ≤ n → length env' ≡ length env → Still next env env' → (go n).next ≤ length env' → Reaches S n k (go n).block env' (end_on x)) → ((env' : List ℕ) → length env' ≡ length env → Still next env env' → next ≤ length env' → Reaches S next k off env' end_off) → (test_piece o c next go off).next ≤ length env → Reaches S next k (test_piece o c next go off).block env (test_end g end_off end_on)
  test_reaches (Some true) g c next go off k env end_off end_on known grows tells on fails room =
      subst (λ z. Reaches S next k (go next).block env (test_end z end_off end_on)) (sym (known true refl)) (on 1 next env (known true refl) (omega arith) refl (λ v lt none. refl) room)
  test_reaches (Some false) g c next go off k env end_off end_on known grows tells on fails room =
      subst (λ z. Reaches S next k off env (test_end z end_off end_on)) (sym (known false refl)) (fails env refl (λ v lt none. refl) room)
  test_reaches None g c next go off k env end_off end_on known grows tells on fails room =
      by_value g refl (tells (omega (arith, room, grows (behind_scratch c next))))
    where
      n : ℕ
      n = behind_scratch c next

      by_value : (z : Got ℕ) → g ≡ z → Tells S.laws S.inputs S.small S.t S.temps c next env z → Reaches S next k (join c.block (loop.Cons (loop.If c.test (go (behind_scratch c next)).block off) loop.Nil)) env (test_end z end_off end_on)
      by_value (Is zero) is h =
          reach_behind S c.block (loop.Cons (loop.If c.test (go (behind_scratch c next)).block off) loop.Nil) env h.env' next next k end_off (omega arith) (h.runs k.left) h.same (λ v lt none apart other. h.kept v lt none)
          (if_reaches S c.test (go (behind_scratch c next)).block off h.env' next k end_off false h.is (fails h.env' h.same h.kept (omega (arith, h.same, room, grows (behind_scratch c next), scratch_least c next))))
      by_value (Is (suc x)) is h =
          reach_behind S c.block (loop.Cons (loop.If c.test (go (behind_scratch c next)).block off) loop.Nil) env h.env' next next k (end_on (suc x)) (omega arith) (h.runs k.left) h.same (λ v lt none apart other. h.kept v lt none)
          (if_reaches S c.test (go (behind_scratch c next)).block off h.env' next k (end_on (suc x)) true h.is
          (reach_from S (go (behind_scratch c next)).block h.env' next (behind_scratch c next) k (end_on (suc x)) (scratch_least c next)
          (on (suc x) (behind_scratch c next) h.env' is (scratch_least c next) h.same h.kept (omega (arith, room, h.same)))))
      by_value (Fails f) is h = is_over S.inputs c.block (loop.Cons (loop.If c.test (go (behind_scratch c next)).block off) loop.Nil) [] (Failed f) env k.left (h k.left)

  -- the variables before the acts behind one that adds no local word
  pub rest_before : (a : Action) (acts : Actions) (c : Consumer) (tail : Tail) (rows : List ℕ) (next : ℕ) (live : ℕ → Bool) (s l env : List ℕ) → Before S (Cons a acts) c tail rows next live s l env → action_locals a ≡ 0 → ((j : ℕ) → IsTrue (stays S.scope (length S.state_vars) j (Cons a acts)) → IsTrue (stays S.scope (length S.state_vars) j acts)) → Before S acts c tail rows next live s l env
  rest_before a acts c tail rows next live s l env b none behind =
      let few = b.course.few in
      let zero : length rows + action_locals a ≡ length rows = omega (arith, none) in
      before_acts S (Cons a acts) acts c tail rows next live s l env b
      (next_course S (Cons a acts) acts rows live tail.width b.course
      (subst (λ n. IsTrue (are_sound_actions (length S.state_vars) n acts)) zero (both_true (is_sound_action (length S.state_vars) (length rows) a) (are_sound_actions (length S.state_vars) (length rows + action_locals a) acts) b.course.sound).1)
      (both_true (action_leaves is_word_leaf a) (actions_leaves is_word_leaf acts) b.course.numbers).1
      (omega (arith, few))
      (both_true (action_leaves (is_live live) a) (actions_leaves (is_live live) acts) b.course.reads).1
      (omega (arith, none)) behind)

  -- ---- tests

  module _ (failed : List ℕ → ActResult) (ends : IsEnd failed) (off : Block) (acts : Actions) (ih : IsTurned S acts) where
    abbrev FailsSo : Type 0
    FailsSo = (acts : Actions) (c : Consumer) (tail : Tail) (rows : List ℕ) (next : ℕ) (live : ℕ → Bool) (s l env : List ℕ) → Serves S c tail → Before S acts c tail rows next live s l env → next ≤ length env → Reaches S next c off env (act_end c tail.width (failed s))

    test_core : FailsSo → (e : Term) (c : Consumer) (tail : Tail) (rows : List ℕ) (next : ℕ) (live : ℕ → Bool) (s l env : List ℕ) → Serves S c tail → Before S acts c tail rows next live s l env → IsFit S.laws S.inputs S.small S.t S.temps rows (is_live live) e → IsTrue (is_undivided e) → (test_piece (known_truth tail.has_loop e) (lowered_test rows e next S.t) next (λ n. piece S tail None acts rows n) off).next ≤ length env → Reaches S next c (test_piece (known_truth tail.has_loop e) (lowered_test rows e next S.t) next (λ n. piece S tail None acts rows n) off).block env (act_end c tail.width (then_run (choice (word_value e (words_of S s l) S.inputs) (failed s) (Continue s l)) (λ t m. run_from S acts t m)))
    test_core fails e c tail rows next live s l env serves b fits undivided room =
        let w = S.laws.undivided_value (words_of S s l) S.inputs e undivided in
        subst (Reaches S next c (test_piece (known_truth tail.has_loop e) (lowered_test rows e next S.t) next (λ n. piece S tail None acts rows n) off).block env)
        (word_end c tail.width failed ends (λ t m. run_from S acts t m) (value e (words_of S s l) S.inputs) w.0 s l w.1)
        (test_reaches (known_truth tail.has_loop e) (value e (words_of S s l) S.inputs) (lowered_test rows e next S.t) next (λ n. piece S tail None acts rows n) off c env
        (act_end c tail.width (failed s)) (λ x. act_end c tail.width (run_from S acts s l))
        (known_value tail.has_loop e (words_of S s l) S.inputs)
        (λ n. acts_grow S.scope (length S.state_vars) S.t S.stop tail None acts rows n (λ row m. serves.tails.grows m row))
        (λ fits_in. let one = scratch_least (lowered_test rows e next S.t) next in condition_tells S.laws S.inputs S.small S.t S.temps rows (words_of S s l) (is_live live) e fits next env (lay S acts c tail rows next live s l env b (omega (arith, one, fits_in))) b.stands.in_place (omega (arith, one, fits_in)) fits_in)
        (λ x n env' is le same kept most. ih c tail rows n live s l env' serves (later S acts c tail rows next live s l env b n env' le same kept) most)
        (λ env' same kept least. fails acts c tail rows next live s l env' serves (later S acts c tail rows next live s l env b next env' (omega arith) same kept) least)
        room)

    -- a test of the word that was added last, in place of which an expression is held
    held_core : FailsSo → (k : ℕ) (e : Term) (c : Consumer) (tail : Tail) (rows : List ℕ) (next : ℕ) (live : ℕ → Bool) (s l env : List ℕ) → Serves S c tail → Before S (Cons (Let e) acts) c tail rows next live s l env → length rows ≢ 0 → tail.width ≤ actions_locals acts → k ≡ length rows → IsTrue (are_unread (length rows) 1 acts) → (test_piece (known_truth tail.has_loop e) (lowered_test (rows ++ slice_index rows 0 ∷ []) e next S.t) next (λ n. piece S tail None acts (rows ++ slice_index rows 0 ∷ []) n) off).next ≤ length env → Reaches S next c (test_piece (known_truth tail.has_loop e) (lowered_test (rows ++ slice_index rows 0 ∷ []) e next S.t) next (λ n. piece S tail None acts (rows ++ slice_index rows 0 ∷ []) n) off).block env (act_end c tail.width (then_run (let_word (value e (words_of S s l) S.inputs) s l) (λ t m. then_run (choice (slice_index (words_of S t m) k) (failed t) (Continue t m)) (λ t m. run_from S acts t m))))
    held_core fails k e c tail rows next live s l env serves b some wide at unread room =
        subst (Reaches S next c (test_piece (known_truth tail.has_loop e) (lowered_test more e next S.t) next (λ n. piece S tail None acts more n) off).block env)
        (held_end c tail.width failed ends (λ t m. run_from S acts t m) (λ t m. slice_index (words_of S t m) k) (value e (words_of S s l) S.inputs) s l new_word)
        (test_reaches (known_truth tail.has_loop e) (value e (words_of S s l) S.inputs) (lowered_test more e next S.t) next (λ n. piece S tail None acts more n) off c env
        (act_end c tail.width (failed s)) (λ x. act_end c tail.width (run_from S acts s (l ++ x ∷ [])))
        (known_value tail.has_loop e (words_of S s l) S.inputs)
        (λ n. acts_grow S.scope (length S.state_vars) S.t S.stop tail None acts more n (λ row m. serves.tails.grows m row))
        tells
        (λ x n env' is le same kept most. ih c tail more n (live_but live (length rows)) s (l ++ x ∷ []) env' serves
        (later S acts c tail more next (live_but live (length rows)) s (l ++ x ∷ []) env (dead_before x) n env' le same kept) most)
        (λ env' same kept least. fails (Cons (Let e) acts) c tail rows next live s l env' serves (later S (Cons (Let e) acts) c tail rows next live s l env b next env' (omega arith) same kept) least)
        room)
      where
        more : List ℕ
        more = rows ++ slice_index rows 0 ∷ []

        dead_before : (x : ℕ) → Before S acts c tail (rows ++ slice_index rows 0 ∷ []) next (live_but live (length rows)) s (l ++ x ∷ []) env
        dead_before x = pushed_dead S (Let e) acts c tail rows next live s l env b refl (λ j is. is) x some wide unread

        new_word : (x : ℕ) → slice_index (words_of S s (l ++ x ∷ [])) k ≡ x
        new_word x =
            let p = b.stands.long in let q = b.stands.states_long in let r = S.scope_long in
            ap (λ ws. slice_index ws k) (more_words S.scope_words s l x) ∙ at_last (words_of S s l) x k (omega (arith, length_words S.scope_words s l, p, q, r, at))

        bound : IsTrue (is_bound (length rows) e)
        bound = (both_true (is_bound (length rows) e) (are_sound_actions (length S.state_vars) (length rows + 1) acts) b.course.sound).0

        fits : IsFit S.laws S.inputs S.small S.t S.temps (rows ++ slice_index rows 0 ∷ []) (λ x. is_live live x && is_bound_leaf (length rows) x) e
        fits = let few = b.course.few in record {
          words = (both_true (has_words e) (actions_leaves is_word_leaf acts) b.course.numbers).0;
          bound = wider (length rows) (length (rows ++ slice_index rows 0 ∷ [])) (omega (arith, length_last rows (slice_index rows 0))) e bound;
          few = omega (arith, few);
          leaves = leaves_of_both (is_live live) (is_bound_leaf (length rows)) (λ x. is_live live x && is_bound_leaf (length rows) x) (λ x p q. true_both (is_live live x) (is_bound_leaf (length rows) x) p q) e
              (both_true (all_leaves (is_live live) e) (actions_leaves (is_live live) acts) b.course.reads).0 bound;
        }

        readable : Readable S.laws S.inputs S.small S.t S.temps (rows ++ slice_index rows 0 ∷ []) (words_of S s l) (λ x. is_live live x && is_bound_leaf (length rows) x) env
        readable m lt is =
            let p = both_true (live m) (is_bound_leaf (length rows) (Var m)) is in
            let within = ltb-true m (length rows) p.1 in
            let there = b.stands.in_place m within p.0 in
            record { same = ap (slice_index env) (before_last rows (slice_index rows 0) m within) ∙ there.same; word = there.word }

        tells : behind_scratch (lowered_test (rows ++ slice_index rows 0 ∷ []) e next S.t) next ≤ length env → Tells S.laws S.inputs S.small S.t S.temps (lowered_test (rows ++ slice_index rows 0 ∷ []) e next S.t) next env (value e (words_of S s l) S.inputs)
        tells fits_in =
            let one = scratch_least (lowered_test (rows ++ slice_index rows 0 ∷ []) e next S.t) next in
            let small = b.small in
            condition_tells S.laws S.inputs S.small S.t S.temps (rows ++ slice_index rows 0 ∷ []) (words_of S s l) (λ x. is_live live x && is_bound_leaf (length rows) x) e fits next env
            (laid_out S (rows ++ slice_index rows 0 ∷ []) next c.vars (omega (arith, one, fits_in, small)) (dead_before 0).layout) readable (omega (arith, one, fits_in)) fits_in

  -- ---- acts that test

  test_fit : (a : Action) (e : Term) (acts : Actions) (c : Consumer) (tail : Tail) (rows : List ℕ) (next : ℕ) (live : ℕ → Bool) (s l env : List ℕ) → Before S (Cons a acts) c tail rows next live s l env → is_sound_action (length S.state_vars) (length rows) a ≡ is_sure (length rows) e → action_leaves is_word_leaf a ≡ has_words e → temps_of e ≤ acts_temps (Cons a acts) → action_leaves (is_live live) a ≡ all_leaves (is_live live) e → IsFit S.laws S.inputs S.small S.t S.temps rows (is_live live) e × IsTrue (is_undivided e)
  test_fit a e acts c tail rows next live s l env b sure numbers few leaves =
      let enough = b.course.few in
      let first = (both_true (is_sound_action (length S.state_vars) (length rows) a) (are_sound_actions (length S.state_vars) (length rows + action_locals a) acts) b.course.sound).0 in
      let parts = both_true (is_bound (length rows) e) (is_undivided e) (sym sure ∙ first) in
      (fit S rows live e parts.0 (sym numbers ∙ (both_true (action_leaves is_word_leaf a) (actions_leaves is_word_leaf acts) b.course.numbers).0) (omega (arith, enough, few)) (sym leaves ∙ (both_true (action_leaves (is_live live) a) (actions_leaves (is_live live) acts) b.course.reads).0), parts.1)

  skips : (acts : Actions) (c : Consumer) (tail : Tail) (rows : List ℕ) (next : ℕ) (live : ℕ → Bool) (s l env : List ℕ) → Serves S c tail → Before S acts c tail rows next live s l env → next ≤ length env → Reaches S next c loop.Nil env (act_end c tail.width (Skip s))
  skips acts c tail rows next live s l env serves b least = stay S acts c tail rows next live s l env b

  stops : (acts : Actions) (c : Consumer) (tail : Tail) (rows : List ℕ) (next : ℕ) (live : ℕ → Bool) (s l env : List ℕ) → Serves S c tail → Before S acts c tail rows next live s l env → next ≤ length env → Reaches S next c S.stop env (act_end c tail.width (Halt s))
  stops acts c tail rows next live s l env serves b least =
      fed_reaches S next c S.stop env s (before_in S acts c tail rows next live s l env b) (state_given S rows next c.vars b.layout) (states_apart S rows next c.vars b.layout) c.stopped
      (serves.stops next env (record { few = omega (arith, least, b.small); temporaries = b.layout.temps_below; words = all_of (IsWordVariable S.t S.temps next) c.vars b.layout.held_given }) least b.small b.holds)

  pub keep_turned : (e : Term) (acts : Actions) → IsTurned S acts → IsTurned S (Cons (KeepIf e) acts)
  keep_turned e acts ih c tail rows next live s l env serves b room =
      let fits = test_fit (KeepIf e) e acts c tail rows next live s l env b refl refl (omega arith) refl in
      test_core Skip (λ t go. refl) loop.Nil acts ih skips e c tail rows next live s l env serves (rest_before (KeepIf e) acts c tail rows next live s l env b refl (λ j is. is)) fits.0 fits.1 room

  pub stop_turned : (e : Term) (acts : Actions) → IsTurned S acts → IsTurned S (Cons (StopUnless e) acts)
  stop_turned e acts ih c tail rows next live s l env serves b room =
      let fits = test_fit (StopUnless e) e acts c tail rows next live s l env b refl refl (omega arith) refl in
      test_core Halt (λ t go. refl) S.stop acts ih stops e c tail rows next live s l env serves (rest_before (StopUnless e) acts c tail rows next live s l env b refl (λ j is. is)) fits.0 fits.1 room

  -- the same acts without the test behind the first one
  drop_test : (e : Term) (a : Action) (acts : Actions) (c : Consumer) (tail : Tail) (rows : List ℕ) (next : ℕ) (live : ℕ → Bool) (s l env : List ℕ) → Before S (Cons (Let e) (Cons a acts)) c tail rows next live s l env → action_locals a ≡ 0 → ((j : ℕ) → IsTrue (stays S.scope (length S.state_vars) j (Cons a acts)) → IsTrue (stays S.scope (length S.state_vars) j acts)) → Before S (Cons (Let e) acts) c tail rows next live s l env
  drop_test e a acts c tail rows next live s l env b none behind =
      let few = b.course.few in
      let m = both_true (is_bound (length rows) e) (are_sound_actions (length S.state_vars) (length rows + 1) (Cons a acts)) b.course.sound in
      let n = both_true (is_sound_action (length S.state_vars) (length rows + 1) a) (are_sound_actions (length S.state_vars) (length rows + 1 + action_locals a) acts) m.1 in
      let p = both_true (has_words e) (actions_leaves is_word_leaf (Cons a acts)) b.course.numbers in
      let q = both_true (all_leaves (is_live live) e) (actions_leaves (is_live live) (Cons a acts)) b.course.reads in
      let zero : length rows + 1 + action_locals a ≡ length rows + 1 = omega (arith, none) in
      before_acts S (Cons (Let e) (Cons a acts)) (Cons (Let e) acts) c tail rows next live s l env b
      (next_course S (Cons (Let e) (Cons a acts)) (Cons (Let e) acts) rows live tail.width b.course
      (true_both (is_bound (length rows) e) (are_sound_actions (length S.state_vars) (length rows + 1) acts) m.0 (subst (λ k. IsTrue (are_sound_actions (length S.state_vars) k acts)) zero n.1))
      (true_both (has_words e) (actions_leaves is_word_leaf acts) p.0 (both_true (action_leaves is_word_leaf a) (actions_leaves is_word_leaf acts) p.1).1)
      (omega (arith, few))
      (true_both (all_leaves (is_live live) e) (actions_leaves (is_live live) acts) q.0 (both_true (action_leaves (is_live live) a) (actions_leaves (is_live live) acts) q.1).1)
      (omega (arith, none)) behind)

  -- the acts behind the first one are turned
  abbrev pub RestTurned : Actions → Type 0
  RestTurned Nil = Unit {0}
  RestTurned (Cons a acts) = IsTurned S acts

  pub held_turned : (acts : Actions) → RestTurned acts → IsTurnedHeld S acts
  held_turned (Cons (KeepIf (Var k)) acts) ih e c tail rows next live s l env serves b some wide is room =
      let p = both_true (k == length rows) (are_unread (length rows) 1 acts) is in
      held_core Skip (λ t go. refl) loop.Nil acts ih skips k e c tail rows next live s l env serves (drop_test e (KeepIf (Var k)) acts c tail rows next live s l env b refl (λ j ok. ok)) some (omega (arith, wide)) (eqb-true k (length rows) p.0) p.1 room
  held_turned (Cons (StopUnless (Var k)) acts) ih e c tail rows next live s l env serves b some wide is room =
      let p = both_true (k == length rows) (are_unread (length rows) 1 acts) is in
      held_core Halt (λ t go. refl) S.stop acts ih stops k e c tail rows next live s l env serves (drop_test e (StopUnless (Var k)) acts c tail rows next live s l env b refl (λ j ok. ok)) some (omega (arith, wide)) (eqb-true k (length rows) p.0) p.1 room
  held_turned _ ih e c tail rows next live s l env serves b some wide is room = absurd cc

  -- ---- reads

  module _ (a : ℕ) (e : Term) (acts : Actions) (ih : IsTurned S acts) where
    abbrev items : List ℕ
    items = items_in (slice_get S.inputs a)

    read_runs : (next : ℕ) (w : Operand) (env : List ℕ) (i left : ℕ) (o : Option ℕ) → operand_value S.inputs w env ≡ Is i → slice_get items i ≡ o → run S.inputs (loop.Cons (loop.Read next a w) loop.Nil) env left ≡ then_do (on_value (item_of o) (λ x. Runs [] (slice_set env next x) left)) (run S.inputs loop.Nil)
    read_runs next w env i left o is got =
        ap (λ g. then_do (on_value g (λ i. on_value (item_of (slice_get items i)) (λ x. Runs [] (slice_set env next x) left))) (run S.inputs loop.Nil)) is
        ∙ ap (λ z. then_do (on_value (item_of z) (λ x. Runs [] (slice_set env next x) left)) (run S.inputs loop.Nil)) got

    read_puts : (block : Block) (w : Operand) (next : ℕ) (env : List ℕ) (i : ℕ) → next < length env → Yielded S.laws S.inputs S.small S.t S.temps block w next env i → (o : Option ℕ) → slice_get items i ≡ o → Puts S.laws S.inputs S.small S.t S.temps (join block (loop.Cons (loop.Read next a w) loop.Nil)) next next env (item_of o)
    read_puts block w next env i inside y (Some x) got = record {
      env' = slice_set y.env' next x;
      runs = λ left. passes_on S.inputs block (loop.Cons (loop.Read next a w) loop.Nil) env y.env' left (Runs [] (slice_set y.env' next x) left) (y.runs left) (read_runs next w y.env' i left (Some x) y.is got);
      same = length-set y.env' next x ∙ y.same;
      kept = λ v lt none other. get_or-set_other y.env' next v x 0 other ∙ y.kept v lt none;
      word = item_word items i x (S.small.items a) got;
      is = get_or-set_same y.env' next x 0 (subst (λ n. next < n) (sym y.same) inside);
    }
    read_puts block w next env i inside y None got = λ left. passes_on S.inputs block (loop.Cons (loop.Read next a w) loop.Nil) env y.env' left (Over [] (Failed Stuck)) (y.runs left) (read_runs next w y.env' i left None y.is got)

    pub read_turned : IsTurned S (Cons (Read a e) acts)
    read_turned c tail rows next live s l env serves b room = go i.0 i.1 (operand_yields S.laws S.inputs S.small S.t S.temps rows (words_of S s l) (is_live live) e fits next env (lay S (Cons (Read a e) acts) c tail rows next live s l env b (omega (arith, room, grown))) b.stands.in_place (omega (arith, room, grown)))
      where
        grown : next + 1 ≤ (piece S tail None acts (rows ++ next ∷ []) (next + 1)).next
        grown = acts_grow S.scope (length S.state_vars) S.t S.stop tail None acts (rows ++ next ∷ []) (next + 1) (λ row n. serves.tails.grows n row)

        sure : IsTrue (is_bound (length rows) e) × IsTrue (is_undivided e)
        sure = both_true (is_bound (length rows) e) (is_undivided e) (both_true (is_sure (length rows) e) (are_sound_actions (length S.state_vars) (length rows + 1) acts) b.course.sound).0

        fits : IsFit S.laws S.inputs S.small S.t S.temps rows (is_live live) e
        fits = let few = b.course.few in
            fit S rows live e sure.0 (both_true true (has_words e) (both_true (action_leaves is_word_leaf (Read a e)) (actions_leaves is_word_leaf acts) b.course.numbers).0).1 (omega (arith, few))
            (both_true true (all_leaves (is_live live) e) (both_true (action_leaves (is_live live) (Read a e)) (actions_leaves (is_live live) acts) b.course.reads).0).1

        i : (w : ℕ) × (value e (words_of S s l) S.inputs ≡ Is w)
        i = S.laws.undivided_value (words_of S s l) S.inputs e sure.1

        go : (n : ℕ) → value e (words_of S s l) S.inputs ≡ Is n → Yields S.laws S.inputs S.small S.t S.temps (operand_block (lowered_term rows e next S.t) next) (operand_in (lowered_term rows e next S.t).form next) next env (value e (words_of S s l) S.inputs) → Reaches S next c (join (read_block a (lowered_term rows e next S.t) next) (piece S tail None acts (rows ++ next ∷ []) (next + 1)).block) env (act_end c tail.width (then_run (read_item (slice_get items (or_zero (value e (words_of S s l) S.inputs))) s l) (λ t m. run_from S acts t m)))
        go n is y =
            subst (λ r. Reaches S next c (join (read_block a (lowered_term rows e next S.t) next) (piece S tail None acts (rows ++ next ∷ []) (next + 1)).block) env (act_end c tail.width (then_run r (λ t m. run_from S acts t m))))
            (read_let (slice_get items n) s l ∙ ap (λ g. read_item (slice_get items (or_zero g)) s l) (sym is))
            (own_reaches S (read_block a (lowered_term rows e next S.t) next) (piece S tail None acts (rows ++ next ∷ []) (next + 1)) next env s l (item_of (slice_get items n)) c tail.width (λ t m. run_from S acts t m)
            (read_puts (operand_block (lowered_term rows e next S.t) next) (operand_in (lowered_term rows e next S.t).form next) next env n (omega (arith, room, grown))
            (subst (λ g. Yields S.laws S.inputs S.small S.t S.temps (operand_block (lowered_term rows e next S.t) next) (operand_in (lowered_term rows e next S.t).form next) next env g) is y) (slice_get items n) refl)
            (λ x env' got word at same kept. ih c tail (rows ++ next ∷ []) (next + 1) live s (l ++ x ∷ []) env' serves
            (pushed_fresh S (Read a e) acts c tail rows next live s l env b refl (λ j ok. ok) x env' same kept at word) (omega (arith, room, same))))
