-- A choice of acts, where the acts of its branches and those behind it do what they say. Where a branch never leads on, what follows
-- stands in the other one. Else a variable notes whether a branch led on, and what follows stands behind a test of it.
use Rattle.std.proofs.Common.{◌≡◌, ℕ, zero, suc, ◌+◌, ◌<◌, ◌≤◌, ◌^◌, Bool, true, false, ◌&&◌, List, [], ◌∷◌, ◌++◌, length, refl, sym, ap, ◌∙◌, subst, arith}
use Rattle.std.specs.Prelude.{All, Contains, IsTrue, not, ◌==◌, slice_index, slice_set, None}
use Rattle.std.proofs.lemmas.List.{get_or-set_same, get_or-set_other, length-set}
use Rattle.strm_num.proofs.Truths.{both_true, true_both}
use Rattle.strm_num.specs.Words.{IsWord}
use Rattle.list_denotation.specs.Leaves.{all_leaves}
use Rattle.list_denotation.specs.Literals.{is_word_leaf}
use Rattle.list_denotation.specs.Observation.{Failed}
use Rattle.list_denotation.specs.Scopes.{is_bound}
use Rattle.list_denotation.specs.Terms.{Term}
use Rattle.list_denotation.specs.Typing.{is_undivided}
use Rattle.list_denotation.specs.Values.{Is, choice, value}
use Rattle.loop_ir.specs.Statements as loop
use Rattle.loop_ir.specs.Statements.{Const, Var, Same, Not, Test, Block, join}
use Rattle.loop_ir.specs.Meaning.{test_value}
use Rattle.loop_ir.proofs.Joins.{is_over}
use Rattle.state_alloc.specs.Layouts.{IsWordVariable, IsLaidOut}
use Rattle.expr_forms.specs.Forms.{Condition}
use Rattle.expr_lower.specs.Lowering.{lowered_test}
use Rattle.expr_phrases.specs.Phrases.{set}
use Rattle.stateful_core.specs.Actions.{ActResult, Continue, Skip, Halt, Break, then_run, with_locals}
use Rattle.stateful_core.specs.CoreLeaves.{actions_leaves}
use Rattle.stateful_core.specs.CoreTerms.{When, Actions, Nil, Cons}
use Rattle.stateful_core.specs.WellFormed.{is_sure, are_sound_actions}
use Rattle.stateful_core.specs.WordValues.{or_zero, word_value}
use Rattle.turn_blocks.specs.Pieces.{Piece, Tail, mark, nowhere, behind_scratch, choose}
use Rattle.turn_blocks.specs.TurnBlocks.{is_none, first_leaves, second_leaves, rejoined}
use Rattle.turn_blocks.specs.TurnContract.{Consumer, Fed, Takes, Halts, TurnEnd, Goes, Ends, fed_end, IsIn, Frame, IsStopOf, TakesRow, FeedRuns}
use Rattle.turn_blocks.specs.WordUses.{actions_keep, never_go_on, stays}
use Rattle.turn_blocks.proofs.ActRuns.{AtState, at_more, at_choice, IsOver, never_leads_on, IsSameState, acts_keep}
use Rattle.turn_blocks.proofs.PieceSizes.{picked, acts_grow, scratch_least, nowhere_grows, mark_grows}
use Rattle.turn_blocks.proofs.StateTests.{kept_stays}
use Rattle.turn_blocks.proofs.Values.{Untouched, set_runs, if_runs, IsFit, Told, Tells, condition_tells}
use Rattle.turn_blocks.proofs.WordLists.{all_of, Differs, differs_of, none_of, is_in, in_at, in_word, in_long, still_in}
use Rattle.turn_blocks.proofs.TurnStates.{Setting, is_live, act_end, words_of, mark_layout, more_layout, Course, branch_course, new_state, KeptBut, Reaches, reach_behind, reach_from, if_reaches}
use Rattle.turn_blocks.proofs.TurnSteps.{piece, run_from, Serves, Before, IsTurned, lay, later, fit}
use Rattle.turn_blocks.proofs.TestSteps.{rest_before}
use Rattle.turn_blocks.proofs.UpdateSteps.{goes_on_to}

no_acts : (a : Actions) → is_none a ≡ true → a ≡ Nil
no_acts Nil h = refl
no_acts (Cons a acts) h = absurd cc

-- ---- ends of choices

module _ (c : Consumer) (width : ℕ) (l : List ℕ) (go : List ℕ → List ℕ → ActResult) where
  abbrev rest_end : ActResult → TurnEnd
  rest_end r = act_end c width (then_run (with_locals l r) go)

  when_end : (w : ℕ) (off on : ActResult) → choice w (rest_end off) (rest_end on) ≡ rest_end (choice w off on)
  when_end zero off on = refl
  when_end (suc w) off on = refl

-- who takes nothing: no acts lead on to it
abbrev idle : Consumer → Consumer
idle c = record { vars = c.vars; held = c.held; left = c.left; feed = λ row. Takes [] c.held c.left; stopped = c.stopped }

over_end : (c : Consumer) (width : ℕ) (l : List ℕ) (go : List ℕ → List ℕ → ActResult) (r : ActResult) → IsOver r → act_end (idle c) 0 r ≡ act_end c width (then_run (with_locals l r) go)
over_end c width l go (Continue s m) over = absurd over
over_end c width l go (Skip s) over = refl
over_end c width l go (Halt s) over = refl
over_end c width l go (Break f) over = refl

-- who notes in a variable that the acts led on. At a stop they didn't
abbrev unmarked : Fed → Fed
unmarked (Takes events held left) = Takes events (0 ∷ held) left
unmarked (Halts events standing) = Halts events standing

abbrev marked : Consumer → ℕ → Consumer
marked c v = record { vars = v ∷ c.vars; held = 0 ∷ c.held; left = c.left; feed = λ row. Takes [] (1 ∷ c.held) c.left; stopped = unmarked c.stopped }

mark_end : (c : Consumer) (v : ℕ) (w : ℕ) (off on : ActResult) → choice w (act_end (marked c v) 0 off) (act_end (marked c v) 0 on) ≡ act_end (marked c v) 0 (choice w off on)
mark_end c v zero off on = refl
mark_end c v (suc w) off on = refl

-- what is held behind the mark
held_in : (env vars : List ℕ) (v x : ℕ) (h : List ℕ) → IsIn env (v ∷ vars) (x ∷ h) → IsIn env vars h
held_in env vars v x h both =
    let long = in_long env (v ∷ vars) (x ∷ h) both in
    is_in env vars h (omega (arith, long)) (λ k lt. in_at env (v ∷ vars) (x ∷ h) both (suc k) (omega arith)) (λ k lt. in_word env (v ∷ vars) (x ∷ h) both (suc k) (omega arith))

with_mark : (env vars : List ℕ) (v x : ℕ) (h : List ℕ) → slice_index env v ≡ x → IsWord x → IsIn env vars h → IsIn env (v ∷ vars) (x ∷ h)
with_mark env vars v x h is word held = is_in env (v ∷ vars) (x ∷ h) (omega (arith, in_long env vars h held)) at are
  where
    at : (k : ℕ) → k < length (v ∷ vars) → slice_index env (slice_index (v ∷ vars) k) ≡ slice_index (x ∷ h) k
    at zero lt = is
    at (suc k) lt = in_at env vars h held k (omega arith)

    are : (k : ℕ) → k < length (x ∷ h) → IsWord (slice_index (x ∷ h) k)
    are zero lt = word
    are (suc k) lt = in_word env vars h held k (omega arith)

module _ (S : Setting) where
  abbrev Still : ℕ → List ℕ → List ℕ → Type 0
  Still next env env' = Untouched S.laws S.inputs S.small S.t S.temps next env env'

  idle_serves : (c : Consumer) (tail : Tail) → Serves S c tail → Serves S (idle c) nowhere
  idle_serves c tail serves = record {
    tails = record {
      runs = λ next vars row env lay none long room small scope_in row_in held_in. record { env' = env; runs = refl; same = refl; holds = held_in; kept = λ v lt apart other. refl };
      grows = λ next vars. omega arith;
    };
    stops = idle_stops;
  }
    where
      idle_fed : (frame : Frame) (env : List ℕ) (fed : Fed) → FeedRuns S.inputs frame c S.stop env fed → FeedRuns S.inputs frame (idle c) S.stop env fed
      idle_fed frame env (Takes events held left) h = record { env' = h.env'; runs = h.runs; same = h.same; holds = h.holds; kept = h.kept }
      idle_fed frame env (Halts events standing) h = h

      idle_stops : IsStopOf S.inputs S.t S.temps (idle c) S.stop
      idle_stops next env lay room small held_in = idle_fed (record { first_temp = S.t; temps = S.temps; next = next }) env c.stopped (serves.stops next env lay room small held_in)

  from_idle : (next : ℕ) (c : Consumer) (block : Block) (env : List ℕ) (end : TurnEnd) → Reaches S next (idle c) block env end → Reaches S next c block env end
  from_idle next c block env (Goes events state held left) h = record { env' = h.env'; runs = h.runs; same = h.same; states = h.states; holds = h.holds; kept = h.kept }
  from_idle next c block env (Ends events standing) h = h

  marked_serves : (c : Consumer) (tail : Tail) (v : ℕ) → Differs c.vars v → Serves S c tail → Serves S (marked c v) (mark v)
  marked_serves c tail v apart serves = record { tails = record { runs = runs; grows = λ next vars. omega arith }; stops = stops }
    where
      runs : (next : ℕ) (vars row env : List ℕ) → IsLaidOut ((v ∷ c.vars) ++ (S.scope_vars ++ vars)) S.t S.temps next → All (λ u. ¬ Contains (v ∷ c.vars) u) (S.scope_vars ++ vars) → length vars ≡ 0 → next ≤ length env → length env < 2 ^ 32 → IsIn env S.scope_vars S.scope_words → IsIn env vars row → IsIn env (v ∷ c.vars) (0 ∷ c.held) → TakesRow S.inputs (record { first_temp = S.t; temps = S.temps; next = next }) (marked c v) (set v (Const 1)) env [] (1 ∷ c.held) c.left
      runs next vars row env lay none long room small scope_in row_in held_all =
          let below = (lay.words 0 0 (omega arith)).below in record {
            env' = slice_set env v 1;
            runs = set_runs S.inputs v (Const 1) env 1 c.left refl;
            same = length-set env v 1;
            holds = with_mark (slice_set env v 1) c.vars v 1 c.held (get_or-set_same env v 1 0 (omega (arith, below, room))) (omega arith)
                (still_in env c.vars c.held (held_in env c.vars v 0 c.held held_all) (slice_set env v 1) (λ k lt. get_or-set_other env v (slice_index c.vars k) 1 0 (apart k lt)));
            kept = λ u lt temporary other. get_or-set_other env v u 1 0 (λ e. other (0, omega arith, sym e));
          }

      -- the mark is as it was
      stop_fed : (next : ℕ) (env : List ℕ) (fed : Fed) → IsLaidOut (v ∷ c.vars) S.t S.temps next → IsIn env (v ∷ c.vars) (0 ∷ c.held) → FeedRuns S.inputs (record { first_temp = S.t; temps = S.temps; next = next }) c S.stop env fed → FeedRuns S.inputs (record { first_temp = S.t; temps = S.temps; next = next }) (marked c v) S.stop env (unmarked fed)
      stop_fed next env (Takes events held left) lay held_all h = let first = lay.words 0 0 (omega arith) in record {
        env' = h.env';
        runs = h.runs;
        same = h.same;
        holds = with_mark h.env' c.vars v 0 held (h.kept v first.below first.apart (none_of c.vars v apart) ∙ in_at env (v ∷ c.vars) (0 ∷ c.held) held_all 0 (omega arith)) (omega arith) h.holds;
        kept = λ u lt temporary other. h.kept u lt temporary (none_of c.vars u (later_differs u (differs_of (v ∷ c.vars) u other)));
      }
        where
          later_differs : (u : ℕ) → Differs (v ∷ c.vars) u → Differs c.vars u
          later_differs u differs j lt = differs (suc j) (omega arith)
      stop_fed next env (Halts events standing) lay held_all h = h

      stops : IsStopOf S.inputs S.t S.temps (marked c v) S.stop
      stops next env lay room small held_all =
          stop_fed next env c.stopped lay held_all
          (serves.stops next env (record { few = lay.few; temporaries = lay.temporaries; words = all_of (IsWordVariable S.t S.temps next) c.vars (λ k lt. lay.words (suc k) 0 (omega arith)) }) room small (held_in env c.vars v 0 c.held held_all))

  -- a choice by a condition
  choose_reaches : (c : Condition) (on off : Block) (next first second : ℕ) (k : Consumer) (env : List ℕ) (end_off end_on : TurnEnd) (w : ℕ) → next ≤ first → next ≤ second → Told S.laws S.inputs S.small S.t S.temps c next env w → ((env' : List ℕ) → length env' ≡ length env → Still next env env' → Reaches S first k on env' end_on) → ((env' : List ℕ) → length env' ≡ length env → Still next env env' → Reaches S second k off env' end_off) → Reaches S next k (choose c on off) env (choice w end_off end_on)
  choose_reaches c on off next first second k env end_off end_on zero le most told f g =
      reach_behind S c.block (loop.Cons (loop.If c.test on off) loop.Nil) env told.env' next next k end_off (omega arith) (told.runs k.left) told.same (λ v lt none apart other. told.kept v lt none)
      (if_reaches S c.test on off told.env' next k end_off false told.is (reach_from S off told.env' next second k end_off most (g told.env' told.same told.kept)))
  choose_reaches c on off next first second k env end_off end_on (suc w) le most told f g =
      reach_behind S c.block (loop.Cons (loop.If c.test on off) loop.Nil) env told.env' next next k end_on (omega arith) (told.runs k.left) told.same (λ v lt none apart other. told.kept v lt none)
      (if_reaches S c.test on off told.env' next k end_on true told.is (reach_from S on told.env' next first k end_on le (f told.env' told.same told.kept)))

  module _ (e : Term) (a b acts : Actions) (iha : IsTurned S a) (ihb : IsTurned S b) (ih : IsTurned S acts) (c : Consumer) (tail : Tail) (rows : List ℕ) (next : ℕ) (live : ℕ → Bool) (s l env : List ℕ) (serves : Serves S c tail) (before : Before S (Cons (When e a b) acts) c tail rows next live s l env) where
    abbrev goal_end : ActResult → TurnEnd
    goal_end r = act_end c tail.width (then_run (with_locals l r) (λ t m. run_from S acts t m))

    sound_parts : (IsTrue (is_bound (length rows) e) × IsTrue (is_undivided e)) × (IsTrue (are_sound_actions (length S.state_vars) (length rows) a) × IsTrue (are_sound_actions (length S.state_vars) (length rows) b))
    sound_parts =
        let m = both_true (is_sure (length rows) e && (are_sound_actions (length S.state_vars) (length rows) a && are_sound_actions (length S.state_vars) (length rows) b)) (are_sound_actions (length S.state_vars) (length rows + 0) acts) before.course.sound in
        let n = both_true (is_sure (length rows) e) (are_sound_actions (length S.state_vars) (length rows) a && are_sound_actions (length S.state_vars) (length rows) b) m.0 in
        (both_true (is_bound (length rows) e) (is_undivided e) n.0, both_true (are_sound_actions (length S.state_vars) (length rows) a) (are_sound_actions (length S.state_vars) (length rows) b) n.1)

    leaf_parts : (test : Term → Bool) → IsTrue (actions_leaves test (Cons (When e a b) acts)) → IsTrue (all_leaves test e) × (IsTrue (actions_leaves test a) × IsTrue (actions_leaves test b))
    leaf_parts test is =
        let m = both_true (all_leaves test e && (actions_leaves test a && actions_leaves test b)) (actions_leaves test acts) is in
        let n = both_true (all_leaves test e) (actions_leaves test a && actions_leaves test b) m.0 in
        (n.0, both_true (actions_leaves test a) (actions_leaves test b) n.1)

    stay_parts : (j : ℕ) → IsTrue (stays S.scope (length S.state_vars) j (Cons (When e a b) acts)) → IsTrue (actions_keep j 1 a) × (IsTrue (actions_keep j 1 b) × IsTrue (stays S.scope (length S.state_vars) j acts))
    stay_parts j is =
        let m = both_true (actions_keep j 1 a) (actions_keep j 1 b && stays S.scope (length S.state_vars) j acts) is in
        (m.0, both_true (actions_keep j 1 b) (stays S.scope (length S.state_vars) j acts) m.1)

    fits : IsFit S.laws S.inputs S.small S.t S.temps rows (is_live live) e
    fits = let few = before.course.few in fit S rows live e sound_parts.0.0 (leaf_parts is_word_leaf before.course.numbers).0 (omega (arith, few)) (leaf_parts (is_live live) before.course.reads).0

    word : (w : ℕ) × (value e (words_of S s l) S.inputs ≡ Is w)
    word = S.laws.undivided_value (words_of S s l) S.inputs e sound_parts.0.1

    course_a : Course S a rows live 0
    course_a = let few = before.course.few in
        branch_course S (Cons (When e a b) acts) a rows live tail.width before.course before.layout.deep sound_parts.1.0 (leaf_parts is_word_leaf before.course.numbers).1.0 (omega (arith, few)) (leaf_parts (is_live live) before.course.reads).1.0
        (λ j is. kept_stays S.scope (length S.state_vars) j a (stay_parts j is).0)

    course_b : Course S b rows live 0
    course_b = let few = before.course.few in
        branch_course S (Cons (When e a b) acts) b rows live tail.width before.course before.layout.deep sound_parts.1.1 (leaf_parts is_word_leaf before.course.numbers).1.1 (omega (arith, few)) (leaf_parts (is_live live) before.course.reads).1.1
        (λ j is. kept_stays S.scope (length S.state_vars) j b (stay_parts j is).1.0)

    before_rest : Before S acts c tail rows next live s l env
    before_rest = rest_before S (When e a b) acts c tail rows next live s l env before refl (λ j is. (stay_parts j is).1.1)

    -- the condition, with this scratch variable
    tells_at : (n : ℕ) (env1 : List ℕ) → next ≤ n → length env1 ≡ length env → Still next env env1 → behind_scratch (lowered_test rows e n S.t) n ≤ length env1 → Told S.laws S.inputs S.small S.t S.temps (lowered_test rows e n S.t) n env1 word.0
    tells_at n env1 le same kept room =
        let now = later S acts c tail rows next live s l env before_rest n env1 le same kept in
        let one = scratch_least (lowered_test rows e n S.t) n in
        subst (Tells S.laws S.inputs S.small S.t S.temps (lowered_test rows e n S.t) n env1) word.1
        (condition_tells S.laws S.inputs S.small S.t S.temps rows (words_of S s l) (is_live live) e fits n env1 (lay S acts c tail rows n live s l env1 now (omega (arith, one, room))) now.stands.in_place (omega (arith, one, room)) room)

    -- ---- one branch leads nowhere

    abbrev C : Condition
    C = lowered_test rows e next S.t

    abbrev start : ℕ
    start = behind_scratch (lowered_test rows e next S.t) next

    nowhere_before : (d : Actions) → Course S d rows live 0 → Before S d (idle c) nowhere rows next live s l env
    nowhere_before d course = record { layout = before.layout; course = course; stands = before.stands; holds = before.holds; small = before.small }

    nowhere_reaches : (d : Actions) → IsTurned S d → Course S d rows live 0 → IsTrue (never_go_on d) → (piece S nowhere None d rows start).next ≤ length env → (env1 : List ℕ) → length env1 ≡ length env → Still next env env1 → Reaches S start c (piece S nowhere None d rows start).block env1 (goal_end (run_from S d s l))
    nowhere_reaches d ihd course never room env1 same kept =
        subst (Reaches S start c (piece S nowhere None d rows start).block env1)
        (over_end c tail.width l (λ t m. run_from S acts t m) (run_from S d s l) (never_leads_on S.scope_words S.inputs d s l never))
        (from_idle start c (piece S nowhere None d rows start).block env1 (act_end (idle c) 0 (run_from S d s l)) (ihd (idle c) nowhere rows start live s l env1 (idle_serves c tail serves)
        (later S d (idle c) nowhere rows next live s l env (nowhere_before d course) start env1 (scratch_least C next) same kept) (omega (arith, room, same))))

    rest_reaches : (n : ℕ) → next ≤ n → (piece S tail None acts rows n).next ≤ length env → (d : Actions) → d ≡ Nil → (env1 : List ℕ) → length env1 ≡ length env → Still next env env1 → Reaches S n c (piece S tail None acts rows n).block env1 (goal_end (run_from S d s l))
    rest_reaches n le room d none env1 same kept =
        subst (λ z. Reaches S n c (piece S tail None acts rows n).block env1 (goal_end (run_from S z s l))) (sym none)
        (ih c tail rows n live s l env1 serves (later S acts c tail rows next live s l env before_rest n env1 le same kept) (omega (arith, room, same)))

    by_word : (block : Block) → Reaches S next c block env (choice word.0 (goal_end (run_from S b s l)) (goal_end (run_from S a s l))) → Reaches S next c block env (goal_end (choice (word_value e (words_of S s l) S.inputs) (run_from S b s l) (run_from S a s l)))
    by_word block r =
        subst (Reaches S next c block env) (when_end c tail.width l (λ t m. run_from S acts t m) word.0 (run_from S b s l) (run_from S a s l) ∙ ap (λ g. goal_end (choice (or_zero g) (run_from S b s l) (run_from S a s l))) (sym word.1)) r

    grows : (row : List ℕ) (n : ℕ) → n ≤ (tail.piece row n).next
    grows row n = serves.tails.grows n row

    first_reaches : is_none b ≡ true → IsTrue (never_go_on a) → (first_leaves C (piece S nowhere None a rows start) (λ n. piece S tail None acts rows n)).next ≤ length env → Reaches S next c (first_leaves C (piece S nowhere None a rows start) (λ n. piece S tail None acts rows n)).block env (goal_end (choice (word_value e (words_of S s l) S.inputs) (run_from S b s l) (run_from S a s l)))
    first_reaches none never room =
        let one = scratch_least C next in
        let two = acts_grow S.scope (length S.state_vars) S.t S.stop nowhere None a rows start nowhere_grows in
        let three = acts_grow S.scope (length S.state_vars) S.t S.stop tail None acts rows (piece S nowhere None a rows start).next grows in
        by_word (choose C (piece S nowhere None a rows start).block (piece S tail None acts rows (piece S nowhere None a rows start).next).block)
        (choose_reaches C (piece S nowhere None a rows start).block (piece S tail None acts rows (piece S nowhere None a rows start).next).block next start (piece S nowhere None a rows start).next c env
        (goal_end (run_from S b s l)) (goal_end (run_from S a s l)) word.0 one (omega (arith, one, two))
        (tells_at next env (omega arith) refl (λ v lt apart. refl) (omega (arith, two, three, room)))
        (nowhere_reaches a iha course_a never (omega (arith, three, room)))
        (rest_reaches (piece S nowhere None a rows start).next (omega (arith, one, two)) room b (no_acts b none)))

    second_reaches : is_none a ≡ true → IsTrue (never_go_on b) → (second_leaves C (piece S nowhere None b rows start) (λ n. piece S tail None acts rows n)).next ≤ length env → Reaches S next c (second_leaves C (piece S nowhere None b rows start) (λ n. piece S tail None acts rows n)).block env (goal_end (choice (word_value e (words_of S s l) S.inputs) (run_from S b s l) (run_from S a s l)))
    second_reaches none never room =
        let one = scratch_least C next in
        let two = acts_grow S.scope (length S.state_vars) S.t S.stop nowhere None b rows start nowhere_grows in
        let three = acts_grow S.scope (length S.state_vars) S.t S.stop tail None acts rows (piece S nowhere None b rows start).next grows in
        by_word (choose C (piece S tail None acts rows (piece S nowhere None b rows start).next).block (piece S nowhere None b rows start).block)
        (choose_reaches C (piece S tail None acts rows (piece S nowhere None b rows start).next).block (piece S nowhere None b rows start).block next (piece S nowhere None b rows start).next start c env
        (goal_end (run_from S b s l)) (goal_end (run_from S a s l)) word.0 (omega (arith, one, two)) one
        (tells_at next env (omega arith) refl (λ v lt apart. refl) (omega (arith, two, three, room)))
        (rest_reaches (piece S nowhere None b rows start).next (omega (arith, one, two)) room a (no_acts a none))
        (nowhere_reaches b ihb course_b never (omega (arith, three, room))))

    -- ---- both may lead on

    abbrev D : Condition
    D = lowered_test rows e (next + 1) S.t

    abbrev on : Piece
    on = piece S (mark next) None a rows (behind_scratch (lowered_test rows e (next + 1) S.t) (next + 1))

    abbrev off : Piece
    off = piece S (mark next) None b rows on.next

    abbrev rest : Piece
    rest = piece S tail None acts rows off.next

    abbrev led_on : Test
    led_on = Not (Same (Var next) (Const 0))

    module _ (room : rest.next ≤ length env) where
      at_scratch : next + 1 ≤ behind_scratch D (next + 1)
      at_scratch = scratch_least D (next + 1)

      at_on : behind_scratch D (next + 1) ≤ on.next
      at_on = acts_grow S.scope (length S.state_vars) S.t S.stop (mark next) None a rows (behind_scratch D (next + 1)) (mark_grows next)

      at_off : on.next ≤ off.next
      at_off = acts_grow S.scope (length S.state_vars) S.t S.stop (mark next) None b rows on.next (mark_grows next)

      at_rest : off.next ≤ rest.next
      at_rest = acts_grow S.scope (length S.state_vars) S.t S.stop tail None acts rows off.next grows

      abbrev env0 : List ℕ
      env0 = slice_set env next 0

      same0 : length env0 ≡ length env
      same0 = length-set env next 0

      kept0 : Still next env env0
      kept0 v lt none = get_or-set_other env next v 0 0 (λ e. omega (arith, lt, e))

      fresh : Differs c.vars next
      fresh j lt = let v = (before.layout.held_given j lt).below in λ e. omega (arith, v, e)

      now : Before S acts c tail rows next live s l env0
      now = later S acts c tail rows next live s l env before_rest next env0 (omega arith) same0 kept0

      marked_before : (d : Actions) → Course S d rows live 0 → Before S d (marked c next) (mark next) rows (next + 1) live s l env0
      marked_before d course = record {
        layout = mark_layout S rows next c.vars before.layout;
        course = course;
        stands = now.stands;
        holds = with_mark env0 c.vars next 0 c.held (get_or-set_same env next 0 0 (omega (arith, room, at_rest, at_off, at_on, at_scratch))) (omega arith) now.holds;
        small = now.small;
      }

      branch : (d : Actions) → IsTurned S d → Course S d rows live 0 → (n : ℕ) → next + 1 ≤ n → (piece S (mark next) None d rows n).next ≤ length env0 → (env1 : List ℕ) → length env1 ≡ length env0 → Still (next + 1) env0 env1 → Reaches S n (marked c next) (piece S (mark next) None d rows n).block env1 (act_end (marked c next) 0 (run_from S d s l))
      branch d ihd course n le most env1 same kept =
          ihd (marked c next) (mark next) rows n live s l env1 (marked_serves c tail next fresh serves)
          (later S d (marked c next) (mark next) rows (next + 1) live s l env0 (marked_before d course) n env1 le same kept) (omega (arith, most, same))

      abbrev both : Block
      both = choose D on.block off.block

      abbrev result : ActResult
      result = choice word.0 (run_from S b s l) (run_from S a s l)

      branches : Reaches S (next + 1) (marked c next) both env0 (act_end (marked c next) 0 result)
      branches =
          subst (Reaches S (next + 1) (marked c next) both env0) (mark_end c next word.0 (run_from S b s l) (run_from S a s l))
          (choose_reaches D on.block off.block (next + 1) (behind_scratch D (next + 1)) on.next (marked c next) env0
          (act_end (marked c next) 0 (run_from S b s l)) (act_end (marked c next) 0 (run_from S a s l)) word.0 at_scratch (omega (arith, at_scratch, at_on))
          (tells_at (next + 1) env0 (omega arith) same0 kept0 (omega (arith, same0, room, at_rest, at_off, at_on)))
          (branch a iha course_a (behind_scratch D (next + 1)) at_scratch (omega (arith, same0, room, at_rest, at_off)))
          (branch b ihb course_b on.next (omega (arith, at_scratch, at_on)) (omega (arith, same0, room, at_rest))))

      -- the words of the state that both branches keep are the same
      abbrev Kept : List ℕ → Type 0
      Kept t = IsSameState S.scope_words S.inputs (λ j. actions_keep j 1 a && actions_keep j 1 b) s t

      result_kept : AtState Kept result
      result_kept =
          at_choice Kept word.0 (run_from S b s l) (run_from S a s l)
          (at_more (IsSameState S.scope_words S.inputs (λ j. actions_keep j 1 b) s) Kept (run_from S b s l) (λ t k. record { long = k.long; words = λ j is. k.words j (both_true (actions_keep j 1 a) (actions_keep j 1 b) is).1 }) (acts_keep S.scope_words S.inputs b s l))
          (at_more (IsSameState S.scope_words S.inputs (λ j. actions_keep j 1 a) s) Kept (run_from S a s l) (λ t k. record { long = k.long; words = λ j is. k.words j (both_true (actions_keep j 1 a) (actions_keep j 1 b) is).0 }) (acts_keep S.scope_words S.inputs a s l))

      abbrev If : Block
      If = loop.Cons (loop.If led_on rest.block loop.Nil) loop.Nil

      marked_kept : (env1 : List ℕ) → KeptBut S (next + 1) (next ∷ c.vars) env0 env1 → KeptBut S next c.vars env0 env1
      marked_kept env1 kept v lt none apart other = kept v (omega (arith, lt)) none apart (others v lt other)
        where
          others : (v : ℕ) → v < next → Differs c.vars v → Differs (next ∷ c.vars) v
          others v lt other zero less = λ e. omega (arith, lt, e)
          others v lt other (suc j) less = other j (omega arith)

      test_is : (env1 : List ℕ) (x : ℕ) (rest : List ℕ) → IsIn env1 (next ∷ c.vars) (x ∷ rest) → test_value S.inputs led_on env1 ≡ Is (not (x == 0))
      test_is env1 x rest holds = ap (λ y. Is (not (y == 0))) (in_at env1 (next ∷ c.vars) (x ∷ rest) holds 0 (omega arith))

      -- where the branches didn't lead on, nothing follows
      quits : (fed : Fed) (t : List ℕ) → Reaches S (next + 1) (marked c next) both env0 (fed_end t (unmarked fed)) → Reaches S next c (join both If) env0 (fed_end t fed)
      quits (Takes events held left) t reach = record {
        env' = reach.env';
        runs = goes_on_to S both If events env0 reach.env' reach.env' c.left left reach.runs (if_runs S.inputs led_on rest.block loop.Nil reach.env' left false (test_is reach.env' 0 held reach.holds));
        same = reach.same;
        states = reach.states;
        holds = held_in reach.env' c.vars next 0 held reach.holds;
        kept = marked_kept reach.env' reach.kept;
      }
      quits (Halts events standing) t reach = is_over S.inputs both If events standing env0 c.left reach

      finish : (r : ActResult) → Reaches S (next + 1) (marked c next) both env0 (act_end (marked c next) 0 r) → AtState Kept r → Reaches S next c (join both If) env0 (goal_end r)
      finish (Continue t m) reach kept =
          reach_behind S both If env0 reach.env' next next c (act_end c tail.width (run_from S acts t l)) (omega arith) reach.runs reach.same (marked_kept reach.env' reach.kept)
          (if_reaches S led_on rest.block loop.Nil reach.env' next c (act_end c tail.width (run_from S acts t l)) true (test_is reach.env' 1 c.held reach.holds)
          (reach_from S rest.block reach.env' next off.next c (act_end c tail.width (run_from S acts t l)) (omega (arith, at_off, at_on, at_scratch))
          (ih c tail rows off.next live t l reach.env' serves behind (omega (arith, room, same0, reach.same)))))
        where
          behind : Before S acts c tail rows off.next live t l reach.env'
          behind = let small = now.small in record {
            layout = more_layout S rows next off.next c.vars (omega (arith, at_off, at_on, at_scratch)) before.layout;
            course = before_rest.course;
            stands = new_state S rows next c.vars live s l env0 t reach.env' before.layout before.course.old_live now.stands reach.states (marked_kept reach.env' reach.kept)
                (λ k low lt is j less e. let parts = stay_parts j (before.course.alias k low lt is j less e) in kept.words j (true_both (actions_keep j 1 a) (actions_keep j 1 b) parts.0 parts.1.0));
            holds = held_in reach.env' c.vars next 1 c.held reach.holds;
            small = omega (arith, small, reach.same);
          }
      finish (Skip t) reach kept = quits (Takes [] c.held c.left) t reach
      finish (Halt t) reach kept = quits c.stopped t reach
      finish (Break f) reach kept = is_over S.inputs both If [] (Failed f) env0 c.left reach

      rejoined_reaches : Reaches S next c (rejoined next D on off rest).block env (goal_end (choice (word_value e (words_of S s l) S.inputs) (run_from S b s l) (run_from S a s l)))
      rejoined_reaches =
          subst (λ g. Reaches S next c (rejoined next D on off rest).block env (goal_end (choice (or_zero g) (run_from S b s l) (run_from S a s l)))) (sym word.1)
          (reach_behind S (set next (Const 0)) (join both If) env env0 next next c (goal_end result) (omega arith) (set_runs S.inputs next (Const 0) env 0 c.left refl) same0 (λ v lt none apart other. kept0 v lt none)
          (finish result branches result_kept))

  pub when_turned : (e : Term) (a b acts : Actions) → IsTurned S a → IsTurned S b → IsTurned S acts → IsTurned S (Cons (When e a b) acts)
  when_turned e a b acts iha ihb ih c tail rows next live s l env serves before room =
      picked (is_none b && never_go_on a) (is_none a && never_go_on b) _ _ _
      (λ p. p.next ≤ length env → Reaches S next c p.block env (act_end c tail.width (run_from S (Cons (When e a b) acts) s l)))
      (λ is most. let p = both_true (is_none b) (never_go_on a) is in first_reaches e a b acts iha ihb ih c tail rows next live s l env serves before p.0 p.1 most)
      (λ no is most. let p = both_true (is_none a) (never_go_on b) is in second_reaches e a b acts iha ihb ih c tail rows next live s l env serves before p.0 p.1 most)
      (λ no other most. rejoined_reaches e a b acts iha ihb ih c tail rows next live s l env serves before most)
      room
