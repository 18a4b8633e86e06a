-- The statements of a turn do what the turn does, and then with its row what is done with rows.
use Rattle.std.proofs.Common.{◌≡◌, ℕ, ◌+◌, ◌-◌, ◌<◌, ◌≤◌, ◌^◌, Bool, true, List, [], ◌∷◌, ◌++◌, length, refl, sym, ap, ◌∙◌, subst, inl, inr, arith, length-append, append-nil}
use Rattle.std.specs.Prelude.{IsTrue, slice_index, None}
use Rattle.std.proofs.lemmas.Bool.{cases_lt}
use Rattle.std.proofs.lemmas.List.{drop_at}
use Rattle.strm_num.proofs.Truths.{both_true, true_both}
use Rattle.strm_num.specs.Words.{IsWord}
use Rattle.list_denotation.specs.declared.input.Input.{Input}
use Rattle.list_denotation.specs.Literals.{is_word_leaf}
use Rattle.list_denotation.specs.Leaves.{all_leaves}
use Rattle.list_denotation.specs.Scopes.{is_bound, all_bound}
use Rattle.list_denotation.specs.Terms.{Term, Var}
use Rattle.list_denotation.specs.Typing.{all_undivided}
use Rattle.loop_ir.specs.Statements.{Block}
use Rattle.state_alloc.specs.Layouts.{IsTemporary}
use Rattle.expr_lower.specs.Scopes.{IsInVariable}
use Rattle.stateful_core.specs.Actions.{ActResult, Continue, Skip, Halt, Break, then_run, run_acts}
use Rattle.stateful_core.specs.CoreLeaves.{row_leaves, action_leaves, actions_leaves}
use Rattle.stateful_core.specs.CoreRows.{turn_end, core_turn}
use Rattle.stateful_core.specs.CoreShapes.{action_locals, actions_locals}
use Rattle.stateful_core.specs.CoreTerms.{Let, Read, KeepIf, StopUnless, Update, When, Actions, Nil, Cons, join}
use Rattle.stateful_core.specs.StreamCores.{let_all}
use Rattle.stateful_core.specs.WellFormed.{is_sound_action, are_sound_actions}
use Rattle.stateful_core.specs.WordValues.{word_values}
use Rattle.turn_blocks.specs.Laws.{Laws}
use Rattle.turn_blocks.specs.Pieces.{Tail, last}
use Rattle.turn_blocks.specs.Temporaries.{row_temps, acts_temps}
use Rattle.turn_blocks.specs.TurnBlocks.{acts_piece, turn_acts}
use Rattle.turn_blocks.specs.TurnContract.{Consumer, TurnEnd, Goes, Ends, fed_end, come_to, turn_end_of, IsIn, HasWordInputs, Frame, IsTailOf, IsStopOf, TurnRuns, IsTurnLayout, IsTurn}
use Rattle.turn_blocks.specs.WordUses.{actions_keep}
use Rattle.turn_blocks.proofs.ActRuns.{AtState, HasLocals, IsSameState, length_values, acts_keep, acts_grow, run_joined, run_lets}
use Rattle.turn_blocks.proofs.LeafTests.{acts_of_both}
use Rattle.turn_blocks.proofs.WordLists.{Differs, differs_of, differs_left, differs_right, in_at, in_word, in_long, length_words, scope_word, state_word, local_word}
use Rattle.turn_blocks.proofs.TurnStates.{Setting, is_live, act_end, words_of, scope_at_word, state_at_word, local_at_word, Layout, Course, Reaches}
use Rattle.turn_blocks.proofs.TurnSteps.{piece, run_from, Before, IsTurned, nil_turned, let_turned}
use Rattle.turn_blocks.proofs.TestSteps.{RestTurned, keep_turned, stop_turned, held_turned, read_turned, wider}
use Rattle.turn_blocks.proofs.UpdateSteps.{update_turned}
use Rattle.turn_blocks.proofs.WhenSteps.{when_turned}

-- ---- all acts

module _ (S : Setting) where
  turned : (acts : Actions) → IsTurned S acts × RestTurned S acts
  turned Nil = (nil_turned S, tt)
  turned (Cons (Let e) acts) = let r = turned acts in (let_turned S e acts r.0 (held_turned S acts r.1), r.0)
  turned (Cons (Read a e) acts) = let r = turned acts in (read_turned S a e acts r.0, r.0)
  turned (Cons (KeepIf e) acts) = let r = turned acts in (keep_turned S e acts r.0, r.0)
  turned (Cons (StopUnless e) acts) = let r = turned acts in (stop_turned S e acts r.0, r.0)
  turned (Cons (Update k es) acts) = let r = turned acts in (update_turned S k es acts r.0, r.0)
  turned (Cons (When e a b) acts) = let r = turned acts in (when_turned S e a b acts (turned a).0 (turned b).0 r.0, r.0)

  turn_runs : (frame : Frame) (c : Consumer) (block : Block) (env : List ℕ) (end : TurnEnd) → Reaches S frame.next c block env end → ((v : ℕ) → ¬ IsTemporary frame.first_temp frame.temps v → ¬ IsTemporary S.t S.temps v) → TurnRuns S.inputs frame c S.state_vars block env end
  turn_runs frame c block env (Goes events state held left) h same = record {
    env' = h.env';
    runs = h.runs;
    same = h.same;
    states = h.states;
    holds = h.holds;
    kept = λ v lt none other. let d = differs_of (S.state_vars ++ c.vars) v other in h.kept v lt (same v none) (differs_left S.state_vars c.vars v d) (differs_right S.state_vars c.vars v d);
  }
  turn_runs frame c block env (Ends events standing) h same = h

-- ---- the acts of a turn, and the local words of its row

pub joined_locals : (acts : Actions) (es : List Term) → actions_locals (join acts (let_all es Nil)) ≡ actions_locals acts + length es
joined_locals Nil [] = omega arith
joined_locals Nil (e ∷ es) = let h = joined_locals Nil es in omega (arith, h)
joined_locals (Cons a acts) es = let h = joined_locals acts es in omega (arith, h)

lets_sound : (m n k : ℕ) (es : List Term) → k ≤ n → IsTrue (all_bound k es) → IsTrue (are_sound_actions m n (let_all es Nil))
lets_sound m n k [] le h = refl
lets_sound m n k (e ∷ es) le h =
    let p = both_true (is_bound k e) (all_bound k es) h in
    true_both (is_bound n e) (are_sound_actions m (n + 1) (let_all es Nil)) (wider k n le e p.0) (lets_sound m (n + 1) k es (omega (arith, le)) p.1)

pub joined_sound : (m n : ℕ) (acts : Actions) (es : List Term) → IsTrue (are_sound_actions m n acts) → IsTrue (all_bound (n + actions_locals acts) es) → IsTrue (are_sound_actions m n (join acts (let_all es Nil)))
joined_sound m n Nil es h b = lets_sound m n (n + 0) es (omega arith) b
joined_sound m n (Cons a acts) es h b =
    let p = both_true (is_sound_action m n a) (are_sound_actions m (n + action_locals a) acts) h in
    let q : n + (action_locals a + actions_locals acts) ≡ n + action_locals a + actions_locals acts = omega arith in
    true_both (is_sound_action m n a) (are_sound_actions m (n + action_locals a) (join acts (let_all es Nil))) p.0
    (joined_sound m (n + action_locals a) acts es p.1 (subst (λ k. IsTrue (all_bound k es)) q b))

lets_leaves : (test : Term → Bool) (es : List Term) → IsTrue (row_leaves test es) → IsTrue (actions_leaves test (let_all es Nil))
lets_leaves test [] h = refl
lets_leaves test (e ∷ es) h =
    let p = both_true (all_leaves test e) (row_leaves test es) h in
    true_both (all_leaves test e) (actions_leaves test (let_all es Nil)) p.0 (lets_leaves test es p.1)

pub joined_leaves : (test : Term → Bool) (acts : Actions) (es : List Term) → IsTrue (actions_leaves test acts) → IsTrue (row_leaves test es) → IsTrue (actions_leaves test (join acts (let_all es Nil)))
joined_leaves test Nil es h k = lets_leaves test es k
joined_leaves test (Cons a acts) es h k =
    let p = both_true (action_leaves test a) (actions_leaves test acts) h in
    true_both (action_leaves test a) (actions_leaves test (join acts (let_all es Nil))) p.0 (joined_leaves test acts es p.1 k)

lets_temps : (n : ℕ) (es : List Term) → row_temps es ≤ n → acts_temps (let_all es Nil) ≤ n
lets_temps n [] h = omega arith
lets_temps n (e ∷ es) h = let more = lets_temps n es (omega (arith, h)) in omega (arith, h, more)

pub joined_temps : (n : ℕ) (acts : Actions) (es : List Term) → acts_temps acts ≤ n → row_temps es ≤ n → acts_temps (join acts (let_all es Nil)) ≤ n
joined_temps n Nil es h k = lets_temps n es k
joined_temps n (Cons a acts) es h k = let more = joined_temps n acts es (omega (arith, h)) k in omega (arith, h, more)

each_live : (x : Term) → IsTrue (is_word_leaf x) → IsTrue (is_word_leaf x) → IsTrue (is_live (λ k. true) x)
each_live (Var k) h again = refl
each_live _ h again = refl

last_words : (m row : List ℕ) (width : ℕ) → width ≡ length row → last width (m ++ row) ≡ row
last_words m row width h = drop_at m row (length (m ++ row) - width) (omega (arith, length-append m row, h))

-- ---- the whole turn

module _ (laws : Laws) (inputs : List Input) (scope_words : List ℕ) (c : Consumer) (width : ℕ) (acts : Actions) (item : List Term) (state row : List ℕ) where
  -- the row of a turn is its last local words
  row_end : width ≡ length item → IsTrue (all_bound (length scope_words + length state + length row + actions_locals acts) item) → IsTrue (all_undivided item) → act_end c width (run_acts (turn_acts acts item) scope_words inputs state row) ≡ turn_end_of c (come_to (run_acts acts scope_words inputs state row)) (core_turn acts item scope_words inputs state row)
  row_end long bound undivided =
      ap (act_end c width) (run_joined scope_words inputs acts (let_all item Nil) state row)
      ∙ by_result (run_acts acts scope_words inputs state row) (acts_keep scope_words inputs acts state row) (acts_grow scope_words inputs acts state row)
    where
      by_result : (r : ActResult) → AtState (IsSameState scope_words inputs (λ j. actions_keep j 1 acts) state) r → HasLocals (length row + actions_locals acts) r → act_end c width (then_run r (λ t m. run_acts (let_all item Nil) scope_words inputs t m)) ≡ turn_end_of c (come_to r) (turn_end r (λ t m. word_values item (scope_words ++ (t ++ m)) inputs))
      by_result (Continue t m) same locals =
          let n : length scope_words + length state + length row + actions_locals acts ≡ length (scope_words ++ (t ++ m)) = omega (arith, length_words scope_words t m, same.long, locals) in
          let made : List ℕ = word_values item (scope_words ++ (t ++ m)) inputs in
          ap (λ z. act_end c width (run_acts (let_all item Nil) scope_words inputs t z)) (sym (append-nil m))
          ∙ (ap (act_end c width) (run_lets scope_words inputs laws t m item [] (subst (λ k. IsTrue (all_bound k item)) n bound) undivided)
          ∙ ap (λ z. fed_end t (c.feed z)) (last_words m made width (long ∙ sym (length_values scope_words inputs item (scope_words ++ (t ++ m))))))
      by_result (Skip t) same locals = refl
      by_result (Halt t) same locals = refl
      by_result (Break f) same locals = refl

module _ (laws : Laws) (frame : Frame) (scope_vars state_vars row_vars : List ℕ) (c : Consumer) (tail : Tail) (stop : Block) (acts : Actions) (item : List Term) (inputs : List Input) (scope_words state row env : List ℕ) where
  pub turn_lowered : IsTurnLayout frame scope_vars state_vars row_vars c.vars → IsTurn (length scope_vars) (length state_vars) (length row_vars) frame.temps acts item → IsTailOf inputs frame.first_temp frame.temps scope_vars scope_words c tail → tail.width ≡ length item → IsStopOf inputs frame.first_temp frame.temps c stop → HasWordInputs inputs → IsIn env scope_vars scope_words → IsIn env state_vars state → IsIn env row_vars row → IsIn env c.vars c.held → (acts_piece (length scope_vars) (length state_vars) frame.first_temp stop tail None (turn_acts acts item) (scope_vars ++ (state_vars ++ row_vars)) frame.next).next ≤ length env → length env < 2 ^ 32 → TurnRuns inputs frame c state_vars (acts_piece (length scope_vars) (length state_vars) frame.first_temp stop tail None (turn_acts acts item) (scope_vars ++ (state_vars ++ row_vars)) frame.next).block env (turn_end_of c (come_to (run_acts acts scope_words inputs state row)) (core_turn acts item scope_words inputs state row))
  turn_lowered lay turn tails wide stops small scope_in state_in row_in held_in room few =
      subst (TurnRuns inputs frame c state_vars (piece S tail None (turn_acts acts item) rows frame.next).block env)
      (row_end laws inputs scope_words c tail.width acts item state row wide bound item_sure.1)
      (turn_runs S frame c (piece S tail None (turn_acts acts item) rows frame.next).block env (act_end c tail.width (run_from S (turn_acts acts item) state row))
      ((turned S (turn_acts acts item)).0 c tail rows frame.next (λ k. true) state row env (record { tails = tails; stops = stops }) before room) (λ v none. none))
    where
      S : Setting
      S = record {
        laws = laws;
        inputs = inputs;
        small = small;
        scope = length scope_vars;
        scope_vars = scope_vars;
        t = frame.first_temp;
        temps = frame.temps;
        scope_words = scope_words;
        state_vars = state_vars;
        stop = stop;
        scope_long = in_long env scope_vars scope_words scope_in;
        scope_wide = refl;
        differ = lay.states_differ;
      }

      rows : List ℕ
      rows = scope_vars ++ (state_vars ++ row_vars)

      long : length (scope_vars ++ (state_vars ++ row_vars)) ≡ length scope_vars + length state_vars + length row_vars
      long = omega (arith, length_words scope_vars state_vars row_vars)

      item_sure : IsTrue (all_bound (length scope_vars + length state_vars + length row_vars + actions_locals acts) item) × IsTrue (all_undivided item)
      item_sure = both_true (all_bound (length scope_vars + length state_vars + length row_vars + actions_locals acts) item) (all_undivided item) turn.item_sound

      bound : IsTrue (all_bound (length scope_words + length state + length row + actions_locals acts) item)
      bound =
          let n : length scope_vars + length state_vars + length row_vars + actions_locals acts ≡ length scope_words + length state + length row + actions_locals acts = omega (arith, in_long env scope_vars scope_words scope_in, in_long env state_vars state state_in, in_long env row_vars row row_in) in
          subst (λ k. IsTrue (all_bound k item)) n item_sure.0

      layout : Layout S (scope_vars ++ (state_vars ++ row_vars)) frame.next c.vars
      layout = record {
        given = λ k lt. lay.laid_out.words k 0 lt;
        temps_below = lay.laid_out.temporaries;
        deep = omega (arith, long);
        at_scope = λ k lt. scope_word scope_vars state_vars row_vars k lt;
        at_states = λ j lt. state_word scope_vars state_vars row_vars j lt;
        scope_apart = λ k lt. subst (Differs state_vars) (sym (scope_word scope_vars state_vars row_vars k lt)) (differs_of state_vars (slice_index scope_vars k) (lay.scope_differs k 0 lt));
        held_given = λ i lt. lay.held_given i 0 lt;
        held_apart = λ k lt j less e. differs_of (scope_vars ++ (state_vars ++ row_vars)) (slice_index c.vars j) (lay.held_differs j 0 less) k lt (sym e);
      }

      row_apart : (k : ℕ) → length scope_vars + length state_vars ≤ k → k < length scope_vars + length state_vars + length row_vars → (j : ℕ) → j < length state_vars → slice_index state_vars j ≡ slice_index (scope_vars ++ (state_vars ++ row_vars)) k → ⊥
      row_apart k low lt j less e = at (k - (length scope_vars + length state_vars)) (omega (arith, low)) (omega (arith, low, lt))
        where
          at : (i : ℕ) → k ≡ length scope_vars + (length state_vars + i) → i < length row_vars → ⊥
          at i q within =
              differs_of state_vars (slice_index row_vars i) (lay.row_differs i 0 within) j less
              (e ∙ (ap (slice_index (scope_vars ++ (state_vars ++ row_vars))) q ∙ local_word scope_vars state_vars row_vars i))

      course : Course S (turn_acts acts item) (scope_vars ++ (state_vars ++ row_vars)) (λ k. true) tail.width
      course = record {
        sound = subst (λ n. IsTrue (are_sound_actions (length state_vars) n (turn_acts acts item))) (sym long) (joined_sound (length state_vars) (length scope_vars + length state_vars + length row_vars) acts item turn.acts_sound item_sure.0);
        numbers = joined_leaves is_word_leaf acts item turn.acts_words turn.item_words;
        few = joined_temps frame.temps acts item turn.acts_few turn.item_few;
        reads = acts_of_both is_word_leaf is_word_leaf (is_live (λ k. true)) each_live (turn_acts acts item) (joined_leaves is_word_leaf acts item turn.acts_words turn.item_words) (joined_leaves is_word_leaf acts item turn.acts_words turn.item_words);
        old_live = λ k lt. refl;
        new_live = λ k le. refl;
        taken_live = λ k le. refl;
        wide = omega (arith, long, wide, joined_locals acts item);
        alias = λ k low lt is j less e. absurd (row_apart k low (omega (arith, lt, long)) j less (sym e));
      }

      place : (k : ℕ) → k < length (scope_vars ++ (state_vars ++ row_vars)) → IsInVariable (scope_vars ++ (state_vars ++ row_vars)) (words_of S state row) inputs env k
      place k lt = elim (cases_lt k (length scope_vars)) [
        | inl low ↦ in_scope low
        | inr high ↦ elim (cases_lt k (length scope_vars + length state_vars)) [
          | inl within ↦ in_state (k - length scope_vars) (omega (arith, high)) (omega (arith, within, high))
          | inr behind ↦ in_row (k - (length scope_vars + length state_vars)) (omega (arith, behind)) (omega (arith, behind, lt, long))
        ]
      ]
        where
          in_scope : k < length scope_vars → IsInVariable (scope_vars ++ (state_vars ++ row_vars)) (words_of S state row) inputs env k
          in_scope low = record {
            same = ap (slice_index env) (scope_word scope_vars state_vars row_vars k low) ∙ (in_at env scope_vars scope_words scope_in k low ∙ sym (scope_at_word S state row k low));
            word = subst IsWord (sym (scope_at_word S state row k low)) (in_word env scope_vars scope_words scope_in k (omega (arith, low, in_long env scope_vars scope_words scope_in)));
          }

          in_state : (j : ℕ) → k ≡ length scope_vars + j → j < length state_vars → IsInVariable (scope_vars ++ (state_vars ++ row_vars)) (words_of S state row) inputs env k
          in_state j e less =
              let w : slice_index (words_of S state row) k ≡ slice_index state j = ap (slice_index (words_of S state row)) e ∙ state_at_word S state row j (omega (arith, less, in_long env state_vars state state_in)) in
              record {
                same = ap (λ m. slice_index env (slice_index (scope_vars ++ (state_vars ++ row_vars)) m)) e ∙ (ap (slice_index env) (state_word scope_vars state_vars row_vars j less) ∙ (in_at env state_vars state state_in j less ∙ sym w));
                word = subst IsWord (sym w) (in_word env state_vars state state_in j (omega (arith, less, in_long env state_vars state state_in)));
              }

          in_row : (i : ℕ) → k ≡ length scope_vars + (length state_vars + i) → i < length row_vars → IsInVariable (scope_vars ++ (state_vars ++ row_vars)) (words_of S state row) inputs env k
          in_row i e less =
              let q : k ≡ length scope_vars + (length state + i) = omega (arith, e, in_long env state_vars state state_in) in
              let w : slice_index (words_of S state row) k ≡ slice_index row i = ap (slice_index (words_of S state row)) q ∙ local_at_word S state row i in
              record {
                same = ap (λ m. slice_index env (slice_index (scope_vars ++ (state_vars ++ row_vars)) m)) e ∙ (ap (slice_index env) (local_word scope_vars state_vars row_vars i) ∙ (in_at env row_vars row row_in i less ∙ sym w));
                word = subst IsWord (sym w) (in_word env row_vars row row_in i (omega (arith, less, in_long env row_vars row row_in)));
              }

      before : Before S (turn_acts acts item) c tail (scope_vars ++ (state_vars ++ row_vars)) frame.next (λ k. true) state row env
      before = record {
        layout = layout;
        course = course;
        stands = record { states_long = in_long env state_vars state state_in; long = omega (arith, long, in_long env row_vars row row_in); in_place = λ k lt is. place k lt };
        holds = held_in;
        small = few;
      }
