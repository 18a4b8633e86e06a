-- The relation between the words of a turn and the variables that they stand in.
--
-- The words are those of the scope, of the state, and the local ones. Each word that is live stands in its variable: a local word
-- that no act to come reads is dead, and its variable says nothing. The words of the state stand in variables that differ from one
-- another and from those of the scope; a live local word stands in one of them only if the word of the state stays as it is until
-- all updates are done. What the consumer holds stands in variables of its own.
use Rattle.std.proofs.Common.{◌≡◌, ◌≢◌, ℕ, zero, suc, ◌+◌, ◌-◌, ◌<◌, ◌≤◌, ◌^◌, Bool, true, false, List, [], ◌∷◌, ◌++◌, length, sym, ap, ◌∙◌, subst, inl, inr, arith}
use Rattle.std.specs.Prelude.{IsTrue, slice_index, if◌then◌else◌}
use Rattle.std.proofs.lemmas.Bool.{cases_lt, cases_eq}
use Rattle.strm_num.specs.Words.{IsWord}
use Rattle.list_denotation.specs.declared.event.Event.{Event}
use Rattle.list_denotation.specs.declared.input.Input.{Input}
use Rattle.list_denotation.specs.Literals.{is_word_leaf}
use Rattle.list_denotation.specs.Observation.{Failed}
use Rattle.list_denotation.specs.Terms.{Term, Var}
use Rattle.list_denotation.specs.Values.{Is}
use Rattle.loop_ir.specs.Statements.{Test, If, Block, Nil, Cons, join}
use Rattle.loop_ir.specs.Meaning.{Runs, Over, test_value, run}
use Rattle.state_alloc.specs.Layouts.{IsTemporary, IsWordVariable, IsLaidOut}
use Rattle.expr_lower.specs.Scopes.{IsInVariable}
use Rattle.stateful_core.specs.Actions.{ActResult, Continue, Skip, Halt, Break}
use Rattle.stateful_core.specs.CoreLeaves.{actions_leaves}
use Rattle.stateful_core.specs.CoreShapes.{actions_locals}
use Rattle.stateful_core.specs.CoreTerms.{Actions}
use Rattle.stateful_core.specs.WellFormed.{are_sound_actions}
use Rattle.turn_blocks.specs.Laws.{Laws}
use Rattle.turn_blocks.specs.Pieces.{last}
use Rattle.turn_blocks.specs.Temporaries.{acts_temps}
use Rattle.turn_blocks.specs.TurnContract.{Consumer, TurnEnd, Goes, Ends, fed_end, IsIn, HasWordInputs}
use Rattle.turn_blocks.specs.WordUses.{stays}
use Rattle.turn_blocks.proofs.Values.{Untouched, passes_on, if_runs}
use Rattle.turn_blocks.proofs.WordLists.{before_last, at_last, length_last, length_words, scope_word, state_word, local_word, more_words, each_last, all_of, Differs, found_or_not, is_in, in_at, in_word, in_long, still_in}

-- where a turn takes place
pub record Setting : Type 0 where
  pub laws : Laws
  pub inputs : List Input
  pub small : HasWordInputs inputs
  pub scope : ℕ
  pub scope_vars : List ℕ
  pub t : ℕ
  pub temps : ℕ
  pub scope_words : List ℕ
  pub state_vars : List ℕ
  pub stop : Block
  pub scope_long : length scope_words ≡ scope
  pub scope_wide : length scope_vars ≡ scope
  pub differ : (i j : ℕ) → i < length state_vars → j < length state_vars → slice_index state_vars i ≡ slice_index state_vars j → i ≡ j

-- a leaf that is no word, or a live one
abbrev pub is_live : (ℕ → Bool) → Term → Bool
is_live live (Var k) = live k
is_live live _ = true

-- how the turn ends where its acts lead there: what follows them takes so many words
abbrev pub act_end : Consumer → ℕ → ActResult → TurnEnd
act_end c width (Continue s l) = fed_end s (c.feed (last width l))
act_end c width (Skip s) = Goes [] s c.held c.left
act_end c width (Halt s) = fed_end s c.stopped
act_end c width (Break f) = Ends [] (Failed f)

module _ (S : Setting) where
  abbrev pub words_of : List ℕ → List ℕ → List ℕ
  words_of s l = S.scope_words ++ (s ++ l)

  abbrev pub base : ℕ
  base = S.scope + length S.state_vars

  -- ---- where words stand

  pub record Layout (rows : List ℕ) (next : ℕ) (vars : List ℕ) : Type 0 where
    pub given : (k : ℕ) → k < length rows → IsWordVariable S.t S.temps next (slice_index rows k)
    pub temps_below : S.t + S.temps ≤ next
    pub deep : base ≤ length rows
    pub at_scope : (k : ℕ) → k < S.scope → slice_index rows k ≡ slice_index S.scope_vars k
    pub at_states : (j : ℕ) → j < length S.state_vars → slice_index rows (S.scope + j) ≡ slice_index S.state_vars j
    pub scope_apart : (k : ℕ) → k < S.scope → Differs S.state_vars (slice_index rows k)
    pub held_given : (i : ℕ) → i < length vars → IsWordVariable S.t S.temps next (slice_index vars i)
    pub held_apart : (k : ℕ) → k < length rows → Differs vars (slice_index rows k)

  more_given : (next next' v : ℕ) → next ≤ next' → IsWordVariable S.t S.temps next v → IsWordVariable S.t S.temps next' v
  more_given next next' v le h = let b = h.below in record { below = omega (arith, b, le); apart = h.apart }

  pub fresh_given : (next v : ℕ) → S.t + S.temps ≤ v → v < next → IsWordVariable S.t S.temps next v
  fresh_given next v le lt = record { below = lt; apart = λ temporary. omega (arith, temporary.1, le) }

  pub more_layout : (rows : List ℕ) (next next' : ℕ) (vars : List ℕ) → next ≤ next' → Layout rows next vars → Layout rows next' vars
  more_layout rows next next' vars le h = let below = h.temps_below in record {
    given = λ k lt. more_given next next' (slice_index rows k) le (h.given k lt);
    temps_below = omega (arith, below, le);
    deep = h.deep;
    at_scope = h.at_scope;
    at_states = h.at_states;
    scope_apart = h.scope_apart;
    held_given = λ i lt. more_given next next' (slice_index vars i) le (h.held_given i lt);
    held_apart = h.held_apart;
  }

  -- one more local word
  pub push_layout : (rows : List ℕ) (next next' : ℕ) (vars : List ℕ) (v : ℕ) → next ≤ next' → Layout rows next vars → IsWordVariable S.t S.temps next' v → Differs vars v → Layout (rows ++ v ∷ []) next' vars
  push_layout rows next next' vars v le h new apart =
      let deep = h.deep in let below = h.temps_below in record {
        given = λ k lt. each_last (IsWordVariable S.t S.temps next') rows v (λ i less. more_given next next' (slice_index rows i) le (h.given i less)) new k lt;
        temps_below = omega (arith, below, le);
        deep = omega (arith, deep, length_last rows v);
        at_scope = λ k lt. before_last rows v k (omega (arith, lt, deep)) ∙ h.at_scope k lt;
        at_states = λ j lt. before_last rows v (S.scope + j) (omega (arith, lt, deep)) ∙ h.at_states j lt;
        scope_apart = λ k lt. subst (λ x. Differs S.state_vars x) (sym (before_last rows v k (omega (arith, lt, deep)))) (h.scope_apart k lt);
        held_given = λ i lt. more_given next next' (slice_index vars i) le (h.held_given i lt);
        held_apart = λ k lt. each_last (λ x. Differs vars x) rows v h.held_apart apart k lt;
      }

  -- one more word that is held, in a fresh variable
  pub mark_layout : (rows : List ℕ) (next : ℕ) (vars : List ℕ) → Layout rows next vars → Layout rows (next + 1) (next ∷ vars)
  mark_layout rows next vars h =
      let below = h.temps_below in record {
        given = λ k lt. more_given next (next + 1) (slice_index rows k) (omega arith) (h.given k lt);
        temps_below = omega (arith, below);
        deep = h.deep;
        at_scope = h.at_scope;
        at_states = h.at_states;
        scope_apart = h.scope_apart;
        held_given = given;
        held_apart = apart;
      }
    where
      given : (i : ℕ) → i < length (next ∷ vars) → IsWordVariable S.t S.temps (next + 1) (slice_index (next ∷ vars) i)
      given zero lt = fresh_given (next + 1) next h.temps_below (omega arith)
      given (suc i) lt = more_given next (next + 1) (slice_index vars i) (omega arith) (h.held_given i (omega arith))

      apart : (k : ℕ) → k < length rows → Differs (next ∷ vars) (slice_index rows k)
      apart k lt zero less = let b = (h.given k lt).below in λ e. omega (arith, b, e)
      apart k lt (suc j) less = h.held_apart k lt j (omega arith)

  pub laid_out : (rows : List ℕ) (next : ℕ) (vars : List ℕ) → next < 2 ^ 32 → Layout rows next vars → IsLaidOut rows S.t S.temps next
  laid_out rows next vars few h = record { few = few; temporaries = h.temps_below; words = all_of (IsWordVariable S.t S.temps next) rows h.given }

  pub state_given : (rows : List ℕ) (next : ℕ) (vars : List ℕ) → Layout rows next vars → (j : ℕ) → j < length S.state_vars → IsWordVariable S.t S.temps next (slice_index S.state_vars j)
  state_given rows next vars h j lt =
      let deep = h.deep in subst (IsWordVariable S.t S.temps next) (h.at_states j lt) (h.given (S.scope + j) (omega (arith, lt, deep)))

  -- ---- the acts to come

  pub record Course (acts : Actions) (rows : List ℕ) (live : ℕ → Bool) (width : ℕ) : Type 0 where
    pub sound : IsTrue (are_sound_actions (length S.state_vars) (length rows) acts)
    pub numbers : IsTrue (actions_leaves is_word_leaf acts)
    pub few : acts_temps acts ≤ S.temps
    pub reads : IsTrue (actions_leaves (is_live live) acts)
    pub old_live : (k : ℕ) → k < base → IsTrue (live k)
    pub new_live : (k : ℕ) → length rows ≤ k → IsTrue (live k)
    pub taken_live : (k : ℕ) → length rows + actions_locals acts ≤ k + width → IsTrue (live k)
    pub wide : base + width ≤ length rows + actions_locals acts
    pub alias : (k : ℕ) → base ≤ k → k < length rows → IsTrue (live k) → (j : ℕ) → j < length S.state_vars → slice_index rows k ≡ slice_index S.state_vars j → IsTrue (stays S.scope (length S.state_vars) j acts)

  -- acts behind others that add no local word
  pub next_course : (first acts : Actions) (rows : List ℕ) (live : ℕ → Bool) (width : ℕ) → Course first rows live width → IsTrue (are_sound_actions (length S.state_vars) (length rows) acts) → IsTrue (actions_leaves is_word_leaf acts) → acts_temps acts ≤ S.temps → IsTrue (actions_leaves (is_live live) acts) → actions_locals first ≡ actions_locals acts → ((j : ℕ) → IsTrue (stays S.scope (length S.state_vars) j first) → IsTrue (stays S.scope (length S.state_vars) j acts)) → Course acts rows live width
  next_course first acts rows live width h sound numbers few reads same behind =
      let wide = h.wide in record {
        sound = sound;
        numbers = numbers;
        few = few;
        reads = reads;
        old_live = h.old_live;
        new_live = h.new_live;
        taken_live = λ k le. h.taken_live k (omega (arith, le, same));
        wide = omega (arith, wide, same);
        alias = λ k low lt is j less e. behind j (h.alias k low lt is j less e);
      }

  -- those of a branch, behind which no word is taken
  pub branch_course : (first acts : Actions) (rows : List ℕ) (live : ℕ → Bool) (width : ℕ) → Course first rows live width → base ≤ length rows → IsTrue (are_sound_actions (length S.state_vars) (length rows) acts) → IsTrue (actions_leaves is_word_leaf acts) → acts_temps acts ≤ S.temps → IsTrue (actions_leaves (is_live live) acts) → ((j : ℕ) → IsTrue (stays S.scope (length S.state_vars) j first) → IsTrue (stays S.scope (length S.state_vars) j acts)) → Course acts rows live 0
  branch_course first acts rows live width h deep sound numbers few reads behind = record {
    sound = sound;
    numbers = numbers;
    few = few;
    reads = reads;
    old_live = h.old_live;
    new_live = h.new_live;
    taken_live = λ k le. h.new_live k (omega (arith, le));
    wide = omega (arith, deep);
    alias = λ k low lt is j less e. behind j (h.alias k low lt is j less e);
  }

  -- acts behind others that add a local word, which may be dead then
  pub push_course : (first acts : Actions) (rows : List ℕ) (live live' : ℕ → Bool) (width v : ℕ) → Course first rows live width → base ≤ length rows → IsTrue (are_sound_actions (length S.state_vars) (length rows + 1) acts) → IsTrue (actions_leaves is_word_leaf acts) → acts_temps acts ≤ S.temps → IsTrue (actions_leaves (is_live live') acts) → actions_locals first ≡ 1 + actions_locals acts → ((j : ℕ) → IsTrue (stays S.scope (length S.state_vars) j first) → IsTrue (stays S.scope (length S.state_vars) j acts)) → ((k : ℕ) → IsTrue (live' k) → IsTrue (live k)) → ((k : ℕ) → k ≢ length rows → IsTrue (live k) → IsTrue (live' k)) → (actions_locals acts < width → IsTrue (live' (length rows))) → (IsTrue (live' (length rows)) → (j : ℕ) → j < length S.state_vars → v ≡ slice_index S.state_vars j → IsTrue (stays S.scope (length S.state_vars) j acts)) → Course acts (rows ++ v ∷ []) live' width
  push_course first acts rows live live' width v h deep sound numbers few reads same behind less_live as_live taken new =
      let wide = h.wide in let long = length_last rows v in record {
        sound = subst (λ n. IsTrue (are_sound_actions (length S.state_vars) n acts)) (sym long) sound;
        numbers = numbers;
        few = few;
        reads = reads;
        old_live = λ k lt. as_live k (λ e. omega (arith, lt, deep, e)) (h.old_live k lt);
        new_live = λ k le. as_live k (λ e. omega (arith, le, long, e)) (h.new_live k (omega (arith, le, long)));
        taken_live = λ k le. elim (cases_eq k (length rows)) [
          | inl e ↦ subst (λ n. IsTrue (live' n)) (sym e) (taken (omega (arith, le, long, e)))
          | inr other ↦ as_live k other (h.taken_live k (omega (arith, le, long, same)))
        ];
        wide = omega (arith, wide, same, long);
        alias = λ k low lt is j less e. elim (cases_eq k (length rows)) [
          | inl q ↦ new (subst (λ n. IsTrue (live' n)) q is) j less (sym (at_last rows v k (sym q)) ∙ e)
          | inr other ↦ behind j (h.alias k low (omega (arith, lt, long, other)) (less_live k is) j less (sym (before_last rows v k (omega (arith, lt, long, other))) ∙ e))
        ];
      }

  -- ---- words in their variables

  pub record Stands (rows : List ℕ) (live : ℕ → Bool) (s l env : List ℕ) : Type 0 where
    pub states_long : length s ≡ length S.state_vars
    pub long : base + length l ≡ length rows
    pub in_place : (k : ℕ) → k < length rows → IsTrue (live k) → IsInVariable rows (words_of s l) S.inputs env k

  pub scope_at_word : (s l : List ℕ) (k : ℕ) → k < S.scope → slice_index (words_of s l) k ≡ slice_index S.scope_words k
  scope_at_word s l k lt = let e = S.scope_long in scope_word S.scope_words s l k (omega (arith, lt, e))

  pub state_at_word : (s l : List ℕ) (j : ℕ) → j < length s → slice_index (words_of s l) (S.scope + j) ≡ slice_index s j
  state_at_word s l j lt =
      let e = S.scope_long in let q : S.scope + j ≡ length S.scope_words + j = omega (arith, e) in
      ap (λ m. slice_index (words_of s l) m) q ∙ state_word S.scope_words s l j lt

  pub local_at_word : (s l : List ℕ) (i : ℕ) → slice_index (words_of s l) (S.scope + (length s + i)) ≡ slice_index l i
  local_at_word s l i =
      let e = S.scope_long in let q : S.scope + (length s + i) ≡ length S.scope_words + (length s + i) = omega (arith, e) in
      ap (λ m. slice_index (words_of s l) m) q ∙ local_word S.scope_words s l i

  pub states_in : (rows : List ℕ) (next : ℕ) (vars : List ℕ) (live : ℕ → Bool) (s l env : List ℕ) → Layout rows next vars → ((k : ℕ) → k < base → IsTrue (live k)) → Stands rows live s l env → IsIn env S.state_vars s
  states_in rows next vars live s l env layout old stands =
      is_in env S.state_vars s (sym stands.states_long)
      (λ j lt. ap (slice_index env) (sym (layout.at_states j lt)) ∙ ((at j lt).same ∙ state_at_word s l j (omega (arith, lt, long))))
      (λ j lt. subst IsWord (state_at_word s l j lt) (at j (omega (arith, lt, long))).word)
    where
      long : length s ≡ length S.state_vars
      long = stands.states_long

      at : (j : ℕ) → j < length S.state_vars → IsInVariable rows (words_of s l) S.inputs env (S.scope + j)
      at j lt = let deep = layout.deep in stands.in_place (S.scope + j) (omega (arith, lt, deep)) (old (S.scope + j) (omega (arith, lt)))

  -- where no variable that was given out has changed
  pub still_stands : (rows : List ℕ) (next : ℕ) (vars : List ℕ) (live : ℕ → Bool) (s l env env' : List ℕ) → Layout rows next vars → Untouched S.laws S.inputs S.small S.t S.temps next env env' → Stands rows live s l env → Stands rows live s l env'
  still_stands rows next vars live s l env env' layout kept h = record {
    states_long = h.states_long;
    long = h.long;
    in_place = λ k lt is. let there = h.in_place k lt is in let v = layout.given k lt in record { same = kept (slice_index rows k) v.below v.apart ∙ there.same; word = there.word };
  }

  pub still_held : (rows : List ℕ) (next : ℕ) (vars held env env' : List ℕ) → Layout rows next vars → Untouched S.laws S.inputs S.small S.t S.temps next env env' → IsIn env vars held → IsIn env' vars held
  still_held rows next vars held env env' layout kept h =
      still_in env vars held h env' (λ k lt. let v = layout.held_given k lt in kept (slice_index vars k) v.below v.apart)

  -- one more local word, which stands in its variable if it is live
  pub push_stands : (rows : List ℕ) (live live' : ℕ → Bool) (s l env : List ℕ) (v x : ℕ) → Stands rows live s l env → ((k : ℕ) → IsTrue (live' k) → IsTrue (live k)) → (IsTrue (live' (length rows)) → (slice_index env v ≡ x) × IsWord x) → Stands (rows ++ v ∷ []) live' s (l ++ x ∷ []) env
  push_stands rows live live' s l env v x h less new =
      let long = length_last rows v in let old = h.long in record {
        states_long = h.states_long;
        long = omega (arith, old, long, length_last l x);
        in_place = at;
      }
    where
      wide : length (words_of s l) ≡ length rows
      wide = let a = h.long in let b = h.states_long in let c = S.scope_long in omega (arith, length_words S.scope_words s l, a, b, c)

      old_word : (k : ℕ) → k < length rows → slice_index (words_of s (l ++ x ∷ [])) k ≡ slice_index (words_of s l) k
      old_word k lt = ap (λ ws. slice_index ws k) (more_words S.scope_words s l x) ∙ before_last (words_of s l) x k (omega (arith, lt, wide))

      new_word : (k : ℕ) → k ≡ length rows → slice_index (words_of s (l ++ x ∷ [])) k ≡ x
      new_word k e = ap (λ ws. slice_index ws k) (more_words S.scope_words s l x) ∙ at_last (words_of s l) x k (omega (arith, e, wide))

      at : (k : ℕ) → k < length (rows ++ v ∷ []) → IsTrue (live' k) → IsInVariable (rows ++ v ∷ []) (words_of s (l ++ x ∷ [])) S.inputs env k
      at k lt is = elim (cases_eq k (length rows)) [
        | inl e ↦ last_one e (new (subst (λ n. IsTrue (live' n)) e is))
        | inr other ↦ earlier (omega (arith, lt, length_last rows v, other))
      ]
        where
          last_one : k ≡ length rows → (slice_index env v ≡ x) × IsWord x → IsInVariable (rows ++ v ∷ []) (words_of s (l ++ x ∷ [])) S.inputs env k
          last_one e there = record { same = ap (slice_index env) (at_last rows v k (sym e)) ∙ (there.0 ∙ sym (new_word k e)); word = subst IsWord (sym (new_word k e)) there.1 }

          earlier : k < length rows → IsInVariable (rows ++ v ∷ []) (words_of s (l ++ x ∷ [])) S.inputs env k
          earlier less_than =
              let there = h.in_place k less_than (less k is) in
              record { same = ap (slice_index env) (before_last rows v k less_than) ∙ (there.same ∙ sym (old_word k less_than)); word = subst IsWord (sym (old_word k less_than)) there.word }

  -- a new state, where local words that stand in its variables are as they were
  pub new_state : (rows : List ℕ) (next : ℕ) (vars : List ℕ) (live : ℕ → Bool) (s l env s' env' : List ℕ) → Layout rows next vars → ((k : ℕ) → k < base → IsTrue (live k)) → Stands rows live s l env → IsIn env' S.state_vars s' → ((v : ℕ) → v < next → ¬ IsTemporary S.t S.temps v → Differs S.state_vars v → Differs vars v → slice_index env' v ≡ slice_index env v) → ((k : ℕ) → base ≤ k → k < length rows → IsTrue (live k) → (j : ℕ) → j < length S.state_vars → slice_index rows k ≡ slice_index S.state_vars j → slice_index s' j ≡ slice_index s j) → Stands rows live s' l env'
  new_state rows next vars live s l env s' env' layout old h states kept same =
      record { states_long = in_long env' S.state_vars s' states; long = h.long; in_place = at }
    where
      long' : length s' ≡ length S.state_vars
      long' = in_long env' S.state_vars s' states

      long : length s ≡ length S.state_vars
      long = h.states_long

      old_states : IsIn env S.state_vars s
      old_states = states_in rows next vars live s l env layout old h

      local_same : (k : ℕ) → base ≤ k → slice_index (words_of s' l) k ≡ slice_index (words_of s l) k
      local_same k low = go (k - base) (omega (arith, low))
        where
          go : (i : ℕ) → k ≡ base + i → slice_index (words_of s' l) k ≡ slice_index (words_of s l) k
          go i e =
              let p : k ≡ S.scope + (length s' + i) = omega (arith, e, long') in
              let q : k ≡ S.scope + (length s + i) = omega (arith, e, long) in
              ap (λ m. slice_index (words_of s' l) m) p ∙ (local_at_word s' l i ∙ sym (ap (λ m. slice_index (words_of s l) m) q ∙ local_at_word s l i))

      at : (k : ℕ) → k < length rows → IsTrue (live k) → IsInVariable rows (words_of s' l) S.inputs env' k
      at k lt is = elim (cases_lt k S.scope) [
        | inl low ↦ in_scope low
        | inr high ↦ elim (cases_lt k base) [
          | inl within ↦ in_state (k - S.scope) (omega (arith, high)) (omega (arith, within, high))
          | inr behind ↦ elim (found_or_not S.state_vars (slice_index rows k)) [ inl found ↦ shared behind found.0 found.1 found.2 | inr none ↦ own behind none ]
        ]
      ]
        where
          there : IsInVariable rows (words_of s l) S.inputs env k
          there = h.in_place k lt is

          unchanged : Differs S.state_vars (slice_index rows k) → slice_index env' (slice_index rows k) ≡ slice_index env (slice_index rows k)
          unchanged none = let v = layout.given k lt in kept (slice_index rows k) v.below v.apart none (layout.held_apart k lt)

          in_scope : k < S.scope → IsInVariable rows (words_of s' l) S.inputs env' k
          in_scope low =
              let e : slice_index (words_of s' l) k ≡ slice_index (words_of s l) k = scope_at_word s' l k low ∙ sym (scope_at_word s l k low) in
              record { same = unchanged (layout.scope_apart k low) ∙ (there.same ∙ sym e); word = subst IsWord (sym e) there.word }

          in_state : (j : ℕ) → k ≡ S.scope + j → j < length S.state_vars → IsInVariable rows (words_of s' l) S.inputs env' k
          in_state j e less =
              let w : slice_index (words_of s' l) k ≡ slice_index s' j = ap (λ m. slice_index (words_of s' l) m) e ∙ state_at_word s' l j (omega (arith, less, long')) in
              record {
                same = ap (λ m. slice_index env' (slice_index rows m)) e ∙ (ap (slice_index env') (layout.at_states j less) ∙ (in_at env' S.state_vars s' states j less ∙ sym w));
                word = subst IsWord (sym w) (in_word env' S.state_vars s' states j (omega (arith, less, long')));
              }

          own : base ≤ k → Differs S.state_vars (slice_index rows k) → IsInVariable rows (words_of s' l) S.inputs env' k
          own behind none =
              record { same = unchanged none ∙ (there.same ∙ sym (local_same k behind)); word = subst IsWord (sym (local_same k behind)) there.word }

          shared : base ≤ k → (j : ℕ) → j < length S.state_vars → slice_index S.state_vars j ≡ slice_index rows k → IsInVariable rows (words_of s' l) S.inputs env' k
          shared behind j less e = record {
            same = ap (slice_index env') (sym e) ∙ (in_at env' S.state_vars s' states j less
                ∙ (same k behind lt is j less (sym e) ∙ (sym (in_at env S.state_vars s old_states j less) ∙ (ap (slice_index env) e ∙ (there.same ∙ sym (local_same k behind))))));
            word = subst IsWord (sym (local_same k behind)) there.word;
          }

  -- ---- where statements lead

  abbrev pub KeptBut : ℕ → List ℕ → List ℕ → List ℕ → Type 0
  KeptBut next vars env env' = (v : ℕ) → v < next → ¬ IsTemporary S.t S.temps v → Differs S.state_vars v → Differs vars v → slice_index env' v ≡ slice_index env v

  pub record Arrives (next : ℕ) (c : Consumer) (block : Block) (env : List ℕ) (events : List Event) (state held : List ℕ) (left : ℕ) : Type 0 where
    pub env' : List ℕ
    pub runs : run S.inputs block env c.left ≡ Runs events env' left
    pub same : length env' ≡ length env
    pub states : IsIn env' S.state_vars state
    pub holds : IsIn env' c.vars held
    pub kept : KeptBut next c.vars env env'

  abbrev pub Reaches : ℕ → Consumer → Block → List ℕ → TurnEnd → Type 0
  Reaches next c block env (Goes events state held left) = Arrives next c block env events state held left
  Reaches next c block env (Ends events standing) = run S.inputs block env c.left ≡ Over events standing

  pub reach_behind : (a b : Block) (env env' : List ℕ) (next next' : ℕ) (c : Consumer) (end : TurnEnd) → next ≤ next' → run S.inputs a env c.left ≡ Runs [] env' c.left → length env' ≡ length env → KeptBut next c.vars env env' → Reaches next' c b env' end → Reaches next c (join a b) env end
  reach_behind a b env env' next next' c (Goes events state held left) le runs same kept h = record {
    env' = h.env';
    runs = passes_on S.inputs a b env env' c.left (Runs events h.env' left) runs h.runs;
    same = h.same ∙ same;
    states = h.states;
    holds = h.holds;
    kept = λ v lt none apart other. h.kept v (omega (arith, lt, le)) none apart other ∙ kept v lt none apart other;
  }
  reach_behind a b env env' next next' c (Ends events standing) le runs same kept h = passes_on S.inputs a b env env' c.left (Over events standing) runs h

  -- from an earlier state, without statements
  pub reach_from : (block : Block) (env : List ℕ) (next next' : ℕ) (c : Consumer) (end : TurnEnd) → next ≤ next' → Reaches next' c block env end → Reaches next c block env end
  reach_from block env next next' c (Goes events state held left) le h = record { env' = h.env'; runs = h.runs; same = h.same; states = h.states; holds = h.holds; kept = λ v lt none apart other. h.kept v (omega (arith, lt, le)) none apart other }
  reach_from block env next next' c (Ends events standing) le h = h

  pub if_reaches : (t : Test) (on off : Block) (env : List ℕ) (next : ℕ) (c : Consumer) (end : TurnEnd) (truth : Bool) → test_value S.inputs t env ≡ Is truth → Reaches next c (if truth then on else off) env end → Reaches next c (Cons (If t on off) Nil) env end
  if_reaches t on off env next c (Goes events state held left) true is h = record { env' = h.env'; runs = if_runs S.inputs t on off env c.left true is ∙ h.runs; same = h.same; states = h.states; holds = h.holds; kept = h.kept }
  if_reaches t on off env next c (Goes events state held left) false is h = record { env' = h.env'; runs = if_runs S.inputs t on off env c.left false is ∙ h.runs; same = h.same; states = h.states; holds = h.holds; kept = h.kept }
  if_reaches t on off env next c (Ends events standing) true is h = if_runs S.inputs t on off env c.left true is ∙ h
  if_reaches t on off env next c (Ends events standing) false is h = if_runs S.inputs t on off env c.left false is ∙ h
