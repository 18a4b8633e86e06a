-- An update, where the acts behind it do what they say: its words are set before these, or behind them where it may wait. They
-- neither read nor set its words then, and its expressions have the same values behind them.
use Rattle.std.proofs.Common.{◌≡◌, ◌≢◌, ◌⊎◌, ℕ, ◌+◌, ◌-◌, ◌<◌, ◌≤◌, Bool, true, false, List, [], ◌∷◌, length, refl, sym, ap, ◌∙◌, subst, inl, inr, arith, append-nil}
use Rattle.std.specs.Prelude.{IsTrue, nat_le, slice_index, None}
use Rattle.std.proofs.lemmas.Bool.{cases_lt, leb-true}
use Rattle.strm_num.proofs.Truths.{both_true}
use Rattle.strm_num.specs.Words.{IsWord}
use Rattle.list_denotation.specs.declared.event.Event.{Event}
use Rattle.list_denotation.specs.declared.input.Input.{Input}
use Rattle.list_denotation.specs.Literals.{is_word_leaf}
use Rattle.list_denotation.specs.Scopes.{all_bound}
use Rattle.list_denotation.specs.Terms.{Term, Var}
use Rattle.list_denotation.specs.Typing.{is_undivided, all_undivided}
use Rattle.list_denotation.specs.Values.{Is, with_value, row_value}
use Rattle.loop_ir.specs.Statements.{Block, join}
use Rattle.loop_ir.specs.Meaning.{Runs, after, then_do, run}
use Rattle.loop_ir.proofs.Joins.{run_join, is_over}
use Rattle.expr_lower.specs.Scopes.{IsInVariable}
use Rattle.stateful_core.specs.Actions.{ActResult, Continue, Skip, Halt, Break, overwrite}
use Rattle.stateful_core.specs.CoreLeaves.{row_leaves, actions_leaves}
use Rattle.stateful_core.specs.CoreTerms.{Update, Actions, Cons}
use Rattle.stateful_core.specs.WellFormed.{all_sure, is_sound_action, are_sound_actions}
use Rattle.stateful_core.specs.WordValues.{or_zero, word_values}
use Rattle.turn_blocks.specs.Laws.{Laws}
use Rattle.turn_blocks.specs.Pieces.{Piece, Tail, last}
use Rattle.turn_blocks.specs.StateBlocks.{words_piece}
use Rattle.turn_blocks.specs.TurnBlocks.{update_piece}
use Rattle.turn_blocks.specs.TurnContract.{Consumer, Fed, Takes, Halts, TurnEnd, Goes, Ends, fed_end, IsIn}
use Rattle.turn_blocks.specs.WordUses.{are_unread, actions_keep, is_lasting_leaf, may_wait}
use Rattle.turn_blocks.proofs.ActRuns.{with_state, AtState, length_values, acts_commute, acts_keep, IsSameState}
use Rattle.turn_blocks.proofs.Overwrites.{length_overwrite, overwrite_before, overwrite_behind, overwrite_at}
use Rattle.turn_blocks.proofs.PieceSizes.{acts_grow, words_grow}
use Rattle.turn_blocks.proofs.SetWords.{AreFit, AreAlone, Written, Writes, row_writes}
use Rattle.turn_blocks.proofs.StateTests.{Waits, waits, stays_behind, not_set_at_once, lasting_word}
use Rattle.turn_blocks.proofs.Values.{Readable}
use Rattle.turn_blocks.proofs.WordLists.{Differs, is_in, in_at, in_word, in_long, still_in}
use Rattle.turn_blocks.proofs.TurnStates.{Setting, is_live, act_end, words_of, base, state_at_word, Layout, more_layout, state_given, new_state, KeptBut, Reaches, reach_behind}
use Rattle.turn_blocks.proofs.TurnSteps.{piece, run_from, Serves, Before, IsTurned, before_in, lay, later}
use Rattle.turn_blocks.proofs.TestSteps.{rest_before}

-- the values of a row without division
pub undivided_row : (laws : Laws) (inputs : List Input) (env : List ℕ) (es : List Term) → IsTrue (all_undivided es) → row_value es env inputs ≡ Is (word_values es env inputs)
undivided_row laws inputs env [] h = refl
undivided_row laws inputs env (e ∷ es) h =
    let p = both_true (is_undivided e) (all_undivided es) h in
    let x = laws.undivided_value env inputs e p.0 in
    ap (λ g. with_value g (λ y. with_value (row_value es env inputs) (λ row. Is (y ∷ row)))) x.1
    ∙ ap (λ g. with_value g (λ row. Is (x.0 ∷ row))) (undivided_row laws inputs env es p.1)
    ∙ ap (λ y. Is (y ∷ word_values es env inputs)) (sym (ap or_zero x.1))

-- statements that lead on, and then others without events
pub goes_on_to : (S : Setting) (a b : Block) (events : List Event) (env env' env'' : List ℕ) (left left' : ℕ) → run S.inputs a env left ≡ Runs events env' left' → run S.inputs b env' left' ≡ Runs [] env'' left' → run S.inputs (join a b) env left ≡ Runs events env'' left'
goes_on_to S a b events env env' env'' left left' first second =
    run_join S.inputs a b env left ∙ (ap (λ o. then_do o (run S.inputs b)) first ∙ (ap (after events) second ∙ ap (λ e. Runs e env'' left') (append-nil events)))

-- ---- ends of turns with another state

abbrev map_end : (List ℕ → List ℕ) → TurnEnd → TurnEnd
map_end f (Goes events s h left) = Goes events (f s) h left
map_end f (Ends events standing) = Ends events standing

fed_with : (f : List ℕ → List ℕ) (s : List ℕ) (fed : Fed) → fed_end (f s) fed ≡ map_end f (fed_end s fed)
fed_with f s (Takes events held left) = refl
fed_with f s (Halts events standing) = refl

end_with : (f : List ℕ → List ℕ) (c : Consumer) (width : ℕ) (r : ActResult) → act_end c width (with_state f r) ≡ map_end f (act_end c width r)
end_with f c width (Continue s l) = fed_with f s (c.feed (last width l))
end_with f c width (Skip s) = refl
end_with f c width (Halt s) = fed_with f s c.stopped
end_with f c width (Break x) = refl

-- this holds of the state where the turn goes on
abbrev StateOf : (List ℕ → Type 0) → TurnEnd → Type 0
StateOf P (Goes events s h left) = P s
StateOf P (Ends events standing) = Unit {0}

fed_state : (P : List ℕ → Type 0) (s : List ℕ) (fed : Fed) → P s → StateOf P (fed_end s fed)
fed_state P s (Takes events held left) h = h
fed_state P s (Halts events standing) h = tt

end_state : (P : List ℕ → Type 0) (c : Consumer) (width : ℕ) (r : ActResult) → AtState P r → StateOf P (act_end c width r)
end_state P c width (Continue s l) p = fed_state P s (c.feed (last width l)) p
end_state P c width (Skip s) p = p
end_state P c width (Halt s) p = fed_state P s c.stopped p
end_state P c width (Break x) p = tt

module _ (S : Setting) where
  -- ---- writes to the state

  module _ (rows : List ℕ) (next : ℕ) (vars : List ℕ) (layout : Layout S rows next vars) (words : List ℕ) (k n : ℕ) (within : k + n ≤ length S.state_vars) where
    -- the variable of a word that is set is that of a word of the state
    state_at : (i : ℕ) → S.scope + k ≤ i → i < S.scope + k + n → slice_index rows i ≡ slice_index S.state_vars (i - S.scope)
    state_at i low high =
        let q : S.scope + (i - S.scope) ≡ i = omega (arith, low) in
        sym (ap (slice_index rows) q) ∙ layout.at_states (i - S.scope) (omega (arith, low, high, within))

    -- a word of the scope or the state stands in such a variable only if it is that word
    base_alone : (m i : ℕ) → m < base S → S.scope + k ≤ i → i < S.scope + k + n → slice_index rows m ≡ slice_index rows i → m ≡ i
    base_alone m i lt low high same = elim (cases_lt m S.scope) [
      | inl before ↦ absurd (layout.scope_apart m before (i - S.scope) (omega (arith, low, high, within)) (sym (same ∙ state_at i low high)))
      | inr behind ↦ in_state behind
    ]
      where
        in_state : S.scope ≤ m → m ≡ i
        in_state behind =
            let q : S.scope + (m - S.scope) ≡ m = omega (arith, behind) in
            let e = S.differ (m - S.scope) (i - S.scope) (omega (arith, behind, lt)) (omega (arith, low, high, within)) (sym (layout.at_states (m - S.scope) (omega (arith, behind, lt))) ∙ (ap (slice_index rows) q ∙ (same ∙ state_at i low high))) in
            omega (arith, e, behind, low)

    not_written : (v : ℕ) → Differs S.state_vars v → (i : ℕ) → S.scope + k ≤ i → i < S.scope + k + n → slice_index rows i ≢ v
    not_written v none i low high = λ e. none (i - S.scope) (omega (arith, low, high, within)) (sym (state_at i low high) ∙ e)

    module _ (block : Block) (env s xs : List ℕ) (states_hold : IsIn env S.state_vars s) (w : Written S.laws S.inputs S.small S.t S.temps rows words block (S.scope + k) n next env xs) where
      over_at : (j : ℕ) → j < length S.state_vars → (slice_index w.env' (slice_index S.state_vars j) ≡ slice_index (overwrite k xs s) j) × IsWord (slice_index (overwrite k xs s) j)
      over_at j lt = elim (cases_lt j k) [
        | inl before ↦ other (inl before)
        | inr behind ↦ elim (cases_lt j (k + n)) [ inl inside ↦ written behind inside | inr past ↦ other (inr past) ]
      ]
        where
          long : length s ≡ length S.state_vars
          long = in_long env S.state_vars s states_hold

          kept : (j < k) ⊎ (k + n ≤ j) → slice_index w.env' (slice_index S.state_vars j) ≡ slice_index env (slice_index S.state_vars j)
          kept side =
              let v = state_given S rows next vars layout j lt in
              w.kept (slice_index S.state_vars j) v.below v.apart (λ i low high e. none side i low high (S.differ (i - S.scope) j (omega (arith, low, high, within)) lt (sym (state_at i low high) ∙ e)))
            where
              none : (j < k) ⊎ (k + n ≤ j) → (i : ℕ) → S.scope + k ≤ i → i < S.scope + k + n → i - S.scope ≡ j → ⊥
              none (inl before) i low high e = omega (arith, before, low, e)
              none (inr past) i low high e = omega (arith, past, high, low, e)

          same : (j < k) ⊎ (k + n ≤ j) → slice_index (overwrite k xs s) j ≡ slice_index s j
          same (inl before) = overwrite_before k xs s j before
          same (inr past) = overwrite_behind k xs s j (omega (arith, past, w.long))

          other : (j < k) ⊎ (k + n ≤ j) → (slice_index w.env' (slice_index S.state_vars j) ≡ slice_index (overwrite k xs s) j) × IsWord (slice_index (overwrite k xs s) j)
          other side =
              (kept side ∙ (in_at env S.state_vars s states_hold j lt ∙ sym (same side)), subst IsWord (sym (same side)) (in_word env S.state_vars s states_hold j (omega (arith, lt, long))))

          written : k ≤ j → j < k + n → (slice_index w.env' (slice_index S.state_vars j) ≡ slice_index (overwrite k xs s) j) × IsWord (slice_index (overwrite k xs s) j)
          written low high =
              let q : k + (j - k) ≡ j = omega (arith, low) in
              let p : S.scope + k + (j - k) ≡ S.scope + j = omega (arith, low) in
              let at : slice_index (overwrite k xs s) j ≡ slice_index xs (j - k) = sym (ap (slice_index (overwrite k xs s)) q) ∙ overwrite_at k xs s (j - k) (omega (arith, low, high, w.long)) (omega (arith, w.long, within, long)) in (
                ap (slice_index w.env') (sym (layout.at_states j lt)) ∙ (sym (ap (λ m. slice_index w.env' (slice_index rows m)) p) ∙ (w.sets (j - k) (omega (arith, low, high)) ∙ sym at)),
                subst IsWord (sym at) (w.are_words (j - k) (omega (arith, low, high))),
              )

      over_in : IsIn w.env' S.state_vars (overwrite k xs s)
      over_in =
          let long = in_long env S.state_vars s states_hold in
          is_in w.env' S.state_vars (overwrite k xs s) (omega (arith, long, length_overwrite k xs s)) (λ j lt. (over_at j lt).0) (λ j lt. (over_at j (omega (arith, lt, long, length_overwrite k xs s))).1)

      over_kept : KeptBut S next vars env w.env'
      over_kept v lt none apart other = w.kept v lt none (not_written v apart)

      over_held : (h : List ℕ) → IsIn env vars h → IsIn w.env' vars h
      over_held h holds = still_in env vars h holds w.env'
          (λ i lt. let v = layout.held_given i lt in w.kept (slice_index vars i) v.below v.apart (λ m low high e. layout.held_apart m (omega (arith, high, within, layout.deep)) i lt (sym e)))

  -- ---- an update

  module _ (k : ℕ) (es : List Term) (acts : Actions) (ih : IsTurned S acts) (c : Consumer) (tail : Tail) (rows : List ℕ) (next : ℕ) (live : ℕ → Bool) (s l env : List ℕ) (serves : Serves S c tail) (b : Before S (Cons (Update k es) acts) c tail rows next live s l env) where
    abbrev xs : List ℕ
    xs = word_values es (words_of S s l) S.inputs

    abbrev set : Piece
    set = words_piece rows S.t (S.scope + k) es next

    abbrev rest : Piece
    rest = piece S tail None acts rows (words_piece rows S.t (S.scope + k) es next).next

    xs_long : length xs ≡ length es
    xs_long = length_values S.scope_words S.inputs es (words_of S s l)

    sound_parts : IsTrue (nat_le (k + length es) (length S.state_vars)) × IsTrue (all_sure (length rows) es)
    sound_parts = both_true (nat_le (k + length es) (length S.state_vars)) (all_sure (length rows) es)
        (both_true (is_sound_action (length S.state_vars) (length rows) (Update k es)) (are_sound_actions (length S.state_vars) (length rows + 0) acts) b.course.sound).0

    within : k + length es ≤ length S.state_vars
    within = leb-true (k + length es) (length S.state_vars) sound_parts.0

    sure : IsTrue (all_bound (length rows) es) × IsTrue (all_undivided es)
    sure = both_true (all_bound (length rows) es) (all_undivided es) sound_parts.1

    fits : (test : Term → Bool) → IsTrue (row_leaves test es) → AreFit S.laws S.inputs S.small S.t S.temps rows (words_of S s l) test es
    fits test leaves = let few = b.course.few in record {
      numbers = (both_true (row_leaves is_word_leaf es) (actions_leaves is_word_leaf acts) b.course.numbers).0;
      bound = sure.0;
      few = omega (arith, few);
      leaves = leaves;
    }

    set_grows : next ≤ set.next
    set_grows = words_grow rows S.t es (S.scope + k) next

    rest_grows : set.next ≤ rest.next
    rest_grows = acts_grow S.scope (length S.state_vars) S.t S.stop tail None acts rows set.next (λ row n. serves.tails.grows n row)

    before_rest : Before S acts c tail rows next live s l env
    before_rest = rest_before S (Update k es) acts c tail rows next live s l env b refl (λ j is. stays_behind S.scope (length S.state_vars) k es acts j is)

    writes : (test : Term → Bool) (env1 : List ℕ) → length env1 ≡ length env → rest.next ≤ length env → IsTrue (row_leaves test es) → Readable S.laws S.inputs S.small S.t S.temps rows (words_of S s l) test env1 → AreAlone S.laws S.inputs S.small S.t S.temps rows (words_of S s l) test (S.scope + k) (length es) → Written S.laws S.inputs S.small S.t S.temps rows (words_of S s l) set.block (S.scope + k) (length es) next env1 xs
    writes test env1 same room leaves readable alone =
        let small = b.small in let deep = b.layout.deep in
        subst (Writes S.laws S.inputs S.small S.t S.temps rows (words_of S s l) set.block (S.scope + k) (length es) next env1) (undivided_row S.laws S.inputs (words_of S s l) es sure.1)
        (row_writes S.laws S.inputs S.small S.t S.temps rows (words_of S s l) es (S.scope + k) next test env1
        (lay S (Cons (Update k es) acts) c tail rows next live s l env b (omega (arith, room, rest_grows, set_grows))) (omega (arith, within, deep)) (fits test leaves) readable alone
        (omega (arith, room, rest_grows, set_grows, same)) (omega (arith, room, rest_grows, same)) (omega (arith, small, same)))

    -- ---- at once

    at_once : may_wait S.scope (length S.state_vars) k es acts ≡ false → rest.next ≤ length env → Reaches S next c (join set.block rest.block) env (act_end c tail.width (run_from S acts (overwrite k xs s) l))
    at_once none room =
        reach_behind S set.block rest.block env w.env' next set.next c (act_end c tail.width (run_from S acts (overwrite k xs s) l)) set_grows (w.runs c.left) w.same kept
        (ih c tail rows set.next live (overwrite k xs s) l w.env' serves after_set (omega (arith, room, w.same)))
      where
        alias_apart : (m : ℕ) → base S ≤ m → m < length rows → IsTrue (live m) → (j : ℕ) → j < length S.state_vars → slice_index rows m ≡ slice_index S.state_vars j → (j < k) ⊎ (k + length es ≤ j)
        alias_apart m low lt is j less e = not_set_at_once S.scope (length S.state_vars) k es acts j none (b.course.alias m low lt is j less e)

        alone : AreAlone S.laws S.inputs S.small S.t S.temps rows (words_of S s l) (is_live live) (S.scope + k) (length es)
        alone = record {
          read = λ i low high m lt is same. elim (cases_lt m (base S)) [
            | inl old ↦ base_alone rows next c.vars b.layout (words_of S s l) k (length es) within m i old low high same
            | inr local ↦ absurd (contradiction i low high (alias_apart m local lt is (i - S.scope) (omega (arith, low, high, within)) (same ∙ state_at rows next c.vars b.layout (words_of S s l) k (length es) within i low high)))
          ];
          set = λ i j low high least most same. base_alone rows next c.vars b.layout (words_of S s l) k (length es) within i j (omega (arith, high, within)) least most same;
        }
          where
            contradiction : (i : ℕ) → S.scope + k ≤ i → i < S.scope + k + length es → (i - S.scope < k) ⊎ (k + length es ≤ i - S.scope) → ⊥
            contradiction i low high (inl before) = omega (arith, low, before)
            contradiction i low high (inr past) = omega (arith, high, past)

        w : Written S.laws S.inputs S.small S.t S.temps rows (words_of S s l) set.block (S.scope + k) (length es) next env xs
        w = writes (is_live live) env refl room (both_true (row_leaves (is_live live) es) (actions_leaves (is_live live) acts) b.course.reads).0 b.stands.in_place alone

        old_in : IsIn env S.state_vars s
        old_in = before_in S (Cons (Update k es) acts) c tail rows next live s l env b

        kept : KeptBut S next c.vars env w.env'
        kept = over_kept rows next c.vars b.layout (words_of S s l) k (length es) within set.block env s xs old_in w

        same_word : (m : ℕ) → base S ≤ m → m < length rows → IsTrue (live m) → (j : ℕ) → j < length S.state_vars → slice_index rows m ≡ slice_index S.state_vars j → slice_index (overwrite k xs s) j ≡ slice_index s j
        same_word m low lt is j less e = other (alias_apart m low lt is j less e)
          where
            other : (j < k) ⊎ (k + length es ≤ j) → slice_index (overwrite k xs s) j ≡ slice_index s j
            other (inl before) = overwrite_before k xs s j before
            other (inr past) = overwrite_behind k xs s j (omega (arith, past, xs_long))

        after_set : Before S acts c tail rows set.next live (overwrite k xs s) l w.env'
        after_set = let small = b.small in record {
          layout = more_layout S rows next set.next c.vars set_grows b.layout;
          course = before_rest.course;
          stands = new_state S rows next c.vars live s l env (overwrite k xs s) w.env' b.layout b.course.old_live b.stands
              (over_in rows next c.vars b.layout (words_of S s l) k (length es) within set.block env s xs old_in w) kept same_word;
          holds = over_held rows next c.vars b.layout (words_of S s l) k (length es) within set.block env s xs old_in w c.held b.holds;
          small = omega (arith, small, w.same);
        }

    -- ---- behind the acts

    module _ (may : Waits S.scope (length S.state_vars) k es acts) (room : rest.next ≤ length env) where
      abbrev lasts : Term → Bool
      lasts = is_lasting_leaf S.scope (length S.state_vars) acts

      lasting_below : (m : ℕ) → IsTrue (lasts (Var m)) → m < base S
      lasting_below m is = go (lasting_word S.scope (length S.state_vars) acts m is)
        where
          go : (m < S.scope) ⊎ ((m < S.scope + length S.state_vars) × IsTrue (actions_keep (m - S.scope) 1 acts)) → m < base S
          go (inl before) = omega (arith, before)
          go (inr both) = both.0

      lasting_alone : AreAlone S.laws S.inputs S.small S.t S.temps rows (words_of S s l) lasts (S.scope + k) (length es)
      lasting_alone = record {
        read = λ i low high m lt is same. base_alone rows next c.vars b.layout (words_of S s l) k (length es) within m i (lasting_below m is) low high same;
        set = λ i j low high least most same. base_alone rows next c.vars b.layout (words_of S s l) k (length es) within i j (omega (arith, high, within)) least most same;
      }

      -- the words that the update reads are as they were
      lasting_readable : (env1 s1 : List ℕ) → IsIn env1 S.state_vars s1 → KeptBut S next c.vars env env1 → IsSameState S.scope_words S.inputs (λ j. actions_keep j 1 acts) s s1 → Readable S.laws S.inputs S.small S.t S.temps rows (words_of S s l) lasts env1
      lasting_readable env1 s1 states_hold kept same m lt is = go (lasting_word S.scope (length S.state_vars) acts m is)
        where
          there : IsInVariable rows (words_of S s l) S.inputs env m
          there = b.stands.in_place m lt (b.course.old_live m (lasting_below m is))

          go : (m < S.scope) ⊎ ((m < S.scope + length S.state_vars) × IsTrue (actions_keep (m - S.scope) 1 acts)) → IsInVariable rows (words_of S s l) S.inputs env1 m
          go (inl before) =
              let v = b.layout.given m lt in
              record { same = kept (slice_index rows m) v.below v.apart (b.layout.scope_apart m before) (b.layout.held_apart m lt) ∙ there.same; word = there.word }
          go (inr both) = elim (cases_lt m S.scope) [ inl before ↦ go_scope before | inr behind ↦ in_state behind ]
            where
              go_scope : m < S.scope → IsInVariable rows (words_of S s l) S.inputs env1 m
              go_scope before =
                  let v = b.layout.given m lt in
                  record { same = kept (slice_index rows m) v.below v.apart (b.layout.scope_apart m before) (b.layout.held_apart m lt) ∙ there.same; word = there.word }

              in_state : S.scope ≤ m → IsInVariable rows (words_of S s l) S.inputs env1 m
              in_state behind =
                  let long = b.stands.states_long in
                  let less : m - S.scope < length S.state_vars = omega (arith, both.0, behind) in
                  let q : S.scope + (m - S.scope) ≡ m = omega (arith, behind) in
                  record {
                    same = sym (ap (λ n. slice_index env1 (slice_index rows n)) q)
                        ∙ (ap (slice_index env1) (b.layout.at_states (m - S.scope) less)
                        ∙ (in_at env1 S.state_vars s1 states_hold (m - S.scope) less
                        ∙ (same.words (m - S.scope) both.1
                        ∙ (sym (state_at_word S s l (m - S.scope) (omega (arith, less, long))) ∙ ap (slice_index (words_of S s l)) q))));
                    word = there.word;
                  }

      wait_reaches : (end : TurnEnd) → Reaches S set.next c rest.block env end → StateOf (λ s1. IsSameState S.scope_words S.inputs (λ j. actions_keep j 1 acts) s s1) end → Reaches S next c (join rest.block set.block) env (map_end (overwrite k xs) end)
      wait_reaches (Goes events s1 h1 left) r same = record {
        env' = w.env';
        runs = goes_on_to S rest.block set.block events env r.env' w.env' c.left left r.runs (w.runs left);
        same = w.same ∙ r.same;
        states = over_in rows next c.vars b.layout (words_of S s l) k (length es) within set.block r.env' s1 xs r.states w;
        holds = over_held rows next c.vars b.layout (words_of S s l) k (length es) within set.block r.env' s1 xs r.states w h1 r.holds;
        kept = λ v lt none apart other. over_kept rows next c.vars b.layout (words_of S s l) k (length es) within set.block r.env' s1 xs r.states w v lt none apart other ∙ kept v lt none apart other;
      }
        where
          kept : KeptBut S next c.vars env r.env'
          kept v lt none apart other = r.kept v (omega (arith, lt, set_grows)) none apart other

          w : Written S.laws S.inputs S.small S.t S.temps rows (words_of S s l) set.block (S.scope + k) (length es) next r.env' xs
          w = writes lasts r.env' r.same room may.lasting (lasting_readable r.env' s1 r.states kept same) lasting_alone
      wait_reaches (Ends events standing) r same = is_over S.inputs rest.block set.block events standing env c.left r

      waiting : Reaches S next c (join rest.block set.block) env (act_end c tail.width (run_from S acts (overwrite k xs s) l))
      waiting =
          let long = S.scope_long in
          let unread : IsTrue (are_unread (length S.scope_words + k) (length xs) acts) =
          subst (λ n. IsTrue (are_unread (n + k) (length xs) acts)) (sym long) (subst (λ n. IsTrue (are_unread (S.scope + k) n acts)) (sym xs_long) may.unread) in
          let keeps : IsTrue (actions_keep k (length xs) acts) = subst (λ n. IsTrue (actions_keep k n acts)) (sym xs_long) may.keeps in
          subst (Reaches S next c (join rest.block set.block) env)
          (sym (ap (act_end c tail.width) (acts_commute S.scope_words S.inputs k xs acts s l unread keeps) ∙ end_with (overwrite k xs) c tail.width (run_from S acts s l)))
          (wait_reaches (act_end c tail.width (run_from S acts s l))
          (ih c tail rows set.next live s l env serves (later S acts c tail rows next live s l env before_rest set.next env set_grows refl (λ v lt none. refl)) room)
          (end_state (λ s1. IsSameState S.scope_words S.inputs (λ j. actions_keep j 1 acts) s s1) c tail.width (run_from S acts s l) (acts_keep S.scope_words S.inputs acts s l)))

    by_wait : (d : Bool) → may_wait S.scope (length S.state_vars) k es acts ≡ d → (update_piece d set (λ n. piece S tail None acts rows n)).next ≤ length env → Reaches S next c (update_piece d set (λ n. piece S tail None acts rows n)).block env (act_end c tail.width (run_from S acts (overwrite k xs s) l))
    by_wait true is room = waiting (waits S.scope (length S.state_vars) k es acts is) room
    by_wait false is room = at_once is room

  pub update_turned : (k : ℕ) (es : List Term) (acts : Actions) → IsTurned S acts → IsTurned S (Cons (Update k es) acts)
  update_turned k es acts ih c tail rows next live s l env serves b room =
      by_wait k es acts ih c tail rows next live s l env serves b (may_wait S.scope (length S.state_vars) k es acts) refl room
