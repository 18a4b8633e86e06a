-- The core of a stream is sound, and its leaves pass the tests that those of the stream pass.
use Rattle.std.proofs.Common.{◌≡◌, ℕ, zero, suc, ◌+◌, ◌≤◌, ◌<◌, List, [], ◌∷◌, length, Bool, true, false, ◌&&◌, refl, sym, ◌∙◌, subst, arith}
use Rattle.std.specs.Prelude.{IsTrue, nat_lt, nat_le, ◌==◌, if◌then◌else◌}
use Rattle.std.proofs.lemmas.Bool.{lt-ltb, le-leb, eq-eqb}
use Rattle.strm_num.proofs.Truths.{both_true, true_both}
use Rattle.list_denotation.specs.InputNames.{InputNames}
use Rattle.list_denotation.specs.Leaves.{all_leaves}
use Rattle.list_denotation.specs.Scopes.{is_bound, all_bound}
use Rattle.list_denotation.specs.TermRows.{variables}
use Rattle.list_denotation.specs.Terms as stream
use Rattle.list_denotation.specs.Terms.{Term, Lit, Truth, Var, Len, Pipe}
use Rattle.list_denotation.specs.Typing.{is_undivided, all_undivided}
use Rattle.denotation_laws.specs.StreamScopes.{ReadsScope, RowReadsScope, StreamReadsScope}
use Rattle.denotation_laws.specs.Widths as rows
use Rattle.stateful_core.specs.CoreTerms.{Action, Let, KeepIf, StopUnless, Actions, Nil, Cons}
use Rattle.stateful_core.specs.CoreShapes.{actions_locals, core_scope, core_width}
use Rattle.stateful_core.specs.CoreLeaves.{row_leaves, action_leaves, actions_leaves, parts_leaves, core_leaves}
use Rattle.stateful_core.specs.StreamCores.{let_all, set_state, next_state, test_acts, always, one_less, rows_asked, drop_acts, stream_width, core_at}
use Rattle.stateful_core.specs.Laws.{Laws}
use Rattle.stateful_core.specs.WellFormed.{is_sure, all_sure, is_sound_action, are_sound_actions, are_sound_parts, is_sound_core}
use Rattle.stateful_core.proofs.CoreWidths.{scope_at, width_at}
use Rattle.stateful_core.proofs.StreamScopes.{sure_opening, sure_seed, over_rows}
use Rattle.stateful_core.proofs.VariableRows.{length_variables}

-- ---- sound parts

bound_variables : (n k w : ℕ) → k + w ≤ n → IsTrue (all_bound n (variables k w))
bound_variables n k zero h = refl
bound_variables n k (suc w) h = true_both (nat_lt k n) (all_bound n (variables (suc k) w)) (lt-ltb k n (omega arith)) (bound_variables n (suc k) w (omega arith))

undivided_variables : (k w : ℕ) → IsTrue (all_undivided (variables k w))
undivided_variables k zero = refl
undivided_variables k (suc w) = undivided_variables (suc k) w

pub sure_variables : (n k w : ℕ) → k + w ≤ n → IsTrue (all_sure n (variables k w))
sure_variables n k w h = true_both (all_bound n (variables k w)) (all_undivided (variables k w)) (bound_variables n k w h) (undivided_variables k w)

pub locals_lets : (es : List Term) (more : Actions) → actions_locals (let_all es more) ≡ length es + actions_locals more
locals_lets [] more = omega arith
locals_lets (e ∷ es) more = omega (arith, locals_lets es more)

module _ (laws : Laws) (m : ℕ) where
  sound_lets : (es : List Term) (more : Actions) (n : ℕ) → IsTrue (all_bound n es) → IsTrue (are_sound_actions m (n + length es) more) → IsTrue (are_sound_actions m n (let_all es more))
  sound_lets [] more n b h = let P : ℕ → Type 0 = λ k. IsTrue (are_sound_actions m k more) in let q : n + length {A = Term} [] ≡ n = omega arith in subst P q h
  sound_lets (e ∷ es) more n b h =
      let p = both_true (is_bound n e) (all_bound n es) b in
      let P : ℕ → Type 0 = λ k. IsTrue (are_sound_actions m k more) in
      let q : n + length (e ∷ es) ≡ n + 1 + length es = omega arith in
      true_both (is_bound n e) (are_sound_actions m (n + 1) (let_all es more)) p.0
      (sound_lets es more (n + 1) (laws.wider_row n (n + 1) es (omega arith) p.1) (subst P q h))

  sound_set : (es : List Term) (n : ℕ) → length es ≤ m → IsTrue (all_sure n es) → IsTrue (are_sound_actions m n (set_state es))
  sound_set es n few h =
      true_both (nat_le (0 + length es) m && all_sure n es) true (true_both (nat_le (0 + length es) m) (all_sure n es) (le-leb (0 + length es) m (omega arith)) h) refl

  sound_state : (k : ℕ) (es : List Term) → length es ≤ m → IsTrue (all_bound k es) → IsTrue (are_sound_actions m k (next_state k es))
  sound_state k es few b = by_form (all_undivided es) refl
    where
      by_form : (t : Bool) → all_undivided es ≡ t → IsTrue (are_sound_actions m k (if t then set_state es else let_all es (set_state (variables k (length es)))))
      by_form true q = sound_set es k few (true_both (all_bound k es) (all_undivided es) b q)
      by_form false q =
          sound_lets es (set_state (variables k (length es))) k b
          (sound_set (variables k (length es)) (k + length es) (omega (arith, length_variables k (length es))) (sure_variables (k + length es) k (length es) (omega arith)))

  -- a test that has to be sure where it stands
  sound_test : (test : Term → Action) → ((n : ℕ) (e : Term) → is_sound_action m n (test e) ≡ is_sure n e) → (k : ℕ) (e : Term) → IsTrue (is_bound k e) → IsTrue (are_sound_actions m k (test_acts test k e))
  sound_test test is k e b = by_form (is_undivided e) refl
    where
      single : (n : ℕ) (f : Term) → IsTrue (is_sure n f) → IsTrue (are_sound_actions m n (Cons (test f) Nil))
      single n f h = true_both (is_sound_action m n (test f)) true (is n f ∙ h) refl

      by_form : (t : Bool) → is_undivided e ≡ t → IsTrue (are_sound_actions m k (if t then Cons (test e) Nil else Cons (Let e) (Cons (test (Var k)) Nil)))
      by_form true q = single k e (true_both (is_bound k e) (is_undivided e) b q)
      by_form false q =
          true_both (is_bound k e) (are_sound_actions m (k + 1) (Cons (test (Var k)) Nil)) b
          (single (k + 1) (Var k) (true_both (nat_lt k (k + 1)) true (lt-ltb k (k + 1) (omega arith)) refl))

sound_parts : (scope width : ℕ) (init : List Term) (guard : Term) (acts : Actions) (item : List Term) → IsTrue (all_sure scope init) → IsTrue (is_sure (scope + length init) guard) → IsTrue (are_sound_actions (length init) (scope + length init + width) acts) → IsTrue (all_sure (scope + length init + width + actions_locals acts) item) → IsTrue (are_sound_parts scope width init guard acts item)
sound_parts scope width init guard acts item a b c d =
    true_both (all_sure scope init) _ a (true_both (is_sure (scope + length init) guard) _ b (true_both (are_sound_actions (length init) (scope + length init + width) acts) _ c d))

module _ (of : Pipe) (e : ℕ) (below : IsTrue (is_sound_core (core_at e of))) where
  -- a stage over a sound term, in the scope of that term
  sound_stage : (init : List Term) (guard : Term) (acts : Actions) (item : List Term) → IsTrue (are_sound_parts e (stream_width of) init guard acts item) → IsTrue (is_sound_core (core_at e of) && (core_scope (core_at e of) == e && are_sound_parts e (core_width (core_at e of)) init guard acts item))
  sound_stage init guard acts item h =
      true_both (is_sound_core (core_at e of)) _ below
      (true_both (core_scope (core_at e of) == e) (are_sound_parts e (core_width (core_at e of)) init guard acts item) (eq-eqb (core_scope (core_at e of)) e (scope_at of e))
      (subst (λ w. IsTrue (are_sound_parts e w init guard acts item)) (sym (width_at of e)) h))

sure_here : (n k : ℕ) → k < n → IsTrue (is_sure n (Var k))
sure_here n k h = true_both (nat_lt k n) true (lt-ltb k n h) refl

module _ (laws : Laws) (may : InputNames) where
  pub sound_at : (p : Pipe) (e : ℕ) → StreamReadsScope may e p → IsTrue (is_sound_core (core_at e p))
  sound_at (stream.Array k) e s =
      let a = lt-ltb e (e + 1) (omega arith) in
      let b = lt-ltb e (e + 1 + 0) (omega arith) in
      let c = lt-ltb e (e + 1 + 0 + 1) (omega arith) in
      let d = lt-ltb (e + 1) (e + 1 + 0 + 1) (omega arith) in
      rw (a, b, c, d) refl
  sound_at (stream.Range low high) e s =
      let more = laws.wider e (e + 1) high (omega arith) s.1.reads.bound in
      let a = lt-ltb e (e + 1) (omega arith) in
      let b = lt-ltb e (e + 1 + 0) (omega arith) in
      let c = lt-ltb e (e + 1 + 0 + 1) (omega arith) in
      let d = lt-ltb (e + 1) (e + 1 + 0 + 1) (omega arith) in
      rw (s.0.reads.bound, s.0.undivided, s.1.reads.bound, s.1.undivided, more, a, b, c, d) refl
  sound_at (stream.Unfold seed guard item next) e s =
      let m = length seed in
      let k = e + length seed + length item in
      let acts : Actions = let_all item (next_state k next) in
      let at : e + length seed + 0 ≡ e + length seed = omega arith in
      sound_parts e 0 seed guard acts (variables (e + length seed) (length item)) (sure_seed may e seed s.seed_reads) (sure_opening may (e + length seed) guard s.guard_reads)
      (subst (λ n. IsTrue (are_sound_actions m n acts)) (sym at)
      (sound_lets laws m item (next_state k next) (e + length seed) s.item_reads.bound
      (sound_state laws m k next (omega (arith, s.same_width)) (laws.wider_row (e + length seed) k next (omega arith) s.next_reads.bound))))
      (sure_variables (e + length seed + 0 + actions_locals acts) (e + length seed) (length item) (omega (arith, locals_lets item (next_state k next))))
  sound_at (stream.Map of body) e s =
      let w = stream_width of in
      let at : e + 0 + w ≡ e + w = omega arith in
      let bound = over_rows may (λ k. IsTrue (all_bound (e + k) body)) of e s.0 s.1.bound in
      sound_stage of e (sound_at of e s.0) [] always (let_all body Nil) (variables (e + w) (length body))
      (sound_parts e w [] always (let_all body Nil) (variables (e + w) (length body)) refl refl
      (subst (λ n. IsTrue (are_sound_actions 0 n (let_all body Nil))) (sym at) (sound_lets laws 0 body Nil (e + w) bound refl))
      (sure_variables (e + 0 + w + actions_locals (let_all body Nil)) (e + w) (length body) (omega (arith, locals_lets body Nil))))
  sound_at (stream.Filter of body) e s =
      let w = stream_width of in
      let at : e + 0 + w ≡ e + w = omega arith in
      let bound = over_rows may (λ k. IsTrue (is_bound (e + k) body)) of e s.0 s.1.bound in
      sound_stage of e (sound_at of e s.0) [] always (test_acts KeepIf (e + w) body) (variables e w)
      (sound_parts e w [] always (test_acts KeepIf (e + w) body) (variables e w) refl refl
      (subst (λ n. IsTrue (are_sound_actions 0 n (test_acts KeepIf (e + w) body))) (sym at) (sound_test laws 0 KeepIf (λ n f. refl) (e + w) body bound))
      (sure_variables (e + 0 + w + actions_locals (test_acts KeepIf (e + w) body)) e w (omega arith)))
  sound_at (stream.Take of count) e s =
      let w = stream_width of in
      let c = lt-ltb e (e + 1 + w) (omega arith) in
      sound_stage of e (sound_at of e s.0) (rows_asked count ∷ []) (Var e) (set_state (one_less e ∷ [])) (variables (e + 1) w)
      (sound_parts e w (rows_asked count ∷ []) (Var e) (set_state (one_less e ∷ [])) (variables (e + 1) w) (rw (s.1.reads.bound, s.1.undivided) refl) (sure_here (e + 1) e (omega arith))
      (rw c refl) (sure_variables (e + 1 + w + 0) (e + 1) w (omega arith)))
  sound_at (stream.Drop of count) e s =
      let w = stream_width of in
      let c = lt-ltb e (e + 1 + w) (omega arith) in
      sound_stage of e (sound_at of e s.0) (rows_asked count ∷ []) always (drop_acts e) (variables (e + 1) w)
      (sound_parts e w (rows_asked count ∷ []) always (drop_acts e) (variables (e + 1) w) (rw (s.1.reads.bound, s.1.undivided) refl) refl
      (rw c refl) (sure_variables (e + 1 + w + 0) (e + 1) w (omega arith)))
  sound_at (stream.TakeWhile of body) e s =
      let w = stream_width of in
      let at : e + 0 + w ≡ e + w = omega arith in
      let bound = over_rows may (λ k. IsTrue (is_bound (e + k) body)) of e s.0 s.1.bound in
      sound_stage of e (sound_at of e s.0) [] always (test_acts StopUnless (e + w) body) (variables e w)
      (sound_parts e w [] always (test_acts StopUnless (e + w) body) (variables e w) refl refl
      (subst (λ n. IsTrue (are_sound_actions 0 n (test_acts StopUnless (e + w) body))) (sym at) (sound_test laws 0 StopUnless (λ n f. refl) (e + w) body bound))
      (sure_variables (e + 0 + w + actions_locals (test_acts StopUnless (e + w) body)) e w (omega arith)))
  sound_at (stream.Scan of seed next) e s =
      let w = stream_width of in
      let k = e + length seed + w in
      let bound = over_rows may (λ v. IsTrue (all_bound (e + length seed + v) next)) of e s.0 s.1.next_reads.bound in
      sound_stage of e (sound_at of e s.0) seed always (next_state k next) (variables e (length seed))
      (sound_parts e w seed always (next_state k next) (variables e (length seed)) (sure_seed may e seed s.1.seed_reads) refl
      (sound_state laws (length seed) k next (omega (arith, s.1.same_width)) bound)
      (sure_variables (k + actions_locals (next_state k next)) e (length seed) (omega arith)))
  sound_at (stream.FlatMap of inner) e s =
      let w = stream_width of in
      let scoped = over_rows may (λ k. StreamReadsScope may (e + k) inner) of e s.0 s.1 in
      true_both (is_sound_core (core_at e of)) _ (sound_at of e s.0)
      (true_both (is_sound_core (core_at (e + w) inner)) (core_scope (core_at (e + w) inner) == core_scope (core_at e of) + core_width (core_at e of)) (sound_at inner (e + w) scoped)
      (eq-eqb (core_scope (core_at (e + w) inner)) (core_scope (core_at e of) + core_width (core_at e of)) (omega (arith, scope_at inner (e + w), scope_at of e, width_at of e))))
  sound_at (stream.Zip left right) e s =
      true_both (is_sound_core (core_at e left)) _ (sound_at left e s.0)
      (true_both (is_sound_core (core_at e right)) (core_scope (core_at e right) == core_scope (core_at e left)) (sound_at right e s.1)
      (eq-eqb (core_scope (core_at e right)) (core_scope (core_at e left)) (scope_at right e ∙ sym (scope_at left e))))

-- ---- leaves

module _ (test : Term → Bool) (var : (k : ℕ) → IsTrue (test (Var k))) (nought : IsTrue (test (Lit 0))) (one : IsTrue (test (Lit 1))) (truth : (b : Bool) → IsTrue (test (Truth b))) where
  leaves_variables : (k n : ℕ) → IsTrue (row_leaves test (variables k n))
  leaves_variables k zero = refl
  leaves_variables k (suc n) = true_both (test (Var k)) (row_leaves test (variables (suc k) n)) (var k) (leaves_variables (suc k) n)

  leaves_lets : (es : List Term) (more : Actions) → IsTrue (row_leaves test es) → IsTrue (actions_leaves test more) → IsTrue (actions_leaves test (let_all es more))
  leaves_lets [] more h k = k
  leaves_lets (e ∷ es) more h k =
      let p = both_true (all_leaves test e) (row_leaves test es) h in true_both (all_leaves test e) (actions_leaves test (let_all es more)) p.0 (leaves_lets es more p.1 k)

  leaves_set : (es : List Term) → IsTrue (row_leaves test es) → IsTrue (actions_leaves test (set_state es))
  leaves_set es h = true_both (row_leaves test es) true h refl

  leaves_state : (k : ℕ) (es : List Term) → IsTrue (row_leaves test es) → IsTrue (actions_leaves test (next_state k es))
  leaves_state k es h = by_form (all_undivided es)
    where
      by_form : (t : Bool) → IsTrue (actions_leaves test (if t then set_state es else let_all es (set_state (variables k (length es)))))
      by_form true = leaves_set es h
      by_form false = leaves_lets es (set_state (variables k (length es))) h (leaves_set (variables k (length es)) (leaves_variables k (length es)))

  leaves_test : (act : Term → Action) → ((e : Term) → action_leaves test (act e) ≡ all_leaves test e) → (k : ℕ) (e : Term) → IsTrue (all_leaves test e) → IsTrue (actions_leaves test (test_acts act k e))
  leaves_test act is k e h = by_form (is_undivided e)
    where
      single : (f : Term) → IsTrue (all_leaves test f) → IsTrue (actions_leaves test (Cons (act f) Nil))
      single f q = true_both (action_leaves test (act f)) true (is f ∙ q) refl

      by_form : (t : Bool) → IsTrue (actions_leaves test (if t then Cons (act e) Nil else Cons (Let e) (Cons (act (Var k)) Nil)))
      by_form true = single e h
      by_form false = true_both (all_leaves test e) (actions_leaves test (Cons (act (Var k)) Nil)) h (single (Var k) (var k))

  leaves_parts : (init : List Term) (guard : Term) (acts : Actions) (item : List Term) → IsTrue (row_leaves test init) → IsTrue (all_leaves test guard) → IsTrue (actions_leaves test acts) → IsTrue (row_leaves test item) → IsTrue (parts_leaves test init guard acts item)
  leaves_parts init guard acts item a b c d =
      true_both (row_leaves test init) _ a (true_both (all_leaves test guard) _ b (true_both (actions_leaves test acts) (row_leaves test item) c d))

  -- the leaves of an expression pass the test for what the stream reads of its scope
  module _ (may : InputNames) (array : (k : ℕ) → IsTrue (may.array k) → IsTrue (test (Len k))) (term : (n : ℕ) (e : Term) → ReadsScope may n e → IsTrue (all_leaves test e)) (row : (n : ℕ) (es : List Term) → RowReadsScope may n es → IsTrue (row_leaves test es)) where
    pub leaves_at : (p : Pipe) (e n : ℕ) → StreamReadsScope may n p → IsTrue (core_leaves test (core_at e p))
    leaves_at (stream.Array k) e n s = rw (array k s, var e, var (e + 1), nought, one) refl
    leaves_at (stream.Range low high) e n s = rw (term n low s.0.reads, term n high s.1.reads, var e, var (e + 1), one) refl
    leaves_at (stream.Unfold seed guard item next) e n s =
        let k = e + length seed + length item in
        let m = n + length seed in
        leaves_parts seed guard (let_all item (next_state k next)) (variables (e + length seed) (length item)) (row n seed s.seed_reads.reads) (term m guard s.guard_reads.reads)
        (leaves_lets item (next_state k next) (row m item s.item_reads) (leaves_state k next (row m next s.next_reads))) (leaves_variables (e + length seed) (length item))
    leaves_at (stream.Map of body) e n s =
        true_both (core_leaves test (core_at e of)) _ (leaves_at of e n s.0)
        (leaves_parts [] always (let_all body Nil) (variables (e + stream_width of) (length body)) refl (truth true)
        (leaves_lets body Nil (row (n + rows.stream_width of) body s.1) refl) (leaves_variables (e + stream_width of) (length body)))
    leaves_at (stream.Filter of body) e n s =
        true_both (core_leaves test (core_at e of)) _ (leaves_at of e n s.0)
        (leaves_parts [] always (test_acts KeepIf (e + stream_width of) body) (variables e (stream_width of)) refl (truth true)
        (leaves_test KeepIf (λ f. refl) (e + stream_width of) body (term (n + rows.stream_width of) body s.1)) (leaves_variables e (stream_width of)))
    leaves_at (stream.Take of count) e n s =
        true_both (core_leaves test (core_at e of)) _ (leaves_at of e n s.0)
        (leaves_parts (rows_asked count ∷ []) (Var e) (set_state (one_less e ∷ [])) (variables (e + 1) (stream_width of)) (rw (term n count s.1.reads, nought) refl) (var e)
        (rw (var e, one) refl) (leaves_variables (e + 1) (stream_width of)))
    leaves_at (stream.Drop of count) e n s =
        true_both (core_leaves test (core_at e of)) _ (leaves_at of e n s.0)
        (leaves_parts (rows_asked count ∷ []) always (drop_acts e) (variables (e + 1) (stream_width of)) (rw (term n count s.1.reads, nought) refl) (truth true)
        (rw (var e, one, truth false) refl) (leaves_variables (e + 1) (stream_width of)))
    leaves_at (stream.TakeWhile of body) e n s =
        true_both (core_leaves test (core_at e of)) _ (leaves_at of e n s.0)
        (leaves_parts [] always (test_acts StopUnless (e + stream_width of) body) (variables e (stream_width of)) refl (truth true)
        (leaves_test StopUnless (λ f. refl) (e + stream_width of) body (term (n + rows.stream_width of) body s.1)) (leaves_variables e (stream_width of)))
    leaves_at (stream.Scan of seed next) e n s =
        true_both (core_leaves test (core_at e of)) _ (leaves_at of e n s.0)
        (leaves_parts seed always (next_state (e + length seed + stream_width of) next) (variables e (length seed)) (row n seed s.1.seed_reads.reads) (truth true)
        (leaves_state (e + length seed + stream_width of) next (row (n + length seed + rows.stream_width of) next s.1.next_reads)) (leaves_variables e (length seed)))
    leaves_at (stream.FlatMap of inner) e n s =
        true_both (core_leaves test (core_at e of)) (core_leaves test (core_at (e + stream_width of) inner)) (leaves_at of e n s.0)
        (leaves_at inner (e + stream_width of) (n + rows.stream_width of) s.1)
    leaves_at (stream.Zip left right) e n s =
        true_both (core_leaves test (core_at e left)) (core_leaves test (core_at e right)) (leaves_at left e n s.0) (leaves_at right e n s.1)
