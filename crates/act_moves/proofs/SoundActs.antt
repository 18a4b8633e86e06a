-- Acts and guards that are sound are sound still where their words have other numbers.
use Rattle.std.proofs.Common.{◌≡◌, ◌⊎◌, inl, inr, ℕ, ◌+◌, ◌≤◌, ◌<◌, List, [], ◌∷◌, ◌++◌, length, Bool, true, false, ◌&&◌, refl, sym, ◌∙◌, subst, arith}
use Rattle.std.specs.Prelude.{IsTrue, nat_lt, nat_le, if◌then◌else◌}
use Rattle.std.proofs.lemmas.Bool.{ltb-true, ltb-false, lt-ltb, leb-true, le-leb}
use Rattle.strm_num.proofs.Truths.{both_true, true_both}
use Rattle.list_denotation.specs.Scopes.{is_bound_leaf, is_bound, all_bound}
use Rattle.list_denotation.specs.Terms.{Term, Lit, Var, And}
use Rattle.list_denotation.specs.Typing.{is_undivided, all_undivided}
use Rattle.stateful_core.specs.CoreTerms.{Action, Let, Read, KeepIf, StopUnless, Update, When, Actions, Nil, Cons, join}
use Rattle.stateful_core.specs.CoreShapes.{action_locals, actions_locals}
use Rattle.stateful_core.specs.StreamCores.{let_all}
use Rattle.stateful_core.specs.WellFormed.{is_sure, all_sure, is_sound_action, are_sound_actions, are_sound_parts}
use Rattle.act_moves.specs.Renumbering.{with_room, renumber, renumber_row, move_action, move_actions}
use Rattle.act_moves.specs.Flags.{skip_with, close_unless}
use Rattle.act_moves.proofs.RenumberedLeaves.{length_renumbered, all_append, leaves_renumbered, row_renumbered, undivided_renumbered, all_undivided_renumbered}

-- ---- local words

pub locals_join : (a b : Actions) → actions_locals (join a b) ≡ actions_locals a + actions_locals b
locals_join Nil b = omega arith
locals_join (Cons x a) b = omega (arith, locals_join a b)

pub locals_lets : (es : List Term) (more : Actions) → actions_locals (let_all es more) ≡ length es + actions_locals more
locals_lets [] more = omega arith
locals_lets (e ∷ es) more = omega (arith, locals_lets es more)

module _ (f : ℕ → ℕ) (k : ℕ) (halt : Term → Action) (no_locals : (e : Term) → action_locals (halt e) ≡ 0) where
  act_locals_moved : (a : Action) → action_locals (move_action f k halt a) ≡ action_locals a
  act_locals_moved (Let e) = refl
  act_locals_moved (Read i e) = refl
  act_locals_moved (KeepIf e) = refl
  act_locals_moved (StopUnless e) = no_locals (renumber f e)
  act_locals_moved (Update i es) = refl
  act_locals_moved (When e a b) = refl

  pub locals_moved : (acts : Actions) → actions_locals (move_actions f k halt acts) ≡ actions_locals acts
  locals_moved Nil = refl
  locals_moved (Cons a acts) = omega (arith, act_locals_moved a, locals_moved acts)

-- ---- numbers of words

-- room at a place keeps words before it, and moves those behind it
pub room_cases : (p d i : ℕ) → ((i < p) × (with_room p d i ≡ i)) ⊎ ((p ≤ i) × (with_room p d i ≡ i + d))
room_cases p d i = by_place (nat_lt i p) refl
  where
    by_place : (t : Bool) → nat_lt i p ≡ t → ((i < p) × ((if t then i else (i + d)) ≡ i)) ⊎ ((p ≤ i) × ((if t then i else (i + d)) ≡ i + d))
    by_place true h = inl (ltb-true i p h, refl)
    by_place false h = inr (ltb-false i p h, refl)

pub room_within : (p d n k : ℕ) → k < n → with_room p d k < n + d
room_within p d n k h = omega (arith, room_cases p d k)

module _ (f : ℕ → ℕ) (n m : ℕ) (within : (i : ℕ) → i < n → f i < m) where
  bound_leaf : (e : Term) → IsTrue (is_bound_leaf n e) → IsTrue (is_bound_leaf m (renumber f e))
  bound_leaf (Var k) h = lt-ltb (f k) m (within k (ltb-true k n h))
  bound_leaf _ h = refl

  pub sure_renumbered : (e : Term) → IsTrue (is_sure n e) → IsTrue (is_sure m (renumber f e))
  sure_renumbered e h =
      let p = both_true (is_bound n e) (is_undivided e) h in
      true_both (is_bound m (renumber f e)) (is_undivided (renumber f e)) (leaves_renumbered f (is_bound_leaf n) (is_bound_leaf m) bound_leaf e p.0) (undivided_renumbered f e ∙ p.1)

  pub bound_renumbered : (es : List Term) → IsTrue (all_bound n es) → IsTrue (all_bound m (renumber_row f es))
  bound_renumbered es h = row_renumbered f (is_bound_leaf n) (is_bound_leaf m) bound_leaf es h

  pub all_sure_renumbered : (es : List Term) → IsTrue (all_sure n es) → IsTrue (all_sure m (renumber_row f es))
  all_sure_renumbered es h =
      let p = both_true (all_bound n es) (all_undivided es) h in
      true_both (all_bound m (renumber_row f es)) (all_undivided (renumber_row f es)) (bound_renumbered es p.0) (all_undivided_renumbered f es ∙ p.1)

  pub let_bound : (e : Term) → IsTrue (is_bound n e) → IsTrue (is_bound m (renumber f e))
  let_bound e h = leaves_renumbered f (is_bound_leaf n) (is_bound_leaf m) bound_leaf e h

pub sure_append : (n : ℕ) (es fs : List Term) → IsTrue (all_sure n es) → IsTrue (all_sure n fs) → IsTrue (all_sure n (es ++ fs))
sure_append n es fs h k =
    let p = both_true (all_bound n es) (all_undivided es) h in
    let q = both_true (all_bound n fs) (all_undivided fs) k in
    true_both (all_bound n (es ++ fs)) (all_undivided (es ++ fs)) (all_append (is_bound n) es fs p.0 q.0) (all_append is_undivided es fs p.1 q.1)

-- the same holds of an Or, whose parts are tested alike
pub sure_and : (n : ℕ) (g h : Term) → IsTrue (is_sure n g) → IsTrue (is_sure n h) → IsTrue (is_sure n (And g h))
sure_and n g h p q =
    let a = both_true (is_bound n g) (is_undivided g) p in
    let b = both_true (is_bound n h) (is_undivided h) q in
    true_both (is_bound n g && is_bound n h) (is_undivided g && is_undivided h) (true_both (is_bound n g) (is_bound n h) a.0 b.0) (true_both (is_undivided g) (is_undivided h) a.1 b.1)

-- ---- acts

module _ (m : ℕ) where
  pub sound_join : (a b : Actions) (n : ℕ) → IsTrue (are_sound_actions m n a) → IsTrue (are_sound_actions m (n + actions_locals a) b) → IsTrue (are_sound_actions m n (join a b))
  sound_join Nil b n h k = let P : ℕ → Type 0 = λ i. IsTrue (are_sound_actions m i b) in let q : n + 0 ≡ n = omega arith in subst P q k
  sound_join (Cons x a) b n h k =
      let p = both_true (is_sound_action m n x) (are_sound_actions m (n + action_locals x) a) h in
      let P : ℕ → Type 0 = λ i. IsTrue (are_sound_actions m i b) in
      let q : n + (action_locals x + actions_locals a) ≡ n + action_locals x + actions_locals a = omega arith in
      true_both (is_sound_action m n x) (are_sound_actions m (n + action_locals x) (join a b)) p.0 (sound_join a b (n + action_locals x) p.1 (subst P q k))

-- acts over m words of state are sound over more words of state, k words further on, where the numbers of n words and of any
-- local words behind them are below those of as many more
module _ (f : ℕ → ℕ) (k m more : ℕ) (room : k + m ≤ more) (halt : Term → Action)
    (halts : (n : ℕ) (e : Term) → IsTrue (is_sure n e) → IsTrue (is_sound_action more n (halt e))) (no_locals : (e : Term) → action_locals (halt e) ≡ 0) where
  mutual
    sound_act_moved : (a : Action) (n to : ℕ) → ((j i : ℕ) → i < n + j → f i < to + j) → IsTrue (is_sound_action m n a) → IsTrue (is_sound_action more to (move_action f k halt a))
    sound_act_moved (Let e) n to fits h = let_bound f n to (λ i b. omega (arith, fits 0 i (omega arith))) e h
    sound_act_moved (Read i e) n to fits h = sure_renumbered f n to (λ i b. omega (arith, fits 0 i (omega arith))) e h
    sound_act_moved (KeepIf e) n to fits h = sure_renumbered f n to (λ i b. omega (arith, fits 0 i (omega arith))) e h
    sound_act_moved (StopUnless e) n to fits h = halts to (renumber f e) (sure_renumbered f n to (λ i b. omega (arith, fits 0 i (omega arith))) e h)
    sound_act_moved (Update i es) n to fits h =
        let p = both_true (nat_le (i + length es) m) (all_sure n es) h in
        true_both (nat_le (k + i + length (renumber_row f es)) more) (all_sure to (renumber_row f es))
        (le-leb (k + i + length (renumber_row f es)) more (omega (arith, leb-true (i + length es) m p.0, length_renumbered f es)))
        (all_sure_renumbered f n to (λ i b. omega (arith, fits 0 i (omega arith))) es p.1)
    sound_act_moved (When e a b) n to fits h =
        let p = both_true (is_sure n e) (are_sound_actions m n a && are_sound_actions m n b) h in
        let q = both_true (are_sound_actions m n a) (are_sound_actions m n b) p.1 in
        true_both (is_sure to (renumber f e)) _ (sure_renumbered f n to (λ i b. omega (arith, fits 0 i (omega arith))) e p.0)
        (true_both (are_sound_actions more to (move_actions f k halt a)) (are_sound_actions more to (move_actions f k halt b)) (sound_moved a n to fits q.0) (sound_moved b n to fits q.1))

    pub sound_moved : (acts : Actions) (n to : ℕ) → ((j i : ℕ) → i < n + j → f i < to + j) → IsTrue (are_sound_actions m n acts) → IsTrue (are_sound_actions more to (move_actions f k halt acts))
    sound_moved Nil n to fits h = refl
    sound_moved (Cons a acts) n to fits h =
        let p = both_true (is_sound_action m n a) (are_sound_actions m (n + action_locals a) acts) h in
        let P : ℕ → Type 0 = λ i. IsTrue (are_sound_actions more (to + i) (move_actions f k halt acts)) in
        true_both (is_sound_action more to (move_action f k halt a)) (are_sound_actions more (to + action_locals (move_action f k halt a)) (move_actions f k halt acts)) (sound_act_moved a n to fits p.0)
        (subst P (sym (act_locals_moved f k halt no_locals a))
        (sound_moved acts (n + action_locals a) (to + action_locals a) (λ j i b. omega (arith, fits (action_locals a + j) i (omega arith))) p.1))

-- ---- acts that set the flag, and end the turn

pub sound_flag : (states n flag : ℕ) → 1 ≤ states → IsTrue (is_sound_action states n (Update 0 (Lit flag ∷ [])))
sound_flag states n flag h = true_both (nat_le 1 states) true (le-leb 1 states h) refl

pub sound_skip : (states n flag : ℕ) → 1 ≤ states → IsTrue (are_sound_actions states n (skip_with flag))
sound_skip states n flag h =
    true_both (is_sound_action states n (Update 0 (Lit flag ∷ []))) true (sound_flag states n flag h) refl

pub sound_close : (states n : ℕ) (e : Term) → 1 ≤ states → IsTrue (is_sure n e) → IsTrue (is_sound_action states n (close_unless e))
sound_close states n e h s = true_both (is_sure n e) (are_sound_actions states n (skip_with 0)) s (sound_skip states n 0 h)

-- ---- parts

pub record SoundParts (scope width : ℕ) (init : List Term) (guard : Term) (acts : Actions) (item : List Term) : Type 0 where
  pub init_sure : IsTrue (all_sure scope init)
  pub guard_sure : IsTrue (is_sure (scope + length init) guard)
  pub acts_sound : IsTrue (are_sound_actions (length init) (scope + length init + width) acts)
  pub item_sure : IsTrue (all_sure (scope + length init + width + actions_locals acts) item)

pub sound_parts : (scope width : ℕ) (init : List Term) (guard : Term) (acts : Actions) (item : List Term) → IsTrue (are_sound_parts scope width init guard acts item) → SoundParts scope width init guard acts item
sound_parts scope width init guard acts item h =
    let p = both_true (all_sure scope init) (is_sure (scope + length init) guard && (are_sound_actions (length init) (scope + length init + width) acts && all_sure (scope + length init + width + actions_locals acts) item)) h in
    let q = both_true (is_sure (scope + length init) guard) (are_sound_actions (length init) (scope + length init + width) acts && all_sure (scope + length init + width + actions_locals acts) item) p.1 in
    let r = both_true (are_sound_actions (length init) (scope + length init + width) acts) (all_sure (scope + length init + width + actions_locals acts) item) q.1 in
    record { init_sure = p.0; guard_sure = q.0; acts_sound = r.0; item_sure = r.1 }

pub parts_sound : (scope width : ℕ) (init : List Term) (guard : Term) (acts : Actions) (item : List Term) → SoundParts scope width init guard acts item → IsTrue (are_sound_parts scope width init guard acts item)
parts_sound scope width init guard acts item h =
    true_both (all_sure scope init) _ h.init_sure
    (true_both (is_sure (scope + length init) guard) _ h.guard_sure
    (true_both (are_sound_actions (length init) (scope + length init + width) acts) _ h.acts_sound h.item_sure))
