-- What is asked for acts, of those behind the first one.
use Rattle.std.proofs.Common.{◌≡◌, ℕ, ◌+◌, ◌≤◌, List, length, Option, Some, None, refl, sym, ap, subst, ◌∙◌, arith}
use Rattle.std.specs.Prelude.{IsTrue}
use Rattle.std.proofs.lemmas.Bool.{lt-ltb, ltb-true}
use Rattle.strm_num.proofs.Truths.{both_true, true_both}
use Rattle.list_denotation.specs.Scopes.{is_bound}
use Rattle.list_denotation.specs.Terms as term
use Rattle.list_denotation.specs.Terms.{Term}
use Rattle.state_alloc.specs.declared.slots.Slots.{Slots}
use Rattle.stateful_core.specs.CoreShapes.{action_locals}
use Rattle.stateful_core.specs.CoreTerms.{Action, Actions, Cons}
use Rattle.stateful_core.specs.WellFormed.{is_sound_action, are_sound_actions}
use Rattle.turn_blocks.specs.Temporaries.{action_temps}
use Rattle.row_emit.specs.declared.tails.Tail.{Tail}
use Rattle.row_emit.specs.declared.tails.Tail.TheVariants as tail
use Rattle.turn_emit.specs.declared.turns.Turn.{Turn}
use Rattle.state_alloc.specs.Frames.{Takes}
use Rattle.row_emit.specs.Readiness.{FitsTail}
use Rattle.turn_emit.specs.Turns.{piece_at, IsReadyAt, FitsHeld}

-- ---- longer scopes

pub bound_longer : (n m : ℕ) (e : Term) → n ≤ m → IsTrue (is_bound n e) → IsTrue (is_bound m e)
bound_longer n m (term.Lit w) le h = refl
bound_longer n m (term.Truth b) le h = refl
bound_longer n m (term.Var k) le h = lt-ltb k m (omega (arith, ltb-true k n h, le))
bound_longer n m (term.Param k) le h = refl
bound_longer n m (term.Len k) le h = refl
bound_longer n m (term.Neg a) le h = bound_longer n m a le h
bound_longer n m (term.Not a) le h = bound_longer n m a le h
bound_longer n m (term.Bin o a b) le h =
    let p = both_true (is_bound n a) (is_bound n b) h in
    true_both (is_bound m a) (is_bound m b) (bound_longer n m a le p.0) (bound_longer n m b le p.1)
bound_longer n m (term.And a b) le h =
    let p = both_true (is_bound n a) (is_bound n b) h in
    true_both (is_bound m a) (is_bound m b) (bound_longer n m a le p.0) (bound_longer n m b le p.1)
bound_longer n m (term.Or a b) le h =
    let p = both_true (is_bound n a) (is_bound n b) h in
    true_both (is_bound m a) (is_bound m b) (bound_longer n m a le p.0) (bound_longer n m b le p.1)
bound_longer n m (term.If c a b) le h =
    let p = both_true (is_bound n c) (is_bound n (term.And a b)) h in
    let q = both_true (is_bound n a) (is_bound n b) p.1 in
    true_both (is_bound m c) (is_bound m (term.And a b)) (bound_longer n m c le p.0)
    (true_both (is_bound m a) (is_bound m b) (bound_longer n m a le q.0) (bound_longer n m b le q.1))

pub held_longer : (n m temps : ℕ) (held : Option Term) → n ≤ m → FitsHeld n temps held → FitsHeld m temps held
held_longer n m temps None le h = tt
held_longer n m temps (Some e) le h = record { bound = bound_longer n m e le h.bound; temporaries = h.temporaries }

-- ---- more variables that were given out

pub fits_later : (first_temp temps next n : ℕ) (tail : Tail) → next ≤ n → FitsTail first_temp temps next tail → FitsTail first_temp temps n tail
fits_later first_temp temps next n (tail.Print width) le h = tt
fits_later first_temp temps next n (tail.Fold vars es width) le h = record {
  given = λ i d lt. record { below = omega (arith, (h.given i d lt).below, le); apart = (h.given i d lt).apart };
  few = h.few;
  within = h.within;
  bound = h.bound;
  temporaries = h.temporaries;
}
fits_later first_temp temps next n (tail.Mark v) le h = tt
fits_later first_temp temps next n tail.Nowhere le h = tt

pub ready_later : (turn : Turn) (acts : Actions) (rows : List ℕ) (first_temp temps next n : ℕ) → next ≤ n → IsReadyAt turn acts rows first_temp temps next → IsReadyAt turn acts rows first_temp temps n
ready_later turn acts rows first_temp temps next n le r = record {
  words = r.words;
  few = r.few;
  sound = r.sound;
  temporaries = r.temporaries;
  width = r.width;
  tail = fits_later first_temp temps next n turn.tail le r.tail;
  stop = r.stop;
}

-- ---- behind the first act

module _ (turn : Turn) (a : Action) (acts : Actions) (rows : List ℕ) (first_temp temps next : ℕ) (r : IsReadyAt turn (Cons a acts) rows first_temp temps next) where
  both_sound : IsTrue (is_sound_action turn.place.states (length rows) a) × IsTrue (are_sound_actions turn.place.states (length rows + action_locals a) acts)
  both_sound =
      both_true (is_sound_action turn.place.states (length rows) a) (are_sound_actions turn.place.states (length rows + action_locals a) acts) r.sound

  pub first_sound : IsTrue (is_sound_action turn.place.states (length rows) a)
  first_sound = both_sound.0

  pub first_temps : action_temps a ≤ temps
  first_temps = omega (arith, r.temporaries)

  -- with the local words that it adds
  pub ready_behind : (more : List ℕ) (n : ℕ) → length more ≡ length rows + action_locals a → next ≤ n → IsReadyAt turn acts more first_temp temps n
  ready_behind more n same le = record {
    words = omega (arith, r.words, same);
    few = r.few;
    sound = subst (λ m. IsTrue (are_sound_actions turn.place.states m acts)) (sym same) both_sound.1;
    temporaries = omega (arith, r.temporaries);
    width = omega (arith, r.width, same);
    tail = fits_later first_temp temps next n turn.tail le r.tail;
    stop = r.stop;
  }

-- ---- at the same variables

pub ready_same : (turn : Turn) (acts : Actions) (rows rows' : List ℕ) (t t' m m' n n' : ℕ) → rows' ≡ rows → t' ≡ t → m' ≡ m → n' ≡ n → IsReadyAt turn acts rows t m n → IsReadyAt turn acts rows' t' m' n'
ready_same turn acts rows rows' t t' m m' n n' er et em en r =
    subst (λ x. IsReadyAt turn acts rows' t' m' x) (sym en)
    (subst (λ x. IsReadyAt turn acts rows' t' x n) (sym em)
    (subst (λ x. IsReadyAt turn acts rows' x m n) (sym et) (subst (λ x. IsReadyAt turn acts x t m n) (sym er) r)))

pub piece_same : (turn : Turn) (held : Option Term) (acts : Actions) (rows rows' : List ℕ) (t t' n n' : ℕ) → rows' ≡ rows → t' ≡ t → n' ≡ n → piece_at turn held acts rows' t' n' ≡ piece_at turn held acts rows t n
piece_same turn held acts rows rows' t t' n n' er et en =
    ap (λ x. piece_at turn held acts x t' n') er ∙ ap (λ x. piece_at turn held acts rows x n') et ∙ ap (λ x. piece_at turn held acts rows t x) en

module _ (turn : Turn) (acts : Actions) (s s' : Slots) (free : ℕ) (takes : Takes s s' free) where
  pub ready_after : IsReadyAt turn acts s.rows s.first_temp s.temps free → IsReadyAt turn acts s'.rows s'.first_temp s'.temps s'.next
  ready_after =
      ready_same turn acts s.rows s'.rows s.first_temp s'.first_temp s.temps s'.temps free s'.next takes.rows takes.first_temp takes.temps takes.next

  pub piece_after : piece_at turn None acts s'.rows s'.first_temp s'.next ≡ piece_at turn None acts s.rows s.first_temp free
  piece_after = piece_same turn None acts s.rows s'.rows s.first_temp s'.first_temp free s'.next takes.rows takes.first_temp takes.next

pub act_ready : (turn : Turn) (a b : Action) (acts : Actions) (rows : List ℕ) (t m n : ℕ) → a ≡ b → IsReadyAt turn (Cons a acts) rows t m n → IsReadyAt turn (Cons b acts) rows t m n
act_ready turn a b acts rows t m n e r = subst (λ x. IsReadyAt turn (Cons x acts) rows t m n) e r

pub held_at : (n n' m m' : ℕ) (held : Option Term) → n ≤ n' → m' ≡ m → FitsHeld n m held → FitsHeld n' m' held
held_at n n' m m' held le e h = subst (λ x. FitsHeld n' x held) (sym e) (held_longer n n' m held le h)
