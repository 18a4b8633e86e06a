-- What a machine reaches is as far as what it gives, and it reaches its own rows.
use Rattle.std.proofs.Common.{◌≡◌, ℕ, zero, suc, ◌+◌, ◌≤◌, refl, subst, arith}
use Rattle.list_denotation.specs.Values.{choice}
use Rattle.list_denotation.specs.Rows.{End, Cut, Broken, Rows, Ends}
use Rattle.denotation_laws.specs.FarRows.{FarRows, CutOff, SameEnd, SameRow}
use Rattle.machine_turns.specs.MachineRuns.{Runs, pauses, ends, stops, breaks, skips, gives}
use Rattle.stateful_core.specs.Turns.{Turn, Gives, Skips, Stops, Breaks, after_turn, turn_rows, count_turn, turn_count}

module _ {S : Type 0} (guard : S → ℕ) (turn : S → Turn S) where
  abbrev R : Rows → S → ℕ → Type 0
  R = Runs guard turn

  -- rows that a machine reaches in so many turns are as far as what it gives in these
  pub runs_far : {rows : Rows} {s : S} {w : ℕ} → R rows s w → FarRows rows (turn_rows guard turn w s)
  runs_far (pauses s w) = CutOff _
  runs_far (ends s w e) = rw e (SameEnd End)
  runs_far (stops s w g e h) = rw (e, h) (SameEnd End)
  runs_far (breaks s w g f e h) = rw (e, h) (SameEnd (Broken f))
  runs_far (skips s w g t rows e h k) = rw (e, h) (runs_far k)
  runs_far (gives s w g r t rows e h k) = rw (e, h) (SameRow r (runs_far k))

  pub in_turns : {rows : Rows} {s : S} {w v : ℕ} → w ≡ v → R rows s w → R rows s v
  in_turns {rows} {s} e k = subst (λ z. R rows s z) e k

  own_turn : (n : ℕ) (s : S) (g : ℕ) → guard s ≡ g → (u : Turn S) → turn s ≡ u → ((t : S) → R (turn_rows guard turn n t) t (turn_count guard turn n t + 1)) → R (choice g (Ends End) (after_turn u (λ t. turn_rows guard turn n t))) s (choice g 0 (count_turn u (λ t. turn_count guard turn n t)) + 1)
  own_turn n s zero e u h k = ends s 0 e
  own_turn n s (suc g) e (Gives r t) h k = in_turns (omega arith) (gives s _ g r t _ e h (k t))
  own_turn n s (suc g) e (Skips t) h k = in_turns (omega arith) (skips s _ g t _ e h (k t))
  own_turn n s (suc g) e Stops h k = stops s 0 g e h
  own_turn n s (suc g) e (Breaks f) h k = breaks s 0 g f e h

  own_end : (s : S) (g : ℕ) → guard s ≡ g → R (choice g (Ends End) (Ends Cut)) s 1
  own_end s zero e = ends s 0 e
  own_end s (suc g) e = pauses s 0

  -- the machine's own rows come in the turns that it counts, and 1
  pub own_runs : (n : ℕ) (s : S) → R (turn_rows guard turn n s) s (turn_count guard turn n s + 1)
  own_runs zero s = own_end s (guard s) refl
  own_runs (suc n) s = own_turn n s (guard s) refl (turn s) refl (λ t. own_runs n t)

  -- rows that are reached are reached in more turns too
  pub runs_within : {rows : Rows} {s : S} {w : ℕ} → R rows s w → (v : ℕ) → w ≤ v → R rows s v
  runs_within (pauses s w) (suc v) h = pauses s v
  runs_within (ends s w e) (suc v) h = ends s v e
  runs_within (stops s w g e k) (suc v) h = stops s v g e k
  runs_within (breaks s w g f e k) (suc v) h = breaks s v g f e k
  runs_within (skips s w g t rows e k r) (suc v) h = skips s v g t rows e k (runs_within r v (omega arith))
  runs_within (gives s w g q t rows e k r) (suc v) h = gives s v g q t rows e k (runs_within r v (omega arith))
  runs_within (pauses s w) zero h = absurd (omega arith)
  runs_within (ends s w e) zero h = absurd (omega arith)
  runs_within (stops s w g e k) zero h = absurd (omega arith)
  runs_within (breaks s w g f e k) zero h = absurd (omega arith)
  runs_within (skips s w g t rows e k r) zero h = absurd (omega arith)
  runs_within (gives s w g q t rows e k r) zero h = absurd (omega arith)

  -- where its guard is false a machine gives no row
  pub rows_shut : (n : ℕ) (s : S) → guard s ≡ 0 → turn_rows guard turn n s ≡ Ends End
  rows_shut zero s h = rw h refl
  rows_shut (suc n) s h = rw h refl
