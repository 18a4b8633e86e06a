-- Two machines side by side in one: it gives no more than their rows side by side, and reaches these in the turns of both.
use Rattle.std.proofs.Common.{◌≡◌, ℕ, zero, suc, ◌+◌, ◌≤◌, List, ◌++◌, refl, arith}
use Rattle.list_denotation.specs.Rows.{End, Cut, Broken, Rows, Ends, Row, zip_rows}
use Rattle.list_denotation.specs.Values.{choice}
use Rattle.denotation_laws.specs.FarRows.{FarRows, CutOff, SameEnd, SameRow}
use Rattle.stateful_core.specs.Turns.{Turn, Gives, Skips, Stops, Breaks, after_turn, turn_rows}
use Rattle.machine_turns.specs.MachineRuns.{Runs, pauses, ends, stops, breaks, skips, gives}
use Rattle.machine_turns.specs.ZipTurns.{ZipState, LeftDue, RightDue, zip_guard, left_turn, right_turn, zip_step}
use Rattle.machine_turns.proofs.MachineRuns.{in_turns, rows_shut}

module _ {S T : Type 0} (guard : S → ℕ) (turn : S → Turn S) (opens : T → ℕ) (takes : T → Turn T) where
  abbrev ZipRuns : Rows → ZipState S T → ℕ → Type 0
  ZipRuns = Runs (zip_guard guard opens) (zip_step turn takes)

  abbrev so_many : {x : Rows} {s : ZipState S T} {w v : ℕ} → w ≡ v → ZipRuns x s w → ZipRuns x s v
  so_many = in_turns (zip_guard guard opens) (zip_step turn takes)

  -- ---- the rows come in as many turns

  -- the left rows come from a state in so many turns, whatever the right ones are
  abbrev Comes : Rows → S → ℕ → Type 0
  Comes x s a = (y : Rows) (t : T) (b : ℕ) → Runs opens takes y t b → ZipRuns (zip_rows x y) (LeftDue s t) (a + b)

  held_runs : (r : List ℕ) (s : S) (x : Rows) (a : ℕ) → Comes x s a → {y : Rows} {t : T} {b : ℕ} → Runs opens takes y t b → ZipRuns (zip_rows (Row r x) y) (RightDue r s t) (a + b)
  held_runs r s x a f (pauses t w) = so_many (omega arith) (pauses (RightDue r s t) (a + w))
  held_runs r s x a f (ends t w e) = so_many (omega arith) (ends (RightDue r s t) (a + w) e)
  held_runs r s x a f (stops t w g e h) = so_many (omega arith) (stops (RightDue r s t) (a + w) g e (rw h refl))
  held_runs r s x a f (breaks t w g i e h) = so_many (omega arith) (breaks (RightDue r s t) (a + w) g i e (rw h refl))
  held_runs r s x a f (skips t w g q y e h l) =
      so_many (omega arith) (skips (RightDue r s t) (a + w) g (RightDue r s q) _ e (rw h refl) (held_runs r s x a f l))
  held_runs r s x a f (gives t w g p q y e h l) =
      so_many (omega arith) (gives (RightDue r s t) (a + w) g (r ++ p) (LeftDue s q) _ e (rw h refl) (f y q w l))

  pub zip_runs : {x : Rows} {s : S} {a : ℕ} → Runs guard turn x s a → Comes x s a
  zip_runs (pauses s w) y t b k = so_many (omega arith) (pauses (LeftDue s t) (w + b))
  zip_runs (ends s w e) y t b k = so_many (omega arith) (ends (LeftDue s t) (w + b) e)
  zip_runs (stops s w g e h) y t b k = so_many (omega arith) (stops (LeftDue s t) (w + b) g e (rw h refl))
  zip_runs (breaks s w g i e h) y t b k = so_many (omega arith) (breaks (LeftDue s t) (w + b) g i e (rw h refl))
  zip_runs (skips s w g q x e h l) y t b k =
      so_many (omega arith) (skips (LeftDue s t) (w + b) g (LeftDue q t) _ e (rw h refl) (zip_runs l y t b k))
  zip_runs (gives s w g r q x e h l) y t b k =
      so_many (omega arith) (skips (LeftDue s t) (w + b) g (RightDue r q t) _ e (rw h refl) (held_runs r q x w (zip_runs l) k))

  -- ---- the rows are no further

  -- what is left at a state, where the left machine has a turns left, and the right one b
  abbrev left_at : ℕ → ℕ → ZipState S T → Rows
  left_at a b (LeftDue s t) = zip_rows (turn_rows guard turn a s) (turn_rows opens takes b t)
  left_at a b (RightDue r s t) = zip_rows (Row r (turn_rows guard turn a s)) (turn_rows opens takes b t)

  left_far : (a b g : ℕ) (t : T) (u : Turn S) (f : ZipState S T → Rows) → ((z : ZipState S T) → FarRows (f z) (left_at a b z)) → FarRows (choice g (Ends End) (after_turn (left_turn t u) f)) (zip_rows (choice g (Ends End) (after_turn u (λ s. turn_rows guard turn a s))) (turn_rows opens takes b t))
  left_far a b zero t u f h = SameEnd End
  left_far a b (suc g) t (Gives r s) f h = h (RightDue r s t)
  left_far a b (suc g) t (Skips s) f h = h (LeftDue s t)
  left_far a b (suc g) t Stops f h = SameEnd End
  left_far a b (suc g) t (Breaks x) f h = SameEnd (Broken x)

  right_far : (a b g : ℕ) (r : List ℕ) (s : S) (u : Turn T) (f : ZipState S T → Rows) → ((z : ZipState S T) → FarRows (f z) (left_at a b z)) → FarRows (choice g (Ends End) (after_turn (right_turn r s u) f)) (zip_rows (Row r (turn_rows guard turn a s)) (choice g (Ends End) (after_turn u (λ t. turn_rows opens takes b t))))
  right_far a b zero r s u f h = SameEnd End
  right_far a b (suc g) r s (Gives q t) f h = SameRow (r ++ q) (h (LeftDue s t))
  right_far a b (suc g) r s (Skips t) f h = h (RightDue r s t)
  right_far a b (suc g) r s Stops f h = SameEnd End
  right_far a b (suc g) r s (Breaks x) f h = SameEnd (Broken x)

  no_left_turn_far : (a b : ℕ) (s : S) (t : T) (g : ℕ) → guard s ≡ g → FarRows (choice g (Ends End) (Ends Cut)) (left_at a b (LeftDue s t))
  no_left_turn_far a b s t zero e = rw (rows_shut guard turn a s e) (SameEnd End)
  no_left_turn_far a b s t (suc g) e = CutOff _

  no_right_turn_far : (a b : ℕ) (r : List ℕ) (s : S) (t : T) (g : ℕ) → opens t ≡ g → FarRows (choice g (Ends End) (Ends Cut)) (left_at a b (RightDue r s t))
  no_right_turn_far a b r s t zero e = rw (rows_shut opens takes b t e) (SameEnd End)
  no_right_turn_far a b r s t (suc g) e = CutOff _

  zip_far_at : (k a b : ℕ) → k ≤ a → k ≤ b → (z : ZipState S T) → FarRows (turn_rows (zip_guard guard opens) (zip_step turn takes) k z) (left_at a b z)
  zip_far_at zero a b ha hb (LeftDue s t) = no_left_turn_far a b s t (guard s) refl
  zip_far_at zero a b ha hb (RightDue r s t) = no_right_turn_far a b r s t (opens t) refl
  zip_far_at (suc k) zero b ha hb z = absurd (omega arith)
  zip_far_at (suc k) (suc a) zero ha hb z = absurd (omega arith)
  zip_far_at (suc k) (suc a) (suc b) ha hb (LeftDue s t) =
      left_far a (suc b) (guard s) t (turn s) _ (λ z. zip_far_at k a (suc b) (omega arith) (omega arith) z)
  zip_far_at (suc k) (suc a) (suc b) ha hb (RightDue r s t) =
      right_far (suc a) b (opens t) r s (takes t) _ (λ z. zip_far_at k (suc a) b (omega arith) (omega arith) z)

  pub zip_far : (n : ℕ) (s : S) (t : T) → FarRows (turn_rows (zip_guard guard opens) (zip_step turn takes) n (LeftDue s t)) (zip_rows (turn_rows guard turn n s) (turn_rows opens takes n t))
  zip_far n s t = zip_far_at n n n (omega arith) (omega arith) (LeftDue s t)
