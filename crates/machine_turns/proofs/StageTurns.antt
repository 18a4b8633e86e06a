-- A machine and a stage over its rows in one: it has the rows that the stage makes of those of the machine, and reaches them in
-- as many turns. So has a stage for a stage and another one over its rows.
use Rattle.std.proofs.Common.{◌≡◌, ℕ, zero, suc, List, refl, sym, ap}
use Rattle.list_denotation.specs.Values.{choice}
use Rattle.list_denotation.specs.Rows.{Ending, End, Cut, Broken, Rows, Ends, Row}
use Rattle.denotation_laws.specs.FarRows.{FarRows, CutOff, SameEnd, SameRow}
use Rattle.stateful_core.specs.Turns.{Turn, Gives, Skips, Stops, Breaks, after_turn, turn_rows, stage_rows}
use Rattle.machine_turns.specs.MachineRuns.{Runs, pauses, ends, stops, breaks, skips, gives}
use Rattle.machine_turns.specs.StageTurns.{with_state, join_turn, join_guard, join_takes, join_step}

-- ---- how far a stage is

after_far : {T : Type 0} (u : Turn T) (f g : T → Rows) → ((t : T) → FarRows (f t) (g t)) → FarRows (after_turn u f) (after_turn u g)
after_far (Gives r t) f g h = SameRow r (h t)
after_far (Skips t) f g h = h t
after_far Stops f g h = SameEnd End
after_far (Breaks x) f g h = SameEnd (Broken x)

choice_far : (w : ℕ) (a b c d : Rows) → FarRows a c → FarRows b d → FarRows (choice w a b) (choice w c d)
choice_far zero a b c d h k = h
choice_far (suc w) a b c d h k = k

module _ {T : Type 0} (opens : T → ℕ) (takes : T → List ℕ → Turn T) where
  cut_far : (t : T) (rows : Rows) → FarRows (stage_rows opens takes t (Ends Cut)) (stage_rows opens takes t rows)
  cut_far t (Ends e) = choice_far (opens t) _ _ _ _ (SameEnd End) (CutOff _)
  cut_far t (Row r rows) = choice_far (opens t) _ _ _ _ (SameEnd End) (CutOff _)

  -- what a stage makes of rows that are as far as others is as far as what it makes of these
  pub stage_far : (t : T) {o u : Rows} → FarRows o u → FarRows (stage_rows opens takes t o) (stage_rows opens takes t u)
  stage_far t (CutOff u) = cut_far t u
  stage_far t (SameEnd e) = choice_far (opens t) _ _ _ _ (SameEnd End) (SameEnd e)
  stage_far t (SameRow r h) = choice_far (opens t) _ _ _ _ (SameEnd End) (after_far (takes t r) _ _ (λ q. stage_far q h))

-- ---- what a stage makes of the rows behind a turn

module _ {T : Type 0} (opens : T → ℕ) (takes : T → List ℕ → Turn T) where
  -- where its guard is false all is over
  stage_shut : (t : T) (rows : Rows) → opens t ≡ 0 → stage_rows opens takes t rows ≡ Ends End
  stage_shut t (Ends e) h = rw h refl
  stage_shut t (Row r rows) h = rw h refl

  join_end : (e : Ending) (t : T) (h g : ℕ) → opens t ≡ h → choice (choice h 0 g) (Ends End) (Ends e) ≡ stage_rows opens takes t (choice g (Ends End) (Ends e))
  join_end e t zero g o = sym (stage_shut t _ o)
  join_end e t (suc k) zero o = rw o refl
  join_end e t (suc k) (suc g) o = rw o refl

  module _ {S : Type 0} (f : S × T → Rows) (l : S → Rows) (behind : (s : S) (v : T) → f (s, v) ≡ stage_rows opens takes v (l s)) where
    join_row : (q : S) (u : Turn T) → after_turn (with_state u q) f ≡ after_turn u (λ v. stage_rows opens takes v (l q))
    join_row q (Gives p v) = ap (Row p) (behind q v)
    join_row q (Skips v) = behind q v
    join_row q Stops = refl
    join_row q (Breaks y) = refl

    join_open : (t : T) (k g : ℕ) (u : Turn S) → opens t ≡ suc k → choice g (Ends End) (after_turn (join_turn u takes t) f) ≡ stage_rows opens takes t (choice g (Ends End) (after_turn u l))
    join_open t k zero u o = rw o refl
    join_open t k (suc g) (Gives r q) o = rw o (join_row q (takes t r))
    join_open t k (suc g) (Skips q) o = behind q t
    join_open t k (suc g) Stops o = rw o refl
    join_open t k (suc g) (Breaks y) o = rw o refl

    join_next : (t : T) (h g : ℕ) (u : Turn S) → opens t ≡ h → choice (choice h 0 g) (Ends End) (after_turn (join_turn u takes t) f) ≡ stage_rows opens takes t (choice g (Ends End) (after_turn u l))
    join_next t zero g u o = sym (stage_shut t _ o)
    join_next t (suc k) g u o = join_open t k g u o

module _ {S T : Type 0} (guard : S → ℕ) (turn : S → Turn S) (opens : T → ℕ) (takes : T → List ℕ → Turn T) where
  abbrev JoinRuns : Rows → S × T → ℕ → Type 0
  JoinRuns = Runs (join_guard guard opens) (join_step turn takes)

  guard_open : (s : S) (t : T) (g k : ℕ) → guard s ≡ g → opens t ≡ suc k → join_guard guard opens (s, t) ≡ g
  guard_open s t g k e h = rw (h, e) refl

  guard_shut : (s : S) (t : T) → opens t ≡ 0 → join_guard guard opens (s, t) ≡ 0
  guard_shut s t h = rw h refl

  -- ---- the rows come in as many turns

  -- where the guard of the stage is false all is over, and else there is what the rows say
  if_open : (s : S) (t : T) (w : ℕ) (x y : Rows) (h : ℕ) → opens t ≡ h → (y ≡ choice h (Ends End) x) → ((k : ℕ) → opens t ≡ suc k → JoinRuns x (s, t) (suc w)) → JoinRuns y (s, t) (suc w)
  if_open s t w x y zero e q f = rw q (ends (s, t) w (guard_shut s t e))
  if_open s t w x y (suc k) e q f = rw q (f k e)

  row_runs : (s : S) (t : T) (w g : ℕ) (r : List ℕ) (q : S) (x : Rows) → guard s ≡ suc g → turn s ≡ Gives r q → (k : ℕ) → opens t ≡ suc k → (u : Turn T) → takes t r ≡ u → ((t : T) → JoinRuns (stage_rows opens takes t x) (q, t) w) → JoinRuns (after_turn u (λ v. stage_rows opens takes v x)) (s, t) (suc w)
  row_runs s t w g r q x e h k o (Gives p v) c f = gives (s, t) w g p (q, v) _ (guard_open s t _ k e o) (rw (h, c) refl) (f v)
  row_runs s t w g r q x e h k o (Skips v) c f = skips (s, t) w g (q, v) _ (guard_open s t _ k e o) (rw (h, c) refl) (f v)
  row_runs s t w g r q x e h k o Stops c f = stops (s, t) w g (guard_open s t _ k e o) (rw (h, c) refl)
  row_runs s t w g r q x e h k o (Breaks y) c f = breaks (s, t) w g y (guard_open s t _ k e o) (rw (h, c) refl)

  stage_choice : (t : T) (x : Rows) → stage_rows opens takes t x ≡ choice (opens t) (Ends End) (stage_rows opens takes t x)
  stage_choice t x = go (opens t) refl
    where
      go : (h : ℕ) → opens t ≡ h → stage_rows opens takes t x ≡ choice h (Ends End) (stage_rows opens takes t x)
      go zero e = stage_shut opens takes t x e
      go (suc k) e = refl

  pub join_runs : {x : Rows} {s : S} {w : ℕ} → Runs guard turn x s w → (t : T) → JoinRuns (stage_rows opens takes t x) (s, t) w
  join_runs (pauses s w) t = if_open s t w (Ends Cut) _ (opens t) refl refl (λ k h. pauses (s, t) w)
  join_runs (ends s w e) t = if_open s t w (Ends End) _ (opens t) refl refl (λ k h. ends (s, t) w (guard_open s t _ k e h))
  join_runs (stops s w g e h) t =
      if_open s t w (Ends End) _ (opens t) refl refl (λ k o. stops (s, t) w g (guard_open s t _ k e o) (rw h refl))
  join_runs (breaks s w g f e h) t =
      if_open s t w (Ends (Broken f)) _ (opens t) refl refl (λ k o. breaks (s, t) w g f (guard_open s t _ k e o) (rw h refl))
  join_runs (skips s w g q x e h r) t =
      if_open s t w (stage_rows opens takes t x) _ (opens t) refl (stage_choice t x) (λ k o. skips (s, t) w g (q, t) _ (guard_open s t _ k e o) (rw h refl) (join_runs r t))
  join_runs (gives s w g r q x e h k) t =
      if_open s t w (after_turn (takes t r) (λ v. stage_rows opens takes v x)) _ (opens t) refl refl (λ j o. row_runs s t w g r q x e h j o (takes t r) refl (λ v. join_runs k v))

  -- ---- the rows are those of the stage

  pub join_rows_of : (n : ℕ) (s : S) (t : T) → turn_rows (join_guard guard opens) (join_step turn takes) n (s, t) ≡ stage_rows opens takes t (turn_rows guard turn n s)
  join_rows_of zero s t = join_end opens takes Cut t (opens t) (guard s) refl
  join_rows_of (suc n) s t = join_next opens takes _ (λ q. turn_rows guard turn n q) (λ q v. join_rows_of n q v) t (opens t) (guard s) (turn s) refl

module _ {S T : Type 0} (guard : S → ℕ) (lower : S → List ℕ → Turn S) (opens : T → ℕ) (takes : T → List ℕ → Turn T) where
  -- two stages in one make of rows what the second makes of those of the first
  pub join_stages_of : (rows : Rows) (s : S) (t : T) → stage_rows (join_guard guard opens) (join_takes lower takes) (s, t) rows ≡ stage_rows opens takes t (stage_rows guard lower s rows)
  join_stages_of (Ends e) s t = join_end opens takes e t (opens t) (guard s) refl
  join_stages_of (Row r rows) s t = join_next opens takes _ (λ q. stage_rows guard lower q rows) (λ q v. join_stages_of rows q v) t (opens t) (guard s) (lower s r) refl
