-- An outer machine and an inner one for each of its rows in one: it gives no more than the inner lists joined, and reaches them in
-- the turns of the outer machine and of each inner one that is opened.
use Rattle.std.proofs.Common.{◌≡◌, ℕ, zero, suc, ◌+◌, ◌≤◌, List, length, refl, arith}
use Rattle.list_denotation.specs.Rows.{End, Cut, Broken, Rows, Ends, Row, followed_by, join_rows}
use Rattle.list_denotation.specs.Values.{choice}
use Rattle.list_denotation.specs.Work.{after_end, sum_over}
use Rattle.denotation_laws.specs.FarRows.{FarRows, CutOff, SameEnd, SameRow}
use Rattle.denotation_laws.specs.RowWords.{EachRow}
use Rattle.stateful_core.specs.Turns.{Turn, Gives, Skips, Stops, Breaks, after_turn, turn_rows}
use Rattle.machine_turns.specs.MachineRuns.{Runs, pauses, ends, stops, breaks, skips, gives}
use Rattle.machine_turns.specs.NestTurns.{NestState, Closed, Opened, nest_guard, outer_turn, inner_turn, nest_step}
use Rattle.machine_turns.proofs.MachineRuns.{in_turns, runs_within, rows_shut}

-- turns that are left for later rows may stand before those of an inner list, whether that comes to its end or not
later_turns : (y : Rows) (b a s : ℕ) → b + after_end y (a + s) 0 ≤ a + (b + after_end y s 0)
later_turns (Ends End) b a s = omega arith
later_turns (Ends Cut) b a s = omega arith
later_turns (Ends (Broken f)) b a s = omega arith
later_turns (Row r y) b a s = later_turns y b a s

module _ {S T : Type 0} (guard : S → ℕ) (turn : S → Turn S) (opens : List ℕ → T → ℕ) (takes : List ℕ → T → Turn T) (start : List ℕ → T) where
  abbrev step : NestState S T → Turn (NestState S T)
  step = nest_step turn opens takes start

  abbrev NestRuns : Rows → NestState S T → ℕ → Type 0
  NestRuns = Runs (nest_guard guard) step

  abbrev so_many : {x : Rows} {s : NestState S T} {w v : ℕ} → w ≡ v → NestRuns x s w → NestRuns x s v
  so_many = in_turns (nest_guard guard) step

  -- ---- the rows come in as many turns

  -- the rows of an open inner machine, and those behind them
  opened_runs : (r : List ℕ) {y : Rows} {t : T} {b : ℕ} → Runs (opens r) (takes r) y t b → (s : S) (z : Rows) (c : ℕ) → NestRuns z (Closed s) c → NestRuns (followed_by y z) (Opened r s t) (b + after_end y c 0)
  opened_runs r (pauses t w) s z c k = so_many (omega arith) (pauses (Opened r s t) w)
  opened_runs r (ends t w e) s z c k =
      so_many (omega arith) (skips (Opened r s t) (w + c) 0 (Closed s) z refl (rw e refl) (runs_within _ _ k (w + c) (omega arith)))
  opened_runs r (stops t w g e h) s z c k =
      so_many (omega arith) (skips (Opened r s t) (w + c) 0 (Closed s) z refl (rw (e, h) refl) (runs_within _ _ k (w + c) (omega arith)))
  opened_runs r (breaks t w g f e h) s z c k = so_many (omega arith) (breaks (Opened r s t) w 0 f refl (rw (e, h) refl))
  opened_runs r (skips t w g q x e h l) s z c k =
      so_many (omega arith) (skips (Opened r s t) _ 0 (Opened r s q) _ refl (rw (e, h) refl) (opened_runs r l s z c k))
  opened_runs r (gives t w g p q x e h l) s z c k =
      so_many (omega arith) (gives (Opened r s t) _ 0 p (Opened r s q) _ refl (rw (e, h) refl) (opened_runs r l s z c k))

  module _ (width : ℕ) (inner : List ℕ → Rows) (turns : List ℕ → ℕ) (reached : (r : List ℕ) → length r ≡ width → Runs (opens r) (takes r) (inner r) (start r) (turns r)) where
    pub nest_runs : {x : Rows} {s : S} {w : ℕ} → Runs guard turn x s w → EachRow (λ r. length r ≡ width) x → NestRuns (join_rows x inner) (Closed s) (w + sum_over x inner turns ◌+◌ 0)
    nest_runs (pauses s w) v = so_many (omega arith) (pauses (Closed s) w)
    nest_runs (ends s w e) v = so_many (omega arith) (ends (Closed s) w e)
    nest_runs (stops s w g e h) v = so_many (omega arith) (stops (Closed s) w g e (rw h refl))
    nest_runs (breaks s w g f e h) v = so_many (omega arith) (breaks (Closed s) w g f e (rw h refl))
    nest_runs (skips s w g q x e h l) v =
        so_many (omega arith) (skips (Closed s) _ g (Closed q) _ e (rw h refl) (nest_runs l v))
    nest_runs (gives s w g r q x e h l) v =
        so_many (omega arith) (skips (Closed s) (w + (turns r + after_end (inner r) (sum_over x inner turns ◌+◌ 0) 0)) g (Opened r q (start r)) _ e (rw h refl)
        (runs_within _ _ (opened_runs r (reached r v.0) q (join_rows x inner) _ (nest_runs l v.1)) _ (later_turns (inner r) (turns r) w (sum_over x inner turns ◌+◌ 0))))

  -- ---- the rows are no further

  -- the inner list of a row in n turns
  abbrev listed : ℕ → List ℕ → Rows
  listed n r = turn_rows (opens r) (takes r) n (start r)

  -- what is left at a state, where the outer machine has a turns left, an open inner one b, and each later one n
  abbrev left_at : ℕ → ℕ → ℕ → NestState S T → Rows
  left_at n a b (Closed s) = join_rows (turn_rows guard turn a s) (listed n)
  left_at n a b (Opened r s t) = followed_by (turn_rows (opens r) (takes r) b t) (join_rows (turn_rows guard turn a s) (listed n))

  outer_far : (n a g : ℕ) (u : Turn S) (f : NestState S T → Rows) → ((z : NestState S T) → FarRows (f z) (left_at n a n z)) → FarRows (choice g (Ends End) (after_turn (outer_turn start u) f)) (join_rows (choice g (Ends End) (after_turn u (λ s. turn_rows guard turn a s))) (listed n))
  outer_far n a zero u f h = SameEnd End
  outer_far n a (suc g) (Gives r s) f h = h (Opened r s (start r))
  outer_far n a (suc g) (Skips s) f h = h (Closed s)
  outer_far n a (suc g) Stops f h = SameEnd End
  outer_far n a (suc g) (Breaks x) f h = SameEnd (Broken x)

  inner_far : (n a b g : ℕ) (r : List ℕ) (s : S) (u : Turn T) (f : NestState S T → Rows) → ((z : NestState S T) → FarRows (f z) (left_at n a b z)) → FarRows (after_turn (choice g (Skips (Closed s)) (inner_turn r s u)) f) (followed_by (choice g (Ends End) (after_turn u (λ t. turn_rows (opens r) (takes r) b t))) (join_rows (turn_rows guard turn a s) (listed n)))
  inner_far n a b zero r s u f h = h (Closed s)
  inner_far n a b (suc g) r s (Gives q t) f h = SameRow q (h (Opened r s t))
  inner_far n a b (suc g) r s (Skips t) f h = h (Opened r s t)
  inner_far n a b (suc g) r s Stops f h = h (Closed s)
  inner_far n a b (suc g) r s (Breaks x) f h = SameEnd (Broken x)

  no_turn_far : (n a b : ℕ) (s : S) (g : ℕ) → guard s ≡ g → FarRows (choice g (Ends End) (Ends Cut)) (left_at n a b (Closed s))
  no_turn_far n a b s zero e = rw (rows_shut guard turn a s e) (SameEnd End)
  no_turn_far n a b s (suc g) e = CutOff _

  nest_far_at : (n k a b : ℕ) → k ≤ n → k ≤ a → k ≤ b → (z : NestState S T) → FarRows (turn_rows (nest_guard guard) step k z) (left_at n a b z)
  nest_far_at n zero a b hn ha hb (Closed s) = no_turn_far n a b s (guard s) refl
  nest_far_at n zero a b hn ha hb (Opened r s t) = CutOff _
  nest_far_at n (suc k) zero b hn ha hb z = absurd (omega arith)
  nest_far_at n (suc k) (suc a) zero hn ha hb z = absurd (omega arith)
  nest_far_at n (suc k) (suc a) (suc b) hn ha hb (Closed s) =
      outer_far n a (guard s) (turn s) _ (λ z. nest_far_at n k a n (omega arith) (omega arith) (omega arith) z)
  nest_far_at n (suc k) (suc a) (suc b) hn ha hb (Opened r s t) =
      inner_far n (suc a) b (opens r t) r s (takes r t) _ (λ z. nest_far_at n k (suc a) b (omega arith) (omega arith) (omega arith) z)

  pub nest_far : (n : ℕ) (s : S) → FarRows (turn_rows (nest_guard guard) step n (Closed s)) (join_rows (turn_rows guard turn n s) (listed n))
  nest_far n s = nest_far_at n n n n (omega arith) (omega arith) (omega arith) (Closed s)
