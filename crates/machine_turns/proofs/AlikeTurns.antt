-- Machines over different states whose turns are alike give the same rows, and so do stages over rows.
use Rattle.std.proofs.Common.{◌≡◌, ℕ, zero, suc, List, refl, ap, ◌∙◌, subst}
use Rattle.list_denotation.specs.Values.{Fault, choice}
use Rattle.list_denotation.specs.Rows.{End, Cut, Rows, Ends, Row}
use Rattle.denotation_laws.specs.RowWords.{EachRow}
use Rattle.stateful_core.specs.Turns.{Turn, Gives, Skips, Stops, Breaks, after_turn, turn_rows, stage_rows}
use Rattle.machine_turns.specs.AlikeTurns.{AlikeTurns, both_give, both_skip, both_stop, both_break, SameTruth}
use Rattle.machine_turns.specs.MachineRuns.{Runs, pauses, ends, stops, breaks, skips, gives}

same_choice : {A : Type 0} (a b : ℕ) (p q : A) → SameTruth a b → choice a p q ≡ choice b p q
same_choice zero zero p q e = refl
same_choice zero (suc b) p q e = cc
same_choice (suc a) zero p q e = cc
same_choice (suc a) (suc b) p q e = refl

also_false : (a b : ℕ) → SameTruth a b → b ≡ 0 → a ≡ 0
also_false zero b e h = refl
also_false (suc a) zero e h = cc
also_false (suc a) (suc b) e h = cc

also_true : (a b g : ℕ) → SameTruth a b → b ≡ suc g → (k : ℕ) × (a ≡ suc k)
also_true (suc a) b g e h = (a, refl)
also_true zero zero g e h = cc
also_true zero (suc b) g e h = cc

module _ {A B : Type 0} (R : A → B → Type 0) where
  also_stops : {u : Turn A} {v : Turn B} → AlikeTurns R u v → v ≡ Stops → u ≡ Stops
  also_stops (both_give r h) e = cc
  also_stops (both_skip h) e = cc
  also_stops both_stop e = refl
  also_stops (both_break f) e = cc

  also_breaks : {u : Turn A} {v : Turn B} (f : Fault) → AlikeTurns R u v → v ≡ Breaks f → u ≡ Breaks f
  also_breaks f (both_give r h) e = cc
  also_breaks f (both_skip h) e = cc
  also_breaks f both_stop e = cc
  also_breaks f (both_break x) e = cc

  also_skips : {u : Turn A} {v : Turn B} (q : B) → AlikeTurns R u v → v ≡ Skips q → (p : A) × (u ≡ Skips p) × R p q
  also_skips q (both_give r h) e = cc
  also_skips q (both_skip {x} {y} h) e = (x, refl, let k : y ≡ q = cc in subst (λ z. R x z) k h)
  also_skips q both_stop e = cc
  also_skips q (both_break f) e = cc

  also_gives : {u : Turn A} {v : Turn B} (r : List ℕ) (q : B) → AlikeTurns R u v → v ≡ Gives r q → (p : A) × (u ≡ Gives r p) × R p q
  also_gives r q (both_give s {x} {y} h) e = (x, (let k : s ≡ r = cc in ap (λ z. Gives z x) k), let k : y ≡ q = cc in subst (λ z. R x z) k h)
  also_gives r q (both_skip h) e = cc
  also_gives r q both_stop e = cc
  also_gives r q (both_break f) e = cc

  alike_after : {u : Turn A} {v : Turn B} (f : A → Rows) (g : B → Rows) → ((x : A) (y : B) → R x y → f x ≡ g y) → AlikeTurns R u v → after_turn u f ≡ after_turn v g
  alike_after f g h (both_give r {x} {y} k) = ap (Row r) (h x y k)
  alike_after f g h (both_skip {x} {y} k) = h x y k
  alike_after f g h both_stop = refl
  alike_after f g h (both_break x) = refl

  module _ (guard : A → ℕ) (turn : A → Turn A) (guard' : B → ℕ) (turn' : B → Turn B)
      (guards : (x : A) (y : B) → R x y → SameTruth (guard x) (guard' y)) (turns : (x : A) (y : B) → R x y → AlikeTurns R (turn x) (turn' y)) where
    pub alike_rows : (n : ℕ) (x : A) (y : B) → R x y → turn_rows guard turn n x ≡ turn_rows guard' turn' n y
    alike_rows zero x y h = same_choice (guard x) (guard' y) (Ends End) (Ends Cut) (guards x y h)
    alike_rows (suc n) x y h =
        same_choice (guard x) (guard' y) (Ends End) (after_turn (turn x) (λ z. turn_rows guard turn n z)) (guards x y h)
        ∙ ap (λ z. choice (guard' y) (Ends End) z) (alike_after (λ z. turn_rows guard turn n z) (λ z. turn_rows guard' turn' n z) (λ p q k. alike_rows n p q k) (turns x y h))

    pub alike_runs : {rows : Rows} {y : B} {w : ℕ} → Runs guard' turn' rows y w → (x : A) → R x y → Runs guard turn rows x w
    alike_runs (pauses y w) x h = pauses x w
    alike_runs (ends y w e) x h = ends x w (also_false (guard x) (guard' y) (guards x y h) e)
    alike_runs (stops y w g e k) x h =
        let t = also_true (guard x) (guard' y) g (guards x y h) e in stops x w t.0 t.1 (also_stops (turns x y h) k)
    alike_runs (breaks y w g f e k) x h =
        let t = also_true (guard x) (guard' y) g (guards x y h) e in breaks x w t.0 f t.1 (also_breaks f (turns x y h) k)
    alike_runs (skips y w g q rows e k l) x h =
        let t = also_true (guard x) (guard' y) g (guards x y h) e in
        let u = also_skips q (turns x y h) k in skips x w t.0 u.0 rows t.1 u.1 (alike_runs l u.0 u.2)
    alike_runs (gives y w g r q rows e k l) x h =
        let t = also_true (guard x) (guard' y) g (guards x y h) e in
        let u = also_gives r q (turns x y h) k in gives x w t.0 r u.0 rows t.1 u.1 (alike_runs l u.0 u.2)

  -- stages over the same rows, of which P holds
  module _ (P : List ℕ → Type 0) (guard : A → ℕ) (takes : A → List ℕ → Turn A) (guard' : B → ℕ) (takes' : B → List ℕ → Turn B)
      (guards : (x : A) (y : B) → R x y → SameTruth (guard x) (guard' y)) (turns : (r : List ℕ) → P r → (x : A) (y : B) → R x y → AlikeTurns R (takes x r) (takes' y r)) where
    pub alike_stages : (rows : Rows) → EachRow P rows → (x : A) (y : B) → R x y → stage_rows guard takes x rows ≡ stage_rows guard' takes' y rows
    alike_stages (Ends e) each x y h = same_choice (guard x) (guard' y) (Ends End) (Ends e) (guards x y h)
    alike_stages (Row r rest) each x y h =
        same_choice (guard x) (guard' y) (Ends End) (after_turn (takes x r) (λ z. stage_rows guard takes z rest)) (guards x y h)
        ∙ ap (λ z. choice (guard' y) (Ends End) z)
        (alike_after (λ z. stage_rows guard takes z rest) (λ z. stage_rows guard' takes' z rest) (λ p q k. alike_stages rest each.1 p q k) (turns r each.0 x y h))
