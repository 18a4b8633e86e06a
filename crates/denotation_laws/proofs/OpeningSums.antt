-- Sums over the openings of inner streams, of anything that is added: two such sums are related where what each opening adds is.
-- So they are equal, or one is at most the other, as their parts are.
use Rattle.std.proofs.Common.{◌≡◌, inl, inr, ℕ, ◌+◌, ◌≤◌, List, refl, arith}
use Rattle.list_denotation.specs.Rows.{End, Cut, Broken, Rows, Ends, Row}
use Rattle.list_denotation.specs.Work.{after_end, sum_over}
use Rattle.denotation_laws.specs.FarRows.{FarRows, CutOff, SameEnd, SameRow}
use Rattle.denotation_laws.specs.RowWords.{IsRowOf}

-- the relation holds where nothing is opened, and adding keeps it
module _ {A B : Type 0} (R : A → B → Type 0) (add : A → A → A) (none : A) (add_other : B → B → B) (none_other : B)
    (adds : (x : A) (y : B) (s : A) (t : B) → R x y → R s t → R (add x s) (add_other y t)) (nothing : R none none_other)
    (f g : List ℕ → Rows) (a : List ℕ → A) (b : List ℕ → B) where
  after_same : (x : Rows) (s : A) (t : B) → R s t → R (after_end x s none) (after_end x t none_other)
  after_same (Ends End) s t h = h
  after_same (Ends Cut) s t h = nothing
  after_same (Ends (Broken e)) s t h = nothing
  after_same (Row r x) s t h = after_same x s t h

  -- over the same rows with the same inner lists
  pub sums_alike : (rows : Rows) → ((r : List ℕ) → IsRowOf r rows → f r ≡ g r) → ((r : List ℕ) → IsRowOf r rows → R (a r) (b r)) → R (sum_over rows f a add none) (sum_over rows g b add_other none_other)
  sums_alike (Ends e) same parts = nothing
  sums_alike (Row r rest) same parts =
      adds (a r) (b r) _ _ (parts r (inl refl))
      (rw (same r (inl refl)) (after_same (g r) _ _ (sums_alike rest (λ s among. same s (inr among)) (λ s among. parts s (inr among)))))

  -- and over rows and inner lists that are as far as others, where what nothing adds is related to all
  module _ (lowest : (y : B) → R none y) where
    after_far : {x y : Rows} (s : A) (t : B) → FarRows x y → R s t → R (after_end x s none) (after_end y t none_other)
    after_far s t (CutOff u) h = lowest _
    after_far s t (SameEnd End) h = h
    after_far s t (SameEnd Cut) h = nothing
    after_far s t (SameEnd (Broken e)) h = nothing
    after_far s t (SameRow r k) h = after_far s t k h

    pub sums_far : {o u : Rows} → FarRows o u → ((r : List ℕ) → IsRowOf r o → FarRows (f r) (g r)) → ((r : List ℕ) → IsRowOf r o → R (a r) (b r)) → R (sum_over o f a add none) (sum_over u g b add_other none_other)
    sums_far (CutOff u) inner parts = lowest _
    sums_far (SameEnd e) inner parts = nothing
    sums_far (SameRow r h) inner parts =
        adds (a r) (b r) _ _ (parts r (inl refl))
        (after_far _ _ (inner r (inl refl)) (sums_far h (λ s among. inner s (inr among)) (λ s among. parts s (inr among))))

pub sum_same : {A : Type 0} (add : A → A → A) (none : A) (f g : List ℕ → Rows) (a b : List ℕ → A) (rows : Rows) → ((r : List ℕ) → IsRowOf r rows → f r ≡ g r) → ((r : List ℕ) → IsRowOf r rows → a r ≡ b r) → sum_over rows f a add none ≡ sum_over rows g b add none
sum_same add none f g a b rows same parts =
    sums_alike (λ x y. x ≡ y) add none add none (λ x y s t p q. rw (p, q) refl) refl f g a b rows same parts

pub sum_at_most : (f g : List ℕ → Rows) (a b : List ℕ → ℕ) (o u : Rows) → FarRows o u → ((r : List ℕ) → IsRowOf r o → FarRows (f r) (g r)) → ((r : List ℕ) → IsRowOf r o → a r ≤ b r) → sum_over o f a ◌+◌ 0 ≤ sum_over u g b ◌+◌ 0
sum_at_most f g a b o u far inner parts =
    sums_far (λ x y. x ≤ y) ◌+◌ 0 ◌+◌ 0 (λ x y s t p q. omega arith) (omega arith) f g a b (λ y. omega arith) far inner parts
