-- The variables that are kept, with their new numbers.
use Rattle.std.proofs.Common.{◌≡◌, inl, inr, ℕ, zero, suc, ◌+◌, ◌<◌, ◌≤◌, Bool, true, false, List, [], ◌∷◌, length, get_or, set, refl, sym, ap, ◌∙◌, arith}
use Rattle.std.specs.Prelude.{slice_index, replicate}
use Rattle.std.proofs.Math.ListN.{get_or-eq_default}
use Rattle.std.proofs.lemmas.Bool.{false≢true, cases_lt}
use Rattle.std.proofs.lemmas.List.{get_or-set_same}
use Rattle.dead_code.specs.Live.{marked_count, ranks_from, ranks, number_in}
use Rattle.dead_code.specs.Needs.{is_marked, with_mark}

-- the items at marked places
abbrev pub kept : {A : Type 0} → List Bool → List A → List A
kept [] xs = []
kept (m ∷ marks) [] = []
kept (true ∷ marks) (x ∷ xs) = x ∷ kept marks xs
kept (false ∷ marks) (x ∷ xs) = kept marks xs

-- how many marked places stand before one
abbrev pub rank : List Bool → ℕ → ℕ
rank [] v = 0
rank (m ∷ marks) zero = 0
rank (true ∷ marks) (suc v) = suc (rank marks v)
rank (false ∷ marks) (suc v) = rank marks v

ranked_from : (n : ℕ) (marks : List Bool) (v d : ℕ) → v < length marks → get_or (ranks_from n marks) v d ≡ n + rank marks v
ranked_from n [] v d h = absurd (omega (arith, h))
ranked_from n (true ∷ marks) zero d h = omega arith
ranked_from n (false ∷ marks) zero d h = omega arith
ranked_from n (true ∷ marks) (suc v) d h = let e = ranked_from (suc n) marks v d (omega (arith, h)) in omega (arith, e)
ranked_from n (false ∷ marks) (suc v) d h = ranked_from n marks v d (omega (arith, h))

pub ranks_long : (n : ℕ) (marks : List Bool) → length (ranks_from n marks) ≡ length marks
ranks_long n [] = refl
ranks_long n (true ∷ marks) = ap suc (ranks_long (suc n) marks)
ranks_long n (false ∷ marks) = ap suc (ranks_long n marks)

pub ranked : (marks : List Bool) (v : ℕ) → v < length marks → number_in (ranks marks) v ≡ rank marks v
ranked marks v h = let e = ranked_from 0 marks v v h in omega (arith, e)

-- a variable past the last one keeps its number
pub unranked : (marks : List Bool) (v : ℕ) → length marks ≤ v → number_in (ranks marks) v ≡ v
unranked marks v h = get_or-eq_default (ranks marks) v (let e = ranks_long 0 marks in omega (arith, e, h))

pub marked_within : (marks : List Bool) (v : ℕ) → is_marked marks v ≡ true → v < length marks
marked_within [] v h = absurd (false≢true h)
marked_within (m ∷ marks) zero h = omega arith
marked_within (m ∷ marks) (suc v) h = let e = marked_within marks v h in omega (arith, e)

pub rank_below : (marks : List Bool) (v : ℕ) → is_marked marks v ≡ true → rank marks v < marked_count marks
rank_below [] v h = absurd (false≢true h)
rank_below (true ∷ marks) zero h = omega arith
rank_below (false ∷ marks) zero h = absurd (false≢true h)
rank_below (true ∷ marks) (suc v) h = let e = rank_below marks v h in omega (arith, e)
rank_below (false ∷ marks) (suc v) h = rank_below marks v h

pub count_within : (marks : List Bool) → marked_count marks ≤ length marks
count_within [] = omega arith
count_within (true ∷ marks) = let e = count_within marks in omega (arith, e)
count_within (false ∷ marks) = let e = count_within marks in omega (arith, e)

-- ---- what stands in kept variables

module _ {A : Type 0} where
  pub kept_long : (marks : List Bool) (xs : List A) → length xs ≡ length marks → length (kept marks xs) ≡ marked_count marks
  kept_long [] xs h = refl
  kept_long (m ∷ marks) [] h = absurd (omega (arith, h))
  kept_long (true ∷ marks) (x ∷ xs) h = ap suc (kept_long marks xs (omega (arith, h)))
  kept_long (false ∷ marks) (x ∷ xs) h = kept_long marks xs (omega (arith, h))

  pub kept_at : (marks : List Bool) (xs : List A) (v : ℕ) (d : A) → length xs ≡ length marks → is_marked marks v ≡ true → get_or (kept marks xs) (rank marks v) d ≡ get_or xs v d
  kept_at [] xs v d h is = absurd (false≢true is)
  kept_at (m ∷ marks) [] v d h is = absurd (omega (arith, h))
  kept_at (true ∷ marks) (x ∷ xs) zero d h is = refl
  kept_at (false ∷ marks) (x ∷ xs) zero d h is = absurd (false≢true is)
  kept_at (true ∷ marks) (x ∷ xs) (suc v) d h is = kept_at marks xs v d (omega (arith, h)) is
  kept_at (false ∷ marks) (x ∷ xs) (suc v) d h is = kept_at marks xs v d (omega (arith, h)) is

  pub kept_set : (marks : List Bool) (xs : List A) (v : ℕ) (x : A) → length xs ≡ length marks → is_marked marks v ≡ true → kept marks (set xs v x) ≡ set (kept marks xs) (rank marks v) x
  kept_set [] xs v x h is = absurd (false≢true is)
  kept_set (m ∷ marks) [] v x h is = absurd (omega (arith, h))
  kept_set (true ∷ marks) (y ∷ xs) zero x h is = refl
  kept_set (false ∷ marks) (y ∷ xs) zero x h is = absurd (false≢true is)
  kept_set (true ∷ marks) (y ∷ xs) (suc v) x h is = ap (λ z. y ∷ z) (kept_set marks xs v x (omega (arith, h)) is)
  kept_set (false ∷ marks) (y ∷ xs) (suc v) x h is = kept_set marks xs v x (omega (arith, h)) is

  pub kept_unset : (marks : List Bool) (xs : List A) (v : ℕ) (x : A) → is_marked marks v ≡ false → kept marks (set xs v x) ≡ kept marks xs
  kept_unset [] xs v x is = refl
  kept_unset (m ∷ marks) [] v x is = refl
  kept_unset (true ∷ marks) (y ∷ xs) zero x is = absurd (false≢true (sym is))
  kept_unset (false ∷ marks) (y ∷ xs) zero x is = refl
  kept_unset (true ∷ marks) (y ∷ xs) (suc v) x is = ap (λ z. y ∷ z) (kept_unset marks xs v x is)
  kept_unset (false ∷ marks) (y ∷ xs) (suc v) x is = kept_unset marks xs v x is

  pub kept_same : (marks : List Bool) (d : A) → kept marks (replicate (length marks) d) ≡ replicate (marked_count marks) d
  kept_same [] d = refl
  kept_same (true ∷ marks) d = ap (λ z. d ∷ z) (kept_same marks d)
  kept_same (false ∷ marks) d = kept_same marks d

-- ---- variables that are read: marked ones, or past the last

pub read_kept : (marks : List Bool) (env : List ℕ) (v : ℕ) → length env ≡ length marks → with_mark v marks ≡ marks → slice_index (kept marks env) (number_in (ranks marks) v) ≡ slice_index env v
read_kept marks env v long closed = elim (cases_lt v (length marks)) [ inl h ↦ inside h | inr h ↦ past h ]
  where
    inside : v < length marks → slice_index (kept marks env) (number_in (ranks marks) v) ≡ slice_index env v
    inside h =
        let is : is_marked marks v ≡ true = ap (λ m. get_or m v false) (sym closed) ∙ get_or-set_same marks v true false h in
        ap (λ n. get_or (kept marks env) n 0) (ranked marks v h) ∙ kept_at marks env v 0 long is

    past : length marks ≤ v → slice_index (kept marks env) (number_in (ranks marks) v) ≡ slice_index env v
    past h =
        ap (λ n. get_or (kept marks env) n 0) (unranked marks v h)
        ∙ get_or-eq_default (kept marks env) 0 (let e = kept_long marks env long in let f = count_within marks in omega (arith, e, f, h))
        ∙ sym (get_or-eq_default env 0 (omega (arith, long, h)))
