-- Words by their numbers: of a scope, a state and local words in order, and of variables.
use Rattle.std.proofs.Common.{◌≡◌, ◌≢◌, ◌⊎◌, ℕ, zero, suc, ◌+◌, ◌<◌, List, [], ◌∷◌, ◌++◌, length, refl, sym, ap, ◌∙◌, subst, inl, inr, arith, length-append, append_assoc, get_or-append-add}
use Rattle.std.proofs.lemmas.Bool.{cases_eq}
use Rattle.std.proofs.lemmas.List.{get_or_append_left, get_or_at}
use Rattle.std.proofs.lemmas.Grind.{get_or_default_zero}
use Rattle.std.specs.Prelude.{slice_index, All, Contains}
use Rattle.strm_num.specs.Words.{IsWord}
use Rattle.turn_blocks.specs.TurnContract.{words_at, IsIn}

-- ---- one more

pub before_last : (xs : List ℕ) (x k : ℕ) → k < length xs → slice_index (xs ++ x ∷ []) k ≡ slice_index xs k
before_last xs x k lt = get_or_append_left xs (x ∷ []) 0 k lt

pub at_last : (xs : List ℕ) (x k : ℕ) → length xs ≡ k → slice_index (xs ++ x ∷ []) k ≡ x
at_last xs x k h = get_or_at xs x [] 0 k h

pub length_last : (xs : List ℕ) (x : ℕ) → length (xs ++ x ∷ []) ≡ length xs + 1
length_last xs x = length-append xs (x ∷ [])

-- ---- those of a scope, a state, and local words

module _ (scope state locals : List ℕ) where
  pub length_words : length (scope ++ (state ++ locals)) ≡ length scope + length state + length locals
  length_words = omega (arith, length-append scope (state ++ locals), length-append state locals)

  pub scope_word : (k : ℕ) → k < length scope → slice_index (scope ++ (state ++ locals)) k ≡ slice_index scope k
  scope_word k lt = get_or_append_left scope (state ++ locals) 0 k lt

  pub state_word : (j : ℕ) → j < length state → slice_index (scope ++ (state ++ locals)) (length scope + j) ≡ slice_index state j
  state_word j lt = get_or-append-add scope (state ++ locals) j 0 ∙ get_or_append_left state locals 0 j lt

  pub local_word : (i : ℕ) → slice_index (scope ++ (state ++ locals)) (length scope + (length state + i)) ≡ slice_index locals i
  local_word i = get_or-append-add scope (state ++ locals) (length state + i) 0 ∙ get_or-append-add state locals i 0

  -- one more local word is the last of all
  pub more_words : (x : ℕ) → scope ++ (state ++ (locals ++ x ∷ [])) ≡ (scope ++ (state ++ locals)) ++ x ∷ []
  more_words x = simp append_assoc

-- ---- what holds of each

pub all_of : (P : ℕ → Type 0) (xs : List ℕ) → ((k : ℕ) → k < length xs → P (slice_index xs k)) → All P xs
all_of P xs h k d lt = subst P (sym (get_or_default_zero xs k d lt)) (h k lt)

pub each_joined : (P : ℕ → Type 0) (xs ys : List ℕ) → ((k : ℕ) → k < length xs → P (slice_index xs k)) → ((k : ℕ) → k < length ys → P (slice_index ys k)) → (k : ℕ) → k < length (xs ++ ys) → P (slice_index (xs ++ ys) k)
each_joined P [] ys f g k lt = g k lt
each_joined P (x ∷ xs) ys f g zero lt = f 0 (omega arith)
each_joined P (x ∷ xs) ys f g (suc k) lt = each_joined P xs ys (λ i less. f (suc i) (omega arith)) g k (omega arith)

pub each_last : (P : ℕ → Type 0) (xs : List ℕ) (x : ℕ) → ((k : ℕ) → k < length xs → P (slice_index xs k)) → P x → (k : ℕ) → k < length (xs ++ x ∷ []) → P (slice_index (xs ++ x ∷ []) k)
each_last P xs x f h k lt = each_joined P xs (x ∷ []) f (one h) k lt
  where
    one : P x → (i : ℕ) → i < length (x ∷ []) → P (slice_index (x ∷ []) i)
    one h zero less = h
    one h (suc i) less = absurd (omega (arith, less))

-- ---- variables that differ

-- the variable is none of these
abbrev pub Differs : List ℕ → ℕ → Type 0
Differs vars v = (j : ℕ) → j < length vars → slice_index vars j ≢ v

pub differs_of : (vars : List ℕ) (v : ℕ) → ¬ Contains vars v → Differs vars v
differs_of vars v none j lt = λ e. none (j, lt, get_or_default_zero vars j v lt ∙ e)

pub none_of : (vars : List ℕ) (v : ℕ) → Differs vars v → ¬ Contains vars v
none_of vars v differs = λ found. differs found.0 found.1 (sym (get_or_default_zero vars found.0 v found.1) ∙ found.2)

pub differs_left : (xs ys : List ℕ) (v : ℕ) → Differs (xs ++ ys) v → Differs xs v
differs_left xs ys v differs j lt =
    λ e. differs j (omega (arith, lt, length-append xs ys)) (get_or_append_left xs ys 0 j lt ∙ e)

pub differs_right : (xs ys : List ℕ) (v : ℕ) → Differs (xs ++ ys) v → Differs ys v
differs_right xs ys v differs j lt =
    λ e. differs (length xs + j) (omega (arith, lt, length-append xs ys)) (get_or-append-add xs ys j 0 ∙ e)

pub differs_both : (xs ys : List ℕ) (v : ℕ) → Differs xs v → Differs ys v → Differs (xs ++ ys) v
differs_both xs ys v f g = each_joined (λ x. x ≢ v) xs ys f g

-- either it is one of them, or none
pub found_or_not : (vars : List ℕ) (v : ℕ) → ((j : ℕ) × (j < length vars) × (slice_index vars j ≡ v)) ⊎ Differs vars v
found_or_not [] v = inr (λ j lt. absurd (omega (arith, lt)))
found_or_not (x ∷ vars) v = elim (cases_eq x v) [
  | inl same ↦ inl (0, omega arith, same)
  | inr other ↦ behind other (found_or_not vars v)
]
  where
    behind : ¬ (x ≡ v) → ((j : ℕ) × (j < length vars) × (slice_index vars j ≡ v)) ⊎ Differs vars v → ((j : ℕ) × (j < length (x ∷ vars)) × (slice_index (x ∷ vars) j ≡ v)) ⊎ Differs (x ∷ vars) v
    behind other (inl found) = let less = found.1 in inl (suc found.0, omega arith, found.2)
    behind other (inr none) = inr (both other none)
      where
        both : ¬ (x ≡ v) → Differs vars v → Differs (x ∷ vars) v
        both other none zero lt = other
        both other none (suc j) lt = none j (omega arith)

-- ---- words that stand in variables

pub same_words : (env vars words : List ℕ) → length vars ≡ length words → ((k : ℕ) → k < length vars → slice_index env (slice_index vars k) ≡ slice_index words k) → words_at env vars ≡ words
same_words env [] [] h each = refl
same_words env [] (w ∷ words) h each = absurd (omega arith)
same_words env (v ∷ vars) [] h each = absurd (omega arith)
same_words env (v ∷ vars) (w ∷ words) h each =
    let first : slice_index env v ≡ w = each 0 (omega arith) in
    ap (λ x. x ∷ words_at env vars) first ∙ ap (λ xs. w ∷ xs) (same_words env vars words (omega arith) (λ k lt. each (suc k) (omega arith)))

at_words : (env vars : List ℕ) (k : ℕ) → k < length vars → slice_index (words_at env vars) k ≡ slice_index env (slice_index vars k)
at_words env [] k lt = absurd (omega arith)
at_words env (v ∷ vars) zero lt = refl
at_words env (v ∷ vars) (suc k) lt = at_words env vars k (omega arith)

length_at : (env vars : List ℕ) → length (words_at env vars) ≡ length vars
length_at env [] = refl
length_at env (v ∷ vars) = ap suc (length_at env vars)

module _ (env vars words : List ℕ) where
  pub is_in : length vars ≡ length words → ((k : ℕ) → k < length vars → slice_index env (slice_index vars k) ≡ slice_index words k) → ((k : ℕ) → k < length words → IsWord (slice_index words k)) → IsIn env vars words
  is_in h each are = record { there = same_words env vars words h each; are_words = all_of IsWord words are }

  module _ (h : IsIn env vars words) where
    pub in_long : length words ≡ length vars
    in_long = ap length (sym h.there) ∙ length_at env vars

    pub in_at : (k : ℕ) → k < length vars → slice_index env (slice_index vars k) ≡ slice_index words k
    in_at k lt = sym (at_words env vars k lt) ∙ ap (λ ws. slice_index ws k) h.there

    pub in_word : (k : ℕ) → k < length words → IsWord (slice_index words k)
    in_word k lt = h.are_words k 0 lt

    -- where no variable of them has changed
    pub still_in : (env' : List ℕ) → ((k : ℕ) → k < length vars → slice_index env' (slice_index vars k) ≡ slice_index env (slice_index vars k)) → IsIn env' vars words
    still_in env' same = record {
      there = same_words env' vars words (sym in_long) (λ k lt. same k lt ∙ in_at k lt);
      are_words = h.are_words;
    }
