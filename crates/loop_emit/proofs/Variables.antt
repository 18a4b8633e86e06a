-- Variables from one on, and words that stand in variables.
use Rattle.std.proofs.Common.{◌≡◌, ℕ, zero, suc, ◌+◌, ◌<◌, ◌≤◌, false, List, [], ◌∷◌, length, All, Contains, refl, sym, ap, ◌∙◌, subst, arith}
use Rattle.std.specs.Prelude.{slice_index, nat_eq}
use Rattle.std.specs.List.{range_with_len, IsDistinct, AllByRecursion}
use Rattle.std.proofs.Common.{ne_eqb}
use Rattle.std.proofs.lemmas.List.FromFn.{length-range_with_len, get_or-range_with_len}
use Rattle.strm_num.specs.Words.{IsWord}
use Rattle.list_denotation.specs.declared.input.Input.{Input}
use Rattle.expr_lower.specs.Scopes.{ScopeInPlace}
use Rattle.turn_blocks.specs.TurnContract.{words_at, IsIn, HasWordInputs}

-- ---- variables from one on

pub range_at : (a n i : ℕ) → i < n → slice_index (range_with_len a n) i ≡ a + i
range_at a n i lt = get_or-range_with_len a n i 0 lt

pub all_range : (P : ℕ → Type 0) (a n : ℕ) → ((i : ℕ) → i < n → P (a + i)) → All P (range_with_len a n)
all_range P a n each k d lt =
    let within : k < n = omega (arith, lt, length-range_with_len a n) in
    subst P (sym (get_or-range_with_len a n k d within)) (each k within)

pub all_none : (P : ℕ → Type 0) → All P []
all_none P k d lt = absurd (omega (arith, lt))

pub range_contains : (a n v : ℕ) → Contains (range_with_len a n) v → (a ≤ v) × (v < a + n)
range_contains a n v (k, lt, is) =
    let within : k < n = omega (arith, lt, length-range_with_len a n) in
    let at = get_or-range_with_len a n k v within in
    (omega (arith, at, is), omega (arith, at, is, within))

other_range : (x a n : ℕ) → x < a → AllByRecursion (λ y. nat_eq x y ≡ false) (range_with_len a n)
other_range x a zero lt = tt
other_range x a (suc n) lt = (ne_eqb x a (λ e. omega (arith, e, lt)), other_range x (a + 1) n (omega (arith, lt)))

pub distinct_range : (a n : ℕ) → IsDistinct nat_eq (range_with_len a n)
unfolding IsDistinct
distinct_range a zero = tt
distinct_range a (suc n) = (other_range a (a + 1) n (omega arith), distinct_range (a + 1) n)

-- ---- words that stand in variables

pub words_kept : (env env' vars : List ℕ) → All (λ v. slice_index env' v ≡ slice_index env v) vars → words_at env' vars ≡ words_at env vars
words_kept env env' [] same = refl
words_kept env env' (v ∷ vs) same =
    rw (same 0 0 (omega arith), words_kept env env' vs (λ k d lt. same (suc k) d (omega (arith, lt)))) refl

pub stays_in : (env env' vars words : List ℕ) → All (λ v. slice_index env' v ≡ slice_index env v) vars → IsIn env vars words → IsIn env' vars words
stays_in env env' vars words same is = record { there = words_kept env env' vars same ∙ is.there; are_words = is.are_words }

pub word_at : (env vars : List ℕ) (k : ℕ) → k < length vars → slice_index env (slice_index vars k) ≡ slice_index (words_at env vars) k
word_at env [] k lt = absurd (omega arith)
word_at env (v ∷ vs) zero lt = refl
word_at env (v ∷ vs) (suc k) lt = word_at env vs k (omega arith)

is_word_at : (words : List ℕ) (k : ℕ) → All IsWord words → IsWord (slice_index words k)
is_word_at [] k all = omega arith
is_word_at (x ∷ xs) zero all = all 0 0 (omega arith)
is_word_at (x ∷ xs) (suc k) all = is_word_at xs k (λ j d lt. all (suc j) d (omega (arith, lt)))

pub scope_in_place : (inputs : List Input) (env vars words : List ℕ) → HasWordInputs inputs → IsIn env vars words → ScopeInPlace vars words inputs env
scope_in_place inputs env vars words has is = record {
  in_variables = λ k lt. record { same = word_at env vars k lt ∙ ap (λ ws. slice_index ws k) is.there; word = is_word_at words k is.are_words };
  ints = has.ints;
  lengths = has.lengths;
}
