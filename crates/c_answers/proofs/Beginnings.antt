-- Whether characters begin with a text, and with which longest run.
use Rattle.std.proofs.Common.{◌≡◌, ◌⊎◌, ℕ, List, [], ◌∷◌, ◌++◌, Bool, true, false, ◌==◌, refl, sym, ap, ◌∙◌, arith, inl, inr, true≢false}
use Rattle.std.proofs.lemmas.Bool.Decides.{nat_tests}
use Rattle.c_tokens.specs.Characters.{continues_word}
use Rattle.c_tokens.specs.Pieces.{IsRun, BeginsRun}

pub by_test : {A : Type 0} (b : Bool) → (b ≡ true → A) → (b ≡ false → A) → A
by_test true f g = f refl
by_test false f g = g refl

-- ---- texts

-- the characters begin with the text
abbrev pub BeginsWith : List ℕ → List ℕ → Type 0
BeginsWith text cs = (rest : List ℕ) × (cs ≡ text ++ rest)

abbrev pub BeginsOrNot : List ℕ → List ℕ → Type 0
BeginsOrNot text cs = BeginsWith text cs ⊎ (BeginsWith text cs → ⊥)

-- one character more
one_more : (c d : ℕ) (text cs : List ℕ) → c ≡ d → BeginsOrNot text cs → BeginsOrNot (c ∷ text) (d ∷ cs)
one_more c d text cs same (inl h) = inl (h.0, both h.0 h.1)
  where
    both : (rest : List ℕ) → cs ≡ text ++ rest → d ∷ cs ≡ c ∷ (text ++ rest)
    both rest e = cc
one_more c d text cs same (inr none) = inr (λ h. none (h.0, tails h.0 h.1))
  where
    tails : (rest : List ℕ) → d ∷ cs ≡ c ∷ (text ++ rest) → cs ≡ text ++ rest
    tails rest e = cc

pub begins_or_not : (text cs : List ℕ) → BeginsOrNot text cs
begins_or_not [] cs = inl (cs, refl)
begins_or_not (c ∷ text) [] = inr (λ h. nothing h.0 h.1)
  where
    nothing : (rest : List ℕ) → [] ≡ c ∷ (text ++ rest) → ⊥
    nothing rest e = cc
begins_or_not (c ∷ text) (d ∷ cs) = by_test {A = BeginsOrNot (c ∷ text) (d ∷ cs)} (c == d)
    (λ holds. one_more c d text cs (same_number c d holds) (begins_or_not text cs))
    (λ fails. inr (λ h. true≢false (sym (passes c d (first h.0 h.1)) ∙ fails)))
  where
    first : (rest : List ℕ) → d ∷ cs ≡ c ∷ (text ++ rest) → c ≡ d
    first rest e = cc

    passes : (c d : ℕ) → c ≡ d → (c == d) ≡ true
    passes c d e = grind (arith, nat_tests)

    same_number : (c d : ℕ) → (c == d) ≡ true → c ≡ d
    same_number c d e = grind (arith, nat_tests)

-- ---- runs

-- a longest run at the start, maybe of nothing
record HasRun (test : ℕ → Bool) (cs : List ℕ) : Type 0 where
  pub text : List ℕ
  pub rest : List ℕ
  pub split : cs ≡ text ++ rest
  pub is_run : IsRun test text rest

run_of : (test : ℕ → Bool) (cs : List ℕ) → HasRun test cs
run_of test [] = record { text = []; rest = []; split = refl; is_run = tt }
run_of test (c ∷ cs) = by_test {A = HasRun test (c ∷ cs)} (test c)
    (λ holds. let later = run_of test cs in record { text = c ∷ later.text; rest = later.rest; split = ap (λ (xs : List ℕ). c ∷ xs) later.split; is_run = (holds, later.is_run) })
    (λ fails. record { text = []; rest = c ∷ cs; split = refl; is_run = fails })

-- one that begins so
pub record HasBeginsRun (begins : ℕ → Bool) (cs : List ℕ) : Type 0 where
  pub text : List ℕ
  pub rest : List ℕ
  pub split : cs ≡ text ++ rest
  pub is_run : BeginsRun begins text rest

pub begins_run : (begins : ℕ → Bool) (c : ℕ) (cs : List ℕ) → begins c ≡ true → HasBeginsRun begins (c ∷ cs)
begins_run begins c cs holds =
    let behind = run_of continues_word cs in
    record { text = c ∷ behind.text; rest = behind.rest; split = ap (λ (xs : List ℕ). c ∷ xs) behind.split; is_run = (holds, behind.is_run) }
