-- Bytes are UTF-8, or they have a longest prefix that is.
use Rattle.std.proofs.Common.{◌≡◌, ◌⊎◌, ℕ, zero, suc, ◌<◌, ◌≤◌, List, length, take, false, sym, subst, ◌∙◌, arith, inl, inr, true≢false}
use Rattle.std.proofs.lemmas.Bool.{cases_Bool, cases_lt}
use Rattle.std.proofs.lemmas.List.{take_all}
use Rattle.std.proofs.lemmas.Str.{IsUtf8-nil, IsUtf8-from_is_utf8, is_utf8-from_IsUtf8}
use Rattle.std.specs.Str.{IsUtf8, is_utf8, IsValidUpTo}

module _ (src : List ℕ) (no_text : IsUtf8 src → ⊥) where
  -- no prefix of more bytes than these is UTF-8
  abbrev NoneAbove : ℕ → Type 0
  NoneAbove n = (m : ℕ) → n < m → IsUtf8 (take m src) → ⊥

  not_all : (n : ℕ) → length src ≤ n → IsUtf8 (take n src) → ⊥
  not_all n all text = no_text (subst IsUtf8 (take_all n src all) text)

  ends_at : (n : ℕ) → NoneAbove n → IsUtf8 (take n src) → IsValidUpTo src n
  ends_at n none text = record {
    short = elim (cases_lt n (length src)) [ inl short ↦ short | inr all ↦ absurd (not_all n all text) ];
    front = text;
    longest = none;
  }

  one_less : (n : ℕ) → NoneAbove (suc n) → is_utf8 (take (suc n) src) ≡ false → NoneAbove n
  one_less n none fails m above text = elim (cases_lt (suc n) m) [
    | inl more ↦ none m more text
    | inr last ↦
        let same : m ≡ suc n = omega arith in
        true≢false (sym (is_utf8-from_IsUtf8 (take (suc n) src) (subst (λ (k : ℕ). IsUtf8 (take k src)) same text)) ∙ fails)
  ]

  longest_from : (n : ℕ) → NoneAbove n → (at : ℕ) × IsValidUpTo src at
  longest_from zero none = (0, ends_at 0 none IsUtf8-nil)
  longest_from (suc n) none = elim (cases_Bool (is_utf8 (take (suc n) src))) [
    | inl passes ↦ (suc n, ends_at (suc n) none (IsUtf8-from_is_utf8 (take (suc n) src) passes))
    | inr fails ↦ longest_from n (one_less n none fails)
  ]

  pub longest_prefix : (at : ℕ) × IsValidUpTo src at
  longest_prefix = longest_from (length src) (λ m above. not_all m (omega arith))

-- a list of bytes is UTF-8 or not
pub text_or_not : (src : List ℕ) → IsUtf8 src ⊎ (IsUtf8 src → ⊥)
text_or_not src = elim (cases_Bool (is_utf8 src)) [
  | inl passes ↦ inl (IsUtf8-from_is_utf8 src passes)
  | inr fails ↦ inr (λ text. true≢false (sym (is_utf8-from_IsUtf8 src text) ∙ fails))
]
