-- The number that a text is as a token.
use Rattle.std.specs.Prelude.{◌≡◌, ℕ, ◌<◌, ◌≤◌, ◌^◌, List, [], ◌∷◌, ◌++◌, codes, decimal, Bool, true, false, ◌==◌}
use Rattle.c_words.specs.declared.token.CToken.{CToken}
use Rattle.c_words.specs.declared.token.CToken.TheVariants.{Bare, Constant}

-- 0 or 1, or a constant
abbrev pub IsNumberToken : List ℕ → CToken → Type 0
IsNumberToken text (Bare n) = (text ≡ decimal n) × (n ≤ 1)
IsNumberToken text (Constant n) = (text ≡ decimal n ++ codes "ULL") × (n < 2 ^ 64)
IsNumberToken text t = ⊥

-- nothing, or a zero with more behind it
abbrev pub begins_no_number : List ℕ → Bool
begins_no_number [] = true
begins_no_number (c ∷ []) = false
begins_no_number (c ∷ d ∷ digits) = c == 48
