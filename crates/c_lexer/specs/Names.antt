-- The name that a word is.
use Rattle.std.specs.Prelude.{◌≡◌, ◌≢◌, ℕ, ◌<◌, ◌^◌, List, [], ◌∷◌, ◌++◌, decimal, Option, Some, None}
use Rattle.c_words.specs.Words.{letter_text}
use Rattle.c_words.specs.declared.token.Letter.{Letter}
use Rattle.c_words.specs.declared.token.CToken.{CToken}
use Rattle.c_words.specs.declared.token.CToken.TheVariants.{Name}

-- the letter that is written so, or that none is
abbrev pub HasLetter : ℕ → Option Letter → Type 0
HasLetter c None = (l : Letter) → letter_text l ≢ c ∷ []
HasLetter c (Some l) = letter_text l ≡ c ∷ []

abbrev pub IsNameToken : List ℕ → CToken → Type 0
IsNameToken text (Name l n) = (n < 2 ^ 32) × (letter_text l ++ decimal n ≡ text)
IsNameToken text t = ⊥
