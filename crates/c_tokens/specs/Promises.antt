-- What is promised of the definitions. Each statement has one name, which its law and those who stand on it cite.
use Rattle.std.specs.Prelude.{◌≡◌, ℕ, List}
use Rattle.c_tokens.specs.Cutting.{Token, AreTokensOf}

-- A text has the tokens of one cutting alone, each at its offset.
abbrev pub TextsHaveOneCutting : Type 0
TextsHaveOneCutting =
    (src : List ℕ) (a b : List Token) → AreTokensOf src a → AreTokensOf src b → a ≡ b
