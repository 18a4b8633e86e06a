-- What is promised of the definitions. Each statement has one name, which its law and those who stand on it cite.
use Rattle.std.specs.Prelude.{◌≡◌}
use Rattle.c_tokens.specs.Pieces.{What}
use Rattle.c_words.specs.Words.{StandsFor}
use Rattle.c_words.specs.declared.token.CToken.{CToken}

-- In a token a reader sees one thing alone.
abbrev pub TokensStandForOne : Type 0
TokensStandForOne =
    (what : What) (t u : CToken) → StandsFor t what → StandsFor u what → t ≡ u

-- In each token a reader sees something.
abbrev pub TokensAreSeen : Type 0
TokensAreSeen =
    (what : What) → (t : CToken) × StandsFor t what
