-- The tokens of a text from a place on.
use Rattle.std.specs.Prelude.{◌≡◌, ℕ, List, [], ◌∷◌, drop, Option, Some, None}
use Rattle.c_tokens.specs.Cutting.{Token, Part, Passes, tokens_from}
use Rattle.c_words.specs.Words.{StandsFor}
use Rattle.c_lexer.specs.declared.cursor.Cursor.{Cursor}
use Rattle.c_lexer.specs.declared.cursor.Found.{Found}

-- characters that stand from this offset on are parts to their end, and these are the tokens among them
pub record AreTokensFrom (at : ℕ) (cs : List ℕ) (toks : List Token) : Type 0 where
  pub parts : List Part
  pub passes : Passes cs parts []
  pub tokens : toks ≡ tokens_from at parts

-- these tokens are left
abbrev pub IsLeft : Cursor → List Token → Type 0
IsLeft cursor toks = AreTokensFrom cursor.from (drop cursor.from cursor.text.now) toks

-- what was found is seen in the token, at its offset
pub record IsFound (found : Found) (t : Token) : Type 0 where
  pub stands : StandsFor found.token t.what
  pub place : t.at ≡ found.at

-- the first of the tokens was found, and the others are left
pub record IsTakenOff (found : Found) (toks : List Token) (behind : Cursor) : Type 0 where
  pub token : Token
  pub rest : List Token
  pub parts : toks ≡ token ∷ rest
  pub seen : IsFound found token
  pub left : IsLeft behind rest

-- the next token was taken off, or none was left
abbrev pub Takes : Option Found → List Token → Cursor → Type 0
Takes None toks behind = toks ≡ []
Takes (Some found) toks behind = IsTakenOff found toks behind
