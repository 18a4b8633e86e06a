-- A cursor that goes over the tokens of a text: what holds of the tokens before its place.
use Rattle.std.specs.Prelude.{◌≡◌, List, ◌++◌}
use Rattle.c_lexer.specs.TokensFrom.{IsLeft}
use Rattle.c_lexer.specs.declared.cursor.Cursor.{Cursor}
use Rattle.c_tokens.specs.Cutting.{Token}

-- something holds of the tokens before the place of the cursor, and the others are left
pub record HasTaken (holds : List Token → Type 0) (cursor : Cursor) (toks : List Token) : Type 0 where
  pub before : List Token
  pub left : List Token
  pub parts : toks ≡ before ++ left
  pub is_left : IsLeft cursor left
  pub so_far : holds before
