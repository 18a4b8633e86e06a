-- Tokens as the grammar sees them: what they are, with the text of a name, and their offset.
use Rattle.std.specs.Prelude.{ℕ, ◌≤◌, List, All, map, slice_range}
use Rattle.pipe_lexer.specs.declared.keyword.Keyword.{Keyword}
use Rattle.pipe_lexer.specs.declared.symbol.Symbol.{Symbol}
use Rattle.pipe_lexer.specs.declared.token.Token.{Token}
use Rattle.pipe_lexer.specs.declared.token.TokenKind.{TokenKind}
use Rattle.pipe_lexer.specs.declared.token.TokenKind.TheVariants as kind

pub data What : Type 0 where
  Named : List ℕ → What
  Number : ℕ → What
  Key : Keyword → What
  Sym : Symbol → What

pub record Tok : Type 0 where
  pub what : What
  pub at : ℕ

abbrev pub tok : What → ℕ → Tok
tok what at = record { what = what; at = at }

-- what a token of this kind is, whose text this is
abbrev pub what_of : TokenKind → List ℕ → What
what_of kind.Name text = Named text
what_of (kind.Number n) text = Number n
what_of (kind.Key k) text = Key k
what_of (kind.Sym s) text = Sym s

-- the tokens of a source
abbrev pub tok_of : List ℕ → Token → Tok
tok_of src t = tok (what_of t.kind (slice_range src t.at t.end)) t.at

abbrev pub toks_of : List ℕ → List Token → List Tok
toks_of src toks = map (tok_of src) toks

-- the token's text is a part of a source of this length
abbrev pub IsSlice : ℕ → Token → Type 0
IsSlice end t = (t.at ≤ t.end) × (t.end ≤ end)

abbrev pub AreSlices : ℕ → List Token → Type 0
AreSlices end toks = All (IsSlice end) toks
