-- Tokens are the same exactly where a reader sees the same in them.
use Rattle.std.proofs.Common.{◌≡◌, ℕ, Bool, true, false, ◌==◌, ◌&&◌, refl, sym, ap, ◌∙◌, arith, true≢false}
use Rattle.std.specs.Prelude.{if◌then◌else◌}
use Rattle.std.proofs.lemmas.Bool.Decides.{nat_tests}
use Rattle.c_tokens.specs.declared.symbol.Symbol.{Symbol}
use Rattle.c_tokens.specs.declared.symbol.Symbol.TheVariants as symbol
use Rattle.c_words.specs.declared.token.Keyword.{Keyword}
use Rattle.c_words.specs.declared.token.Keyword.TheVariants as keyword
use Rattle.c_words.specs.declared.token.Letter.{Letter}
use Rattle.c_words.specs.declared.token.Letter.TheVariants as letter
use Rattle.c_words.specs.declared.token.CToken.{CToken}
use Rattle.c_words.specs.declared.token.CToken.TheVariants.{Key, Name, OtherWord, Bare, Constant, Sym}
use Rattle.c_words.specs.SameTokens.{keyword_place, letter_place, symbol_place, is_same_token}

-- ---- what stands at a place

keyword_at : ℕ → Keyword
keyword_at n =
    if n == 0 then keyword.Int else
    if n == 1 then keyword.Pipeline else
    if n == 2 then keyword.Void else
    if n == 3 then keyword.Const else
    if n == 4 then keyword.Uint64 else
    if n == 5 then keyword.If else
    if n == 6 then keyword.Else else
    if n == 7 then keyword.While else
    if n == 8 then keyword.Break else
    if n == 9 then keyword.Return else
    if n == 10 then keyword.Emit else keyword.EndRow

keyword_at-place : (a : Keyword) → keyword_at (keyword_place a) ≡ a
unfolding keyword_at
keyword_at-place keyword.Int = refl
keyword_at-place keyword.Pipeline = refl
keyword_at-place keyword.Void = refl
keyword_at-place keyword.Const = refl
keyword_at-place keyword.Uint64 = refl
keyword_at-place keyword.If = refl
keyword_at-place keyword.Else = refl
keyword_at-place keyword.While = refl
keyword_at-place keyword.Break = refl
keyword_at-place keyword.Return = refl
keyword_at-place keyword.Emit = refl
keyword_at-place keyword.EndRow = refl

letter_at : ℕ → Letter
letter_at n =
    if n == 0 then letter.Variable else
    if n == 1 then letter.Array else
    if n == 2 then letter.Length else letter.Int

letter_at-place : (a : Letter) → letter_at (letter_place a) ≡ a
unfolding letter_at
letter_at-place letter.Variable = refl
letter_at-place letter.Array = refl
letter_at-place letter.Length = refl
letter_at-place letter.Int = refl

symbol_at : ℕ → Symbol
symbol_at n =
    if n == 0 then symbol.OpenParen else
    if n == 1 then symbol.CloseParen else
    if n == 2 then symbol.OpenBrace else
    if n == 3 then symbol.CloseBrace else
    if n == 4 then symbol.OpenBracket else
    if n == 5 then symbol.CloseBracket else
    if n == 6 then symbol.Semicolon else
    if n == 7 then symbol.Comma else
    if n == 8 then symbol.Equal else
    if n == 9 then symbol.EqualEqual else
    if n == 10 then symbol.Less else
    if n == 11 then symbol.AndAnd else
    if n == 12 then symbol.BarBar else
    if n == 13 then symbol.Bang else
    if n == 14 then symbol.Plus else
    if n == 15 then symbol.Minus else
    if n == 16 then symbol.Star else
    if n == 17 then symbol.Slash else
    if n == 18 then symbol.Percent else symbol.Caret

symbol_at-place : (a : Symbol) → symbol_at (symbol_place a) ≡ a
unfolding symbol_at
symbol_at-place symbol.OpenParen = refl
symbol_at-place symbol.CloseParen = refl
symbol_at-place symbol.OpenBrace = refl
symbol_at-place symbol.CloseBrace = refl
symbol_at-place symbol.OpenBracket = refl
symbol_at-place symbol.CloseBracket = refl
symbol_at-place symbol.Semicolon = refl
symbol_at-place symbol.Comma = refl
symbol_at-place symbol.Equal = refl
symbol_at-place symbol.EqualEqual = refl
symbol_at-place symbol.Less = refl
symbol_at-place symbol.AndAnd = refl
symbol_at-place symbol.BarBar = refl
symbol_at-place symbol.Bang = refl
symbol_at-place symbol.Plus = refl
symbol_at-place symbol.Minus = refl
symbol_at-place symbol.Star = refl
symbol_at-place symbol.Slash = refl
symbol_at-place symbol.Percent = refl
symbol_at-place symbol.Caret = refl

same_number : (m n : ℕ) → (m == n) ≡ true → m ≡ n
same_number m n e = grind (arith, nat_tests)

self_number : (n : ℕ) → (n == n) ≡ true
self_number n = grind (arith, nat_tests)

pub both_hold : (a b : Bool) → (a && b) ≡ true → (a ≡ true) × (b ≡ true)
both_hold true true e = (refl, refl)
both_hold true false e = absurd (true≢false (sym e))
both_hold false b e = absurd (true≢false (sym e))

pub same_keyword : (a b : Keyword) → (keyword_place a == keyword_place b) ≡ true → a ≡ b
same_keyword a b e = sym (keyword_at-place a) ∙ ap keyword_at (same_number (keyword_place a) (keyword_place b) e) ∙ keyword_at-place b

pub same_letter : (a b : Letter) → (letter_place a == letter_place b) ≡ true → a ≡ b
same_letter a b e = sym (letter_at-place a) ∙ ap letter_at (same_number (letter_place a) (letter_place b) e) ∙ letter_at-place b

pub same_symbol : (a b : Symbol) → (symbol_place a == symbol_place b) ≡ true → a ≡ b
same_symbol a b e = sym (symbol_at-place a) ∙ ap symbol_at (same_number (symbol_place a) (symbol_place b) e) ∙ symbol_at-place b

-- ---- tokens

pub same_token_is : (a b : CToken) → is_same_token a b ≡ true → a ≡ b
same_token_is (Key a) (Key b) e = ap Key (same_keyword a b e)
same_token_is (Name l j) (Name m k) e =
    let parts = both_hold (letter_place l == letter_place m) (j == k) e in
    let letters = same_letter l m parts.0 in
    let numbers = same_number j k parts.1 in
    cc
same_token_is (Bare m) (Bare n) e = ap Bare (same_number m n e)
same_token_is (Constant m) (Constant n) e = ap Constant (same_number m n e)
same_token_is (Sym a) (Sym b) e = ap Sym (same_symbol a b e)
same_token_is a b e = absurd (true≢false (sym e))

-- a reader sees the characters of the token
abbrev pub IsSeen : CToken → Type 0
IsSeen OtherWord = ⊥
IsSeen a = Unit {0}

pub same_token_self : (a : CToken) → IsSeen a → is_same_token a a ≡ true
same_token_self (Key k) seen = self_number (keyword_place k)
same_token_self (Name l n) seen = both (letter_place l == letter_place l) (n == n) (self_number (letter_place l)) (self_number n)
  where
    both : (a b : Bool) → a ≡ true → b ≡ true → (a && b) ≡ true
    both a b e f = rw (e, f) refl
same_token_self OtherWord seen = absurd seen
same_token_self (Bare n) seen = self_number n
same_token_self (Constant n) seen = self_number n
same_token_self (Sym s) seen = self_number (symbol_place s)
