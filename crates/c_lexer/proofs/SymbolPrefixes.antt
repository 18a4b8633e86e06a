-- Which symbols stand at the start of characters.
use Rattle.std.proofs.Common.{◌≡◌, ℕ, List, [], ◌∷◌, ◌++◌, length, Bool, true, ◌==◌, cond, ◌⊎◌, inl, inr, Some, None, refl, sym, ap, ◌∙◌, arith, true≢false}
use Rattle.std.proofs.lemmas.Bool.Decides.{nat_tests}
use Rattle.c_tokens.specs.Characters.{is_digit}
use Rattle.c_tokens.specs.Symbols.{symbol_text}
use Rattle.c_tokens.specs.Pieces.{IsLongest}
use Rattle.c_tokens.specs.declared.symbol.Symbol.{Symbol}
use Rattle.c_tokens.specs.declared.symbol.Symbol.TheVariants.{OpenParen, CloseParen, OpenBrace, CloseBrace, OpenBracket, CloseBracket, Semicolon, Comma, Equal, EqualEqual, Less, AndAnd, BarBar, Bang, Plus, Minus, Star, Slash, Percent, Caret}
use Rattle.c_lexer.specs.Symbols.{symbol_of_one, symbol_twice, symbol_pair}

-- a symbol that begins the characters is the one of its character, or of its two
pub record IsAtStart (s : Symbol) (c : ℕ) (cs : List ℕ) : Type 0 where
  pub is : ((length (symbol_text s) ≡ 1) × (symbol_of_one c ≡ Some s)) ⊎ (symbol_pair (c ∷ cs) ≡ Some s)

pair_at_start : (s : Symbol) (c d : ℕ) (cs behind : List ℕ) → symbol_twice d ≡ Some s → c ∷ cs ≡ d ∷ d ∷ behind → symbol_pair (c ∷ cs) ≡ Some s
pair_at_start s c d cs behind two e = ap symbol_pair e ∙ (let same : (d == d) ≡ true = equal d in ap (λ (b : Bool). cond b (symbol_twice d) None) same) ∙ two
  where
    equal : (n : ℕ) → (n == n) ≡ true
    equal n = grind (arith, nat_tests)

pub symbol_at_start : (s : Symbol) (c : ℕ) (cs behind : List ℕ) → c ∷ cs ≡ symbol_text s ++ behind → IsAtStart s c cs
symbol_at_start OpenParen c cs behind e = let a : c ≡ 40 = cc in record { is = inl (refl, ap symbol_of_one a) }
symbol_at_start CloseParen c cs behind e = let a : c ≡ 41 = cc in record { is = inl (refl, ap symbol_of_one a) }
symbol_at_start OpenBrace c cs behind e = let a : c ≡ 123 = cc in record { is = inl (refl, ap symbol_of_one a) }
symbol_at_start CloseBrace c cs behind e = let a : c ≡ 125 = cc in record { is = inl (refl, ap symbol_of_one a) }
symbol_at_start OpenBracket c cs behind e = let a : c ≡ 91 = cc in record { is = inl (refl, ap symbol_of_one a) }
symbol_at_start CloseBracket c cs behind e = let a : c ≡ 93 = cc in record { is = inl (refl, ap symbol_of_one a) }
symbol_at_start Semicolon c cs behind e = let a : c ≡ 59 = cc in record { is = inl (refl, ap symbol_of_one a) }
symbol_at_start Comma c cs behind e = let a : c ≡ 44 = cc in record { is = inl (refl, ap symbol_of_one a) }
symbol_at_start Equal c cs behind e = let a : c ≡ 61 = cc in record { is = inl (refl, ap symbol_of_one a) }
symbol_at_start EqualEqual c cs behind e = record { is = inr (pair_at_start EqualEqual c 61 cs behind refl e) }
symbol_at_start Less c cs behind e = let a : c ≡ 60 = cc in record { is = inl (refl, ap symbol_of_one a) }
symbol_at_start AndAnd c cs behind e = record { is = inr (pair_at_start AndAnd c 38 cs behind refl e) }
symbol_at_start BarBar c cs behind e = record { is = inr (pair_at_start BarBar c 124 cs behind refl e) }
symbol_at_start Bang c cs behind e = let a : c ≡ 33 = cc in record { is = inl (refl, ap symbol_of_one a) }
symbol_at_start Plus c cs behind e = let a : c ≡ 43 = cc in record { is = inl (refl, ap symbol_of_one a) }
symbol_at_start Minus c cs behind e = let a : c ≡ 45 = cc in record { is = inl (refl, ap symbol_of_one a) }
symbol_at_start Star c cs behind e = let a : c ≡ 42 = cc in record { is = inl (refl, ap symbol_of_one a) }
symbol_at_start Slash c cs behind e = let a : c ≡ 47 = cc in record { is = inl (refl, ap symbol_of_one a) }
symbol_at_start Percent c cs behind e = let a : c ≡ 37 = cc in record { is = inl (refl, ap symbol_of_one a) }
symbol_at_start Caret c cs behind e = let a : c ≡ 94 = cc in record { is = inl (refl, ap symbol_of_one a) }

-- no symbol begins with a digit
pub symbol_no_digit : (s : Symbol) (c : ℕ) (cs behind : List ℕ) → c ∷ cs ≡ symbol_text s ++ behind → is_digit c ≡ true → ⊥
symbol_no_digit OpenParen c cs behind e digit = let a : c ≡ 40 = cc in true≢false (sym digit ∙ ap is_digit a)
symbol_no_digit CloseParen c cs behind e digit = let a : c ≡ 41 = cc in true≢false (sym digit ∙ ap is_digit a)
symbol_no_digit OpenBrace c cs behind e digit = let a : c ≡ 123 = cc in true≢false (sym digit ∙ ap is_digit a)
symbol_no_digit CloseBrace c cs behind e digit = let a : c ≡ 125 = cc in true≢false (sym digit ∙ ap is_digit a)
symbol_no_digit OpenBracket c cs behind e digit = let a : c ≡ 91 = cc in true≢false (sym digit ∙ ap is_digit a)
symbol_no_digit CloseBracket c cs behind e digit = let a : c ≡ 93 = cc in true≢false (sym digit ∙ ap is_digit a)
symbol_no_digit Semicolon c cs behind e digit = let a : c ≡ 59 = cc in true≢false (sym digit ∙ ap is_digit a)
symbol_no_digit Comma c cs behind e digit = let a : c ≡ 44 = cc in true≢false (sym digit ∙ ap is_digit a)
symbol_no_digit Equal c cs behind e digit = let a : c ≡ 61 = cc in true≢false (sym digit ∙ ap is_digit a)
symbol_no_digit EqualEqual c cs behind e digit = let a : c ≡ 61 = cc in true≢false (sym digit ∙ ap is_digit a)
symbol_no_digit Less c cs behind e digit = let a : c ≡ 60 = cc in true≢false (sym digit ∙ ap is_digit a)
symbol_no_digit AndAnd c cs behind e digit = let a : c ≡ 38 = cc in true≢false (sym digit ∙ ap is_digit a)
symbol_no_digit BarBar c cs behind e digit = let a : c ≡ 124 = cc in true≢false (sym digit ∙ ap is_digit a)
symbol_no_digit Bang c cs behind e digit = let a : c ≡ 33 = cc in true≢false (sym digit ∙ ap is_digit a)
symbol_no_digit Plus c cs behind e digit = let a : c ≡ 43 = cc in true≢false (sym digit ∙ ap is_digit a)
symbol_no_digit Minus c cs behind e digit = let a : c ≡ 45 = cc in true≢false (sym digit ∙ ap is_digit a)
symbol_no_digit Star c cs behind e digit = let a : c ≡ 42 = cc in true≢false (sym digit ∙ ap is_digit a)
symbol_no_digit Slash c cs behind e digit = let a : c ≡ 47 = cc in true≢false (sym digit ∙ ap is_digit a)
symbol_no_digit Percent c cs behind e digit = let a : c ≡ 37 = cc in true≢false (sym digit ∙ ap is_digit a)
symbol_no_digit Caret c cs behind e digit = let a : c ≡ 94 = cc in true≢false (sym digit ∙ ap is_digit a)

nothing : (s : Symbol) → None ≡ Some s → ⊥
nothing s e = absurd cc

-- where no symbol of two characters stands, one of one is longest
pub longest_of_one : (c : ℕ) (rest : List ℕ) → symbol_pair (c ∷ rest) ≡ None → IsLongest (c ∷ []) rest
longest_of_one c rest none s behind e =
    let at = symbol_at_start s c rest behind e in
    elim at.is [ inl one ↦ (let len = one.0 in omega arith) | inr pair ↦ absurd (nothing s (sym none ∙ pair)) ]

-- and where neither is one, none stands
pub no_symbol : (c : ℕ) (cs : List ℕ) → symbol_pair (c ∷ cs) ≡ None → symbol_of_one c ≡ None → (s : Symbol) (behind : List ℕ) → c ∷ cs ≡ symbol_text s ++ behind → ⊥
no_symbol c cs none no_one s behind e =
    let at = symbol_at_start s c cs behind e in
    elim at.is [ inl one ↦ absurd (nothing s (sym no_one ∙ one.1)) | inr pair ↦ absurd (nothing s (sym none ∙ pair)) ]

-- how the symbols of characters are written
pub symbol_of_one-text : (c : ℕ) (s : Symbol) → symbol_of_one c ≡ Some s → symbol_text s ≡ c ∷ []
symbol_of_one-text c OpenParen e = grind (arith, nat_tests)
symbol_of_one-text c CloseParen e = grind (arith, nat_tests)
symbol_of_one-text c OpenBrace e = grind (arith, nat_tests)
symbol_of_one-text c CloseBrace e = grind (arith, nat_tests)
symbol_of_one-text c OpenBracket e = grind (arith, nat_tests)
symbol_of_one-text c CloseBracket e = grind (arith, nat_tests)
symbol_of_one-text c Semicolon e = grind (arith, nat_tests)
symbol_of_one-text c Comma e = grind (arith, nat_tests)
symbol_of_one-text c Equal e = grind (arith, nat_tests)
symbol_of_one-text c EqualEqual e = grind (arith, nat_tests)
symbol_of_one-text c Less e = grind (arith, nat_tests)
symbol_of_one-text c AndAnd e = grind (arith, nat_tests)
symbol_of_one-text c BarBar e = grind (arith, nat_tests)
symbol_of_one-text c Bang e = grind (arith, nat_tests)
symbol_of_one-text c Plus e = grind (arith, nat_tests)
symbol_of_one-text c Minus e = grind (arith, nat_tests)
symbol_of_one-text c Star e = grind (arith, nat_tests)
symbol_of_one-text c Slash e = grind (arith, nat_tests)
symbol_of_one-text c Percent e = grind (arith, nat_tests)
symbol_of_one-text c Caret e = grind (arith, nat_tests)

pub symbol_twice-text : (c : ℕ) (s : Symbol) → symbol_twice c ≡ Some s → symbol_text s ≡ c ∷ c ∷ []
symbol_twice-text c OpenParen e = grind (arith, nat_tests)
symbol_twice-text c CloseParen e = grind (arith, nat_tests)
symbol_twice-text c OpenBrace e = grind (arith, nat_tests)
symbol_twice-text c CloseBrace e = grind (arith, nat_tests)
symbol_twice-text c OpenBracket e = grind (arith, nat_tests)
symbol_twice-text c CloseBracket e = grind (arith, nat_tests)
symbol_twice-text c Semicolon e = grind (arith, nat_tests)
symbol_twice-text c Comma e = grind (arith, nat_tests)
symbol_twice-text c Equal e = grind (arith, nat_tests)
symbol_twice-text c EqualEqual e = grind (arith, nat_tests)
symbol_twice-text c Less e = grind (arith, nat_tests)
symbol_twice-text c AndAnd e = grind (arith, nat_tests)
symbol_twice-text c BarBar e = grind (arith, nat_tests)
symbol_twice-text c Bang e = grind (arith, nat_tests)
symbol_twice-text c Plus e = grind (arith, nat_tests)
symbol_twice-text c Minus e = grind (arith, nat_tests)
symbol_twice-text c Star e = grind (arith, nat_tests)
symbol_twice-text c Slash e = grind (arith, nat_tests)
symbol_twice-text c Percent e = grind (arith, nat_tests)
symbol_twice-text c Caret e = grind (arith, nat_tests)
