-- The symbols at the start of characters.
use Rattle.std.proofs.Common.{◌≡◌, ◌≢◌, ℕ, ◌<◌, ◌≤◌, List, [], ◌∷◌, ◌++◌, length, get_or, Bool, true, false, cond, ◌==◌, ◌&&◌, Option, Some, None, refl, sym, ap, subst, ◌∙◌, arith, eqb-true, lit≤, lit<, ◌⊎◌, inl, inr}
use Rattle.pipe_lexer.specs.Symbols.{symbol_text, symbol_of_one, symbol_of_two}
use Rattle.pipe_lexer.specs.Pieces.{IsLongest}
use Rattle.pipe_lexer.specs.Prefixes.{symbol_pair, StandsAtPrefix}
use Rattle.pipe_lexer.specs.declared.token.TokenKind.TheVariants.{Sym}
use Rattle.pipe_lexer.specs.declared.piece.Piece.TheVariants as piece
use Rattle.pipe_lexer.specs.declared.symbol.Symbol.{Symbol}
use Rattle.pipe_lexer.specs.declared.symbol.Symbol.TheVariants.{Bar, BarBar, AndAnd, Arrow, EqualEqual, BangEqual, Less, LessEqual, Greater, GreaterEqual, Plus, Minus, Times, Slash, Percent, Bang, OpenParen, CloseParen, OpenBrace, CloseBrace, OpenBracket, CloseBracket, Comma, Colon, Semicolon}

-- a choice that gave a symbol gave its first, or another
pick : (b : Bool) (x : Symbol) (other : Option Symbol) (s : Symbol) (P : Symbol → Type 0) → cond b (Some x) other ≡ Some s → (b ≡ true → P x) → (other ≡ Some s → P s) → P s
pick true x other s P e f g = subst P (same e) (f refl)
  where
    same : Some x ≡ Some s → x ≡ s
    same h = cc
pick false x other s P e f g = g e

nothing : (s : Symbol) → None ≡ Some s → ⊥
nothing s e = cc

both : (a b : Bool) → (a && b) ≡ true → (a ≡ true) × (b ≡ true)
both true true e = (refl, refl)
both true false e = absurd cc
both false b e = absurd cc

one_char : (c n : ℕ) → (c == n) ≡ true → n ∷ [] ≡ c ∷ []
one_char c n e = ap (λ (x : ℕ). x ∷ []) (sym (eqb-true c n e))

two_chars : (c d n m : ℕ) → ((c == n) && (d == m)) ≡ true → n ∷ m ∷ [] ≡ c ∷ d ∷ []
two_chars c d n m e =
    let p = both (c == n) (d == m) e in
    let first = eqb-true c n p.0 in
    let second = eqb-true d m p.1 in
    cc

-- the symbol of one character is written so
pub symbol_of_one-text : (c : ℕ) (s : Symbol) → symbol_of_one c ≡ Some s → symbol_text s ≡ c ∷ []
symbol_of_one-text c s e0 =
    let P : Symbol → Type 0 = λ x. symbol_text x ≡ c ∷ [] in
    pick (c == 124) Bar _ s P e0 (one_char c 124) (λ e1.
    pick (c == 60) Less _ s P e1 (one_char c 60) (λ e2.
    pick (c == 62) Greater _ s P e2 (one_char c 62) (λ e3.
    pick (c == 43) Plus _ s P e3 (one_char c 43) (λ e4.
    pick (c == 45) Minus _ s P e4 (one_char c 45) (λ e5.
    pick (c == 42) Times _ s P e5 (one_char c 42) (λ e6.
    pick (c == 47) Slash _ s P e6 (one_char c 47) (λ e7.
    pick (c == 37) Percent _ s P e7 (one_char c 37) (λ e8.
    pick (c == 33) Bang _ s P e8 (one_char c 33) (λ e9.
    pick (c == 40) OpenParen _ s P e9 (one_char c 40) (λ e10.
    pick (c == 41) CloseParen _ s P e10 (one_char c 41) (λ e11.
    pick (c == 123) OpenBrace _ s P e11 (one_char c 123) (λ e12.
    pick (c == 125) CloseBrace _ s P e12 (one_char c 125) (λ e13.
    pick (c == 91) OpenBracket _ s P e13 (one_char c 91) (λ e14.
    pick (c == 93) CloseBracket _ s P e14 (one_char c 93) (λ e15.
    pick (c == 44) Comma _ s P e15 (one_char c 44) (λ e16.
    pick (c == 58) Colon _ s P e16 (one_char c 58) (λ e17.
    pick (c == 59) Semicolon _ s P e17 (one_char c 59) (λ e18.
    absurd (nothing s e18)))))))))))))))))))

-- the symbol of two characters is written so
pub symbol_of_two-text : (c d : ℕ) (s : Symbol) → symbol_of_two c d ≡ Some s → symbol_text s ≡ c ∷ d ∷ []
symbol_of_two-text c d s e0 =
    let P : Symbol → Type 0 = λ x. symbol_text x ≡ c ∷ d ∷ [] in
    pick ((c == 124) && (d == 124)) BarBar _ s P e0 (two_chars c d 124 124) (λ e1.
    pick ((c == 38) && (d == 38)) AndAnd _ s P e1 (two_chars c d 38 38) (λ e2.
    pick ((c == 45) && (d == 62)) Arrow _ s P e2 (two_chars c d 45 62) (λ e3.
    pick ((c == 61) && (d == 61)) EqualEqual _ s P e3 (two_chars c d 61 61) (λ e4.
    pick ((c == 33) && (d == 61)) BangEqual _ s P e4 (two_chars c d 33 61) (λ e5.
    pick ((c == 60) && (d == 61)) LessEqual _ s P e5 (two_chars c d 60 61) (λ e6.
    pick ((c == 62) && (d == 61)) GreaterEqual _ s P e6 (two_chars c d 62 61) (λ e7.
    absurd (nothing s e7))))))))

-- a symbol at the start is that of the first character, or that of the first two
pub record IsOneOrPair (s : Symbol) (c : ℕ) (cs : List ℕ) : Type 0 where
  pub is : ((length (symbol_text s) ≡ 1) × (symbol_of_one c ≡ Some s)) ⊎ (symbol_pair (c ∷ cs) ≡ Some s)

pub symbol_at_prefix : (s : Symbol) (c : ℕ) (cs behind : List ℕ) → c ∷ cs ≡ symbol_text s ++ behind → IsOneOrPair s c cs
symbol_at_prefix Bar c cs behind e = let a : c ≡ 124 = cc in record { is = inl (refl, ap symbol_of_one a) }
symbol_at_prefix BarBar c cs behind e = record { is = inr (ap symbol_pair e) }
symbol_at_prefix AndAnd c cs behind e = record { is = inr (ap symbol_pair e) }
symbol_at_prefix Arrow c cs behind e = record { is = inr (ap symbol_pair e) }
symbol_at_prefix EqualEqual c cs behind e = record { is = inr (ap symbol_pair e) }
symbol_at_prefix BangEqual c cs behind e = record { is = inr (ap symbol_pair e) }
symbol_at_prefix Less c cs behind e = let a : c ≡ 60 = cc in record { is = inl (refl, ap symbol_of_one a) }
symbol_at_prefix LessEqual c cs behind e = record { is = inr (ap symbol_pair e) }
symbol_at_prefix Greater c cs behind e = let a : c ≡ 62 = cc in record { is = inl (refl, ap symbol_of_one a) }
symbol_at_prefix GreaterEqual c cs behind e = record { is = inr (ap symbol_pair e) }
symbol_at_prefix Plus c cs behind e = let a : c ≡ 43 = cc in record { is = inl (refl, ap symbol_of_one a) }
symbol_at_prefix Minus c cs behind e = let a : c ≡ 45 = cc in record { is = inl (refl, ap symbol_of_one a) }
symbol_at_prefix Times c cs behind e = let a : c ≡ 42 = cc in record { is = inl (refl, ap symbol_of_one a) }
symbol_at_prefix Slash c cs behind e = let a : c ≡ 47 = cc in record { is = inl (refl, ap symbol_of_one a) }
symbol_at_prefix Percent c cs behind e = let a : c ≡ 37 = cc in record { is = inl (refl, ap symbol_of_one a) }
symbol_at_prefix Bang c cs behind e = let a : c ≡ 33 = cc in record { is = inl (refl, ap symbol_of_one a) }
symbol_at_prefix OpenParen c cs behind e = let a : c ≡ 40 = cc in record { is = inl (refl, ap symbol_of_one a) }
symbol_at_prefix CloseParen c cs behind e = let a : c ≡ 41 = cc in record { is = inl (refl, ap symbol_of_one a) }
symbol_at_prefix OpenBrace c cs behind e = let a : c ≡ 123 = cc in record { is = inl (refl, ap symbol_of_one a) }
symbol_at_prefix CloseBrace c cs behind e = let a : c ≡ 125 = cc in record { is = inl (refl, ap symbol_of_one a) }
symbol_at_prefix OpenBracket c cs behind e = let a : c ≡ 91 = cc in record { is = inl (refl, ap symbol_of_one a) }
symbol_at_prefix CloseBracket c cs behind e = let a : c ≡ 93 = cc in record { is = inl (refl, ap symbol_of_one a) }
symbol_at_prefix Comma c cs behind e = let a : c ≡ 44 = cc in record { is = inl (refl, ap symbol_of_one a) }
symbol_at_prefix Colon c cs behind e = let a : c ≡ 58 = cc in record { is = inl (refl, ap symbol_of_one a) }
symbol_at_prefix Semicolon c cs behind e = let a : c ≡ 59 = cc in record { is = inl (refl, ap symbol_of_one a) }

pub no_empty_symbol : (s : Symbol) → symbol_text s ≡ [] → ⊥
no_empty_symbol Bar e = absurd cc
no_empty_symbol BarBar e = absurd cc
no_empty_symbol AndAnd e = absurd cc
no_empty_symbol Arrow e = absurd cc
no_empty_symbol EqualEqual e = absurd cc
no_empty_symbol BangEqual e = absurd cc
no_empty_symbol Less e = absurd cc
no_empty_symbol LessEqual e = absurd cc
no_empty_symbol Greater e = absurd cc
no_empty_symbol GreaterEqual e = absurd cc
no_empty_symbol Plus e = absurd cc
no_empty_symbol Minus e = absurd cc
no_empty_symbol Times e = absurd cc
no_empty_symbol Slash e = absurd cc
no_empty_symbol Percent e = absurd cc
no_empty_symbol Bang e = absurd cc
no_empty_symbol OpenParen e = absurd cc
no_empty_symbol CloseParen e = absurd cc
no_empty_symbol OpenBrace e = absurd cc
no_empty_symbol CloseBrace e = absurd cc
no_empty_symbol OpenBracket e = absurd cc
no_empty_symbol CloseBracket e = absurd cc
no_empty_symbol Comma e = absurd cc
no_empty_symbol Colon e = absurd cc
no_empty_symbol Semicolon e = absurd cc

at_most_two : (s : Symbol) → length (symbol_text s) ≤ 2
at_most_two Bar = lit≤ tt
at_most_two BarBar = lit≤ tt
at_most_two AndAnd = lit≤ tt
at_most_two Arrow = lit≤ tt
at_most_two EqualEqual = lit≤ tt
at_most_two BangEqual = lit≤ tt
at_most_two Less = lit≤ tt
at_most_two LessEqual = lit≤ tt
at_most_two Greater = lit≤ tt
at_most_two GreaterEqual = lit≤ tt
at_most_two Plus = lit≤ tt
at_most_two Minus = lit≤ tt
at_most_two Times = lit≤ tt
at_most_two Slash = lit≤ tt
at_most_two Percent = lit≤ tt
at_most_two Bang = lit≤ tt
at_most_two OpenParen = lit≤ tt
at_most_two CloseParen = lit≤ tt
at_most_two OpenBrace = lit≤ tt
at_most_two CloseBrace = lit≤ tt
at_most_two OpenBracket = lit≤ tt
at_most_two CloseBracket = lit≤ tt
at_most_two Comma = lit≤ tt
at_most_two Colon = lit≤ tt
at_most_two Semicolon = lit≤ tt

-- a symbol by how it is written
symbol_named : List ℕ → Option Symbol
symbol_named [] = None
symbol_named (c ∷ []) = symbol_of_one c
symbol_named (c ∷ d ∷ cs) = symbol_of_two c d

symbol_named-text : (s : Symbol) → symbol_named (symbol_text s) ≡ Some s
unfolding symbol_named
symbol_named-text Bar = refl
symbol_named-text BarBar = refl
symbol_named-text AndAnd = refl
symbol_named-text Arrow = refl
symbol_named-text EqualEqual = refl
symbol_named-text BangEqual = refl
symbol_named-text Less = refl
symbol_named-text LessEqual = refl
symbol_named-text Greater = refl
symbol_named-text GreaterEqual = refl
symbol_named-text Plus = refl
symbol_named-text Minus = refl
symbol_named-text Times = refl
symbol_named-text Slash = refl
symbol_named-text Percent = refl
symbol_named-text Bang = refl
symbol_named-text OpenParen = refl
symbol_named-text CloseParen = refl
symbol_named-text OpenBrace = refl
symbol_named-text CloseBrace = refl
symbol_named-text OpenBracket = refl
symbol_named-text CloseBracket = refl
symbol_named-text Comma = refl
symbol_named-text Colon = refl
symbol_named-text Semicolon = refl

-- symbols that are written so are one
pub same_symbol : (s t : Symbol) → symbol_text s ≡ symbol_text t → s ≡ t
same_symbol s t e =
    let both : Some s ≡ Some t = sym (symbol_named-text s) ∙ ap symbol_named e ∙ symbol_named-text t in
    cc

none_pair : (cs : List ℕ) (s : Symbol) → symbol_pair cs ≡ None → symbol_pair cs ≡ Some s → ⊥
none_pair cs s none some = nothing s (sym none ∙ some)

-- the symbol of the two characters at the start is the longest there
pub pair_stands : (cs : List ℕ) (s : Symbol) → symbol_pair cs ≡ Some s → StandsAtPrefix cs (piece.Token (Sym s)) 2
pair_stands [] s e = absurd (nothing s e)
pair_stands (c ∷ []) s e = absurd (nothing s e)
pair_stands (c ∷ d ∷ cs) s e = record {
  some = lit< tt;
  within = omega arith;
  piece = (symbol_of_two-text c d s e, λ t behind h. at_most_two t);
}

-- where the two characters at the start are none, that of the first is the longest there
pub one_stands : (cs : List ℕ) (s : Symbol) → 0 < length cs → symbol_pair cs ≡ None → symbol_of_one (get_or cs 0 0) ≡ Some s → StandsAtPrefix cs (piece.Token (Sym s)) 1
one_stands [] s some none e = absurd (omega arith)
one_stands (c ∷ cs) s some none e = record {
  some = lit< tt;
  within = omega arith;
  piece = (symbol_of_one-text c s e, longest);
}
  where
    longest : IsLongest (c ∷ []) cs
    longest t behind h =
        let at = symbol_at_prefix t c cs behind h in
        elim at.is [ inl one ↦ (let len = one.0 in omega arith) | inr pair ↦ absurd (none_pair (c ∷ cs) t none pair) ]

-- where neither is a symbol, none stands there
pub no_symbol : (cs : List ℕ) → 0 < length cs → symbol_pair cs ≡ None → symbol_of_one (get_or cs 0 0) ≡ None → (s : Symbol) (behind : List ℕ) → cs ≢ symbol_text s ++ behind
no_symbol [] some none no_one s behind h = absurd (omega arith)
no_symbol (c ∷ cs) some none no_one s behind h =
    let at = symbol_at_prefix s c cs behind h in
    elim at.is [ inl one ↦ absurd (nothing s (sym no_one ∙ one.1)) | inr pair ↦ absurd (none_pair (c ∷ cs) s none pair) ]
