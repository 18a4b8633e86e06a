-- Where a symbol stands: it is longest, and no comment begins there.
use Rattle.std.proofs.Common.{◌≡◌, ℕ, List, [], ◌∷◌, ◌++◌, codes, Bool, true, false, ◌||◌, refl, sym, ap, ◌∙◌, lit≤, true≢false}
use Rattle.c_tokens.specs.Symbols.{symbol_text}
use Rattle.c_tokens.specs.Pieces.{begins_with_pair, IsComment, IsLongest, BeginsNoComment, IsToken, Sym}
use Rattle.c_tokens.specs.declared.symbol.Symbol.{Symbol}
use Rattle.c_tokens.specs.declared.symbol.Symbol.TheVariants.{OpenParen, CloseParen, OpenBrace, CloseBrace, OpenBracket, CloseBracket, Semicolon, Comma, Equal, EqualEqual, Less, AndAnd, BarBar, Bang, Plus, Minus, Star, Slash, Percent, Caret}

-- a symbol of two characters is one of them twice
not_twice : (c d : ℕ) (cs behind : List ℕ) → c ∷ cs ≡ d ∷ d ∷ behind → begins_with_pair d d (c ∷ cs) ≡ false → begins_with_pair d d (d ∷ d ∷ behind) ≡ true → ⊥
not_twice c d cs behind e once twice = true≢false (sym twice ∙ ap (begins_with_pair d d) (sym e) ∙ once)

-- where no symbol of two characters begins, a text of one character is longest
longest_of_one : (c : ℕ) (rest : List ℕ) → begins_with_pair 61 61 (c ∷ rest) ≡ false → begins_with_pair 38 38 (c ∷ rest) ≡ false → begins_with_pair 124 124 (c ∷ rest) ≡ false → IsLongest (c ∷ []) rest
longest_of_one c rest no_equals no_ands no_bars OpenParen behind e = lit≤ tt
longest_of_one c rest no_equals no_ands no_bars CloseParen behind e = lit≤ tt
longest_of_one c rest no_equals no_ands no_bars OpenBrace behind e = lit≤ tt
longest_of_one c rest no_equals no_ands no_bars CloseBrace behind e = lit≤ tt
longest_of_one c rest no_equals no_ands no_bars OpenBracket behind e = lit≤ tt
longest_of_one c rest no_equals no_ands no_bars CloseBracket behind e = lit≤ tt
longest_of_one c rest no_equals no_ands no_bars Semicolon behind e = lit≤ tt
longest_of_one c rest no_equals no_ands no_bars Comma behind e = lit≤ tt
longest_of_one c rest no_equals no_ands no_bars Equal behind e = lit≤ tt
longest_of_one c rest no_equals no_ands no_bars EqualEqual behind e = absurd (not_twice c 61 rest behind e no_equals refl)
longest_of_one c rest no_equals no_ands no_bars Less behind e = lit≤ tt
longest_of_one c rest no_equals no_ands no_bars AndAnd behind e = absurd (not_twice c 38 rest behind e no_ands refl)
longest_of_one c rest no_equals no_ands no_bars BarBar behind e = absurd (not_twice c 124 rest behind e no_bars refl)
longest_of_one c rest no_equals no_ands no_bars Bang behind e = lit≤ tt
longest_of_one c rest no_equals no_ands no_bars Plus behind e = lit≤ tt
longest_of_one c rest no_equals no_ands no_bars Minus behind e = lit≤ tt
longest_of_one c rest no_equals no_ands no_bars Star behind e = lit≤ tt
longest_of_one c rest no_equals no_ands no_bars Slash behind e = lit≤ tt
longest_of_one c rest no_equals no_ands no_bars Percent behind e = lit≤ tt
longest_of_one c rest no_equals no_ands no_bars Caret behind e = lit≤ tt

-- a text of two characters is longest
longest_of_two : (c d : ℕ) (rest : List ℕ) → IsLongest (c ∷ d ∷ []) rest
longest_of_two c d rest OpenParen behind e = lit≤ tt
longest_of_two c d rest CloseParen behind e = lit≤ tt
longest_of_two c d rest OpenBrace behind e = lit≤ tt
longest_of_two c d rest CloseBrace behind e = lit≤ tt
longest_of_two c d rest OpenBracket behind e = lit≤ tt
longest_of_two c d rest CloseBracket behind e = lit≤ tt
longest_of_two c d rest Semicolon behind e = lit≤ tt
longest_of_two c d rest Comma behind e = lit≤ tt
longest_of_two c d rest Equal behind e = lit≤ tt
longest_of_two c d rest EqualEqual behind e = lit≤ tt
longest_of_two c d rest Less behind e = lit≤ tt
longest_of_two c d rest AndAnd behind e = lit≤ tt
longest_of_two c d rest BarBar behind e = lit≤ tt
longest_of_two c d rest Bang behind e = lit≤ tt
longest_of_two c d rest Plus behind e = lit≤ tt
longest_of_two c d rest Minus behind e = lit≤ tt
longest_of_two c d rest Star behind e = lit≤ tt
longest_of_two c d rest Slash behind e = lit≤ tt
longest_of_two c d rest Percent behind e = lit≤ tt
longest_of_two c d rest Caret behind e = lit≤ tt

-- where neither /* nor // stands, no comment begins
no_comment : (cs : List ℕ) → begins_with_pair 47 42 cs ≡ false → begins_with_pair 47 47 cs ≡ false → BeginsNoComment cs
no_comment cs no_open no_line = record { no_whole = no_whole; no_line = no_line }
  where
    no_whole : (text rest : List ℕ) → cs ≡ text ++ rest → IsComment text → ⊥
    no_whole text rest e h =
        let opens : cs ≡ codes "/*" ++ (h.inside ++ rest) = e ∙ ap (λ (xs : List ℕ). xs ++ rest) h.is in
        true≢false (sym (ap (begins_with_pair 47 42) opens) ∙ no_open)

-- a symbol of two characters begins, or a comment
abbrev pub begins_longer : List ℕ → Bool
begins_longer cs =
    begins_with_pair 61 61 cs || (begins_with_pair 38 38 cs || (begins_with_pair 124 124 cs || (begins_with_pair 47 42 cs || begins_with_pair 47 47 cs)))

neither : (a b : Bool) → (a || b) ≡ false → (a ≡ false) × (b ≡ false)
neither true b e = absurd cc
neither false b e = (refl, e)

-- where none of these begins, a symbol of one character is the token
pub one_stands : (s : Symbol) (c : ℕ) (rest : List ℕ) → symbol_text s ≡ c ∷ [] → begins_longer (c ∷ rest) ≡ false → IsToken (Sym s) (c ∷ []) rest
one_stands s c rest is h =
    let cs = c ∷ rest in
    let equals = neither (begins_with_pair 61 61 cs) _ h in
    let ands = neither (begins_with_pair 38 38 cs) _ equals.1 in
    let bars = neither (begins_with_pair 124 124 cs) _ ands.1 in
    let comments = neither (begins_with_pair 47 42 cs) _ bars.1 in
    (is, longest_of_one c rest equals.0 ands.0 bars.0, no_comment cs comments.0 comments.1)

-- and where no comment begins, one of two is
pub two_stand : (s : Symbol) (c d : ℕ) (rest : List ℕ) → symbol_text s ≡ c ∷ d ∷ [] → begins_with_pair 47 42 (c ∷ d ∷ rest) ≡ false → begins_with_pair 47 47 (c ∷ d ∷ rest) ≡ false → IsToken (Sym s) (c ∷ d ∷ []) rest
two_stand s c d rest is no_open no_line = (is, longest_of_two c d rest, no_comment (c ∷ d ∷ rest) no_open no_line)
