-- Small texts, cut by hand.
use Rattle.std.proofs.Common.{◌≡◌, ℕ, zero, suc, ◌+◌, ◌^◌, ◌<◌, List, [], ◌∷◌, ◌++◌, length, length-append, get_or, arith, codes, decimal, true, refl, sym, ap, subst, ◌∙◌, lit<, lit≤, true≢false}
use Rattle.std.proofs.lemmas.Fmt.{decimal_digit, first_decimal}
use Rattle.c_tokens.specs.Characters.{is_blank, is_digit, begins_word}
use Rattle.c_tokens.specs.Pieces as piece
use Rattle.c_tokens.specs.Pieces.{What, Word, Bare, Const, Sym, Piece, IsPiece, IsToken, IsComment, IsToItsEnd, begins_with_pair}
use Rattle.c_tokens.specs.Cutting.{Token, Part, Passes, token_of, tokens_from, AreTokensOf}
use Rattle.c_tokens.specs.declared.symbol.Symbol.TheVariants.{OpenParen, CloseParen, Semicolon, Equal, EqualEqual, Bang, Star, Slash}
use Rattle.c_tokens.proofs.Runs.{same_prefix}
use Rattle.c_tokens.proofs.OnePiece.{no_empty_piece}
use Rattle.c_tokens.proofs.SymbolPlaces.{one_stands, two_stand}
use Rattle.c_tokens.proofs.OneCutting.{one_cutting}

-- ---- a cutting, piece by piece

abbrev token : What → ℕ → Token
token what at = record { what = what; at = at }

-- the characters from this offset on are cut into these tokens
record IsCutFrom (at : ℕ) (cs : List ℕ) (toks : List Token) : Type 0 where
  parts : List Part
  passes : Passes cs parts []
  tokens : toks ≡ tokens_from at parts

nothing : (at : ℕ) → IsCutFrom at [] []
nothing at = record { parts = []; passes = refl; tokens = refl }

before : (p : Piece) (at : ℕ) (text rest : List ℕ) {toks : List Token} → IsPiece p text rest → IsCutFrom (at + length text) rest toks → IsCutFrom at (text ++ rest) (token_of p at ++ toks)
before p at text rest h later = record {
  parts = record { piece = p; text = text } ∷ later.parts;
  passes = record { rest = rest; split = refl; piece = h; goes_on = later.passes };
  tokens = ap (λ (ts : List Token). token_of p at ++ ts) later.tokens;
}

space : (at : ℕ) (rest : List ℕ) {toks : List Token} → IsCutFrom (at + 1) rest toks → IsCutFrom at (32 ∷ rest) toks
space at rest later = before piece.Blank at (32 ∷ []) rest (32, refl, refl) later

token_before : (what : What) (at : ℕ) (text rest : List ℕ) {toks : List Token} → IsToken what text rest → IsCutFrom (at + length text) rest toks → IsCutFrom at (text ++ rest) (token what at ∷ toks)
token_before what at text rest h later = before (piece.Token what) at text rest h later

are_tokens : (cs : List ℕ) (toks : List Token) → IsCutFrom 0 cs toks → AreTokensOf cs toks
are_tokens cs toks h = record { parts = h.parts; passes = h.passes; tokens = h.tokens }

-- a digit alone, and a constant of one digit
digit_text : (n : ℕ) → n < 10 → (48 + n) ∷ [] ≡ decimal n
digit_text n h = sym (decimal_digit n h)

constant_text : (n : ℕ) → n < 10 → (48 + n) ∷ codes "ULL" ≡ decimal n ++ codes "ULL"
constant_text n h = ap (λ (xs : List ℕ). xs ++ codes "ULL") (digit_text n h)

-- ---- texts

-- `v0 = 1ULL;`
abbrev set_tokens : List Token
set_tokens = token (Word (codes "v0")) 0 ∷ token (Sym Equal) 3 ∷ token (Const 1) 5 ∷ token (Sym Semicolon) 9 ∷ []

set_is_cut : IsCutFrom 0 (codes "v0 = 1ULL;") set_tokens
set_is_cut =
    token_before (Word (codes "v0")) 0 (codes "v0") (codes " = 1ULL;") ((refl, (refl, refl)), refl) (
    space 2 (codes "= 1ULL;") (
    token_before (Sym Equal) 3 (codes "=") (codes " 1ULL;") (one_stands Equal 61 (codes " 1ULL;") refl refl) (
    space 4 (codes "1ULL;") (
    token_before (Const 1) 5 (codes "1ULL") (codes ";") ((refl, (refl, (refl, (refl, refl)))), constant_text 1 (lit< tt), lit< tt) (
    token_before (Sym Semicolon) 9 (codes ";") (codes "") (one_stands Semicolon 59 (codes "") refl refl) (nothing 10))))))

set_alone : (toks : List Token) → AreTokensOf (codes "v0 = 1ULL;") toks → toks ≡ set_tokens
set_alone toks h = one_cutting (codes "v0 = 1ULL;") toks set_tokens h (are_tokens (codes "v0 = 1ULL;") set_tokens set_is_cut)

-- `(!x)`
abbrev negation_tokens : List Token
negation_tokens = token (Sym OpenParen) 0 ∷ token (Sym Bang) 1 ∷ token (Word (codes "x")) 2 ∷ token (Sym CloseParen) 3 ∷ []

negation_is_cut : IsCutFrom 0 (codes "(!x)") negation_tokens
negation_is_cut =
    token_before (Sym OpenParen) 0 (codes "(") (codes "!x)") (one_stands OpenParen 40 (codes "!x)") refl refl) (
    token_before (Sym Bang) 1 (codes "!") (codes "x)") (one_stands Bang 33 (codes "x)") refl refl) (
    token_before (Word (codes "x")) 2 (codes "x") (codes ")") ((refl, refl), refl) (
    token_before (Sym CloseParen) 3 (codes ")") (codes "") (one_stands CloseParen 41 (codes "") refl refl) (nothing 4))))

negation_alone : (toks : List Token) → AreTokensOf (codes "(!x)") toks → toks ≡ negation_tokens
negation_alone toks h = one_cutting (codes "(!x)") toks negation_tokens h (are_tokens (codes "(!x)") negation_tokens negation_is_cut)

-- `/**/a`: an empty comment separates, and is no token
abbrev comment_tokens : List Token
comment_tokens = token (Word (codes "a")) 4 ∷ []

comment_is_cut : IsCutFrom 0 (codes "/**/a") comment_tokens
comment_is_cut =
    before piece.Comment 0 (codes "/**/") (codes "a") (record { inside = codes "*/"; is = refl; to_its_end = refl }) (
    token_before (Word (codes "a")) 4 (codes "a") (codes "") ((refl, tt), refl) (nothing 5))

comment_alone : (toks : List Token) → AreTokensOf (codes "/**/a") toks → toks ≡ comment_tokens
comment_alone toks h = one_cutting (codes "/**/a") toks comment_tokens h (are_tokens (codes "/**/a") comment_tokens comment_is_cut)

-- `a/ *b`: a symbol goes on to no comment
abbrev quotient_tokens : List Token
quotient_tokens = token (Word (codes "a")) 0 ∷ token (Sym Slash) 1 ∷ token (Sym Star) 3 ∷ token (Word (codes "b")) 4 ∷ []

quotient_is_cut : IsCutFrom 0 (codes "a/ *b") quotient_tokens
quotient_is_cut =
    token_before (Word (codes "a")) 0 (codes "a") (codes "/ *b") ((refl, refl), refl) (
    token_before (Sym Slash) 1 (codes "/") (codes " *b") (one_stands Slash 47 (codes " *b") refl refl) (
    space 2 (codes "*b") (
    token_before (Sym Star) 3 (codes "*") (codes "b") (one_stands Star 42 (codes "b") refl refl) (
    token_before (Word (codes "b")) 4 (codes "b") (codes "") ((refl, tt), refl) (nothing 5)))))

quotient_alone : (toks : List Token) → AreTokensOf (codes "a/ *b") toks → toks ≡ quotient_tokens
quotient_alone toks h = one_cutting (codes "a/ *b") toks quotient_tokens h (are_tokens (codes "a/ *b") quotient_tokens quotient_is_cut)

-- `n==0`: the symbol of two characters is longest
abbrev same_tokens : List Token
same_tokens = token (Word (codes "n")) 0 ∷ token (Sym EqualEqual) 1 ∷ token (Bare 0) 3 ∷ []

same_is_cut : IsCutFrom 0 (codes "n==0") same_tokens
same_is_cut =
    token_before (Word (codes "n")) 0 (codes "n") (codes "==0") ((refl, refl), refl) (
    token_before (Sym EqualEqual) 1 (codes "==") (codes "0") (two_stand EqualEqual 61 61 (codes "0") refl refl refl) (
    token_before (Bare 0) 3 (codes "0") (codes "") ((refl, tt), digit_text 0 (lit< tt), lit≤ tt) (nothing 4)))

same_alone : (toks : List Token) → AreTokensOf (codes "n==0") toks → toks ≡ same_tokens
same_alone toks h = one_cutting (codes "n==0") toks same_tokens h (are_tokens (codes "n==0") same_tokens same_is_cut)

-- the end of a comment does not share its star with the start
no_short_comment : IsComment (codes "/*/") → ⊥
no_short_comment h = at_inside h.inside h.is h.to_its_end
  where
    at_inside : (inside : List ℕ) → codes "/*/" ≡ codes "/*" ++ inside → IsToItsEnd inside → ⊥
    at_inside inside e ends =
        let is : codes "/" ≡ inside = cc in
        (subst IsToItsEnd (sym is) ends).1

-- `//` begins no piece, whatever follows
no_piece_at_line : (p : Piece) (text rest behind : List ℕ) → codes "//" ++ behind ≡ text ++ rest → IsPiece p text rest → ⊥
no_piece_at_line p [] rest behind e h = no_empty_piece p rest h
no_piece_at_line piece.Blank (c ∷ text) rest behind e h = no_blank h.0 h.1 h.2
  where
    no_blank : (d : ℕ) → c ∷ text ≡ d ∷ [] → is_blank d ≡ true → ⊥
    no_blank d is passes = let same : d ≡ 47 = cc in true≢false (sym passes ∙ ap is_blank same)
no_piece_at_line piece.Comment (c ∷ text) rest behind e h =
    let whole : codes "//" ++ behind ≡ codes "/*" ++ (h.inside ++ rest) = e ∙ ap (λ (xs : List ℕ). xs ++ rest) h.is in
    true≢false (ap (begins_with_pair 47 47) whole)
no_piece_at_line (piece.Token (Word w)) (c ∷ text) rest behind e h = let same : c ≡ 47 = cc in true≢false (sym h.0.0 ∙ ap begins_word same)
no_piece_at_line (piece.Token (Bare n)) (c ∷ text) rest behind e h = let same : c ≡ 47 = cc in true≢false (sym h.0.0 ∙ ap is_digit same)
no_piece_at_line (piece.Token (Const n)) (c ∷ text) rest behind e h = let same : c ≡ 47 = cc in true≢false (sym h.0.0 ∙ ap is_digit same)
no_piece_at_line (piece.Token (Sym s)) (c ∷ text) rest behind e h = true≢false (ap (begins_with_pair 47 47) e ∙ h.2.no_line)

-- so a text that begins with it has no tokens
no_tokens_at_line : (behind : List ℕ) (toks : List Token) → AreTokensOf (codes "//" ++ behind) toks → ⊥
no_tokens_at_line behind toks h = of_parts h.parts h.passes
  where
    of_parts : (ps : List Part) → Passes (codes "//" ++ behind) ps [] → ⊥
    of_parts [] e = cc
    of_parts (p ∷ ps) h = no_piece_at_line p.piece p.text h.rest behind h.split h.piece

-- a number has no leading zero
no_leading_zero : (n : ℕ) (rest : List ℕ) → IsToken (Const n) (codes "01ULL") rest → ⊥
no_leading_zero n rest h = of_number n (same_prefix (codes "01") (codes "ULL") (decimal n) (codes "ULL") h.1 lengths).0 h.2
  where
    lengths : 2 ≡ length (decimal n)
    lengths = let whole = ap length h.1 in let sum = length-append (decimal n) (codes "ULL") in omega arith

    of_number : (m : ℕ) → codes "01" ≡ decimal m → m < 2 ^ 64 → ⊥
    of_number zero e small = let digit = e ∙ decimal_digit 0 (lit< tt) in cc
    of_number (suc m) e small =
        let first = first_decimal (suc m) (omega arith) small in
        let same : 48 ≡ get_or (decimal (suc m)) 0 0 = ap (λ (xs : List ℕ). get_or xs 0 0) e in
        omega arith
