-- A keyword, a symbol, a number or a name that stands before a blank is a token there.
use Rattle.std.proofs.Common.{◌≡◌, ℕ, ◌<◌, ◌^◌, List, [], ◌∷◌, length, Bool, true, false, ◌&&◌, ◌||◌, ◌==◌, nat_lt, Some, None, if◌then◌else◌, refl, ◌∙◌, arith, rules, decimal}
use Rattle.std.proofs.lemmas.Bool.Decides.{nat_tests}
use Rattle.std.proofs.lemmas.Fmt.{digits_decimal, digits_value-decimal, decimal_nonempty}
use Rattle.std.proofs.lemmas.List.Elements.{All-nil, All-cons}
use Rattle.std.proofs.lemmas.Str.Ascii.{IsAscii-from_all}
use Rattle.std.proofs.lemmas.Str.Parse.{IsNumeralModel, numerals_by_fold}
use Rattle.std.specs.Prelude.{All}
use Rattle.std.specs.Char.{is_ascii_alphabetic, is_ascii_alphanumeric}
use Rattle.std.specs.Str.{IsAscii}
use Rattle.strm_num.proofs.Truths.{both_true}
use Rattle.unicode_ident.proofs.IdentLemmas.{is_xid_continue-ascii}
use Rattle.pipe_lexer.specs.Characters.{is_blank, is_digit, begins_identifier, continues_identifier}
use Rattle.pipe_lexer.specs.Keywords.{keyword_text}
use Rattle.pipe_lexer.specs.Symbols.{symbol_text, symbol_of_one, symbol_of_two}
use Rattle.pipe_lexer.specs.Pieces.{IsRun, BeginsRun, IsIdentifier, IsDigits, IsToken, value_with}
use Rattle.pipe_lexer.specs.declared.keyword.Keyword.{Keyword}
use Rattle.pipe_lexer.specs.declared.keyword.Keyword.TheVariants.{Input}
use Rattle.pipe_lexer.specs.declared.symbol.Symbol.{Symbol}
use Rattle.pipe_lexer.specs.declared.symbol.Symbol.TheVariants.{Bar, BarBar, AndAnd, Arrow, EqualEqual, BangEqual, Less, LessEqual, Greater, GreaterEqual, Plus, Minus, Times, Slash, Percent, Bang, OpenParen, CloseParen, OpenBrace, CloseBrace, OpenBracket, CloseBracket, Comma, Colon, Semicolon}
use Rattle.pipe_lexer.specs.declared.token.TokenKind.TheVariants.{Number, Key, Sym}
use Rattle.pipe_lexer.proofs.OnePiece.{blank_small, begins_identifier-ascii}
use Rattle.pipe_lexer.proofs.SymbolPrefixes.{pair_stands, one_stands}

-- a run that ends with its text ends before a character that fails the test
run_before : (test : ℕ → Bool) (text : List ℕ) (c : ℕ) (rest : List ℕ) → test c ≡ false → IsRun test text [] → IsRun test text (c ∷ rest)
run_before test [] c rest fails run = fails
run_before test (d ∷ text) c rest fails run = (run.0, run_before test text c rest fails run.1)

begins_run_before : (begins continues : ℕ → Bool) (text : List ℕ) (c : ℕ) (rest : List ℕ) → continues c ≡ false → BeginsRun begins continues text [] → BeginsRun begins continues text (c ∷ rest)
begins_run_before begins continues [] c rest fails run = absurd run
begins_run_before begins continues (d ∷ text) c rest fails run = (run.0, run_before continues text c rest fails run.1)

-- and what stands before anything is a run by itself
run_alone : (test : ℕ → Bool) (text rest : List ℕ) → IsRun test text rest → IsRun test text []
run_alone test [] rest run = tt
run_alone test (d ∷ text) rest run = (run.0, run_alone test text rest run.1)

pub identifier_alone : (text rest : List ℕ) → IsIdentifier text rest → IsIdentifier text []
identifier_alone [] rest identifier = absurd identifier
identifier_alone (c ∷ text) rest identifier = (identifier.0, run_alone continues_identifier text rest identifier.1)

-- a blank goes on with no number and with no identifier
blank_no_digit : (c : ℕ) → is_blank c ≡ true → is_digit c ≡ false
blank_no_digit c blank = let small = blank_small c blank in grind (arith, nat_tests)

no_alphanumeric : (c : ℕ) → c < 48 → (is_ascii_alphanumeric c || (c == 95)) ≡ false
no_alphanumeric c small = grind (arith, nat_tests)

blank_no_identifier : (c : ℕ) → is_blank c ≡ true → continues_identifier c ≡ false
blank_no_identifier c blank =
    let small = blank_small c blank in is_xid_continue-ascii c (omega arith) ∙ no_alphanumeric c small

pub identifier_before : (text : List ℕ) (c : ℕ) (rest : List ℕ) → is_blank c ≡ true → IsIdentifier text [] → IsIdentifier text (c ∷ rest)
identifier_before text c rest blank identifier = begins_run_before begins_identifier continues_identifier text c rest (blank_no_identifier c blank) identifier

-- the digits of a number
run_of_digits : (text : List ℕ) → 0 < length text → IsRun is_digit text [] → IsDigits text []
run_of_digits [] some run = absurd (omega arith)
run_of_digits (c ∷ text) some run = run

numerals : IsNumeralModel (λ ds. IsRun is_digit ds []) (value_with 0)
numerals = numerals_by_fold _ (search rules) value_with (search rules)

pub number_before : (n c : ℕ) (rest : List ℕ) → is_blank c ≡ true → n < 2 ^ 63 → IsToken (Number n) (decimal n) (c ∷ rest)
number_before n c rest blank small =
    let fits : n < 2 ^ 64 = omega arith in
    let alone = run_of_digits (decimal n) (decimal_nonempty n fits) (digits_decimal numerals n fits) in
    (begins_run_before is_digit is_digit (decimal n) c rest (blank_no_digit c blank) alone, digits_value-decimal numerals n fits, small)

-- texts of ASCII characters, and identifiers of ASCII letters and digits
abbrev all_ascii : List ℕ → Bool
all_ascii [] = true
all_ascii (c ∷ text) = nat_lt c 128 && all_ascii text

abbrev all_alphanumeric : List ℕ → Bool
all_alphanumeric [] = true
all_alphanumeric (c ∷ text) = is_ascii_alphanumeric c && all_alphanumeric text

abbrev is_ascii_identifier : List ℕ → Bool
is_ascii_identifier [] = false
is_ascii_identifier (c ∷ text) = is_ascii_alphabetic c && all_alphanumeric text

below : (c : ℕ) → nat_lt c 128 ≡ true → c < 128
below c h = grind (arith, nat_tests)

all_below : (text : List ℕ) → all_ascii text ≡ true → All (λ c. c < 128) text
all_below [] h = All-nil (λ c. c < 128)
all_below (c ∷ text) h =
    let parts = both_true (nat_lt c 128) (all_ascii text) h in
    All-cons (λ c. c < 128) c text (below c parts.0) (all_below text parts.1)

either : (a b : Bool) → a ≡ true → (a || b) ≡ true
either a b h = rw h refl

alphanumeric_continues : (c : ℕ) → is_ascii_alphanumeric c ≡ true → continues_identifier c ≡ true
alphanumeric_continues c h = is_xid_continue-ascii c (small c h) ∙ either (is_ascii_alphanumeric c) (c == 95) h
  where
    small : (c : ℕ) → is_ascii_alphanumeric c ≡ true → c < 128
    small c h = grind (arith, nat_tests)

alphabetic_begins : (c : ℕ) → is_ascii_alphabetic c ≡ true → begins_identifier c ≡ true
alphabetic_begins c h = begins_identifier-ascii c (small c h) ∙ either (is_ascii_alphabetic c) (c == 95) h
  where
    small : (c : ℕ) → is_ascii_alphabetic c ≡ true → c < 128
    small c h = grind (arith, nat_tests)

alphanumeric_run : (text : List ℕ) → all_alphanumeric text ≡ true → IsRun continues_identifier text []
alphanumeric_run [] h = tt
alphanumeric_run (c ∷ text) h =
    let parts = both_true (is_ascii_alphanumeric c) (all_alphanumeric text) h in
    (alphanumeric_continues c parts.0, alphanumeric_run text parts.1)

ascii_identifier : (text : List ℕ) → is_ascii_identifier text ≡ true → IsIdentifier text []
ascii_identifier [] h = absurd cc
ascii_identifier (c ∷ text) h =
    let parts = both_true (is_ascii_alphabetic c) (all_alphanumeric text) h in
    (alphabetic_begins c parts.0, alphanumeric_run text parts.1)

keyword_identifier : (k : Keyword) → is_ascii_identifier (keyword_text k) ≡ true
keyword_identifier k = elim k as (λ j. is_ascii_identifier (keyword_text j) ≡ true) [ Input ↦ refl | _ ↦ refl ]

keyword_below : (k : Keyword) → all_ascii (keyword_text k) ≡ true
keyword_below k = elim k as (λ j. all_ascii (keyword_text j) ≡ true) [ Input ↦ refl | _ ↦ refl ]

symbol_below : (s : Symbol) → all_ascii (symbol_text s) ≡ true
symbol_below s = elim s as (λ t. all_ascii (symbol_text t) ≡ true) [ Bar ↦ refl | _ ↦ refl ]

pub IsAscii-keyword : (k : Keyword) → IsAscii (keyword_text k)
IsAscii-keyword k = IsAscii-from_all (keyword_text k) (all_below (keyword_text k) (keyword_below k))

pub IsAscii-symbol : (s : Symbol) → IsAscii (symbol_text s)
IsAscii-symbol s = IsAscii-from_all (symbol_text s) (all_below (symbol_text s) (symbol_below s))

pub keyword_before : (k : Keyword) (c : ℕ) (rest : List ℕ) → is_blank c ≡ true → IsToken (Key k) (keyword_text k) (c ∷ rest)
keyword_before k c rest blank = (identifier_before (keyword_text k) c rest blank (ascii_identifier (keyword_text k) (keyword_identifier k)), refl)

-- no symbol of two characters ends in a blank
no_pair : (c d : ℕ) → is_blank d ≡ true → symbol_of_two c d ≡ None
no_pair c d blank =
    none (c == 124) (d == 124) (c == 38) (d == 38) (c == 45) (d == 62) (c == 61) (d == 61) (c == 33) (c == 60) (c == 62)
    (grind (arith, nat_tests)) (grind (arith, nat_tests)) (grind (arith, nat_tests)) (grind (arith, nat_tests))
  where
    never : (a b : Bool) → b ≡ false → (a && b) ≡ false
    never true b e = e
    never false b e = refl

    none : (a b e f g h i j k l m : Bool) → b ≡ false → f ≡ false → h ≡ false → j ≡ false →
        (if a && b then Some BarBar else if e && f then Some AndAnd else if g && h then Some Arrow else if i && j then Some EqualEqual
        else if k && j then Some BangEqual else if l && j then Some LessEqual else if m && j then Some GreaterEqual else None) ≡ None
    none a b e f g h i j k l m no_b no_f no_h no_j =
        rw (never a b no_b, never e f no_f, never g h no_h, never i j no_j, never k j no_j, never l j no_j, never m j no_j) refl

single_before : (s : Symbol) (d c : ℕ) (rest : List ℕ) → is_blank c ≡ true → symbol_of_one d ≡ Some s → IsToken (Sym s) (d ∷ []) (c ∷ rest)
single_before s d c rest blank is = (one_stands (d ∷ c ∷ rest) s (omega arith) (no_pair d c blank) is).piece

pub symbol_before : (s : Symbol) (c : ℕ) (rest : List ℕ) → is_blank c ≡ true → IsToken (Sym s) (symbol_text s) (c ∷ rest)
symbol_before BarBar c rest blank = (pair_stands (124 ∷ 124 ∷ c ∷ rest) BarBar refl).piece
symbol_before AndAnd c rest blank = (pair_stands (38 ∷ 38 ∷ c ∷ rest) AndAnd refl).piece
symbol_before Arrow c rest blank = (pair_stands (45 ∷ 62 ∷ c ∷ rest) Arrow refl).piece
symbol_before EqualEqual c rest blank = (pair_stands (61 ∷ 61 ∷ c ∷ rest) EqualEqual refl).piece
symbol_before BangEqual c rest blank = (pair_stands (33 ∷ 61 ∷ c ∷ rest) BangEqual refl).piece
symbol_before LessEqual c rest blank = (pair_stands (60 ∷ 61 ∷ c ∷ rest) LessEqual refl).piece
symbol_before GreaterEqual c rest blank = (pair_stands (62 ∷ 61 ∷ c ∷ rest) GreaterEqual refl).piece
symbol_before Bar c rest blank = single_before Bar 124 c rest blank refl
symbol_before Less c rest blank = single_before Less 60 c rest blank refl
symbol_before Greater c rest blank = single_before Greater 62 c rest blank refl
symbol_before Plus c rest blank = single_before Plus 43 c rest blank refl
symbol_before Minus c rest blank = single_before Minus 45 c rest blank refl
symbol_before Times c rest blank = single_before Times 42 c rest blank refl
symbol_before Slash c rest blank = single_before Slash 47 c rest blank refl
symbol_before Percent c rest blank = single_before Percent 37 c rest blank refl
symbol_before Bang c rest blank = single_before Bang 33 c rest blank refl
symbol_before OpenParen c rest blank = single_before OpenParen 40 c rest blank refl
symbol_before CloseParen c rest blank = single_before CloseParen 41 c rest blank refl
symbol_before OpenBrace c rest blank = single_before OpenBrace 123 c rest blank refl
symbol_before CloseBrace c rest blank = single_before CloseBrace 125 c rest blank refl
symbol_before OpenBracket c rest blank = single_before OpenBracket 91 c rest blank refl
symbol_before CloseBracket c rest blank = single_before CloseBracket 93 c rest blank refl
symbol_before Comma c rest blank = single_before Comma 44 c rest blank refl
symbol_before Colon c rest blank = single_before Colon 58 c rest blank refl
symbol_before Semicolon c rest blank = single_before Semicolon 59 c rest blank refl
