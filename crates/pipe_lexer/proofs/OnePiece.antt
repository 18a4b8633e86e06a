-- There is at most one piece at the start, and none where a number is too large.
use Rattle.std.proofs.Common.{◌≡◌, ℕ, ◌^◌, ◌<◌, ◌≤◌, ◌==◌, ◌||◌, List, [], ◌∷◌, ◌++◌, length, Bool, true, false, cond, refl, sym, ap, ◌∙◌, arith, lit<}
use Rattle.std.proofs.lemmas.Bool.Decides.{nat_tests}
use Rattle.std.specs.Char.{is_ascii_alphabetic}
use Rattle.unicode_ident.proofs.IdentLemmas.{is_xid_start-ascii}
use Rattle.pipe_lexer.specs.Characters.{is_blank, begins_comment, continues_comment, is_digit, begins_identifier, continues_identifier}
use Rattle.pipe_lexer.specs.Symbols.{symbol_text}
use Rattle.pipe_lexer.specs.Pieces.{IsDigits, IsPiece, IsLargeNumber, value_with, IsLongest}
use Rattle.pipe_lexer.specs.declared.keyword.Keyword.{Keyword}
use Rattle.pipe_lexer.specs.declared.symbol.Symbol.{Symbol}
use Rattle.pipe_lexer.specs.declared.symbol.Symbol.TheVariants.{Bar, BarBar, AndAnd, Arrow, EqualEqual, BangEqual, Less, LessEqual, Greater, GreaterEqual, Plus, Minus, Times, Slash, Percent, Bang, OpenParen, CloseParen, OpenBrace, CloseBrace, OpenBracket, CloseBracket, Comma, Colon, Semicolon}
use Rattle.pipe_lexer.specs.declared.token.TokenKind.{TokenKind}
use Rattle.pipe_lexer.specs.declared.token.TokenKind.TheVariants.{Name, Number, Key, Sym}
use Rattle.pipe_lexer.specs.declared.piece.Piece.{Piece}
use Rattle.pipe_lexer.specs.declared.piece.Piece.TheVariants as piece
use Rattle.pipe_lexer.proofs.Runs.{same_begins_run}
use Rattle.pipe_lexer.proofs.SymbolPrefixes.{same_symbol, no_empty_symbol}
use Rattle.pipe_lexer.proofs.KeywordTable.{same_keyword}

-- the sorts of pieces that the first character tells apart
data Sort : Type 0 where
  OfBlank : Sort
  OfComment : Sort
  OfNumber : Sort
  OfWord : Sort
  OfSymbol : Sort

abbrev sort_at : ℕ → Sort
sort_at c = cond (is_blank c) OfBlank (cond (begins_comment c) OfComment (cond (is_digit c) OfNumber (cond (begins_identifier c) OfWord OfSymbol)))

abbrev sort_of : Piece → Sort
sort_of piece.Blank = OfBlank
sort_of piece.Comment = OfComment
sort_of (piece.Token Name) = OfWord
sort_of (piece.Token (Number n)) = OfNumber
sort_of (piece.Token (Key k)) = OfWord
sort_of (piece.Token (Sym s)) = OfSymbol

fails : (b : Bool) → (b ≡ true → ⊥) → b ≡ false
fails true h = absurd (h refl)
fails false h = refl

pub blank_small : (c : ℕ) → is_blank c ≡ true → c < 48
blank_small c h = grind (arith, nat_tests)

comment_is : (c : ℕ) → begins_comment c ≡ true → c ≡ 35
comment_is c h = grind (arith, nat_tests)

digit_between : (c : ℕ) → is_digit c ≡ true → (48 ≤ c) × (c < 58)
digit_between c h = (grind (arith, nat_tests), grind (arith, nat_tests))

ascii_letter_large : (c : ℕ) → (is_ascii_alphabetic c || (c == 95)) ≡ true → 58 ≤ c
ascii_letter_large c h = grind (arith, nat_tests)

pub begins_identifier-ascii : (c : ℕ) → c < 128 → begins_identifier c ≡ (is_ascii_alphabetic c || (c == 95))
begins_identifier-ascii c h = ap (λ (b : Bool). b || (c == 95)) (is_xid_start-ascii c h)

-- what begins an identifier is no blank, comment or digit
letter_large : (c : ℕ) → begins_identifier c ≡ true → c < 58 → ⊥
letter_large c h small =
    let large = ascii_letter_large c (sym (begins_identifier-ascii c (omega arith)) ∙ h) in omega arith

blank_sort : (c : ℕ) → is_blank c ≡ true → sort_at c ≡ OfBlank
blank_sort c h = rw h refl

comment_sort : (c : ℕ) → begins_comment c ≡ true → sort_at c ≡ OfComment
comment_sort c h = ap sort_at (comment_is c h)

number_sort : (c : ℕ) → is_digit c ≡ true → sort_at c ≡ OfNumber
number_sort c h =
    let between = digit_between c h in
    let no_blank = fails (is_blank c) (λ b. let small = blank_small c b in omega arith) in
    let no_comment = fails (begins_comment c) (λ b. let is = comment_is c b in omega arith) in
    chosen (is_blank c) (begins_comment c) (is_digit c) (begins_identifier c) no_blank no_comment h
  where
    chosen : (a b d w : Bool) → a ≡ false → b ≡ false → d ≡ true → cond a OfBlank (cond b OfComment (cond d OfNumber (cond w OfWord OfSymbol))) ≡ OfNumber
    chosen a b d w e f g = rw (e, f, g) refl

word_sort : (c : ℕ) → begins_identifier c ≡ true → sort_at c ≡ OfWord
word_sort c h =
    let no_blank = fails (is_blank c) (λ b. let small = blank_small c b in letter_large c h (omega arith)) in
    let no_comment = fails (begins_comment c) (λ b. let is = comment_is c b in letter_large c h (omega arith)) in
    let no_digit = fails (is_digit c) (λ b. let between = digit_between c b in let small = between.1 in letter_large c h small) in
    chosen (is_blank c) (begins_comment c) (is_digit c) (begins_identifier c) no_blank no_comment no_digit h
  where
    chosen : (a b d w : Bool) → a ≡ false → b ≡ false → d ≡ false → w ≡ true → cond a OfBlank (cond b OfComment (cond d OfNumber (cond w OfWord OfSymbol))) ≡ OfWord
    chosen a b d w e f g h = rw (e, f, g, h) refl

-- the sort at an ASCII character
sort_ascii : (c : ℕ) → c < 128 → sort_at c ≡ cond (is_blank c) OfBlank (cond (begins_comment c) OfComment (cond (is_digit c) OfNumber (cond (is_ascii_alphabetic c || (c == 95)) OfWord OfSymbol)))
sort_ascii c h = ap (λ (w : Bool). cond (is_blank c) OfBlank (cond (begins_comment c) OfComment (cond (is_digit c) OfNumber (cond w OfWord OfSymbol)))) (begins_identifier-ascii c h)

symbol_sort : (s : Symbol) (c : ℕ) (cs : List ℕ) → symbol_text s ≡ c ∷ cs → sort_at c ≡ OfSymbol
symbol_sort Bar c cs e = let is : c ≡ 124 = cc in ap sort_at is ∙ sort_ascii 124 (lit< tt)
symbol_sort BarBar c cs e = let is : c ≡ 124 = cc in ap sort_at is ∙ sort_ascii 124 (lit< tt)
symbol_sort AndAnd c cs e = let is : c ≡ 38 = cc in ap sort_at is ∙ sort_ascii 38 (lit< tt)
symbol_sort Arrow c cs e = let is : c ≡ 45 = cc in ap sort_at is ∙ sort_ascii 45 (lit< tt)
symbol_sort EqualEqual c cs e = let is : c ≡ 61 = cc in ap sort_at is ∙ sort_ascii 61 (lit< tt)
symbol_sort BangEqual c cs e = let is : c ≡ 33 = cc in ap sort_at is ∙ sort_ascii 33 (lit< tt)
symbol_sort Less c cs e = let is : c ≡ 60 = cc in ap sort_at is ∙ sort_ascii 60 (lit< tt)
symbol_sort LessEqual c cs e = let is : c ≡ 60 = cc in ap sort_at is ∙ sort_ascii 60 (lit< tt)
symbol_sort Greater c cs e = let is : c ≡ 62 = cc in ap sort_at is ∙ sort_ascii 62 (lit< tt)
symbol_sort GreaterEqual c cs e = let is : c ≡ 62 = cc in ap sort_at is ∙ sort_ascii 62 (lit< tt)
symbol_sort Plus c cs e = let is : c ≡ 43 = cc in ap sort_at is ∙ sort_ascii 43 (lit< tt)
symbol_sort Minus c cs e = let is : c ≡ 45 = cc in ap sort_at is ∙ sort_ascii 45 (lit< tt)
symbol_sort Times c cs e = let is : c ≡ 42 = cc in ap sort_at is ∙ sort_ascii 42 (lit< tt)
symbol_sort Slash c cs e = let is : c ≡ 47 = cc in ap sort_at is ∙ sort_ascii 47 (lit< tt)
symbol_sort Percent c cs e = let is : c ≡ 37 = cc in ap sort_at is ∙ sort_ascii 37 (lit< tt)
symbol_sort Bang c cs e = let is : c ≡ 33 = cc in ap sort_at is ∙ sort_ascii 33 (lit< tt)
symbol_sort OpenParen c cs e = let is : c ≡ 40 = cc in ap sort_at is ∙ sort_ascii 40 (lit< tt)
symbol_sort CloseParen c cs e = let is : c ≡ 41 = cc in ap sort_at is ∙ sort_ascii 41 (lit< tt)
symbol_sort OpenBrace c cs e = let is : c ≡ 123 = cc in ap sort_at is ∙ sort_ascii 123 (lit< tt)
symbol_sort CloseBrace c cs e = let is : c ≡ 125 = cc in ap sort_at is ∙ sort_ascii 125 (lit< tt)
symbol_sort OpenBracket c cs e = let is : c ≡ 91 = cc in ap sort_at is ∙ sort_ascii 91 (lit< tt)
symbol_sort CloseBracket c cs e = let is : c ≡ 93 = cc in ap sort_at is ∙ sort_ascii 93 (lit< tt)
symbol_sort Comma c cs e = let is : c ≡ 44 = cc in ap sort_at is ∙ sort_ascii 44 (lit< tt)
symbol_sort Colon c cs e = let is : c ≡ 58 = cc in ap sort_at is ∙ sort_ascii 58 (lit< tt)
symbol_sort Semicolon c cs e = let is : c ≡ 59 = cc in ap sort_at is ∙ sort_ascii 59 (lit< tt)

-- a piece is of the sort that its first character tells
sort_at_prefix : (p : Piece) (c : ℕ) (cs rest : List ℕ) → IsPiece p (c ∷ cs) rest → sort_at c ≡ sort_of p
sort_at_prefix piece.Blank c cs rest h = blank_sort c (let is : c ≡ h.0 = first h.1 in ap is_blank is ∙ h.2)
  where
    first : c ∷ cs ≡ h.0 ∷ [] → c ≡ h.0
    first e = cc
sort_at_prefix piece.Comment c cs rest h = comment_sort c h.0
sort_at_prefix (piece.Token Name) c cs rest h = word_sort c h.0.0
sort_at_prefix (piece.Token (Number n)) c cs rest h = number_sort c h.0.0
sort_at_prefix (piece.Token (Key k)) c cs rest h = word_sort c h.0.0
sort_at_prefix (piece.Token (Sym s)) c cs rest h = symbol_sort s c cs h.0

-- no piece is without a character
pub no_empty_piece : (p : Piece) (rest : List ℕ) → IsPiece p [] rest → ⊥
no_empty_piece piece.Blank rest h = nothing h.0 h.1
  where
    nothing : (c : ℕ) → [] ≡ c ∷ [] → ⊥
    nothing c e = cc
no_empty_piece piece.Comment rest h = h
no_empty_piece (piece.Token Name) rest h = h.0
no_empty_piece (piece.Token (Number n)) rest h = h.0
no_empty_piece (piece.Token (Key k)) rest h = h.0
no_empty_piece (piece.Token (Sym s)) rest h = no_empty_symbol s h.0

pub record IsSamePiece (p q : Piece) (t r u s : List ℕ) : Type 0 where
  pub pieces : p ≡ q
  pub texts : t ≡ u
  pub rests : r ≡ s

same_blank : (t r u s : List ℕ) (c d : ℕ) → t ++ r ≡ u ++ s → t ≡ c ∷ [] → u ≡ d ∷ [] → IsSamePiece piece.Blank piece.Blank t r u s
same_blank t r u s c d e f g =
    let whole : c ∷ r ≡ d ∷ s = sym (ap (λ (xs : List ℕ). xs ++ r) f) ∙ e ∙ ap (λ (xs : List ℕ). xs ++ s) g in
    let first : c ≡ d = cc in
    let tail : r ≡ s = cc in
    record { pieces = refl; texts = f ∙ ap (λ (x : ℕ). x ∷ []) first ∙ sym g; rests = tail }

-- texts of one length before two rests of one text
same_prefix : (t r u s : List ℕ) → t ++ r ≡ u ++ s → length t ≡ length u → (t ≡ u) × (r ≡ s)
same_prefix [] r [] s e l = (refl, e)
same_prefix [] r (d ∷ u) s e l = absurd (omega arith)
same_prefix (c ∷ t) r [] s e l = absurd (omega arith)
same_prefix (c ∷ t) r (d ∷ u) s e l =
    let first : c ≡ d = cc in
    let tail : t ++ r ≡ u ++ s = cc in
    let same = same_prefix t r u s tail (omega arith) in
    (both first same.0, same.1)
  where
    both : c ≡ d → t ≡ u → (c ∷ t) ≡ (d ∷ u)
    both p q = cc

same_sym : (a b : Symbol) (t r u s : List ℕ) → t ++ r ≡ u ++ s → symbol_text a ≡ t → symbol_text b ≡ u → IsLongest t r → IsLongest u s → IsSamePiece (piece.Token (Sym a)) (piece.Token (Sym b)) t r u s
same_sym a b t r u s e f g longest_t longest_u =
    let second_at_most : length (symbol_text b) ≤ length t = longest_t b s (e ∙ ap (λ (xs : List ℕ). xs ++ s) (sym g)) in
    let first_at_most : length (symbol_text a) ≤ length u = longest_u a r (sym e ∙ ap (λ (xs : List ℕ). xs ++ r) (sym f)) in
    let first_len = ap length f in
    let second_len = ap length g in
    let same = same_prefix t r u s e (omega arith) in
    record {
      pieces = ap (λ (x : Symbol). piece.Token (Sym x)) (same_symbol a b (f ∙ same.0 ∙ sym g));
      texts = same.0;
      rests = same.1;
    }

blank_no_token : (kind : TokenKind) → OfBlank ≡ sort_of (piece.Token kind) → ⊥
blank_no_token Name e = cc
blank_no_token (Number n) e = cc
blank_no_token (Key k) e = cc
blank_no_token (Sym s) e = cc

comment_no_token : (kind : TokenKind) → OfComment ≡ sort_of (piece.Token kind) → ⊥
comment_no_token Name e = cc
comment_no_token (Number n) e = cc
comment_no_token (Key k) e = cc
comment_no_token (Sym s) e = cc

-- two pieces of one sort at one prefix are the same
of_one_sort : (p q : Piece) (t r u s : List ℕ) → sort_of p ≡ sort_of q → t ++ r ≡ u ++ s → IsPiece p t r → IsPiece q u s → IsSamePiece p q t r u s
of_one_sort piece.Blank piece.Blank t r u s same e f g = same_blank t r u s f.0 g.0 e f.1 g.1
of_one_sort piece.Blank piece.Comment t r u s same e f g = absurd cc
of_one_sort piece.Blank (piece.Token kind) t r u s same e f g = absurd (blank_no_token kind same)
of_one_sort piece.Comment piece.Comment t r u s same e f g =
    let runs = same_begins_run begins_comment continues_comment t r u s e f g in
    record { pieces = refl; texts = runs.0; rests = runs.1 }
of_one_sort piece.Comment piece.Blank t r u s same e f g = absurd cc
of_one_sort piece.Comment (piece.Token kind) t r u s same e f g = absurd (comment_no_token kind same)
of_one_sort (piece.Token (Number n)) (piece.Token (Number m)) t r u s same e f g =
    let runs = same_begins_run is_digit is_digit t r u s e f.0 g.0 in
    record { pieces = ap (λ (x : ℕ). piece.Token (Number x)) (sym f.1 ∙ ap (value_with 0) runs.0 ∙ g.1); texts = runs.0; rests = runs.1 }
of_one_sort (piece.Token (Number n)) q t r u s same e f g = absurd cc
of_one_sort (piece.Token Name) (piece.Token Name) t r u s same e f g =
    let runs = same_begins_run begins_identifier continues_identifier t r u s e f.0 g.0 in
    record { pieces = refl; texts = runs.0; rests = runs.1 }
of_one_sort (piece.Token Name) (piece.Token (Key k)) t r u s same e f g =
    let runs = same_begins_run begins_identifier continues_identifier t r u s e f.0 g.0 in
    absurd (f.1 k (g.1 ∙ sym runs.0))
of_one_sort (piece.Token Name) q t r u s same e f g = absurd cc
of_one_sort (piece.Token (Key k)) (piece.Token (Key j)) t r u s same e f g =
    let runs = same_begins_run begins_identifier continues_identifier t r u s e f.0 g.0 in
    record { pieces = ap (λ (x : Keyword). piece.Token (Key x)) (same_keyword k j (f.1 ∙ runs.0 ∙ sym g.1)); texts = runs.0; rests = runs.1 }
of_one_sort (piece.Token (Key k)) (piece.Token Name) t r u s same e f g =
    let runs = same_begins_run begins_identifier continues_identifier t r u s e f.0 g.0 in
    absurd (g.1 k (f.1 ∙ runs.0))
of_one_sort (piece.Token (Key k)) q t r u s same e f g = absurd cc
of_one_sort (piece.Token (Sym a)) (piece.Token (Sym b)) t r u s same e f g = same_sym a b t r u s e f.0 g.0 f.1 g.1
of_one_sort (piece.Token (Sym a)) q t r u s same e f g = absurd cc

-- there is at most one piece at the start
pub one_piece : (p q : Piece) (t r u s : List ℕ) → t ++ r ≡ u ++ s → IsPiece p t r → IsPiece q u s → IsSamePiece p q t r u s
one_piece p q [] r u s e f g = absurd (no_empty_piece p r f)
one_piece p q (c ∷ t) r [] s e f g = absurd (no_empty_piece q s g)
one_piece p q (c ∷ t) r (d ∷ u) s e f g =
    let first : c ≡ d = cc in
    of_one_sort p q (c ∷ t) r (d ∷ u) s (sym (sort_at_prefix p c t r f) ∙ ap sort_at first ∙ sort_at_prefix q d u s g) e f g

-- at a number that is too large there is none
pub no_piece_at_large : (cs : List ℕ) → IsLargeNumber cs → (p : Piece) (text rest : List ℕ) → cs ≡ text ++ rest → IsPiece p text rest → ⊥
no_piece_at_large cs large p text rest e h = by_texts p large.text text (sym large.split ∙ e) large.digits large.large h
  where
    by_sort : (p : Piece) (t r u s : List ℕ) → OfNumber ≡ sort_of p → t ++ r ≡ u ++ s → IsDigits t r → 2 ^ 63 ≤ value_with 0 t → IsPiece p u s → ⊥
    by_sort (piece.Token (Number n)) t r u s same e f l g =
        let runs = same_begins_run is_digit is_digit t r u s e f g.0 in
        let value : value_with 0 t ≡ n = ap (value_with 0) runs.0 ∙ g.1 in
        let small = g.2 in
        omega arith
    by_sort q t r u s same e f l g = absurd cc

    by_texts : (p : Piece) (t u : List ℕ) → t ++ large.rest ≡ u ++ rest → IsDigits t large.rest → 2 ^ 63 ≤ value_with 0 t → IsPiece p u rest → ⊥
    by_texts p [] u e f l g = f
    by_texts p (c ∷ t) [] e f l g = no_empty_piece p rest g
    by_texts p (c ∷ t) (d ∷ u) e f l g =
        let first : c ≡ d = cc in
        by_sort p (c ∷ t) large.rest (d ∷ u) rest (sym (number_sort c f.0) ∙ ap sort_at first ∙ sort_at_prefix p d u rest g) e f l g
