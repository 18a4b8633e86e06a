-- There is at most one piece at the start.
use Rattle.std.proofs.Common.{◌≡◌, ℕ, ◌<◌, ◌≤◌, List, [], ◌∷◌, ◌++◌, length, codes, Bool, true, false, cond, refl, sym, ap, ◌∙◌, arith}
use Rattle.std.proofs.lemmas.Bool.Decides.{nat_tests}
use Rattle.c_tokens.specs.Characters.{is_blank, is_digit, begins_word}
use Rattle.c_tokens.specs.Symbols.{symbol_text}
use Rattle.c_tokens.specs.Pieces as piece
use Rattle.c_tokens.specs.Pieces.{What, Word, Bare, Const, Sym, Piece, IsPiece, IsComment, IsLongest}
use Rattle.c_tokens.specs.declared.symbol.Symbol.{Symbol}
use Rattle.c_tokens.specs.declared.symbol.Symbol.TheVariants.{OpenParen, CloseParen, OpenBrace, CloseBrace, OpenBracket, CloseBracket, Semicolon, Comma, Equal, EqualEqual, Less, AndAnd, BarBar, Bang, Plus, Minus, Star, Slash, Percent, Caret}
use Rattle.c_tokens.proofs.Runs.{same_prefix, same_begins_run}
use Rattle.c_tokens.proofs.Comments.{same_comment}
use Rattle.c_tokens.proofs.SymbolTexts.{same_symbol, no_empty_symbol}
use Rattle.c_tokens.proofs.Numbers.{same_bare, same_const, bare_no_const}

-- the sorts of pieces that the first character tells apart
pub data Sort : Type 0 where
  OfBlank : Sort
  OfNumber : Sort
  OfWord : Sort
  OfOther : Sort

abbrev pub sort_at : ℕ → Sort
sort_at c = cond (is_blank c) OfBlank (cond (is_digit c) OfNumber (cond (begins_word c) OfWord OfOther))

abbrev pub sort_of : Piece → Sort
sort_of piece.Blank = OfBlank
sort_of piece.Comment = OfOther
sort_of (piece.Token (Word w)) = OfWord
sort_of (piece.Token (Bare n)) = OfNumber
sort_of (piece.Token (Const n)) = OfNumber
sort_of (piece.Token (Sym s)) = OfOther

fails : (b : Bool) → (b ≡ true → ⊥) → b ≡ false
fails true h = absurd (h refl)
fails false h = refl

blank_small : (c : ℕ) → is_blank c ≡ true → c < 48
blank_small c h = grind (arith, nat_tests)

digit_between : (c : ℕ) → is_digit c ≡ true → (48 ≤ c) × (c < 58)
digit_between c h = (grind (arith, nat_tests), grind (arith, nat_tests))

letter_large : (c : ℕ) → begins_word c ≡ true → 58 ≤ c
letter_large c h = grind (arith, nat_tests)

blank_sort : (c : ℕ) → is_blank c ≡ true → sort_at c ≡ OfBlank
blank_sort c h = rw h refl

pub number_sort : (c : ℕ) → is_digit c ≡ true → sort_at c ≡ OfNumber
number_sort c h =
    let between = digit_between c h in
    let no_blank = fails (is_blank c) (λ b. let small = blank_small c b in omega arith) in
    chosen (is_blank c) (is_digit c) (begins_word c) no_blank h
  where
    chosen : (a d w : Bool) → a ≡ false → d ≡ true → cond a OfBlank (cond d OfNumber (cond w OfWord OfOther)) ≡ OfNumber
    chosen a d w e f = rw (e, f) refl

word_sort : (c : ℕ) → begins_word c ≡ true → sort_at c ≡ OfWord
word_sort c h =
    let large = letter_large c h in
    let no_blank = fails (is_blank c) (λ b. let small = blank_small c b in omega arith) in
    let no_digit = fails (is_digit c) (λ b. let between = digit_between c b in omega arith) in
    chosen (is_blank c) (is_digit c) (begins_word c) no_blank no_digit h
  where
    chosen : (a d w : Bool) → a ≡ false → d ≡ false → w ≡ true → cond a OfBlank (cond d OfNumber (cond w OfWord OfOther)) ≡ OfWord
    chosen a d w e f g = rw (e, f, g) refl

comment_sort : (c : ℕ) (cs inside : List ℕ) → c ∷ cs ≡ codes "/*" ++ inside → sort_at c ≡ OfOther
comment_sort c cs inside e = let is : c ≡ 47 = cc in ap sort_at is

symbol_sort : (s : Symbol) (c : ℕ) (cs : List ℕ) → symbol_text s ≡ c ∷ cs → sort_at c ≡ OfOther
symbol_sort OpenParen c cs e = let is : c ≡ 40 = cc in ap sort_at is
symbol_sort CloseParen c cs e = let is : c ≡ 41 = cc in ap sort_at is
symbol_sort OpenBrace c cs e = let is : c ≡ 123 = cc in ap sort_at is
symbol_sort CloseBrace c cs e = let is : c ≡ 125 = cc in ap sort_at is
symbol_sort OpenBracket c cs e = let is : c ≡ 91 = cc in ap sort_at is
symbol_sort CloseBracket c cs e = let is : c ≡ 93 = cc in ap sort_at is
symbol_sort Semicolon c cs e = let is : c ≡ 59 = cc in ap sort_at is
symbol_sort Comma c cs e = let is : c ≡ 44 = cc in ap sort_at is
symbol_sort Equal c cs e = let is : c ≡ 61 = cc in ap sort_at is
symbol_sort EqualEqual c cs e = let is : c ≡ 61 = cc in ap sort_at is
symbol_sort Less c cs e = let is : c ≡ 60 = cc in ap sort_at is
symbol_sort AndAnd c cs e = let is : c ≡ 38 = cc in ap sort_at is
symbol_sort BarBar c cs e = let is : c ≡ 124 = cc in ap sort_at is
symbol_sort Bang c cs e = let is : c ≡ 33 = cc in ap sort_at is
symbol_sort Plus c cs e = let is : c ≡ 43 = cc in ap sort_at is
symbol_sort Minus c cs e = let is : c ≡ 45 = cc in ap sort_at is
symbol_sort Star c cs e = let is : c ≡ 42 = cc in ap sort_at is
symbol_sort Slash c cs e = let is : c ≡ 47 = cc in ap sort_at is
symbol_sort Percent c cs e = let is : c ≡ 37 = cc in ap sort_at is
symbol_sort Caret c cs e = let is : c ≡ 94 = cc in ap sort_at is

-- a piece is of the sort that its first character tells
pub sort_at_start : (p : Piece) (c : ℕ) (cs rest : List ℕ) → IsPiece p (c ∷ cs) rest → sort_at c ≡ sort_of p
sort_at_start piece.Blank c cs rest h = blank_sort c (let is : c ≡ h.0 = first h.1 in ap is_blank is ∙ h.2)
  where
    first : c ∷ cs ≡ h.0 ∷ [] → c ≡ h.0
    first e = cc
sort_at_start piece.Comment c cs rest h = comment_sort c cs h.inside h.is
sort_at_start (piece.Token (Word w)) c cs rest h = word_sort c h.0.0
sort_at_start (piece.Token (Bare n)) c cs rest h = number_sort c h.0.0
sort_at_start (piece.Token (Const n)) c cs rest h = number_sort c h.0.0
sort_at_start (piece.Token (Sym s)) c cs rest h = symbol_sort s c cs h.0

-- no piece is without a character
pub no_empty_piece : (p : Piece) (rest : List ℕ) → IsPiece p [] rest → ⊥
no_empty_piece piece.Blank rest h = nothing h.0 h.1
  where
    nothing : (c : ℕ) → [] ≡ c ∷ [] → ⊥
    nothing c e = cc
no_empty_piece piece.Comment rest h = nothing h.inside h.is
  where
    nothing : (inside : List ℕ) → [] ≡ codes "/*" ++ inside → ⊥
    nothing inside e = cc
no_empty_piece (piece.Token (Word w)) rest h = h.0
no_empty_piece (piece.Token (Bare n)) rest h = h.0
no_empty_piece (piece.Token (Const n)) rest h = h.0
no_empty_piece (piece.Token (Sym s)) rest h = no_empty_symbol s h.0

pub record IsSamePiece (p q : Piece) (t r u s : List ℕ) : Type 0 where
  pub pieces : p ≡ q
  pub texts : t ≡ u
  pub rests : r ≡ s

same_blank : (t r u s : List ℕ) (c d : ℕ) → t ++ r ≡ u ++ s → t ≡ c ∷ [] → u ≡ d ∷ [] → IsSamePiece piece.Blank piece.Blank t r u s
same_blank t r u s c d e f g =
    let same = same_prefix t r u s e (ap length f ∙ sym (ap length g)) in
    record { pieces = refl; texts = same.0; rests = same.1 }

-- two symbols that are longest are one
same_longest : (a b : Symbol) (t r u s : List ℕ) → t ++ r ≡ u ++ s → symbol_text a ≡ t → symbol_text b ≡ u → IsLongest t r → IsLongest u s → IsSamePiece (piece.Token (Sym a)) (piece.Token (Sym b)) t r u s
same_longest a b t r u s e f g longest_t longest_u =
    let second_at_most : length (symbol_text b) ≤ length t = longest_t b s (e ∙ ap (λ (xs : List ℕ). xs ++ s) (sym g)) in
    let first_at_most : length (symbol_text a) ≤ length u = longest_u a r (sym e ∙ ap (λ (xs : List ℕ). xs ++ r) (sym f)) in
    let first_length = ap length f in
    let second_length = ap length g in
    let same = same_prefix t r u s e (omega arith) in
    record {
      pieces = ap (λ (x : Symbol). piece.Token (Sym x)) (same_symbol a b (f ∙ same.0 ∙ sym g));
      texts = same.0;
      rests = same.1;
    }

blank_no_token : (what : What) → OfBlank ≡ sort_of (piece.Token what) → ⊥
blank_no_token (Word w) e = cc
blank_no_token (Bare n) e = cc
blank_no_token (Const n) e = cc
blank_no_token (Sym s) e = cc

-- two pieces of one sort at one start are the same
of_one_sort : (p q : Piece) (t r u s : List ℕ) → sort_of p ≡ sort_of q → t ++ r ≡ u ++ s → IsPiece p t r → IsPiece q u s → IsSamePiece p q t r u s
of_one_sort piece.Blank piece.Blank t r u s same e f g = same_blank t r u s f.0 g.0 e f.1 g.1
of_one_sort piece.Blank piece.Comment t r u s same e f g = absurd cc
of_one_sort piece.Blank (piece.Token what) t r u s same e f g = absurd (blank_no_token what same)
of_one_sort piece.Comment piece.Comment t r u s same e f g =
    let comments = same_comment t r u s e f g in
    record { pieces = refl; texts = comments.0; rests = comments.1 }
of_one_sort piece.Comment (piece.Token (Sym b)) t r u s same e f g = absurd (g.2.no_whole t r (sym e) f)
of_one_sort piece.Comment q t r u s same e f g = absurd cc
of_one_sort (piece.Token (Word v)) (piece.Token (Word w)) t r u s same e f g =
    let runs = same_begins_run begins_word t r u s e f.0 g.0 in
    record { pieces = ap (λ (x : List ℕ). piece.Token (Word x)) (f.1 ∙ runs.0 ∙ sym g.1); texts = runs.0; rests = runs.1 }
of_one_sort (piece.Token (Word v)) q t r u s same e f g = absurd cc
of_one_sort (piece.Token (Bare n)) (piece.Token (Bare m)) t r u s same e f g =
    let runs = same_begins_run is_digit t r u s e f.0 g.0 in
    record { pieces = ap (λ (x : ℕ). piece.Token (Bare x)) (same_bare n m t f.1 (runs.0 ∙ g.1) f.2 g.2); texts = runs.0; rests = runs.1 }
of_one_sort (piece.Token (Bare n)) (piece.Token (Const m)) t r u s same e f g =
    let runs = same_begins_run is_digit t r u s e f.0 g.0 in
    absurd (bare_no_const n m t f.1 f.2 (runs.0 ∙ g.1))
of_one_sort (piece.Token (Bare n)) q t r u s same e f g = absurd cc
of_one_sort (piece.Token (Const n)) (piece.Token (Const m)) t r u s same e f g =
    let runs = same_begins_run is_digit t r u s e f.0 g.0 in
    record { pieces = ap (λ (x : ℕ). piece.Token (Const x)) (same_const n m t f.1 (runs.0 ∙ g.1) f.2 g.2); texts = runs.0; rests = runs.1 }
of_one_sort (piece.Token (Const n)) (piece.Token (Bare m)) t r u s same e f g =
    let runs = same_begins_run is_digit t r u s e f.0 g.0 in
    absurd (bare_no_const m n t (runs.0 ∙ g.1) g.2 f.1)
of_one_sort (piece.Token (Const n)) q t r u s same e f g = absurd cc
of_one_sort (piece.Token (Sym a)) (piece.Token (Sym b)) t r u s same e f g = same_longest a b t r u s e f.0 g.0 f.1 g.1
of_one_sort (piece.Token (Sym a)) piece.Comment t r u s same e f g = absurd (f.2.no_whole u s e g)
of_one_sort (piece.Token (Sym a)) q t r u s same e f g = absurd cc

-- there is at most one piece at the start
pub one_piece : (p q : Piece) (t r u s : List ℕ) → t ++ r ≡ u ++ s → IsPiece p t r → IsPiece q u s → IsSamePiece p q t r u s
one_piece p q [] r u s e f g = absurd (no_empty_piece p r f)
one_piece p q (c ∷ t) r [] s e f g = absurd (no_empty_piece q s g)
one_piece p q (c ∷ t) r (d ∷ u) s e f g =
    let first : c ≡ d = cc in
    of_one_sort p q (c ∷ t) r (d ∷ u) s (sym (sort_at_start p c t r f) ∙ ap sort_at first ∙ sort_at_start q d u s g) e f g
