-- The tokens of a spaced text are those that were spaced, but for offsets.
use Rattle.std.proofs.Common.{◌≡◌, ℕ, ◌+◌, ◌-◌, ◌<◌, ◌^◌, List, [], ◌∷◌, ◌++◌, length, take, true, refl, sym, ap, subst, ◌∙◌, arith, append_assoc, length-append, decimal}
use Rattle.std.specs.Prelude.{All, slice_range}
use Rattle.std.specs.Str.{chars, IsUtf8, IsAscii}
use Rattle.std.proofs.lemmas.Fmt.{IsAscii-decimal}
use Rattle.std.proofs.lemmas.List.{take_at, drop_at}
use Rattle.std.proofs.lemmas.List.Elements.{All-nil, All-cons, All-head, All-tail}
use Rattle.std.proofs.lemmas.Str.{chars-nil, chars-append, chars-IsAscii, encodes-chars, encode_ascii, IsUtf8-nil, IsUtf8-append, IsUtf8-from_ascii}
use Rattle.std.proofs.lemmas.Str.Ascii.{IsAscii-from_all}
use Rattle.pipe_lexer.specs.Characters.{is_blank, size_of}
use Rattle.pipe_lexer.specs.Pieces.{IsToken}
use Rattle.pipe_lexer.specs.Lexing.{Part, Passes, tokens_from, IsLexed}
use Rattle.pipe_lexer.specs.declared.piece.Piece.TheVariants as piece
use Rattle.pipe_lexer.specs.declared.token.Token.{Token}
use Rattle.pipe_lexer.specs.declared.token.TokenKind.{TokenKind}
use Rattle.pipe_lexer.specs.declared.token.TokenKind.TheVariants as kind
use Rattle.pipe_printer.proofs.BeforeBlanks.{IsAscii-keyword, IsAscii-symbol, identifier_before, number_before, keyword_before, symbol_before}
use Rattle.pipe_lexer.proofs.OnePiece.{blank_small}
use Rattle.pipe_tree.specs.Tokens.{What, Named, Number, Key, Sym, what_of, toks_of}
use Rattle.pipe_printer.specs.TreeTokens.{contents_of}
use Rattle.pipe_printer.specs.Printing.{spelling, spaced_text}
use Rattle.pipe_printer.specs.Spellings.{IsSpelling}
use Rattle.pipe_printer.proofs.PrintedTexts.{gap_is_blank}

kind_of : What → TokenKind
kind_of (Named text) = kind.Name
kind_of (Number n) = kind.Number n
kind_of (Key k) = kind.Key k
kind_of (Sym s) = kind.Sym s

-- a token of this kind and text has this content
kind_is : (w : What) → what_of (kind_of w) (spelling w) ≡ w
unfolding kind_of
kind_is (Named text) = refl
kind_is (Number n) = refl
kind_is (Key k) = refl
kind_is (Sym s) = refl

fits_word : (n : ℕ) → n < 2 ^ 63 → n < 2 ^ 64
fits_word n small = omega arith

spelling_is_text : (w : What) → IsSpelling w → IsUtf8 (spelling w)
spelling_is_text (Named text) is = is.0
spelling_is_text (Number n) is = IsUtf8-from_ascii (decimal n) (IsAscii-decimal n (fits_word n is))
spelling_is_text (Key k) is = IsUtf8-from_ascii (spelling (Key k)) (IsAscii-keyword k)
spelling_is_text (Sym s) is = IsUtf8-from_ascii (spelling (Sym s)) (IsAscii-symbol s)

ascii_token : (kind : TokenKind) (text rest : List ℕ) → IsAscii text → IsToken kind text rest → IsToken kind (chars text) rest
ascii_token kind text rest ascii is = subst (λ cs. IsToken kind cs rest) (sym (chars-IsAscii text ascii)) is

-- before a blank the characters of a content are a token of its kind
content_token : (w : What) (c : ℕ) (rest : List ℕ) → IsSpelling w → is_blank c ≡ true → IsToken (kind_of w) (chars (spelling w)) (c ∷ rest)
unfolding kind_of
content_token (Named text) c rest is blank = (identifier_before (chars text) c rest blank is.1.0, is.1.1)
content_token (Number n) c rest is blank = ascii_token (kind.Number n) (decimal n) (c ∷ rest) (IsAscii-decimal n (fits_word n is)) (number_before n c rest blank is)
content_token (Key k) c rest is blank = ascii_token (kind.Key k) (spelling (Key k)) (c ∷ rest) (IsAscii-keyword k) (keyword_before k c rest blank)
content_token (Sym s) c rest is blank = ascii_token (kind.Sym s) (spelling (Sym s)) (c ∷ rest) (IsAscii-symbol s) (symbol_before s c rest blank)

-- a token, a blank and then the other tokens
record Step (w : What) (ws : List What) : Type 0 where
  blank : ℕ
  is_blank : is_blank blank ≡ true
  split : spaced_text (w ∷ ws) ≡ spelling w ++ blank ∷ spaced_text ws

step_of : (w : What) (ws : List What) → Step w ws
step_of w [] = record { blank = 10; is_blank = refl; split = refl }
step_of w (v ∷ ws) =
    let g = gap_is_blank w in
    record { blank = g.blank; is_blank = g.is_blank; split = rw g.gap_is (simp append_assoc) }

blank_is_ascii : (c : ℕ) → is_blank c ≡ true → IsAscii (c ∷ [])
blank_is_ascii c blank =
    let small = blank_small c blank in
    IsAscii-from_all (c ∷ []) (All-cons (λ b. b < 128) c [] (omega arith) (All-nil (λ b. b < 128)))

spaced_is_text : (ws : List What) → All IsSpelling ws → IsUtf8 (spaced_text ws)
spaced_is_text [] all = IsUtf8-nil
spaced_is_text (w ∷ ws) all =
    let s = step_of w ws in
    let blank = IsUtf8-from_ascii (s.blank ∷ []) (blank_is_ascii s.blank s.is_blank) in
    let rest = IsUtf8-append (s.blank ∷ []) (spaced_text ws) blank (spaced_is_text ws (All-tail IsSpelling w ws all)) in
    subst IsUtf8 (sym s.split) (IsUtf8-append (spelling w) (s.blank ∷ spaced_text ws) (spelling_is_text w (All-head IsSpelling w ws all)) rest)

-- the characters of a token, a blank and the others
chars_of_step : (w : What) (c : ℕ) (bs : List ℕ) → IsUtf8 (spelling w) → is_blank c ≡ true → chars (spelling w ++ c ∷ bs) ≡ chars (spelling w) ++ c ∷ chars bs
chars_of_step w c bs text blank =
    let ascii = blank_is_ascii c blank in
    let behind : chars (c ∷ bs) ≡ c ∷ chars bs =
    chars-append (c ∷ []) bs (IsUtf8-from_ascii (c ∷ []) ascii) ∙ ap (λ (cs : List ℕ). cs ++ chars bs) (chars-IsAscii (c ∷ []) ascii) in
    chars-append (spelling w) (c ∷ bs) text ∙ ap (λ (cs : List ℕ). chars (spelling w) ++ cs) behind

-- the bytes of a token within a source
pub slice_is : (before text rest : List ℕ) → slice_range (before ++ (text ++ rest)) (length before) (length before + length text) ≡ text
slice_is before text rest =
    let len : length before + length text - length before ≡ length text = omega arith in
    ap (take (length before + length text - length before)) (drop_at before (text ++ rest) (length before) refl)
    ∙ take_at text rest (length before + length text - length before) (sym len)

-- a spaced text behind a prefix of a source is cut into parts, whose tokens have these contents
record IsCutInto (src : List ℕ) (at : ℕ) (ws : List What) : Type 0 where
  parts : List Part
  passes : Passes (chars (spaced_text ws)) parts []
  contents : contents_of (toks_of src (tokens_from at parts)) ≡ ws

blank_size : (c : ℕ) → is_blank c ≡ true → size_of (c ∷ []) ≡ 1
blank_size c blank =
    let small = blank_small c blank in ap (λ (bs : List ℕ). length (bs ++ [])) (encode_ascii c (omega arith))

spelling_size : (w : What) → IsSpelling w → size_of (chars (spelling w)) ≡ length (spelling w)
spelling_size w is = ap length (encodes-chars (spelling w) (spelling_is_text w is))

cut_contents : (src before : List ℕ) (ws : List What) → src ≡ before ++ spaced_text ws → All IsSpelling ws → IsCutInto src (length before) ws
cut_contents src before [] e all = record { parts = []; passes = chars-nil; contents = refl }
cut_contents src before (w ∷ ws) e all =
    let is = All-head IsSpelling w ws all in
    let s = step_of w ws in
    let text = spelling_is_text w is in
    let whole : src ≡ before ++ (spelling w ++ s.blank ∷ spaced_text ws) = e ∙ ap (λ (bs : List ℕ). before ++ bs) s.split in
    let next : src ≡ (before ++ spelling w ++ s.blank ∷ []) ++ spaced_text ws = whole ∙ simp append_assoc in
    let later = cut_contents src (before ++ spelling w ++ s.blank ∷ []) ws next (All-tail IsSpelling w ws all) in
    let sized = spelling_size w is in
    let blank_sized = blank_size s.blank s.is_blank in
    let end : length before + size_of (chars (spelling w)) ≡ length before + length (spelling w) = ap (λ (n : ℕ). length before + n) sized in
    let offset : length before + size_of (chars (spelling w)) + size_of (s.blank ∷ []) ≡ length (before ++ spelling w ++ s.blank ∷ []) =
    let outer = length-append (before ++ spelling w) (s.blank ∷ []) in let inner = length-append before (spelling w) in omega arith in
    let content_is : what_of (kind_of w) (slice_range src (length before) (length before + size_of (chars (spelling w)))) ≡ w =
    ap (λ (n : ℕ). what_of (kind_of w) (slice_range src (length before) n)) end
    ∙ ap (λ (bs : List ℕ). what_of (kind_of w) (slice_range bs (length before) (length before + length (spelling w)))) whole
    ∙ ap (what_of (kind_of w)) (slice_is before (spelling w) (s.blank ∷ spaced_text ws))
    ∙ kind_is w in
    record {
      parts = record { piece = piece.Token (kind_of w); text = chars (spelling w) } ∷ record { piece = piece.Blank; text = s.blank ∷ [] } ∷ later.parts;
      passes =
          record {
            rest = s.blank ∷ chars (spaced_text ws);
            split = ap chars s.split ∙ chars_of_step w s.blank (spaced_text ws) text s.is_blank;
            piece = content_token w s.blank (chars (spaced_text ws)) is s.is_blank;
            goes_on = record { rest = chars (spaced_text ws); split = refl; piece = (s.blank, refl, s.is_blank); goes_on = later.passes };
          };
      contents =
          ap2 content_is (ap (λ (n : ℕ). contents_of (toks_of src (tokens_from n later.parts))) offset ∙ later.contents);
    }
  where
    ap2 : {v w : What} {vs ws : List What} → v ≡ w → vs ≡ ws → (v ∷ vs) ≡ (w ∷ ws)
    ap2 p q = cc

-- the tokens of a text have these contents
pub record IsLexedAs (src : List ℕ) (ws : List What) : Type 0 where
  pub toks : List Token
  pub lexed : IsLexed src toks
  pub contents : contents_of (toks_of src toks) ≡ ws

-- the tokens of a spaced text have the contents that were spaced
pub spaced_is_lexed : (ws : List What) → All IsSpelling ws → IsLexedAs (spaced_text ws) ws
spaced_is_lexed ws all =
    let cut = cut_contents (spaced_text ws) [] ws refl all in
    record {
      toks = tokens_from 0 cut.parts;
      lexed = (spaced_is_text ws all, record { parts = cut.parts; passes = cut.passes; tokens = refl });
      contents = cut.contents;
    }
