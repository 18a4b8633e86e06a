-- Cutting characters into parts by computation. The characters pass the parts that it gives. It knows no
-- comments.
use Rattle.std.proofs.Common.{◌≡◌, ℕ, zero, suc, ◌+◌, ◌-◌, ◌<◌, List, [], ◌∷◌, length, get_or, take, drop, Bool, true, false, cond, Option, Some, None, refl, sym, ap, subst, ◌∙◌, arith}
use Rattle.std.specs.List.{prefix_len}
use Rattle.std.specs.Str.{bytes_eq}
use Rattle.std.proofs.lemmas.List.{take-append-drop, take_rest}
use Rattle.std.proofs.lemmas.Slice.Eq.{bytes_eq-Decides}
use Rattle.pipe_lexer.specs.Characters.{is_blank, is_digit, begins_identifier, continues_identifier}
use Rattle.pipe_lexer.specs.Keywords.{keyword_text}
use Rattle.pipe_lexer.specs.Lexing.{Part, Passes}
use Rattle.pipe_lexer.specs.Pieces.{value_with}
use Rattle.pipe_lexer.specs.Prefixes.{StandsAtPrefix, IsIdentifierKind, symbol_pair, within_limit}
use Rattle.pipe_lexer.specs.Symbols.{symbol_of_one}
use Rattle.pipe_lexer.specs.declared.keyword.Keyword.{Keyword}
use Rattle.pipe_lexer.specs.declared.keyword.Keyword.TheVariants as keyword
use Rattle.pipe_lexer.specs.declared.piece.Piece.{Piece}
use Rattle.pipe_lexer.specs.declared.piece.Piece.TheVariants as piece
use Rattle.pipe_lexer.specs.declared.piece.Prefix.{Prefix}
use Rattle.pipe_lexer.specs.declared.symbol.Symbol.{Symbol}
use Rattle.pipe_lexer.specs.declared.token.TokenKind.{TokenKind}
use Rattle.pipe_lexer.specs.declared.token.TokenKind.TheVariants.{Name, Number, Key, Sym}
use Rattle.pipe_lexer.proofs.Firsts.{blank_stands, number_stands, identifier_stands}
use Rattle.pipe_lexer.proofs.SymbolPrefixes.{pair_stands, one_stands}

-- ---- the kind of an identifier

abbrev keywords : List Keyword
keywords =
    keyword.Input ∷ keyword.Array ∷ keyword.Int ∷ keyword.Range ∷ keyword.Unfold ∷ keyword.With ∷ keyword.While ∷ keyword.Yield
    ∷ keyword.Next ∷ keyword.Zip ∷ keyword.Map ∷ keyword.Filter ∷ keyword.Take ∷ keyword.Drop ∷ keyword.TakeWhile ∷ keyword.Scan
    ∷ keyword.FlatMap ∷ keyword.Fold ∷ keyword.Print ∷ keyword.If ∷ keyword.Then ∷ keyword.Else ∷ keyword.True ∷ keyword.False
    ∷ keyword.Len ∷ keyword.Window ∷ keyword.Pairwise ∷ keyword.Index ∷ keyword.Sum ∷ keyword.Count ∷ keyword.Least ∷ keyword.Greatest ∷ []

-- the first of these keywords that is written so
abbrev keyword_among : List Keyword → List ℕ → Option Keyword
keyword_among [] text = None
keyword_among (k ∷ ks) text = cond (bytes_eq (keyword_text k) text) (Some k) (keyword_among ks text)

abbrev keyword_of : List ℕ → Option Keyword
keyword_of text = keyword_among keywords text

keyword_of-text : (k : Keyword) → keyword_of (keyword_text k) ≡ Some k
keyword_of-text keyword.Input = refl
keyword_of-text _ = refl

keyword_among-text : (ks : List Keyword) (text : List ℕ) (k : Keyword) → keyword_among ks text ≡ Some k → keyword_text k ≡ text
keyword_among-text [] text k e = absurd cc
keyword_among-text (j ∷ ks) text k e = by_test (bytes_eq (keyword_text j) text) refl e (keyword_among-text ks text k)
  where
    by_test : (b : Bool) → bytes_eq (keyword_text j) text ≡ b → cond b (Some j) (keyword_among ks text) ≡ Some k
        → (keyword_among ks text ≡ Some k → keyword_text k ≡ text) → keyword_text k ≡ text
    by_test true e is later = let same : j ≡ k = cc in ap keyword_text (sym same) ∙ (bytes_eq-Decides (keyword_text j) text).0 e
    by_test false e is later = later is

abbrev kind_by : Option Keyword → TokenKind
kind_by None = Name
kind_by (Some k) = Key k

kind_by-is : (text : List ℕ) (k : Option Keyword) → keyword_of text ≡ k → IsIdentifierKind text (kind_by k)
kind_by-is text None e = λ k written.
    let found : Some k ≡ None = sym (keyword_of-text k) ∙ ap keyword_of written ∙ e in
    absurd cc
kind_by-is text (Some k) e = keyword_among-text keywords text k e

abbrev identifier_kind : List ℕ → TokenKind
identifier_kind text = kind_by (keyword_of text)

identifier_kind-is : (text : List ℕ) → IsIdentifierKind text (identifier_kind text)
identifier_kind-is text = kind_by-is text (keyword_of text) refl

-- ---- the length of a run

abbrev if_more : Bool → (ℕ → ℕ) → ℕ → ℕ
if_more true more n = more n
if_more false more n = n

-- n and the characters at the start that pass; it looks no further than these
abbrev run_from : (ℕ → Bool) → List ℕ → ℕ → ℕ
run_from test [] n = n
run_from test (c ∷ cs) n = if_more (test c) (λ m. run_from test cs (m + 1)) n

run_from-is : (test : ℕ → Bool) (cs : List ℕ) (n : ℕ) → run_from test cs n ≡ n + prefix_len test cs
run_from-is test [] n = omega arith
run_from-is test (c ∷ cs) n = by_test (test c) (run_from-is test cs (n + 1))
  where
    by_test : (b : Bool) → run_from test cs (n + 1) ≡ n + 1 + prefix_len test cs
        → if_more b (λ m. run_from test cs (m + 1)) n ≡ n + cond b (1 + prefix_len test cs) 0
    by_test true later = omega arith
    by_test false later = omega arith

-- how many characters behind the first pass
abbrev behind : (ℕ → Bool) → List ℕ → ℕ
behind test cs = run_from test (drop 1 cs) 0

behind-is : (test : ℕ → Bool) (cs : List ℕ) → behind test cs ≡ prefix_len test (take (length cs - 1) (drop 1 cs))
behind-is test cs =
    let run = run_from-is test (drop 1 cs) 0 in
    let same : prefix_len test (take (length cs - 1) (drop 1 cs)) ≡ prefix_len test (drop 1 cs) = ap (prefix_len test) (take_rest cs 1) in
    omega arith

-- ---- the piece at the start

abbrev prefix : Piece → ℕ → Option Prefix
prefix p len = Some (record { piece = p; len = len })

abbrev number_prefix : Option ℕ → ℕ → Option Prefix
number_prefix (Some v) len = prefix (piece.Token (Number v)) len
number_prefix None len = None

abbrev symbol_prefix : Option Symbol → Option Symbol → Option Prefix
symbol_prefix (Some s) one = prefix (piece.Token (Sym s)) 2
symbol_prefix None (Some s) = prefix (piece.Token (Sym s)) 1
symbol_prefix None None = None

-- by what the first character is: a blank, a digit, a letter, or none of these
abbrev prefix_by : (blank digit letter : Bool) → List ℕ → Option Prefix
prefix_by true digit letter cs = prefix piece.Blank 1
prefix_by false true letter cs = number_prefix (within_limit (value_with 0 (take (1 + behind is_digit cs) cs))) (1 + behind is_digit cs)
prefix_by false false true cs = prefix (piece.Token (identifier_kind (take (1 + behind continues_identifier cs) cs))) (1 + behind continues_identifier cs)
prefix_by false false false cs = symbol_prefix (symbol_pair cs) (symbol_of_one (get_or cs 0 0))

abbrev prefix_at : List ℕ → Option Prefix
prefix_at cs = prefix_by (is_blank (get_or cs 0 0)) (is_digit (get_or cs 0 0)) (begins_identifier (get_or cs 0 0)) cs

-- where there is a piece, it stands at the start
abbrev StandsIfSome : List ℕ → Option Prefix → Type 0
StandsIfSome cs None = Unit {0}
StandsIfSome cs (Some p) = StandsAtPrefix cs p.piece p.len

module _ (cs : List ℕ) (some : 0 < length cs) where
  number_stands_if : is_digit (get_or cs 0 0) ≡ true → (v : Option ℕ) → within_limit (value_with 0 (take (1 + behind is_digit cs) cs)) ≡ v
      → StandsIfSome cs (number_prefix v (1 + behind is_digit cs))
  number_stands_if digit (Some v) e = number_stands cs v (behind is_digit cs) some digit (behind-is is_digit cs) e
  number_stands_if digit None e = tt

  symbol_stands_if : (pair one : Option Symbol) → symbol_pair cs ≡ pair → symbol_of_one (get_or cs 0 0) ≡ one → StandsIfSome cs (symbol_prefix pair one)
  symbol_stands_if (Some s) one e f = pair_stands cs s e
  symbol_stands_if None (Some s) e f = one_stands cs s some e f
  symbol_stands_if None None e f = tt

  prefix_by-stands : (blank digit letter : Bool) → is_blank (get_or cs 0 0) ≡ blank → is_digit (get_or cs 0 0) ≡ digit → begins_identifier (get_or cs 0 0) ≡ letter
      → StandsIfSome cs (prefix_by blank digit letter cs)
  prefix_by-stands true digit letter e f g = blank_stands cs some e
  prefix_by-stands false true letter e f g = number_stands_if f (within_limit (value_with 0 (take (1 + behind is_digit cs) cs))) refl
  prefix_by-stands false false true e f g =
      let n = behind continues_identifier cs in
      identifier_stands cs (identifier_kind (take (1 + n) cs)) n some g (behind-is continues_identifier cs) (identifier_kind-is (take (1 + n) cs))
  prefix_by-stands false false false e f g = symbol_stands_if (symbol_pair cs) (symbol_of_one (get_or cs 0 0)) refl refl

  prefix_at-stands : StandsIfSome cs (prefix_at cs)
  prefix_at-stands = prefix_by-stands (is_blank (get_or cs 0 0)) (is_digit (get_or cs 0 0)) (begins_identifier (get_or cs 0 0)) refl refl refl

-- ---- the parts

abbrev with_part : Part → Option (List Part) → Option (List Part)
with_part p None = None
with_part p (Some ps) = Some (p ∷ ps)

-- a piece with its characters, and then the parts of what is behind it
abbrev parts_behind : Option Prefix → List ℕ → (List ℕ → Option (List Part)) → Option (List Part)
parts_behind None cs later = None
parts_behind (Some p) cs later = with_part (record { piece = p.piece; text = take p.len cs }) (later (drop p.len cs))

-- the parts of characters that are at most so many pieces
abbrev pub cut : ℕ → List ℕ → Option (List Part)
cut n [] = Some []
cut zero (c ∷ cs) = None
cut (suc n) (c ∷ cs) = parts_behind (prefix_at (c ∷ cs)) (c ∷ cs) (cut n)

abbrev PassesIfSome : List ℕ → Option (List Part) → Type 0
PassesIfSome cs None = Unit {0}
PassesIfSome cs (Some ps) = Passes cs ps []

with_part-passes : (cs : List ℕ) (p : Prefix) → StandsAtPrefix cs p.piece p.len → (later : Option (List Part)) → PassesIfSome (drop p.len cs) later
    → PassesIfSome cs (with_part (record { piece = p.piece; text = take p.len cs }) later)
with_part-passes cs p stands None passes = tt
with_part-passes cs p stands (Some ps) passes =
    record { rest = drop p.len cs; split = sym (take-append-drop p.len cs); piece = stands.piece; goes_on = passes }

parts_behind-pass : (cs : List ℕ) (p : Option Prefix) → StandsIfSome cs p → (later : List ℕ → Option (List Part)) → ((rest : List ℕ) → PassesIfSome rest (later rest))
    → PassesIfSome cs (parts_behind p cs later)
parts_behind-pass cs None stands later pass = tt
parts_behind-pass cs (Some p) stands later pass = with_part-passes cs p stands (later (drop p.len cs)) (pass (drop p.len cs))

cut-passes : (n : ℕ) (cs : List ℕ) → PassesIfSome cs (cut n cs)
cut-passes n [] = refl
cut-passes zero (c ∷ cs) = tt
cut-passes (suc n) (c ∷ cs) = parts_behind-pass (c ∷ cs) (prefix_at (c ∷ cs)) (prefix_at-stands (c ∷ cs) (omega arith)) (cut n) (cut-passes n)

-- what the cutting gives, the characters pass
pub cut_passes : (n : ℕ) (cs : List ℕ) (ps : List Part) → cut n cs ≡ Some ps → Passes cs ps []
cut_passes n cs ps e = subst (PassesIfSome cs) e (cut-passes n cs)
