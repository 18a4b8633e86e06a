-- Which piece stands at the start of characters, by the first of them.
use Rattle.std.proofs.Common.{◌≡◌, ℕ, ◌+◌, ◌-◌, ◌<◌, List, [], ◌∷◌, ◌++◌, length, get_or, take, drop, true, false, Some, None, refl, sym, ap, ◌∙◌, arith, lit<}
use Rattle.std.specs.List.{prefix_len}
use Rattle.std.proofs.lemmas.List.{take-append-drop}
use Rattle.pipe_lexer.specs.Characters.{is_blank, begins_comment, is_digit, begins_identifier, continues_identifier}
use Rattle.pipe_lexer.specs.Pieces.{IsIdentifier, IsDigits, IsPiece, IsToken, IsLargeNumber, IsBadChar, value_with}
use Rattle.pipe_lexer.specs.Prefixes.{StandsAtPrefix, HasSymbol, IsIdentifierKind, within_limit}
use Rattle.pipe_lexer.specs.declared.token.TokenKind.{TokenKind}
use Rattle.pipe_lexer.specs.declared.token.TokenKind.TheVariants.{Name, Number, Key, Sym}
use Rattle.pipe_lexer.specs.declared.piece.Piece.{Piece}
use Rattle.pipe_lexer.specs.declared.piece.Piece.TheVariants as piece
use Rattle.pipe_lexer.proofs.Runs.{begins_run, begins_run_within, clash}
use Rattle.pipe_lexer.proofs.Digits.{within_some, within_none}

-- a read of the first character, whatever is read past the end
pub first_of : (cs : List ℕ) (c : ℕ) → 0 < length cs → c ≡ get_or cs 0 c → get_or cs 0 0 ≡ c
first_of [] c some is = absurd (omega arith)
first_of (x ∷ cs) c some is = sym is

pub blank_stands : (cs : List ℕ) → 0 < length cs → is_blank (get_or cs 0 0) ≡ true → StandsAtPrefix cs piece.Blank 1
blank_stands [] some blank = absurd (omega arith)
blank_stands (c ∷ cs) some blank = record { some = lit< tt; within = omega arith; piece = (c, refl, blank) }

pub number_stands : (cs : List ℕ) (v n : ℕ) → 0 < length cs → is_digit (get_or cs 0 0) ≡ true → n ≡ prefix_len is_digit (take (length cs - 1) (drop 1 cs)) → within_limit (value_with 0 (take (1 + n) cs)) ≡ Some v → StandsAtPrefix cs (piece.Token (Number v)) (1 + n)
number_stands cs v n some digit is value = record {
  some = omega arith;
  within = begins_run_within is_digit cs n some is;
  piece = let small = within_some (value_with 0 (take (1 + n) cs)) v value in (begins_run is_digit is_digit cs n some digit is, small.0, small.1);
}

pub number_large : (cs : List ℕ) (n : ℕ) → 0 < length cs → is_digit (get_or cs 0 0) ≡ true → n ≡ prefix_len is_digit (take (length cs - 1) (drop 1 cs)) → within_limit (value_with 0 (take (1 + n) cs)) ≡ None → IsLargeNumber cs
number_large cs n some digit is value = record {
  text = take (1 + n) cs;
  rest = drop (1 + n) cs;
  split = sym (take-append-drop (1 + n) cs);
  digits = begins_run is_digit is_digit cs n some digit is;
  large = within_none (value_with 0 (take (1 + n) cs)) value;
}

-- an identifier of a kind is that token
identifier_token : (kind : TokenKind) (text rest : List ℕ) → IsIdentifier text rest → IsIdentifierKind text kind → IsToken kind text rest
identifier_token Name text rest identifier is = (identifier, is)
identifier_token (Number n) text rest identifier is = absurd is
identifier_token (Key k) text rest identifier is = (identifier, is)
identifier_token (Sym s) text rest identifier is = absurd is

pub identifier_stands : (cs : List ℕ) (kind : TokenKind) (n : ℕ) → 0 < length cs → begins_identifier (get_or cs 0 0) ≡ true → n ≡ prefix_len continues_identifier (take (length cs - 1) (drop 1 cs)) → IsIdentifierKind (take (1 + n) cs) kind → StandsAtPrefix cs (piece.Token kind) (1 + n)
identifier_stands cs kind n some letter is kind_is = record {
  some = omega arith;
  within = begins_run_within continues_identifier cs n some is;
  piece = identifier_token kind (take (1 + n) cs) (drop (1 + n) cs) (begins_run begins_identifier continues_identifier cs n some letter is) kind_is;
}

-- where no piece begins with the first character, it is a bad one
pub bad_stands : (cs : List ℕ) → 0 < length cs → is_blank (get_or cs 0 0) ≡ false → begins_comment (get_or cs 0 0) ≡ false → is_digit (get_or cs 0 0) ≡ false → begins_identifier (get_or cs 0 0) ≡ false → HasSymbol cs None → IsBadChar cs
bad_stands [] some blank comment digit letter symbol = absurd (omega arith)
bad_stands (c ∷ cs) some blank comment digit letter symbol = record {
  some = λ e. absurd cc;
  no_piece = no_piece;
  no_number = λ large. no_number large.text large.rest large.split large.digits;
}
  where
    no_number : (text rest : List ℕ) → c ∷ cs ≡ text ++ rest → IsDigits text rest → ⊥
    no_number [] rest e h = h
    no_number (d ∷ text) rest e h = let first : c ≡ d = cc in clash is_digit c d first digit h.0

    no_identifier : (text rest : List ℕ) → c ∷ cs ≡ text ++ rest → IsIdentifier text rest → ⊥
    no_identifier [] rest e h = h
    no_identifier (d ∷ text) rest e h = let first : c ≡ d = cc in clash begins_identifier c d first letter h.0

    no_comment : (text rest : List ℕ) → c ∷ cs ≡ text ++ rest → IsPiece piece.Comment text rest → ⊥
    no_comment [] rest e h = h
    no_comment (d ∷ text) rest e h = let first : c ≡ d = cc in clash begins_comment c d first comment h.0

    no_blank : (text rest : List ℕ) (d : ℕ) → c ∷ cs ≡ text ++ rest → text ≡ d ∷ [] → is_blank d ≡ true → ⊥
    no_blank text rest d e is h = let first : c ∷ cs ≡ d ∷ rest = e ∙ ap (λ (xs : List ℕ). xs ++ rest) is in let same : c ≡ d = cc in clash is_blank c d same blank h

    no_piece : (p : Piece) (text rest : List ℕ) → c ∷ cs ≡ text ++ rest → IsPiece p text rest → ⊥
    no_piece piece.Blank text rest e h = no_blank text rest h.0 e h.1 h.2
    no_piece piece.Comment text rest e h = no_comment text rest e h
    no_piece (piece.Token Name) text rest e h = no_identifier text rest e h.0
    no_piece (piece.Token (Number n)) text rest e h = no_number text rest e h.0
    no_piece (piece.Token (Key k)) text rest e h = no_identifier text rest e h.0
    no_piece (piece.Token (Sym s)) text rest e h = symbol s rest (e ∙ ap (λ (xs : List ℕ). xs ++ rest) (sym h.0))
