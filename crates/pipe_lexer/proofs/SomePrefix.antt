-- At the start of any characters stands a piece, or a number that is too large, or a character that begins none.
use Rattle.std.proofs.Common.{◌≡◌, ℕ, ◌+◌, ◌-◌, ◌<◌, List, length, get_or, take, drop, Bool, true, false, Option, Some, None, Result, Ok, Err, refl, arith}
use Rattle.std.specs.List.{prefix_len}
use Rattle.pipe_lexer.specs.Characters.{is_blank, begins_comment, continues_comment, is_digit, begins_identifier, continues_identifier}
use Rattle.pipe_lexer.specs.Symbols.{symbol_of_one}
use Rattle.pipe_lexer.specs.Pieces.{value_with}
use Rattle.pipe_lexer.specs.Prefixes.{StandsAtPrefix, HasPrefix, HasSymbol, symbol_pair, within_limit}
use Rattle.pipe_lexer.specs.declared.symbol.Symbol.{Symbol}
use Rattle.pipe_lexer.specs.declared.token.TokenKind.TheVariants.{Number, Sym}
use Rattle.pipe_lexer.specs.declared.piece.Piece.{Piece}
use Rattle.pipe_lexer.specs.declared.piece.Piece.TheVariants as piece
use Rattle.pipe_lexer.specs.declared.piece.Prefix.{Prefix}
use Rattle.pipe_lexer.specs.declared.piece.Stop.{Stop}
use Rattle.pipe_lexer.specs.declared.piece.Stop.TheVariants as stop
use Rattle.pipe_lexer.proofs.Runs.{begins_run, begins_run_within}
use Rattle.pipe_lexer.proofs.SymbolPrefixes.{pair_stands, one_stands, no_symbol}
use Rattle.pipe_lexer.proofs.Firsts.{blank_stands, number_stands, number_large, identifier_stands, bad_stands}
use Rattle.pipe_lexer.proofs.IdentifierKinds.{identifier_kind}

-- what stands at the start, or why no piece does
abbrev SomePrefix : List ℕ → Type 0
SomePrefix cs = (r : Result Prefix Stop) × HasPrefix cs r

stands : (cs : List ℕ) (p : Piece) (len : ℕ) → StandsAtPrefix cs p len → SomePrefix cs
stands cs p len h = (Ok (record { piece = p; len = len }), h)

by_test : {A : Type 0} (b : Bool) → (b ≡ true → A) → (b ≡ false → A) → A
by_test true f g = f refl
by_test false f g = g refl

module _ (cs : List ℕ) (some : 0 < length cs) where
  -- how many characters behind the first go on
  abbrev behind : (ℕ → Bool) → ℕ
  behind test = prefix_len test (take (length cs - 1) (drop 1 cs))

  comment_prefix : begins_comment (get_or cs 0 0) ≡ true → SomePrefix cs
  comment_prefix begins = stands cs piece.Comment (1 + behind continues_comment) (record {
    some = omega arith;
    within = begins_run_within continues_comment cs (behind continues_comment) some refl;
    piece = begins_run begins_comment continues_comment cs (behind continues_comment) some begins refl;
  })

  number_prefix : is_digit (get_or cs 0 0) ≡ true → SomePrefix cs
  number_prefix digit = by_value (within_limit (value_with 0 (take (1 + n) cs))) refl
    where
      n : ℕ
      n = behind is_digit

      by_value : (value : Option ℕ) → within_limit (value_with 0 (take (1 + n) cs)) ≡ value → SomePrefix cs
      by_value (Some v) is = stands cs (piece.Token (Number v)) (1 + n) (number_stands cs v n some digit refl is)
      by_value None is = (Err stop.NumberTooLarge, number_large cs n some digit refl is)

  identifier_prefix : begins_identifier (get_or cs 0 0) ≡ true → SomePrefix cs
  identifier_prefix letter =
      let n = behind continues_identifier in
      let kind = identifier_kind (take (1 + n) cs) in
      stands cs (piece.Token kind.0) (1 + n) (identifier_stands cs kind.0 n some letter refl kind.1)

  symbol_prefix : (HasSymbol cs None → SomePrefix cs) → SomePrefix cs
  symbol_prefix otherwise = by_pair (symbol_pair cs) refl
    where
      by_one : symbol_pair cs ≡ None → (one : Option Symbol) → symbol_of_one (get_or cs 0 0) ≡ one → SomePrefix cs
      by_one none (Some s) is = stands cs (piece.Token (Sym s)) 1 (one_stands cs s some none is)
      by_one none None is = otherwise (no_symbol cs some none is)

      by_pair : (pair : Option Symbol) → symbol_pair cs ≡ pair → SomePrefix cs
      by_pair (Some s) is = stands cs (piece.Token (Sym s)) 2 (pair_stands cs s is)
      by_pair None is = by_one is (symbol_of_one (get_or cs 0 0)) refl

  pub some_prefix : (r : Result Prefix Stop) × HasPrefix cs r
  some_prefix =
      by_test (is_blank (get_or cs 0 0)) (λ blank. stands cs piece.Blank 1 (blank_stands cs some blank)) (λ no_blank.
      by_test (begins_comment (get_or cs 0 0)) comment_prefix (λ no_comment.
      by_test (is_digit (get_or cs 0 0)) number_prefix (λ no_digit.
      by_test (begins_identifier (get_or cs 0 0)) identifier_prefix (λ no_letter.
      symbol_prefix (λ none. (Err stop.BadChar, bad_stands cs some no_blank no_comment no_digit no_letter none))))))
