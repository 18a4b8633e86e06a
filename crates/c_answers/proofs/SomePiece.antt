-- A piece begins any characters, or nothing does.
use Rattle.std.proofs.Common.{◌≡◌, ◌⊎◌, ℕ, List, [], ◌∷◌, ◌++◌, Bool, true, false, cond, refl, sym, ap, subst, ◌∙◌, inl, inr, true≢false}
use Rattle.c_tokens.specs.Characters.{is_blank, is_digit, begins_word}
use Rattle.c_tokens.specs.Pieces as piece
use Rattle.c_tokens.specs.Pieces.{Word, Bare, Const, Sym, Piece, IsPiece, BeginsRun, BeginsNoComment, begins_with_pair}
use Rattle.c_tokens.specs.Symbols.{symbol_text}
use Rattle.c_tokens.proofs.OnePiece.{Sort, OfBlank, OfNumber, OfWord, OfOther, sort_at, sort_of, number_sort, sort_at_start, no_empty_piece}
use Rattle.c_tokens.proofs.Runs.{same_begins_run}
use Rattle.c_faults.specs.Answers.{BeginsNothing}
use Rattle.c_answers.proofs.Beginnings.{by_test, HasBeginsRun, begins_run}
use Rattle.c_answers.proofs.SomeComment.{HasComment, HasNoComment, comment_or_none}
use Rattle.c_answers.proofs.SomeNumber.{IsBareText, IsConstText, NumberOf, bare_or_not, const_or_not}
use Rattle.c_answers.proofs.SomeSymbol.{HasSymbol, HasNoSymbol, symbol_or_none}

pub record HasPiece (cs : List ℕ) : Type 0 where
  pub piece : Piece
  pub text : List ℕ
  pub rest : List ℕ
  pub split : cs ≡ text ++ rest
  pub is : IsPiece piece text rest

abbrev pub PieceOrNone : List ℕ → Type 0
PieceOrNone cs = HasPiece cs ⊎ BeginsNothing cs

module _ (c : ℕ) (cs : List ℕ) where
  -- there is no piece of this sort
  abbrev HasNone : Sort → Type 0
  HasNone sort = (p : Piece) (text rest : List ℕ) → sort_of p ≡ sort → c ∷ cs ≡ text ++ rest → IsPiece p text rest → ⊥

  -- where the first character tells the sort, there is none at all
  none_of_sort : (sort : Sort) → sort_at c ≡ sort → HasNone sort → BeginsNothing (c ∷ cs)
  none_of_sort sort is none p [] rest e h = no_empty_piece p rest h
  none_of_sort sort is none p (d ∷ text) rest e h =
      let first : d ≡ c = cc in
      none p (d ∷ text) rest (sym (sort_at_start p d text rest h) ∙ ap sort_at first ∙ is) e h

  -- ---- numbers

  module _ (digit : is_digit c ≡ true) (run : HasBeginsRun is_digit (c ∷ cs)) where
    same_run : (text rest : List ℕ) → c ∷ cs ≡ text ++ rest → BeginsRun is_digit text rest → run.text ≡ text
    same_run text rest e is = (same_begins_run is_digit run.text run.rest text rest (sym run.split ∙ e) run.is_run is).0

    no_number : ((n : ℕ) → IsBareText run.text n → ⊥) → ((n : ℕ) → IsConstText run.text n → ⊥) → HasNone OfNumber
    no_number no_bare no_const piece.Blank text rest sort e h = cc
    no_number no_bare no_const piece.Comment text rest sort e h = cc
    no_number no_bare no_const (piece.Token (Word w)) text rest sort e h = cc
    no_number no_bare no_const (piece.Token (Bare n)) text rest sort e h = no_bare n (same_run text rest e h.0 ∙ h.1, h.2)
    no_number no_bare no_const (piece.Token (Const n)) text rest sort e h = no_const n (same_run text rest e h.0 ∙ h.1, h.2)
    no_number no_bare no_const (piece.Token (Sym s)) text rest sort e h = cc

    by_const : ((n : ℕ) → IsBareText run.text n → ⊥) → NumberOf IsConstText run.text → PieceOrNone (c ∷ cs)
    by_const no_bare (inl const) = inl (record {
      piece = piece.Token (Const const.0);
      text = run.text;
      rest = run.rest;
      split = run.split;
      is = (run.is_run, const.1.0, const.1.1);
    })
    by_const no_bare (inr no_const) = inr (none_of_sort OfNumber (number_sort c digit) (no_number no_bare no_const))

    by_number : NumberOf IsBareText run.text → PieceOrNone (c ∷ cs)
    by_number (inl bare) = inl (record {
      piece = piece.Token (Bare bare.0);
      text = run.text;
      rest = run.rest;
      split = run.split;
      is = (run.is_run, bare.1.0, bare.1.1);
    })
    by_number (inr no_bare) = by_const no_bare (const_or_not run.text)

  -- ---- words

  word : HasBeginsRun begins_word (c ∷ cs) → PieceOrNone (c ∷ cs)
  word run = inl (record {
    piece = piece.Token (Word run.text);
    text = run.text;
    rest = run.rest;
    split = run.split;
    is = (run.is_run, refl);
  })

  -- ---- comments and symbols

  module _ (sort : sort_at c ≡ OfOther) where
    module _ (no_comment : HasNoComment (c ∷ cs)) where
      in_line : begins_with_pair 47 47 (c ∷ cs) ≡ true → HasNone OfOther
      in_line line piece.Blank text rest sort e h = cc
      in_line line piece.Comment text rest sort e h = no_comment text rest e h
      in_line line (piece.Token (Word w)) text rest sort e h = cc
      in_line line (piece.Token (Bare n)) text rest sort e h = cc
      in_line line (piece.Token (Const n)) text rest sort e h = cc
      in_line line (piece.Token (Sym s)) text rest sort e h = true≢false (sym line ∙ ap (begins_with_pair 47 47) e ∙ h.2.no_line)

      no_symbol : HasNoSymbol (c ∷ cs) → HasNone OfOther
      no_symbol none piece.Blank text rest sort e h = cc
      no_symbol none piece.Comment text rest sort e h = no_comment text rest e h
      no_symbol none (piece.Token (Word w)) text rest sort e h = cc
      no_symbol none (piece.Token (Bare n)) text rest sort e h = cc
      no_symbol none (piece.Token (Const n)) text rest sort e h = cc
      no_symbol none (piece.Token (Sym s)) text rest sort e h = none s rest (e ∙ ap (λ (xs : List ℕ). xs ++ rest) (sym h.0))

      by_symbol : begins_with_pair 47 47 (c ∷ cs) ≡ false → HasSymbol (c ∷ cs) ⊎ HasNoSymbol (c ∷ cs) → PieceOrNone (c ∷ cs)
      by_symbol no_line (inl found) = inl (record {
        piece = piece.Token (Sym found.symbol);
        text = symbol_text found.symbol;
        rest = found.rest;
        split = found.split;
        is = (refl, found.longest, subst BeginsNoComment found.split (record { no_whole = no_comment; no_line = no_line }));
      })
      by_symbol no_line (inr none) = inr (none_of_sort OfOther sort (no_symbol none))

    by_comment : HasComment (c ∷ cs) ⊎ HasNoComment (c ∷ cs) → PieceOrNone (c ∷ cs)
    by_comment (inl found) = inl (record {
      piece = piece.Comment;
      text = found.text;
      rest = found.rest;
      split = found.split;
      is = found.comment;
    })
    by_comment (inr no_comment) = by_test {A = PieceOrNone (c ∷ cs)} (begins_with_pair 47 47 (c ∷ cs))
        (λ line. inr (none_of_sort OfOther sort (in_line no_comment line)))
        (λ no_line. by_symbol no_comment no_line (symbol_or_none (c ∷ cs)))

  other_sort : (blank digit letter : Bool) → blank ≡ false → digit ≡ false → letter ≡ false → cond blank OfBlank (cond digit OfNumber (cond letter OfWord OfOther)) ≡ OfOther
  other_sort blank digit letter e f g = rw (e, f, g) refl

  pub piece_or_none : PieceOrNone (c ∷ cs)
  piece_or_none =
      by_test {A = PieceOrNone (c ∷ cs)} (is_blank c) (λ blank. inl (record { piece = piece.Blank; text = c ∷ []; rest = cs; split = refl; is = (c, refl, blank) })) (λ no_blank.
      by_test {A = PieceOrNone (c ∷ cs)} (is_digit c) (λ digit. let run = begins_run is_digit c cs digit in by_number digit run (bare_or_not run.text)) (λ no_digit.
      by_test {A = PieceOrNone (c ∷ cs)} (begins_word c) (λ letter. word (begins_run begins_word c cs letter)) (λ no_letter.
      by_comment (other_sort (is_blank c) (is_digit c) (begins_word c) no_blank no_digit no_letter) (comment_or_none (c ∷ cs)))))
