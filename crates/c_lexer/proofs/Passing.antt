-- Going past the piece at the start: what is left behind it.
use Rattle.std.proofs.Common.{◌≡◌, ℕ, ◌+◌, ◌-◌, ◌<◌, ◌≤◌, List, [], ◌∷◌, ◌++◌, length, take, drop, refl, sym, ap, subst, ◌∙◌, arith}
use Rattle.std.proofs.lemmas.List.{take-append-drop, drop-drop, drop_all, length-drop, take_rest, length-take-le}
use Rattle.c_tokens.specs.Pieces as piece
use Rattle.c_tokens.specs.Pieces.{What, IsPiece}
use Rattle.c_tokens.specs.Cutting.{Token, Part, Passes, token_of, tokens_from, AreTokensOf}
use Rattle.c_tokens.proofs.OnePiece.{one_piece, no_empty_piece}
use Rattle.c_faults.specs.Answers.{size_of_parts, BeginsNothing, IsLexFault}
use Rattle.c_words.specs.declared.token.CToken.{CToken}
use Rattle.c_words.specs.Words.{StandsFor}
use Rattle.c_lexer.specs.Comments.{IsUnclosed}
use Rattle.c_lexer.specs.Prefixes.{Stands, StandsAtPrefix, BeginsNoPiece}
use Rattle.c_lexer.specs.TokensFrom.{AreTokensFrom}
use Rattle.c_lexer.specs.declared.piece.Piece.{Piece}
use Rattle.c_lexer.specs.declared.piece.Piece.TheVariants as found
use Rattle.c_lexer.proofs.CommentEnds.{unclosed_behind, piece_in_comment}

-- ---- the piece that stands there

-- what a piece of a reader's is
pub record IsPieceOf (p : Piece) (text rest : List ℕ) : Type 0 where
  pub piece : piece.Piece
  pub is : IsPiece piece text rest

pub piece_of : (p : Piece) (text rest : List ℕ) → Stands p text rest → IsPieceOf p text rest
piece_of found.Blank text rest h = record { piece = piece.Blank; is = h }
piece_of found.Comment text rest h = record { piece = piece.Comment; is = h }
piece_of (found.Token t) text rest h = record { piece = piece.Token h.0; is = h.1.1 }

-- it stands in the rest of a text
pub stands_in_rest : (cs : List ℕ) (from : ℕ) (p : Piece) (len : ℕ) → StandsAtPrefix (take (length cs - from) (drop from cs)) p len → StandsAtPrefix (drop from cs) p len
stands_in_rest cs from p len h = subst (λ (xs : List ℕ). StandsAtPrefix xs p len) (take_rest cs from) h

pub piece_within : (cs : List ℕ) (from : ℕ) (p : Piece) (len : ℕ) → from ≤ length cs → StandsAtPrefix (drop from cs) p len → from + len ≤ length cs
piece_within cs from p len within h = let most = h.within in let left = length-drop from cs in omega arith

-- what is unclosed before it is unclosed behind it
pub unclosed_further : (cs : List ℕ) (from : ℕ) (p : Piece) (len : ℕ) → StandsAtPrefix (drop from cs) p len → IsUnclosed (drop from cs) → IsUnclosed (drop (from + len) cs)
unclosed_further cs from p len h open_ =
    let rest = drop from cs in
    let is = piece_of p (take len rest) (drop len rest) h.piece in
    subst IsUnclosed (drop-drop len from cs)
    (unclosed_behind rest (take len rest) (drop len rest) (sym (take-append-drop len rest)) (piece_in_comment is.piece (take len rest) (drop len rest) is.is) open_)

-- ---- tokens

nothing_begins : (p : Part) (rest : List ℕ) → [] ≡ p.text ++ rest → IsPiece p.piece p.text rest → ⊥
nothing_begins p rest e h = by_text p.text e h
  where
    by_text : (text : List ℕ) → [] ≡ text ++ rest → IsPiece p.piece text rest → ⊥
    by_text [] e h = no_empty_piece p.piece rest h
    by_text (c ∷ text) e h = absurd cc

-- at the end no token is left
pub none_left : (at : ℕ) (cs : List ℕ) (toks : List Token) → length cs ≤ at → AreTokensFrom at (drop at cs) toks → toks ≡ []
none_left at cs toks end h = of_parts h.parts (subst (λ (xs : List ℕ). Passes xs h.parts []) (drop_all at cs end) h.passes) h.tokens
  where
    of_parts : (ps : List Part) → Passes [] ps [] → toks ≡ tokens_from at ps → toks ≡ []
    of_parts [] e same = same
    of_parts (p ∷ ps) h same = absurd (nothing_begins p h.rest h.split h.piece)

-- where no piece begins, there are no tokens
pub no_tokens : (at : ℕ) (cs : List ℕ) (toks : List Token) → at < length cs → BeginsNoPiece (drop at cs) → AreTokensFrom at (drop at cs) toks → ⊥
no_tokens at cs toks some none h = of_parts h.parts h.passes
  where
    of_parts : (ps : List Part) → Passes (drop at cs) ps [] → ⊥
    of_parts [] e = let lengths = ap length e in let left = length-drop at cs in omega arith
    of_parts (p ∷ ps) h = none p.piece p.text h.rest h.split h.piece

-- the tokens are those of this piece, and others behind it
pub record IsPassed (p : piece.Piece) (at len : ℕ) (cs : List ℕ) (toks : List Token) : Type 0 where
  pub rest : List Token
  pub parts : toks ≡ token_of p at ++ rest
  pub left : AreTokensFrom (at + len) (drop len cs) rest

pub passes_piece : (p : piece.Piece) (at len : ℕ) (cs : List ℕ) (toks : List Token) → 0 < len → len ≤ length cs → IsPiece p (take len cs) (drop len cs) → AreTokensFrom at cs toks → IsPassed p at len cs toks
passes_piece p at len cs toks some within is h = of_parts h.parts h.passes h.tokens
  where
    of_parts : (ps : List Part) → Passes cs ps [] → toks ≡ tokens_from at ps → IsPassed p at len cs toks
    of_parts [] e same = absurd (let lengths = ap length e in omega arith)
    of_parts (q ∷ ps) h same =
        let one = one_piece q.piece p q.text h.rest (take len cs) (drop len cs) (sym h.split ∙ sym (take-append-drop len cs)) h.piece is in
        let size = ap length one.texts ∙ length-take-le len cs within in
        record {
          rest = tokens_from (at + len) ps;
          parts = same ∙ ap (λ (x : piece.Piece). token_of x at ++ tokens_from (at + length q.text) ps) one.pieces ∙ ap (λ (n : ℕ). token_of p at ++ tokens_from (at + n) ps) size;
          left = record { parts = ps; passes = subst (λ (xs : List ℕ). Passes xs ps []) one.rests h.goes_on; tokens = refl };
        }

left_further : (at len : ℕ) (cs : List ℕ) (toks : List Token) → AreTokensFrom (at + len) (drop len (drop at cs)) toks → AreTokensFrom (at + len) (drop (at + len) cs) toks
left_further at len cs toks h = subst (λ (xs : List ℕ). AreTokensFrom (at + len) xs toks) (drop-drop len at cs) h

-- behind a blank or a comment the same tokens are left
blank_passed : (at len : ℕ) (cs : List ℕ) (toks : List Token) → StandsAtPrefix (drop at cs) found.Blank len → AreTokensFrom at (drop at cs) toks → AreTokensFrom (at + len) (drop (at + len) cs) toks
blank_passed at len cs toks h left =
    let passed = passes_piece piece.Blank at len (drop at cs) toks h.some h.within h.piece left in
    left_further at len cs toks (subst (AreTokensFrom (at + len) (drop len (drop at cs))) (sym passed.parts) passed.left)

comment_passed : (at len : ℕ) (cs : List ℕ) (toks : List Token) → StandsAtPrefix (drop at cs) found.Comment len → AreTokensFrom at (drop at cs) toks → AreTokensFrom (at + len) (drop (at + len) cs) toks
comment_passed at len cs toks h left =
    let passed = passes_piece piece.Comment at len (drop at cs) toks h.some h.within h.piece left in
    left_further at len cs toks (subst (AreTokensFrom (at + len) (drop len (drop at cs))) (sym passed.parts) passed.left)

pub no_token_passed : (p : Piece) (at len : ℕ) (cs : List ℕ) (toks : List Token) → ((t : CToken) → p ≡ found.Token t → ⊥) → StandsAtPrefix (drop at cs) p len → AreTokensFrom at (drop at cs) toks → AreTokensFrom (at + len) (drop (at + len) cs) toks
no_token_passed found.Blank at len cs toks no_token h left = blank_passed at len cs toks h left
no_token_passed found.Comment at len cs toks no_token h left = comment_passed at len cs toks h left
no_token_passed (found.Token t) at len cs toks no_token h left = absurd (no_token t refl)

-- behind a token the others are
pub record IsTokenPassed (t : CToken) (at len : ℕ) (cs : List ℕ) (toks : List Token) : Type 0 where
  pub what : What
  pub stands : StandsFor t what
  pub rest : List Token
  pub parts : toks ≡ record { what = what; at = at } ∷ rest
  pub left : AreTokensFrom (at + len) (drop (at + len) cs) rest

pub token_passed : (t : CToken) (at len : ℕ) (cs : List ℕ) (toks : List Token) → StandsAtPrefix (drop at cs) (found.Token t) len → AreTokensFrom at (drop at cs) toks → IsTokenPassed t at len cs toks
token_passed t at len cs toks h left =
    let passed = passes_piece (piece.Token h.piece.0) at len (drop at cs) toks h.some h.within h.piece.1.1 left in
    record {
      what = h.piece.0;
      stands = h.piece.1.0;
      rest = passed.rest;
      parts = passed.parts;
      left = left_further at len cs passed.rest passed.left;
    }

-- ---- a whole text

-- the text is cut up to this place
pub record HasPassed (cs : List ℕ) (from : ℕ) : Type 0 where
  pub parts : List Part
  pub passes : Passes cs parts (drop from cs)
  pub size : from ≡ size_of_parts parts

passes_more : (cs : List ℕ) (ps : List Part) (rest : List ℕ) (q : Part) (left : List ℕ) → Passes cs ps rest → rest ≡ q.text ++ left → IsPiece q.piece q.text left → Passes cs (ps ++ q ∷ []) left
passes_more cs [] rest q left h e is = record { rest = left; split = h ∙ e; piece = is; goes_on = refl }
passes_more cs (p ∷ ps) rest q left h e is =
    record { rest = h.rest; split = h.split; piece = h.piece; goes_on = passes_more h.rest ps rest q left h.goes_on e is }

size_of_parts-more : (ps : List Part) (q : Part) → size_of_parts (ps ++ q ∷ []) ≡ size_of_parts ps + length q.text
size_of_parts-more [] q = omega arith
size_of_parts-more (p ∷ ps) q = let more = size_of_parts-more ps q in omega arith

pub passed_more : (cs : List ℕ) (from : ℕ) (p : Piece) (len : ℕ) → HasPassed cs from → StandsAtPrefix (drop from cs) p len → HasPassed cs (from + len)
passed_more cs from p len h stands =
    let rest = drop from cs in
    let is = piece_of p (take len rest) (drop len rest) stands.piece in
    let q : Part = record { piece = is.piece; text = take len rest } in
    let size = h.size in
    let more = size_of_parts-more h.parts q in
    let text = length-take-le len rest stands.within in
    record {
      parts = h.parts ++ q ∷ [];
      passes = subst (Passes cs (h.parts ++ q ∷ [])) (drop-drop len from cs) (passes_more cs h.parts rest q (drop len rest) h.passes (sym (take-append-drop len rest)) is.is);
      size = omega arith;
    }

-- where it ends it has tokens
pub passed_all : (cs : List ℕ) (from : ℕ) → length cs ≤ from → HasPassed cs from → (toks : List Token) × AreTokensOf cs toks
passed_all cs from end h =
    (tokens_from 0 h.parts, record { parts = h.parts; passes = subst (Passes cs h.parts) (drop_all from cs end) h.passes; tokens = refl })

-- and where no piece begins it has a fault
pub stops_there : (cs : List ℕ) (from : ℕ) → from < length cs → HasPassed cs from → BeginsNoPiece (drop from cs) → IsLexFault cs from
stops_there cs from some h none = record {
  parts = h.parts;
  end = drop from cs;
  passes = h.passes;
  offset = h.size;
  stuck = stuck (drop from cs) (let left = length-drop from cs in omega arith) none;
}
  where
    stuck : (xs : List ℕ) → 0 < length xs → BeginsNoPiece xs → BeginsNothing xs
    stuck [] some none = absurd (omega arith)
    stuck (c ∷ xs) some none = none
