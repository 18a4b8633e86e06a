-- Each text is cut to its end, or there is a place where nothing begins.
use Rattle.std.proofs.Common.{◌≡◌, ◌⊎◌, ℕ, zero, suc, ◌≤◌, List, [], ◌∷◌, ◌++◌, length, refl, ap, subst, arith, inl, inr, length-append}
use Rattle.c_tokens.specs.Pieces.{Piece, IsPiece}
use Rattle.c_tokens.specs.Cutting.{Token, Part, Passes, tokens_from, AreTokensOf}
use Rattle.c_tokens.proofs.OnePiece.{no_empty_piece}
use Rattle.c_faults.specs.Answers.{size_of_parts, BeginsNothing, IsLexFault}
use Rattle.c_answers.proofs.SomePiece.{HasPiece, PieceOrNone, piece_or_none}

-- the characters are parts as far as any piece begins
record IsCutUp (cs : List ℕ) : Type 0 where
  pub parts : List Part
  pub rest : List ℕ
  pub passes : Passes cs parts rest
  pub end : (rest ≡ []) ⊎ BeginsNothing rest

with_piece : (cs : List ℕ) (p : HasPiece cs) → IsCutUp p.rest → IsCutUp cs
with_piece cs p later = record {
  parts = record { piece = p.piece; text = p.text } ∷ later.parts;
  rest = later.rest;
  passes = record { rest = p.rest; split = p.split; piece = p.is; goes_on = later.passes };
  end = later.end;
}

-- less is left behind a piece
shorter : (p : Piece) (most : ℕ) (cs text rest : List ℕ) → length cs ≤ suc most → cs ≡ text ++ rest → IsPiece p text rest → length rest ≤ most
shorter p most cs [] rest within e h = absurd (no_empty_piece p rest h)
shorter p most cs (c ∷ text) rest within e h =
    let lengths = ap length e in
    let parts = length-append (c ∷ text) rest in
    omega arith

by_piece : (most : ℕ) (cs : List ℕ) → length cs ≤ suc most → ((rest : List ℕ) → length rest ≤ most → IsCutUp rest) → PieceOrNone cs → IsCutUp cs
by_piece most cs within later (inl p) = with_piece cs p (later p.rest (shorter p.piece most cs p.text p.rest within p.split p.is))
by_piece most cs within later (inr none) = record { parts = []; rest = cs; passes = refl; end = inr none }

-- characters, of which there are at most so many, are cut up
cut_up : (most : ℕ) (cs : List ℕ) → length cs ≤ most → IsCutUp cs
cut_up most [] within = record { parts = []; rest = []; passes = refl; end = inl refl }
cut_up zero (c ∷ cs) within = absurd (omega arith)
cut_up (suc most) (c ∷ cs) within = by_piece most (c ∷ cs) within (λ rest less. cut_up most rest less) (piece_or_none c cs)

-- the tokens of the text, or the place where it stops
abbrev pub CutOrFault : List ℕ → Type 0
CutOrFault text = ((toks : List Token) × AreTokensOf text toks) ⊎ ((at : ℕ) × IsLexFault text at)

by_end : (text : List ℕ) (parts : List Part) (rest : List ℕ) → Passes text parts rest → (rest ≡ []) ⊎ BeginsNothing rest → CutOrFault text
by_end text parts rest passes (inl ended) =
    inl (tokens_from 0 parts, record { parts = parts; passes = subst (Passes text parts) ended passes; tokens = refl })
by_end text parts rest passes (inr stuck) =
    inr (size_of_parts parts, record { parts = parts; end = rest; passes = passes; offset = refl; stuck = stuck })

pub cut_or_fault : (text : List ℕ) → CutOrFault text
cut_or_fault text =
    let cut = cut_up (length text) text (omega arith) in
    by_end text cut.parts cut.rest cut.passes cut.end
