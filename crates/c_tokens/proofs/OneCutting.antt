-- A text is cut into parts in one way.
use Rattle.std.proofs.Common.{◌≡◌, ℕ, List, [], ◌∷◌, ◌++◌, refl, sym, ap, subst, ◌∙◌}
use Rattle.c_tokens.specs.Pieces.{Piece, IsPiece}
use Rattle.c_tokens.specs.Cutting.{Token, Part, Passes, tokens_from, AreTokensOf}
use Rattle.c_tokens.proofs.OnePiece.{one_piece, no_empty_piece}

-- no piece begins the characters
abbrev pub BeginsNoPiece : List ℕ → Type 0
BeginsNoPiece cs = (p : Piece) (text rest : List ℕ) → cs ≡ text ++ rest → IsPiece p text rest → ⊥

pub nothing_begins : BeginsNoPiece []
nothing_begins p [] rest e h = no_empty_piece p rest h
nothing_begins p (c ∷ text) rest e h = absurd cc

same_part : (p q : Part) → p.piece ≡ q.piece → p.text ≡ q.text → p ≡ q
same_part p q e f = λ i. record { piece = e i; text = f i }

-- characters are parts up to where no piece begins in one way
pub same_parts : (cs : List ℕ) (ps qs : List Part) (end other : List ℕ) → BeginsNoPiece end → BeginsNoPiece other → Passes cs ps end → Passes cs qs other → (ps ≡ qs) × (end ≡ other)
same_parts cs [] [] end other h k f g = (refl, sym f ∙ g)
same_parts cs [] (q ∷ qs) end other h k f g = absurd (h q.piece q.text g.rest (sym f ∙ g.split) g.piece)
same_parts cs (p ∷ ps) [] end other h k f g = absurd (k p.piece p.text f.rest (sym g ∙ f.split) f.piece)
same_parts cs (p ∷ ps) (q ∷ qs) end other h k f g =
    let first = one_piece p.piece q.piece p.text f.rest q.text g.rest (sym f.split ∙ g.split) f.piece g.piece in
    let others = same_parts g.rest ps qs end other h k (subst (λ (xs : List ℕ). Passes xs ps end) first.rests f.goes_on) g.goes_on in
    (both (same_part p q first.pieces first.texts) others.0, others.1)
  where
    both : p ≡ q → ps ≡ qs → (p ∷ ps) ≡ (q ∷ qs)
    both e h = cc

-- a text has the tokens of one cutting alone
pub one_cutting : (src : List ℕ) (a b : List Token) → AreTokensOf src a → AreTokensOf src b → a ≡ b
one_cutting src a b f g =
    let same = same_parts src f.parts g.parts [] [] nothing_begins nothing_begins f.passes g.passes in
    f.tokens ∙ ap (tokens_from 0) same.0 ∙ sym g.tokens
