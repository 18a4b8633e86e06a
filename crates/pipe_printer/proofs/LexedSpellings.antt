-- The tokens of a text are tokens that a text can hold.
use Rattle.std.proofs.Common.{◌≡◌, ℕ, ◌+◌, List, [], ◌∷◌, ◌++◌, true, refl, sym, ap, subst, ◌∙◌, append_assoc}
use Rattle.std.proofs.Math.Utf8.{scalar, scalars}
use Rattle.std.specs.Prelude.{All, slice_range, encode_utf8_all}
use Rattle.std.specs.Str.{chars}
use Rattle.std.proofs.lemmas.List.Elements.{All-nil, All-cons}
use Rattle.std.proofs.lemmas.Str.{chars-encodes, encodes-append, encodes-chars, scalars-chars}
use Rattle.strm_num.proofs.Truths.{both_true}
use Rattle.pipe_lexer.specs.Characters.{size_of}
use Rattle.pipe_lexer.specs.Pieces.{IsPiece, IsToken}
use Rattle.pipe_lexer.specs.Lexing.{Part, Passes, token_of, tokens_from, IsLexed}
use Rattle.pipe_lexer.specs.declared.piece.Piece.{Piece}
use Rattle.pipe_lexer.specs.declared.piece.Piece.TheVariants as piece
use Rattle.pipe_lexer.specs.declared.token.Token.{Token}
use Rattle.pipe_lexer.specs.declared.token.TokenKind.{TokenKind}
use Rattle.pipe_lexer.specs.declared.token.TokenKind.TheVariants as kind
use Rattle.pipe_printer.proofs.BeforeBlanks.{identifier_alone}
use Rattle.pipe_lexer.proofs.Sizes.{size_of-append}
use Rattle.pipe_tree.specs.Tokens.{what_of, toks_of}
use Rattle.pipe_printer.specs.TreeTokens.{contents_of}
use Rattle.pipe_printer.specs.Spellings.{IsSpelling}
use Rattle.pipe_printer.proofs.SpacedTokens.{slice_is}

scalars_of_parts : (xs ys : List ℕ) → scalars (xs ++ ys) ≡ true → (scalars xs ≡ true) × (scalars ys ≡ true)
scalars_of_parts [] ys h = (refl, h)
scalars_of_parts (x ∷ xs) ys h =
    let first = both_true (scalar x) (scalars (xs ++ ys)) h in
    let rest = scalars_of_parts xs ys first.1 in
    (rw (first.0, rest.0) refl, rest.1)

-- a token's content is one that a text can hold
token_spelling : (kind : TokenKind) (text rest : List ℕ) → scalars text ≡ true → IsToken kind text rest → IsSpelling (what_of kind (encode_utf8_all text))
token_spelling kind.Name text rest valid is =
    let same : chars (encode_utf8_all text) ≡ text = chars-encodes text valid in
    ((text, (valid, refl)), subst (λ (cs : List ℕ). IsToken kind.Name cs []) (sym same) (identifier_alone text rest is.0, is.1))
token_spelling (kind.Number n) text rest valid is = is.2
token_spelling (kind.Key k) text rest valid is = tt
token_spelling (kind.Sym s) text rest valid is = tt

-- a part's token before others
with_part : (src : List ℕ) (p : Piece) (at end : ℕ) (ts : List Token) →
    ((kind : TokenKind) → p ≡ piece.Token kind → IsSpelling (what_of kind (slice_range src at end))) → All IsSpelling (contents_of (toks_of src ts)) → All IsSpelling (contents_of (toks_of src (token_of p at end ++ ts)))
with_part src piece.Blank at end ts one all = all
with_part src piece.Comment at end ts one all = all
with_part src (piece.Token kind) at end ts one all =
    All-cons IsSpelling (what_of kind (slice_range src at end)) (contents_of (toks_of src ts)) (one kind refl) all

parts_spellings : (src before cs : List ℕ) (ps : List Part) (end : List ℕ) →
    src ≡ encode_utf8_all before ++ encode_utf8_all cs → scalars cs ≡ true → Passes cs ps end → All IsSpelling (contents_of (toks_of src (tokens_from (size_of before) ps)))
parts_spellings src before cs [] end e valid h = All-nil IsSpelling
parts_spellings src before cs (p ∷ ps) end e valid h =
    let split : encode_utf8_all cs ≡ encode_utf8_all p.text ++ encode_utf8_all h.rest = ap encode_utf8_all h.split ∙ encodes-append p.text h.rest in
    let whole : src ≡ encode_utf8_all before ++ (encode_utf8_all p.text ++ encode_utf8_all h.rest) = e ∙ ap (λ (xs : List ℕ). encode_utf8_all before ++ xs) split in
    let next : src ≡ encode_utf8_all (before ++ p.text) ++ encode_utf8_all h.rest =
    whole ∙ sym (append_assoc (encode_utf8_all before) (encode_utf8_all p.text) (encode_utf8_all h.rest)) ∙ ap (λ (xs : List ℕ). xs ++ encode_utf8_all h.rest) (sym (encodes-append before p.text)) in
    let scalars_are = scalars_of_parts p.text h.rest (ap scalars (sym h.split) ∙ valid) in
    let later = parts_spellings src (before ++ p.text) h.rest ps end next scalars_are.1 h.goes_on in
    let slice : slice_range src (size_of before) (size_of before + size_of p.text) ≡ encode_utf8_all p.text =
    ap (λ (xs : List ℕ). slice_range xs (size_of before) (size_of before + size_of p.text)) whole ∙ slice_is (encode_utf8_all before) (encode_utf8_all p.text) (encode_utf8_all h.rest) in
    with_part src p.piece (size_of before) (size_of before + size_of p.text) (tokens_from (size_of before + size_of p.text) ps)
    (λ kind is. subst (λ (text : List ℕ). IsSpelling (what_of kind text)) (sym slice) (token_spelling kind p.text h.rest scalars_are.0 (subst (λ (q : Piece). IsPiece q p.text h.rest) is h.piece)))
    (subst (λ (n : ℕ). All IsSpelling (contents_of (toks_of src (tokens_from n ps)))) (size_of-append before p.text) later)

-- the contents of the tokens of a text are such
pub lexed_are_spellings : (src : List ℕ) (toks : List Token) → IsLexed src toks → All IsSpelling (contents_of (toks_of src toks))
lexed_are_spellings src toks h =
    subst (λ (ts : List Token). All IsSpelling (contents_of (toks_of src ts))) (sym h.1.tokens)
    (parts_spellings src [] (chars src) h.1.parts [] (sym (encodes-chars src h.0)) (scalars-chars src h.0) h.1.passes)
