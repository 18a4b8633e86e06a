-- The offsets of tokens: each has its text there, and they stand in order.
use Rattle.std.proofs.Common.{◌≡◌, ℕ, ◌+◌, ◌-◌, ◌<◌, ◌≤◌, List, [], ◌∷◌, ◌++◌, length, take, drop, refl, sym, ap, subst, ◌∙◌, arith, append_assoc, length-append}
use Rattle.std.specs.Prelude.{All, IfOk, Ok, Err, encode_utf8_all}
use Rattle.std.specs.Str.{chars}
use Rattle.std.proofs.lemmas.List.{take_at, drop_at}
use Rattle.std.proofs.lemmas.List.Elements.{All-cons}
use Rattle.std.proofs.lemmas.Str.{encodes-append, encodes-chars}
use Rattle.pipe_lexer.specs.Characters.{size_of}
use Rattle.pipe_lexer.specs.Pieces.{IsPiece, IsToken}
use Rattle.pipe_lexer.specs.Lexing.{Part, Passes, token_of, tokens_from, HasText, AreInOrder, Answer, LexesAs}
use Rattle.pipe_lexer.specs.declared.token.TokenKind.{TokenKind}
use Rattle.pipe_lexer.specs.declared.token.Token.{Token}
use Rattle.pipe_lexer.specs.declared.piece.Piece.{Piece}
use Rattle.pipe_lexer.specs.declared.piece.Piece.TheVariants as piece
use Rattle.pipe_lexer.proofs.Sizes.{size_of-append, length-le-size_of}
use Rattle.pipe_lexer.proofs.OnePiece.{no_empty_piece}

-- a token that stands between a prefix and a rest has its text in the whole
token_text : (prefix text rest : List ℕ) (kind : TokenKind) → IsToken kind text rest → HasText (encode_utf8_all prefix ++ (encode_utf8_all text ++ encode_utf8_all rest)) (record { kind = kind; at = size_of prefix; end = size_of prefix + size_of text })
token_text prefix text rest kind is =
    let before = encode_utf8_all prefix in
    let middle = encode_utf8_all text in
    let behind = encode_utf8_all rest in
    let len : size_of prefix + size_of text - size_of prefix ≡ length middle = omega arith in
    record {
      text = text;
      rest = rest;
      slice =
          ap (take (size_of prefix + size_of text - size_of prefix)) (drop_at before (middle ++ behind) (size_of prefix) refl)
          ∙ take_at middle behind (size_of prefix + size_of text - size_of prefix) (sym len);
      behind =
          ap (drop (size_of prefix + size_of text)) (sym (append_assoc before middle behind))
          ∙ drop_at (before ++ middle) behind (size_of prefix + size_of text) (length-append before middle);
      token = is;
    }

-- the token of a part, before tokens that have their text
with_token : (src : List ℕ) (p : Piece) (at end : ℕ) (ts : List Token) → ((kind : TokenKind) → p ≡ piece.Token kind → HasText src (record { kind = kind; at = at; end = end })) → All (HasText src) ts → All (HasText src) (token_of p at end ++ ts)
with_token src piece.Blank at end ts one all = all
with_token src piece.Comment at end ts one all = all
with_token src (piece.Token kind) at end ts one all = All-cons (HasText src) (record { kind = kind; at = at; end = end }) ts (one kind refl) all

all_texts : (src prefix cs : List ℕ) (ps : List Part) (end : List ℕ) → src ≡ encode_utf8_all prefix ++ encode_utf8_all cs → Passes cs ps end → All (HasText src) (tokens_from (size_of prefix) ps)
all_texts src prefix cs [] end e h = λ k d below. absurd (omega arith)
all_texts src prefix cs (p ∷ ps) end e h =
    let split : encode_utf8_all cs ≡ encode_utf8_all p.text ++ encode_utf8_all h.rest = ap encode_utf8_all h.split ∙ encodes-append p.text h.rest in
    let whole : src ≡ encode_utf8_all prefix ++ (encode_utf8_all p.text ++ encode_utf8_all h.rest) = e ∙ ap (λ (xs : List ℕ). encode_utf8_all prefix ++ xs) split in
    let next : src ≡ encode_utf8_all (prefix ++ p.text) ++ encode_utf8_all h.rest =
    whole ∙ sym (append_assoc (encode_utf8_all prefix) (encode_utf8_all p.text) (encode_utf8_all h.rest)) ∙ ap (λ (xs : List ℕ). xs ++ encode_utf8_all h.rest) (sym (encodes-append prefix p.text)) in
    let later = all_texts src (prefix ++ p.text) h.rest ps end next h.goes_on in
    with_token src p.piece (size_of prefix) (size_of prefix + size_of p.text) (tokens_from (size_of prefix + size_of p.text) ps)
    (λ kind is. subst (λ (xs : List ℕ). HasText xs (record { kind = kind; at = size_of prefix; end = size_of prefix + size_of p.text })) (sym whole) (token_text prefix p.text h.rest kind (subst (λ (q : Piece). IsPiece q p.text h.rest) is h.piece)))
    (subst (λ (n : ℕ). All (HasText src) (tokens_from n ps)) (size_of-append prefix p.text) later)

some_bytes : (p : Piece) (text rest : List ℕ) → IsPiece p text rest → 0 < size_of text
some_bytes p [] rest h = absurd (no_empty_piece p rest h)
some_bytes p (c ∷ text) rest h = let len = length-le-size_of (c ∷ text) in omega arith

earlier : (a b : ℕ) (ts : List Token) (end : ℕ) → a ≤ b → AreInOrder b ts end → AreInOrder a ts end
earlier a b [] end le h = omega arith
earlier a b (t ∷ ts) end le h = (let first = h.0 in omega arith, h.1, h.2)

token_before : (p : Piece) (at next : ℕ) (ts : List Token) (end : ℕ) → at < next → AreInOrder next ts end → AreInOrder at (token_of p at next ++ ts) end
token_before piece.Blank at next ts end lt h = earlier at next ts end (omega arith) h
token_before piece.Comment at next ts end lt h = earlier at next ts end (omega arith) h
token_before (piece.Token kind) at next ts end lt h = (omega arith, lt, h)

parts_in_order : (at : ℕ) (cs : List ℕ) (ps : List Part) (rest : List ℕ) → Passes cs ps rest → AreInOrder at (tokens_from at ps) (at + size_of cs)
parts_in_order at cs [] rest h = omega arith
parts_in_order at cs (p ∷ ps) rest h =
    let some = some_bytes p.piece p.text h.rest h.piece in
    let whole = ap size_of h.split ∙ size_of-append p.text h.rest in
    let later = parts_in_order (at + size_of p.text) h.rest ps rest h.goes_on in
    let end : at + size_of p.text + size_of h.rest ≡ at + size_of cs = omega arith in
    token_before p.piece at (at + size_of p.text) (tokens_from (at + size_of p.text) ps) (at + size_of cs) (omega arith)
    (subst (AreInOrder (at + size_of p.text) (tokens_from (at + size_of p.text) ps)) end later)

pub answer_texts : (src : List ℕ) (a : Answer) → LexesAs src a → IfOk a (All (HasText src))
answer_texts src (Ok ts) h =
    subst (All (HasText src)) (sym h.1.tokens) (all_texts src [] (chars src) h.1.parts [] (sym (encodes-chars src h.0)) h.1.passes)
answer_texts src (Err e) h = tt

pub answer_in_order : (src : List ℕ) (a : Answer) → LexesAs src a → IfOk a (λ ts. AreInOrder 0 ts (length src))
answer_in_order src (Ok ts) h =
    let end : 0 + size_of (chars src) ≡ length src = let e = ap length (encodes-chars src h.0) in omega arith in
    subst (λ (us : List Token). AreInOrder 0 us (length src)) (sym h.1.tokens)
    (subst (AreInOrder 0 (tokens_from 0 h.1.parts)) end (parts_in_order 0 (chars src) h.1.parts [] h.1.passes))
answer_in_order src (Err e) h = tt
