-- Going past parts: one part more, and how many bytes and tokens they have.
use Rattle.std.proofs.Common.{◌≡◌, ℕ, ◌+◌, ◌-◌, ◌≤◌, List, [], ◌∷◌, ◌++◌, length, take, drop, refl, sym, ap, subst, ◌∙◌, arith, append_assoc}
use Rattle.std.proofs.lemmas.List.{append-nil, take-append-drop, drop-drop, drop_all, length-drop, take_rest}
use Rattle.pipe_lexer.specs.Characters.{size_of}
use Rattle.pipe_lexer.specs.Pieces.{IsPiece}
use Rattle.pipe_lexer.specs.Prefixes.{StandsAtPrefix}
use Rattle.pipe_lexer.specs.Lexing.{Part, Passes, size_of_parts, token_of, tokens_from, AreTokensOf, StopsAt}
use Rattle.pipe_lexer.specs.declared.token.Token.{Token}
use Rattle.pipe_lexer.specs.declared.piece.Piece.{Piece}
use Rattle.pipe_lexer.proofs.Sizes.{size_of-append, size_of_prefix}

-- one part more
passes_more : (cs : List ℕ) (ps : List Part) (rest : List ℕ) (q : Part) (left : List ℕ) → Passes cs ps rest → rest ≡ q.text ++ left → IsPiece q.piece q.text left → Passes cs (ps ++ q ∷ []) left
passes_more cs [] rest q left h e is = record { rest = left; split = h ∙ e; piece = is; goes_on = refl }
passes_more cs (p ∷ ps) rest q left h e is =
    record { rest = h.rest; split = h.split; piece = h.piece; goes_on = passes_more h.rest ps rest q left h.goes_on e is }

size_of_parts-more : (ps : List Part) (q : Part) → size_of_parts (ps ++ q ∷ []) ≡ size_of_parts ps + size_of q.text
size_of_parts-more [] q = omega arith
size_of_parts-more (p ∷ ps) q = let rest = size_of_parts-more ps q in omega arith

same_offsets : (p : Piece) (a b c d : ℕ) → a ≡ b → c ≡ d → token_of p a c ≡ token_of p b d
same_offsets p a b c d e f = ap (λ (x : ℕ). token_of p x c) e ∙ ap (token_of p b) f

tokens_from-more : (at : ℕ) (ps : List Part) (q : Part) → tokens_from at (ps ++ q ∷ []) ≡ tokens_from at ps ++ token_of q.piece (at + size_of_parts ps) (at + size_of_parts ps + size_of q.text)
tokens_from-more at [] q = append-nil (token_of q.piece at (at + size_of q.text)) ∙ same_offsets q.piece at (at + 0) (at + size_of q.text) (at + 0 + size_of q.text) (omega arith) (omega arith)
tokens_from-more at (p ∷ ps) q =
    let next = at + size_of p.text in
    let first = token_of p.piece at next in
    let later = tokens_from next ps in
    ap (λ (ts : List Token). first ++ ts) (tokens_from-more next ps q)
    ∙ sym (append_assoc first later (token_of q.piece (next + size_of_parts ps) (next + size_of_parts ps + size_of q.text)))
    ∙ ap (λ (ts : List Token). (first ++ later) ++ ts) (same_offsets q.piece (next + size_of_parts ps) (at + (size_of p.text + size_of_parts ps)) (next + size_of_parts ps + size_of q.text) (at + (size_of p.text + size_of_parts ps) + size_of q.text) (omega arith) (omega arith))

pub size_of-passes : (cs : List ℕ) (ps : List Part) (rest : List ℕ) → Passes cs ps rest → size_of cs ≡ size_of_parts ps + size_of rest
size_of-passes cs [] rest h = let same = ap size_of h in omega arith
size_of-passes cs (p ∷ ps) rest h =
    let whole = ap size_of h.split ∙ size_of-append p.text h.rest in
    let later = size_of-passes h.rest ps rest h.goes_on in
    omega arith

-- the tokens found so far are those of the parts before a character, which is at an offset in bytes
pub record HasPassed (cs : List ℕ) (from at : ℕ) (found : List Token) : Type 0 where
  pub parts : List Part
  pub passes : Passes cs parts (drop from cs)
  pub offset : at ≡ size_of_parts parts
  pub tokens : found ≡ tokens_from 0 parts

pub passed_none : (cs : List ℕ) (found : List Token) → found ≡ [] → HasPassed cs 0 0 found
passed_none cs found e = record { parts = []; passes = refl; offset = refl; tokens = e }

-- the bytes before the offset and those behind it are all
pub passed_size : (cs : List ℕ) (from at : ℕ) (found : List Token) → HasPassed cs from at found → at + size_of (drop from cs) ≡ size_of cs
passed_size cs from at found h =
    let whole = size_of-passes cs h.parts (drop from cs) h.passes in let offset = h.offset in omega arith

-- the piece at the start of the rest that a slice is
pub stands_in_rest : (cs : List ℕ) (from : ℕ) (p : Piece) (len : ℕ) → StandsAtPrefix (take (length cs - from) (drop from cs)) p len → StandsAtPrefix (drop from cs) p len
stands_in_rest cs from p len h = subst (λ (xs : List ℕ). StandsAtPrefix xs p len) (take_rest cs from) h

pub piece_within : (cs : List ℕ) (from : ℕ) (p : Piece) (len : ℕ) → from ≤ length cs → StandsAtPrefix (drop from cs) p len → from + len ≤ length cs
piece_within cs from p len within h = let most = h.within in let left = length-drop from cs in omega arith

-- the bytes of a piece are within those of the rest
pub piece_size : (cs : List ℕ) (from len : ℕ) → size_of (take (from + len - from) (drop from cs)) ≤ size_of (drop from cs)
piece_size cs from len =
    let parts = size_of_prefix (from + len - from) (drop from cs) in omega arith

-- one piece further
pub passed_more : (cs : List ℕ) (from at : ℕ) (found : List Token) (p : Piece) (len end : ℕ) (more : List Token) → HasPassed cs from at found → StandsAtPrefix (drop from cs) p len → end ≡ at + size_of (take (from + len - from) (drop from cs)) → more ≡ found ++ token_of p at end → HasPassed cs (from + len) end more
passed_more cs from at found p len end more h prefix is added =
    let text = take len (drop from cs) in
    let q : Part = record { piece = p; text = text } in
    let same : from + len - from ≡ len = omega arith in
    let end_is : end ≡ at + size_of text = is ∙ ap (λ (n : ℕ). at + size_of (take n (drop from cs))) same in
    let offset = h.offset in
    record {
      parts = h.parts ++ q ∷ [];
      passes = subst (Passes cs (h.parts ++ q ∷ [])) (drop-drop len from cs) (passes_more cs h.parts (drop from cs) q (drop len (drop from cs)) h.passes (sym (take-append-drop len (drop from cs))) prefix.piece);
      offset = let sizes = size_of_parts-more h.parts q in omega arith;
      tokens =
          added ∙ ap (λ (ts : List Token). ts ++ token_of p at end) h.tokens
          ∙ ap (λ (ts : List Token). tokens_from 0 h.parts ++ ts) (same_offsets p at (0 + size_of_parts h.parts) end (0 + size_of_parts h.parts + size_of text) (omega arith) (omega arith))
          ∙ sym (tokens_from-more 0 h.parts q);
    }

-- where no character is left, the tokens are those of the whole
pub passed_all : (cs : List ℕ) (from at : ℕ) (found : List Token) → HasPassed cs from at found → length cs ≤ from → AreTokensOf cs found
passed_all cs from at found h end = record {
  parts = h.parts;
  passes = subst (Passes cs h.parts) (drop_all from cs end) h.passes;
  tokens = h.tokens;
}

pub passed_stops : (cs : List ℕ) (from at : ℕ) (found : List Token) (holds : List ℕ → Type 0) → HasPassed cs from at found → holds (take (length cs - from) (drop from cs)) → StopsAt cs at holds
passed_stops cs from at found holds h stops = record {
  parts = h.parts;
  rest = drop from cs;
  passes = h.passes;
  offset = h.offset;
  stops = subst holds (take_rest cs from) stops;
}
