-- What the reader of texts makes of tokens where it is in an expression that the first of them makes too
-- deep.
use Rattle.std.proofs.Common.{◌≡◌, ℕ, List, [], ◌∷◌, Some, false, refl}
use Rattle.pipe_lexer.specs.declared.token.Token.{Token}
use Rattle.pipe_lexer.specs.declared.token.TokenKind.{TokenKind}
use Rattle.pipe_reader.specs.Continuations.{Continuation, AnExpression, read_from}
use Rattle.pipe_reader.specs.Depths.{tested_depth}
use Rattle.exact_reader.specs.Exactness.{TooDeep}
use Rattle.pipe_reader.specs.Machine.{State, Goes, step, at_most}
use Rattle.pipe_tree.specs.Parsing.{offset_or_end}
use Rattle.pipe_rows.specs.ReaderState.{kind_left, text_at}
use Rattle.pipe_tree.specs.Tokens.{what_of, toks_of}
use Rattle.pipe_tree.specs.Trees.{Formula}

-- the next token is given by its kind, its text and its offset
pub goes_deep : (end : ℕ) (src : List ℕ) (ts : List Token) (kind : TokenKind) (s n : State) (f : Formula → Continuation) → Some kind ≡ kind_left ts → Goes n ≡ step s (what_of kind (text_at src ts)) (offset_or_end end (toks_of src ts)) → at_most (tested_depth n) 200 ≡ false → read_from (AnExpression s f) (toks_of src ts) ≡ TooDeep (toks_of src ts)
goes_deep end src [] kind s n f k e deep = absurd cc
goes_deep end src (t ∷ ts) kind s n f k e deep =
    let is : kind ≡ t.kind = cc in
    let here : Goes n ≡ step s (what_of t.kind (text_at src (t ∷ ts))) t.at = rw is at e in
    rw (← here, deep) refl
