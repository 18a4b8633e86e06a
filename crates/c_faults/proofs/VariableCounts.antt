-- A program that a text is cut into declares at most as many variables as it has tokens, and the text bytes.
use Rattle.std.proofs.Common.{◌≡◌, ℕ, zero, suc, ◌+◌, ◌≤◌, List, [], ◌∷◌, length, length-append, ap, arith}
use Rattle.std.proofs.lemmas.List.{length-map}
use Rattle.list_denotation.specs.declared.input.InputKind.{InputKind}
use Rattle.list_denotation.specs.declared.input.InputKind.TheVariants as kind
use Rattle.loop_ir.specs.Statements.{Routine}
use Rattle.c_tokens.specs.Cutting.{Token, Part, Passes, token_of, tokens_from, AreTokensOf}
use Rattle.c_tokens.specs.Pieces as piece
use Rattle.c_tokens.specs.Pieces.{What, Piece, IsPiece}
use Rattle.c_tokens.proofs.OnePiece.{no_empty_piece}
use Rattle.c_grammar.specs.Grammar.{Fixed, IsParam, AreMoreParams, AreParams, AreDeclarations, IsProgram}
use Rattle.c_grammar.specs.Reading.{whats}

-- ---- tokens and bytes

at_most_one_token : (p : Piece) (at : ℕ) → length (token_of p at) ≤ 1
at_most_one_token piece.Blank at = omega arith
at_most_one_token piece.Comment at = omega arith
at_most_one_token (piece.Token what) at = omega arith

some_bytes : (p : Piece) (text rest : List ℕ) → IsPiece p text rest → 1 ≤ length text
some_bytes p [] rest is = absurd (no_empty_piece p rest is)
some_bytes p (c ∷ text) rest is = omega arith

tokens_at_most_bytes : (ps : List Part) (cs end : List ℕ) (at : ℕ) → Passes cs ps end → length (tokens_from at ps) ≤ length cs
tokens_at_most_bytes [] cs end at passes = omega arith
tokens_at_most_bytes (p ∷ ps) cs end at passes =
    let here : length (token_of p.piece at) ≤ 1 = at_most_one_token p.piece at in
    let bytes : 1 ≤ length p.text = some_bytes p.piece p.text passes.rest passes.piece in
    let others : length (tokens_from (at + length p.text) ps) ≤ length passes.rest =
    tokens_at_most_bytes ps passes.rest end (at + length p.text) passes.goes_on in
    let split = ap length passes.split in
    omega (arith, length-append {A = ℕ}, length-append {A = Token})

-- ---- tokens and variables

-- behind a token there is one token less
behind : {what : What} {holds : List What → Type 0} (n : ℕ) (x : List What) (f : Fixed what holds x) → n ≤ length f.rest → n ≤ length x
behind n x f h = let whole = ap length f.is in omega arith

ended : (x r : List What) → x ≡ r → length r ≤ length x
ended x r e = let same = ap length e in omega arith

behind_param : (k : ℕ) (p : InputKind) (x r : List What) → IsParam k p x r → length r ≤ length x
behind_param k kind.Array x r f =
    let n = length r in
    let array = f.goes_on.goes_on.goes_on.fixed in
    let name = array.goes_on.goes_on.goes_on.fixed in
    behind n x f
    (behind n f.rest f.goes_on
    (behind n f.goes_on.rest f.goes_on.goes_on
    (behind n f.goes_on.goes_on.rest array
    (behind n array.rest array.goes_on
    (behind n array.goes_on.rest array.goes_on.goes_on
    (behind n array.goes_on.goes_on.rest name (ended name.rest r name.goes_on)))))))
behind_param k kind.Int x r f =
    let name = f.goes_on.fixed in
    behind (length r) x f (behind (length r) f.rest name (ended name.rest r name.goes_on))

behind_more_params : (ps : List InputKind) (k : ℕ) (x r : List What) → AreMoreParams k ps x r → length r ≤ length x
behind_more_params [] k x r f = ended x r f
behind_more_params (p ∷ ps) k x r f =
    let param = behind_param k p f.rest f.goes_on.rest f.goes_on.phrase_is in
    let others = behind_more_params ps (k + 1) f.goes_on.rest r f.goes_on.goes_on in
    behind (length r) x f (omega arith)

behind_params : (ps : List InputKind) (x r : List What) → AreParams ps x r → length r ≤ length x
behind_params [] x r f = behind (length r) x f (ended f.rest r f.goes_on)
behind_params (p ∷ ps) x r f =
    let param = behind_param 0 p x f.rest f.phrase_is in
    let others = behind_more_params ps 1 f.rest r f.goes_on in
    omega arith

at_most_declarations : (n k : ℕ) (x r : List What) → AreDeclarations k n x r → n ≤ length x
at_most_declarations zero k x r f = omega arith
at_most_declarations (suc n) k x r f =
    let name = f.goes_on.fixed in
    let others = at_most_declarations n (k + 1) _ r name.goes_on.goes_on.goes_on.goes_on in
    let whole = ap length f.is in
    let first = behind n f.rest name (behind n name.rest name.goes_on (behind n name.goes_on.rest name.goes_on.goes_on (behind n _ name.goes_on.goes_on.goes_on others))) in
    omega arith

at_most_tokens : (q : Routine) (x : List What) → IsProgram q x → q.vars ≤ length x
at_most_tokens q x f =
    let params = f.goes_on.goes_on.goes_on in
    let body = params.goes_on.goes_on.goes_on in
    let n = q.vars in
    let declared = at_most_declarations n 0 _ _ body.phrase_is in
    let short = behind_params q.params _ _ params.phrase_is in
    let behind_them = behind n _ params.goes_on (behind n _ params.goes_on.goes_on declared) in
    behind n x f (behind n _ f.goes_on (behind n _ f.goes_on.goes_on (omega arith)))

pub variables_are_few : (text : List ℕ) (toks : List Token) (q : Routine) → AreTokensOf text toks → IsProgram q (whats toks) → q.vars ≤ length text
variables_are_few text toks q cut program =
    let tokens : length (tokens_from 0 cut.parts) ≤ length text = tokens_at_most_bytes cut.parts text [] 0 cut.passes in
    let same = ap length cut.tokens in
    let few = at_most_tokens q (whats toks) program in
    omega (arith, length-map toks (λ (t : Token). t.what))
