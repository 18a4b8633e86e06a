-- In a program that a text is cut into each constant is a word, and in any the parameters are few.
use Rattle.std.proofs.Common.{ℕ, ◌+◌, ◌^◌, ◌<◌, ◌≤◌, List, [], ◌∷◌, ◌++◌, length, All, refl, sym, subst, arith}
use Rattle.std.specs.Prelude.{IsTrue}
use Rattle.std.proofs.lemmas.Bool.{lt-ltb}
use Rattle.std.proofs.lemmas.List.Elements.{All-nil, All-cons}
use Rattle.list_denotation.specs.declared.input.InputKind.{InputKind}
use Rattle.list_denotation.specs.declared.input.InputKind.TheVariants as kind
use Rattle.loop_ir.specs.Constants.{is_word_leaf, block_has_words}
use Rattle.loop_ir.specs.Statements.{Routine}
use Rattle.c_tokens.specs.Cutting.{Token, Part, Passes, token_of, tokens_from, AreTokensOf}
use Rattle.c_tokens.specs.Pieces as piece
use Rattle.c_tokens.specs.Pieces.{What, Word, Bare, Const, Sym, IsToken, Piece, IsPiece}
use Rattle.c_grammar.specs.Grammar.{IsParam, AreMoreParams, AreParams, IsProgram}
use Rattle.c_grammar.specs.Reading.{whats}
use Rattle.c_faults.proofs.LeavesOfTokens.{TellsLeaves, leaves_of_tokens}

-- ---- constants

-- if the token is a constant, it is a word
abbrev HasWord : What → Type 0
HasWord (Const n) = n < 2 ^ 64
HasWord (Word text) = Unit {0}
HasWord (Bare n) = Unit {0}
HasWord (Sym s) = Unit {0}

token_has_word : (what : What) (text rest : List ℕ) → IsToken what text rest → HasWord what
token_has_word (Const n) text rest is = is.2
token_has_word (Word w) text rest is = tt
token_has_word (Bare n) text rest is = tt
token_has_word (Sym s) text rest is = tt

piece_has_words : (p : Piece) (text rest : List ℕ) (at : ℕ) (more : List Token) → IsPiece p text rest → All HasWord (whats more) → All HasWord (whats (token_of p at ++ more))
piece_has_words piece.Blank text rest at more is all = all
piece_has_words piece.Comment text rest at more is all = all
piece_has_words (piece.Token what) text rest at more is all = All-cons HasWord what (whats more) (token_has_word what text rest is) all

parts_have_words : (ps : List Part) (cs end : List ℕ) (at : ℕ) → Passes cs ps end → All HasWord (whats (tokens_from at ps))
parts_have_words [] cs end at passes = All-nil HasWord
parts_have_words (p ∷ ps) cs end at passes =
    piece_has_words p.piece p.text passes.rest at (tokens_from (at + length p.text) ps) passes.piece
    (parts_have_words ps passes.rest end (at + length p.text) passes.goes_on)

words_tell_leaves : TellsLeaves HasWord is_word_leaf
words_tell_leaves = record {
  constant = λ n small. lt-ltb n (2 ^ 64) small;
  variable = λ k small holds. refl;
  array = λ k small holds. refl;
  array_length = λ k small holds. refl;
  int = λ k small holds. refl;
}

pub texts_have_words : (text : List ℕ) (toks : List Token) (q : Routine) → AreTokensOf text toks → IsProgram q (whats toks) → IsTrue (block_has_words q.body)
texts_have_words text toks q cut program =
    let all : All HasWord (whats toks) = subst (λ ts. All HasWord (whats ts)) (sym cut.tokens) (parts_have_words cut.parts text [] 0 cut.passes) in
    leaves_of_tokens HasWord is_word_leaf words_tell_leaves q (whats toks) program all

-- ---- parameters

param_is_small : (k : ℕ) (p : InputKind) (x r : List What) → IsParam k p x r → k < 2 ^ 32
param_is_small k kind.Array x r f = f.goes_on.goes_on.goes_on.small
param_is_small k kind.Int x r f = f.goes_on.small

few_more_params : (ps : List InputKind) (k : ℕ) (x r : List What) → k ≤ 2 ^ 32 → AreMoreParams k ps x r → k + length ps ≤ 2 ^ 32
few_more_params [] k x r few f = omega arith
few_more_params (p ∷ ps) k x r few f =
    let small = param_is_small k p _ _ f.goes_on.phrase_is in
    let others = few_more_params ps (k + 1) _ r (omega arith) f.goes_on.goes_on in
    omega arith

few_params : (ps : List InputKind) (x r : List What) → AreParams ps x r → length ps ≤ 2 ^ 32
few_params [] x r f = omega arith
few_params (p ∷ ps) x r f =
    let others = few_more_params ps 1 f.rest r (omega arith) f.goes_on in
    omega arith

pub programs_have_few : (q : Routine) (toks : List What) → IsProgram q toks → length q.params ≤ 2 ^ 32
programs_have_few q toks program = few_params q.params _ _ program.goes_on.goes_on.goes_on.phrase_is
