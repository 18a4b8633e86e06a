-- Two blocks that the last return and the last brace follow are one.
use Rattle.std.proofs.Common.{◌≡◌, List, ◌∷◌, refl, sym, ap, ◌∙◌}
use Rattle.std.specs.Prelude.{false, ◌==◌}
use Rattle.c_tokens.specs.declared.symbol.Symbol.TheVariants as symbol
use Rattle.c_tokens.specs.Pieces.{What, Sym}
use Rattle.c_grammar.specs.Grammar.{IsBlock, IsClosed}
use Rattle.loop_ir.specs.declared.syntax.Verdict.TheVariants as verdict
use Rattle.loop_ir.specs.Statements.{Statement, Ret, Block, Nil, Cons}
use Rattle.c_grammar.proofs.FirstTokens.{first_mark, first_mark_is, marks_apart}
use Rattle.c_grammar.proofs.StatementMarks.{statement_mark, statement_begins, symbol_begins_no_statement, type_begins_no_statement}
use Rattle.c_grammar.proofs.OneBlock.{one_statement}

-- behind the last brace no block can close a text
nothing_behind_the_brace : (ss : Block) (x y rest : List What) → x ≡ Sym symbol.CloseBrace ∷ rest → IsBlock ss x y → IsClosed y → ⊥
nothing_behind_the_brace Nil x y rest e f c = marks_apart 4 114 f (first_mark_is e) (first_mark_is c.phrase_is.is) refl
nothing_behind_the_brace (Cons s ss) x y rest e f c =
    marks_apart (statement_mark s) 4 {x = x} refl (statement_begins s _ _ f.phrase_is) (first_mark_is e) (symbol_begins_no_statement s)

-- so the last return is no part of a block
nothing_behind_the_end : (s : Statement) (ss : Block) (x y r : List What) → x ≡ y → IsClosed x → IsBlock (Cons s ss) y r → IsClosed r → ⊥
nothing_behind_the_end s ss x y r e c f d =
    let same = one_statement (Ret verdict.Done) s _ _ _ _ e c.phrase_is f.phrase_is in
    nothing_behind_the_brace ss _ _ _ (sym same.1 ∙ c.goes_on.is) f.goes_on d

pub one_body : (a b : Block) (x y r s : List What) → x ≡ y → IsBlock a x r → IsBlock b y s → IsClosed r → IsClosed s → a ≡ b
one_body Nil Nil x y r s e f g c d = refl
one_body Nil (Cons t ts) x y r s e f g c d = absurd (nothing_behind_the_end t ts _ _ _ (sym f ∙ e) c g d)
one_body (Cons t ts) Nil x y r s e f g c d = absurd (nothing_behind_the_end t ts _ _ _ (sym g ∙ sym e) d f c)
one_body (Cons t ts) (Cons u us) x y r s e f g c d =
    let first = one_statement t u _ _ _ _ e f.phrase_is g.phrase_is in
    let others = one_body ts us _ _ _ _ first.1 f.goes_on g.goes_on c d in
    (cc)

-- a body does not begin with uint64_t
pub no_declaration_begins_a_body : (b : Block) (x r : List What) → IsBlock b x r → IsClosed r → (first_mark x == 117) ≡ false
no_declaration_begins_a_body Nil x r f c = ap (λ m. m == 117) (first_mark_is (f ∙ c.phrase_is.is))
no_declaration_begins_a_body (Cons s ss) x r f c =
    ap (λ m. m == 117) (statement_begins s _ _ f.phrase_is) ∙ type_begins_no_statement s
