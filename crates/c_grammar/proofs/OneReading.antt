-- Bytes read as one program at most, if they are cut into tokens in one way.
use Rattle.std.proofs.Common.{◌≡◌, inl, inr, ℕ, List, ◌++◌, get_or, refl, sym, ap, ◌∙◌, subst}
use Rattle.std.specs.Prelude.{codes}
use Rattle.std.proofs.lemmas.List.{append_cancel_left}
use Rattle.c_tokens.specs.Cutting.{Token, AreTokensOf}
use Rattle.c_grammar.specs.Grammar.{IsProgram}
use Rattle.c_grammar.specs.Reading.{HasHeader, whats, Reads}
use Rattle.loop_ir.specs.Statements.{Routine}
use Rattle.c_grammar.proofs.FirstTokens.{numbers_apart}
use Rattle.c_grammar.proofs.OneProgram.{one_program}

-- the two ends of the header's line differ at its character 21
two_ends : (src r s : List ℕ) → src ≡ codes "#include \"pipeline.h\"\n" ++ r → src ≡ codes "#include \"pipeline.h\"\r\n" ++ s → ⊥
two_ends src r s e f = numbers_apart 10 13 (ap (λ cs. get_or cs 21 0) (sym e ∙ f)) refl

pub one_rest : (src r s : List ℕ) → HasHeader src r → HasHeader src s → r ≡ s
one_rest src r s (inl e) (inl f) = append_cancel_left (codes "#include \"pipeline.h\"\n") r s (sym e ∙ f)
one_rest src r s (inr e) (inr f) = append_cancel_left (codes "#include \"pipeline.h\"\r\n") r s (sym e ∙ f)
one_rest src r s (inl e) (inr f) = absurd (two_ends src r s e f)
one_rest src r s (inr e) (inl f) = absurd (two_ends src s r f e)

pub one_reading : ((src : List ℕ) (a b : List Token) → AreTokensOf src a → AreTokensOf src b → a ≡ b) →
    (src : List ℕ) (p q : Routine) → Reads src p → Reads src q → p ≡ q
one_reading one src p q f g =
    let same_rest : f.rest ≡ g.rest = one_rest src f.rest g.rest f.header g.header in
    let same : f.toks ≡ g.toks = one g.rest f.toks g.toks (subst (λ rest. AreTokensOf rest f.toks) same_rest f.tokens) g.tokens in
    one_program p q (whats g.toks) (subst (λ toks. IsProgram p (whats toks)) same f.program) g.program
