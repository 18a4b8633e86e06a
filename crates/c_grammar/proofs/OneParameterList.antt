-- Two lists of parameters that ) follows are one, and leave the same rest.
use Rattle.std.proofs.Common.{◌≡◌, ℕ, ◌+◌, List, [], ◌∷◌, refl, sym, ◌∙◌}
use Rattle.std.specs.Prelude.{false, ◌==◌}
use Rattle.list_denotation.specs.declared.input.InputKind.{InputKind}
use Rattle.list_denotation.specs.declared.input.InputKind.TheVariants as kind
use Rattle.c_tokens.specs.declared.symbol.Symbol.TheVariants as symbol
use Rattle.c_tokens.specs.Pieces.{What, Sym}
use Rattle.c_grammar.specs.Grammar.{IsParam, AreMoreParams, AreParams}
use Rattle.c_grammar.proofs.FirstTokens.{first_mark, first_mark_is, marks_apart}

-- the mark of the first token of a parameter
abbrev param_mark : InputKind → ℕ
param_mark kind.Array = 99
param_mark kind.Int = 117

param_begins : (k : ℕ) (p : InputKind) (x r : List What) → IsParam k p x r → first_mark x ≡ param_mark p
param_begins k kind.Array x r f = first_mark_is f.is
param_begins k kind.Int x r f = first_mark_is f.is

-- no parameter begins with void
void_begins_no_param : (p : InputKind) → (param_mark p == 118) ≡ false
void_begins_no_param kind.Array = refl
void_begins_no_param kind.Int = refl

one_param : (k : ℕ) (p q : InputKind) (x y r s : List What) → x ≡ y → IsParam k p x r → IsParam k q y s → (p ≡ q) × (r ≡ s)
one_param k kind.Array kind.Array x y r s e f g = (refl, (cc))
one_param k kind.Int kind.Int x y r s e f g = (refl, (cc))
one_param k p q x y r s e f g =
    absurd (marks_apart (param_mark p) (param_mark q) e (param_begins k p _ _ f) (param_begins k q _ _ g) refl)

one_list_of_more : (ps qs : List InputKind) (k : ℕ) (x y r s rest more : List What) → x ≡ y → AreMoreParams k ps x r → AreMoreParams k qs y s →
    r ≡ Sym symbol.CloseParen ∷ rest → s ≡ Sym symbol.CloseParen ∷ more → (ps ≡ qs) × (r ≡ s)
one_list_of_more [] [] k x y r s rest more e f g c d = (refl, sym f ∙ e ∙ g)
one_list_of_more [] (q ∷ qs) k x y r s rest more e f g c d = absurd (cc)
one_list_of_more (p ∷ ps) [] k x y r s rest more e f g c d = absurd (cc)
one_list_of_more (p ∷ ps) (q ∷ qs) k x y r s rest more e f g c d =
    let first = one_param k p q _ _ _ _ (cc) f.goes_on.phrase_is g.goes_on.phrase_is in
    let others = one_list_of_more ps qs (k + 1) _ _ _ _ _ _ first.1 f.goes_on.goes_on g.goes_on.goes_on c d in
    ((cc), others.1)

pub one_parameter_list : (ps qs : List InputKind) (x y r s rest more : List What) → x ≡ y → AreParams ps x r → AreParams qs y s →
    r ≡ Sym symbol.CloseParen ∷ rest → s ≡ Sym symbol.CloseParen ∷ more → (ps ≡ qs) × (r ≡ s)
one_parameter_list [] [] x y r s rest more e f g c d = (refl, (cc))
one_parameter_list [] (q ∷ qs) x y r s rest more e f g c d =
    absurd (marks_apart (param_mark q) 118 (sym e) (param_begins 0 q _ _ g.phrase_is) (first_mark_is f.is) (void_begins_no_param q))
one_parameter_list (p ∷ ps) [] x y r s rest more e f g c d =
    absurd (marks_apart (param_mark p) 118 e (param_begins 0 p _ _ f.phrase_is) (first_mark_is g.is) (void_begins_no_param p))
one_parameter_list (p ∷ ps) (q ∷ qs) x y r s rest more e f g c d =
    let first = one_param 0 p q _ _ _ _ e f.phrase_is g.phrase_is in
    let others = one_list_of_more ps qs 1 _ _ _ _ _ _ first.1 f.goes_on g.goes_on c d in
    ((cc), others.1)
