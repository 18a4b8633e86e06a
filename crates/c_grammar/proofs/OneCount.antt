-- Two runs of declarations that no further declaration follows are as long, and leave the same rest.
use Rattle.std.proofs.Common.{◌≡◌, ℕ, zero, suc, ◌+◌, List, refl, sym, ap, ◌∙◌}
use Rattle.std.specs.Prelude.{false, ◌==◌}
use Rattle.c_tokens.specs.Pieces.{What}
use Rattle.c_grammar.specs.Grammar.{AreDeclarations}
use Rattle.c_grammar.proofs.FirstTokens.{first_mark, first_mark_is, numbers_apart}

pub one_count : (n m k : ℕ) (x y r s : List What) → x ≡ y → AreDeclarations k n x r → AreDeclarations k m y s →
    (first_mark r == 117) ≡ false → (first_mark s == 117) ≡ false → (n ≡ m) × (r ≡ s)
one_count zero zero k x y r s e f g c d = (refl, sym f ∙ e ∙ g)
one_count zero (suc m) k x y r s e f g c d =
    absurd (numbers_apart (first_mark r) 117 (ap first_mark (sym f ∙ e) ∙ first_mark_is g.is) c)
one_count (suc n) zero k x y r s e f g c d =
    absurd (numbers_apart (first_mark s) 117 (ap first_mark (sym g ∙ sym e) ∙ first_mark_is f.is) d)
one_count (suc n) (suc m) k x y r s e f g c d =
    let declared = f.goes_on.fixed.goes_on.goes_on in
    let other = g.goes_on.fixed.goes_on.goes_on in
    let others = one_count n m (k + 1) _ _ _ _ (cc) declared.goes_on.goes_on other.goes_on.goes_on c d in
    ((cc), others.1)
