-- A division stands in an expression where there is a first one.
use Rattle.std.proofs.Common.{◌≡◌, ℕ, Option, Some, None, Bool, false, ◌||◌, is_some, refl, ap, sym, ◌∙◌}
use Rattle.pipe_tree.specs.Trees.{Formula, Num, Truth, Name, Len, Neg, Not, Paren, Bin, And, Or, If}
use Rattle.pipe_lexer.specs.declared.operator.BinOp.{BinOp as Sign}
use Rattle.pipe_lexer.specs.declared.operator.BinOp.TheVariants.{Div, Rem}
use Rattle.kind_rules.specs.Expressions.{has_division, first, division_at, first_division}
use Rattle.kind_rules.specs.Signs.{is_division}

first_some : (a b : Option ℕ) (c d : Bool) → c ≡ is_some a → d ≡ is_some b → (c || d) ≡ is_some (first a b)
first_some None b c d h k = rw h k
first_some (Some at) b c d h k = rw h refl

at_some : (o : Sign) (at : ℕ) → is_division o ≡ is_some (division_at o at)
at_some Div at = refl
at_some Rem at = refl
at_some _ at = refl

division_is : (e : Formula) → has_division e ≡ is_some (first_division e)
division_is (Num at w) = refl
division_is (Truth at b) = refl
division_is (Name at n) = refl
division_is (Len at q n) = refl
division_is (Paren at a) = division_is a
division_is (Neg at a) = division_is a
division_is (Not at a) = division_is a
division_is (Bin at o q a b) = first_some (first_division a) (first (division_at o q) (first_division b)) _ _ (division_is a) (first_some (division_at o q) (first_division b) _ _ (at_some o q) (division_is b))
division_is (And at q a b) = first_some (first_division a) (first_division b) _ _ (division_is a) (division_is b)
division_is (Or at q a b) = first_some (first_division a) (first_division b) _ _ (division_is a) (division_is b)
division_is (If at c a b) = first_some (first_division c) (first (first_division a) (first_division b)) _ _ (division_is c) (first_some (first_division a) (first_division b) _ _ (division_is a) (division_is b))

pub division_none : (e : Formula) → first_division e ≡ None → has_division e ≡ false
division_none e h = division_is e ∙ ap is_some h

none_where : (o : Option ℕ) → is_some o ≡ false → o ≡ None
none_where None h = refl
none_where (Some x) h = absurd cc

pub no_division : (e : Formula) → has_division e ≡ false → first_division e ≡ None
no_division e h = none_where (first_division e) (sym (division_is e) ∙ h)
