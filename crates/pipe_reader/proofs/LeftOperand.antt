-- How a phrase grows from its first operand. In the grammar the left operand of an operator is a
-- phrase again; here the operators are taken one by one from the left, as they are read.
use Rattle.std.proofs.Common.{◌≡◌, ℕ, ◌≤◌, List, ◌∷◌, refl, ap, subst, ◌∙◌, arith}
use Rattle.pipe_tree.specs.Grammar.{Phrase}
use Rattle.pipe_reader.specs.InfixOps.{infix_sign, infix_precedence, infix_left_precedence, infix_right_precedence, join, formula_precedence}
use Rattle.pipe_reader.specs.declared.infix_op.InfixOp.{InfixOp}
use Rattle.pipe_reader.specs.declared.infix_op.InfixOp.TheVariants.{Binary, And as AndOp, Or as OrOp}
use Rattle.pipe_tree.specs.Tokens.{Sym, Tok, tok}
use Rattle.pipe_tree.specs.Trees.{Formula, Num, Truth, Name, Len, Neg, Not, Paren, Bin, And, Or, If}
use Rattle.pipe_reader.proofs.OperatorTables.{operand_precedences, formula_precedence-join}

-- u, and then x up to r, is a phrase of precedence l with the tree e
pub data Grows (e : Formula) (l : ℕ) (r : List Tok) : Formula → List Tok → Type 0 where
  Whole : (u : Formula) (x : List Tok) → u ≡ e → x ≡ r → l ≤ formula_precedence u → Grows e l r u x
  By : (u : Formula) (x : List Tok) (operator : InfixOp) (q : ℕ) (y : List Tok) → x ≡ tok (Sym (infix_sign operator)) q ∷ y → l ≤ infix_precedence operator → infix_left_precedence operator ≤ formula_precedence u
      → (b : Formula) (z : List Tok) → Phrase b (infix_right_precedence operator) y z → Grows e l r (join operator q u b) z → Grows e l r u x

-- what grows to the left operand of an infix operator grows to the infix operator's tree
pub grows_more : (operator : InfixOp) (q : ℕ) (a b : Formula) (l : ℕ) (w y r : List Tok) (u : Formula) (x : List Tok) → l ≤ infix_precedence operator → w ≡ tok (Sym (infix_sign operator)) q ∷ y → Phrase b (infix_right_precedence operator) y r
    → Grows a (infix_left_precedence operator) w u x → Grows (join operator q a b) l r u x
grows_more operator q a b l w y r u x le is h (Whole _ _ ue xe lu) =
    By u x operator q y (xe ∙ is) le lu b r h (Whole (join operator q u b) r (ap (λ (v : Formula). join operator q v b) ue) refl (omega (arith, formula_precedence-join operator q u b)))
grows_more operator q a b l w y r u x le is h (By _ _ k p z zis lk lu c v ph g) =
    By u x k p z zis (omega (arith, (operand_precedences operator).left)) lu c v ph (grows_more operator q a b l w y r (join k p u c) v le is h g)

-- a phrase is one of each looser precedence too
pub phrase_at : (e : Formula) (l m : ℕ) (x r : List Tok) → m ≤ formula_precedence e → Phrase e l x r → Phrase e m x r
phrase_at (Num at w) l m x r le h = h
phrase_at (Truth at b) l m x r le h = h
phrase_at (Name at n) l m x r le h = h
phrase_at (Len at q n) l m x r le h = h
phrase_at (Paren at a) l m x r le h = h
phrase_at (Neg at a) l m x r le h = (le, h.1)
phrase_at (Not at a) l m x r le h = (le, h.1)
phrase_at (Bin at op q a b) l m x r le h = (h.0, le, h.2)
phrase_at (And at q a b) l m x r le h = (h.0, le, h.2)
phrase_at (Or at q a b) l m x r le h = (h.0, le, h.2)
phrase_at (If at c a b) l m x r le h = (le, h.1)

-- two operands and an infix operator are a phrase
pub phrase_join : (operator : InfixOp) (q : ℕ) (a b : Formula) (w x y z : List Tok) → Phrase a (infix_left_precedence operator) w x → x ≡ tok (Sym (infix_sign operator)) q ∷ y → Phrase b (infix_right_precedence operator) y z
    → Phrase (join operator q a b) (infix_precedence operator) w z
phrase_join (Binary op) q a b w x y z h is g = (refl, omega arith, record { rest = x; phrase_is = h; goes_on = record { rest = y; is = is; goes_on = g } })
phrase_join AndOp q a b w x y z h is g = (refl, omega arith, record { rest = x; phrase_is = h; goes_on = record { rest = y; is = is; goes_on = g } })
phrase_join OrOp q a b w x y z h is g = (refl, omega arith, record { rest = x; phrase_is = h; goes_on = record { rest = y; is = is; goes_on = g } })

-- a phrase that grows is a phrase
pub phrase_grows : (e : Formula) (l : ℕ) (w r : List Tok) (m : ℕ) (u : Formula) (x : List Tok) → Phrase u m w x → Grows e l r u x → Phrase e l w r
phrase_grows e l w r m u x h (Whole _ _ ue xe lu) = subst (λ (y : List Tok). Phrase e l w y) xe (subst (λ (v : Formula). Phrase v l w x) ue (phrase_at u m l w x lu h))
phrase_grows e l w r m u x h (By _ _ operator q y is le lu b z ph g) =
    phrase_grows e l w r (infix_precedence operator) (join operator q u b) z (phrase_join operator q u b w x y z (phrase_at u m (infix_left_precedence operator) w x lu h) is ph) g
