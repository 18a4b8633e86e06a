-- What a state of the reader means: which tokens complete it, whatever has to follow the expression.
-- Here t says what follows: it holds of the tree of the whole expression and the tokens behind it.
use Rattle.std.proofs.Common.{◌≡◌, ℕ, ◌≤◌, List, [], ◌∷◌, ◌⊎◌, inl, inr, refl, sym, subst}
use Rattle.pipe_tree.specs.Grammar.{Fixed, Phrase}
use Rattle.pipe_reader.specs.Machine.{complete_form, Frame, Last, Encloses, Tests, Branches, frame_precedence, frame_wanted_precedence, wanted_precedence, State, Need, Have, Calls, Spells, Closes, Start, Leaf, Opens, Length, Nothing, mark_token}
use Rattle.pipe_reader.specs.declared.roles.Mark.{Mark}
use Rattle.pipe_reader.specs.declared.roles.Mark.TheVariants.{Opening, Closing, ThenKeyword, ElseKeyword}
use Rattle.pipe_reader.specs.InfixOps.{infix_sign, infix_precedence, infix_left_precedence, infix_right_precedence, join, formula_precedence}
use Rattle.pipe_reader.specs.declared.infix_op.InfixOp.{InfixOp}
use Rattle.pipe_tree.specs.Tokens.{Named, Sym, Tok, tok}
use Rattle.pipe_tree.specs.Trees.{Formula, Len, Paren, If}
use Rattle.pipe_reader.proofs.LeftOperand.{Grows, Whole, By}

-- an operand of precedence l, and then
pub record Operand (l : ℕ) (then_holds : Formula → List Tok → Type 0) (x : List Tok) : Type 0 where
  pub tree : Formula
  pub rest : List Tok
  pub phrase : Phrase tree l x rest
  pub after : then_holds tree rest

-- what u grows to at precedence l, and then
pub record On (l : ℕ) (then_holds : Formula → List Tok → Type 0) (u : Formula) (x : List Tok) : Type 0 where
  pub tree : Formula
  pub rest : List Tok
  pub grows : Grows tree l rest u x
  pub after : then_holds tree rest

-- a name, and then
pub record Spelled (then_holds : List ℕ → ℕ → List Tok → Type 0) (x : List Tok) : Type 0 where
  pub text : List ℕ
  pub at : ℕ
  pub rest : List Tok
  pub is : x ≡ tok (Named text) at ∷ rest
  pub goes_on : then_holds text at rest

abbrev pub Marked : Mark → (List Tok → Type 0) → List Tok → Type 0
Marked m then_holds x = Fixed (mark_token m) then_holds x

-- what follows an operand in a form, where K holds of the form's tree and what follows it
abbrev pub GivenBranch : ℕ → Formula → (Formula → List Tok → Type 0) → Formula → List Tok → Type 0
GivenBranch at c K a x = Marked ElseKeyword (Operand 0 (λ b. K (If at c a b))) x

abbrev pub Given : Frame → (Formula → List Tok → Type 0) → Formula → List Tok → Type 0
Given (Last f) K u x = K (complete_form f u) x
Given (Encloses at) K u x = Marked Closing (K (Paren at u)) x
Given (Tests at) K u x = Marked ThenKeyword (Operand 0 (GivenBranch at u K)) x
Given (Branches at c) K u x = GivenBranch at c K u x

-- u is the operand of the innermost form, whole
abbrev pub After : List Frame → (Formula → List Tok → Type 0) → Formula → List Tok → Type 0
After [] t u x = t u x
After (f ∷ s) t u x = Given f (On (wanted_precedence s) (After s t)) u x

abbrev pub CallCloses : ℕ → (Formula → List Tok → Type 0) → List ℕ → ℕ → List Tok → Type 0
CallCloses at K text q x = Marked Closing (K (Len at q text)) x

abbrev pub Completes : State → (Formula → List Tok → Type 0) → List Tok → Type 0
Completes (Need s) t x = Operand (wanted_precedence s) (After s t) x
Completes (Have s u) t x = On (wanted_precedence s) (After s t) u x
Completes (Calls s at) t x = Marked Opening (Spelled (CallCloses at (On (wanted_precedence s) (After s t)))) x
Completes (Spells s at) t x = Spelled (CallCloses at (On (wanted_precedence s) (After s t))) x
Completes (Closes s at q text) t x = CallCloses at (On (wanted_precedence s) (After s t)) text q x

-- what its first token makes of an operand of precedence l, where K holds of what it begins
abbrev pub Begins : Start → ℕ → (Formula → List Tok → Type 0) → List Tok → Type 0
Begins (Leaf u) l K x = K u x
Begins (Opens f) l K x = (l ≤ frame_precedence f) × Operand (frame_wanted_precedence f) (Given f K) x
Begins (Length at) l K x = Marked Opening (Spelled (CallCloses at K)) x
Begins Nothing l K x = ⊥

-- ---- what grows, by its next token

pub record Stays (l : ℕ) (A : Formula → List Tok → Type 0) (u : Formula) (x : List Tok) : Type 0 where
  pub precedence : l ≤ formula_precedence u
  pub after : A u x

pub record Takes (l : ℕ) (A : Formula → List Tok → Type 0) (u : Formula) (x : List Tok) : Type 0 where
  pub operator : InfixOp
  pub at : ℕ
  pub rest : List Tok
  pub is : x ≡ tok (Sym (infix_sign operator)) at ∷ rest
  pub precedence : l ≤ infix_precedence operator
  pub left : infix_left_precedence operator ≤ formula_precedence u
  pub right : Operand (infix_right_precedence operator) (λ b. On l A (join operator at u b)) rest

grows_on : (e : Formula) (l : ℕ) (r : List Tok) (A : Formula → List Tok → Type 0) (u : Formula) (x : List Tok) → A e r → Grows e l r u x → Stays l A u x ⊎ Takes l A u x
grows_on e l r A u x h (Whole _ _ ue xe lu) =
    inl (record { precedence = lu; after = subst (λ (v : Formula). A v x) (sym ue) (subst (λ (y : List Tok). A e y) (sym xe) h) })
grows_on e l r A u x h (By _ _ operator q y is le lu b z ph g) =
    inr (record { operator = operator; at = q; rest = y; is = is; precedence = le; left = lu; right = record { tree = b; rest = z; phrase = ph; after = record { tree = e; rest = r; grows = g; after = h } } })

-- it is whole, or an operator follows
pub on_next : (l : ℕ) (A : Formula → List Tok → Type 0) (u : Formula) (x : List Tok) → On l A u x → Stays l A u x ⊎ Takes l A u x
on_next l A u x h = grows_on h.tree l h.rest A u x h.after h.grows

pub on_stays : (l : ℕ) (A : Formula → List Tok → Type 0) (u : Formula) (x : List Tok) → l ≤ formula_precedence u → A u x → On l A u x
on_stays l A u x le h = record { tree = u; rest = x; grows = Whole u x refl refl le; after = h }

pub on_takes : (l : ℕ) (A : Formula → List Tok → Type 0) (u : Formula) (x : List Tok) → Takes l A u x → On l A u x
on_takes l A u x h =
    let o = h.right.after in
    record { tree = o.tree; rest = o.rest; grows = By u x h.operator h.at h.rest h.is h.precedence h.left h.right.tree h.right.rest h.right.phrase o.grows; after = o.after }
