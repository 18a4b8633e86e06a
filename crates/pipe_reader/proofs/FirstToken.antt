-- The first token of an operand: what it begins, forward and back.
use Rattle.std.proofs.Common.{◌≡◌, ℕ, ◌≤◌, List, ◌∷◌, true, false, refl, sym, subst, arith}
use Rattle.pipe_lexer.specs.declared.keyword.Keyword.TheVariants as key
use Rattle.pipe_lexer.specs.declared.symbol.Symbol.TheVariants as symbol
use Rattle.pipe_tree.specs.Grammar.{Phrase}
use Rattle.pipe_reader.specs.InfixOps.{infix_left_precedence}
use Rattle.pipe_reader.specs.declared.infix_op.InfixOp.TheVariants.{Binary, And as AndOp, Or as OrOp}
use Rattle.pipe_reader.specs.Machine.{Start, Leaf, Opens, Length, Nothing, start_of}
use Rattle.pipe_tree.specs.Tokens.{What, Named, Number, Key, Sym, Tok, tok}
use Rattle.pipe_tree.specs.Trees.{Formula, Num, Truth, Name, Len, Neg, Not, Paren, Bin, And, Or, If}
use Rattle.pipe_reader.proofs.LeftOperand.{Grows, Whole, grows_more, phrase_grows}
use Rattle.pipe_reader.proofs.StateMeaning.{Operand, On, Begins}
use Rattle.pipe_reader.proofs.OperatorTables.{operand_precedences}
use Rattle.pipe_reader.proofs.Phrases.{at_first, fixed_then, operand_then, operand_of, name_then, name_of}

pub record First (l : ℕ) (K : Formula → List Tok → Type 0) (x : List Tok) : Type 0 where
  pub what : What
  pub at : ℕ
  pub rest : List Tok
  pub is : x ≡ tok what at ∷ rest
  pub begins : Begins (start_of what at) l K rest

begins_looser : (s : Start) (l m : ℕ) (K : Formula → List Tok → Type 0) (x : List Tok) → l ≤ m → Begins s m K x → Begins s l K x
begins_looser (Leaf u) l m K x le h = h
begins_looser (Opens f) l m K x le h = (omega (arith, h.0), h.1)
begins_looser (Length at) l m K x le h = h
begins_looser Nothing l m K x le h = h

first_looser : (l m : ℕ) (K : Formula → List Tok → Type 0) (x : List Tok) → l ≤ m → First m K x → First l K x
first_looser l m K x le h = record { what = h.what; at = h.at; rest = h.rest; is = h.is; begins = begins_looser (start_of h.what h.at) l m K h.rest le h.begins }

-- K holds of each operand that grows to e
pub first_of : (e : Formula) (l : ℕ) (x r : List Tok) (K : Formula → List Tok → Type 0) → ((u : Formula) (y : List Tok) → Grows e l r u y → K u y) → l ≤ 6 → Phrase e l x r → First l K x
first_of (Num at w) l x r K f le h =
    record { what = Number w; at = at; rest = h.rest; is = h.is; begins = f (Num at w) h.rest (Whole (Num at w) h.rest refl h.goes_on (omega arith)) }
first_of (Name at n) l x r K f le h =
    record { what = Named n; at = at; rest = h.rest; is = h.is; begins = f (Name at n) h.rest (Whole (Name at n) h.rest refl h.goes_on (omega arith)) }
first_of (Truth at true) l x r K f le h =
    record { what = Key key.True; at = at; rest = h.rest; is = h.is; begins = f (Truth at true) h.rest (Whole (Truth at true) h.rest refl h.goes_on (omega arith)) }
first_of (Truth at false) l x r K f le h =
    record { what = Key key.False; at = at; rest = h.rest; is = h.is; begins = f (Truth at false) h.rest (Whole (Truth at false) h.rest refl h.goes_on (omega arith)) }
first_of (Len at q n) l x r K f le h =
    let o = h.goes_on in
    let m = o.goes_on in
    let c = m.goes_on in
    record {
      what = Key key.Len;
      at = at;
      rest = h.rest;
      is = h.is;
      begins = fixed_then o (name_of m (fixed_then c (f (Len at q n) c.rest (Whole (Len at q n) c.rest refl c.goes_on (omega arith)))));
    }
first_of (Paren at a) l x r K f le h =
    let o = h.goes_on in
    let c = o.goes_on in
    record {
      what = Sym symbol.OpenParen;
      at = at;
      rest = h.rest;
      is = h.is;
      begins = (omega arith, operand_of a o (fixed_then c (f (Paren at a) c.rest (Whole (Paren at a) c.rest refl c.goes_on (omega arith)))));
    }
first_of (Neg at a) l x r K f le h =
    let k : K (Neg at a) r = f (Neg at a) r (Whole (Neg at a) r refl refl h.0) in
    record { what = Sym symbol.Minus; at = at; rest = h.1.rest; is = h.1.is; begins = (h.0, record { tree = a; rest = r; phrase = h.1.goes_on; after = k }) }
first_of (Not at a) l x r K f le h =
    let k : K (Not at a) r = f (Not at a) r (Whole (Not at a) r refl refl h.0) in
    record { what = Sym symbol.Bang; at = at; rest = h.1.rest; is = h.1.is; begins = (h.0, record { tree = a; rest = r; phrase = h.1.goes_on; after = k }) }
first_of (If at c a b) l x r K f le h =
    let t = h.1.goes_on.goes_on in
    let e = t.goes_on.goes_on in
    record {
      what = Key key.If;
      at = at;
      rest = h.1.rest;
      is = h.1.is;
      begins = (
        h.0,
        operand_of c h.1.goes_on (fixed_then t (operand_of a t.goes_on (fixed_then e
            (record { tree = b; rest = r; phrase = e.goes_on; after = f (If at c a b) r (Whole (If at c a b) r refl refl h.0) })))),
      );
    }
first_of (Bin at op q a b) l x r K f le h =
    let o = h.2.goes_on in
    let j = operand_precedences (Binary op) in
    first_looser l (infix_left_precedence (Binary op)) K x (omega (arith, j.left, h.1))
    (first_of a (infix_left_precedence (Binary op)) x h.2.rest K
    (λ u y g. f u y (subst (λ (n : ℕ). Grows (Bin n op q a b) l r u y) (sym h.0) (grows_more (Binary op) q a b l h.2.rest o.rest r u y h.1 o.is o.goes_on g)))
    (omega (arith, j.left_most)) h.2.phrase_is)
first_of (And at q a b) l x r K f le h =
    let o = h.2.goes_on in
    first_looser l 2 K x h.1
    (first_of a 2 x h.2.rest K
    (λ u y g. f u y (subst (λ (n : ℕ). Grows (And n q a b) l r u y) (sym h.0) (grows_more AndOp q a b l h.2.rest o.rest r u y h.1 o.is o.goes_on g)))
    (omega arith) h.2.phrase_is)
first_of (Or at q a b) l x r K f le h =
    let o = h.2.goes_on in
    first_looser l 1 K x h.1
    (first_of a 1 x h.2.rest K
    (λ u y g. f u y (subst (λ (n : ℕ). Grows (Or n q a b) l r u y) (sym h.0) (grows_more OrOp q a b l h.2.rest o.rest r u y h.1 o.is o.goes_on g)))
    (omega arith) h.2.phrase_is)

-- ---- and back

operand : (l : ℕ) (A : Formula → List Tok → Type 0) (m : ℕ) (u : Formula) (w x : List Tok) → Phrase u m w x → On l A u x → Operand l A w
operand l A m u w x ph h = record { tree = h.tree; rest = h.rest; phrase = phrase_grows h.tree l w h.rest m u x ph h.grows; after = h.after }

pub first_back : (k : What) (p l : ℕ) (A : Formula → List Tok → Type 0) (x : List Tok) → Begins (start_of k p) l (On l A) x → Operand l A (tok k p ∷ x)
first_back (Number w) p l A x h = operand l A 7 (Num p w) (tok (Number w) p ∷ x) x (at_first refl) h
first_back (Named n) p l A x h = operand l A 7 (Name p n) (tok (Named n) p ∷ x) x (at_first refl) h
first_back (Key key.True) p l A x h = operand l A 7 (Truth p true) (tok (Key key.True) p ∷ x) x (at_first refl) h
first_back (Key key.False) p l A x h = operand l A 7 (Truth p false) (tok (Key key.False) p ∷ x) x (at_first refl) h
first_back (Key key.Len) p l A x h =
    let n = h.goes_on in
    let c = n.goes_on in
    operand l A 7 (Len p n.at n.text) (tok (Key key.Len) p ∷ x) c.rest (at_first (fixed_then h (name_then n (fixed_then c refl)))) c.goes_on
first_back (Key key.If) p l A x h =
    let c = h.1 in
    let t = c.after in
    let a = t.goes_on in
    let e = a.after in
    let b = e.goes_on in
    operand l A 0 (If p c.tree a.tree b.tree) (tok (Key key.If) p ∷ x) b.rest
    (omega arith, at_first (operand_then c (fixed_then t (operand_then a (fixed_then e b.phrase))))) b.after
first_back (Key _) p l A x h = absurd h
first_back (Sym symbol.Minus) p l A x h = operand l A 6 (Neg p h.1.tree) (tok (Sym symbol.Minus) p ∷ x) h.1.rest (omega arith, at_first h.1.phrase) h.1.after
first_back (Sym symbol.Bang) p l A x h = operand l A 6 (Not p h.1.tree) (tok (Sym symbol.Bang) p ∷ x) h.1.rest (omega arith, at_first h.1.phrase) h.1.after
first_back (Sym symbol.OpenParen) p l A x h =
    let a = h.1 in
    let c = a.after in
    operand l A 7 (Paren p a.tree) (tok (Sym symbol.OpenParen) p ∷ x) c.rest (at_first (operand_then a (fixed_then c refl))) c.goes_on
first_back (Sym _) p l A x h = absurd h
