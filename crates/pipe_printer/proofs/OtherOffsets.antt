-- Tokens with the contents of a phrase are a phrase too, of the same tree but for offsets: expressions, rows and
-- patterns. The content of a token is what it is, without its offset.
use Rattle.std.proofs.Common.{◌≡◌, ℕ, ◌≤◌, List, [], ◌∷◌, Bool, true, false, refl, ap, ◌∙◌}
use Rattle.std.specs.Prelude.{map}
use Rattle.pipe_lexer.specs.declared.keyword.Keyword.TheVariants as key
use Rattle.pipe_tree.specs.Tokens.{Key, What, Tok, tok}
use Rattle.pipe_printer.specs.TreeTokens.{contents_of}
use Rattle.pipe_tree.specs.Trees.{Formula, offset_of, Num, Truth, Name, Len, Neg, Not, Paren, Bin, And, Or, If, Label, Row, Pattern}
use Rattle.pipe_tree.specs.Operators.{left_precedence, right_precedence}
use Rattle.pipe_tree.specs.Grammar.{At, Fixed, Then, Phrase, AreParts, IsBraced, IsExpression, IsRow, IsLabel, IsPattern}
use Rattle.pipe_printer.specs.WithoutOffsets.{formula_without_offsets, row_without_offsets, label_without_offsets, pattern_without_offsets}

-- tokens with the contents of these
pub record Like (x : List Tok) : Type 0 where
  pub toks : List Tok
  pub same : contents_of toks ≡ contents_of x

-- this content first, and then tokens with the contents of the rest
pub record Next (what : What) (y r : List Tok) : Type 0 where
  pub at : ℕ
  pub rest : Like r
  pub is : y ≡ tok what at ∷ rest.toks

first_is : (what : What) (at : ℕ) (r : List Tok) (t : Tok) (ts : List Tok) → contents_of (t ∷ ts) ≡ contents_of (tok what at ∷ r) → Next what (t ∷ ts) r
first_is what at r t ts same =
    let content : t.what ≡ what = cc in
    let rest : contents_of ts ≡ contents_of r = cc in
    record { at = t.at; rest = record { toks = ts; same = rest }; is = λ i. record { what = content i; at = t.at } ∷ ts }

first_of_contents : (what : What) (at : ℕ) (r y : List Tok) → contents_of y ≡ contents_of (tok what at ∷ r) → Next what y r
first_of_contents what at r [] same = absurd cc
first_of_contents what at r (t ∷ ts) same = first_is what at r t ts same

pub next_token : {what : What} {at : ℕ} {x r : List Tok} → x ≡ tok what at ∷ r → (y : Like x) → Next what y.toks r
next_token {what} {at} {r} is y = first_of_contents what at r y.toks (y.same ∙ ap contents_of is)

-- the last token of a phrase
pub last_token : {what : What} {at : ℕ} {x rest r : List Tok} → x ≡ tok what at ∷ rest → rest ≡ r → (y : Like x) → Next what y.toks r
last_token {what} {at} {r} is ends y = first_of_contents what at r y.toks (y.same ∙ ap contents_of is ∙ ap (λ (z : List Tok). contents_of (tok what at ∷ z)) ends)

-- tokens begin with a phrase of this tree but for offsets, and then have the contents of the rest
pub record Replaced {A : Type 0} (phrase : A → List Tok → List Tok → Type 0) (tree_without_offsets : A → A) (old : A) (y r : List Tok) : Type 0 where
  pub tree : A
  pub rest : Like r
  pub is : phrase tree y rest.toks
  pub same_tree : tree_without_offsets tree ≡ tree_without_offsets old

-- a token or a part, and then what goes on
pub at_next : {what : What} {P : List Tok → Type 0} {y r : List Tok} (n : Next what y r) → P n.rest.toks → At what n.at P y
at_next n goes_on = record { rest = n.rest.toks; is = n.is; goes_on = goes_on }

pub fixed_next : {what : What} {P : List Tok → Type 0} {y r : List Tok} (n : Next what y r) → P n.rest.toks → Fixed what P y
fixed_next n goes_on = record { at = n.at; rest = n.rest.toks; is = n.is; goes_on = goes_on }

pub then_part : {A : Type 0} {phrase : A → List Tok → List Tok → Type 0} {f : A → A} {P : List Tok → Type 0} {old : A} {y r : List Tok} (p : Replaced phrase f old y r) → P p.rest.toks → Then (phrase p.tree) P y
then_part p goes_on = record { rest = p.rest.toks; phrase_is = p.is; goes_on = goes_on }

-- an expression of this precedence
abbrev pub IsReplacedFormula : Formula → ℕ → List Tok → List Tok → Type 0
IsReplacedFormula e l y r = Replaced (λ f y s. Phrase f l y s) formula_without_offsets e y r

if_of : (at l : ℕ) (c a b : Formula) {y r1 r2 r3 r4 r5 r : List Tok} → l ≤ 0 → (first : Next (Key key.If) y r1) (test : IsReplacedFormula c 0 first.rest.toks r2)
    (second : Next (Key key.Then) test.rest.toks r3) (left : IsReplacedFormula a 0 second.rest.toks r4)
    (third : Next (Key key.Else) left.rest.toks r5) → IsReplacedFormula b 0 third.rest.toks r → IsReplacedFormula (If at c a b) l y r
if_of at l c a b loose first test second left third right = record {
  tree = If first.at test.tree left.tree right.tree;
  rest = right.rest;
  is = (loose, at_next first (then_part test (fixed_next second (then_part left (fixed_next third right.is)))));
  same_tree = λ i. If 0 (test.same_tree i) (left.same_tree i) (right.same_tree i);
}

pub replaced_formula : (e : Formula) (l : ℕ) {x : List Tok} (r : List Tok) (y : Like x) → Phrase e l x r → IsReplacedFormula e l y.toks r
replaced_formula (Num at w) l r y h =
    let n = last_token h.is h.goes_on y in record { tree = Num n.at w; rest = n.rest; is = at_next n refl; same_tree = refl }
replaced_formula (Truth at b) l r y h =
    let n = last_token h.is h.goes_on y in record { tree = Truth n.at b; rest = n.rest; is = at_next n refl; same_tree = refl }
replaced_formula (Name at text) l r y h =
    let n = last_token h.is h.goes_on y in record { tree = Name n.at text; rest = n.rest; is = at_next n refl; same_tree = refl }
replaced_formula (Len at q text) l r y h =
    let h1 = h.goes_on in
    let h2 = h1.goes_on in
    let h3 = h2.goes_on in
    let len = next_token h.is y in
    let opening = next_token h1.is len.rest in
    let name = next_token h2.is opening.rest in
    let closing = last_token h3.is h3.goes_on name.rest in
    record {
      tree = Len len.at name.at text;
      rest = closing.rest;
      is = at_next len (fixed_next opening (at_next name (fixed_next closing refl)));
      same_tree = refl;
    }
replaced_formula (Neg at a) l r y h =
    let n = next_token h.1.is y in
    let p = replaced_formula a 6 r n.rest h.1.goes_on in
    record { tree = Neg n.at p.tree; rest = p.rest; is = (h.0, at_next n p.is); same_tree = ap (Neg 0) p.same_tree }
replaced_formula (Not at a) l r y h =
    let n = next_token h.1.is y in
    let p = replaced_formula a 6 r n.rest h.1.goes_on in
    record { tree = Not n.at p.tree; rest = p.rest; is = (h.0, at_next n p.is); same_tree = ap (Not 0) p.same_tree }
replaced_formula (Paren at a) l r y h =
    let h1 = h.goes_on in
    let h2 = h1.goes_on in
    let opening = next_token h.is y in
    let p = replaced_formula a 0 h1.rest opening.rest h1.phrase_is in
    let closing = last_token h2.is h2.goes_on p.rest in
    record {
      tree = Paren opening.at p.tree;
      rest = closing.rest;
      is = at_next opening (then_part p (fixed_next closing refl));
      same_tree = ap (Paren 0) p.same_tree;
    }
replaced_formula (Bin at op q a b) l r y h =
    let left = replaced_formula a (left_precedence op) h.2.rest y h.2.phrase_is in
    let n = next_token h.2.goes_on.is left.rest in
    let right = replaced_formula b (right_precedence op) r n.rest h.2.goes_on.goes_on in
    record {
      tree = Bin (offset_of left.tree) op n.at left.tree right.tree;
      rest = right.rest;
      is = (refl, h.1, then_part left (at_next n right.is));
      same_tree = λ i. Bin 0 op 0 (left.same_tree i) (right.same_tree i);
    }
replaced_formula (And at q a b) l r y h =
    let left = replaced_formula a 2 h.2.rest y h.2.phrase_is in
    let n = next_token h.2.goes_on.is left.rest in
    let right = replaced_formula b 3 r n.rest h.2.goes_on.goes_on in
    record { tree = And (offset_of left.tree) n.at left.tree right.tree; rest = right.rest; is = (refl, h.1, then_part left (at_next n right.is)); same_tree = λ i. And 0 0 (left.same_tree i) (right.same_tree i) }
replaced_formula (Or at q a b) l r y h =
    let left = replaced_formula a 1 h.2.rest y h.2.phrase_is in
    let n = next_token h.2.goes_on.is left.rest in
    let right = replaced_formula b 2 r n.rest h.2.goes_on.goes_on in
    record { tree = Or (offset_of left.tree) n.at left.tree right.tree; rest = right.rest; is = (refl, h.1, then_part left (at_next n right.is)); same_tree = λ i. Or 0 0 (left.same_tree i) (right.same_tree i) }
replaced_formula (If at c a b) l r y h =
    let h1 = h.1.goes_on in
    let h2 = h1.goes_on in
    let h3 = h2.goes_on in
    let h4 = h3.goes_on in
    let first = next_token h.1.is y in
    let test = replaced_formula c 0 h1.rest first.rest h1.phrase_is in
    let second = next_token h2.is test.rest in
    let left = replaced_formula a 0 h3.rest second.rest h3.phrase_is in
    let third = next_token h4.is left.rest in
    if_of at l c a b h.0 first test second left third (replaced_formula b 0 r third.rest h4.goes_on)

-- a name
abbrev pub IsReplacedLabel : Label → List Tok → List Tok → Type 0
IsReplacedLabel = Replaced IsLabel label_without_offsets

pub replaced_label : (n : Label) {x : List Tok} (r : List Tok) (y : Like x) → IsLabel n x r → IsReplacedLabel n y.toks r
replaced_label n r y h =
    let name = last_token h.is h.goes_on y in
    record { tree = record { at = name.at; text = n.text }; rest = name.rest; is = at_next name refl; same_tree = refl }

-- parts of which each can be replaced, in braces or one alone
module _ {A : Type 0} (part_at : A → ℕ) (IsPart : A → List Tok → List Tok → Type 0) (part_without_offsets : A → A)
    (replaced_part : (p : A) (x r : List Tok) (y : Like x) → IsPart p x r → Replaced IsPart part_without_offsets p y.toks r) where
  record AreReplacedParts (p : A) (ps : List A) (y r : List Tok) : Type 0 where
    first : A
    others : List A
    rest : Like r
    is : AreParts IsPart (first ∷ others) y rest.toks
    same_parts : map part_without_offsets (first ∷ others) ≡ map part_without_offsets (p ∷ ps)

  replaced_parts : (p : A) (ps : List A) (x r : List Tok) (y : Like x) → AreParts IsPart (p ∷ ps) x r → AreReplacedParts p ps y.toks r
  replaced_parts p [] x r y h =
      let n = replaced_part p x r y h in
      record { first = n.tree; others = []; rest = n.rest; is = n.is; same_parts = λ i. n.same_tree i ∷ [] }
  replaced_parts p (q ∷ ps) x r y h =
      let h1 = h.goes_on in
      let n = replaced_part p x h.rest y h.phrase_is in
      let comma = next_token h1.is n.rest in
      let later = replaced_parts q ps h1.rest r comma.rest h1.goes_on in
      record {
        first = n.tree;
        others = later.first ∷ later.others;
        rest = later.rest;
        is = then_part n (fixed_next comma later.is);
        same_parts = λ i. n.same_tree i ∷ later.same_parts i;
      }

  record IsReplacedBraced (braces : Bool) (ps : List A) (y r : List Tok) : Type 0 where
    at : ℕ
    parts : List A
    rest : Like r
    is : IsBraced part_at IsPart braces parts at y rest.toks
    same_parts : map part_without_offsets parts ≡ map part_without_offsets ps

  replaced_braced : (braces : Bool) (ps : List A) (at : ℕ) (x r : List Tok) (y : Like x) → IsBraced part_at IsPart braces ps at x r → IsReplacedBraced braces ps y.toks r
  replaced_braced false [] at x r y h = absurd h
  replaced_braced false (p ∷ []) at x r y h =
      let n = replaced_part p x r y h.1 in
      record { at = part_at n.tree; parts = n.tree ∷ []; rest = n.rest; is = (refl, n.is); same_parts = λ i. n.same_tree i ∷ [] }
  replaced_braced false (p ∷ q ∷ ps) at x r y h = absurd h
  replaced_braced true [] at x r y h = absurd h.goes_on.phrase_is
  replaced_braced true (p ∷ ps) at x r y h =
      let h1 = h.goes_on in
      let h2 = h1.goes_on in
      let opening = next_token h.is y in
      let parts = replaced_parts p ps h.rest h1.rest opening.rest h1.phrase_is in
      let closing = last_token h2.is h2.goes_on parts.rest in
      record {
        at = opening.at;
        parts = parts.first ∷ parts.others;
        rest = closing.rest;
        is = at_next opening (record { rest = parts.rest.toks; phrase_is = parts.is; goes_on = fixed_next closing refl });
        same_parts = parts.same_parts;
      }

abbrev pub IsReplacedRow : Row → List Tok → List Tok → Type 0
IsReplacedRow = Replaced IsRow row_without_offsets

pub replaced_row : (row : Row) {x : List Tok} (r : List Tok) (y : Like x) → IsRow row x r → IsReplacedRow row y.toks r
replaced_row row {x} r y h =
    let b = replaced_braced offset_of IsExpression formula_without_offsets (λ e x r y h. replaced_formula e 0 r y h) row.braces row.parts row.at x r y h in
    record {
      tree = record { at = b.at; braces = row.braces; parts = b.parts };
      rest = b.rest;
      is = b.is;
      same_tree = λ i. record { at = 0; braces = row.braces; parts = b.same_parts i };
    }

abbrev pub IsReplacedPattern : Pattern → List Tok → List Tok → Type 0
IsReplacedPattern = Replaced IsPattern pattern_without_offsets

pub replaced_pattern : (p : Pattern) {x : List Tok} (r : List Tok) (y : Like x) → IsPattern p x r → IsReplacedPattern p y.toks r
replaced_pattern p {x} r y h =
    let b = replaced_braced (λ (n : Label). n.at) IsLabel label_without_offsets (λ n x r y h. replaced_label n r y h) p.braces p.names p.at x r y h in
    record {
      tree = record { at = b.at; braces = p.braces; names = b.parts };
      rest = b.rest;
      is = b.is;
      same_tree = λ i. record { at = 0; braces = p.braces; names = b.same_parts i };
    }
