-- Rows and patterns, by their first token; and their further parts, by the token behind the parts so far. Both are
-- parts of one kind, in braces with commas between or one alone, and what is shown of such parts is shown once.
use Rattle.std.proofs.Common.{◌≡◌, List, [], ◌∷◌, ◌++◌, ◌⊎◌, inl, inr, Bool, true, false, ℕ, refl, sym, subst, append_assoc, append-nil, arith}
use Rattle.pipe_lexer.specs.declared.symbol.Symbol.TheVariants as symbol
use Rattle.pipe_tree.specs.Bounds.{depth_of, row_depth}
use Rattle.pipe_reader.specs.Continuations.{Continuation, expression, ALabel, ARow, MoreParts, APattern, MoreNames, single_row, braced_row, single_pattern, braced_pattern}
use Rattle.pipe_tree.specs.Grammar.{Fixed, Then, Ends, AreParts, IsBraced, IsExpression, IsLabel}
use Rattle.pipe_tree.specs.Tokens.{What, Sym, Tok, tok}
use Rattle.pipe_tree.specs.Trees.{Formula, offset_of, Label, Row, Pattern, Text}
use Rattle.pipe_reader.proofs.Completion.{Part, Any, AreOthers, PartsWithinDepth, Completed}
use Rattle.pipe_reader.proofs.Phrases.{at_first, fixed_then, part_then}
use Rattle.exact_reader.proofs.Limited.{Limits, AtMost, at_most_left, at_most_right, at_most_max, at_most_small}

pub append_one : {A : Type 0} (xs : List A) (x : A) (ys : List A) → (xs ++ x ∷ []) ++ ys ≡ xs ++ x ∷ ys
append_one xs x ys = simp append_assoc

-- this token, and then
pub record Led (what : What) (then_holds : ℕ → List Tok → Type 0) (x : List Tok) : Type 0 where
  pub at : ℕ
  pub rest : List Tok
  pub is : x ≡ tok what at ∷ rest
  pub goes_on : then_holds at rest

-- whatever the offset of the token
abbrev pub AnyOffset : (List Tok → Type 0) → ℕ → List Tok → Type 0
AnyOffset holds at x = holds x

-- ---- parts of one kind

-- the phrase of a part, its offset and its limit; parts are within theirs where each of them is
record Parts (A : Type 0) : Type 1 where
  part_at : A → ℕ
  IsPart : A → List Tok → List Tok → Type 0
  fits : A → Type 0
  all_fit : List A → Type 0
  none_fit : all_fit []
  both_fit : (p : A) (ps : List A) → fits p → all_fit ps → all_fit (p ∷ ps)
  first_fits : (p : A) (ps : List A) → all_fit (p ∷ ps) → fits p
  others_fit : (p : A) (ps : List A) → all_fit (p ∷ ps) → all_fit ps

-- K holds of the braces, the offset and the parts of a whole, and of the tokens behind it
module _ {A : Type 0} (kind : Parts A) (K : Bool → ℕ → List A → List Tok → Type 0) where
  -- the whole, and then K
  record Whole (x : List Tok) : Type 0 where
    braces : Bool
    at : ℕ
    parts : List A
    rest : List Tok
    phrase : IsBraced kind.part_at kind.IsPart braces parts at x rest
    fit : kind.all_fit parts
    after : K braces at parts rest

  -- further parts behind these with the closing brace, and then K
  abbrev More : ℕ → List A → List Tok → Type 0
  More at ps x = Part (AreOthers kind.IsPart) kind.all_fit (λ more. K true at (ps ++ more)) x

  -- one part behind these, and then further ones
  abbrev PartMore : ℕ → List A → List Tok → Type 0
  PartMore at ps x = Part kind.IsPart kind.fits (λ p. More at (ps ++ p ∷ [])) x

  -- one part alone, and then K
  abbrev PartAlone : List Tok → Type 0
  PartAlone x = Part kind.IsPart kind.fits (λ p. K false (kind.part_at p) (p ∷ [])) x

  -- parts and the closing brace are the first and the others
  others_are : (p : A) (ps : List A) (x y r : List Tok) → AreParts kind.IsPart (p ∷ ps) x y → Fixed (Sym symbol.CloseBrace) (Ends r) y → Then (kind.IsPart p) (λ z. AreOthers kind.IsPart ps z r) x
  others_are p [] x y r h k = record { rest = y; phrase_is = h; goes_on = k }
  others_are p (q ∷ ps) x y r h k =
      let c = h.goes_on in
      record { rest = h.rest; phrase_is = h.phrase_is; goes_on = fixed_then c (others_are q ps c.rest y r c.goes_on k) }

  parts_are : (p : A) (ps : List A) (x y r : List Tok) → kind.IsPart p x y → AreOthers kind.IsPart ps y r → Then (AreParts kind.IsPart (p ∷ ps)) (Fixed (Sym symbol.CloseBrace) (Ends r)) x
  parts_are p [] x y r h k = record { rest = y; phrase_is = h; goes_on = k }
  parts_are p (q ∷ ps) x y r h k =
      let n = k.goes_on in
      let b = parts_are q ps k.rest n.rest r n.phrase_is n.goes_on in
      record { rest = b.rest; phrase_is = record { rest = y; phrase_is = h; goes_on = fixed_then k b.phrase_is }; goes_on = b.goes_on }

  opened : (at : ℕ) (ps : List A) (x r : List Tok) → Then (AreParts kind.IsPart ps) (Fixed (Sym symbol.CloseBrace) (Ends r)) x → kind.all_fit ps → K true at ps r → PartMore at [] x
  opened at [] x r h fit k = absurd h.phrase_is
  opened at (p ∷ ps) x r h fit k =
      let o = others_are p ps x h.rest r h.phrase_is h.goes_on in
      record {
        value = p;
        rest = o.rest;
        phrase = o.phrase_is;
        fit = kind.first_fits p ps fit;
        after = record { value = ps; rest = r; phrase = o.goes_on; fit = kind.others_fit p ps fit; after = k };
      }

  -- the whole begins with its brace, or it is one part
  whole_next : (braces : Bool) (at : ℕ) (ps : List A) (x r : List Tok) → IsBraced kind.part_at kind.IsPart braces ps at x r → kind.all_fit ps → K braces at ps r → Led (Sym symbol.OpenBrace) (λ p. PartMore p []) x ⊎ PartAlone x
  whole_next true at ps x r h fit k = inl (record { at = at; rest = h.rest; is = h.is; goes_on = opened at ps h.rest r h.goes_on fit k })
  whole_next false at [] x r h fit k = absurd h
  whole_next false at (p ∷ []) x r h fit k =
      inr (record { value = p; rest = r; phrase = h.1; fit = kind.first_fits p [] fit; after = subst (λ (n : ℕ). K false n (p ∷ []) r) h.0 k })
  whole_next false at (p ∷ q ∷ ps) x r h fit k = absurd h

  whole_opened : (at : ℕ) (x : List Tok) → PartMore at [] x → Whole (tok (Sym symbol.OpenBrace) at ∷ x)
  whole_opened at x h =
      let m = h.after in
      record {
        braces = true;
        at = at;
        parts = h.value ∷ m.value;
        rest = m.rest;
        phrase = at_first (parts_are h.value m.value x h.rest m.rest h.phrase m.phrase);
        fit = kind.both_fit h.value m.value h.fit m.fit;
        after = m.after;
      }

  whole_alone : (x : List Tok) → PartAlone x → Whole x
  whole_alone x h =
      record { braces = false; at = kind.part_at h.value; parts = h.value ∷ []; rest = h.rest; phrase = (refl, h.phrase); fit = kind.both_fit h.value [] h.fit kind.none_fit; after = h.after }

  -- further parts begin with a comma, or the closing brace is there
  more_next : (at : ℕ) (ps : List A) (x : List Tok) → More at ps x → Led (Sym symbol.Comma) (AnyOffset (PartMore at ps)) x ⊎ Led (Sym symbol.CloseBrace) (AnyOffset (K true at ps)) x
  more_next at ps x h = by_more h.value h.phrase h.fit h.after
    where
      by_more : (more : List A) → AreOthers kind.IsPart more x h.rest → kind.all_fit more → K true at (ps ++ more) h.rest
          → Led (Sym symbol.Comma) (AnyOffset (PartMore at ps)) x ⊎ Led (Sym symbol.CloseBrace) (AnyOffset (K true at ps)) x
      by_more [] o fit k =
          inr (record { at = o.at; rest = o.rest; is = o.is; goes_on = subst (λ (y : List Tok). K true at ps y) (sym o.goes_on) (subst (λ (qs : List A). K true at qs h.rest) (append-nil ps) k) })
      by_more (p ∷ more) o fit k =
          let n = o.goes_on in
          inl
          (record {
            at = o.at;
            rest = o.rest;
            is = o.is;
            goes_on = record {
              value = p;
              rest = n.rest;
              phrase = n.phrase_is;
              fit = kind.first_fits p more fit;
              after = record { value = more; rest = h.rest; phrase = n.goes_on; fit = kind.others_fit p more fit; after = subst (λ (qs : List A). K true at qs h.rest) (sym (append_one ps p more)) k };
            };
          })

  more_part : (at : ℕ) (ps : List A) (comma : ℕ) (x : List Tok) → PartMore at ps x → More at ps (tok (Sym symbol.Comma) comma ∷ x)
  more_part at ps comma x h =
      let m = h.after in
      record {
        value = h.value ∷ m.value;
        rest = m.rest;
        phrase = record { at = comma; rest = x; is = refl; goes_on = part_then h m.phrase };
        fit = kind.both_fit h.value m.value h.fit m.fit;
        after = subst (λ (qs : List A). K true at qs m.rest) (append_one ps h.value m.value) m.after;
      }

  more_closed : (at : ℕ) (ps : List A) (brace : ℕ) (x : List Tok) → K true at ps x → More at ps (tok (Sym symbol.CloseBrace) brace ∷ x)
  more_closed at ps brace x h =
      record {
        value = [];
        rest = x;
        phrase = record { at = brace; rest = x; is = refl; goes_on = refl };
        fit = kind.none_fit;
        after = subst (λ (qs : List A). K true at qs x) (sym (append-nil ps)) h;
      }

-- ---- rows

abbrev expressions : Limits → Parts Formula
expressions l = record {
  part_at = offset_of;
  IsPart = IsExpression;
  fits = λ e. AtMost l 200 (depth_of e);
  all_fit = PartsWithinDepth l;
  none_fit = at_most_small l 200 0 (omega arith);
  both_fit = λ e es a b. at_most_max l 200 (depth_of e) (row_depth es) a b;
  first_fits = λ e es h. at_most_left l 200 (depth_of e) (row_depth es) h;
  others_fit = λ e es h. at_most_right l 200 (depth_of e) (row_depth es) h;
}

abbrev RowThen : Limits → (Row → Continuation) → Text → Bool → ℕ → List Formula → List Tok → Type 0
RowThen l f tree braces at es x = Completed l (f (record { at = at; braces = braces; parts = es })) tree x

abbrev AnExpressionPart : Limits → (Formula → Continuation) → Text → List Tok → Type 0
AnExpressionPart l g tree x = Part IsExpression (λ e. AtMost l 200 (depth_of e)) (λ e. Completed l (g e) tree) x

-- an expression that is awaited is a part
part_of : (l : Limits) (g : Formula → Continuation) (tree : Text) (x : List Tok) → Completed l (expression g) tree x → AnExpressionPart l g tree x
part_of l g tree x h = record { value = h.tree; rest = h.rest; phrase = h.phrase; fit = h.after.0; after = h.after.1 }

expression_of : (l : Limits) (g : Formula → Continuation) (tree : Text) (x : List Tok) → AnExpressionPart l g tree x → Completed l (expression g) tree x
expression_of l g tree x h = record { tree = h.value; rest = h.rest; phrase = h.phrase; after = (h.fit, h.after) }

abbrev RowOpened : Limits → (Row → Continuation) → Text → ℕ → List Tok → Type 0
RowOpened l f tree at x = Completed l (expression (λ e. MoreParts at (e ∷ []) f)) tree x

abbrev PartsMore : Limits → ℕ → List Formula → (Row → Continuation) → Text → List Tok → Type 0
PartsMore l at es f tree x = Completed l (expression (λ e. MoreParts at (es ++ e ∷ []) f)) tree x

pub row_next : (l : Limits) (f : Row → Continuation) (tree : Text) (x : List Tok) → Completed l (ARow f) tree x
    → Led (Sym symbol.OpenBrace) (RowOpened l f tree) x ⊎ Completed l (expression (λ e. f (single_row e))) tree x
row_next l f tree x h =
    elim (whole_next (expressions l) (RowThen l f tree) h.value.braces h.value.at h.value.parts x h.rest h.phrase h.fit h.after) [
      | inl o ↦ inl (record { at = o.at; rest = o.rest; is = o.is; goes_on = expression_of l (λ e. MoreParts o.at (e ∷ []) f) tree o.rest o.goes_on })
      | inr s ↦ inr (expression_of l (λ e. f (single_row e)) tree x s)
    ]

row_of : (l : Limits) (f : Row → Continuation) (tree : Text) (x : List Tok) → Whole (expressions l) (RowThen l f tree) x → Completed l (ARow f) tree x
row_of l f tree x w = record { value = record { at = w.at; braces = w.braces; parts = w.parts }; rest = w.rest; phrase = w.phrase; fit = w.fit; after = w.after }

pub row_opened : (l : Limits) (f : Row → Continuation) (tree : Text) (at : ℕ) (x : List Tok) → RowOpened l f tree at x → Completed l (ARow f) tree (tok (Sym symbol.OpenBrace) at ∷ x)
row_opened l f tree at x h =
    row_of l f tree (tok (Sym symbol.OpenBrace) at ∷ x) (whole_opened (expressions l) (RowThen l f tree) at x (part_of l (λ e. MoreParts at (e ∷ []) f) tree x h))

pub row_single : (l : Limits) (f : Row → Continuation) (tree : Text) (x : List Tok) → Completed l (expression (λ e. f (single_row e))) tree x → Completed l (ARow f) tree x
row_single l f tree x h = row_of l f tree x (whole_alone (expressions l) (RowThen l f tree) x (part_of l (λ e. f (single_row e)) tree x h))

pub parts_next : (l : Limits) (at : ℕ) (es : List Formula) (f : Row → Continuation) (tree : Text) (x : List Tok) → Completed l (MoreParts at es f) tree x
    → Led (Sym symbol.Comma) (AnyOffset (PartsMore l at es f tree)) x ⊎ Led (Sym symbol.CloseBrace) (AnyOffset (Completed l (f (braced_row at es)) tree)) x
parts_next l at es f tree x h =
    elim (more_next (expressions l) (RowThen l f tree) at es x h) [
      | inl o ↦ inl (record { at = o.at; rest = o.rest; is = o.is; goes_on = expression_of l (λ e. MoreParts at (es ++ e ∷ []) f) tree o.rest o.goes_on })
      | inr o ↦ inr (record { at = o.at; rest = o.rest; is = o.is; goes_on = o.goes_on })
    ]

pub parts_more : (l : Limits) (at : ℕ) (es : List Formula) (f : Row → Continuation) (tree : Text) (p : ℕ) (x : List Tok) → PartsMore l at es f tree x → Completed l (MoreParts at es f) tree (tok (Sym symbol.Comma) p ∷ x)
parts_more l at es f tree p x h = more_part (expressions l) (RowThen l f tree) at es p x (part_of l (λ e. MoreParts at (es ++ e ∷ []) f) tree x h)

pub parts_closed : (l : Limits) (at : ℕ) (es : List Formula) (f : Row → Continuation) (tree : Text) (p : ℕ) (x : List Tok) → Completed l (f (braced_row at es)) tree x
    → Completed l (MoreParts at es f) tree (tok (Sym symbol.CloseBrace) p ∷ x)
parts_closed l at es f tree p x h = more_closed (expressions l) (RowThen l f tree) at es p x h

-- ---- patterns

abbrev names : Parts Label
names = record {
  part_at = λ (n : Label). n.at;
  IsPart = IsLabel;
  fits = Any;
  all_fit = Any;
  none_fit = tt;
  both_fit = λ n ns a b. tt;
  first_fits = λ n ns h. tt;
  others_fit = λ n ns h. tt;
}

abbrev PatternThen : Limits → (Pattern → Continuation) → Text → Bool → ℕ → List Label → List Tok → Type 0
PatternThen l f tree braces at ns x = Completed l (f (record { at = at; braces = braces; names = ns })) tree x

abbrev NamesOpened : Limits → (Pattern → Continuation) → Text → ℕ → List Tok → Type 0
NamesOpened l f tree at x = Completed l (ALabel (λ n. MoreNames at (n ∷ []) f)) tree x

abbrev NamesMore : Limits → ℕ → List Label → (Pattern → Continuation) → Text → List Tok → Type 0
NamesMore l at ns f tree x = Completed l (ALabel (λ n. MoreNames at (ns ++ n ∷ []) f)) tree x

pub pattern_next : (l : Limits) (f : Pattern → Continuation) (tree : Text) (x : List Tok) → Completed l (APattern f) tree x
    → Led (Sym symbol.OpenBrace) (NamesOpened l f tree) x ⊎ Completed l (ALabel (λ n. f (single_pattern n))) tree x
pattern_next l f tree x h = whole_next names (PatternThen l f tree) h.value.braces h.value.at h.value.names x h.rest h.phrase tt h.after

pattern_of : (l : Limits) (f : Pattern → Continuation) (tree : Text) (x : List Tok) → Whole names (PatternThen l f tree) x → Completed l (APattern f) tree x
pattern_of l f tree x w = record { value = record { at = w.at; braces = w.braces; names = w.parts }; rest = w.rest; phrase = w.phrase; fit = tt; after = w.after }

pub pattern_opened : (l : Limits) (f : Pattern → Continuation) (tree : Text) (at : ℕ) (x : List Tok) → NamesOpened l f tree at x → Completed l (APattern f) tree (tok (Sym symbol.OpenBrace) at ∷ x)
pattern_opened l f tree at x h = pattern_of l f tree (tok (Sym symbol.OpenBrace) at ∷ x) (whole_opened names (PatternThen l f tree) at x h)

pub pattern_single : (l : Limits) (f : Pattern → Continuation) (tree : Text) (x : List Tok) → Completed l (ALabel (λ n. f (single_pattern n))) tree x → Completed l (APattern f) tree x
pattern_single l f tree x h = pattern_of l f tree x (whole_alone names (PatternThen l f tree) x h)

pub names_next : (l : Limits) (at : ℕ) (ns : List Label) (f : Pattern → Continuation) (tree : Text) (x : List Tok) → Completed l (MoreNames at ns f) tree x
    → Led (Sym symbol.Comma) (AnyOffset (NamesMore l at ns f tree)) x ⊎ Led (Sym symbol.CloseBrace) (AnyOffset (Completed l (f (braced_pattern at ns)) tree)) x
names_next l at ns f tree x h = more_next names (PatternThen l f tree) at ns x h

pub names_more : (l : Limits) (at : ℕ) (ns : List Label) (f : Pattern → Continuation) (tree : Text) (p : ℕ) (x : List Tok) → NamesMore l at ns f tree x → Completed l (MoreNames at ns f) tree (tok (Sym symbol.Comma) p ∷ x)
names_more l at ns f tree p x h = more_part names (PatternThen l f tree) at ns p x h

pub names_closed : (l : Limits) (at : ℕ) (ns : List Label) (f : Pattern → Continuation) (tree : Text) (p : ℕ) (x : List Tok) → Completed l (f (braced_pattern at ns)) tree x
    → Completed l (MoreNames at ns f) tree (tok (Sym symbol.CloseBrace) p ∷ x)
names_closed l at ns f tree p x h = more_closed names (PatternThen l f tree) at ns p x h
