-- The forms of the grammar: phrases of a form complete what follows its keyword, and what completes this
-- is, with the keyword, a phrase of the form.
use Rattle.std.proofs.Common.{◌≡◌, ℕ, suc, ◌≤◌, ◌+◌, max, List, ◌∷◌, refl, sym, subst, arith}
use Rattle.pipe_lexer.specs.declared.keyword.Keyword.TheVariants as key
use Rattle.pipe_lexer.specs.declared.operator.InputKind.{InputKind}
use Rattle.pipe_lexer.specs.declared.symbol.Symbol.TheVariants as symbol
use Rattle.pipe_tree.specs.Bounds.{depth_of, row_depth, stream_depth, stream_nesting, stages_nesting, stage_nesting, source_nesting}
use Rattle.pipe_reader.specs.Continuations.{Continuation, ASeparator, ALabel, AKind, ARow, APattern, AStream, expression, folding, source_form, stage_form, terminal_form, declaration_form}
use Rattle.pipe_reader.specs.declared.forms.SourceForm.{SourceForm}
use Rattle.pipe_reader.specs.declared.forms.StageForm.{StageForm}
use Rattle.pipe_reader.specs.declared.forms.TerminalForm.{TerminalForm}
use Rattle.pipe_reader.specs.declared.forms.SourceForm.TheVariants.{Array as ArrayForm, Range as RangeForm, Unfold as UnfoldForm, Zip as ZipForm}
use Rattle.pipe_reader.specs.declared.forms.StageForm.TheVariants.{Map as MapForm, Filter as FilterForm, TakeWhile as TakeWhileForm, Take as TakeForm, Drop as DropForm, Scan as ScanForm, FlatMap as FlatMapForm}
use Rattle.pipe_reader.specs.declared.forms.TerminalForm.TheVariants.{Fold as FoldForm, Print as PrintForm}
use Rattle.pipe_tree.specs.Grammar.{At, Fixed, Then, Ends, Phrase, IsLabel, IsRow, IsPattern, IsFolding, IsStream, IsSource, IsStage, IsTerminal, kind_key}
use Rattle.pipe_reader.specs.declared.separator.Separator.TheVariants.{With, While, Yield, Next, Arrow, OpenParen, CloseParen, Comma, Colon, Semicolon}
use Rattle.pipe_tree.specs.Tokens.{What, Key, Sym, Tok, tok}
use Rattle.pipe_tree.specs.Trees.{Formula, Label, Row, Pattern, Stream, From, Source, Array, Range, Unfold, Zip, Stage, Map, Filter, TakeWhile, Take, Drop, Scan, FlatMap, Stages, Nil, Cons, Terminal, Fold, Print, Declaration, Text}
use Rattle.pipe_reader.proofs.Completion.{Part, RowWithinDepth, SourceWithinDepth, StageWithinDepth, StreamWithinDepth, source_depth, stage_depth, TerminalWithinDepth, Closing, Completed}
use Rattle.pipe_reader.proofs.Phrases.{at_first, fixed_then, part_then, kind_then, operand_then}
use Rattle.pipe_reader.proofs.TokenClasses.{source_keyword, stage_keyword, terminal_keyword}
use Rattle.exact_reader.proofs.Limited.{Limits, AtMost, at_most_less, at_most_small, at_most_max, at_most_left, at_most_right, nested_max, nested_left, nested_right, nested_in, nested_out}

-- where this holds of tokens, that holds of them
abbrev Implies : (List Tok → Type 0) → (List Tok → Type 0) → Type 0
Implies P Q = (y : List Tok) → P y → Q y

fixed : {w : What} {P Q : List Tok → Type 0} → Implies P Q → Implies (Fixed w P) (Fixed w Q)
fixed f y h = record { at = h.at; rest = h.rest; is = h.is; goes_on = f h.rest h.goes_on }

pub one_more : (n : ℕ) → n + 1 ≡ suc n
one_more n = omega arith

-- a stream that stands in another ends with what follows it
pub closing_in : (around : ℕ) (K : List Tok → Type 0) (x : List Tok) → K x → Closing (around + 1) K x
closing_in around K x h = subst (λ (n : ℕ). Closing n K x) (sym (one_more around)) h

pub closing_out : (around : ℕ) (K : List Tok → Type 0) (x : List Tok) → Closing (around + 1) K x → K x
closing_out around K x h = subst (λ (n : ℕ). Closing n K x) (one_more around) h

-- each stream is nested
pub stages_one : (ss : Stages) → 1 ≤ stages_nesting ss
stages_one Nil = omega arith
stages_one (Cons s ss) = omega (arith, stages_one ss)

pub stream_one : (s : Stream) → 1 ≤ stream_nesting s
stream_one (From at source stages) = omega (arith, stages_one stages)

zip_nests : (l : Limits) (around : ℕ) (s : Stream) → AtMost l 16 (around + 1 + stream_nesting s) → AtMost l 16 (around + 2)
zip_nests l around s h = at_most_less l 16 (around + 2) (around + 1 + stream_nesting s) (omega (arith, stream_one s)) h

module _ (l : Limits) (tree : Text) where
  -- ---- parts of forms, forward

  ends : (c : Continuation) (r : List Tok) → Completed l c tree r → Implies (Ends r) (Completed l c tree)
  ends c r k y e = subst (λ (z : List Tok). Completed l c tree z) (sym e) k

  expr : (f : Formula → Continuation) (e : Formula) {P : List Tok → Type 0} → AtMost l 200 (depth_of e) → Implies P (Completed l (f e) tree) → Implies (Then (Phrase e 0) P) (Completed l (expression f) tree)
  expr f e fit k y h = record { tree = e; rest = h.rest; phrase = h.phrase_is; after = (fit, k h.rest h.goes_on) }

  last_expr : (f : Formula → Continuation) (e : Formula) (r : List Tok) → AtMost l 200 (depth_of e) → Completed l (f e) tree r → Implies (λ y. Phrase e 0 y r) (Completed l (expression f) tree)
  last_expr f e r fit k y h = record { tree = e; rest = r; phrase = h; after = (fit, k) }

  row : (f : Row → Continuation) (v : Row) {P : List Tok → Type 0} → RowWithinDepth l v → Implies P (Completed l (f v) tree) → Implies (Then (IsRow v) P) (Completed l (ARow f) tree)
  row f v fit k y h = record { value = v; rest = h.rest; phrase = h.phrase_is; fit = fit; after = k h.rest h.goes_on }

  last_row : (f : Row → Continuation) (v : Row) (r : List Tok) → RowWithinDepth l v → Completed l (f v) tree r → Implies (λ y. IsRow v y r) (Completed l (ARow f) tree)
  last_row f v r fit k y h = record { value = v; rest = r; phrase = h; fit = fit; after = k }

  pattern : (f : Pattern → Continuation) (p : Pattern) {P : List Tok → Type 0} → Implies P (Completed l (f p) tree) → Implies (Then (IsPattern p) P) (Completed l (APattern f) tree)
  pattern f p k y h = record { value = p; rest = h.rest; phrase = h.phrase_is; fit = tt; after = k h.rest h.goes_on }

  label : (f : Label → Continuation) (n : Label) {P : List Tok → Type 0} → Implies P (Completed l (f n) tree) → Implies (Then (IsLabel n) P) (Completed l (ALabel f) tree)
  label f n k y h = record { value = n; rest = h.rest; phrase = h.phrase_is; fit = tt; after = k h.rest h.goes_on }

  kind : (f : InputKind → Continuation) (i : InputKind) {P : List Tok → Type 0} → Implies P (Completed l (f i) tree) → Implies (Fixed (Key (kind_key i)) P) (Completed l (AKind f) tree)
  kind f i k y h = record { value = i; rest = h.rest; phrase = record { at = h.at; rest = h.rest; is = h.is; goes_on = refl }; fit = tt; after = k h.rest h.goes_on }

  -- a stream that stands in another
  stream : (around : ℕ) (f : Stream → Continuation) (s : Stream) {P : List Tok → Type 0} → StreamWithinDepth l (around + 1) s → Implies P (Completed l (f s) tree) → Implies (Then (IsStream s) P) (Completed l (AStream (around + 1) f) tree)
  stream around f s fit k y h =
      record { value = s; rest = h.rest; phrase = h.phrase_is; fit = fit; after = closing_in around (Completed l (f s) tree) h.rest (k h.rest h.goes_on) }

  fold_forward : (f : Row → Pattern → Pattern → Row → Continuation) (seed : Row) (state p : Pattern) (next : Row) (r : List Tok) → AtMost l 200 (max (row_depth seed.parts) (row_depth next.parts)) → Completed l (f seed state p next) tree r
      → Implies (λ y. IsFolding seed state p next y r) (Completed l (folding f) tree)
  fold_forward f seed state p next r fit k =
      row (λ seed. ASeparator With (APattern (λ state. APattern (λ p. ASeparator Arrow (ARow (λ next. f seed state p next)))))) seed (at_most_left l 200 _ _ fit)
      (fixed (pattern (λ state. APattern (λ p. ASeparator Arrow (ARow (λ next. f seed state p next)))) state (pattern (λ p. ASeparator Arrow (ARow (λ next. f seed state p next))) p
      (fixed (last_row (λ next. f seed state p next) next r (at_most_right l 200 _ _ fit) k)))))

  -- ---- forms, forward

  pub record Begun {Form : Type 0} (keyword : Form → What) (at : ℕ) (then_holds : Form → List Tok → Type 0) (x : List Tok) : Type 0 where
    pub form : Form
    pub rest : List Tok
    pub is : x ≡ tok (keyword form) at ∷ rest
    pub goes_on : then_holds form rest

  begun : {Form : Type 0} {keyword : Form → What} {at : ℕ} {K : Form → List Tok → Type 0} {P : List Tok → Type 0} {x : List Tok} (form : Form) → Implies P (K form) → At (keyword form) at P x → Begun keyword at K x
  begun form f h = record { form = form; rest = h.rest; is = h.is; goes_on = f h.rest h.goes_on }

  pub source_forward : (around : ℕ) (f : Source → Continuation) (so : Source) (at : ℕ) (x r : List Tok) → SourceWithinDepth l around so → Completed l (f so) tree r → IsSource so at x r
      → Begun source_keyword at (λ form. Completed l (source_form form around f) tree) x
  source_forward around f (Array n) at x r fit k h =
      begun ArrayForm (λ y p. record { value = n; rest = r; phrase = p; fit = tt; after = k }) h
  source_forward around f (Range a b) at x r fit k h =
      begun RangeForm (fixed (expr (λ a. ASeparator Comma (expression (λ b. ASeparator CloseParen (f (Range a b))))) a (at_most_left l 200 _ _ fit.0)
      (fixed (expr (λ b. ASeparator CloseParen (f (Range a b))) b (at_most_right l 200 _ _ fit.0) (fixed (ends (f (Range a b)) r k)))))) h
  source_forward around f (Unfold seed p guard item next) at x r fit k h =
      let d = at_most_right l 200 (row_depth seed.parts) _ fit.0 in
      let e = at_most_right l 200 (depth_of guard) _ d in
      begun UnfoldForm
      (row (λ seed. ASeparator With (APattern (λ p. ASeparator While (expression (λ guard. ASeparator Yield (ARow (λ item. ASeparator Next (ARow (λ next. f (Unfold seed p guard item next)))))))))) seed (at_most_left l 200 _ _ fit.0)
      (fixed (pattern (λ p. ASeparator While (expression (λ guard. ASeparator Yield (ARow (λ item. ASeparator Next (ARow (λ next. f (Unfold seed p guard item next)))))))) p
      (fixed (expr (λ guard. ASeparator Yield (ARow (λ item. ASeparator Next (ARow (λ next. f (Unfold seed p guard item next)))))) guard (at_most_left l 200 _ _ d)
      (fixed (row (λ item. ASeparator Next (ARow (λ next. f (Unfold seed p guard item next)))) item (at_most_left l 200 _ _ e)
      (fixed (last_row (λ next. f (Unfold seed p guard item next)) next r (at_most_right l 200 _ _ e) k))))))))) h
  source_forward around f (Zip a b) at x r fit k h =
      let n = nested_in l 16 around _ fit.1 in
      let left = nested_left l 16 (around + 1) (stream_nesting a) (stream_nesting b) n in
      let right = nested_right l 16 (around + 1) (stream_nesting a) (stream_nesting b) n in
      begun ZipForm (λ y p. (
        zip_nests l around a left,
        fixed (stream around (λ a. ASeparator Comma (AStream (around + 1) (λ b. ASeparator CloseParen (f (Zip a b))))) a (at_most_left l 200 _ _ fit.0, left)
            (fixed (stream around (λ b. ASeparator CloseParen (f (Zip a b))) b (at_most_right l 200 _ _ fit.0, right) (fixed (ends (f (Zip a b)) r k))))) y p,
      )) h

  pub stage_forward : (around : ℕ) (f : Stage → Continuation) (s : Stage) (x r : List Tok) → StageWithinDepth l around s → Completed l (f s) tree r → IsStage s x r
      → (at : ℕ) × Begun stage_keyword at (λ form. Completed l (stage_form form at around f) tree) x
  stage_forward around f (Map at p body) x r fit k h =
      (at, begun MapForm (pattern (λ p. ASeparator Arrow (ARow (λ body. f (Map at p body)))) p (fixed (last_row (λ body. f (Map at p body)) body r fit.0 k))) h)
  stage_forward around f (Filter at p e) x r fit k h =
      (at, begun FilterForm (pattern (λ p. ASeparator Arrow (expression (λ e. f (Filter at p e)))) p (fixed (last_expr (λ e. f (Filter at p e)) e r fit.0 k))) h)
  stage_forward around f (TakeWhile at p e) x r fit k h =
      (at, begun TakeWhileForm (pattern (λ p. ASeparator Arrow (expression (λ e. f (TakeWhile at p e)))) p (fixed (last_expr (λ e. f (TakeWhile at p e)) e r fit.0 k))) h)
  stage_forward around f (Take at e) x r fit k h = (at, begun TakeForm (last_expr (λ e. f (Take at e)) e r fit.0 k) h)
  stage_forward around f (Drop at e) x r fit k h = (at, begun DropForm (last_expr (λ e. f (Drop at e)) e r fit.0 k) h)
  stage_forward around f (Scan at seed state p next) x r fit k h =
      (at, begun ScanForm (fold_forward (λ seed state p next. f (Scan at seed state p next)) seed state p next r fit.0 k) h)
  stage_forward around f (FlatMap at p s) x r fit k h =
      let n = nested_in l 16 around (stream_nesting s) fit.1 in (
        at,
        begun FlatMapForm (λ y q. (
          zip_nests l around s n,
          pattern (λ p. ASeparator Arrow (ASeparator OpenParen (AStream (around + 1) (λ s. ASeparator CloseParen (f (FlatMap at p s)))))) p
              (fixed (fixed (stream around (λ s. ASeparator CloseParen (f (FlatMap at p s))) s (fit.0, n) (fixed (ends (f (FlatMap at p s)) r k))))) y q,
        )) h,
      )

  pub terminal_forward : (f : Terminal → Continuation) (t : Terminal) (at : ℕ) (x r : List Tok) → TerminalWithinDepth l (at, t) → Completed l (f t) tree r → IsTerminal t at x r
      → Begun terminal_keyword at (λ form. Completed l (terminal_form form f) tree) x
  terminal_forward f (Fold seed state p next) at x r fit k h =
      begun FoldForm (fold_forward (λ seed state p next. f (Fold seed state p next)) seed state p next r fit k) h
  terminal_forward f Print at x r fit k h = begun PrintForm (ends (f Print) r k) h

  pub declaration_forward : (f : Declaration → Continuation) (d : Declaration) {P : List Tok → Type 0} (x : List Tok) → Implies P (Completed l (f d) tree)
      → At (Key key.Input) d.at (Then (IsLabel d.name) (Fixed (Sym symbol.Colon) (Fixed (Key (kind_key d.kind)) (Fixed (Sym symbol.Semicolon) P)))) x
      → (rest : List Tok) × ((x ≡ tok (Key key.Input) d.at ∷ rest) × Completed l (declaration_form d.at f) tree rest)
  declaration_forward f d x k h = (
    h.rest,
    (
      h.is,
      label (λ n. ASeparator Colon (AKind (λ kind. ASeparator Semicolon (f (record { at = d.at; name = n; kind = kind }))))) d.name
          (fixed (kind (λ kind. ASeparator Semicolon (f (record { at = d.at; name = d.name; kind = kind }))) d.kind (fixed k))) h.rest h.goes_on,
    ),
  )

  -- ---- forms, back

  -- the nesting of a form whose stream is nested within the limit
  abbrev SourceIs : ℕ → (Source → Continuation) → ℕ → List Tok → Type 0
  SourceIs around f at x = Part (λ so y r. IsSource so at y r) (λ so. AtMost l 200 (source_depth so) × (AtMost l 16 (around + 1) → AtMost l 16 (around + source_nesting so))) (λ so. Completed l (f so) tree) x

  abbrev StageIs : ℕ → (Stage → Continuation) → List Tok → Type 0
  StageIs around f x = Part IsStage (λ s. AtMost l 200 (stage_depth s) × (AtMost l 16 (around + 1) → AtMost l 16 (around + stage_nesting s))) (λ s. Completed l (f s) tree) x

  abbrev TerminalIs : (Terminal → Continuation) → ℕ → List Tok → Type 0
  TerminalIs f at x = Part (λ t y r. IsTerminal t at y r) (λ t. TerminalWithinDepth l (at, t)) (λ t. Completed l (f t) tree) x

  pub source_back : (form : SourceForm) (around : ℕ) (f : Source → Continuation) (at : ℕ) (x : List Tok) → Completed l (source_form form around f) tree x → SourceIs around f at (tok (source_keyword form) at ∷ x)
  source_back ArrayForm around f at x h =
      record { value = Array h.value; rest = h.rest; phrase = at_first h.phrase; fit = (at_most_small l 200 0 (omega arith), λ i. i); after = h.after }
  source_back RangeForm around f at x h =
      let a = h.goes_on in
      let c = a.after.1 in
      let b = c.goes_on in
      let d = b.after.1 in
      record {
        value = Range a.tree b.tree;
        rest = d.rest;
        phrase = at_first (fixed_then h (operand_then a (fixed_then c (operand_then b (fixed_then d refl)))));
        fit = (at_most_max l 200 (depth_of a.tree) (depth_of b.tree) a.after.0 b.after.0, λ i. i);
        after = d.goes_on;
      }
  source_back UnfoldForm around f at x h =
      let w = h.after in
      let p = w.goes_on in
      let wh = p.after in
      let g = wh.goes_on in
      let y = g.after.1 in
      let i = y.goes_on in
      let ne = i.after in
      let n = ne.goes_on in
      record {
        value = Unfold h.value p.value g.tree i.value n.value;
        rest = n.rest;
        phrase = at_first (part_then h (fixed_then w (part_then p (fixed_then wh (operand_then g (fixed_then y (part_then i (fixed_then ne n.phrase))))))));
        fit = (
          at_most_max l 200 (row_depth h.value.parts) (max (depth_of g.tree) (max (row_depth i.value.parts) (row_depth n.value.parts))) h.fit
              (at_most_max l 200 (depth_of g.tree) (max (row_depth i.value.parts) (row_depth n.value.parts)) g.after.0 (at_most_max l 200 (row_depth i.value.parts) (row_depth n.value.parts) i.fit n.fit)),
          λ j. j,
        );
        after = n.after;
      }
  source_back ZipForm around f at x h =
      let o = h.1 in
      let a = o.goes_on in
      let c = closing_out around (Completed l (ASeparator Comma (AStream (around + 1) (λ b. ASeparator CloseParen (f (Zip a.value b))))) tree) a.rest a.after in
      let b = c.goes_on in
      let d = closing_out around (Completed l (ASeparator CloseParen (f (Zip a.value b.value))) tree) b.rest b.after in
      record {
        value = Zip a.value b.value;
        rest = d.rest;
        phrase = at_first (fixed_then o (part_then a (fixed_then c (part_then b (fixed_then d refl)))));
        fit = (
          at_most_max l 200 (stream_depth a.value) (stream_depth b.value) a.fit.0 b.fit.0,
          λ i. nested_out l 16 around (max (stream_nesting a.value) (stream_nesting b.value)) (nested_max l 16 (around + 1) (stream_nesting a.value) (stream_nesting b.value) a.fit.1 b.fit.1),
        );
        after = d.goes_on;
      }

  -- what follows `scan` and `fold`
  record FoldIs (f : Row → Pattern → Pattern → Row → Continuation) (x : List Tok) : Type 0 where
    pub seed : Row
    pub state : Pattern
    pub pat : Pattern
    pub next : Row
    pub rest : List Tok
    pub phrase : IsFolding seed state pat next x rest
    pub fit : AtMost l 200 (max (row_depth seed.parts) (row_depth next.parts))
    pub after : Completed l (f seed state pat next) tree rest

  fold_back : (f : Row → Pattern → Pattern → Row → Continuation) (x : List Tok) → Completed l (folding f) tree x → FoldIs f x
  fold_back f x h =
      let w = h.after in
      let s = w.goes_on in
      let p = s.after in
      let a = p.after in
      let n = a.goes_on in
      record {
        seed = h.value;
        state = s.value;
        pat = p.value;
        next = n.value;
        rest = n.rest;
        phrase = part_then h (fixed_then w (part_then s (part_then p (fixed_then a n.phrase))));
        fit = at_most_max l 200 (row_depth h.value.parts) (row_depth n.value.parts) h.fit n.fit;
        after = n.after;
      }

  pub stage_back : (form : StageForm) (at around : ℕ) (f : Stage → Continuation) (x : List Tok) → Completed l (stage_form form at around f) tree x → StageIs around f (tok (stage_keyword form) at ∷ x)
  stage_back MapForm at around f x h =
      let a = h.after in
      let b = a.goes_on in
      record {
        value = Map at h.value b.value;
        rest = b.rest;
        phrase = at_first (part_then h (fixed_then a b.phrase));
        fit = (b.fit, λ i. i);
        after = b.after;
      }
  stage_back FilterForm at around f x h =
      let a = h.after in
      let b = a.goes_on in
      record { value = Filter at h.value b.tree; rest = b.rest; phrase = at_first (part_then h (fixed_then a b.phrase)); fit = (b.after.0, λ i. i); after = b.after.1 }
  stage_back TakeWhileForm at around f x h =
      let a = h.after in
      let b = a.goes_on in
      record { value = TakeWhile at h.value b.tree; rest = b.rest; phrase = at_first (part_then h (fixed_then a b.phrase)); fit = (b.after.0, λ i. i); after = b.after.1 }
  stage_back TakeForm at around f x h =
      record { value = Take at h.tree; rest = h.rest; phrase = at_first h.phrase; fit = (h.after.0, λ i. i); after = h.after.1 }
  stage_back DropForm at around f x h =
      record { value = Drop at h.tree; rest = h.rest; phrase = at_first h.phrase; fit = (h.after.0, λ i. i); after = h.after.1 }
  stage_back ScanForm at around f x h =
      let b = fold_back (λ seed state p next. f (Scan at seed state p next)) x h in
      record {
        value = Scan at b.seed b.state b.pat b.next;
        rest = b.rest;
        phrase = at_first b.phrase;
        fit = (b.fit, λ i. i);
        after = b.after;
      }
  stage_back FlatMapForm at around f x h =
      let q = h.1 in
      let a = q.after in
      let o = a.goes_on in
      let s = o.goes_on in
      let d = closing_out around (Completed l (ASeparator CloseParen (f (FlatMap at q.value s.value))) tree) s.rest s.after in
      record {
        value = FlatMap at q.value s.value;
        rest = d.rest;
        phrase = at_first (part_then q (fixed_then a (fixed_then o (part_then s (fixed_then d refl)))));
        fit = (s.fit.0, λ i. nested_out l 16 around (stream_nesting s.value) s.fit.1);
        after = d.goes_on;
      }

  pub terminal_back : (form : TerminalForm) (f : Terminal → Continuation) (at : ℕ) (x : List Tok) → Completed l (terminal_form form f) tree x → TerminalIs f at (tok (terminal_keyword form) at ∷ x)
  terminal_back FoldForm f at x h =
      let b = fold_back (λ seed state p next. f (Fold seed state p next)) x h in
      record { value = Fold b.seed b.state b.pat b.next; rest = b.rest; phrase = at_first b.phrase; fit = b.fit; after = b.after }
  terminal_back PrintForm f at x h =
      record { value = Print; rest = x; phrase = at_first refl; fit = at_most_small l 200 0 (omega arith); after = h }

  -- a declaration behind its keyword
  pub record DeclarationIs (f : Declaration → Continuation) (at : ℕ) (x : List Tok) : Type 0 where
    pub value : Declaration
    pub offset : value.at ≡ at
    pub rest : List Tok
    pub phrase : Then (IsLabel value.name) (Fixed (Sym symbol.Colon) (Fixed (Key (kind_key value.kind)) (Fixed (Sym symbol.Semicolon) (Ends rest)))) x
    pub after : Completed l (f value) tree rest

  pub declaration_back : (f : Declaration → Continuation) (at : ℕ) (x : List Tok) → Completed l (declaration_form at f) tree x → DeclarationIs f at x
  declaration_back f at x h =
      let c = h.after in
      let k = c.goes_on in
      let m = k.after in
      record {
        value = record { at = at; name = h.value; kind = k.value };
        offset = refl;
        rest = m.rest;
        phrase = part_then h (fixed_then c (kind_then k (fixed_then m refl)));
        after = m.goes_on;
      }
