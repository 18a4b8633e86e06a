-- The tokens of a phrase are, but for offsets, those of its tree and then what is left.
use Rattle.std.proofs.Common.{◌≡◌, ℕ, List, [], ◌∷◌, ◌++◌, Bool, true, false, ap, ◌∙◌, append_assoc, append-nil}
use Rattle.pipe_tree.specs.Tokens.{What, Tok}
use Rattle.pipe_tree.specs.Trees.{Formula, offset_of, Num, Truth, Name, Len, Neg, Not, Paren, Bin, And, Or, If, Label, Row, Pattern, Stream, From, Source, Array, Range, Unfold, Zip, Stage, Map, Filter, TakeWhile, Take, Drop, Scan, FlatMap, Stages, Nil, Cons, Terminal, Fold, Print, Declaration, Text}
use Rattle.pipe_tree.specs.Operators.{left_precedence, right_precedence}
use Rattle.pipe_tree.specs.Grammar.{At, Fixed, Then, Phrase, AreParts, IsSingle, IsBraced, IsExpression, IsRow, IsLabel, IsPattern, IsFolding, IsStream, IsSource, AreStages, IsStage, IsTerminal, AreDeclared, IsSentence}
use Rattle.pipe_printer.specs.Printing.{formula_tokens, parts_tokens, braced_tokens, row_tokens, label_tokens, pattern_tokens, folding_tokens, stream_tokens, source_tokens, stages_tokens, stage_tokens, terminal_tokens, declarations_tokens, tree_tokens}
use Rattle.pipe_printer.specs.TreeTokens.{contents_of}

-- tokens of which this holds are these, but for offsets
abbrev HasContents : (List Tok → Type 0) → List What → Type 0
HasContents holds out = (y : List Tok) → holds y → contents_of y ≡ out

-- a phrase is these tokens, but for offsets
abbrev PhraseHasContents : (List Tok → List Tok → Type 0) → List What → Type 0
PhraseHasContents phrase ws = (y z : List Tok) → phrase y z → contents_of y ≡ ws ++ contents_of z

ends : (r : List Tok) → HasContents (λ y. y ≡ r) (contents_of r)
ends r y e = ap contents_of e

at_contents : {what : What} {at : ℕ} {P : List Tok → Type 0} {x : List Tok} (out : List What) → At what at P x → HasContents P out → contents_of x ≡ what ∷ out
at_contents {what} out h k = ap contents_of h.is ∙ ap (λ ws. what ∷ ws) (k h.rest h.goes_on)

fixed_contents : {what : What} {P : List Tok → Type 0} (out : List What) → HasContents P out → HasContents (Fixed what P) (what ∷ out)
fixed_contents {what} out k x h = ap contents_of h.is ∙ ap (λ ws. what ∷ ws) (k h.rest h.goes_on)

then_contents : {phrase : List Tok → List Tok → Type 0} {P : List Tok → Type 0} (ws out : List What) → PhraseHasContents phrase ws → HasContents P out → HasContents (Then phrase P) (ws ++ out)
then_contents ws out p k x h = p x h.rest h.phrase_is ∙ ap (λ vs. ws ++ vs) (k h.rest h.goes_on)

formula_contents : (e : Formula) (l : ℕ) → PhraseHasContents (Phrase e l) (formula_tokens e)
formula_contents (Num at w) l x r h = at_contents _ h (ends r)
formula_contents (Truth at b) l x r h = at_contents _ h (ends r)
formula_contents (Name at n) l x r h = at_contents _ h (ends r)
formula_contents (Len at q n) l x r h =
    at_contents _ h (fixed_contents _ (λ y k. at_contents _ k (fixed_contents _ (ends r))))
formula_contents (Neg at a) l x r h = at_contents _ h.1 (λ y k. formula_contents a 6 y r k)
formula_contents (Not at a) l x r h = at_contents _ h.1 (λ y k. formula_contents a 6 y r k)
formula_contents (Paren at a) l x r h = simp append_assoc (at_contents _ h (then_contents _ _ (formula_contents a 0) (fixed_contents _ (ends r))))
formula_contents (Bin at op q a b) l x r h =
    simp append_assoc (then_contents _ _ (formula_contents a (left_precedence op)) (λ y k. at_contents _ k (λ z m. formula_contents b (right_precedence op) z r m)) x h.2)
formula_contents (And at q a b) l x r h =
    simp append_assoc (then_contents _ _ (formula_contents a 2) (λ y k. at_contents _ k (λ z m. formula_contents b 3 z r m)) x h.2)
formula_contents (Or at q a b) l x r h =
    simp append_assoc (then_contents _ _ (formula_contents a 1) (λ y k. at_contents _ k (λ z m. formula_contents b 2 z r m)) x h.2)
formula_contents (If at c a b) l x r h =
    simp append_assoc (at_contents _ h.1 (then_contents _ _ (formula_contents c 0) (fixed_contents _ (then_contents _ _ (formula_contents a 0) (fixed_contents _ (λ y k. formula_contents b 0 y r k))))))

label_contents : (n : Label) → PhraseHasContents (IsLabel n) (label_tokens n)
label_contents n x r h = at_contents _ h (ends r)

-- parts of which each is its own tokens, in braces or one alone
module _ {A : Type 0} (part_at : A → ℕ) (IsPart : A → List Tok → List Tok → Type 0) (part_tokens : A → List What)
    (part_contents : (p : A) → PhraseHasContents (IsPart p) (part_tokens p)) where
  parts_contents : (ps : List A) → PhraseHasContents (AreParts IsPart ps) (parts_tokens part_tokens ps)
  parts_contents [] x r h = absurd h
  parts_contents (p ∷ []) x r h = simp append-nil (part_contents p x r h)
  parts_contents (p ∷ q ∷ ps) x r h =
      simp append_assoc (simp append_assoc at (then_contents _ _ (part_contents p) (fixed_contents _ (λ y k. parts_contents (q ∷ ps) y r k)) x h))

  single_contents : (ps : List A) (at : ℕ) → PhraseHasContents (IsSingle part_at IsPart ps at) (parts_tokens part_tokens ps)
  single_contents [] at x r h = absurd h
  single_contents (p ∷ []) at x r h = simp append-nil (part_contents p x r h.1)
  single_contents (p ∷ q ∷ ps) at x r h = absurd h

  braced_contents : (braces : Bool) (ps : List A) (at : ℕ) → PhraseHasContents (IsBraced part_at IsPart braces ps at) (braced_tokens braces (parts_tokens part_tokens ps))
  braced_contents false ps at x r h = single_contents ps at x r h
  braced_contents true ps at x r h = simp append_assoc (at_contents _ h (then_contents _ _ (parts_contents ps) (fixed_contents _ (ends r))))

row_contents : (row : Row) → PhraseHasContents (IsRow row) (row_tokens row)
row_contents row = braced_contents offset_of IsExpression formula_tokens (λ e. formula_contents e 0) row.braces row.parts row.at

pattern_contents : (p : Pattern) → PhraseHasContents (IsPattern p) (pattern_tokens p)
pattern_contents p = braced_contents (λ (n : Label). n.at) IsLabel label_tokens label_contents p.braces p.names p.at

folding_contents : (seed : Row) (state pat : Pattern) (next : Row) → PhraseHasContents (IsFolding seed state pat next) (folding_tokens seed state pat next)
folding_contents seed state pat next x r h =
    simp append_assoc
    (then_contents _ _ (row_contents seed) (fixed_contents _ (then_contents _ _ (pattern_contents state) (then_contents _ _ (pattern_contents pat) (fixed_contents _ (λ y k. row_contents next y r k))))) x h)

mutual
  stream_contents : (s : Stream) → PhraseHasContents (IsStream s) (stream_tokens s)
  stream_contents (From at source stages) x r h =
      simp append_assoc (then_contents _ _ (source_contents source at) (λ y k. stages_contents stages y r k) x h)

  source_contents : (s : Source) (at : ℕ) → PhraseHasContents (λ x r. IsSource s at x r) (source_tokens s)
  source_contents (Array n) at x r h = at_contents _ h (λ y k. label_contents n y r k)
  source_contents (Range a b) at x r h =
      simp append_assoc
      (at_contents _ h (fixed_contents _ (then_contents _ _ (formula_contents a 0) (fixed_contents _ (then_contents _ _ (formula_contents b 0) (fixed_contents _ (ends r)))))))
  source_contents (Unfold seed pat guard item next) at x r h =
      simp append_assoc
      (at_contents _ h (then_contents _ _ (row_contents seed) (fixed_contents _ (then_contents _ _ (pattern_contents pat) (fixed_contents _ (then_contents _ _ (formula_contents guard 0)
      (fixed_contents _ (then_contents _ _ (row_contents item) (fixed_contents _ (λ y k. row_contents next y r k))))))))))
  source_contents (Zip a b) at x r h =
      simp append_assoc
      (at_contents _ h (fixed_contents _ (then_contents _ _ (stream_contents a) (fixed_contents _ (then_contents _ _ (stream_contents b) (fixed_contents _ (ends r)))))))

  stages_contents : (ss : Stages) → PhraseHasContents (AreStages ss) (stages_tokens ss)
  stages_contents Nil x r h = ends r x h
  stages_contents (Cons s ss) x r h =
      simp append_assoc (fixed_contents _ (then_contents _ _ (stage_contents s) (λ y k. stages_contents ss y r k)) x h)

  stage_contents : (s : Stage) → PhraseHasContents (IsStage s) (stage_tokens s)
  stage_contents (Map at p body) x r h =
      simp append_assoc (at_contents _ h (then_contents _ _ (pattern_contents p) (fixed_contents _ (λ y k. row_contents body y r k))))
  stage_contents (Filter at p e) x r h =
      simp append_assoc (at_contents _ h (then_contents _ _ (pattern_contents p) (fixed_contents _ (λ y k. formula_contents e 0 y r k))))
  stage_contents (TakeWhile at p e) x r h =
      simp append_assoc (at_contents _ h (then_contents _ _ (pattern_contents p) (fixed_contents _ (λ y k. formula_contents e 0 y r k))))
  stage_contents (Take at e) x r h = at_contents _ h (λ y k. formula_contents e 0 y r k)
  stage_contents (Drop at e) x r h = at_contents _ h (λ y k. formula_contents e 0 y r k)
  stage_contents (Scan at seed state pat next) x r h = at_contents _ h (λ y k. folding_contents seed state pat next y r k)
  stage_contents (FlatMap at p s) x r h =
      simp append_assoc
      (at_contents _ h (then_contents _ _ (pattern_contents p) (fixed_contents _ (fixed_contents _ (then_contents _ _ (stream_contents s) (fixed_contents _ (ends r)))))))

terminal_contents : (t : Terminal) (at : ℕ) → PhraseHasContents (IsTerminal t at) (terminal_tokens t)
terminal_contents (Fold seed state pat next) at x r h = at_contents _ h (λ y k. folding_contents seed state pat next y r k)
terminal_contents Print at x r h = at_contents _ h (ends r)

declarations_contents : (ds : List Declaration) → PhraseHasContents (AreDeclared ds) (declarations_tokens ds)
declarations_contents [] x r h = ends r x h
declarations_contents (d ∷ ds) x r h =
    simp append_assoc
    (at_contents _ h (then_contents (label_tokens d.name) _ (label_contents d.name) (fixed_contents _ (fixed_contents _ (fixed_contents _ (λ y k. declarations_contents ds y r k))))))

-- the tokens of a sentence are the tokens of its tree
pub sentence_contents : (toks : List Tok) (tree : Text) → IsSentence toks tree → contents_of toks ≡ tree_tokens tree
sentence_contents toks tree h =
    simp append_assoc
    (simp append-nil at (then_contents _ _ (declarations_contents tree.inputs) (then_contents _ _ (stream_contents tree.stream) (fixed_contents _ (λ y k. terminal_contents tree.terminal tree.terminal_at y [] k))) toks h))
