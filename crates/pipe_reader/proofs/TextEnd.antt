-- Where the tokens end: the reader gives the text that no token more completes, and no other.
use Rattle.std.proofs.Common.{◌≡◌, ℕ, zero, suc, ◌+◌, List, [], ◌∷◌, ◌++◌, inl, inr, Some, refl, sym, ap, subst, ◌∙◌, append-nil, arith}
use Rattle.pipe_lexer.specs.declared.symbol.Symbol.TheVariants as symbol
use Rattle.pipe_tree.specs.Bounds.{depth_of}
use Rattle.pipe_reader.specs.Continuations.{Continuation, End, ASeparator, ALabel, AKind, AnExpression, ARow, MoreParts, APattern, MoreNames, Nested, AStream, MoreStages, AStage, ATerminal, MoreDeclarations, single_row, finish_by_step, finish}
use Rattle.pipe_reader.specs.Depths.{least_depth_of}
use Rattle.pipe_tree.specs.Grammar.{IsStream, IsSource, IsStage, IsTerminal, AreDeclared}
use Rattle.pipe_reader.specs.Machine as machine
use Rattle.pipe_reader.specs.Machine.{Goes, Leaves, Stuck}
use Rattle.pipe_tree.specs.Tokens.{Sym, Tok, tok}
use Rattle.pipe_tree.specs.TreeCopies.{stages_of_list}
use Rattle.pipe_tree.specs.Trees.{Formula, Label, Row, Pattern, Stream, From, Source, Array, Range, Unfold, Zip, Stage, Map, Filter, TakeWhile, Take, Drop, Scan, FlatMap, Terminal, Fold, Print, Declaration, Text}
use Rattle.pipe_reader.proofs.ExpressionStepBack as expressions
use Rattle.pipe_reader.proofs.Completion.{AreListedStages, Closing, IsOutermost, Ended, Completed}
use Rattle.pipe_reader.proofs.ExpressionCompletion.{leaves_depth}
use Rattle.pipe_reader.proofs.WithinDepth.{WithinDepth}
use Rattle.pipe_reader.proofs.ExpressionStepForward.{Went, Left, moves}
use Rattle.exact_reader.proofs.Limited.{Limits, AtMost, at_most_small}
use Rattle.pipe_reader.proofs.Rows.{row_next, parts_next, pattern_next, names_next}
use Rattle.pipe_reader.proofs.Reachability.{Follows, IsReachable, separates}

-- ---- each phrase has a token

source_some : (so : Source) (at : ℕ) (x r : List Tok) → IsSource so at x r → x ≡ [] → ⊥
source_some (Array n) at x r h e = let f = h.is in cc
source_some (Range a b) at x r h e = let f = h.is in cc
source_some (Unfold seed p guard item next) at x r h e = let f = h.is in cc
source_some (Zip a b) at x r h e = let f = h.is in cc

stream_some : (s : Stream) (x r : List Tok) → IsStream s x r → x ≡ [] → ⊥
stream_some (From at so stages) x r h e = source_some so at x h.rest h.phrase_is e

stage_some : (s : Stage) (x r : List Tok) → IsStage s x r → x ≡ [] → ⊥
stage_some (Map at p body) x r h e = let f = h.is in cc
stage_some (Filter at p g) x r h e = let f = h.is in cc
stage_some (TakeWhile at p g) x r h e = let f = h.is in cc
stage_some (Take at g) x r h e = let f = h.is in cc
stage_some (Drop at g) x r h e = let f = h.is in cc
stage_some (Scan at seed state p next) x r h e = let f = h.is in cc
stage_some (FlatMap at p s) x r h e = let f = h.is in cc

terminal_some : (t : Terminal) (at : ℕ) (x r : List Tok) → IsTerminal t at x r → x ≡ [] → ⊥
terminal_some (Fold seed state p next) at x r h e = let f = h.is in cc
terminal_some Print at x r h e = let f = h.is in cc

module _ (l : Limits) (tree : Text) where
  -- ---- what no token more completes

  row_some : (f : Row → Continuation) → IsReachable (ARow f) → Completed l (ARow f) tree [] → ⊥
  row_some f st h =
      elim (row_next l f tree [] h) [
        | inl o ↦ let e = o.is in cc
        | inr s ↦
            elim (moves (machine.Need []) (λ e y. AtMost l 200 (depth_of e) × Completed l (f (single_row e)) tree y) []
            (λ e y operator k i. separates (f (single_row e)) l tree y operator (st (single_row e)).0 (st (single_row e)).1 k.1 i) s) [
              | Went n first rest i xi g ↦ cc
              | Left u i g ↦ cc
            ]
      ]

  parts_some : (at : ℕ) (es : List Formula) (f : Row → Continuation) → Completed l (MoreParts at es f) tree [] → ⊥
  parts_some at es f h =
      elim (parts_next l at es f tree [] h) [
        | inl o ↦ let e = o.is in cc
        | inr o ↦ let e = o.is in cc
      ]

  pattern_some : (f : Pattern → Continuation) → Completed l (APattern f) tree [] → ⊥
  pattern_some f h =
      elim (pattern_next l f tree [] h) [
        | inl o ↦ let e = o.is in cc
        | inr o ↦ let e = o.phrase.is in cc
      ]

  names_some : (at : ℕ) (ns : List Label) (f : Pattern → Continuation) → Completed l (MoreNames at ns f) tree [] → ⊥
  names_some at ns f h =
      elim (names_next l at ns f tree [] h) [
        | inl o ↦ let e = o.is in cc
        | inr o ↦ let e = o.is in cc
      ]

  stages_ended : (around at : ℕ) (source : Source) (ss more : List Stage) (f : Stream → Continuation) (r : List Tok) → ((s : Stream) → Completed l (f s) tree [] → finish (f s) ≡ Some tree) → AreListedStages more [] r
      → Closing around (Completed l (f (From at source (stages_of_list (ss ++ more)))) tree) r → finish (MoreStages around at source ss f) ≡ Some tree
  stages_ended around at source ss (s ∷ more) f r next p k = let e = p.is in absurd cc
  stages_ended zero at source ss [] f r next p k = let e : [] ≡ tok (Sym symbol.Bar) k.at ∷ k.rest = p ∙ k.is in absurd cc
  stages_ended (suc around) at source ss [] f r next p k =
      next (From at source (stages_of_list ss)) (subst (λ (y : List Tok). Completed l (f (From at source (stages_of_list ss))) tree y) (sym p) (subst (λ (zs : List Stage). Completed l (f (From at source (stages_of_list zs))) tree r) (append-nil ss) k))

  terminal_awaited : (around : ℕ) (c : Continuation) → IsOutermost around → Follows around c → Completed l c tree [] → ⊥
  terminal_awaited zero (ATerminal f) o fo h = terminal_some h.value.1 h.value.0 [] h.rest h.phrase refl
  terminal_awaited zero _ o fo h = fo
  terminal_awaited (suc around) c o fo h = o

  stage_awaited : (around at : ℕ) (source : Source) (ss : List Stage) (f : Stream → Continuation) → ((s : Stream) → Follows around (f s)) → Completed l (AStage around at source ss f) tree [] → ⊥
  stage_awaited around at source ss f fo (inl h) = stage_some h.value [] h.rest h.phrase refl
  stage_awaited around at source ss f fo (inr h) = terminal_awaited around (f (From at source (stages_of_list ss))) h.0 (fo (From at source (stages_of_list ss))) h.1

  declared_some : (ds more : List Declaration) (r : List Tok) → AreDeclared more [] r → Ended l (ds ++ more) tree r → ⊥
  declared_some ds [] r p h = stream_some h.value r h.rest h.phrase (sym p)
  declared_some ds (d ∷ more) r p h = let e = p.is in cc

  expression_ended : (s : machine.State) (f : Formula → Continuation) (e : Formula) → machine.finish s ≡ Leaves e → finish (f e) ≡ Some tree → finish (AnExpression s f) ≡ Some tree
  expression_ended s f e i g = rw i g

  pub is_ended : (c : Continuation) → IsReachable c → Completed l c tree [] → finish c ≡ Some tree
  is_ended (End t) st h = ap Some (sym h.0)
  is_ended (ASeparator w c) st h = let e = h.is in absurd cc
  is_ended (ALabel f) st h = let e = h.phrase.is in absurd cc
  is_ended (AKind f) st h = let e = h.phrase.is in absurd cc
  is_ended (AnExpression s f) st h =
      elim (moves s (λ e y. AtMost l 200 (depth_of e) × Completed l (f e) tree y) [] (λ e y operator k i. separates (f e) l tree y operator (st.1 e).0 (st.1 e).1 k.1 i) h) [
        | Went n first rest i xi g ↦ absurd cc
        | Left e i g ↦ expression_ended s f e i (is_ended (f e) (st.1 e).1 g.1)
      ]
  is_ended (ARow f) st h = absurd (row_some f st h)
  is_ended (MoreParts at es f) st h = absurd (parts_some at es f h)
  is_ended (APattern f) st h = absurd (pattern_some f h)
  is_ended (MoreNames at ns f) st h = absurd (names_some at ns f h)
  is_ended (Nested n c) st h = is_ended c st h.1
  is_ended (AStream around f) st h = absurd (stream_some h.value [] h.rest h.phrase refl)
  is_ended (MoreStages around at source ss f) st h = stages_ended around at source ss h.value f h.rest (λ s k. is_ended (f s) (st s).1 k) h.phrase h.after
  is_ended (AStage around at source ss f) st h = absurd (stage_awaited around at source ss f (λ s. (st s).0) h)
  is_ended (ATerminal f) st h = absurd (terminal_some h.value.1 h.value.0 [] h.rest h.phrase refl)
  is_ended (MoreDeclarations ds) st h = absurd (declared_some ds h.value h.rest h.phrase h.after)

  -- ---- and back

  stages_end : (around at : ℕ) (source : Source) (ss : List Stage) (f : Stream → Continuation) → AtMost l 16 (around + 1) → ((s : Stream) → finish (f s) ≡ Some tree → Completed l (f s) tree []) → finish (MoreStages around at source ss f) ≡ Some tree
      → Completed l (MoreStages around at source ss f) tree []
  stages_end zero at source ss f fit next e = absurd cc
  stages_end (suc around) at source ss f fit next e =
      record {
        value = [];
        rest = [];
        phrase = refl;
        fit = (at_most_small l 200 0 (omega arith), fit);
        after = subst (λ (zs : List Stage). Completed l (f (From at source (stages_of_list zs))) tree []) (sym (append-nil ss)) (next (From at source (stages_of_list ss)) e);
      }

  expression_ends : (s : machine.State) (g : machine.Step) (f : Formula → Continuation) → machine.finish s ≡ g → expressions.IsReachable s → AtMost l 200 (least_depth_of s) → ((e : Formula) → finish (f e) ≡ Some tree → Completed l (f e) tree [])
      → finish_by_step g (λ e. finish (f e)) ≡ Some tree → Completed l (AnExpression s f) tree []
  expression_ends s (Goes n) f i st fit next e = absurd cc
  expression_ends s Stuck f i st fit next e = absurd cc
  expression_ends s (Leaves u) f i st fit next e =
      expressions.leaves_back s (λ v y. AtMost l 200 (depth_of v) × Completed l (f v) tree y) u [] st i
      (subst (λ (d : ℕ). AtMost l 200 d) (sym (leaves_depth s u [] i)) fit, next u e)

  pub it_ends : (c : Continuation) → IsReachable c → WithinDepth l c → finish c ≡ Some tree → Completed l c tree []
  it_ends (End t) st fit e = (let i : t ≡ tree = cc in sym i, refl)
  it_ends (AnExpression s f) st fit e = expression_ends s (machine.finish s) f refl st.0 fit.0 (λ u g. it_ends (f u) (st.1 u).1 (fit.1 u) g) e
  it_ends (Nested n c) st fit e = (fit.0, it_ends c st fit.1 e)
  it_ends (MoreStages around at source ss f) st fit e = stages_end around at source ss f fit.0 (λ s g. it_ends (f s) (st s).1 (fit.1 s) g) e
  it_ends _ st fit e = absurd cc
