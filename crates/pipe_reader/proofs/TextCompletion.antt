-- Each continuation that the reader comes to is completed by some tokens.
use Rattle.std.proofs.Common.{ℕ, zero, suc, ◌+◌, List, [], ◌∷◌, ◌++◌, inl, refl, sym, subst, arith}
use Rattle.pipe_lexer.specs.declared.keyword.Keyword.TheVariants as key
use Rattle.pipe_lexer.specs.declared.operator.InputKind.TheVariants as input
use Rattle.pipe_lexer.specs.declared.symbol.Symbol.TheVariants as symbol
use Rattle.pipe_tree.specs.Bounds.{depth_of}
use Rattle.pipe_reader.specs.Continuations.{Continuation, End, ASeparator, ALabel, AKind, AnExpression, ARow, MoreParts, APattern, MoreNames, Nested, AStream, MoreStages, AStage, ATerminal, MoreDeclarations, single_row, braced_row, single_pattern, braced_pattern}
use Rattle.pipe_tree.specs.Tokens.{What, Named, Key, Sym, Tok, tok}
use Rattle.pipe_tree.specs.TreeCopies.{stages_of_list}
use Rattle.pipe_tree.specs.Trees.{Label, Stream, From, Source, Array, Stage, Take, Nil, Print, Declaration, Text}
use Rattle.pipe_reader.proofs.Completion.{separator_token, Closing, Completed}
use Rattle.pipe_reader.proofs.ExpressionCompletion as expressions
use Rattle.pipe_reader.proofs.ExpressionCompletion.{nought, nought_tok}
use Rattle.pipe_reader.proofs.WithinDepth.{WithinDepth}
use Rattle.exact_reader.proofs.Limited.{Limits, AtMost, at_most_small}
use Rattle.pipe_reader.proofs.Reachability.{IsReachable}

-- a text, and the tokens that complete a continuation to it
pub record Completion (l : Limits) (c : Continuation) : Type 0 where
  pub tree : Text
  pub toks : List Tok
  pub completes : Completed l c tree toks

-- ---- the shortest parts

abbrev letter : List ℕ
letter = 120 ∷ []

abbrev a_label : Label
a_label = record { at = 0; text = letter }

abbrev a_stream : Stream
a_stream = From 0 (Array a_label) Nil

abbrev token : What → Tok
token what = tok what 0

-- a bar behind the outermost stream
abbrev closed : ℕ → List Tok → List Tok
closed zero x = token (Sym symbol.Bar) ∷ x
closed (suc around) x = x

closes : (around : ℕ) (K : List Tok → Type 0) (x : List Tok) → K x → Closing around K (closed around x)
closes zero K x h = record { at = 0; rest = x; is = refl; goes_on = h }
closes (suc around) K x h = h

module _ (l : Limits) where
  stream_completion : (around : ℕ) (f : Stream → Continuation) → AtMost l 16 (around + 1) → Completion l (f a_stream) → Completion l (AStream around f)
  stream_completion around f fit b =
      let r = closed around b.toks in
      record {
        tree = b.tree;
        toks = token (Key key.Array) ∷ token (Named letter) ∷ r;
        completes =
            record {
              value = a_stream;
              rest = r;
              phrase =
                  record {
                    rest = r;
                    phrase_is = record { rest = token (Named letter) ∷ r; is = refl; goes_on = record { rest = r; is = refl; goes_on = refl } };
                    goes_on = refl;
                  };
              fit = (at_most_small l 200 0 (omega arith), fit);
              after = closes around (Completed l (f a_stream) b.tree) b.toks b.completes;
            };
      }

  stages_completion : (around at : ℕ) (source : Source) (ss : List Stage) (f : Stream → Continuation) → AtMost l 16 (around + 1) → Completion l (f (From at source (stages_of_list (ss ++ [])))) → Completion l (MoreStages around at source ss f)
  stages_completion around at source ss f fit b =
      let r = closed around b.toks in
      record {
        tree = b.tree;
        toks = r;
        completes =
            record {
              value = [];
              rest = r;
              phrase = refl;
              fit = (at_most_small l 200 0 (omega arith), fit);
              after = closes around (Completed l (f (From at source (stages_of_list (ss ++ [])))) b.tree) b.toks b.completes;
            };
      }

  stage_completion : (around at : ℕ) (source : Source) (ss : List Stage) (f : Stream → Continuation) → AtMost l 16 (around + 1) → Completion l (MoreStages around at source (ss ++ Take 0 nought ∷ []) f) → Completion l (AStage around at source ss f)
  stage_completion around at source ss f fit b =
      record {
        tree = b.tree;
        toks = token (Key key.Take) ∷ nought_tok ∷ b.toks;
        completes =
            inl
            (record {
              value = Take 0 nought;
              rest = b.toks;
              phrase = record { rest = nought_tok ∷ b.toks; is = refl; goes_on = record { rest = b.toks; is = refl; goes_on = refl } };
              fit = (at_most_small l 200 1 (omega arith), fit);
              after = b.completes;
            });
      }

  text_completion : (ds : List Declaration) → AtMost l 16 1 → Completion l (MoreDeclarations ds)
  text_completion ds fit =
      record {
        tree = record { inputs = ds ++ []; stream = a_stream; terminal_at = 0; terminal = Print };
        toks = token (Key key.Array) ∷ token (Named letter) ∷ token (Sym symbol.Bar) ∷ token (Key key.Print) ∷ [];
        completes =
            record {
              value = [];
              rest = token (Key key.Array) ∷ token (Named letter) ∷ token (Sym symbol.Bar) ∷ token (Key key.Print) ∷ [];
              phrase = refl;
              fit = tt;
              after =
                  record {
                    value = a_stream;
                    rest = token (Sym symbol.Bar) ∷ token (Key key.Print) ∷ [];
                    phrase =
                        record {
                          rest = token (Sym symbol.Bar) ∷ token (Key key.Print) ∷ [];
                          phrase_is =
                              record {
                                rest = token (Named letter) ∷ token (Sym symbol.Bar) ∷ token (Key key.Print) ∷ [];
                                is = refl;
                                goes_on = record { rest = token (Sym symbol.Bar) ∷ token (Key key.Print) ∷ []; is = refl; goes_on = refl };
                              };
                          goes_on = refl;
                        };
                    fit = (at_most_small l 200 0 (omega arith), fit);
                    after =
                        record {
                          at = 0;
                          rest = token (Key key.Print) ∷ [];
                          is = refl;
                          goes_on =
                              record { value = (0, Print); rest = []; phrase = record { rest = []; is = refl; goes_on = refl }; fit = at_most_small l 200 0 (omega arith); after = (refl, refl) };
                        };
                  };
            };
      }

  pub completable : (c : Continuation) → IsReachable c → WithinDepth l c → Completion l c
  completable (End t) st fit = record { tree = t; toks = []; completes = (refl, refl) }
  completable (ASeparator w c) st fit =
      let b = completable c st fit in
      record { tree = b.tree; toks = token (separator_token w) ∷ b.toks; completes = record { at = 0; rest = b.toks; is = refl; goes_on = b.completes } }
  completable (ALabel f) st fit =
      let b = completable (f a_label) (st a_label) (fit a_label) in
      record {
        tree = b.tree;
        toks = token (Named letter) ∷ b.toks;
        completes = record { value = a_label; rest = b.toks; phrase = record { rest = b.toks; is = refl; goes_on = refl }; fit = tt; after = b.completes };
      }
  completable (AKind f) st fit =
      let b = completable (f input.Int) (st input.Int) (fit input.Int) in
      record {
        tree = b.tree;
        toks = token (Key key.Int) ∷ b.toks;
        completes = record { value = input.Int; rest = b.toks; phrase = record { at = 0; rest = b.toks; is = refl; goes_on = refl }; fit = tt; after = b.completes };
      }
  completable (AnExpression s f) st fit =
      let e = expressions.completion s st.0 in
      let b = completable (f e.tree) (st.1 e.tree).1 (fit.1 e.tree) in
      record {
        tree = b.tree;
        toks = e.closes b.toks;
        completes = e.completes (λ u y. AtMost l 200 (depth_of u) × Completed l (f u) b.tree y) b.toks (subst (λ (d : ℕ). AtMost l 200 d) (sym e.depth) fit.0, b.completes);
      }
  completable (ARow f) st fit =
      let b = completable (f (single_row nought)) (st (single_row nought)).1 (fit (single_row nought)) in
      record {
        tree = b.tree;
        toks = nought_tok ∷ b.toks;
        completes =
            record { value = single_row nought; rest = b.toks; phrase = (refl, record { rest = b.toks; is = refl; goes_on = refl }); fit = at_most_small l 200 1 (omega arith); after = b.completes };
      }
  completable (MoreParts at es f) st fit =
      let b = completable (f (braced_row at (es ++ []))) (st (braced_row at (es ++ []))).1 (fit (braced_row at (es ++ []))) in
      record {
        tree = b.tree;
        toks = token (Sym symbol.CloseBrace) ∷ b.toks;
        completes = record { value = []; rest = b.toks; phrase = record { at = 0; rest = b.toks; is = refl; goes_on = refl }; fit = at_most_small l 200 0 (omega arith); after = b.completes };
      }
  completable (APattern f) st fit =
      let b = completable (f (single_pattern a_label)) (st (single_pattern a_label)) (fit (single_pattern a_label)) in
      record {
        tree = b.tree;
        toks = token (Named letter) ∷ b.toks;
        completes = record { value = single_pattern a_label; rest = b.toks; phrase = (refl, record { rest = b.toks; is = refl; goes_on = refl }); fit = tt; after = b.completes };
      }
  completable (MoreNames at ns f) st fit =
      let b = completable (f (braced_pattern at (ns ++ []))) (st (braced_pattern at (ns ++ []))) (fit (braced_pattern at (ns ++ []))) in
      record {
        tree = b.tree;
        toks = token (Sym symbol.CloseBrace) ∷ b.toks;
        completes = record { value = []; rest = b.toks; phrase = record { at = 0; rest = b.toks; is = refl; goes_on = refl }; fit = tt; after = b.completes };
      }
  completable (Nested n c) st fit =
      let b = completable c st fit.1 in
      record { tree = b.tree; toks = b.toks; completes = (fit.0, b.completes) }
  completable (AStream around f) st fit = stream_completion around f fit.0 (completable (f a_stream) (st a_stream).1 (fit.1 a_stream))
  completable (MoreStages around at source ss f) st fit =
      let s = From at source (stages_of_list (ss ++ [])) in
      stages_completion around at source ss f fit.0 (completable (f s) (st s).1 (fit.1 s))
  completable (AStage around at source ss f) st fit =
      let s = From at source (stages_of_list ((ss ++ Take 0 nought ∷ []) ++ [])) in
      stage_completion around at source ss f fit.0 (stages_completion around at source (ss ++ Take 0 nought ∷ []) f fit.0 (completable (f s) (st s).1 (fit.1 s)))
  completable (ATerminal f) st fit =
      let b = completable (f 0 Print) (st 0 Print).1 (fit 0 Print) in
      record {
        tree = b.tree;
        toks = token (Key key.Print) ∷ b.toks;
        completes = record { value = (0, Print); rest = b.toks; phrase = record { rest = b.toks; is = refl; goes_on = refl }; fit = at_most_small l 200 0 (omega arith); after = b.completes };
      }
  completable (MoreDeclarations ds) st fit = text_completion ds (at_most_small l 16 1 (omega arith))
