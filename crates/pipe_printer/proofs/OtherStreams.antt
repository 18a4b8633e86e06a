-- Tokens with the contents of a sentence are a sentence too, of the same tree but for offsets.
use Rattle.std.proofs.Common.{◌≡◌, ℕ, List, [], ◌∷◌, refl, ap, ◌∙◌}
use Rattle.std.specs.Prelude.{map}
use Rattle.pipe_lexer.specs.declared.keyword.Keyword.TheVariants as key
use Rattle.pipe_lexer.specs.declared.symbol.Symbol.TheVariants as sign
use Rattle.pipe_tree.specs.Tokens.{Key, Sym, Tok}
use Rattle.pipe_printer.specs.TreeTokens.{contents_of}
use Rattle.pipe_tree.specs.Trees.{Formula, Row, Pattern, Stream, From, Source, Array, Range, Unfold, Zip, Stage, Map, Filter, TakeWhile, Take, Drop, Scan, FlatMap, Stages, Nil, Cons, Terminal, Fold, Print, Declaration, Text}
use Rattle.pipe_tree.specs.Grammar.{Fixed, Then, Phrase, IsRow, IsPattern, IsFolding, IsStream, IsSource, AreStages, IsStage, IsTerminal, AreDeclared, IsSentence}
use Rattle.pipe_printer.specs.WithoutOffsets.{formula_without_offsets, row_without_offsets, pattern_without_offsets, stream_without_offsets, source_without_offsets, stages_without_offsets, stage_without_offsets, terminal_without_offsets, declaration_without_offsets, without_offsets}
use Rattle.pipe_printer.proofs.OtherOffsets.{Like, Replaced, next_token, last_token, at_next, fixed_next, then_part, replaced_formula, replaced_row, replaced_label, replaced_pattern}

-- what stands behind `scan` and `fold`
record IsReplacedFolding (seed : Row) (state pat : Pattern) (next : Row) (y r : List Tok) : Type 0 where
  seed_row : Row
  state_pattern : Pattern
  item_pattern : Pattern
  next_row : Row
  rest : Like r
  is : IsFolding seed_row state_pattern item_pattern next_row y rest.toks
  same_seed : row_without_offsets seed_row ≡ row_without_offsets seed
  same_state : pattern_without_offsets state_pattern ≡ pattern_without_offsets state
  same_item : pattern_without_offsets item_pattern ≡ pattern_without_offsets pat
  same_next : row_without_offsets next_row ≡ row_without_offsets next

replaced_folding : (seed : Row) (state pat : Pattern) (next : Row) {x : List Tok} (r : List Tok) (y : Like x) → IsFolding seed state pat next x r → IsReplacedFolding seed state pat next y.toks r
replaced_folding seed state pat next r y h =
    let h1 = h.goes_on in
    let h2 = h1.goes_on in
    let h3 = h2.goes_on in
    let h4 = h3.goes_on in
    let start = replaced_row seed h.rest y h.phrase_is in
    let with_token = next_token h1.is start.rest in
    let held = replaced_pattern state h2.rest with_token.rest h2.phrase_is in
    let item = replaced_pattern pat h3.rest held.rest h3.phrase_is in
    let arrow = next_token h4.is item.rest in
    let last = replaced_row next r arrow.rest h4.goes_on in
    record {
      seed_row = start.tree;
      state_pattern = held.tree;
      item_pattern = item.tree;
      next_row = last.tree;
      rest = last.rest;
      is = then_part start (fixed_next with_token (then_part held (then_part item (fixed_next arrow last.is))));
      same_seed = start.same_tree;
      same_state = held.same_tree;
      same_item = item.same_tree;
      same_next = last.same_tree;
    }

-- `yield` row `next` row
record AreReplacedSteps (item next : Row) (y r : List Tok) : Type 0 where
  item_row : Row
  next_row : Row
  rest : Like r
  is : Fixed (Key key.Yield) (Then (IsRow item_row) (Fixed (Key key.Next) (λ z. IsRow next_row z rest.toks))) y
  same_item : row_without_offsets item_row ≡ row_without_offsets item
  same_next : row_without_offsets next_row ≡ row_without_offsets next

replaced_steps : (item next : Row) {x : List Tok} (r : List Tok) (y : Like x) → Fixed (Key key.Yield) (Then (IsRow item) (Fixed (Key key.Next) (λ z. IsRow next z r))) x → AreReplacedSteps item next y.toks r
replaced_steps item next r y h =
    let h1 = h.goes_on in
    let h2 = h1.goes_on in
    let yield_token = next_token h.is y in
    let given = replaced_row item h1.rest yield_token.rest h1.phrase_is in
    let next_keyword = next_token h2.is given.rest in
    let last = replaced_row next r next_keyword.rest h2.goes_on in
    record {
      item_row = given.tree;
      next_row = last.tree;
      rest = last.rest;
      is = fixed_next yield_token (then_part given (fixed_next next_keyword last.is));
      same_item = given.same_tree;
      same_next = last.same_tree;
    }

-- pat "->" expr
record IsReplacedTest (p : Pattern) (e : Formula) (y r : List Tok) : Type 0 where
  pattern : Pattern
  test : Formula
  rest : Like r
  is : Then (IsPattern pattern) (Fixed (Sym sign.Arrow) (λ z. Phrase test 0 z rest.toks)) y
  same_pattern : pattern_without_offsets pattern ≡ pattern_without_offsets p
  same_test : formula_without_offsets test ≡ formula_without_offsets e

replaced_test : (p : Pattern) (e : Formula) {x : List Tok} (r : List Tok) (y : Like x) → Then (IsPattern p) (Fixed (Sym sign.Arrow) (λ z. Phrase e 0 z r)) x → IsReplacedTest p e y.toks r
replaced_test p e r y h =
    let h1 = h.goes_on in
    let item = replaced_pattern p h.rest y h.phrase_is in
    let arrow = next_token h1.is item.rest in
    let test = replaced_formula e 0 r arrow.rest h1.goes_on in
    record {
      pattern = item.tree;
      test = test.tree;
      rest = test.rest;
      is = then_part item (fixed_next arrow test.is);
      same_pattern = item.same_tree;
      same_test = test.same_tree;
    }

-- a source, and the offset of its first token
record IsReplacedSource (source : Source) (y r : List Tok) : Type 0 where
  at : ℕ
  tree : Source
  rest : Like r
  is : IsSource tree at y rest.toks
  same_tree : source_without_offsets tree ≡ source_without_offsets source

abbrev IsReplacedStream : Stream → List Tok → List Tok → Type 0
IsReplacedStream = Replaced IsStream stream_without_offsets

abbrev IsReplacedStage : Stage → List Tok → List Tok → Type 0
IsReplacedStage = Replaced IsStage stage_without_offsets

abbrev AreReplacedStages : Stages → List Tok → List Tok → Type 0
AreReplacedStages = Replaced AreStages stages_without_offsets

mutual
  replaced_stream : (s : Stream) {x : List Tok} (r : List Tok) (y : Like x) → IsStream s x r → IsReplacedStream s y.toks r
  replaced_stream (From at source stages) r y h =
      let first = replaced_source source at h.rest y h.phrase_is in
      let later = replaced_stages stages r first.rest h.goes_on in
      record {
        tree = From first.at first.tree later.tree;
        rest = later.rest;
        is = record { rest = first.rest.toks; phrase_is = first.is; goes_on = later.is };
        same_tree = λ i. From 0 (first.same_tree i) (later.same_tree i);
      }

  replaced_source : (s : Source) (at : ℕ) {x : List Tok} (r : List Tok) (y : Like x) → IsSource s at x r → IsReplacedSource s y.toks r
  replaced_source (Array n) at r y h =
      let keyword = next_token h.is y in
      let name = replaced_label n r keyword.rest h.goes_on in
      record { at = keyword.at; tree = Array name.tree; rest = name.rest; is = at_next keyword name.is; same_tree = ap Array name.same_tree }
  replaced_source (Range a b) at r y h =
      let h1 = h.goes_on in
      let h2 = h1.goes_on in
      let h3 = h2.goes_on in
      let h4 = h3.goes_on in
      let h5 = h4.goes_on in
      let keyword = next_token h.is y in
      let opening = next_token h1.is keyword.rest in
      let low = replaced_formula a 0 h2.rest opening.rest h2.phrase_is in
      let comma = next_token h3.is low.rest in
      let high = replaced_formula b 0 h4.rest comma.rest h4.phrase_is in
      let closing = last_token h5.is h5.goes_on high.rest in
      record {
        at = keyword.at;
        tree = Range low.tree high.tree;
        rest = closing.rest;
        is = at_next keyword (fixed_next opening (then_part low (fixed_next comma (then_part high (fixed_next closing refl)))));
        same_tree = λ i. Range (low.same_tree i) (high.same_tree i);
      }
  replaced_source (Unfold seed pat guard item next) at r y h =
      let h1 = h.goes_on in
      let h2 = h1.goes_on in
      let h3 = h2.goes_on in
      let h4 = h3.goes_on in
      let h5 = h4.goes_on in
      let keyword = next_token h.is y in
      let start = replaced_row seed h1.rest keyword.rest h1.phrase_is in
      let with_token = next_token h2.is start.rest in
      let held = replaced_pattern pat h3.rest with_token.rest h3.phrase_is in
      let while_token = next_token h4.is held.rest in
      let test = replaced_formula guard 0 h5.rest while_token.rest h5.phrase_is in
      let steps = replaced_steps item next r test.rest h5.goes_on in
      record {
        at = keyword.at;
        tree = Unfold start.tree held.tree test.tree steps.item_row steps.next_row;
        rest = steps.rest;
        is = at_next keyword (then_part start (fixed_next with_token (then_part held (fixed_next while_token (then_part test steps.is)))));
        same_tree = λ i. Unfold (start.same_tree i) (held.same_tree i) (test.same_tree i) (steps.same_item i) (steps.same_next i);
      }
  replaced_source (Zip a b) at r y h =
      let h1 = h.goes_on in
      let h2 = h1.goes_on in
      let h3 = h2.goes_on in
      let h4 = h3.goes_on in
      let h5 = h4.goes_on in
      let keyword = next_token h.is y in
      let opening = next_token h1.is keyword.rest in
      let left = replaced_stream a h2.rest opening.rest h2.phrase_is in
      let comma = next_token h3.is left.rest in
      let right = replaced_stream b h4.rest comma.rest h4.phrase_is in
      let closing = last_token h5.is h5.goes_on right.rest in
      record {
        at = keyword.at;
        tree = Zip left.tree right.tree;
        rest = closing.rest;
        is = at_next keyword (fixed_next opening (then_part left (fixed_next comma (then_part right (fixed_next closing refl)))));
        same_tree = λ i. Zip (left.same_tree i) (right.same_tree i);
      }

  replaced_stages : (ss : Stages) {x : List Tok} (r : List Tok) (y : Like x) → AreStages ss x r → AreReplacedStages ss y.toks r
  replaced_stages Nil r y h =
      record { tree = Nil; rest = record { toks = y.toks; same = y.same ∙ ap contents_of h }; is = refl; same_tree = refl }
  replaced_stages (Cons s ss) r y h =
      let h1 = h.goes_on in
      let bar = next_token h.is y in
      let first = replaced_stage s h1.rest bar.rest h1.phrase_is in
      let later = replaced_stages ss r first.rest h1.goes_on in
      record {
        tree = Cons first.tree later.tree;
        rest = later.rest;
        is = fixed_next bar (then_part first later.is);
        same_tree = λ i. Cons (first.same_tree i) (later.same_tree i);
      }

  replaced_stage : (s : Stage) {x : List Tok} (r : List Tok) (y : Like x) → IsStage s x r → IsReplacedStage s y.toks r
  replaced_stage (Map at p body) r y h =
      let h1 = h.goes_on in
      let h2 = h1.goes_on in
      let keyword = next_token h.is y in
      let item = replaced_pattern p h1.rest keyword.rest h1.phrase_is in
      let arrow = next_token h2.is item.rest in
      let row = replaced_row body r arrow.rest h2.goes_on in
      record {
        tree = Map keyword.at item.tree row.tree;
        rest = row.rest;
        is = at_next keyword (then_part item (fixed_next arrow row.is));
        same_tree = λ i. Map 0 (item.same_tree i) (row.same_tree i);
      }
  replaced_stage (Filter at p e) r y h =
      let keyword = next_token h.is y in
      let t = replaced_test p e r keyword.rest h.goes_on in
      record { tree = Filter keyword.at t.pattern t.test; rest = t.rest; is = at_next keyword t.is; same_tree = λ i. Filter 0 (t.same_pattern i) (t.same_test i) }
  replaced_stage (TakeWhile at p e) r y h =
      let keyword = next_token h.is y in
      let t = replaced_test p e r keyword.rest h.goes_on in
      record { tree = TakeWhile keyword.at t.pattern t.test; rest = t.rest; is = at_next keyword t.is; same_tree = λ i. TakeWhile 0 (t.same_pattern i) (t.same_test i) }
  replaced_stage (Take at e) r y h =
      let keyword = next_token h.is y in
      let count = replaced_formula e 0 r keyword.rest h.goes_on in
      record { tree = Take keyword.at count.tree; rest = count.rest; is = at_next keyword count.is; same_tree = ap (Take 0) count.same_tree }
  replaced_stage (Drop at e) r y h =
      let keyword = next_token h.is y in
      let count = replaced_formula e 0 r keyword.rest h.goes_on in
      record { tree = Drop keyword.at count.tree; rest = count.rest; is = at_next keyword count.is; same_tree = ap (Drop 0) count.same_tree }
  replaced_stage (Scan at seed state pat next) r y h =
      let keyword = next_token h.is y in
      let f = replaced_folding seed state pat next r keyword.rest h.goes_on in
      record {
        tree = Scan keyword.at f.seed_row f.state_pattern f.item_pattern f.next_row;
        rest = f.rest;
        is = at_next keyword f.is;
        same_tree = λ i. Scan 0 (f.same_seed i) (f.same_state i) (f.same_item i) (f.same_next i);
      }
  replaced_stage (FlatMap at p s) r y h =
      let h1 = h.goes_on in
      let h2 = h1.goes_on in
      let h3 = h2.goes_on in
      let h4 = h3.goes_on in
      let h5 = h4.goes_on in
      let keyword = next_token h.is y in
      let item = replaced_pattern p h1.rest keyword.rest h1.phrase_is in
      let arrow = next_token h2.is item.rest in
      let opening = next_token h3.is arrow.rest in
      let inner = replaced_stream s h4.rest opening.rest h4.phrase_is in
      let closing = last_token h5.is h5.goes_on inner.rest in
      record {
        tree = FlatMap keyword.at item.tree inner.tree;
        rest = closing.rest;
        is = at_next keyword (then_part item (fixed_next arrow (fixed_next opening (then_part inner (fixed_next closing refl)))));
        same_tree = λ i. FlatMap 0 (item.same_tree i) (inner.same_tree i);
      }

-- a terminal, and the offset of its first token
record IsReplacedTerminal (t : Terminal) (y r : List Tok) : Type 0 where
  at : ℕ
  tree : Terminal
  rest : Like r
  is : IsTerminal tree at y rest.toks
  same_tree : terminal_without_offsets tree ≡ terminal_without_offsets t

replaced_terminal : (t : Terminal) (at : ℕ) {x : List Tok} (r : List Tok) (y : Like x) → IsTerminal t at x r → IsReplacedTerminal t y.toks r
replaced_terminal (Fold seed state pat next) at r y h =
    let keyword = next_token h.is y in
    let f = replaced_folding seed state pat next r keyword.rest h.goes_on in
    record {
      at = keyword.at;
      tree = Fold f.seed_row f.state_pattern f.item_pattern f.next_row;
      rest = f.rest;
      is = at_next keyword f.is;
      same_tree = λ i. Fold (f.same_seed i) (f.same_state i) (f.same_item i) (f.same_next i);
    }
replaced_terminal Print at r y h =
    let keyword = last_token h.is h.goes_on y in
    record { at = keyword.at; tree = Print; rest = keyword.rest; is = at_next keyword refl; same_tree = refl }

replaced_declarations : (ds : List Declaration) {x : List Tok} (r : List Tok) (y : Like x) → AreDeclared ds x r → Replaced AreDeclared (map declaration_without_offsets) ds y.toks r
replaced_declarations [] r y h =
    record { tree = []; rest = record { toks = y.toks; same = y.same ∙ ap contents_of h }; is = refl; same_tree = refl }
replaced_declarations (d ∷ ds) r y h =
    let h1 = h.goes_on in
    let h2 = h1.goes_on in
    let h3 = h2.goes_on in
    let h4 = h3.goes_on in
    let keyword = next_token h.is y in
    let name = replaced_label d.name h1.rest keyword.rest h1.phrase_is in
    let colon = next_token h2.is name.rest in
    let kind = next_token h3.is colon.rest in
    let semicolon = next_token h4.is kind.rest in
    let later = replaced_declarations ds r semicolon.rest h4.goes_on in
    record {
      tree = record { at = keyword.at; name = name.tree; kind = d.kind } ∷ later.tree;
      rest = later.rest;
      is = at_next keyword (then_part name (fixed_next colon (fixed_next kind (fixed_next semicolon later.is))));
      same_tree = λ i. record { at = 0; name = name.same_tree i; kind = d.kind } ∷ later.same_tree i;
    }

-- these tokens are a sentence, whose tree is this one but for offsets
pub record IsSentenceLike (toks : List Tok) (old : Text) : Type 0 where
  pub tree : Text
  pub sentence : IsSentence toks tree
  pub same : without_offsets tree ≡ without_offsets old

no_contents : (toks : List Tok) → contents_of toks ≡ contents_of [] → toks ≡ []
no_contents [] same = refl
no_contents (t ∷ ts) same = absurd cc

pub replaced_sentence : (toks others : List Tok) (old : Text) → IsSentence toks old → contents_of others ≡ contents_of toks → IsSentenceLike others old
replaced_sentence toks others old h same =
    let h1 = h.goes_on in
    let h2 = h1.goes_on in
    let y : Like toks = record { toks = others; same = same } in
    let inputs = replaced_declarations old.inputs h.rest y h.phrase_is in
    let stream = replaced_stream old.stream h1.rest inputs.rest h1.phrase_is in
    let bar = next_token h2.is stream.rest in
    let last = replaced_terminal old.terminal old.terminal_at [] bar.rest h2.goes_on in
    record {
      tree = record { inputs = inputs.tree; stream = stream.tree; terminal_at = last.at; terminal = last.tree };
      sentence = then_part inputs (then_part stream (fixed_next bar (ended last.tree last.at bar.rest.toks last.rest last.is)));
      same = λ i. record { inputs = inputs.same_tree i; stream = stream.same_tree i; terminal_at = 0; terminal = last.same_tree i };
    }
  where
    ended : (t : Terminal) (at : ℕ) (z : List Tok) (end : Like []) → IsTerminal t at z end.toks → IsTerminal t at z []
    ended t at z end h = rw (no_contents end.toks end.same) at h
