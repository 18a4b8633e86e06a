-- The reader of whole texts keeps the laws of exact readers, and its start is completed by whole sentences.
use Rattle.std.proofs.Common.{◌≡◌, ◌+◌, List, [], refl, sym, subst, arith}
use Rattle.pipe_tree.specs.Bounds.{IsWithinDepths, stream_depth, stream_nesting, terminal_depth}
use Rattle.pipe_reader.specs.Continuations.{MoreDeclarations, text_reader}
use Rattle.pipe_tree.specs.Texts.{texts}
use Rattle.pipe_tree.specs.Grammar.{IsTerminal, IsSentence}
use Rattle.pipe_tree.specs.Tokens.{Tok}
use Rattle.pipe_tree.specs.Trees.{Text}
use Rattle.pipe_reader.proofs.TextCompletion.{completable}
use Rattle.pipe_reader.proofs.Completion.{Completed}
use Rattle.pipe_reader.proofs.TextEnd.{is_ended, it_ends}
use Rattle.exact_reader.proofs.Exactness.{Laws, IsStart}
use Rattle.pipe_reader.proofs.WithinDepth.{WithinDepth, within_depth_free}
use Rattle.exact_reader.proofs.Limited.{Limits, Free, Within, AtMost}
use Rattle.pipe_reader.proofs.TextDepthTest.{within_depth, within_depth_step}
use Rattle.pipe_reader.proofs.TextStepForward.{step_forward}
use Rattle.pipe_reader.proofs.TextStepBack.{step_back}
use Rattle.pipe_reader.proofs.Reachability.{IsReachable}

pub laws : Laws texts text_reader
laws =
    record {
      Completes = Completed;
      IsReachable = IsReachable;
      WithinDepth = WithinDepth;
      free = within_depth_free;
      forward = λ l s tree t x o h. step_forward l tree s t x o h;
      reachable = λ s t n o e. (step_back Free t.what t.at s n o (within_depth_free s) e).reachable;
      back = λ l s t n tree x o f e h. (step_back l t.what t.at s n o f e).completes tree x h;
      ended = λ l s tree o h. is_ended l tree s o h;
      ends = λ l s tree o f e. it_ends l tree s o f e;
      completion = λ l s o f. let c = completable l s o f in (c.tree, (c.toks, c.completes));
      within_depth = λ s tree x h. within_depth s tree x h;
      within_depth_step = λ s t n f e b. within_depth_step t.what t.at s n f e b;
    }

-- ---- from the start

-- the depths of a text
record Depths (l : Limits) (t : Text) : Type 0 where
  pub stream : AtMost l 200 (stream_depth t.stream)
  pub nesting : AtMost l 16 (0 + stream_nesting t.stream)
  pub terminal : AtMost l 200 (terminal_depth t.terminal)

completes : (l : Limits) (tree : Text) (x : List Tok) → IsSentence x tree → Depths l tree → Completed l (MoreDeclarations []) tree x
completes l tree x h d =
    let s = h.goes_on in
    let b = s.goes_on in
    record {
      value = tree.inputs;
      rest = h.rest;
      phrase = h.phrase_is;
      fit = tt;
      after =
          record {
            value = tree.stream;
            rest = s.rest;
            phrase = s.phrase_is;
            fit = (d.stream, d.nesting);
            after =
                record {
                  at = b.at;
                  rest = b.rest;
                  is = b.is;
                  goes_on = record { value = (tree.terminal_at, tree.terminal); rest = []; phrase = b.goes_on; fit = d.terminal; after = (refl, refl) };
                };
          };
    }

abbrev Sentence : Limits → List Tok → Text → Type 0
Sentence l x tree = IsSentence x tree × Depths l tree

sentence : (l : Limits) (tree : Text) (x : List Tok) → Completed l (MoreDeclarations []) tree x → Sentence l x tree
sentence l tree x h =
    let s = h.after in
    let b = s.after in
    let t = b.goes_on in
    let whole : Text = record { inputs = h.value; stream = s.value; terminal_at = t.value.0; terminal = t.value.1 } in
    let i : tree ≡ whole = t.after.0 in
    let is : IsSentence x whole =
    record {
      rest = h.rest;
      phrase_is = h.phrase;
      goes_on =
          record {
            rest = s.rest;
            phrase_is = s.phrase;
            goes_on = record { at = b.at; rest = b.rest; is = b.is; goes_on = subst (λ (y : List Tok). IsTerminal t.value.1 t.value.0 b.rest y) t.after.1 t.phrase };
          };
    } in
    subst (λ (u : Text). Sentence l x u) (sym i) (is, record { stream = s.fit.0; nesting = s.fit.1; terminal = t.fit })

within : (t : Text) → Depths Within t → IsWithinDepths t
within t d =
    let a = d.stream in
    let b = d.terminal in
    let c = d.nesting in
    record { depth = omega arith; nesting = omega arith }

depths : (t : Text) → IsWithinDepths t → Depths Within t
depths t w =
    let a = w.depth in
    let b = w.nesting in
    record { stream = omega arith; nesting = omega arith; terminal = omega arith }

no_depths : (t : Text) → Depths Free t
no_depths t = record { stream = tt; nesting = tt; terminal = tt }

pub is_start : IsStart texts text_reader laws (MoreDeclarations [])
unfolding laws
is_start =
    record {
      reachable = tt;
      within_depth = tt;
      sentence = λ tree x h. (sentence Free tree x h).0;
      completes = λ tree x h. completes Free tree x h (no_depths tree);
      sentence_within = λ tree x h. let s = sentence Within tree x h in (s.0, within tree s.1);
      completes_within = λ tree x h w. completes Within tree x h (depths tree w);
    }
