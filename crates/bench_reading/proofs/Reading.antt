-- Reading a text by computation, from its bytes to its pipeline. Bytes that give a pipeline are a file of it.
use Rattle.std.proofs.Common.{◌≡◌, ℕ, ◌≤◌, List, length, Bool, true, false, leb, Option, Some, None, Ok, Err, refl, subst, inr}
use Rattle.std.specs.Str.{chars, is_utf8}
use Rattle.std.proofs.lemmas.Bool.{leb-true}
use Rattle.std.proofs.lemmas.Str.{IsUtf8-from_is_utf8}
use Rattle.exact_reader.specs.Exactness.{IsExact, Outcome, Read, Syntax, TooDeep}
use Rattle.kind_rules.specs.Checked.{Checked}
use Rattle.kind_rules.specs.Checking.{check_of}
use Rattle.list_denotation.specs.Terms.{Pipeline}
use Rattle.pipe_lexer.specs.Lexing.{Part, tokens_from, LexesAs}
use Rattle.pipe_limits.specs.declared.TheConstants.{MOST_BYTES, MOST_INPUTS, MOST_OPERATORS, MOST_NODES}
use Rattle.pipe_reader.specs.Continuations.{read_text}
use Rattle.pipe_tree.specs.Bounds.{text_input_offsets, text_op_offsets, text_node_offsets}
use Rattle.pipe_tree.specs.Parsing.{ParsesAs}
use Rattle.pipe_tree.specs.Texts.{texts}
use Rattle.pipe_tree.specs.Tokens.{Tok, toks_of}
use Rattle.pipe_tree.specs.Trees.{Text}
use Rattle.job_steps.specs.Pipelines.{IsPipelineFile, names_of}
use Rattle.bench_reading.proofs.Cutting.{cut, cut_passes}

-- ---- what goes on where a part is there

abbrev if_true : {A : Type 0} → Bool → Option A → Option A
if_true true next = next
if_true false next = None

abbrev and_then : {A B : Type 0} → Option A → (A → Option B) → Option B
and_then None next = None
and_then (Some a) next = next a

abbrev tree_in : Outcome Tok Text → Option Text
tree_in (Read tree) = Some tree
tree_in (Syntax rest) = None
tree_in (TooDeep rest) = None

abbrev pipeline_in : Checked Pipeline → Option Pipeline
pipeline_in (Ok p) = Some p
pipeline_in (Err fault) = None

-- ---- the reading

abbrev pipeline_of_tree : Text → Option Pipeline
pipeline_of_tree tree =
    if_true (leb (length (text_input_offsets tree)) MOST_INPUTS)
    (if_true (leb (length (text_op_offsets tree)) MOST_OPERATORS)
    (if_true (leb (length (text_node_offsets tree)) MOST_NODES)
    (pipeline_in (check_of tree))))

abbrev pipeline_of_parts : List ℕ → List Part → Option Pipeline
pipeline_of_parts src ps = and_then (tree_in (read_text (toks_of src (tokens_from 0 ps)))) pipeline_of_tree

-- the pipeline that the bytes are, if they are one
abbrev pub pipeline_of : List ℕ → Option Pipeline
pipeline_of src =
    if_true (leb (length src) MOST_BYTES)
    (if_true (is_utf8 src)
    (and_then (cut (length src) (chars src)) (pipeline_of_parts src)))

-- ---- what it gives, the bytes are

if_true-is : {A : Type 0} (b : Bool) (next : Option A) (a : A) → if_true b next ≡ Some a → (b ≡ true) × (next ≡ Some a)
if_true-is true next a e = (refl, e)
if_true-is false next a e = absurd cc

-- what a part gives, with which the next gives this
record Gives {A B : Type 0} (part : Option A) (next : A → Option B) (b : B) : Type 0 where
  pub value : A
  pub given : part ≡ Some value
  pub goes_on : next value ≡ Some b

and_then-gives : {A B : Type 0} (part : Option A) (next : A → Option B) (b : B) → and_then part next ≡ Some b → Gives part next b
and_then-gives None next b e = absurd cc
and_then-gives (Some a) next b e = record { value = a; given = refl; goes_on = e }

tree_in-is : (outcome : Outcome Tok Text) (tree : Text) → tree_in outcome ≡ Some tree → outcome ≡ Read tree
tree_in-is (Read t) tree e = cc
tree_in-is (Syntax rest) tree e = absurd cc
tree_in-is (TooDeep rest) tree e = absurd cc

pipeline_in-is : (checked : Checked Pipeline) (p : Pipeline) → pipeline_in checked ≡ Some p → checked ≡ Ok p
pipeline_in-is (Ok q) p e = cc
pipeline_in-is (Err fault) p e = absurd cc

-- the counts of a tree that stands for a pipeline are within the limits
record IsChecked (tree : Text) (p : Pipeline) : Type 0 where
  pub inputs : length (text_input_offsets tree) ≤ MOST_INPUTS
  pub ops : length (text_op_offsets tree) ≤ MOST_OPERATORS
  pub nodes : length (text_node_offsets tree) ≤ MOST_NODES
  pub typed : check_of tree ≡ Ok p

checked : (tree : Text) (p : Pipeline) → pipeline_of_tree tree ≡ Some p → IsChecked tree p
checked tree p e =
    let inputs = if_true-is (leb (length (text_input_offsets tree)) MOST_INPUTS) _ p e in
    let ops = if_true-is (leb (length (text_op_offsets tree)) MOST_OPERATORS) _ p inputs.1 in
    let nodes = if_true-is (leb (length (text_node_offsets tree)) MOST_NODES) _ p ops.1 in
    record {
      inputs = leb-true (length (text_input_offsets tree)) MOST_INPUTS inputs.0;
      ops = leb-true (length (text_op_offsets tree)) MOST_OPERATORS ops.0;
      nodes = leb-true (length (text_node_offsets tree)) MOST_NODES nodes.0;
      typed = pipeline_in-is (check_of tree) p nodes.1;
    }

lexes : (src : List ℕ) (ps : List Part) → is_utf8 src ≡ true → cut (length src) (chars src) ≡ Some ps → LexesAs src (Ok (tokens_from 0 ps))
lexes src ps text e = (IsUtf8-from_is_utf8 src text, record { parts = ps; passes = cut_passes (length src) (chars src) ps e; tokens = refl })

parses : (end : ℕ) (toks : List Tok) (tree : Text) (p : Pipeline) → IsExact texts toks (read_text toks) → tree_in (read_text toks) ≡ Some tree → IsChecked tree p → ParsesAs end toks (Ok tree)
parses end toks tree p exact e is =
    let sentence = subst (IsExact texts toks) (tree_in-is (read_text toks) tree e) exact in
    (sentence.0, record { within = sentence.1; inputs = is.inputs; ops = is.ops; nodes = is.nodes })

-- where the reader of texts is exact, bytes that give a pipeline are a file of it
pub reads_as_given : ((toks : List Tok) → IsExact texts toks (read_text toks)) → (src : List ℕ) (p : Pipeline) → pipeline_of src ≡ Some p → IsPipelineFile src p
reads_as_given exact src p e =
    let within = if_true-is (leb (length src) MOST_BYTES) _ p e in
    let text = if_true-is (is_utf8 src) _ p within.1 in
    let parts = and_then-gives (cut (length src) (chars src)) (pipeline_of_parts src) p text.1 in
    let toks = tokens_from 0 parts.value in
    let read = and_then-gives (tree_in (read_text (toks_of src toks))) pipeline_of_tree p parts.goes_on in
    let tree = read.value in
    let is = checked tree p read.goes_on in
    let tokens_read = lexes src parts.value text.0 parts.given in
    let tree_read = parses (length src) (toks_of src toks) tree p (exact (toks_of src toks)) read.given is in
    record {
      within = leb-true (length src) MOST_BYTES within.0;
      names = names_of tree;
      reads = inr (toks, (tokens_read, inr (tree, (tree_read, (is.typed, refl)))));
    }
