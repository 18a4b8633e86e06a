-- The limits of a tree don't depend on its offsets.
use Rattle.std.proofs.Common.{◌≡◌, ℕ, ◌+◌, ◌≤◌, max, List, [], ◌∷◌, ◌++◌, length, refl, sym, ap, subst, ◌∙◌, arith, length-append}
use Rattle.std.specs.Prelude.{map}
use Rattle.pipe_tree.specs.Trees.{Formula, Num, Truth, Name, Len, Neg, Not, Paren, Bin, And, Or, If, Stream, From, Source, Array, Range, Unfold, Zip, Stage, Map, Filter, TakeWhile, Take, Drop, Scan, FlatMap, Stages, Nil, Cons, Terminal, Fold, Print, Declaration, Text}
use Rattle.pipe_tree.specs.Bounds.{depth_of, row_depth, node_offsets, row_node_offsets, of_stream, of_source, of_stages, of_stage, of_terminal, text_depth, text_node_offsets, stream_ops, source_ops, stages_ops, stage_ops, text_op_offsets, text_input_offsets, stream_nesting, source_nesting, stages_nesting, stage_nesting, IsBounded}
use Rattle.pipe_printer.specs.WithoutOffsets.{formula_without_offsets, stream_without_offsets, source_without_offsets, stages_without_offsets, stage_without_offsets, terminal_without_offsets, declaration_without_offsets, without_offsets}

depth_of-without_offsets : (e : Formula) → depth_of (formula_without_offsets e) ≡ depth_of e
depth_of-without_offsets (Num at w) = refl
depth_of-without_offsets (Truth at b) = refl
depth_of-without_offsets (Name at n) = refl
depth_of-without_offsets (Len at q n) = refl
depth_of-without_offsets (Neg at a) = λ i. depth_of-without_offsets a i + 1
depth_of-without_offsets (Not at a) = λ i. depth_of-without_offsets a i + 1
depth_of-without_offsets (Paren at a) = λ i. depth_of-without_offsets a i + 1
depth_of-without_offsets (Bin at op q a b) = λ i. max (depth_of-without_offsets a i) (depth_of-without_offsets b i) + 1
depth_of-without_offsets (And at q a b) = λ i. max (depth_of-without_offsets a i) (depth_of-without_offsets b i) + 1
depth_of-without_offsets (Or at q a b) = λ i. max (depth_of-without_offsets a i) (depth_of-without_offsets b i) + 1
depth_of-without_offsets (If at c a b) = λ i. max (depth_of-without_offsets c i) (max (depth_of-without_offsets a i) (depth_of-without_offsets b i)) + 1

row_depth-without_offsets : (es : List Formula) → row_depth (map formula_without_offsets es) ≡ row_depth es
row_depth-without_offsets [] = refl
row_depth-without_offsets (e ∷ es) = λ i. max (depth_of-without_offsets e i) (row_depth-without_offsets es i)

-- lists of offsets, as many in one as in the other
record AreAsMany (xs ys : List ℕ) : Type 0 where
  lengths : length xs ≡ length ys

none_as_many : AreAsMany [] []
none_as_many = record { lengths = refl }

one_more : (at q : ℕ) {xs ys : List ℕ} → AreAsMany xs ys → AreAsMany (at ∷ xs) (q ∷ ys)
one_more at q {xs} {ys} e = record { lengths = let same = e.lengths in omega arith }

append_as_many : {xs ys us vs : List ℕ} → AreAsMany xs ys → AreAsMany us vs → AreAsMany (xs ++ us) (ys ++ vs)
append_as_many {xs} {ys} {us} {vs} e f = record { lengths = length-append xs us ∙ (λ i. e.lengths i + f.lengths i) ∙ sym (length-append ys vs) }

node_offsets-without_offsets : (e : Formula) → AreAsMany (node_offsets (formula_without_offsets e)) (node_offsets e)
node_offsets-without_offsets (Num at w) = one_more 0 at none_as_many
node_offsets-without_offsets (Truth at b) = one_more 0 at none_as_many
node_offsets-without_offsets (Name at n) = one_more 0 at none_as_many
node_offsets-without_offsets (Len at q n) = one_more 0 at none_as_many
node_offsets-without_offsets (Neg at a) = one_more 0 at (node_offsets-without_offsets a)
node_offsets-without_offsets (Not at a) = one_more 0 at (node_offsets-without_offsets a)
node_offsets-without_offsets (Paren at a) = one_more 0 at (node_offsets-without_offsets a)
node_offsets-without_offsets (Bin at op q a b) = append_as_many (node_offsets-without_offsets a) (one_more 0 q (node_offsets-without_offsets b))
node_offsets-without_offsets (And at q a b) = append_as_many (node_offsets-without_offsets a) (one_more 0 q (node_offsets-without_offsets b))
node_offsets-without_offsets (Or at q a b) = append_as_many (node_offsets-without_offsets a) (one_more 0 q (node_offsets-without_offsets b))
node_offsets-without_offsets (If at c a b) =
    append_as_many (append_as_many (one_more 0 at (node_offsets-without_offsets c)) (node_offsets-without_offsets a)) (node_offsets-without_offsets b)

row_node_offsets-without_offsets : (es : List Formula) → AreAsMany (row_node_offsets (map formula_without_offsets es)) (row_node_offsets es)
row_node_offsets-without_offsets [] = none_as_many
row_node_offsets-without_offsets (e ∷ es) = append_as_many (node_offsets-without_offsets e) (row_node_offsets-without_offsets es)

-- what expressions have without their offsets is like what they have, and so is what a stream has
module _ {A : Type 0} (none : A) (of_formula : Formula → A) (of_row : List Formula → A) (put : A → A → A) (IsLike : A → A → Type 0)
    (none_like : IsLike none none) (formula_like : (e : Formula) → IsLike (of_formula (formula_without_offsets e)) (of_formula e))
    (row_like : (es : List Formula) → IsLike (of_row (map formula_without_offsets es)) (of_row es))
    (put_like : (a b c d : A) → IsLike a b → IsLike c d → IsLike (put a c) (put b d)) where
  mutual
    stream_like : (s : Stream) → IsLike (of_stream none of_formula of_row put (stream_without_offsets s)) (of_stream none of_formula of_row put s)
    stream_like (From at source stages) = put_like _ _ _ _ (source_like source) (stages_like stages)

    source_like : (s : Source) → IsLike (of_source none of_formula of_row put (source_without_offsets s)) (of_source none of_formula of_row put s)
    source_like (Array n) = none_like
    source_like (Range a b) = put_like _ _ _ _ (formula_like a) (formula_like b)
    source_like (Unfold seed pat guard item next) =
        put_like _ _ _ _ (row_like seed.parts) (put_like _ _ _ _ (formula_like guard) (put_like _ _ _ _ (row_like item.parts) (row_like next.parts)))
    source_like (Zip a b) = put_like _ _ _ _ (stream_like a) (stream_like b)

    stages_like : (ss : Stages) → IsLike (of_stages none of_formula of_row put (stages_without_offsets ss)) (of_stages none of_formula of_row put ss)
    stages_like Nil = none_like
    stages_like (Cons s ss) = put_like _ _ _ _ (stage_like s) (stages_like ss)

    stage_like : (s : Stage) → IsLike (of_stage none of_formula of_row put (stage_without_offsets s)) (of_stage none of_formula of_row put s)
    stage_like (Map at p body) = row_like body.parts
    stage_like (Filter at p e) = formula_like e
    stage_like (TakeWhile at p e) = formula_like e
    stage_like (Take at e) = formula_like e
    stage_like (Drop at e) = formula_like e
    stage_like (Scan at seed state pat next) = put_like _ _ _ _ (row_like seed.parts) (row_like next.parts)
    stage_like (FlatMap at p s) = stream_like s

  terminal_like : (t : Terminal) → IsLike (of_terminal none of_formula of_row put (terminal_without_offsets t)) (of_terminal none of_formula of_row put t)
  terminal_like (Fold seed state pat next) = put_like _ _ _ _ (row_like seed.parts) (row_like next.parts)
  terminal_like Print = none_like

text_depth-without_offsets : (t : Text) → text_depth (without_offsets t) ≡ text_depth t
text_depth-without_offsets t =
    let like : (a b c d : ℕ) → a ≡ b → c ≡ d → max a c ≡ max b d = λ a b c d e f. λ i. max (e i) (f i) in
    let IsSame : ℕ → ℕ → Type 0 = λ a b. a ≡ b in
    like _ _ _ _
    (stream_like 0 depth_of row_depth max IsSame refl depth_of-without_offsets row_depth-without_offsets like t.stream)
    (terminal_like 0 depth_of row_depth max IsSame refl depth_of-without_offsets row_depth-without_offsets like t.terminal)

text_node_offsets-without_offsets : (t : Text) → AreAsMany (text_node_offsets (without_offsets t)) (text_node_offsets t)
text_node_offsets-without_offsets t =
    let like : (a b c d : List ℕ) → AreAsMany a b → AreAsMany c d → AreAsMany (a ++ c) (b ++ d) = λ a b c d e f. append_as_many e f in
    like _ _ _ _
    (stream_like [] node_offsets row_node_offsets ◌++◌ AreAsMany none_as_many node_offsets-without_offsets row_node_offsets-without_offsets like t.stream)
    (terminal_like [] node_offsets row_node_offsets ◌++◌ AreAsMany none_as_many node_offsets-without_offsets row_node_offsets-without_offsets like t.terminal)

mutual
  stream_ops-without_offsets : (s : Stream) → AreAsMany (stream_ops (stream_without_offsets s)) (stream_ops s)
  stream_ops-without_offsets (From at source stages) = append_as_many (one_more 0 at (source_ops-without_offsets source)) (stages_ops-without_offsets stages)

  source_ops-without_offsets : (s : Source) → AreAsMany (source_ops (source_without_offsets s)) (source_ops s)
  source_ops-without_offsets (Array n) = none_as_many
  source_ops-without_offsets (Range a b) = none_as_many
  source_ops-without_offsets (Unfold seed pat guard item next) = none_as_many
  source_ops-without_offsets (Zip a b) = append_as_many (stream_ops-without_offsets a) (stream_ops-without_offsets b)

  stages_ops-without_offsets : (ss : Stages) → AreAsMany (stages_ops (stages_without_offsets ss)) (stages_ops ss)
  stages_ops-without_offsets Nil = none_as_many
  stages_ops-without_offsets (Cons s ss) = append_as_many (stage_ops-without_offsets s) (stages_ops-without_offsets ss)

  stage_ops-without_offsets : (s : Stage) → AreAsMany (stage_ops (stage_without_offsets s)) (stage_ops s)
  stage_ops-without_offsets (Map at p body) = one_more 0 at none_as_many
  stage_ops-without_offsets (Filter at p e) = one_more 0 at none_as_many
  stage_ops-without_offsets (TakeWhile at p e) = one_more 0 at none_as_many
  stage_ops-without_offsets (Take at e) = one_more 0 at none_as_many
  stage_ops-without_offsets (Drop at e) = one_more 0 at none_as_many
  stage_ops-without_offsets (Scan at seed state pat next) = one_more 0 at none_as_many
  stage_ops-without_offsets (FlatMap at p s) = one_more 0 at (stream_ops-without_offsets s)

text_op_offsets-without_offsets : (t : Text) → AreAsMany (text_op_offsets (without_offsets t)) (text_op_offsets t)
text_op_offsets-without_offsets t = append_as_many (stream_ops-without_offsets t.stream) (one_more 0 t.terminal_at none_as_many)

inputs-without_offsets : (ds : List Declaration) → AreAsMany (map (λ (d : Declaration). d.at) (map declaration_without_offsets ds)) (map (λ (d : Declaration). d.at) ds)
inputs-without_offsets [] = none_as_many
inputs-without_offsets (d ∷ ds) = one_more 0 d.at (inputs-without_offsets ds)

mutual
  stream_nesting-without_offsets : (s : Stream) → stream_nesting (stream_without_offsets s) ≡ stream_nesting s
  stream_nesting-without_offsets (From at source stages) = λ i. max (source_nesting-without_offsets source i) (stages_nesting-without_offsets stages i)

  source_nesting-without_offsets : (s : Source) → source_nesting (source_without_offsets s) ≡ source_nesting s
  source_nesting-without_offsets (Array n) = refl
  source_nesting-without_offsets (Range a b) = refl
  source_nesting-without_offsets (Unfold seed pat guard item next) = refl
  source_nesting-without_offsets (Zip a b) = λ i. max (stream_nesting-without_offsets a i) (stream_nesting-without_offsets b i) + 1

  stages_nesting-without_offsets : (ss : Stages) → stages_nesting (stages_without_offsets ss) ≡ stages_nesting ss
  stages_nesting-without_offsets Nil = refl
  stages_nesting-without_offsets (Cons s ss) = λ i. max (stage_nesting-without_offsets s i) (stages_nesting-without_offsets ss i)

  stage_nesting-without_offsets : (s : Stage) → stage_nesting (stage_without_offsets s) ≡ stage_nesting s
  stage_nesting-without_offsets (Map at p body) = refl
  stage_nesting-without_offsets (Filter at p e) = refl
  stage_nesting-without_offsets (TakeWhile at p e) = refl
  stage_nesting-without_offsets (Take at e) = refl
  stage_nesting-without_offsets (Drop at e) = refl
  stage_nesting-without_offsets (Scan at seed state pat next) = refl
  stage_nesting-without_offsets (FlatMap at p s) = λ i. stream_nesting-without_offsets s i + 1

-- a number that doesn't depend on offsets, and is at most this in one tree, is so in the other
at_most_like : (measure : Text → ℕ) (n : ℕ) → ((t : Text) → measure (without_offsets t) ≡ measure t) → (t u : Text) → without_offsets t ≡ without_offsets u → measure u ≤ n → measure t ≤ n
at_most_like measure n unchanged t u same h =
    subst (λ (k : ℕ). k ≤ n) (sym (unchanged u) ∙ ap measure (sym same) ∙ unchanged t) h

-- of trees that are the same but for offsets, one is within the limits where the other is
pub bounded_like : (t u : Text) → without_offsets t ≡ without_offsets u → IsBounded u → IsBounded t
bounded_like t u same h = record {
  within = record {
    depth = at_most_like text_depth 200 text_depth-without_offsets t u same h.within.depth;
    nesting = at_most_like (λ (v : Text). stream_nesting v.stream) 16 (λ v. stream_nesting-without_offsets v.stream) t u same h.within.nesting;
  };
  inputs = at_most_like (λ (v : Text). length (text_input_offsets v)) 16 (λ v. (inputs-without_offsets v.inputs).lengths) t u same h.inputs;
  ops = at_most_like (λ (v : Text). length (text_op_offsets v)) 128 (λ v. (text_op_offsets-without_offsets v).lengths) t u same h.ops;
  nodes = at_most_like (λ (v : Text). length (text_node_offsets v)) 8192 (λ v. (text_node_offsets-without_offsets v).lengths) t u same h.nodes;
}
