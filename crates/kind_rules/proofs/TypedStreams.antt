-- What streams and terminals of a tree stand for: their rows have their kinds, and their counts are those of
-- the tree or less.
use Rattle.std.proofs.Common.{◌≡◌, ℕ, ◌≤◌, ◌+◌, List, [], ◌∷◌, ◌++◌, length, Some, true, refl, ap, sym, ◌∙◌, subst, append_assoc, arith, length-append, le-leb, max}
use Rattle.std.proofs.lemmas.List.{map-append}
use Rattle.list_denotation.specs.declared.input.InputKind.{InputKind}
use Rattle.list_denotation.specs.declared.kind.Kind.{Kind}
use Rattle.list_denotation.specs.declared.kind.Kind.TheVariants as kind
use Rattle.list_denotation.specs.Counts as counts
use Rattle.list_denotation.specs.Counts.{row_nodes, row_depth, finish_nodes, finish_depth}
use Rattle.list_denotation.specs.Terms.{Term, Pipe, Finish}
use Rattle.list_denotation.specs.Terms as term
use Rattle.list_denotation.specs.Typing.{row_kinds, seed_kinds, same_kinds, state_kinds, stream_kinds, finish_kinds, opens}
use Rattle.pipe_tree.specs.Bounds.{depth_of, row_depth as tree_row_depth, node_offsets, row_node_offsets, of_source, of_stages, of_stage, stream_ops, stream_node_offsets, stream_depth, stream_nesting, source_ops, source_nesting, stages_ops, stages_depth, stages_nesting, stage_ops, stage_nesting, terminal_node_offsets, terminal_depth}
use Rattle.pipe_tree.specs.Trees.{Label, Row, Pattern, Stream, From, Source, Zip, Stage, Stages, Cons, Terminal}
use Rattle.kind_rules.specs.Inputs.{input_kinds}
use Rattle.kind_rules.specs.PatternScopes.{inside, inside_both}
use Rattle.kind_rules.specs.Scopes.{Bound, Scope, bind, with_bound}
use Rattle.kind_rules.specs.StandsFor as stands
use Rattle.kind_rules.specs.StandsFor.{Binds, BindsBoth, Folds, StreamStands, SourceStands, StagesStand, StageStands, TerminalStands}
use Rattle.kind_rules.proofs.Meanings.{bound_kinds, kinds_in}
use Rattle.kind_rules.proofs.TypedExpressions.{TermFits, RowFits, array_fits, expression_fits, opening_fits, row_fits, seed_fits, next_fits}

-- the offsets of the nodes of a stream's parts, and their depths
abbrev source_node_offsets : Source → List ℕ
source_node_offsets = of_source [] node_offsets row_node_offsets ◌++◌

abbrev stages_node_offsets : Stages → List ℕ
stages_node_offsets = of_stages [] node_offsets row_node_offsets ◌++◌

abbrev stage_node_offsets : Stage → List ℕ
stage_node_offsets = of_stage [] node_offsets row_node_offsets ◌++◌

abbrev source_depth : Source → ℕ
source_depth = of_source 0 depth_of tree_row_depth max

abbrev stage_depth : Stage → ℕ
stage_depth = of_stage 0 depth_of tree_row_depth max

-- ---- the kinds of the words in a scope

bind_kinds : (ns : List Label) (ks : List Kind) → length ns ≡ length ks → bound_kinds (bind ns ks) ≡ ks
bind_kinds [] [] h = refl
bind_kinds [] (k ∷ ks) h = absurd (omega (arith, h))
bind_kinds (n ∷ ns) [] h = absurd (omega (arith, h))
bind_kinds (n ∷ ns) (k ∷ ks) h = ap (λ js. k ∷ js) (bind_kinds ns ks (omega (arith, h)))

more_bound : (scope : Scope) (bs : List Bound) (ks : List Kind) → bound_kinds bs ≡ ks → kinds_in (with_bound scope bs) ≡ kinds_in scope ++ ks
more_bound scope bs ks h = map-append _ scope.bound bs ∙ ap (λ js. kinds_in scope ++ js) h

inside_kinds : (scope : Scope) (p : Pattern) (ks : List Kind) → Binds p ks → kinds_in (inside scope p ks) ≡ kinds_in scope ++ ks
inside_kinds scope p ks b = more_bound scope (bind p.names ks) ks (bind_kinds p.names ks b.width)

inside_both_kinds : (scope : Scope) (state : Pattern) (js : List Kind) (pat : Pattern) (ks : List Kind) → BindsBoth state js pat ks → kinds_in (inside_both scope state js pat ks) ≡ (kinds_in scope ++ js) ++ ks
inside_both_kinds scope state js pat ks b =
    more_bound scope (bind state.names js ++ bind pat.names ks) (js ++ ks)
    (map-append _ (bind state.names js) (bind pat.names ks) ∙ rw (bind_kinds state.names js b.state_width, bind_kinds pat.names ks b.row_width) refl)
    ∙ sym (append_assoc (kinds_in scope) js ks)

-- ---- foldings

-- a state over rows of these kinds
record StateFits (inputs : List InputKind) (scope row : List Kind) (seed next : Row) (ks : List Kind) (xs ys : List Term) : Type 0 where
  pub kinds : state_kinds inputs scope row xs ys ≡ Some ks
  pub nodes : row_nodes xs + row_nodes ys ≤ length (row_node_offsets seed.parts ++ row_node_offsets next.parts)
  pub seed_depth : row_depth xs ≤ tree_row_depth seed.parts
  pub next_depth : row_depth ys ≤ tree_row_depth next.parts

state_has : (inputs : List InputKind) (scope row ks : List Kind) (seed next : List Term) → seed_kinds inputs scope seed ≡ Some ks → same_kinds ks (row_kinds inputs ((scope ++ ks) ++ row) next) ≡ true
    → state_kinds inputs scope row seed next ≡ Some ks
state_has inputs scope row ks seed next s n = rw s (rw n refl)

folding_fits : (scope : Scope) (seed : Row) (state pat : Pattern) (next : Row) (row ks : List Kind) (xs ys : List Term) → Folds scope seed state pat next row ks xs ys
    → StateFits (input_kinds scope.inputs) (kinds_in scope) row seed next ks xs ys
folding_fits scope seed state pat next row ks xs ys f =
    let first = seed_fits f.first_state in
    let later = subst (λ (js : List Kind). RowFits (input_kinds scope.inputs) js next ks ys) (inside_both_kinds scope state ks pat row f.binds) (row_fits f.next_state) in
    record {
      kinds = state_has (input_kinds scope.inputs) (kinds_in scope) row ks xs ys first.1 (next_fits (input_kinds scope.inputs) ((kinds_in scope ++ ks) ++ row) next ks ys later);
      nodes = omega (arith, first.0.nodes, later.nodes, length-append (row_node_offsets seed.parts) (row_node_offsets next.parts));
      seed_depth = first.0.depth;
      next_depth = later.depth;
    }

-- ---- streams

-- so many operators, at most so many nodes, so deep and so nested
pub record PipeFits (inputs : List InputKind) (scope : List Kind) (o n d m : ℕ) (ks : List Kind) (p : Pipe) : Type 0 where
  pub kinds : stream_kinds inputs scope p ≡ Some ks
  pub ops : counts.stream_ops p ≡ o
  pub nodes : counts.stream_nodes p ≤ n
  pub depth : counts.stream_depth p ≤ d
  pub nesting : counts.stream_nesting p ≤ m

-- the same with other bounds
within_more : (inputs : List InputKind) (scope : List Kind) (o n d m o' n' d' m' : ℕ) (ks : List Kind) (p : Pipe) → PipeFits inputs scope o n d m ks p → o ≡ o' → n ≤ n' → d ≤ d' → m ≤ m' → PipeFits inputs scope o' n' d' m' ks p
within_more inputs scope o n d m o' n' d' m' ks p s oo nn dd mm =
    record { kinds = s.kinds; ops = s.ops ∙ oo; nodes = omega (arith, s.nodes, nn); depth = omega (arith, s.depth, dd); nesting = omega (arith, s.nesting, mm) }

abbrev pub StreamFits : Scope → Stream → List Kind → Pipe → Type 0
StreamFits scope s ks p = PipeFits (input_kinds scope.inputs) (kinds_in scope) (length (stream_ops s)) (length (stream_node_offsets s)) (stream_depth s) (stream_nesting s) ks p

-- a source is one operator, and then those in it
abbrev SourceFits : Scope → Source → List Kind → Pipe → Type 0
SourceFits scope s ks p = PipeFits (input_kinds scope.inputs) (kinds_in scope) (length (source_ops s) + 1) (length (source_node_offsets s)) (source_depth s) (source_nesting s) ks p

-- what a stage or stages add to a stream of these counts
abbrev StageFits : Scope → ℕ → ℕ → ℕ → ℕ → Stage → List Kind → Pipe → Type 0
StageFits scope o n d m s ks p = PipeFits (input_kinds scope.inputs) (kinds_in scope) (o + length (stage_ops s)) (n + length (stage_node_offsets s)) (max d (stage_depth s)) (max m (stage_nesting s)) ks p

abbrev StagesFit : Scope → ℕ → ℕ → ℕ → ℕ → Stages → List Kind → Pipe → Type 0
StagesFit scope o n d m ss ks p = PipeFits (input_kinds scope.inputs) (kinds_in scope) (o + length (stages_ops ss)) (n + length (stages_node_offsets ss)) (max d (stages_depth ss)) (max m (stages_nesting ss)) ks p

unfold_has : (inputs : List InputKind) (scope state ks : List Kind) (seed : List Term) (guard : Term) (item next : List Term) → seed_kinds inputs scope seed ≡ Some state → opens inputs (scope ++ state) kind.Bool guard ≡ true
    → same_kinds state (row_kinds inputs (scope ++ state) next) ≡ true → row_kinds inputs (scope ++ state) item ≡ Some ks → stream_kinds inputs scope (term.Unfold seed guard item next) ≡ Some ks
unfold_has inputs scope state ks seed guard item next s g n i = rw s (rw (g, n) i)

zip_fits : (inputs : List InputKind) (scope : List Kind) (o p n q d e m l : ℕ) (js ks : List Kind) (a b : Pipe) → PipeFits inputs scope o n d m js a → PipeFits inputs scope p q e l ks b → length (js ++ ks) ≤ 8
    → PipeFits inputs scope (o + p + 1) (n + q) (max d e) (max m l + 1) (js ++ ks) (term.Zip a b)
zip_fits inputs scope o p n q d e m l js ks a b sa sb few =
    record {
      kinds = rw sa.kinds (rw sb.kinds (rw (le-leb (length (js ++ ks)) 8 few) refl));
      ops = omega (arith, sa.ops, sb.ops);
      nodes = omega (arith, sa.nodes, sb.nodes);
      depth = omega (arith, sa.depth, sb.depth);
      nesting = omega (arith, sa.nesting, sb.nesting);
    }

mutual
  pub stream_fits : {scope : Scope} {s : Stream} {ks : List Kind} {p : Pipe} → StreamStands scope s ks p → StreamFits scope s ks p
  stream_fits (stands.from {scope = scope} {at = at} {so = so} {ss = ss} {js = js} {ks = ks} {p = p} {q = q} s r) =
      let a = stages_fit r (length (source_ops so) + 1) (length (source_node_offsets so)) (source_depth so) (source_nesting so) (source_fits s) in
      within_more (input_kinds scope.inputs) (kinds_in scope) (length (source_ops so) + 1 + length (stages_ops ss)) (length (source_node_offsets so) + length (stages_node_offsets ss)) (max (source_depth so) (stages_depth ss))
      (max (source_nesting so) (stages_nesting ss)) (length (stream_ops (From at so ss))) (length (stream_node_offsets (From at so ss))) (stream_depth (From at so ss)) (stream_nesting (From at so ss)) ks q a
      (omega (arith, length-append (source_ops so) (stages_ops ss))) (omega (arith, length-append (source_node_offsets so) (stages_node_offsets ss))) (omega arith) (omega arith)

  source_fits : {scope : Scope} {s : Source} {ks : List Kind} {p : Pipe} → SourceStands scope s ks p → SourceFits scope s ks p
  source_fits (stands.array {scope = scope} {n = n} {i = i} h) =
      record { kinds = rw (array_fits scope n.text i h) refl; ops = refl; nodes = omega arith; depth = omega arith; nesting = omega arith }
  source_fits (stands.range {a = a} {b = b} s t) =
      let x = expression_fits s.stands in
      let y = expression_fits t.stands in
      record {
        kinds = rw (opening_fits s, opening_fits t) refl;
        ops = refl;
        nodes = omega (arith, x.nodes, y.nodes, length-append (node_offsets a) (node_offsets b));
        depth = omega (arith, x.depth, y.depth);
        nesting = omega arith;
      }
  source_fits (stands.unfold_from {scope = scope} {seed = seed} {pat = pat} {guard = guard} {item = item} {next = next} {ks = ks} {js = js} {xs = xs} {ys = ys} {zs = zs} {g = g} s b o i n) =
      let I = input_kinds scope.inputs in
      let more = inside_kinds scope pat ks b in
      let first = seed_fits s in
      let test = expression_fits o.stands in
      let opened = subst (λ (hs : List Kind). opens (input_kinds scope.inputs) hs kind.Bool g ≡ true) more (opening_fits o) in
      let items = subst (λ (hs : List Kind). RowFits (input_kinds scope.inputs) hs item js ys) more (row_fits i) in
      let nexts = subst (λ (hs : List Kind). RowFits (input_kinds scope.inputs) hs next ks zs) more (row_fits n) in
      record {
        kinds = unfold_has I (kinds_in scope) ks js xs g ys zs first.1 opened (next_fits I (kinds_in scope ++ ks) next ks zs nexts) items.kinds;
        ops = refl;
        nodes =
            omega (
              arith,
              first.0.nodes,
              test.nodes,
              items.nodes,
              nexts.nodes,
              length-append (row_node_offsets seed.parts) (node_offsets guard ++ (row_node_offsets item.parts ++ row_node_offsets next.parts)),
              length-append (node_offsets guard) (row_node_offsets item.parts ++ row_node_offsets next.parts),
              length-append (row_node_offsets item.parts) (row_node_offsets next.parts),
            );
        depth = omega (arith, first.0.depth, test.depth, items.depth, nexts.depth);
        nesting = omega arith;
      }
  source_fits (stands.zip {scope = scope} {a = a} {b = b} {js = js} {ks = ks} {p = p} {q = q} s t few) =
      let z = zip_fits (input_kinds scope.inputs) (kinds_in scope) (length (stream_ops a)) (length (stream_ops b)) (length (stream_node_offsets a)) (length (stream_node_offsets b)) (stream_depth a) (stream_depth b) (stream_nesting a) (stream_nesting b) js ks p q (stream_fits s) (stream_fits t) few in
      within_more (input_kinds scope.inputs) (kinds_in scope) (length (stream_ops a) + length (stream_ops b) + 1) (length (stream_node_offsets a) + length (stream_node_offsets b)) (max (stream_depth a) (stream_depth b)) (max (stream_nesting a) (stream_nesting b) + 1)
      (length (source_ops (Zip a b)) + 1) (length (source_node_offsets (Zip a b))) (source_depth (Zip a b)) (source_nesting (Zip a b)) (js ++ ks) (term.Zip p q) z
      (omega (arith, length-append (stream_ops a) (stream_ops b))) (omega (arith, length-append (stream_node_offsets a) (stream_node_offsets b))) (omega arith) (omega arith)

  stages_fit : {scope : Scope} {ss : Stages} {js ks : List Kind} {p q : Pipe} → StagesStand scope ss js p ks q → (o n d m : ℕ) → PipeFits (input_kinds scope.inputs) (kinds_in scope) o n d m js p → StagesFit scope o n d m ss ks q
  stages_fit (stands.no_stage {scope = scope} {ks = ks} {p = p}) o n d m is =
      within_more (input_kinds scope.inputs) (kinds_in scope) o n d m (o + 0) (n + 0) (max d 0) (max m 1) ks p is (omega arith) (omega arith) (omega arith) (omega arith)
  stages_fit (stands.one_stage {scope = scope} {s = s} {ss = ss} {ks = ks} {q = q} h r) o n d m is =
      let a = stages_fit r (o + length (stage_ops s)) (n + length (stage_node_offsets s)) (max d (stage_depth s)) (max m (stage_nesting s)) (stage_fits h o n d m is) in
      within_more (input_kinds scope.inputs) (kinds_in scope) (o + length (stage_ops s) + length (stages_ops ss)) (n + length (stage_node_offsets s) + length (stages_node_offsets ss)) (max (max d (stage_depth s)) (stages_depth ss))
      (max (max m (stage_nesting s)) (stages_nesting ss)) (o + length (stages_ops (Cons s ss))) (n + length (stages_node_offsets (Cons s ss))) (max d (stages_depth (Cons s ss))) (max m (stages_nesting (Cons s ss))) ks q a
      (omega (arith, length-append (stage_ops s) (stages_ops ss))) (omega (arith, length-append (stage_node_offsets s) (stages_node_offsets ss))) (omega arith) (omega arith)

  stage_fits : {scope : Scope} {s : Stage} {js ks : List Kind} {p q : Pipe} → StageStands scope s js p ks q → (o n d m : ℕ) → PipeFits (input_kinds scope.inputs) (kinds_in scope) o n d m js p → StageFits scope o n d m s ks q
  stage_fits (stands.map {scope = scope} {p = p} {body = body} {ks = ks} {js = js} {xs = xs} b r) o n d m is =
      let row = subst (λ (hs : List Kind). RowFits (input_kinds scope.inputs) hs body js xs) (inside_kinds scope p ks b) (row_fits r) in
      record { kinds = rw is.kinds row.kinds; ops = omega (arith, is.ops); nodes = omega (arith, is.nodes, row.nodes); depth = omega (arith, is.depth, row.depth); nesting = omega (arith, is.nesting) }
  stage_fits (stands.filter {scope = scope} {p = p} {e = e} {ks = ks} {x = x} b s) o n d m is =
      let t = subst (λ (hs : List Kind). TermFits (input_kinds scope.inputs) hs e kind.Bool x) (inside_kinds scope p ks b) (expression_fits s) in
      record { kinds = rw is.kinds (rw t.kind refl); ops = omega (arith, is.ops); nodes = omega (arith, is.nodes, t.nodes); depth = omega (arith, is.depth, t.depth); nesting = omega (arith, is.nesting) }
  stage_fits (stands.take_while {scope = scope} {p = p} {e = e} {ks = ks} {x = x} b s) o n d m is =
      let t = subst (λ (hs : List Kind). TermFits (input_kinds scope.inputs) hs e kind.Bool x) (inside_kinds scope p ks b) (expression_fits s) in
      record { kinds = rw is.kinds (rw t.kind refl); ops = omega (arith, is.ops); nodes = omega (arith, is.nodes, t.nodes); depth = omega (arith, is.depth, t.depth); nesting = omega (arith, is.nesting) }
  stage_fits (stands.take s) o n d m is =
      let t = expression_fits s.stands in
      record { kinds = rw is.kinds (rw (opening_fits s) refl); ops = omega (arith, is.ops); nodes = omega (arith, is.nodes, t.nodes); depth = omega (arith, is.depth, t.depth); nesting = omega (arith, is.nesting) }
  stage_fits (stands.drop s) o n d m is =
      let t = expression_fits s.stands in
      record { kinds = rw is.kinds (rw (opening_fits s) refl); ops = omega (arith, is.ops); nodes = omega (arith, is.nodes, t.nodes); depth = omega (arith, is.depth, t.depth); nesting = omega (arith, is.nesting) }
  stage_fits (stands.scan {scope = scope} {seed = seed} {state = state} {pat = pat} {next = next} {ks = ks} {js = js} {xs = xs} {ys = ys} f) o n d m is =
      let s = folding_fits scope seed state pat next ks js xs ys f in
      record { kinds = rw is.kinds s.kinds; ops = omega (arith, is.ops); nodes = omega (arith, is.nodes, s.nodes); depth = omega (arith, is.depth, s.seed_depth, s.next_depth); nesting = omega (arith, is.nesting) }
  stage_fits (stands.flat_map {scope = scope} {p = p} {inner = inner} {ks = ks} {js = js} {q = q} b h) o n d m is =
      let s = subst (λ (hs : List Kind). PipeFits (input_kinds scope.inputs) hs (length (stream_ops inner)) (length (stream_node_offsets inner)) (stream_depth inner) (stream_nesting inner) js q) (inside_kinds scope p ks b) (stream_fits h) in
      record { kinds = rw is.kinds s.kinds; ops = omega (arith, is.ops, s.ops); nodes = omega (arith, is.nodes, s.nodes); depth = omega (arith, is.depth, s.depth); nesting = omega (arith, is.nesting, s.nesting) }

-- ---- terminals

-- the terminal over rows of these kinds
pub record FinishFits (inputs : List InputKind) (row : List Kind) (t : Terminal) (f : Finish) : Type 0 where
  pub value : List Kind
  pub kinds : finish_kinds inputs f row ≡ Some value
  pub nodes : finish_nodes f ≤ length (terminal_node_offsets t)
  pub depth : finish_depth f ≤ terminal_depth t

pub terminal_fits : {scope : Scope} {t : Terminal} {row : List Kind} {f : Finish} → TerminalStands scope t row f → kinds_in scope ≡ [] → FinishFits (input_kinds scope.inputs) row t f
terminal_fits (stands.print {row = row}) e = record { value = row; kinds = refl; nodes = omega arith; depth = omega arith }
terminal_fits {scope = scope} (stands.fold {seed = seed} {state = state} {pat = pat} {next = next} {row = row} {ks = ks} {xs = xs} {ys = ys} f) e =
    let s = folding_fits scope seed state pat next row ks xs ys f in
    record { value = ks; kinds = rw e at s.kinds; nodes = s.nodes; depth = omega (arith, s.seed_depth, s.next_depth) }
