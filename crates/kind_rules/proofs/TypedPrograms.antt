-- A program that a tree stands for is typed, and within the limits where the tree is.
use Rattle.std.proofs.Common.{◌≡◌, ◌≤◌, ◌+◌, ◌∷◌, [], length, Bool, true, ◌&&◌, nat_le, IsTrue, refl, arith, length-append, le-leb}
use Rattle.std.proofs.lemmas.Bool.{and_from}
use Rattle.std.proofs.lemmas.List.{length-map}
use Rattle.list_denotation.specs.Counts as counts
use Rattle.list_denotation.specs.Terms.{Pipeline}
use Rattle.list_denotation.specs.Typing.{program_kinds, has_kinds, is_within_limits}
use Rattle.pipe_tree.specs.Bounds.{IsBounded, stream_ops, stream_node_offsets, terminal_node_offsets}
use Rattle.pipe_tree.specs.Trees.{Text}
use Rattle.kind_rules.specs.StandsFor.{StandsFor}
use Rattle.kind_rules.proofs.TypedStreams.{stream_fits, terminal_fits}

program_has_kinds : (t : Text) (p : Pipeline) → StandsFor t p → has_kinds (program_kinds p.inputs p.stream p.terminal) ≡ true
program_has_kinds t p h =
    let s = stream_fits h.stream_stands in
    let f = terminal_fits h.terminal_stands refl in
    rw h.inputs (rw s.kinds (rw f.kinds refl))

all_six : (a b c d e f : Bool) → a ≡ true → b ≡ true → c ≡ true → d ≡ true → e ≡ true → f ≡ true → (a && (b && (c && (d && (e && f))))) ≡ true
all_six a b c d e f ha hb hc hd he hf = and_from a _ ha (and_from b _ hb (and_from c _ hc (and_from d _ hd (and_from e f he hf))))

program_is_within : (t : Text) (p : Pipeline) → StandsFor t p → IsBounded t → is_within_limits p.inputs p.stream p.terminal ≡ true
program_is_within t p h b =
    let s = stream_fits h.stream_stands in
    let f = terminal_fits h.terminal_stands refl in
    let inputs : length p.inputs ≤ 16 = rw h.inputs (rw length-map (rw length-map at b.inputs)) in
    let ops : counts.stream_ops p.stream + 1 ≤ 128 = omega (arith, s.ops, b.ops, length-append (stream_ops t.stream) (t.terminal_at ∷ [])) in
    let nodes : counts.stream_nodes p.stream + counts.finish_nodes p.terminal ≤ 8192 = omega (arith, s.nodes, f.nodes, b.nodes, length-append (stream_node_offsets t.stream) (terminal_node_offsets t.terminal)) in
    let stream_deep : counts.stream_depth p.stream ≤ 200 = omega (arith, s.depth, b.within.depth) in
    let terminal_deep : counts.finish_depth p.terminal ≤ 200 = omega (arith, f.depth, b.within.depth) in
    let nesting : counts.stream_nesting p.stream ≤ 16 = omega (arith, s.nesting, b.within.nesting) in
    all_six (nat_le (length p.inputs) 16) (nat_le (counts.stream_ops p.stream + 1) 128) (nat_le (counts.stream_nodes p.stream + counts.finish_nodes p.terminal) 8192) (nat_le (counts.stream_depth p.stream) 200)
    (nat_le (counts.finish_depth p.terminal) 200) (nat_le (counts.stream_nesting p.stream) 16)
    (le-leb (length p.inputs) 16 inputs) (le-leb (counts.stream_ops p.stream + 1) 128 ops) (le-leb (counts.stream_nodes p.stream + counts.finish_nodes p.terminal) 8192 nodes)
    (le-leb (counts.stream_depth p.stream) 200 stream_deep) (le-leb (counts.finish_depth p.terminal) 200 terminal_deep) (le-leb (counts.stream_nesting p.stream) 16 nesting)

pub typed_program : (t : Text) (p : Pipeline) → StandsFor t p → IsBounded t
    → IsTrue (has_kinds (program_kinds p.inputs p.stream p.terminal) && is_within_limits p.inputs p.stream p.terminal)
typed_program t p h b =
    and_from (has_kinds (program_kinds p.inputs p.stream p.terminal)) (is_within_limits p.inputs p.stream p.terminal) (program_has_kinds t p h) (program_is_within t p h b)
