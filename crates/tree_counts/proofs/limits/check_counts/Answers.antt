use Rattle.std.proofs.Common.{ℕ, List, map, sym, ◌∙◌, ap}
use Rattle.pipe_tree.specs.declared.tree.Decl.{Decl}
use Rattle.pipe_tree.specs.Bounds.{text_input_offsets, text_op_offsets, text_node_offsets}
use Rattle.tree_counts.specs.Counting.{count_of}
use Rattle.pipe_tree.specs.TreeCopies.{declaration_of, text_of}
use Rattle.pipe_tree.specs.Trees.{Declaration}
use Rattle.tree_counts.proofs.CountSteps.{count_fits, count_past}
use Rattle.tree_counts.proofs.limits.check_counts.Goals as goal

offsets_of : List Decl → List ℕ
offsets_of ds = map (λ (d : Declaration). d.at) (map declaration_of ds)

pub returns-in-Err : goal.returns-in-Err
unfolding offsets_of
returns-in-Err c =
    count_past (text_input_offsets (text_of c.args.tree.now)) 16 c.in-Err.past.at
    (ap (λ ds. count_of (offsets_of ds) 16) (sym c.as_slice.ensures) ∙ sym c.count_inputs.ensures ∙ c.in-Err.is)

pub returns-in-Err-count_ops : goal.returns-in-Err-count_ops
unfolding offsets_of
returns-in-Err-count_ops c =
    let tree = text_of c.args.tree.now in (
      count_fits (text_input_offsets tree) 16 c.in_default.field-0
          (ap (λ ds. count_of (offsets_of ds) 16) (sym c.as_slice.ensures) ∙ sym c.count_inputs.ensures ∙ c.in_default.is),
      count_past (text_op_offsets tree) 128 c.in-Err-count_ops.past.at (sym c.count_ops.ensures ∙ c.in-Err-count_ops.is),
    )

pub returns-in-Err-count_nodes : goal.returns-in-Err-count_nodes
unfolding offsets_of
returns-in-Err-count_nodes c =
    let tree = text_of c.args.tree.now in (
      count_fits (text_input_offsets tree) 16 c.in_default.field-0
          (ap (λ ds. count_of (offsets_of ds) 16) (sym c.as_slice.ensures) ∙ sym c.count_inputs.ensures ∙ c.in_default.is),
      count_fits (text_op_offsets tree) 128 c.in_default-count_ops.field-0 (sym c.count_ops.ensures ∙ c.in_default-count_ops.is),
      count_past (text_node_offsets tree) 8192 c.in-Err-count_nodes.past.at (sym c.count_nodes.ensures ∙ c.in-Err-count_nodes.is),
    )

pub returns : goal.returns
unfolding offsets_of
returns c =
    let tree = text_of c.args.tree.now in
    record {
      inputs =
          count_fits (text_input_offsets tree) 16 c.in_default.field-0
          (ap (λ ds. count_of (offsets_of ds) 16) (sym c.as_slice.ensures) ∙ sym c.count_inputs.ensures ∙ c.in_default.is);
      ops = count_fits (text_op_offsets tree) 128 c.in_default-count_ops.field-0 (sym c.count_ops.ensures ∙ c.in_default-count_ops.is);
      nodes = count_fits (text_node_offsets tree) 8192 c.in_default-count_nodes.field-0 (sym c.count_nodes.ensures ∙ c.in_default-count_nodes.is);
    }
