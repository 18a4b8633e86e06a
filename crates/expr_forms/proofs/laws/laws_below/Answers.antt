use Rattle.expr_forms.proofs.laws.laws_below.Goals as goal

pub returns : goal.returns
returns c = record {
  constant_word = c.constants_are_values.ensures.words;
  opposite_leaves = c.opposites_negate.ensures.leaves;
  comparison_leaves = c.comparisons_tell_the_signed_order.ensures.leaves;
  division_leaves = c.divisions_assign_signed_results.ensures.leaves;
  magnitude_leaves = c.zero_remainders_need_no_sign.ensures.block_leaves;
  multiple_leaves = c.zero_remainders_need_no_sign.ensures.test_leaves;
}
