use Rattle.expr_lower.proofs.laws.laws_below.Goals as goal

pub returns : goal.returns
returns c = record {
  constant_value = c.constants_are_values.ensures.value;
  constant_word = c.constants_are_values.ensures.words;
  minus_value = c.opposites_negate.ensures.words;
  opposite_value = c.opposites_negate.ensures.tests;
  comparison_value = c.comparisons_tell_the_signed_order.ensures.truth;
  division_assigns = c.divisions_assign_signed_results.ensures.assigns;
  division_word = c.divisions_assign_signed_results.ensures.words;
  division_few = c.divisions_assign_signed_results.ensures.few;
  division_loops = c.divisions_assign_signed_results.ensures.no_loops;
  magnitude_word = c.zero_remainders_need_no_sign.ensures.words;
  magnitude_assigns = c.zero_remainders_need_no_sign.ensures.magnitudes;
  multiple_of_magnitude = c.zero_remainders_need_no_sign.ensures.of_magnitude;
  multiple_of_word = c.zero_remainders_need_no_sign.ensures.of_word;
  magnitude_few = c.zero_remainders_need_no_sign.ensures.few;
  magnitude_loops = c.zero_remainders_need_no_sign.ensures.no_loops;
  opposite_test_leaves = c.opposites_negate.ensures.leaves;
  comparison_test_leaves = c.comparisons_tell_the_signed_order.ensures.leaves;
  multiple_test_leaves = c.zero_remainders_need_no_sign.ensures.test_leaves;
  minus_leaves = c.forms_have_the_leaves_of_their_parts.ensures.minus;
  opposite_leaves = c.forms_have_the_leaves_of_their_parts.ensures.opposite;
  condition_leaves = c.forms_have_the_leaves_of_their_parts.ensures.condition;
  value_leaves = c.forms_have_the_leaves_of_their_parts.ensures.value;
  operand_leaves = c.forms_have_the_leaves_of_their_parts.ensures.operand;
  word_leaves = c.forms_have_the_leaves_of_their_parts.ensures.word;
  operation_leaves = c.forms_have_the_leaves_of_their_parts.ensures.operation;
  multiple_leaves = c.forms_have_the_leaves_of_their_parts.ensures.multiple;
  connective_leaves = c.forms_have_the_leaves_of_their_parts.ensures.connective;
  choice_leaves = c.forms_have_the_leaves_of_their_parts.ensures.choice;
}
