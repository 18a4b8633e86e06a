use Rattle.turn_blocks.proofs.laws.laws_below.Goals as goal

pub returns : goal.returns
returns c = record {
  values = c.expressions_are_lowered.ensures.values;
  conditions = c.expressions_are_lowered.ensures.conditions;
  operands = c.expressions_are_lowered.ensures.operands;
  fresh_target = c.scopes_hold_expressions.ensures.target;
  plain_block = c.plain_expressions_are_words.ensures.values;
  plain_value = c.plain_expressions_are_words.ensures.gives;
  undivided_value = c.undivided_expressions_have_values.ensures.expressions;
  constant_value = c.constants_are_values.ensures.value;
  names_of_value = c.expressions_name_their_leaves.ensures.values;
  names_of_condition = c.expressions_name_their_leaves.ensures.conditions;
  names_of_test = c.expressions_name_their_leaves.ensures.tests;
  names_of_bare_test = c.expressions_name_their_leaves.ensures.bare_tests;
  names_of_operand = c.expressions_name_their_leaves.ensures.operands;
  names_of_word = c.expressions_name_their_leaves.ensures.words;
  constants_of_value = c.expressions_name_their_leaves.ensures.value_constants;
  constants_of_condition = c.expressions_name_their_leaves.ensures.condition_constants;
  constants_of_operand = c.expressions_name_their_leaves.ensures.operand_constants;
}
