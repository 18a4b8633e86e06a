use Rattle.expr_lower.proofs.Contract.{value_names, condition_block_names, condition_test_names, bare_test_names, operand_statement_names, operand_word_names, value_constants, condition_constants, operand_constants, operand_word_constants}
use Rattle.expr_lower.proofs.laws.expressions_name_their_leaves.Goals as goal

pub returns-clause-values : goal.returns-clause-values
returns-clause-values c = λ scope e target has few. value_names c.laws_below.ensures scope e target has few

pub returns-clause-conditions : goal.returns-clause-conditions
returns-clause-conditions c = λ scope e scratch has few. condition_block_names c.laws_below.ensures scope e scratch has few

pub returns-clause-tests : goal.returns-clause-tests
returns-clause-tests c = λ scope e scratch has few. condition_test_names c.laws_below.ensures scope e scratch has few

pub returns-clause-bare_tests : goal.returns-clause-bare_tests
returns-clause-bare_tests c = λ may scope e scratch has none words inputs. bare_test_names c.laws_below.ensures may scope e scratch has none words inputs

pub returns-clause-operands : goal.returns-clause-operands
returns-clause-operands c = λ scope e scratch has few. operand_statement_names c.laws_below.ensures scope e scratch has few

pub returns-clause-words : goal.returns-clause-words
returns-clause-words c = λ scope e scratch has few. operand_word_names c.laws_below.ensures scope e scratch has few

pub returns-clause-value_constants : goal.returns-clause-value_constants
returns-clause-value_constants c = λ scope e target has few. value_constants c.laws_below.ensures scope e target has few

pub returns-clause-condition_constants : goal.returns-clause-condition_constants
returns-clause-condition_constants c = λ scope e scratch has few. condition_constants c.laws_below.ensures scope e scratch has few

pub returns-clause-operand_constants : goal.returns-clause-operand_constants
returns-clause-operand_constants c = λ scope e scratch has few.
    (operand_constants c.laws_below.ensures scope e scratch has few, operand_word_constants c.laws_below.ensures scope e scratch has few)
