use Rattle.expr_forms.proofs.LeafTests.{minus_form_in, not_form_in, condition_of_in, into_in, operand_block_in, operand_in_in, operation_in, multiple_in, connective_in, choice_in}
use Rattle.expr_forms.proofs.laws.forms_have_the_leaves_of_their_parts.Goals as goal

pub returns-clause-minus : goal.returns-clause-minus
returns-clause-minus c = λ passes a v is h at. minus_form_in c.laws_below.ensures passes is a v h at

pub returns-clause-opposite : goal.returns-clause-opposite
returns-clause-opposite c = λ passes a is h. not_form_in c.laws_below.ensures passes is a h

pub returns-clause-condition : goal.returns-clause-condition
returns-clause-condition c = λ passes l v is h at. condition_of_in c.laws_below.ensures passes is l v h at

pub returns-clause-value : goal.returns-clause-value
returns-clause-value c = λ passes l v is h at. into_in c.laws_below.ensures passes is l v h at

pub returns-clause-operand : goal.returns-clause-operand
returns-clause-operand c = λ passes l v is h at. operand_block_in c.laws_below.ensures passes is l v h (λ none. at)

pub returns-clause-word : goal.returns-clause-word
returns-clause-word c = λ passes l v is h at. operand_in_in c.laws_below.ensures passes is l.form v h.form (λ none. at)

pub returns-clause-operation : goal.returns-clause-operation
returns-clause-operation c = λ passes o x y a b v t is has_x has_y h k at word temp. operation_in c.laws_below.ensures passes is o x y a b v t has_x has_y h k at word temp

pub returns-clause-multiple : goal.returns-clause-multiple
returns-clause-multiple c = λ passes o x k l v is word h at. multiple_in c.laws_below.ensures passes is o x k l v word h at

pub returns-clause-connective : goal.returns-clause-connective
returns-clause-connective c = λ passes o a b v is h k at. connective_in c.laws_below.ensures passes is o a b v h k at

pub returns-clause-choice : goal.returns-clause-choice
returns-clause-choice c = λ passes a b m is h j k. choice_in c.laws_below.ensures passes is a b m h j k
