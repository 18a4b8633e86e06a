use Rattle.std.proofs.Common.{length}
use Rattle.std.proofs.lemmas.Result.{on_ok_weaker}
use Rattle.list_denotation.specs.Copies.{term_of}
use Rattle.expr_lower.specs.Contract.{scope_of}
use Rattle.expr_lower.proofs.Contract.{gives_value, value_names, value_constants}
use Rattle.expr_lower.proofs.Costs.{few_statements, no_loops}
use Rattle.expr_lower.proofs.Leaves.{bound_leaves, leaves_word}
use Rattle.expr_lower.proofs.statements.lower_into.Goals as goal

pub put_value-requires-clause-bound : goal.put_value-requires-clause-bound
put_value-requires-clause-bound c = bound_leaves (length c.args.slots.now.rows) (term_of c.args.e.now) c.requires.bound

pub returns-clause-words : goal.returns-clause-words
returns-clause-words c = on_ok_weaker c.put_value.result (leaves_word (term_of c.args.e.now)) c.put_value.ensures.words

pub returns-clause-gives : goal.returns-clause-gives
returns-clause-gives c =
    let slots = c.args.slots.now in
    let e = term_of c.args.e.now in
    on_ok_weaker c.put_value.result
    (λ has is. gives_value c.laws_below.ensures (scope_of slots) slots.next e c.args.target slots.laid_out
    (record { words = leaves_word e has; bound = c.requires.bound; temporaries = c.requires.temporaries; is_target = is }))
    c.put_value.ensures.words

pub returns-clause-names : goal.returns-clause-names
returns-clause-names c =
    let e = term_of c.args.e.now in
    on_ok_weaker c.put_value.result
    (λ has. value_names c.laws_below.ensures (scope_of c.args.slots.now) e c.args.target (leaves_word e has) c.requires.temporaries)
    c.put_value.ensures.words

pub returns-clause-few : goal.returns-clause-few
returns-clause-few c =
    let slots = c.args.slots.now in
    on_ok_weaker c.put_value.result (λ has. few_statements c.laws_below.ensures slots.rows (term_of c.args.e.now) c.args.target slots.first_temp) c.put_value.ensures.words

pub returns-clause-no_loops : goal.returns-clause-no_loops
returns-clause-no_loops c =
    let slots = c.args.slots.now in
    on_ok_weaker c.put_value.result (λ has. no_loops c.laws_below.ensures slots.rows (term_of c.args.e.now) c.args.target slots.first_temp) c.put_value.ensures.words

pub returns-clause-constants : goal.returns-clause-constants
returns-clause-constants c =
    let e = term_of c.args.e.now in
    on_ok_weaker c.put_value.result
    (λ has. value_constants c.laws_below.ensures (scope_of c.args.slots.now) e c.args.target (leaves_word e has) c.requires.temporaries)
    c.put_value.ensures.words
