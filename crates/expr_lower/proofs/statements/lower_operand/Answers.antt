use Rattle.std.proofs.Common.{length}
use Rattle.std.proofs.lemmas.Result.{on_ok_weaker}
use Rattle.list_denotation.specs.Copies.{term_of}
use Rattle.expr_lower.specs.Contract.{scope_of}
use Rattle.expr_lower.proofs.Contract.{yields_word}
use Rattle.expr_lower.proofs.Leaves.{bound_leaves, leaves_word}
use Rattle.expr_lower.proofs.statements.lower_operand.Goals as goal

pub lower_word-requires-clause-bound : goal.lower_word-requires-clause-bound
lower_word-requires-clause-bound c = bound_leaves (length c.args.slots.now.rows) (term_of c.args.e.now) c.requires.bound

pub returns-clause-words : goal.returns-clause-words
returns-clause-words c = on_ok_weaker c.lower_word.result (leaves_word (term_of c.args.e.now)) c.lower_word.ensures.words

pub returns-clause-yields : goal.returns-clause-yields
returns-clause-yields c =
    let slots = c.args.slots.now in
    let e = term_of c.args.e.now in
    on_ok_weaker c.lower_word.result
    (λ has. yields_word c.laws_below.ensures (scope_of slots) slots.next e c.args.scratch slots.laid_out
    (record { words = leaves_word e has; bound = c.requires.bound; temporaries = c.requires.temporaries; is_target = c.requires.target }))
    c.lower_word.ensures.words
