use Rattle.std.proofs.Common.{sym, ◌∙◌}
use Rattle.list_denotation.specs.Copies.{term_of}
use Rattle.stateful_core.specs.CoreCopies.{actions_of}
use Rattle.word_uses.proofs.WordUses.{let_tested, let_unused, let_copied}
use Rattle.word_uses.proofs.new_words.let_use.Goals as goal

pub returns-then-is_test_of : goal.returns-then-is_test_of
returns-then-is_test_of c =
    sym (let_tested c.args.place.scope c.args.place.states c.args.width c.args.x (term_of c.args.e.now) (actions_of c.args.acts.now) c.if-x-eq0.false (cc) (sym (c.is_test_of.ensures c.args.place.scope c.args.place.states) ∙ c.if-is_test_of.true))

pub returns-then-is_unused : goal.returns-then-is_unused
returns-then-is_unused c =
    sym (let_unused c.args.place.scope c.args.place.states c.args.width c.args.x (term_of c.args.e.now) (actions_of c.args.acts.now) c.if-x-eq0.false (cc) (sym (c.is_test_of.ensures c.args.place.scope c.args.place.states) ∙ c.if-is_test_of.false) (sym c.is_unused.ensures ∙ c.if-is_unused.true))

pub returns-else-is_unused : goal.returns-else-is_unused
returns-else-is_unused c =
    c.copy_use-else-is_unused.ensures ∙ sym (let_copied c.args.place.scope c.args.place.states c.args.width c.args.x (term_of c.args.e.now) (actions_of c.args.acts.now) c.if-x-eq0.false (cc) (sym (c.is_test_of.ensures c.args.place.scope c.args.place.states) ∙ c.if-is_test_of.false) (sym c.is_unused.ensures ∙ c.if-is_unused.false))
