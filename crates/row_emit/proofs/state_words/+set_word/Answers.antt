-- The parts of a choice fit where it does.
use Rattle.std.proofs.Common.{rules, ◌||◌, sym, ap, ◌∙◌, arith}
use Rattle.std.specs.Prelude.{is_some}
use Rattle.list_denotation.specs.Copies.{term_of}
use Rattle.list_denotation.specs.Counts.{term_depth}
use Rattle.expr_constants.specs.Constants.{constant_of}
use Rattle.expr_lower.specs.Costs.{temps_of}
use Rattle.turn_blocks.specs.WordUses.{avoids}
use Rattle.row_emit.proofs.SetWords.{parts_fit, parts_shallow}
use Rattle.row_emit.proofs.state_words.+set_word.Goals as goal

pub put_condition-requires-clause-temporaries : goal.put_condition-requires-clause-temporaries
put_condition-requires-clause-temporaries t c =
    let is = ap term_of c.in-If.is in
    let whole = sym c.is_whole.ensures ∙ c.if-not-is_whole.true in
    let same = ap term_of c.deref-in-If.ensures in
    let few = (parts_fit c.args.k c.args.slots.now.temps (term_of c.args.e.now) _ _ _ is (ap (λ x. avoids c.args.k (term_of c.args.e.now) || is_some (constant_of x)) (ap term_of (sym c.deref.ensures)) ∙ whole) c.requires.temporaries).0 in
    omega (arith, ap temps_of same, few)

pub set_word-requires : goal.set_word-requires
set_word-requires t c =
    let is = ap term_of c.in-If.is in
    let whole = sym c.is_whole.ensures ∙ c.if-not-is_whole.true in
    let same = ap term_of c.deref-in-If-2.ensures in
    let few = (parts_fit c.args.k c.args.slots.now.temps (term_of c.args.e.now) _ _ _ is (ap (λ x. avoids c.args.k (term_of c.args.e.now) || is_some (constant_of x)) (ap term_of (sym c.deref.ensures)) ∙ whole) c.requires.temporaries).1.0 in
    (omega (arith, (parts_shallow (term_of c.args.e.now) _ _ _ is).0, ap term_depth same), (search rules, (search rules, (omega (arith, ap temps_of same, few), search rules))))

pub set_word-requires-in-If : goal.set_word-requires-in-If
set_word-requires-in-If t c =
    let is = ap term_of c.in-If.is in
    let whole = sym c.is_whole.ensures ∙ c.if-not-is_whole.true in
    let same = ap term_of c.deref-in-If-3.ensures in
    let few = (parts_fit c.args.k c.args.slots.now.temps (term_of c.args.e.now) _ _ _ is (ap (λ x. avoids c.args.k (term_of c.args.e.now) || is_some (constant_of x)) (ap term_of (sym c.deref.ensures)) ∙ whole) c.requires.temporaries).1.1 in
    (omega (arith, (parts_shallow (term_of c.args.e.now) _ _ _ is).1, ap term_depth same), (search rules, (search rules, (omega (arith, ap temps_of same, few), search rules))))
