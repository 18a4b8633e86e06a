-- A minus and an operation: the statements of the parts and then the rest are those of the expression.
use Rattle.std.proofs.Common.{rules, ◌≡◌, ◌+◌, ◌<◌, ◌^◌, length, Some, None, sym, ap, ◌∙◌, subst, arith}
use Rattle.std.proofs.lemmas.Result.{on_ok_weaker, IfOk-weaker}
use Rattle.list_denotation.specs.Copies.{term_of}
use Rattle.list_denotation.specs.Terms as term
use Rattle.expr_lower.specs.Costs.{parts_temps, temps_of}
use Rattle.expr_forms.specs.FormCopies.{form_of}
use Rattle.expr_lower.specs.Multiples.{multiple_divisor}
use Rattle.expr_lower.specs.Scopes.{EachLeaf, IsBoundLeaf}
use Rattle.expr_lower.proofs.MultipleTests.{first_temps, second_temps, multiple_not_zero, dividend_leaves}
use Rattle.expr_lower.proofs.AppendedForms.{minus_step, multiple_step, right_temps, operation_step, operation_step-form}
use Rattle.expr_lower.proofs.lowering.+terms.Goals as goal

pub lower_parts-returns-in_ok-form-in-Neg-clause-block : goal.lower_parts-returns-in_ok-form-in-Neg-clause-block
lower_parts-returns-in_ok-form-in-Neg-clause-block t c =
    let a = term_of c.deref.result.now in
    let shape : term_of c.args.e.now ≡ term.Neg a = ap term_of c.in-Neg.is ∙ ap (λ x. term.Neg (term_of x)) (sym c.deref.ensures) in
    let before = c.in_ok-form-in-Neg.ensures in
    on_ok_weaker c.negated.result
    (minus_step c.args.rows.now c.args.frame.target c.args.frame.first_temp (term_of c.args.e.now) a _ _ _ (form_of c.in_ok-form-in-Neg.form) shape before.block before.form)
    c.negated.ensures.block

pub lower_operation-lower_form-requires-2 : goal.lower_operation-lower_form-requires-2
lower_operation-lower_form-requires-2 t c =
    let few = right_temps c.args.rows.now c.args.frame.target c.args.frame.first_temp c.args.op (term_of c.args.a.now) (term_of c.args.b.now) c.saturating_add.result c.requires.few c.saturating_add.ensures in
    (search rules, (search rules, (search rules, few)))

pub lower_operation-returns-clause-block : goal.lower_operation-returns-clause-block
lower_operation-returns-clause-block t c =
    let first = c.in_ok-form.ensures in
    let kept = c.in_ok-form-2.ensures in
    let second = c.in_ok-form-3.ensures in
    on_ok_weaker c.operation.result
    (operation_step c.args.rows.now c.args.frame.target c.args.frame.first_temp c.args.op (term_of c.args.a.now) (term_of c.args.b.now) c.saturating_add.result _ _ _ _ _
    (form_of c.in_ok-form.form) (form_of c.in_ok-form-2.form) (form_of c.in_ok-form-3.form)
    c.requires.few c.saturating_add.ensures first.block first.form kept.block kept.form second.block second.form)
    c.operation.ensures.block

pub lower_operation-returns-clause-form : goal.lower_operation-returns-clause-form
lower_operation-returns-clause-form t c =
    IfOk-weaker c.operation.result _ _
    (λ r. operation_step-form c.args.rows.now c.args.frame.target c.args.frame.first_temp c.args.op (term_of c.args.a.now) (term_of c.args.b.now) c.saturating_add.result
    (form_of c.in_ok-form.form) (form_of c.in_ok-form-2.form) (form_of c.in_ok-form-3.form) (form_of r)
    c.requires.few c.saturating_add.ensures c.in_ok-form.ensures.form c.in_ok-form-2.ensures.form c.in_ok-form-3.ensures.form)
    c.operation.ensures.form

pub lower_multiple-returns-clause-block : goal.lower_multiple-returns-clause-block
lower_multiple-returns-clause-block t c =
    let x = term_of c.args.x.now in
    let before = c.in_ok-form.ensures in
    on_ok_weaker c.multiple.result
    (multiple_step c.args.rows.now c.args.frame.target c.args.frame.first_temp c.args.op x c.args.c _ _ _ (form_of c.in_ok-form.form) before.block before.form)
    c.multiple.ensures.block

pub lower_binary-lower_multiple-requires : goal.lower_binary-lower_multiple-requires
lower_binary-lower_multiple-requires t c =
    let op = c.args.op in
    let a = term_of c.args.a.now in
    let b = term_of c.args.b.now in
    let divided : multiple_divisor op a b ≡ Some c.in-Some.c = cc in
    let is = c.dividend.ensures.is in
    let same : temps_of (term_of c.dividend.result.now) ≡ parts_temps (term.Bin op a b) = ap temps_of is ∙ sym (first_temps op a b c.in-Some.c divided) in
    let few : c.args.frame.first_temp + temps_of (term_of c.dividend.result.now) < 2 ^ 32 = omega (arith, same, c.requires.few) in (
      search rules,
      (
        multiple_not_zero op a b c.in-Some.c divided,
        (subst (λ x. EachLeaf (IsBoundLeaf (length c.args.rows.now)) x) (sym is) (dividend_leaves (IsBoundLeaf (length c.args.rows.now)) a c.requires.bound.0), (c.requires.variables, few)),
      ),
    )

pub lower_binary-lower_multiple-requires-in-Some-multiple_divisor : goal.lower_binary-lower_multiple-requires-in-Some-multiple_divisor
lower_binary-lower_multiple-requires-in-Some-multiple_divisor t c =
    let op = c.args.op in
    let a = term_of c.args.a.now in
    let b = term_of c.args.b.now in
    let none : multiple_divisor op a b ≡ None = cc in
    let divided : multiple_divisor op b a ≡ Some c.in-Some-multiple_divisor.c = cc in
    let is = c.dividend-in-Some-multiple_divisor.ensures.is in
    let same : temps_of (term_of c.dividend-in-Some-multiple_divisor.result.now) ≡ parts_temps (term.Bin op a b) = ap temps_of is ∙ sym (second_temps op a b c.in-Some-multiple_divisor.c none divided) in
    let few : c.args.frame.first_temp + temps_of (term_of c.dividend-in-Some-multiple_divisor.result.now) < 2 ^ 32 = omega (arith, same, c.requires.few) in (
      search rules,
      (
        multiple_not_zero op b a c.in-Some-multiple_divisor.c divided,
        (subst (λ x. EachLeaf (IsBoundLeaf (length c.args.rows.now)) x) (sym is) (dividend_leaves (IsBoundLeaf (length c.args.rows.now)) b c.requires.bound.1), (c.requires.variables, few)),
      ),
    )
