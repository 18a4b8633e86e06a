-- What the code has appended once it is through with an expression: the statements before it, and those of the expression.
-- Each step says it from what the parts and the rest have appended.
use Rattle.std.proofs.Common.{◌≡◌, ℕ, ◌+◌, ◌<◌, ◌^◌, List, sym, ap, subst, ◌∙◌}
use Rattle.list_denotation.specs.declared.expr.BinOp.{BinOp}
use Rattle.list_denotation.specs.Terms as term
use Rattle.list_denotation.specs.Terms.{Term}
use Rattle.loop_ir.specs.Statements.{Block, join}
use Rattle.expr_forms.specs.Forms.{Form, lowered_minus, lowered_operation, lowered_multiple}
use Rattle.expr_lower.specs.Lowering.{lowered_parts, lowered_term}
use Rattle.expr_lower.specs.Costs.{operation_temps, temps_of}
use Rattle.expr_forms.specs.FormCopies.{without_statements, kept_form, kept_rest}
use Rattle.loop_ir.proofs.Copies.{join_join}
use Rattle.expr_lower.proofs.OperationParts.{word_bare, simple_bare, multiple_block, lowered_short, minus_block, operation_block, operation_form, next_temp, right_fits, at_next}

-- the first statements and then the rest
two : (old mid new first rest : Block) → mid ≡ join old first → new ≡ join mid rest → new ≡ join old (join first rest)
two old mid new first rest h k = k ∙ ap (λ m. join m rest) h ∙ join_join old first rest

module _ (rows : List ℕ) (v t : ℕ) where
  pub minus_step : (e a : Term) (old mid new : Block) (f : Form) → e ≡ term.Neg a → mid ≡ join old (lowered_term rows a v t).block → f ≡ (lowered_term rows a v t).form → new ≡ join mid (lowered_minus (without_statements f) v).block → new ≡ join old (lowered_parts rows e v t).block
  unfolding lowered_term
  minus_step e a old mid new f shape h form k =
      let l = lowered_term rows a v t in
      two old mid new l.block (lowered_minus (without_statements f) v).block h k
      ∙ ap (λ g. join old (join l.block (lowered_minus (without_statements g) v).block)) form
      ∙ ap (join old) (sym (minus_block l.block l.form v (word_bare rows a v t)))
      ∙ ap (λ x. join old (lowered_parts rows x v t).block) (sym shape)

  pub multiple_step : (o : BinOp) (x : Term) (c : ℕ) (old mid new : Block) (f : Form) → mid ≡ join old (lowered_term rows x v t).block → f ≡ (lowered_term rows x v t).form → new ≡ join mid (lowered_multiple o x c (without_statements f) v).block → new ≡ join old (lowered_multiple o x c (lowered_term rows x v t) v).block
  multiple_step o x c old mid new f h form k =
      let l = lowered_term rows x v t in
      two old mid new l.block (lowered_multiple o x c (without_statements f) v).block h k
      ∙ ap (λ g. join old (join l.block (lowered_multiple o x c (without_statements g) v).block)) form
      ∙ ap (join old) (sym (multiple_block o x c l.block l.form v (simple_bare rows x v t)))

  -- an operation: the statements of the left operand, those that keep it, those of the right one, and the rest
  module _ (o : BinOp) (a b : Term) where
    right_at : (s : ℕ) → t + operation_temps o a b < 2 ^ 32 → s ≡ next_temp t → lowered_term rows b t s ≡ lowered_term rows b t (t + 1)
    right_at s few next = ap (lowered_term rows b t) next ∙ at_next rows o a b t few

    pub right_temps : (s : ℕ) → t + operation_temps o a b < 2 ^ 32 → s ≡ next_temp t → s + temps_of b < 2 ^ 32
    right_temps s few next =
        let Q : ℕ → Type 0 = λ x. x + temps_of b < 2 ^ 32 in
        subst Q (sym next) (right_fits o a b t few)

    pub operation_step : (s : ℕ) (old first kept second new : Block) (f g h : Form) → t + operation_temps o a b < 2 ^ 32 → s ≡ next_temp t
        → first ≡ join old (lowered_term rows a v t).block → f ≡ (lowered_term rows a v t).form
        → kept ≡ join first (kept_rest o a f v) → g ≡ kept_form o a f
        → second ≡ join kept (lowered_term rows b t s).block → h ≡ (lowered_term rows b t s).form
        → new ≡ join second (lowered_operation o a b (without_statements g) (without_statements h) v t).block
        → new ≡ join old (lowered_operation o a b (lowered_term rows a v t) (lowered_term rows b t (t + 1)) v t).block
    operation_step s old first kept second new f g h few next before form keeps form-kept after form-after k =
        let l = lowered_term rows a v t in
        let m = lowered_term rows b t s in
        let n = lowered_term rows b t (t + 1) in
        let same : m ≡ n = right_at s few next in
        let rest = λ (x y : Form). (lowered_operation o a b (without_statements x) (without_statements y) v t).block in
        let third = two kept second new m.block (rest g h) after k in
        let fourth = two first kept new (kept_rest o a f v) (join m.block (rest g h)) keeps third in
        two old first new l.block (join (kept_rest o a f v) (join m.block (rest g h))) before fourth
        ∙ ap (λ x. join old (join l.block (join (kept_rest o a f v) (join m.block (rest x h))))) form-kept
        ∙ ap (λ x. join old (join l.block (join (kept_rest o a x v) (join m.block (rest (kept_form o a x) h))))) form
        ∙ ap (λ x. join old (join l.block (join (kept_rest o a l.form v) (join m.block (rest (kept_form o a l.form) x))))) form-after
        ∙ ap (λ x. join old (join l.block (join (kept_rest o a l.form v) (join x.block (rest (kept_form o a l.form) x.form))))) same
        ∙ ap (join old) (sym (operation_block o a b l.block n.block l.form n.form v t (lowered_short rows a v t) (lowered_short rows b t (t + 1))))

    pub operation_step-form : (s : ℕ) (f g h r : Form) → t + operation_temps o a b < 2 ^ 32 → s ≡ next_temp t
        → f ≡ (lowered_term rows a v t).form → g ≡ kept_form o a f → h ≡ (lowered_term rows b t s).form
        → r ≡ (lowered_operation o a b (without_statements g) (without_statements h) v t).form
        → r ≡ (lowered_operation o a b (lowered_term rows a v t) (lowered_term rows b t (t + 1)) v t).form
    operation_step-form s f g h r few next form form-kept form-after k =
        let l = lowered_term rows a v t in
        let n = lowered_term rows b t (t + 1) in
        let same : lowered_term rows b t s ≡ n = right_at s few next in
        let rest = λ (x y : Form). (lowered_operation o a b (without_statements x) (without_statements y) v t).form in
        k
        ∙ ap (λ x. rest x h) form-kept
        ∙ ap (λ x. rest (kept_form o a x) h) form
        ∙ ap (rest (kept_form o a l.form)) form-after
        ∙ ap (λ x. rest (kept_form o a l.form) x.form) same
        ∙ sym (operation_form o a b l.block n.block l.form n.form v t)
