use Rattle.std.proofs.Common.{◌≡◌, ℕ, List, [], ◌∷◌, take, true, false, refl, sym, ap, ◌∙◌, subst, arith}
use Rattle.std.specs.Prelude.{Ok, Err, slice_get, slice_set}
use Rattle.std.proofs.lemmas.Result.{err_from_is_err_and}
use Rattle.list_denotation.specs.declared.event.Event.TheVariants as event
use Rattle.list_denotation.specs.Inputs.{items_in}
use Rattle.list_denotation.specs.Observation.{Failed}
use Rattle.list_denotation.specs.Values.{Is, Fails, Stuck, with_value}
use Rattle.loop_ir.specs.Statements.{Set, Read, If, Loop, Emit, EndRow, Ret}
use Rattle.loop_ir.specs.Meaning.{Runs, on_value, on_test, item_of, operand_value, test_value, verdict_of, run, run_one}
use Rattle.loop_ir.specs.StatementCopies.{operand_of, test_of, statement_of, block_of}
use Rattle.loop_ir.proofs.Copies.{set_copy, read_copy, if_copy, loop_copy, emit_copy, end_copy, return_copy}
use Rattle.loop_interp.specs.Runs.{BeginsTurn, state_of}
use Rattle.loop_interp.proofs.Following.{comes_at_once}
use Rattle.loop_interp.proofs.Steps.{follows_same, ends_here, assigned, value_of_value, item_done, item_stops, turning_begins, no_turn_begins, no_turn_more}
use Rattle.loop_interp.proofs.Turns.{turned, turn_stops}
use Rattle.loop_interp.proofs.statements.+statements.Goals as goal

pub block-loop-s-init : goal.block-loop-s-init
block-loop-s-init g t c = record {
  comes = comes_at_once _ (state_of c.args.vars (g.O.Sink.written c.args.sink.now) (g.O.Sink.faults c.args.sink.now) c.args.regs.now c.args.progress.now);
  ready = c.requires;
}

pub block-returns-in_err-statement-clause-follows : goal.block-returns-in_err-statement-clause-follows
block-returns-in_err-statement-clause-follows g t c =
    let p = err_from_is_err_and c.from_residual.result c.from_residual.ensures.1 in
    rw (p.1, p.2)
    (item_stops c.args.inputs.now _ c.args.body.now c.loop-s.s-index c.s-item.result (omega arith) c.s-item.is
    (state_of c.args.vars (g.O.Sink.written c.args.sink.now) (g.O.Sink.faults c.args.sink.now) c.args.regs.now c.args.progress.now)
    (state_of c.args.vars (g.O.Sink.written c.loop-s.sink) (g.O.Sink.faults c.loop-s.sink) c.loop-s.regs c.loop-s.progress)
    c.loop-s.invariant.comes
    (state_of c.args.vars (g.O.Sink.written c.statement.new.sink) (g.O.Sink.faults c.statement.new.sink) c.statement.new.regs c.statement.new.progress)
    c.in_err-statement.field-0.0 c.in_err-statement.ensures.follows)

pub block-loop-s-preserved : goal.block-loop-s-preserved
block-loop-s-preserved g t c = record {
  comes = item_done c.args.inputs.now _ c.args.body.now c.loop-s.s-index c.s-item.result (omega arith) c.s-item.is
      (state_of c.args.vars (g.O.Sink.written c.args.sink.now) (g.O.Sink.faults c.args.sink.now) c.args.regs.now c.args.progress.now)
      (state_of c.args.vars (g.O.Sink.written c.loop-s.sink) (g.O.Sink.faults c.loop-s.sink) c.loop-s.regs c.loop-s.progress)
      c.loop-s.invariant.comes
      (state_of c.args.vars (g.O.Sink.written c.statement.new.sink) (g.O.Sink.faults c.statement.new.sink) c.statement.new.regs c.statement.new.progress)
      c.in_ok-statement.ensures.follows;
  ready = c.in_ok-statement.ensures.ready;
}

pub statement-returns-in-Set-clause-follows : goal.statement-returns-in-Set-clause-follows
statement-returns-in-Set-clause-follows g t c =
    let s = state_of c.args.vars (g.O.Sink.written c.args.sink.now) (g.O.Sink.faults c.args.sink.now) c.args.regs.now c.args.progress.now in
    let copy : statement_of c.args.s.now ≡ Set c.in-Set.v (operand_of c.in-Set.w) = ap statement_of c.in-Set.is ∙ set_copy c.in-Set.v c.in-Set.w in
    follows_same _ _ s _ c.assign.result (ap (λ q. run_one c.args.inputs.now q s.env s.left) copy)
    (assigned (operand_value c.args.inputs.now (operand_of c.in-Set.w) s.env) c.operand-x.result c.in-Set.v s (take c.args.vars c.assign.new.words) c.assign.result
    (rw c.env.ensures at c.operand-x.ensures) c.assign.ensures.assigns)

pub statement-returns-in-Read-clause-follows : goal.statement-returns-in-Read-clause-follows
statement-returns-in-Read-clause-follows g t c =
    let s = state_of c.args.vars (g.O.Sink.written c.args.sink.now) (g.O.Sink.faults c.args.sink.now) c.args.regs.now c.args.progress.now in
    let copy : statement_of c.args.s.now ≡ Read c.in-Read.v c.in-Read.a (operand_of c.in-Read.w) = ap statement_of c.in-Read.is ∙ read_copy c.in-Read.v c.in-Read.a c.in-Read.w in
    let index = operand_value c.args.inputs.now (operand_of c.in-Read.w) s.env in
    let item = λ (i : ℕ). item_of (slice_get (items_in (slice_get c.args.inputs.now c.in-Read.a)) i) in
    let set = λ (x : ℕ). Runs [] (slice_set s.env c.in-Read.v x) s.left in
    follows_same _ _ s _ c.assign-in-Read.result
    (ap (λ q. run_one c.args.inputs.now q s.env s.left) copy ∙ value_of_value index item set)
    (assigned (with_value index item) c.read-x.result c.in-Read.v s (take c.args.vars c.assign-in-Read.new.words) c.assign-in-Read.result
    (rw c.env-in-Read.ensures at c.read-x.ensures) c.assign-in-Read.ensures.assigns)

pub statement-returns-in-None-clause-follows : goal.statement-returns-in-None-clause-follows
statement-returns-in-None-clause-follows g t c =
    let s = state_of c.args.vars (g.O.Sink.written c.args.sink.now) (g.O.Sink.faults c.args.sink.now) c.args.regs.now c.args.progress.now in
    let copy : statement_of c.args.s.now ≡ If (test_of c.in-If.t) (block_of c.in-If.a) (block_of c.in-If.b) = ap statement_of c.in-If.is ∙ if_copy c.in-If.t c.in-If.a c.in-If.b in
    let value : Fails Stuck ≡ test_value c.args.inputs.now (test_of c.in-If.t) s.env = rw c.env-in-If.ensures at c.in-None.ensures in
    let first = run c.args.inputs.now (block_of c.in-If.a) s.env s.left in
    let second = run c.args.inputs.now (block_of c.in-If.b) s.env s.left in
    follows_same _ _ s s (Err _)
    (ap (λ q. run_one c.args.inputs.now q s.env s.left) copy ∙ ap (λ v. on_test v first second) (sym value))
    (ends_here s (Failed Stuck) _ refl)

pub statement-returns-in-Some-clause-follows : goal.statement-returns-in-Some-clause-follows
statement-returns-in-Some-clause-follows g t c =
    let s = state_of c.args.vars (g.O.Sink.written c.args.sink.now) (g.O.Sink.faults c.args.sink.now) c.args.regs.now c.args.progress.now in
    let copy : statement_of c.args.s.now ≡ Emit (operand_of c.in-Emit.w) = ap statement_of c.in-Emit.is ∙ emit_copy c.in-Emit.w in
    let value : Is c.in-Some.x ≡ operand_value c.args.inputs.now (operand_of c.in-Emit.w) s.env = rw c.env-in-Emit.ensures at c.in-Some.ensures in
    follows_same _ _ s _ c.number.result
    (ap (λ q. run_one c.args.inputs.now q s.env s.left) copy ∙ ap (λ v. on_value v (λ x. Runs (event.Emit x ∷ []) s.env s.left)) (sym value))
    (c.number.ensures.follows c.args.vars)

pub statement-returns-in-None-operand-clause-follows : goal.statement-returns-in-None-operand-clause-follows
statement-returns-in-None-operand-clause-follows g t c =
    let s = state_of c.args.vars (g.O.Sink.written c.args.sink.now) (g.O.Sink.faults c.args.sink.now) c.args.regs.now c.args.progress.now in
    let copy : statement_of c.args.s.now ≡ Emit (operand_of c.in-Emit.w) = ap statement_of c.in-Emit.is ∙ emit_copy c.in-Emit.w in
    let value : Fails Stuck ≡ operand_value c.args.inputs.now (operand_of c.in-Emit.w) s.env = rw c.env-in-Emit.ensures at c.in-None-operand.ensures in
    follows_same _ _ s s (Err _)
    (ap (λ q. run_one c.args.inputs.now q s.env s.left) copy ∙ ap (λ v. on_value v (λ x. Runs (event.Emit x ∷ []) s.env s.left)) (sym value))
    (ends_here s (Failed Stuck) _ refl)

pub statement-returns-in-EndRow-clause-follows : goal.statement-returns-in-EndRow-clause-follows
statement-returns-in-EndRow-clause-follows g t c =
    let s = state_of c.args.vars (g.O.Sink.written c.args.sink.now) (g.O.Sink.faults c.args.sink.now) c.args.regs.now c.args.progress.now in
    let copy : statement_of c.args.s.now ≡ EndRow = ap statement_of c.in-EndRow.is ∙ end_copy in
    follows_same _ _ s _ c.row_end.result (ap (λ q. run_one c.args.inputs.now q s.env s.left) copy) (c.row_end.ensures.follows c.args.vars)

pub statement-returns-in-Ret-clause-follows : goal.statement-returns-in-Ret-clause-follows
statement-returns-in-Ret-clause-follows g t c =
    let s = state_of c.args.vars (g.O.Sink.written c.args.sink.now) (g.O.Sink.faults c.args.sink.now) c.args.regs.now c.args.progress.now in
    let copy : statement_of c.args.s.now ≡ Ret c.in-Ret.v = ap statement_of c.in-Ret.is ∙ return_copy c.in-Ret.v in
    follows_same _ _ s s (Err c.returned.result) (ap (λ q. run_one c.args.inputs.now q s.env s.left) copy) (ends_here s (verdict_of c.in-Ret.v) c.returned.result c.returned.ensures)

pub statement-loop-regs-init : goal.statement-loop-regs-init
statement-loop-regs-init g t c =
    let s = state_of c.args.vars (g.O.Sink.written c.args.sink.now) (g.O.Sink.faults c.args.sink.now) c.args.regs.now c.args.progress.now in
    let copy : statement_of c.args.s.now ≡ Loop (test_of c.in-Loop.t) (block_of c.in-Loop.body) = ap statement_of c.in-Loop.is ∙ loop_copy c.in-Loop.t c.in-Loop.body in
    record {
      turning = turning_begins _ (test_value c.args.inputs.now (test_of c.in-Loop.t)) (run c.args.inputs.now (block_of c.in-Loop.body)) s (ap (λ q. run_one c.args.inputs.now q s.env s.left) copy);
      ready = c.requires;
    }

pub statement-returns-in_err-turn-in-Loop-clause-follows : goal.statement-returns-in_err-turn-in-Loop-clause-follows
statement-returns-in_err-turn-in-Loop-clause-follows g t c =
    let s = state_of c.args.vars (g.O.Sink.written c.args.sink.now) (g.O.Sink.faults c.args.sink.now) c.args.regs.now c.args.progress.now in
    let s' = state_of c.args.vars (g.O.Sink.written c.loop-regs.sink) (g.O.Sink.faults c.loop-regs.sink) c.loop-regs.regs c.loop-regs.progress in
    let guard = test_value c.args.inputs.now (test_of c.in-Loop.t) in
    let body = run c.args.inputs.now (block_of c.in-Loop.body) in
    let p = err_from_is_err_and c.from_residual.result c.from_residual.ensures.1 in
    rw (p.1, p.2)
    (no_turn_begins _ guard body s s' c.loop-regs.invariant.turning c.turn.new.left c.in_err-turn-in-Loop.field-0.0
    (subst (λ (e : List ℕ). BeginsTurn (guard e) s'.left c.turn.new.left (Err c.in_err-turn-in-Loop.field-0.0)) c.env-in-loop-regs.ensures c.in_err-turn-in-Loop.ensures))

pub statement-loop-regs-preserved : goal.statement-loop-regs-preserved
statement-loop-regs-preserved g t c =
    let s = state_of c.args.vars (g.O.Sink.written c.args.sink.now) (g.O.Sink.faults c.args.sink.now) c.args.regs.now c.args.progress.now in
    let s' = state_of c.args.vars (g.O.Sink.written c.loop-regs.sink) (g.O.Sink.faults c.loop-regs.sink) c.loop-regs.regs c.loop-regs.progress in
    let guard = test_value c.args.inputs.now (test_of c.in-Loop.t) in
    let body = run c.args.inputs.now (block_of c.in-Loop.body) in
    let begins : BeginsTurn (guard s'.env) s'.left c.turn.new.left (Ok true) =
    subst (λ b. BeginsTurn (guard s'.env) s'.left c.turn.new.left (Ok b)) c.if-branch.true (subst (λ (e : List ℕ). BeginsTurn (guard e) s'.left c.turn.new.left (Ok c.in_ok-turn-in-Loop.field-0)) c.env-in-loop-regs.ensures c.in_ok-turn-in-Loop.ensures) in
    let s'' = state_of c.args.vars (g.O.Sink.written c.block-in-loop-regs.new.sink) (g.O.Sink.faults c.block-in-loop-regs.new.sink) c.block-in-loop-regs.new.regs c.block-in-loop-regs.new.progress in
    record {
      turning = turned _ guard body s s' c.loop-regs.invariant.turning begins.0 c.turn.new.left begins.1 s''
          (rw c.as_slice-in-loop-regs.ensures at c.in_ok-block-in-Loop.ensures.follows);
      ready = c.in_ok-block-in-Loop.ensures.ready;
    }

pub statement-returns-in_err-block-in-Loop-clause-follows : goal.statement-returns-in_err-block-in-Loop-clause-follows
statement-returns-in_err-block-in-Loop-clause-follows g t c =
    let s = state_of c.args.vars (g.O.Sink.written c.args.sink.now) (g.O.Sink.faults c.args.sink.now) c.args.regs.now c.args.progress.now in
    let s' = state_of c.args.vars (g.O.Sink.written c.loop-regs.sink) (g.O.Sink.faults c.loop-regs.sink) c.loop-regs.regs c.loop-regs.progress in
    let guard = test_value c.args.inputs.now (test_of c.in-Loop.t) in
    let body = run c.args.inputs.now (block_of c.in-Loop.body) in
    let begins : BeginsTurn (guard s'.env) s'.left c.turn.new.left (Ok true) =
    subst (λ b. BeginsTurn (guard s'.env) s'.left c.turn.new.left (Ok b)) c.if-branch.true (subst (λ (e : List ℕ). BeginsTurn (guard e) s'.left c.turn.new.left (Ok c.in_ok-turn-in-Loop.field-0)) c.env-in-loop-regs.ensures c.in_ok-turn-in-Loop.ensures) in
    let s'' = state_of c.args.vars (g.O.Sink.written c.block-in-loop-regs.new.sink) (g.O.Sink.faults c.block-in-loop-regs.new.sink) c.block-in-loop-regs.new.regs c.block-in-loop-regs.new.progress in
    let p = err_from_is_err_and c.from_residual-in_err-block-in-Loop.result c.from_residual-in_err-block-in-Loop.ensures.1 in
    rw (p.1, p.2)
    (turn_stops _ guard body s s' c.loop-regs.invariant.turning begins.0 c.turn.new.left begins.1 s'' c.in_err-block-in-Loop.field-0.0
    (rw c.as_slice-in-loop-regs.ensures at c.in_err-block-in-Loop.ensures.follows))

pub statement-returns-else-branch-clause-follows : goal.statement-returns-else-branch-clause-follows
statement-returns-else-branch-clause-follows g t c =
    let s = state_of c.args.vars (g.O.Sink.written c.args.sink.now) (g.O.Sink.faults c.args.sink.now) c.args.regs.now c.args.progress.now in
    let s' = state_of c.args.vars (g.O.Sink.written c.loop-regs.sink) (g.O.Sink.faults c.loop-regs.sink) c.loop-regs.regs c.loop-regs.progress in
    let guard = test_value c.args.inputs.now (test_of c.in-Loop.t) in
    let body = run c.args.inputs.now (block_of c.in-Loop.body) in
    let begins : BeginsTurn (guard s'.env) s'.left c.turn.new.left (Ok false) =
    subst (λ b. BeginsTurn (guard s'.env) s'.left c.turn.new.left (Ok b)) c.if-branch.false (subst (λ (e : List ℕ). BeginsTurn (guard e) s'.left c.turn.new.left (Ok c.in_ok-turn-in-Loop.field-0)) c.env-in-loop-regs.ensures c.in_ok-turn-in-Loop.ensures) in
    no_turn_more _ guard body s s' c.loop-regs.invariant.turning c.turn.new.left begins
