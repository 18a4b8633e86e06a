use Rattle.std.proofs.Common.{◌≡◌, ap, ◌∙◌}
use Rattle.std.proofs.lemmas.Result.{IfOk-weaker}
use Rattle.list_denotation.specs.Copies.{term_of, terms_of}
use Rattle.stateful_core.specs.CoreCopies.{actions_of}
use Rattle.stateful_core.specs.CoreTerms.{StopUnless}
use Rattle.act_moves.specs.WordRoom.{number_in}
use Rattle.act_moves.proofs.CopiedActs.{acts_copied}
use Rattle.act_moves.proofs.MadeActs.{from_empty}
use Rattle.stage_machines.specs.MachineParts.{machine_from}
use Rattle.zip_linearise.proofs.linearising.lin_machine.Goals as goal

pub returns : goal.returns
returns c =
    let same : actions_of c.push_moved.new.made ≡ actions_of c.args.acts.now =
    from_empty (number_in (record { at = 0; by = 0; then_at = 0; then_by = 0 })) 0 StopUnless c.new-made.result c.as_slice.result.now c.args.acts.now (actions_of c.push_moved.new.made) c.new-made.ensures c.as_slice.ensures c.in_ok-push_moved.ensures
    ∙ acts_copied (actions_of c.args.acts.now) in
    IfOk-weaker c.boxed_machine.result _ _
    (λ made h. h
    ∙ ap (λ z. machine_from c.args.scope z (term_of c.in_ok-guard.guard.value) (actions_of c.push_moved.new.made) (terms_of c.in_ok-item.item)) c.in_ok-init.ensures
    ∙ ap (λ z. machine_from c.args.scope (terms_of c.args.init.now) z (actions_of c.push_moved.new.made) (terms_of c.in_ok-item.item)) c.in_ok-guard.ensures
    ∙ ap (λ z. machine_from c.args.scope (terms_of c.args.init.now) (term_of c.args.guard.now) z (terms_of c.in_ok-item.item)) same
    ∙ ap (λ z. machine_from c.args.scope (terms_of c.args.init.now) (term_of c.args.guard.now) (actions_of c.args.acts.now) z) c.in_ok-item.ensures)
    c.boxed_machine.ensures
