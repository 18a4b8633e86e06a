use Rattle.std.proofs.Common.{sym, ap, ◌∙◌}
use Rattle.std.proofs.lemmas.Result.{on_ok_weaker}
use Rattle.list_denotation.specs.Copies.{term_of}
use Rattle.stateful_core.specs.CoreCopies.{actions_of}
use Rattle.stateful_core.specs.CoreTerms.{join}
use Rattle.act_moves.specs.Flags.{close_unless}
use Rattle.act_moves.specs.Renumbering.{move_actions}
use Rattle.act_moves.specs.WordRoom.{number_in}
use Rattle.zip_linearise.proofs.MachineActs.{inner_always, inner_guarded}
use Rattle.zip_linearise.proofs.nests.push_inner.Goals.{then-not-is_always+in_ok-renumber+in_ok-push_close, else-not-is_always}
use Rattle.zip_linearise.proofs.nests.push_inner.Goals as goal

pub returns : goal.returns
returns c =
    let f = number_in c.args.room in
    let guard = term_of c.args.inner.now.guard in
    elim c.if-not-is_always.branch [
      | then-not-is_always+in_ok-renumber+in_ok-push_close w ↦
          on_ok_weaker c.push_moved.result
          (λ e. inner_guarded f c.args.place guard c.args.inner.now.acts c.as_slice.result.now (actions_of c.args.made.now) (actions_of c.push_moved.new.made) c.as_slice.ensures
          (actions_of c.if-not-is_always.made) (term_of w.in_ok-renumber.field-0.value) (sym c.is_always.ensures ∙ w.if-not-is_always.true) w.in_ok-renumber.ensures
          (ap actions_of w.made-is ∙ w.in_ok-push_close.ensures) e)
          c.push_moved.ensures
      | else-not-is_always w ↦
          on_ok_weaker c.push_moved.result
          (λ e. inner_always f c.args.place guard c.args.inner.now.acts c.as_slice.result.now (actions_of c.args.made.now) (actions_of c.push_moved.new.made) c.as_slice.ensures
          (sym c.is_always.ensures ∙ w.if-not-is_always.false)
          (e ∙ ap (λ z. join (actions_of z) (move_actions f c.args.place close_unless (actions_of c.as_slice.result.now))) w.made-is))
          c.push_moved.ensures
    ]
