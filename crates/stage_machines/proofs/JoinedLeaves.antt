-- The parts that join a stage and what is below it have the leaves of both, but for the numbers of words, and need as many
-- temporaries as the one of them that needs more.
use Rattle.std.proofs.Common.{ℕ, ◌≤◌, max, ◌++◌, length, Bool, ◌&&◌, refl, arith}
use Rattle.std.specs.Prelude.{IsTrue}
use Rattle.strm_num.proofs.Truths.{both_true, true_both}
use Rattle.list_denotation.specs.Leaves.{all_leaves}
use Rattle.list_denotation.specs.Terms.{Term}
use Rattle.stateful_core.specs.CoreLeaves.{row_leaves, actions_leaves, core_leaves}
use Rattle.stateful_core.specs.CoreTerms.{StopUnless}
use Rattle.stateful_core.specs.MostWords.{row_temps, actions_temps, most_temps, core_temps}
use Rattle.act_moves.specs.Renumbering.{renumber, renumber_row, move_actions}
use Rattle.act_moves.proofs.MovedTemps.{temps_renumbered, row_temps_renumbered, temps_moved, row_temps_append, temps_join, temps_lets}
use Rattle.act_moves.proofs.RenumberedLeaves.{all_append, leaves_renumbered, row_renumbered, leaves_join, leaves_lets, leaves_moved}
use Rattle.stage_machines.specs.MachineParts.{MachineParts, machine_core}
use Rattle.stage_machines.specs.StageMachine.{lower_word, guard_word, stage_word, stage_acts, stage_machine}
use Rattle.stage_machines.proofs.JoinedGuards.{temps_guards, leaves_guards}

pub joined_leaves : (test : Term → Bool) (each : (f : ℕ → ℕ) (e : Term) → IsTrue (test e) → IsTrue (test (renumber f e))) (w : ℕ) (m stage : MachineParts) → IsTrue (core_leaves test (machine_core m)) → IsTrue (core_leaves test (machine_core stage)) → IsTrue (core_leaves test (machine_core (stage_machine w m stage)))
joined_leaves test each w m stage h k =
    let f = lower_word m stage in
    let g = stage_word w m stage in
    let own_acts = move_actions g (length m.init) StopUnless stage.acts in
    let p = both_true (row_leaves test m.init) (all_leaves test m.guard && (actions_leaves test m.acts && row_leaves test m.item)) h in
    let q = both_true (all_leaves test m.guard) (actions_leaves test m.acts && row_leaves test m.item) p.1 in
    let r = both_true (actions_leaves test m.acts) (row_leaves test m.item) q.1 in
    let s = both_true (row_leaves test stage.init) (all_leaves test stage.guard && (actions_leaves test stage.acts && row_leaves test stage.item)) k in
    let t = both_true (all_leaves test stage.guard) (actions_leaves test stage.acts && row_leaves test stage.item) s.1 in
    let u = both_true (actions_leaves test stage.acts) (row_leaves test stage.item) t.1 in
    true_both (row_leaves test (m.init ++ stage.init)) _ (all_append (all_leaves test) m.init stage.init p.0 s.0)
    (true_both (all_leaves test (stage_machine w m stage).guard) _
    (leaves_guards test (renumber (guard_word m) stage.guard) (renumber f m.guard)
    (leaves_renumbered (guard_word m) test test (each (guard_word m)) stage.guard t.0) (leaves_renumbered f test test (each f) m.guard q.0))
    (true_both (actions_leaves test (stage_acts w m stage)) (row_leaves test (renumber_row g stage.item))
    (leaves_join test each (move_actions f 0 StopUnless m.acts) _ (leaves_moved test each f 0 StopUnless (λ e l. l) m.acts r.0)
    (leaves_lets test each (renumber_row f m.item) own_acts (row_renumbered f test test (each f) m.item r.1)
    (leaves_moved test each g (length m.init) StopUnless (λ e l. l) stage.acts u.0)))
    (row_renumbered g test test (each g) stage.item u.1)))

pub joined_temps : (w : ℕ) (m stage : MachineParts) → core_temps (machine_core (stage_machine w m stage)) ≤ max (core_temps (machine_core m)) (core_temps (machine_core stage))
joined_temps w m stage =
    let n = max (core_temps (machine_core m)) (core_temps (machine_core stage)) in
    let f = lower_word m stage in
    let g = stage_word w m stage in
    let own_acts = move_actions g (length m.init) StopUnless stage.acts in
    let init : row_temps (m.init ++ stage.init) ≤ n = row_temps_append n m.init stage.init (omega arith) (omega arith) in
    let guard : most_temps (stage_machine w m stage).guard ≤ n =
    temps_guards n (renumber (guard_word m) stage.guard) (renumber f m.guard) (omega (arith, temps_renumbered (guard_word m) stage.guard)) (omega (arith, temps_renumbered f m.guard)) in
    let acts : actions_temps (stage_acts w m stage) ≤ n =
    temps_join n (move_actions f 0 StopUnless m.acts) _ (omega (arith, temps_moved f 0 StopUnless (λ e. refl) m.acts))
    (temps_lets n (renumber_row f m.item) own_acts (omega (arith, row_temps_renumbered f m.item)) (omega (arith, temps_moved g (length m.init) StopUnless (λ e. refl) stage.acts))) in
    omega (arith, init, guard, acts, row_temps_renumbered g stage.item)
