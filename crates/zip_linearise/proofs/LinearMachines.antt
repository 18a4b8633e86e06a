-- The machine of a well-formed term has all that is promised of it.
use Rattle.std.proofs.Common.{◌^◌, refl, arith}
use Rattle.std.specs.Prelude.{IsTrue, nat_lt}
use Rattle.std.proofs.lemmas.Bool.{ltb-true, lt-ltb}
use Rattle.strm_num.proofs.Truths.{both_true, true_both}
use Rattle.list_denotation.specs.InputNames.{is_named_leaf}
use Rattle.list_denotation.specs.Literals.{is_word_leaf}
use Rattle.stateful_core.specs.CoreTerms.{CoreTerm}
use Rattle.stateful_core.specs.MostWords.{most_words}
use Rattle.stateful_core.specs.WellFormed.{is_sound_core, is_well_formed}
use Rattle.act_moves.proofs.RenumberedLeaves.{named_renumbered, word_renumbered}
use Rattle.stage_machines.specs.MachineParts.{machine_core}
use Rattle.zip_linearise.specs.Laws.{Laws}
use Rattle.zip_linearise.specs.MachinePromise.{IsMachineOf}
use Rattle.zip_linearise.specs.LinearMachine.{linear_machine}
use Rattle.zip_linearise.proofs.MachineLeaves.{machine_leaves}
use Rattle.zip_linearise.proofs.MachineRows.{machine_no_further, machine_as_far}
use Rattle.zip_linearise.proofs.MachineWords.{machine_most_words}
use Rattle.zip_linearise.proofs.SoundMachines.{machine_width, machine_scope, machine_is_sound}

pub machine_kept : (laws : Laws) (c : CoreTerm) → IsTrue (is_well_formed c) → IsMachineOf c (machine_core (linear_machine c))
machine_kept laws c h =
    let m = machine_core (linear_machine c) in
    let p = both_true (is_sound_core c) (nat_lt (most_words c 0) (2 ^ 32)) h in
    record {
      well_formed = true_both (is_sound_core m) (nat_lt (most_words m 0) (2 ^ 32)) (machine_is_sound laws c p.0)
          (lt-ltb (most_words m 0) (2 ^ 32) (omega (arith, machine_most_words laws c p.0 0, ltb-true (most_words c 0) (2 ^ 32) p.1)));
      scope = machine_scope c p.0;
      width = machine_width c;
      names = λ may k. machine_leaves (is_named_leaf may) (λ f e. named_renumbered may f e) refl refl (λ b. refl) (λ i. refl) laws c k;
      numbers = λ k. machine_leaves is_word_leaf word_renumbered refl refl (λ b. refl) (λ i. refl) laws c k;
      words = machine_most_words laws c p.0;
      no_further = λ env inputs n q. machine_no_further laws inputs env c p.0 q n;
      as_far = λ env inputs n q. machine_as_far laws inputs env c p.0 q n;
    }
