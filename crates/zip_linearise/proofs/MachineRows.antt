-- The rows of a machine and those of its term, each as far as the other.
use Rattle.std.proofs.Common.{◌≡◌, ℕ, List, [], ◌++◌, length, sym, ◌∙◌}
use Rattle.std.specs.Prelude.{IsTrue}
use Rattle.list_denotation.specs.declared.input.Input.{Input}
use Rattle.denotation_laws.specs.FarRows.{FarRows}
use Rattle.stateful_core.specs.CoreTerms.{CoreTerm, Lin, Tr, Nest, Zip}
use Rattle.stateful_core.specs.CoreRows.{core_turn, guard_value, core_rows}
use Rattle.stateful_core.specs.CoreShapes.{core_scope}
use Rattle.stateful_core.specs.CoreWork.{core_work}
use Rattle.stateful_core.specs.WellFormed.{is_sound_core}
use Rattle.stateful_core.specs.WordValues.{word_values}
use Rattle.stateful_core.proofs.SoundTerms.{stage_of, nest_of, zip_of}
use Rattle.machine_turns.specs.MachineRuns.{Runs}
use Rattle.stage_machines.specs.MachineParts.{machine_from, machine_core, first_state, machine_guard, machine_turn}
use Rattle.zip_linearise.specs.Laws.{Laws}
use Rattle.zip_linearise.specs.LinearMachine.{linear_machine}
use Rattle.zip_linearise.proofs.NestRows.{row_scope, nest_rows_far, nest_rows_reached}
use Rattle.zip_linearise.proofs.SoundMachines.{stage_over, machine_scope, machine_is_sound}
use Rattle.zip_linearise.proofs.ZipRows.{zipped_no_further, zipped_reaches}

module _ (laws : Laws) (inputs : List Input) where
  pub machine_no_further : (env : List ℕ) (c : CoreTerm) → IsTrue (is_sound_core c) → length env ≡ core_scope c → (n : ℕ) → FarRows (core_rows (machine_core (linear_machine c)) env inputs n) (core_rows c env inputs n)
  machine_no_further env (Lin scope init guard acts item) h q n = laws.far_itself _
  machine_no_further env (Tr scope of init guard acts item) h q n =
      let s = stage_of scope of init guard acts item h in
      rw (laws.stage_rows (linear_machine of) (machine_from scope init guard acts item) env inputs n
      (stage_over scope of init guard acts item s (machine_is_sound laws of s.below)) (q ∙ sym s.same_scope ∙ sym (machine_scope of s.below)))
      (laws.stage_far (guard_value guard env inputs) (core_turn acts item env inputs) (word_values init env inputs) _ _ (machine_no_further env of s.below (q ∙ sym s.same_scope) n))
  machine_no_further env (Nest of inner) h q n =
      let s = nest_of of inner h in
      nest_rows_far laws inputs env of inner s q n (machine_no_further env of s.first q n)
      (λ r k. machine_no_further (env ++ r) inner s.second (row_scope laws inputs env of inner s q r k) n)
  machine_no_further env (Zip left right) h q n =
      let s = zip_of left right h in
      zipped_no_further laws inputs env left right s q (core_rows left env inputs n) (core_rows right env inputs n) n
      (machine_no_further env left s.first q n) (machine_no_further env right s.second (q ∙ sym s.second_scope) n)

  machine_reaches : (env : List ℕ) (c : CoreTerm) → IsTrue (is_sound_core c) → length env ≡ core_scope c → (n : ℕ) → Runs (machine_guard (linear_machine c) env inputs) (λ s. machine_turn (linear_machine c) env inputs s []) (core_rows c env inputs n) (first_state (linear_machine c) env inputs) (core_work c env inputs n)
  machine_reaches env (Lin scope init guard acts item) h q n = laws.machine_reaches _ _ n _
  machine_reaches env (Tr scope of init guard acts item) h q n =
      let s = stage_of scope of init guard acts item h in
      laws.stage_reaches (linear_machine of) (machine_from scope init guard acts item) env inputs _ _
      (stage_over scope of init guard acts item s (machine_is_sound laws of s.below)) (q ∙ sym s.same_scope ∙ sym (machine_scope of s.below))
      (machine_reaches env of s.below (q ∙ sym s.same_scope) n)
  machine_reaches env (Nest of inner) h q n =
      let s = nest_of of inner h in
      nest_rows_reached laws inputs env of inner s q n (machine_reaches env of s.first q n)
      (λ r k. machine_reaches (env ++ r) inner s.second (row_scope laws inputs env of inner s q r k) n)
  machine_reaches env (Zip left right) h q n =
      let s = zip_of left right h in
      zipped_reaches laws inputs env left right s q (core_rows left env inputs n) (core_rows right env inputs n) _ _
      (machine_reaches env left s.first q n) (machine_reaches env right s.second (q ∙ sym s.second_scope) n)

  pub machine_as_far : (env : List ℕ) (c : CoreTerm) → IsTrue (is_sound_core c) → length env ≡ core_scope c → (n : ℕ) → FarRows (core_rows c env inputs n) (core_rows (machine_core (linear_machine c)) env inputs (core_work c env inputs n))
  machine_as_far env c h q n = laws.machine_far _ _ _ _ _ (machine_reaches env c h q n)
