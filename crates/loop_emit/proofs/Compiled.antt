-- The program that the code makes is that of a machine, and so one of the pipeline.
use Rattle.std.proofs.Common.{◌≡◌, ℕ, ◌<◌, ◌^◌, List, length, sym, ap, ◌∙◌, subst, arith}
use Rattle.std.specs.Prelude.{IsTrue}
use Rattle.list_denotation.specs.declared.program.Program.{Program}
use Rattle.list_denotation.specs.Copies.{finish_of}
use Rattle.list_denotation.specs.Literals.{program_has_words}
use Rattle.list_denotation.specs.Pipelines.{pipeline_of}
use Rattle.list_denotation.specs.Terms.{Term}
use Rattle.list_denotation.specs.Typing.{is_typed}
use Rattle.loop_ir.specs.declared.syntax.Stmt.{Stmt}
use Rattle.loop_ir.specs.StatementCopies.{block_of, routine_from}
use Rattle.loop_ir.specs.WellFormed.{IsWellFormed}
use Rattle.stateful_core.specs.CoreTerms.{Actions, CoreTerm, Lin}
use Rattle.turn_blocks.specs.TurnBlocks.{turn_acts}
use Rattle.zip_linearise.specs.MachinePromise.{IsMachineOf}
use Rattle.loop_emit.specs.CoreCondition.{IsCoreFor}
use Rattle.loop_emit.specs.Emission.{machine_temps, machine_vars, turn_piece, body_block, routine_for}
use Rattle.loop_emit.specs.EmissionRoom.{HasRoom, IsBodyOf}
use Rattle.headline.specs.Headline.{IsEmitted}
use Rattle.loop_emit.specs.Laws.{Laws}
use Rattle.loop_emit.proofs.Emitted as emitted
use Rattle.loop_emit.proofs.MachineParts.{behind_states, behind_turn}

module _ (laws : Laws) (p : Program) (c : CoreTerm) (core : IsCoreFor (pipeline_of p) c) (scope : ℕ) (init : List Term) (guard : Term) (acts : Actions) (item : List Term) (made : IsMachineOf c (Lin scope init guard acts item)) where
  machine : IsMachineOf c (Lin 0 init guard acts item)
  machine = subst (λ n. IsMachineOf c (Lin n init guard acts item)) (made.scope ∙ core.scope) made

  module _ (typed : IsTrue (is_typed p.inputs p.stream p.terminal)) (words : IsTrue (program_has_words p.stream p.terminal)) where
    pub few_temps : machine_temps init guard acts item (finish_of p.terminal) < 2 ^ 32
    few_temps =
        let is = emitted.is_emittable laws p.inputs p.stream p.terminal typed words c core init guard acts item machine in
        let small = emitted.vars_small laws p.inputs p.stream p.terminal typed words c core init guard acts item machine in
        let behind = behind_states laws _ init guard acts item (finish_of p.terminal) is in
        let within = behind_turn laws _ init guard acts item (finish_of p.terminal) is in
        omega (arith, small, behind, within)

    -- the temporaries and the acts of a turn, as the code has them
    module _ (temps : ℕ) (turn : Actions) (same_temps : temps ≡ machine_temps init guard acts item (finish_of p.terminal)) (same_turn : turn ≡ turn_acts acts item) where
      pub room : HasRoom temps init guard turn (length item) (finish_of p.terminal)
      room =
          subst (λ n. HasRoom n init guard turn (length item) (finish_of p.terminal)) (sym same_temps)
          (subst (λ a. HasRoom (machine_temps init guard acts item (finish_of p.terminal)) init guard a (length item) (finish_of p.terminal)) (sym same_turn)
          (emitted.has_room laws p.inputs p.stream p.terminal typed words c core init guard acts item machine))

      module _ (vars : ℕ) (body : List Stmt) (is : IsBodyOf temps init guard turn (length item) (finish_of p.terminal) (block_of body) vars) where
        all_vars : vars ≡ machine_vars init guard acts item (finish_of p.terminal)
        all_vars =
            is.variables
            ∙ ap (λ n. (turn_piece n init guard turn (length item) (finish_of p.terminal)).next) same_temps
            ∙ ap (λ a. (turn_piece (machine_temps init guard acts item (finish_of p.terminal)) init guard a (length item) (finish_of p.terminal)).next) same_turn

        whole_body : block_of body ≡ body_block (machine_temps init guard acts item (finish_of p.terminal)) init guard (turn_acts acts item) (length item) (finish_of p.terminal)
        whole_body =
            is.statements
            ∙ ap (λ n. body_block n init guard turn (length item) (finish_of p.terminal)) same_temps
            ∙ ap (λ a. body_block (machine_temps init guard acts item (finish_of p.terminal)) init guard a (length item) (finish_of p.terminal)) same_turn

        is_routine : routine_for init guard acts item (finish_of p.terminal) p.inputs ≡ routine_from p.inputs vars body
        is_routine = λ i. record { params = p.inputs; vars = sym all_vars i; body = sym whole_body i }

        pub well_formed : IsWellFormed (routine_from p.inputs vars body)
        well_formed = subst IsWellFormed is_routine (emitted.well_formed laws p.inputs p.stream p.terminal typed words c core init guard acts item machine)

        pub is_emitted : IsEmitted (pipeline_of p) (routine_from p.inputs vars body)
        is_emitted = subst (IsEmitted (pipeline_of p)) is_routine (emitted.emitted laws p.inputs p.stream p.terminal typed words c core init guard acts item machine)
