-- The loop program of a machine is one of the pipeline for whose core term the machine stands.
use Rattle.std.proofs.Common.{◌≡◌, inl, ℕ, zero, suc, ◌+◌, ◌<◌, ◌≤◌, ◌-◌, ◌^◌, List, [], length, Option, Some, None, refl, sym, ap, subst, ◌∙◌, arith, ltb-true}
use Rattle.std.specs.Prelude.{IsTrue, nat_lt}
use Rattle.strm_num.proofs.Truths.{both_true}
use Rattle.list_denotation.specs.declared.input.Input.{Input}
use Rattle.list_denotation.specs.declared.input.InputKind.{InputKind}
use Rattle.list_denotation.specs.declared.kind.Kind.{Kind}
use Rattle.list_denotation.specs.declared.stream.Stream.{Stream}
use Rattle.list_denotation.specs.declared.terminal.Terminal.{Terminal}
use Rattle.list_denotation.specs.Copies.{pipe_of, finish_of}
use Rattle.list_denotation.specs.Counts.{depth, most_vars}
use Rattle.list_denotation.specs.Far.{Far}
use Rattle.list_denotation.specs.InputNames.{declared_inputs}
use Rattle.list_denotation.specs.Inputs.{Fits}
use Rattle.list_denotation.specs.Literals.{pipe_has_words, finish_has_words, program_has_words}
use Rattle.list_denotation.specs.Observation.{finish_rows, observation}
use Rattle.list_denotation.specs.Rows.{Rows}
use Rattle.list_denotation.specs.Terms.{Term, Finish, Fold, Print, Pipeline}
use Rattle.list_denotation.specs.Typing.{stream_kinds, has_kinds, is_typed}
use Rattle.list_denotation.specs.Work.{work}
use Rattle.denotation_laws.specs.StreamScopes.{FinishReadsScope}
use Rattle.denotation_laws.specs.Widths.{stream_width}
use Rattle.loop_ir.specs.Meaning.{meaning}
use Rattle.loop_ir.specs.Statements.{Routine}
use Rattle.loop_ir.specs.WellFormed.{IsWellFormed}
use Rattle.stateful_core.specs.CoreRows.{core_rows}
use Rattle.stateful_core.specs.CoreTerms.{Actions, CoreTerm, Lin}
use Rattle.stateful_core.specs.CoreWork.{core_work}
use Rattle.stateful_core.specs.MostWords.{most_words}
use Rattle.stateful_core.specs.WellFormed.{is_sound_core}
use Rattle.turn_blocks.specs.TurnContract.{HasWordInputs}
use Rattle.turn_blocks.specs.TurnBlocks.{turn_acts}
use Rattle.loop_emit.specs.CoreCondition.{IsCoreFor}
use Rattle.loop_emit.specs.Emission as emission
use Rattle.loop_emit.specs.Emission.{routine_for}
use Rattle.loop_emit.specs.EmissionRoom.{HasRoom}
use Rattle.headline.specs.Headline.{IsEmitted}
use Rattle.loop_emit.specs.Laws.{Laws}
use Rattle.zip_linearise.specs.MachinePromise.{IsMachineOf}
use Rattle.loop_emit.proofs.MachineConstants.{routine_constants}
use Rattle.loop_emit.proofs.MachineNames.{FinishNames, routine_names}
use Rattle.loop_emit.proofs.MachineParts.{IsEmittable}
use Rattle.loop_emit.proofs.MachineRoom.{room_for}
use Rattle.loop_emit.proofs.MachineRuns.{meaning_is}
use Rattle.loop_emit.proofs.VariableCount.{few_variables}

-- ---- runs with more turns

more_turns : Laws → (q : Routine) (inputs : List Input) (m k : ℕ) → Far (meaning q inputs m) (meaning q inputs (m + k))
more_turns laws q inputs m zero = let same : m ≡ m + 0 = omega arith in inl (ap (meaning q inputs) same)
more_turns laws q inputs m (suc k) =
    let next : m + k + 1 ≡ m + suc k = omega arith in
    subst (λ n. Far (meaning q inputs m) (meaning q inputs n)) next
    (laws.far_transitive (meaning q inputs m) (meaning q inputs (m + k)) (meaning q inputs (m + k + 1)) (more_turns laws q inputs m k) (laws.far_run q inputs (m + k)))

later : Laws → (q : Routine) (inputs : List Input) (m n : ℕ) → m ≤ n → Far (meaning q inputs m) (meaning q inputs n)
later laws q inputs m n le =
    let same : m + (n - m) ≡ n = omega (arith, le) in
    subst (λ k. Far (meaning q inputs m) (meaning q inputs k)) same (more_turns laws q inputs m (n - m))

has_word_inputs : Laws → (kinds : List InputKind) (inputs : List Input) → Fits inputs kinds → HasWordInputs inputs
has_word_inputs laws kinds inputs fits = record {
  ints = λ k. laws.ints kinds inputs k fits;
  items = λ k. laws.items kinds inputs k fits;
  lengths = λ k. let few = laws.few_items kinds inputs k fits in omega (arith, few);
}

some_kinds : (o : Option (List Kind)) → IsTrue (has_kinds o) → (ks : List Kind) × (o ≡ Some ks)
some_kinds None h = absurd cc
some_kinds (Some ks) h = (ks, refl)

finish_names : (kinds : List InputKind) (width : ℕ) (t : Finish) → FinishReadsScope (declared_inputs kinds) width t → FinishNames kinds t
finish_names kinds width (Fold seed next) reads = (reads.seed_reads.reads.names, reads.next_reads.names)
finish_names kinds width Print reads = tt

-- ---- the program of a machine

module _ (laws : Laws) (kinds : List InputKind) (s : Stream) (t : Terminal) (typed : IsTrue (is_typed kinds s t)) (words : IsTrue (program_has_words s t)) (c : CoreTerm) where
  abbrev p : Pipeline
  p = record { inputs = kinds; stream = pipe_of s; terminal = finish_of t }

  module _ (core : IsCoreFor p c) (init : List Term) (guard : Term) (acts : Actions) (item : List Term) (machine : IsMachineOf c (Lin 0 init guard acts item)) where
    -- the terminal reads rows of the machine's width
    reads : FinishReadsScope (declared_inputs kinds) (length item) (finish_of t)
    reads =
        let row = some_kinds (stream_kinds kinds [] (pipe_of s)) (laws.kinds kinds s t typed) in
        let width = laws.widths kinds [] row.0 (pipe_of s) row.1 (both_true (pipe_has_words (pipe_of s)) (finish_has_words (finish_of t)) words).0 in
        let same : stream_width (pipe_of s) ≡ length item = width ∙ sym (core.width row.0 row.1) ∙ sym machine.width in
        subst (λ n. FinishReadsScope (declared_inputs kinds) n (finish_of t)) same (laws.scopes kinds s t typed words).1

    pub is_emittable : IsEmittable (declared_inputs kinds) init guard acts item (finish_of t)
    is_emittable = record {
      sound = (both_true (is_sound_core (Lin 0 init guard acts item)) (nat_lt (most_words (Lin 0 init guard acts item) 0) (2 ^ 32)) machine.well_formed).0;
      numbers = machine.numbers core.numbers;
      reads = reads;
    }

    vars_few : emission.machine_vars init guard acts item (finish_of t) ≤ most_vars p
    vars_few =
        let few = few_variables laws (declared_inputs kinds) init guard acts item (finish_of t) (depth p) is_emittable (omega arith) in
        let machine_few = machine.words (depth p) in
        let core_few = core.words in
        omega (arith, few, machine_few, core_few)

    -- the row has few words too
    row_small : length item < 2 ^ 32
    row_small =
        let within = ltb-true (most_words (Lin 0 init guard acts item) 0) (2 ^ 32) (both_true (is_sound_core (Lin 0 init guard acts item)) (nat_lt (most_words (Lin 0 init guard acts item) 0) (2 ^ 32)) machine.well_formed).1 in
        omega (arith, within)

    pub vars_small : emission.machine_vars init guard acts item (finish_of t) < 2 ^ 32
    vars_small =
        let limits = laws.limits kinds s t typed in
        let ops = limits.few_ops in
        let shallow = limits.small_stream_depth in
        let finish_shallow = limits.small_finish_depth in
        let few = vars_few in
        omega (arith, few, ops, shallow, finish_shallow)

    pub has_room : HasRoom (emission.machine_temps init guard acts item (finish_of t)) init guard (turn_acts acts item) (length item) (finish_of t)
    has_room = room_for laws (declared_inputs kinds) init guard acts item (finish_of t) is_emittable vars_small row_small

    abbrev pub routine : Routine
    routine = routine_for init guard acts item (finish_of t) kinds

    pub well_formed : IsWellFormed routine
    well_formed =
        let few = (laws.limits kinds s t typed).few_inputs in
        record {
          few = omega (arith, few);
          names = routine_names laws kinds init guard acts item (finish_of t) is_emittable vars_small (machine.names (declared_inputs kinds) core.names) (finish_names kinds (length item) (finish_of t) reads);
          constants = routine_constants laws (declared_inputs kinds) init guard acts item (finish_of t) is_emittable vars_small;
        }

    abbrev rows : List Input → ℕ → Rows
    rows inputs n = core_rows (Lin 0 init guard acts item) [] inputs n

    shows : (inputs : List Input) (n : ℕ) → Fits inputs kinds → meaning routine inputs n ≡ finish_rows (finish_of t) inputs (rows inputs n)
    shows inputs n fits =
        meaning_is laws (declared_inputs kinds) init guard acts item (finish_of t) is_emittable vars_small inputs (has_word_inputs laws kinds inputs fits) kinds n

    observed : (inputs : List Input) (n : ℕ) → Fits inputs kinds → finish_rows (finish_of t) inputs (core_rows c [] inputs n) ≡ observation p inputs n
    observed inputs n fits = ap (finish_rows (finish_of t) inputs) (core.rows inputs n fits)

    no_further : (inputs : List Input) (n : ℕ) → Fits inputs kinds → Far (meaning routine inputs n) (observation p inputs n)
    no_further inputs n fits =
        subst (λ o. Far o (observation p inputs n)) (sym (shows inputs n fits))
        (subst (Far (finish_rows (finish_of t) inputs (rows inputs n))) (observed inputs n fits)
        (laws.far_finished (finish_of t) inputs (rows inputs n) (core_rows c [] inputs n) (machine.no_further [] inputs n (sym core.scope))))

    as_far : (inputs : List Input) (n : ℕ) → Fits inputs kinds → Far (observation p inputs n) (meaning routine inputs (work p inputs n))
    as_far inputs n fits =
        let turns = core_work c [] inputs n in
        let far : Far (observation p inputs n) (meaning routine inputs turns) =
        subst (λ u. Far (observation p inputs n) u) (sym (shows inputs turns fits))
        (subst (λ o. Far o (finish_rows (finish_of t) inputs (rows inputs turns))) (observed inputs n fits)
        (laws.far_finished (finish_of t) inputs (core_rows c [] inputs n) (rows inputs turns) (machine.as_far [] inputs n (sym core.scope)))) in
        laws.far_transitive (observation p inputs n) (meaning routine inputs turns) (meaning routine inputs (work p inputs n)) far
        (later laws routine inputs turns (work p inputs n) (core.work inputs n fits))

    pub emitted : IsEmitted p routine
    emitted = record { no_further = no_further; as_far = as_far; vars = vars_few; params = refl }
