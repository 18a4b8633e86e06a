-- The rows of the machine of a Nest, and those that it reaches, by those of its two parts.
use Rattle.std.proofs.Common.{inl, inr, ◌≡◌, ℕ, ◌+◌, List, [], ◌++◌, length, sym, ◌∙◌, subst, arith, length-append}
use Rattle.std.specs.Prelude.{IsTrue}
use Rattle.strm_num.proofs.Truths.{both_true}
use Rattle.list_denotation.specs.declared.input.Input.{Input}
use Rattle.list_denotation.specs.Rows.{Rows, Ends, Row, join_rows}
use Rattle.list_denotation.specs.Scopes.{all_bound}
use Rattle.list_denotation.specs.Typing.{all_undivided}
use Rattle.denotation_laws.specs.FarRows.{FarRows}
use Rattle.denotation_laws.specs.RowWords.{EachRow, IsRowOf}
use Rattle.stateful_core.specs.CoreTerms.{CoreTerm, Nest}
use Rattle.stateful_core.specs.CoreRows.{core_turn, guard_value, core_rows}
use Rattle.stateful_core.specs.CoreShapes.{core_scope, core_width}
use Rattle.stateful_core.specs.CoreWork.{core_work}
use Rattle.stateful_core.specs.Turns.{Turn}
use Rattle.stateful_core.specs.WordValues.{word_values}
use Rattle.stateful_core.proofs.SoundTerms.{SoundPair}
use Rattle.machine_turns.specs.MachineRuns.{Runs}
use Rattle.machine_turns.specs.NestTurns.{NestState, Closed, nest_guard, nest_step}
use Rattle.act_moves.proofs.SoundActs.{SoundParts}
use Rattle.machine_turns.specs.AlikeTurns.{AlikeTurns, SameTruth}
use Rattle.machine_turns.proofs.AlikeTurns.{alike_rows, alike_runs}
use Rattle.stage_machines.specs.MachineParts.{MachineParts, machine_core}
use Rattle.zip_linearise.specs.Laws.{Laws}
use Rattle.zip_linearise.specs.LinearMachine.{linear_machine}
use Rattle.zip_linearise.specs.NestMachine.{nest_machine}
use Rattle.zip_linearise.proofs.NestMachines.{HeldNest, nest_turns, nest_guards, nest_start}
use Rattle.zip_linearise.proofs.SoundMachines.{machine_parts, machine_scope, inner_scope, machine_width}

-- what holds of each row of a list holds of any one
row_among : (P : List ℕ → Type 0) (r : List ℕ) (rows : Rows) → EachRow P rows → IsRowOf r rows → P r
row_among P r (Ends e) each among = absurd among
row_among P r (Row s rest) each (inl e) = subst P (sym e) each.0
row_among P r (Row s rest) each (inr among) = row_among P r rest each.1 among

module _ (laws : Laws) (inputs : List Input) (env : List ℕ) (of inner : CoreTerm) (s : SoundPair of inner (core_scope of + core_width of)) (scoped : length env ≡ core_scope of) where
  abbrev o : MachineParts
  o = linear_machine of

  abbrev i : MachineParts
  i = linear_machine inner

  abbrev m : MachineParts
  m = nest_machine o i

  abbrev R : List ℕ → NestState (List ℕ) (List ℕ) → Type 0
  R = HeldNest (length o.item) (length o.init) (length i.init)

  abbrev guard : List ℕ → ℕ
  guard = guard_value o.guard env inputs

  abbrev turn : List ℕ → Turn (List ℕ)
  turn x = core_turn o.acts o.item env inputs x []

  abbrev opens : List ℕ → List ℕ → ℕ
  opens r = guard_value i.guard (env ++ r) inputs

  abbrev takes : List ℕ → List ℕ → Turn (List ℕ)
  takes r x = core_turn i.acts i.item (env ++ r) inputs x []

  abbrev start : List ℕ → List ℕ
  start r = word_values i.init (env ++ r) inputs

  abbrev nested_guard : List ℕ → ℕ
  nested_guard = guard_value m.guard env inputs

  abbrev nested_turn : List ℕ → Turn (List ℕ)
  nested_turn x = core_turn m.acts m.item env inputs x []

  in_scope : length env ≡ o.scope
  in_scope = scoped ∙ sym (machine_scope of s.first)

  -- a row of the outer term makes the scope that of the inner one
  pub row_scope : (r : List ℕ) → length r ≡ core_width of → length (env ++ r) ≡ core_scope inner
  row_scope r h = omega (arith, length-append env r, s.second_scope)

  outer_parts : SoundParts o.scope 0 o.init o.guard o.acts o.item
  outer_parts = machine_parts laws of s.first

  inner_parts : SoundParts i.scope 0 i.init i.guard i.acts i.item
  inner_parts = machine_parts laws inner s.second

  init_bound : IsTrue (all_bound (o.scope + length o.item) i.init)
  init_bound =
      subst (λ z. IsTrue (all_bound z i.init)) (inner_scope of inner s) (both_true (all_bound i.scope i.init) (all_undivided i.init) inner_parts.init_sure).0

  alike_turns : (x : List ℕ) (z : NestState (List ℕ) (List ℕ)) → R x z → AlikeTurns R (nested_turn x) (nest_step turn opens takes start z)
  alike_turns x z h = nest_turns laws inputs env _ _ o i in_scope init_bound outer_parts.acts_sound inner_parts.acts_sound x z h

  alike_guards : (x : List ℕ) (z : NestState (List ℕ) (List ℕ)) → R x z → SameTruth (nested_guard x) (nest_guard guard z)
  alike_guards x z h = nest_guards laws inputs env _ _ o i in_scope init_bound outer_parts.acts_sound inner_parts.acts_sound x z h

  begins : R (word_values m.init env inputs) (Closed (word_values o.init env inputs))
  begins = nest_start laws inputs env _ _ o i in_scope init_bound outer_parts.acts_sound inner_parts.acts_sound

  row_width : (n : ℕ) (r : List ℕ) → IsRowOf r (core_rows (machine_core o) env inputs n) → length r ≡ core_width of
  row_width n r among =
      row_among (λ z. length z ≡ length o.item) r (core_rows (machine_core o) env inputs n) (laws.widths (machine_core o) env inputs n) among ∙ machine_width of

  -- in n turns the machine gives no more than the inner lists joined, where this holds of both parts
  pub nest_rows_far : (n : ℕ) → FarRows (core_rows (machine_core o) env inputs n) (core_rows of env inputs n)
      → ((r : List ℕ) → length r ≡ core_width of → FarRows (core_rows (machine_core i) (env ++ r) inputs n) (core_rows inner (env ++ r) inputs n))
      → FarRows (core_rows (machine_core m) env inputs n) (core_rows (Nest of inner) env inputs n)
  nest_rows_far n outer_far inner_far =
      rw (alike_rows R nested_guard nested_turn (nest_guard guard) (nest_step turn opens takes start) alike_guards alike_turns n _ (Closed (word_values o.init env inputs)) begins)
      (laws.far_through _ (join_rows (core_rows (machine_core o) env inputs n) (λ r. core_rows (machine_core i) (env ++ r) inputs n)) _
      (laws.nest_no_further guard turn opens takes start n (word_values o.init env inputs))
      (laws.far_joined _ (λ r. core_rows inner (env ++ r) inputs n) _ (core_rows of env inputs n) outer_far (λ r among. inner_far r (row_width n r among))))

  -- and it reaches these lists in the turns of both
  pub nest_rows_reached : (n : ℕ) → Runs guard turn (core_rows of env inputs n) (word_values o.init env inputs) (core_work of env inputs n)
      → ((r : List ℕ) → length r ≡ core_width of → Runs (opens r) (takes r) (core_rows inner (env ++ r) inputs n) (start r) (core_work inner (env ++ r) inputs n))
      → Runs nested_guard nested_turn (core_rows (Nest of inner) env inputs n) (word_values m.init env inputs) (core_work (Nest of inner) env inputs n)
  nest_rows_reached n outer_runs inner_runs =
      alike_runs R nested_guard nested_turn (nest_guard guard) (nest_step turn opens takes start) alike_guards alike_turns
      (laws.nest_reaches guard turn opens takes start (core_width of) (λ r. core_rows inner (env ++ r) inputs n) (λ r. core_work inner (env ++ r) inputs n) inner_runs
      (core_rows of env inputs n) (word_values o.init env inputs) (core_work of env inputs n) outer_runs (laws.widths of env inputs n))
      (word_values m.init env inputs) begins
