-- The condition on which a core term stands for the stream of a pipeline.
use Rattle.std.specs.Prelude.{◌≡◌, ℕ, ◌≤◌, List, [], length, Some, IsTrue}
use Rattle.list_denotation.specs.declared.input.Input.{Input}
use Rattle.list_denotation.specs.declared.kind.Kind.{Kind}
use Rattle.list_denotation.specs.Counts.{depth, most_vars}
use Rattle.list_denotation.specs.Denotation.{denotation}
use Rattle.list_denotation.specs.InputNames.{declared_inputs}
use Rattle.list_denotation.specs.Inputs.{Fits}
use Rattle.list_denotation.specs.Terms.{Pipeline}
use Rattle.list_denotation.specs.Typing.{stream_kinds}
use Rattle.list_denotation.specs.Work.{work}
use Rattle.stateful_core.specs.CoreTerms.{CoreTerm}
use Rattle.stateful_core.specs.CoreRows.{core_rows}
use Rattle.stateful_core.specs.CoreWork.{core_work}
use Rattle.stateful_core.specs.CoreLeaves.{core_names_inputs, core_has_words}
use Rattle.stateful_core.specs.CoreShapes.{core_scope, core_width}
use Rattle.stateful_core.specs.MostWords.{most_words}
use Rattle.stateful_core.specs.WellFormed.{is_well_formed}

pub record IsCoreFor (p : Pipeline) (c : CoreTerm) : Type 0 where
  pub well_formed : IsTrue (is_well_formed c)
  pub scope : core_scope c ≡ 0
  pub width : (row : List Kind) → stream_kinds p.inputs [] p.stream ≡ Some row → core_width c ≡ length row
  -- it names inputs of the pipeline alone, by their kinds, and its numbers are words
  pub names : IsTrue (core_names_inputs (declared_inputs p.inputs) c)
  pub numbers : IsTrue (core_has_words c)
  -- at every input that fits and every bound it has the lists of the stream, and no more work
  pub rows : (inputs : List Input) (n : ℕ) → Fits inputs p.inputs → core_rows c [] inputs n ≡ denotation p.stream [] inputs n
  pub work : (inputs : List Input) (n : ℕ) → Fits inputs p.inputs → core_work c [] inputs n ≤ work p inputs n
  pub words : most_words c (depth p) ≤ most_vars p
