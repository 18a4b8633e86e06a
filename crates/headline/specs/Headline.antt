-- When a loop program is one of a pipeline: it goes no further than the lists, and as far as they do.
use Rattle.std.specs.Prelude.{◌≡◌, ℕ, ◌≤◌, List}
use Rattle.list_denotation.specs.declared.input.Input.{Input}
use Rattle.list_denotation.specs.Terms.{Pipeline}
use Rattle.list_denotation.specs.Inputs.{Fits}
use Rattle.list_denotation.specs.Observation.{observation}
use Rattle.list_denotation.specs.Far.{Far}
use Rattle.list_denotation.specs.Work.{work}
use Rattle.list_denotation.specs.Counts.{most_vars}
use Rattle.loop_ir.specs.Statements.{Routine}
use Rattle.loop_ir.specs.Meaning.{meaning}

pub record IsEmitted (p : Pipeline) (q : Routine) : Type 0 where
  -- at n turns no further than the lists at n pulls
  pub no_further : (inputs : List Input) (n : ℕ) → Fits inputs p.inputs → Far (meaning q inputs n) (observation p inputs n)
  -- at as many turns as the lists' work at n pulls, as far as these
  pub as_far : (inputs : List Input) (n : ℕ) → Fits inputs p.inputs → Far (observation p inputs n) (meaning q inputs (work p inputs n))
  pub vars : q.vars ≤ most_vars p
  pub params : q.params ≡ p.inputs
