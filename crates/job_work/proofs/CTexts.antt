-- What is printed of a program of a pipeline is a C text of it.
use Rattle.std.proofs.Common.{◌≡◌, ℕ, Ok, Err}
use Rattle.std.specs.Prelude.{Result, IfOk}
use Rattle.std.specs.Global.{Vec}
use Rattle.list_denotation.specs.Terms.{Pipeline}
use Rattle.loop_ir.specs.Layout.{layout}
use Rattle.loop_ir.specs.Statements.{Routine}
use Rattle.loop_ir.specs.WellFormed.{IsWellFormed}
use Rattle.headline.specs.Headline.{IsEmitted}
use Rattle.c_grammar.specs.Reading.{Reads}
use Rattle.job_steps.specs.Works.{IsTextOf}

pub text_of : {E : Type 0} (p : Pipeline) (q : Routine) (printed : Result (Vec ℕ) E) → IsWellFormed q → IsEmitted p q → IfOk printed (λ c. c.items ≡ layout q) → IfOk printed (λ c. Reads c.items q) → IfOk printed (λ c. (other : Routine) → Reads c.items other → other ≡ q) → IfOk printed (λ c. IsTextOf p c.items)
text_of p q (Ok c) well_formed emitted text reads only =
    record { routine = q; well_formed = well_formed; text = text; reads = reads; only = only; emitted = emitted }
text_of p q (Err e) well_formed emitted text reads only = tt
