-- A run of a program of a pipeline is between the pipeline's lists at two numbers of pulls.
use Rattle.std.proofs.Common.{◌≡◌, inl, ℕ, zero, suc, ◌+◌, ◌-◌, ◌≤◌, List, refl, subst, arith}
use Rattle.list_denotation.specs.declared.input.Input.{Input}
use Rattle.list_denotation.specs.Far.{Far}
use Rattle.list_denotation.specs.Inputs.{Fits}
use Rattle.list_denotation.specs.Observation.{Seen, observation}
use Rattle.list_denotation.specs.Terms.{Pipeline}
use Rattle.list_denotation.specs.Work.{work}
use Rattle.loop_ir.specs.Meaning.{meaning}
use Rattle.loop_ir.specs.Statements.{Routine}
use Rattle.status_lines.specs.declared.statuses.Status.{Status}
use Rattle.job_steps.specs.Works.{IsSeen, IsRun}

abbrev pub GoFurther : Type 0
GoFurther = (q : Routine) (inputs : List Input) (m : ℕ) → Far (meaning q inputs m) (meaning q inputs (m + 1))

abbrev pub IsTransitive : Type 0
IsTransitive = (o u w : Seen) → Far o u → Far u w → Far o w

module _ (grow : GoFurther) (transitive : IsTransitive) where
  -- with more turns a run goes at least as far
  with_more : (q : Routine) (inputs : List Input) (m more : ℕ) → Far (meaning q inputs m) (meaning q inputs (m + more))
  with_more q inputs m zero = let e : m ≡ m + 0 = omega arith in subst (λ k. Far (meaning q inputs m) (meaning q inputs k)) e (inl refl)
  with_more q inputs m (suc more) =
      let e : (m + more) + 1 ≡ m + suc more = omega arith in
      transitive (meaning q inputs m) (meaning q inputs (m + more)) (meaning q inputs (m + suc more)) (with_more q inputs m more)
      (subst (λ k. Far (meaning q inputs (m + more)) (meaning q inputs k)) e (grow q inputs (m + more)))

  later : (q : Routine) (inputs : List Input) (m n : ℕ) → m ≤ n → Far (meaning q inputs m) (meaning q inputs n)
  later q inputs m n le =
      let e : m + (n - m) ≡ n = omega arith in
      subst (λ k. Far (meaning q inputs m) (meaning q inputs k)) e (with_more q inputs m (n - m))

  pub run_between : (p : Pipeline) (inputs : List Input) (n : ℕ) (end : Status) (text : List ℕ) → Fits inputs p.inputs → IsRun p inputs n end text
      → (o : Seen) × (IsSeen n o end text × Far o (observation p inputs n) × ((m : ℕ) → work p inputs m ≤ n → Far (observation p inputs m) o))
  run_between p inputs n end text fits run =
      let q = run.routine in
      let far : (m : ℕ) → work p inputs m ≤ n → Far (observation p inputs m) (meaning q inputs n)
      = λ m le. transitive (observation p inputs m) (meaning q inputs (work p inputs m)) (meaning q inputs n) (run.emitted.as_far inputs m fits) (later q inputs (work p inputs m) n le) in
      (meaning q inputs n, (run.seen, run.emitted.no_further inputs n fits, far))
