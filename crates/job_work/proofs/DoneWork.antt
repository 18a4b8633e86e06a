-- What doing work gives, from what doing a part of it gave.
use Rattle.std.proofs.Common.{◌≡◌, ◌≤◌, ℕ, List, Option, subst}
use Rattle.job_steps.specs.Works.{IsRun, IsSeen, IsListed, status_at}
use Rattle.list_denotation.specs.declared.input.Input.{Input}
use Rattle.list_denotation.specs.Observation.{Standing, Done, Going, Failed, Seen, observation}
use Rattle.list_denotation.specs.Terms.{Pipeline}
use Rattle.list_denotation.specs.Values.{Trap, Stuck}
use Rattle.list_denotation.specs.Work.{work}
use Rattle.headline.specs.Headline.{IsEmitted}
use Rattle.loop_ir.specs.Meaning.{meaning}
use Rattle.loop_ir.specs.Statements.{Routine}
use Rattle.loop_ir.specs.WellFormed.{IsWellFormed}
use Rattle.pipe_limits.specs.declared.TheConstants.{MOST_WORK}
use Rattle.status_lines.specs.declared.statuses.Status.{Status}
use Rattle.status_lines.specs.declared.statuses.Status.TheVariants.{Missing, ReadFault, WriteFault, NoMemory}
use Rattle.status_lines.specs.declared.statuses.Status.TheVariants as status
use Rattle.job_work.specs.Working.{Does}

-- work that may end in more ways
pub does_more : (ends ends' : Status → List ℕ → Type 0) (out out' : Option (List ℕ)) (faults faults' : ℕ) (s : Status) → ((t : Status) (text : List ℕ) → ends t text → ends' t text) → Does ends out out' faults faults' s → Does ends' out out' faults faults' s
does_more ends ends' out out' faults faults' NoMemory more h = h
does_more ends ends' out out' faults faults' WriteFault more h =
    (record { end = h.0.end; text = h.0.text; ends_so = more h.0.end h.0.text h.0.ends_so; appended = h.0.appended }, h.1)
does_more ends ends' out out' faults faults' (Missing name) more h = h
does_more ends ends' out out' faults faults' (ReadFault name) more h = h
does_more ends ends' out out' faults faults' s more h = (h.0, (more s h.0 h.1.0, h.1.1))

-- a run of a program of the pipeline is one of the pipeline
pub runs : (p : Pipeline) (q : Routine) (inputs : List Input) (n : ℕ) (out out' : Option (List ℕ)) (faults faults' : ℕ) (s : Status) → IsWellFormed q → IsEmitted p q → Does (IsSeen n (meaning q inputs n)) out out' faults faults' s → Does (IsRun p inputs n) out out' faults faults' s
runs p q inputs n out out' faults faults' s well_formed emitted =
    does_more (IsSeen n (meaning q inputs n)) (IsRun p inputs n) out out' faults faults' s (λ t text seen. record { routine = q; well_formed = well_formed; emitted = emitted; seen = seen })

too_much : (n : ℕ) (standing : Standing) → status.TooMuch ≡ status_at n standing → ⊥
too_much n Done e = absurd cc
too_much n Going e = absurd cc
too_much n (Failed Trap) e = absurd cc
too_much n (Failed Stuck) e = absurd cc

-- what is seen of lists that are little enough work is what the lists end with
is_listed : (p : Pipeline) (inputs : List Input) (n : ℕ) (end : Status) (text : List ℕ) → work p inputs n ≤ MOST_WORK → IsSeen n (observation p inputs n) end text → IsListed p inputs n end text
is_listed p inputs n status.TooMuch text little h = absurd (too_much n (observation p inputs n).standing h.0)
is_listed p inputs n end text little h = (little, h)

pub lists : (p : Pipeline) (o : Seen) (inputs : List Input) (n : ℕ) (out out' : Option (List ℕ)) (faults faults' : ℕ) (s : Status) → work p inputs n ≤ MOST_WORK → o ≡ observation p inputs n → Does (IsSeen n o) out out' faults faults' s → Does (IsListed p inputs n) out out' faults faults' s
lists p o inputs n out out' faults faults' s little is =
    does_more (IsSeen n o) (IsListed p inputs n) out out' faults faults' s (λ t text seen. is_listed p inputs n t text little (subst (λ (u : Seen). IsSeen n u t text) is seen))
