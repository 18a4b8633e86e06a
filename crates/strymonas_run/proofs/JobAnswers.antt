-- What a job answers, from what its steps and its work gave.
use Rattle.std.proofs.Common.{◌≡◌, ◌≤◌, ◌∙◌, inl, inr, ℕ, List, Option, Result, Ok, Err, refl, arith}
use Rattle.strm_io.specs.Counts.{Rose}
use Rattle.strm_io.specs.Devices.{FilesTold, LeavesFiles}
use Rattle.job_steps.specs.Answers.{AnswersSteps, IsDone, HasCause, LeavesDevices}
use Rattle.job_steps.specs.Loads.{HasFileCause}
use Rattle.job_steps.specs.Steps.{ComesOf, Is, Then}
use Rattle.job_steps.specs.Works.{Work, Ends}
use Rattle.status_lines.specs.declared.statuses.Status.{Status}
use Rattle.status_lines.specs.declared.statuses.Status.TheVariants.{Missing, ReadFault, WriteFault, NoMemory}
use Rattle.job_work.specs.Working.{Does}

-- ---- answers

module _ {X A : Type 0} (copy : X → A) (first : Result A Status → Type 0) (next : A → Result Work Status → Type 0) (out out' : Option (List ℕ)) where
  -- the first step fails
  pub stopped : (old new : FilesTold) (s : Status) → ComesOf copy first (Err s) → HasFileCause s old new → out' ≡ out → AnswersSteps (Then first next) out out' s
  stopped old new NoMemory h cause e = e
  stopped old new WriteFault h cause e = absurd cause
  stopped old new s h cause e = inl (inl h, e)

  later : (x : X) → first (Ok (copy x)) → (holds : Status → List ℕ → Type 0) → IsDone (next (copy x)) holds → IsDone (Then first next) holds
  later x h holds d =
      record { work = d.work; passes = inr (copy x, (h, d.passes)); end = d.end; text = d.text; ends = d.ends; holds_of_it = d.holds_of_it }

  -- the first step gives something, and the others answer
  pub goes_on : (x : X) (s : Status) → first (Ok (copy x)) → AnswersSteps (next (copy x)) out out' s → AnswersSteps (Then first next) out out' s
  goes_on x NoMemory h k = k
  goes_on x WriteFault h k = later x h _ k
  goes_on x s h (inl k) = inl (inr (copy x, (h, k.0)), k.1)
  goes_on x s h (inr k) = inr (later x h _ k)

-- all steps are done
pub worked : (work : Work) (out out' : Option (List ℕ)) (faults faults' : ℕ) (s : Status) → Does (Ends work) out out' faults faults' s → AnswersSteps (Is (Ok work)) out out' s
worked work out out' faults faults' NoMemory h = h
worked work out out' faults faults' WriteFault h =
    record { work = work; passes = refl; end = h.0.end; text = h.0.text; ends = h.0.ends_so; holds_of_it = h.0.appended }
worked work out out' faults faults' (Missing name) h = absurd h
worked work out out' faults faults' (ReadFault name) h = absurd h
worked work out out' faults faults' s h =
    inr (record { work = work; passes = refl; end = s; text = h.0; ends = h.1.0; holds_of_it = (refl, h.1.1) })

-- ---- devices

rose_before : (a b c : ℕ) → a ≤ b → Rose b c → Rose a c
rose_before a b c le (inl h) = inl (omega (arith, le, h))
rose_before a b c le (inr h) = inr h

module _ (out_faults out_faults' : ℕ) where
  file_cause : (s : Status) (old new : FilesTold) → HasFileCause s old new → HasCause s out_faults out_faults' old new
  file_cause (Missing name) old new h = h
  file_cause (ReadFault name) old new h = h
  file_cause WriteFault old new h = absurd h
  file_cause s old new h = tt

  work_cause : (ends : Status → List ℕ → Type 0) (out out' : Option (List ℕ)) (s : Status) (old : FilesTold) → Does ends out out' out_faults out_faults' s → HasCause s out_faults out_faults' old old
  work_cause ends out out' (Missing name) old h = absurd h
  work_cause ends out out' (ReadFault name) old h = absurd h
  work_cause ends out out' WriteFault old h = h.1
  work_cause ends out out' s old h = tt

  -- what rose in a part of a call rose in it
  cause_before : (s : Status) (old mid new : FilesTold) → old.misses ≤ mid.misses → old.faults ≤ mid.faults → HasCause s out_faults out_faults' mid new → HasCause s out_faults out_faults' old new
  cause_before (Missing name) old mid new m f h = rose_before old.misses mid.misses new.misses m h
  cause_before (ReadFault name) old mid new m f h = rose_before old.faults mid.faults new.faults f h
  cause_before WriteFault old mid new m f h = h
  cause_before s old mid new m f h = tt

-- a step that fails leaves the output alone
pub step_leaves : (out_faults : ℕ) (s : Status) (old new : FilesTold) → LeavesFiles old new (HasFileCause s) → LeavesDevices old new out_faults out_faults s
step_leaves out_faults s old new h = record {
  files = record { holds = h.holds; misses = h.misses; faults = h.faults; cause = file_cause out_faults out_faults s old new h.cause };
  write_faults = omega arith;
}

-- work leaves the files alone
pub work_leaves : (ends : Status → List ℕ → Type 0) (out out' : Option (List ℕ)) (out_faults out_faults' : ℕ) (s : Status) (old : FilesTold) → Does ends out out' out_faults out_faults' s → out_faults ≤ out_faults' → LeavesDevices old old out_faults out_faults' s
work_leaves ends out out' out_faults out_faults' s old h le = record {
  files = record { holds = refl; misses = omega arith; faults = omega arith; cause = work_cause out_faults out_faults' ends out out' s old h };
  write_faults = le;
}

-- a step that reads files, and then the rest
pub leaves_after : (out_faults out_faults' : ℕ) (s : Status) (has_cause : FilesTold → FilesTold → Type 0) (old mid new : FilesTold) → LeavesFiles old mid has_cause → LeavesDevices mid new out_faults out_faults' s → LeavesDevices old new out_faults out_faults' s
leaves_after out_faults out_faults' s has_cause old mid new h k = record {
  files = record {
    holds = k.files.holds ∙ h.holds;
    misses = omega (arith, h.misses, k.files.misses);
    faults = omega (arith, h.faults, k.files.faults);
    cause = cause_before out_faults out_faults' s old mid new h.misses h.faults k.files.cause;
  };
  write_faults = k.write_faults;
}

pub ruleset devices = (step_leaves, work_leaves, leaves_after)
