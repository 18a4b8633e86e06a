-- Steps that read no file leave all as it was.
use Rattle.std.proofs.Common.{Result, Err, refl, arith}
use Rattle.strm_io.specs.Devices.{FilesTold, LeavesFiles}
use Rattle.job_steps.specs.Loads.{FailsWithCause}
use Rattle.status_lines.specs.declared.statuses.Status.{Status}
use Rattle.job_inputs.specs.Faults.{IsForNoFile}

pub untouched : (A : Type 0) (told : FilesTold) (s : Status) → IsForNoFile s → LeavesFiles told told (FailsWithCause {A = A} (Err s))
untouched A told s h = record { holds = refl; misses = omega arith; faults = omega arith; cause = h told told }
