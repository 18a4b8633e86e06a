use Rattle.std.proofs.Common.{◌≡◌, ◌≤◌, ◌+◌, ◌-◌, vec_len}
use Rattle.strm_io.specs.Reading.{TakesPrefix}
use Rattle.strm_io.proofs.loading.load_rest.Given as goal

abbrev pub invariant-loop-buffer : goal.invariant-loop-buffer
invariant-loop-buffer g l = record {
  taken : TakesPrefix (g.F.Files.told l.fn.files).left (g.F.Files.told l.files).left (vec_len l.bytes) l.bytes.items;
  holds : (g.F.Files.told l.files).holds ≡ (g.F.Files.told l.fn.files).holds;
  misses : (g.F.Files.told l.fn.files).misses ≤ (g.F.Files.told l.files).misses;
  faults : (g.F.Files.told l.fn.files).faults ≤ (g.F.Files.told l.files).faults;
}

abbrev pub decreases-loop-buffer : goal.decreases-loop-buffer
decreases-loop-buffer g l = l.limit + 1 - vec_len l.bytes
