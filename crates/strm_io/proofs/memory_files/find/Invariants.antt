use Rattle.std.proofs.Common.{◌≡◌, ◌<◌, length, IfSome}
use Rattle.strm_io.specs.MemoryFiles.{found_bytes, store_of}
use Rattle.strm_io.specs.Store.{held}
use Rattle.strm_io.proofs.Entries.{found_from}
use Rattle.strm_io.proofs.memory_files.find.Given as goal

abbrev pub invariant-loop-i : goal.invariant-loop-i
invariant-loop-i l = record {
  found : found_from l.entries l.name l.i (found_bytes l.entries l.found) ≡ held (store_of l.entries) l.name;
  within : IfSome l.found (λ i. i < length l.entries);
}
