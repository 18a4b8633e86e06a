-- What the host's devices are seen as. They tell no bytes.
use Rattle.std.specs.Prelude.{◌≡◌, ℕ, Bool, true, false, None}
use Rattle.strm_io.specs.Devices.{FilesTold}
use Rattle.strm_io.specs.Counts.{raised}
use Rattle.strm_io.specs.declared.reading.Opened.{Opened}
use Rattle.strm_io.specs.declared.reading.Opened.TheVariants.{Found, Missing, Failed}
use Rattle.strm_io.specs.declared.reading.Piece.{Piece}
use Rattle.strm_io.specs.declared.reading.Piece.TheVariants.{Got, AtEnd, Failed as Broken}

-- whether a file is open, and the counts
pub record HostFilesState : Type 0 where
  pub is_open : Bool
  pub faults : ℕ
  pub misses : ℕ

-- what they tell
abbrev pub files_told : HostFilesState → FilesTold
files_told s = record { holds = None; left = None; misses = s.misses; faults = s.faults }

-- the count of a sink
pub record HostSinkState : Type 0 where
  pub faults : ℕ

-- the files after an opening: open where one was found, with the count of the answer raised by one
abbrev pub after_opening : HostFilesState → Opened → HostFilesState
after_opening s Found = record s { is_open = true }
after_opening s Missing = record s { is_open = false; misses = raised s.misses }
after_opening s Failed = record s { is_open = false; faults = raised s.faults }

-- the files after a piece: closed by a fault, which is counted, and else as before
abbrev pub after_piece : HostFilesState → Piece → HostFilesState
after_piece s (Got n) = s
after_piece s AtEnd = s
after_piece s Broken = record s { is_open = false; faults = raised s.faults }

-- only an open file gives bytes, or fails
abbrev pub ReadsOpenFile : Bool → Piece → Type 0
ReadsOpenFile is_open (Got n) = is_open ≡ true
ReadsOpenFile is_open AtEnd = Unit {0}
ReadsOpenFile is_open Broken = is_open ≡ true
