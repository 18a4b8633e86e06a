-- What the memory devices are seen as.
use Rattle.std.specs.Prelude.{ℕ, List, [], ◌∷◌, ◌++◌, Some}
use Rattle.strm_io.specs.Devices.{FilesTold}
use Rattle.strm_io.specs.Store.{Store}

-- the files, what is left of the one that is open, and the counts
pub record FilesState : Type 0 where
  pub files : Store
  pub left : List ℕ
  pub faults : ℕ
  pub misses : ℕ

-- what they tell
abbrev pub files_told : FilesState → FilesTold
files_told s = record { holds = Some s.files; left = Some s.left; misses = s.misses; faults = s.faults }

-- the files with one more behind the others, and all else as it was
abbrev pub with_file : FilesState → List ℕ → List ℕ → FilesState
with_file s name bytes = record s { files = s.files ++ (name, bytes) ∷ [] }

-- what was written, for how many bytes there is room, and the faults
pub record SinkState : Type 0 where
  pub written : List ℕ
  pub room : ℕ
  pub faults : ℕ
