-- Files over memory: what is seen of them, and how much one piece gives.
use Rattle.std.specs.Prelude.{◌≡◌, ℕ, ◌<◌, List, [], drop, length, map, min, Option, Some, None}
use Rattle.std.specs.Prelude.{string_bytes, slice_get}
use Rattle.std.specs.Option.{ForSome}
use Rattle.strm_io.specs.MemoryStates.{FilesState}
use Rattle.strm_io.specs.Store.{Store}
use Rattle.strm_io.specs.declared.TheConstants.{MEMORY_STEP}
use Rattle.strm_io.specs.declared.memory_files.Entry.{Entry}
use Rattle.strm_io.specs.declared.memory_files.MemFiles.TheInside.{Inside}
use Rattle.strm_io.specs.declared.reading.Piece.{Piece}
use Rattle.strm_io.specs.declared.reading.Piece.TheVariants.{Got, AtEnd, Failed}

-- the name and the bytes of an entry
abbrev pub file_of : Entry → List ℕ × List ℕ
file_of entry = (string_bytes entry.name, entry.bytes.items)

-- the entries as a store
abbrev pub store_of : List Entry → Store
store_of entries = map file_of entries

-- the bytes of an entry, if there is one
abbrev pub entry_bytes : Option Entry → List ℕ
entry_bytes None = []
entry_bytes (Some entry) = entry.bytes.items

-- the bytes of the entry that was found, if one was
abbrev pub found_bytes : List Entry → Option ℕ → Option (List ℕ)
found_bytes entries None = None
found_bytes entries (Some i) = Some (entry_bytes (slice_get entries i))

-- the bytes of the open entry behind those that were read
abbrev pub left_of : List Entry → Option ℕ → ℕ → List ℕ
left_of entries None read = []
left_of entries (Some i) read = drop read (entry_bytes (slice_get entries i))

-- what is seen of the fields
abbrev pub files_state : Inside → FilesState
files_state s = record {
  files = store_of s.entries.items;
  left = left_of s.entries.items s.opened s.read;
  faults = s.faults;
  misses = s.misses;
}

-- the file that is open is one of the entries
abbrev pub OpensEntry : Inside → Type 0
OpensEntry s = ForSome s.opened (λ i. i < length s.entries.items)

-- a piece has as many bytes as the step, the buffer and what is left allow, and never fails
abbrev pub GivesMost : ℕ → ℕ → Piece → Type 0
GivesMost left buffer (Got n) = n ≡ min MEMORY_STEP (min buffer left)
GivesMost left buffer AtEnd = left ≡ 0
GivesMost left buffer Failed = ⊥
