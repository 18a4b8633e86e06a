-- A sink over memory: what is seen of it, and how much one put takes.
use Rattle.std.specs.Prelude.{◌≡◌, ℕ, ◌+◌, ◌<◌, ◌≤◌, min, vec_len, vec_capacity}
use Rattle.strm_io.specs.MemoryStates.{SinkState}
use Rattle.strm_io.specs.declared.TheConstants.{MEMORY_STEP}
use Rattle.strm_io.specs.declared.memory_sink.MemSink.TheInside.{Inside}
use Rattle.strm_io.specs.declared.writing.Put.{Put}
use Rattle.strm_io.specs.declared.writing.Put.TheVariants.{Took, Failed}

-- what is seen of the fields
abbrev pub sink_state : Inside → SinkState
sink_state s = record { written = s.bytes.items; room = s.room; faults = s.faults }

-- the room that is left is reserved
abbrev pub HasReserved : Inside → Type 0
HasReserved s = vec_len s.bytes + s.room ≤ vec_capacity s.bytes

-- a put takes as many bytes as the piece, the step and the room allow, and fails only where a piece
-- that isn't empty finds no room
abbrev pub TakesMost : ℕ → ℕ → Put → Type 0
TakesMost piece room (Took n) = (n ≡ min MEMORY_STEP (min piece room)) × (0 < piece → 0 < room)
TakesMost piece room Failed = (0 < piece) × (room ≡ 0)

-- the room falls by what was taken
abbrev pub UsesRoom : ℕ → ℕ → Put → Type 0
UsesRoom room room' (Took n) = room' + n ≡ room
UsesRoom room room' Failed = room' ≡ room
