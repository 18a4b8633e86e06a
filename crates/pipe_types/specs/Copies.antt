-- The plain copies of what the code holds.
use Rattle.list_denotation.specs.Copies.{pipe_of}
use Rattle.kind_rules.specs.Streams as plain
use Rattle.pipe_kinds.specs.Copies.{expr_term, row_terms, typed_row_of}
use Rattle.pipe_types.specs.declared.foldings.State.{State}
use Rattle.pipe_types.specs.declared.sources.Turn.{Turn}
use Rattle.pipe_types.specs.declared.typed_stream.TypedStream.{TypedStream}

abbrev pub state_of : State → plain.State
state_of s = record { seed = typed_row_of s.seed; next = row_terms s.next }

abbrev pub turn_copy : Turn → plain.Turn
turn_copy t = record { guard = expr_term t.guard; item = typed_row_of t.item; next = row_terms t.next }

abbrev pub stream_copy : TypedStream → plain.TypedStream
stream_copy s = plain.stream s.kinds (pipe_of s.stream.value)
