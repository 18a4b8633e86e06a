-- The plain copies of what the code holds while it reads a phrase.
use Rattle.std.specs.Prelude.{Bool, cond, List, map, Option, Some, None, option_map}
use Rattle.loop_ir.specs.StatementCopies.{operand_of, test_of}
use Rattle.c_automaton.specs.Phrases as m
use Rattle.c_phrase_reader.specs.declared.phrase.Phrase.{Phrase}
use Rattle.c_phrase_reader.specs.declared.phrase.Phrase.TheVariants as phrase
use Rattle.c_phrase_reader.specs.declared.reading.Frame.{Frame}
use Rattle.c_phrase_reader.specs.declared.reading.Frame.TheVariants as frame
use Rattle.c_phrase_reader.specs.declared.reading.Reading.{Reading}

-- what comes of a token that was taken, or of one that wasn't
abbrev pub if_taken : {A : Type 0} → Bool → A → Option A
if_taken taken x = cond taken (Some x) None

abbrev pub phrase_of : Phrase → m.Phrase
phrase_of (phrase.Operand b) = m.AnOperand (operand_of b.value)
phrase_of (phrase.Test t) = m.ATest (test_of t.value)

abbrev pub frame_of : Frame → m.Frame
frame_of (frame.Open w) = m.Open w
frame_of (frame.Left o p) = m.Left o (phrase_of p)
frame_of frame.Negation = m.Negation

abbrev pub frames_of : List Frame → List m.Frame
frames_of frames = map frame_of frames

abbrev pub got_of : Option Phrase → Option m.Phrase
got_of got = option_map phrase_of got

abbrev pub reading_of : Reading → m.Reading
reading_of r = record { frames = frames_of r.frames; got = got_of r.got }
