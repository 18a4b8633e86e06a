-- The plain copies of what the code holds while it reads a C text.
use Rattle.std.specs.Prelude.{List, map}
use Rattle.loop_ir.specs.Statements.{Routine}
use Rattle.loop_ir.specs.StatementCopies.{test_of, statement_of, block_of, routine_from}
use Rattle.c_words.specs.declared.token.CToken.{CToken}
use Rattle.c_automaton.specs.Automaton as a
use Rattle.c_phrase_reader.specs.PhraseCopies.{reading_of}
use Rattle.c_phrase_reader.specs.declared.reading.Reading.{Reading}
use Rattle.c_program_reader.specs.declared.blocks.Opening.{Opening}
use Rattle.c_program_reader.specs.declared.blocks.Opening.TheVariants as opening
use Rattle.c_program_reader.specs.declared.blocks.Level.{Level}
use Rattle.c_program_reader.specs.declared.reader.Point.{Point}
use Rattle.c_program_reader.specs.declared.reader.Point.TheVariants as point
use Rattle.c_program_reader.specs.declared.reader.ProgramReader.{ProgramReader}
use Rattle.c_program_reader.specs.declared.reader.Parsed.{Parsed}

abbrev pub opening_of : Opening → a.Opening
opening_of (opening.Then t) = a.Then (test_of t.value)
opening_of (opening.Else t ss) = a.Else (test_of t.value) (block_of ss)
opening_of (opening.Body t) = a.Body (test_of t.value)

abbrev pub level_of : Level → a.Level
level_of l = record { before = map statement_of l.before; opening = opening_of l.opening }

abbrev pub point_of : Point → List CToken → Reading → a.Point
point_of (point.Awaits n) awaited r = a.Awaits awaited n
point_of (point.Within f) awaited r = a.Within f (reading_of r)

-- the state of a reader at this point
abbrev pub state_at : a.Point → ProgramReader → a.State
state_at at r = record {
  params = r.params;
  vars = r.vars;
  around = map level_of r.around;
  here = map statement_of r.here;
  point = at;
}

abbrev pub state_of : ProgramReader → a.State
state_of r = state_at (point_of r.point r.awaited r.reading) r

-- the program of these parts
abbrev pub routine_of : Parsed → Routine
routine_of p = routine_from p.params p.vars p.body
