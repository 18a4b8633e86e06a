use Rattle.c_program_reader.specs.StateCopies.{state_of}
use Rattle.c_program_reader.proofs.reader.ProgramReader.phrase_begins.Goals as goal

pub returns : goal.returns
returns c =
    rw (c.clear.ensures.no_form, c.clear.ensures.nothing_read) at (c.phrase.ensures (state_of c.args.self.now).point)
