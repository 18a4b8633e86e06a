-- The plain copy of a program. It stands apart, since a program's own fact cites the other copies.
use Rattle.list_denotation.specs.declared.program.Program.{Program}
use Rattle.list_denotation.specs.Terms.{Pipeline}
use Rattle.list_denotation.specs.Copies.{pipe_of, finish_of}

abbrev pub pipeline_of : Program → Pipeline
pipeline_of p = record { inputs = p.inputs; stream = pipe_of p.stream; terminal = finish_of p.terminal }
