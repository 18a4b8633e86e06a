-- The bounds of the code, as those of the definitions.
use Rattle.command_words.specs.Commands as commands
use Rattle.command_words.specs.declared.reading.Bound.{Bound}

abbrev pub bound_of : Bound → commands.Bound
bound_of bound = record { count = bound.count; rest = bound.rest }
