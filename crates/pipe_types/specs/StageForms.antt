-- Stages that differ in their form alone.
use Rattle.list_denotation.specs.Terms.{Term, Pipe}
use Rattle.list_denotation.specs.Terms as term
use Rattle.pipe_types.specs.declared.stages.RowCount.{RowCount}
use Rattle.pipe_types.specs.declared.stages.RowCount.TheVariants as count
use Rattle.pipe_types.specs.declared.stages.RowTest.{RowTest}
use Rattle.pipe_types.specs.declared.stages.RowTest.TheVariants as test

abbrev pub tested_pipe : RowTest → Pipe → Term → Pipe
tested_pipe test.Filter = term.Filter
tested_pipe test.TakeWhile = term.TakeWhile

abbrev pub counted_pipe : RowCount → Pipe → Term → Pipe
counted_pipe count.Take = term.Take
counted_pipe count.Drop = term.Drop
