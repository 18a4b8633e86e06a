-- What a pipeline text that was read stands for.
use Rattle.job_steps.specs.Pipelines.{Source as Named, names_of}
use Rattle.job_files.specs.declared.source.Source.{Source}
use Rattle.list_denotation.specs.Pipelines.{pipeline_of}
use Rattle.loop_ir.specs.Routines.{routine_of}
use Rattle.loop_ir.specs.Statements.{Routine}
use Rattle.loop_ir.specs.declared.program.Prog.{Prog}
use Rattle.pipe_tree.specs.TreeCopies.{text_of}
use Rattle.std.specs.Prelude.{Box}
use Rattle.std.specs.declared.alloc.Global.{Global}

abbrev pub named_of : Source → Named
named_of s = record { names = names_of (text_of s.tree.value); pipeline = pipeline_of s.program }

abbrev pub source_of : Box Source Global → Named
source_of s = named_of s.value

abbrev pub boxed_routine : Box Prog Global → Routine
boxed_routine q = routine_of q.value
