use Rattle.std.proofs.Common.{rules}
use Rattle.std.proofs.lemmas.Result.{IfOk-weaker}
use Rattle.loop_ir.specs.Layout.{layout}
use Rattle.loop_ir.specs.Routines.{routine_of}
use Rattle.c_grammar.specs.Reading.{Reads}
use Rattle.c_printer.proofs.ReadText.{reads_as, reads_alone}
use Rattle.c_printer.proofs.print_c.Goals as goal

-- the layout reads as the program
layout_reads : (c : goal.After-program_text) → Reads (layout (routine_of c.args.q.now)) (routine_of c.args.q.now)
layout_reads c = c.layouts_read_as_their_programs.ensures (routine_of c.args.q.now) (search rules) c.has_32_bits.ensures

pub returns-clause-reads : goal.returns-clause-reads
returns-clause-reads c =
    IfOk-weaker c.program_text.result _ _ (λ text e. reads_as (routine_of c.args.q.now) _ text.items (layout_reads c) e) c.program_text.ensures

pub returns-clause-only : goal.returns-clause-only
returns-clause-only c =
    IfOk-weaker c.program_text.result _ _
    (λ text e. reads_alone c.texts_read_as_one_program.ensures (routine_of c.args.q.now) _ text.items (layout_reads c) e) c.program_text.ensures
