use Rattle.std.proofs.Common.{sym}
use Rattle.pipe_reader.specs.Continuations.{Continuation, stage_form}
use Rattle.pipe_reader.specs.declared.forms.StageForm.TheVariants.{Scan as ScanForm}
use Rattle.pipe_rows.specs.Foldings.{Folding, a_folding, folding_of}
use Rattle.pipe_rows.specs.ReaderState.{left_of}
use Rattle.pipe_tree.specs.TreeCopies.{stage_at}
use Rattle.pipe_tree.specs.Trees.{Stage, Scan}
use Rattle.pipe_grammar.proofs.Copies.{scan_copy}
use Rattle.pipe_rows.proofs.FormReading.{here, past, fails, ends_as}
use Rattle.pipe_grammar.proofs.stages.scan.Goals as goal

pub returns-in_err-parts-clause-reads : goal.returns-in_err-parts-clause-reads
returns-in_err-parts-clause-reads c = λ at.
    fails a_folding {k = λ (f : Stage → Continuation) (g : Folding). f (Scan at g.seed g.state g.pat g.next)} (stage_at at) c.from_residual.result c.in_err-parts.field-0.0 (left_of c.folding.new.reader)
    (here (stage_form ScanForm at 0) c.args.reader.now)
    (λ f is_shallow g. is_shallow _) c.in_err-parts.ensures.reads c.from_residual.ensures

pub returns-clause-reads : goal.returns-clause-reads
returns-clause-reads c = λ at.
    ends_as (sym (scan_copy at c.in_ok-parts.parts.seed c.in_ok-parts.parts.state c.in_ok-parts.parts.pat c.in_ok-parts.parts.next))
    (past a_folding {k = λ (f : Stage → Continuation) (g : Folding). f (Scan at g.seed g.state g.pat g.next)} (folding_of c.in_ok-parts.parts)
    (here (stage_form ScanForm at 0) c.args.reader.now)
    (λ f is_shallow g. is_shallow _) c.in_ok-parts.ensures.reads c.in_ok-parts.ensures.on)
