use Rattle.std.proofs.Common.{sym, ap}
use Rattle.pipe_reader.specs.Continuations.{Continuation, terminal_form}
use Rattle.pipe_reader.specs.declared.forms.TerminalForm.TheVariants.{Fold as FoldForm}
use Rattle.pipe_rows.specs.Foldings.{Folding, a_folding, folding_of}
use Rattle.pipe_rows.specs.ReaderState.{left_of}
use Rattle.pipe_tree.specs.TreeCopies.{boxed_copy, terminal_of}
use Rattle.pipe_tree.specs.Trees.{Terminal, Fold}
use Rattle.pipe_rows.proofs.FormReading.{here, ends_as, past, fails}
use Rattle.pipe_grammar.proofs.texts.fold.Goals as goal

pub returns-in_err-parts-clause-reads : goal.returns-in_err-parts-clause-reads
returns-in_err-parts-clause-reads c =
    fails a_folding {k = λ (f : Terminal → Continuation) (g : Folding). f (Fold g.seed g.state g.pat g.next)} (boxed_copy terminal_of) c.from_residual.result c.in_err-parts.field-0.0 (left_of c.folding.new.reader)
    (here (terminal_form FoldForm) c.args.reader.now)
    (λ f is_shallow g. is_shallow _) c.in_err-parts.ensures.reads c.from_residual.ensures

pub returns-clause-reads : goal.returns-clause-reads
returns-clause-reads c =
    ends_as (sym (ap terminal_of c.in_ok-new.ensures.ok))
    (past a_folding {k = λ (f : Terminal → Continuation) (g : Folding). f (Fold g.seed g.state g.pat g.next)} (folding_of c.in_ok-parts.parts)
    (here (terminal_form FoldForm) c.args.reader.now)
    (λ f is_shallow g. is_shallow _) c.in_ok-parts.ensures.reads c.in_ok-parts.ensures.on)
