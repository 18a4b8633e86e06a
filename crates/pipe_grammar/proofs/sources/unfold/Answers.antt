use Rattle.std.proofs.Common.{refl}
use Rattle.pipe_reader.specs.declared.separator.Separator.TheVariants.{With, While, Yield, Next}
use Rattle.pipe_reader.specs.Continuations.{source_form, ARow, APattern, expression}
use Rattle.pipe_reader.specs.declared.forms.SourceForm.TheVariants.{Unfold as UnfoldForm}
use Rattle.pipe_rows.specs.ReaderState.{after, left_of}
use Rattle.pipe_tree.specs.TreeCopies.{formula_of, pattern_of, row_of, source_of}
use Rattle.pipe_rows.proofs.FormReading.{here, past, fails}
use Rattle.pipe_grammar.proofs.sources.unfold.Goals as goal

pub returns-in_err-pat-clause-reads : goal.returns-in_err-pat-clause-reads
returns-in_err-pat-clause-reads c =
    fails (after With APattern) source_of c.from_residual-in_err-pat.result c.in_err-pat.field-0.0 (left_of c.pattern_after.new.reader)
    (past ARow (row_of c.in_ok-seed.seed)
    (here (source_form UnfoldForm 0) c.args.reader.now)
    (λ f is_shallow u. refl) c.in_ok-seed.ensures.reads c.in_ok-seed.ensures.on)
    (λ f is_shallow u. refl) c.in_err-pat.ensures.reads c.from_residual-in_err-pat.ensures

pub returns-in_err-guard-clause-reads : goal.returns-in_err-guard-clause-reads
returns-in_err-guard-clause-reads c =
    fails (after While expression) source_of c.from_residual-in_err-guard.result c.in_err-guard.field-0.0 (left_of c.expression_after.new.reader)
    (past (after With APattern) (pattern_of c.in_ok-pat.pat)
    (past ARow (row_of c.in_ok-seed.seed)
    (here (source_form UnfoldForm 0) c.args.reader.now)
    (λ f is_shallow u. refl) c.in_ok-seed.ensures.reads c.in_ok-seed.ensures.on)
    (λ f is_shallow u. refl) c.in_ok-pat.ensures.reads c.in_ok-pat.ensures.on)
    (λ f is_shallow u. refl) c.in_err-guard.ensures.reads c.from_residual-in_err-guard.ensures

pub returns-in_err-item-clause-reads : goal.returns-in_err-item-clause-reads
returns-in_err-item-clause-reads c =
    fails (after Yield ARow) source_of c.from_residual-in_err-item.result c.in_err-item.field-0.0 (left_of c.row_after.new.reader)
    (past (after While expression) (formula_of c.in_ok-guard.guard.value)
    (past (after With APattern) (pattern_of c.in_ok-pat.pat)
    (past ARow (row_of c.in_ok-seed.seed)
    (here (source_form UnfoldForm 0) c.args.reader.now)
    (λ f is_shallow u. refl) c.in_ok-seed.ensures.reads c.in_ok-seed.ensures.on)
    (λ f is_shallow u. refl) c.in_ok-pat.ensures.reads c.in_ok-pat.ensures.on)
    (λ f is_shallow u. refl) c.in_ok-guard.ensures.reads c.in_ok-guard.ensures.on)
    (λ f is_shallow u. refl) c.in_err-item.ensures.reads c.from_residual-in_err-item.ensures

pub returns-in_err-next-clause-reads : goal.returns-in_err-next-clause-reads
returns-in_err-next-clause-reads c =
    fails (after Next ARow) source_of c.from_residual-in_err-next.result c.in_err-next.field-0.0 (left_of c.row_after-2.new.reader)
    (past (after Yield ARow) (row_of c.in_ok-item.item)
    (past (after While expression) (formula_of c.in_ok-guard.guard.value)
    (past (after With APattern) (pattern_of c.in_ok-pat.pat)
    (past ARow (row_of c.in_ok-seed.seed)
    (here (source_form UnfoldForm 0) c.args.reader.now)
    (λ f is_shallow u. refl) c.in_ok-seed.ensures.reads c.in_ok-seed.ensures.on)
    (λ f is_shallow u. refl) c.in_ok-pat.ensures.reads c.in_ok-pat.ensures.on)
    (λ f is_shallow u. refl) c.in_ok-guard.ensures.reads c.in_ok-guard.ensures.on)
    (λ f is_shallow u. refl) c.in_ok-item.ensures.reads c.in_ok-item.ensures.on)
    (λ f is_shallow u. is_shallow _) c.in_err-next.ensures.reads c.from_residual-in_err-next.ensures
