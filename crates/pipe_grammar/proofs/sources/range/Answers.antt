use Rattle.std.proofs.Common.{refl, sym}
use Rattle.pipe_reader.specs.declared.separator.Separator.TheVariants.{OpenParen, CloseParen, Comma}
use Rattle.pipe_reader.specs.Continuations.{source_form, expression}
use Rattle.pipe_reader.specs.declared.forms.SourceForm.TheVariants.{Range as RangeForm}
use Rattle.pipe_rows.specs.ReaderState.{after, left_of}
use Rattle.pipe_tree.specs.TreeCopies.{formula_of, source_of}
use Rattle.pipe_grammar.proofs.Copies.{range_copy}
use Rattle.pipe_rows.proofs.FormReading.{here, ends_as, past, past_separator, fails, fails_separator}
use Rattle.pipe_grammar.proofs.sources.range.Goals as goal

pub returns-in_err-low-clause-reads : goal.returns-in_err-low-clause-reads
returns-in_err-low-clause-reads c =
    fails (after OpenParen expression) source_of c.from_residual.result c.in_err-low.field-0.0 (left_of c.expression_after.new.reader)
    (here (source_form RangeForm 0) c.args.reader.now)
    (λ f is_shallow u. refl) c.in_err-low.ensures.reads c.from_residual.ensures

pub returns-in_err-high-clause-reads : goal.returns-in_err-high-clause-reads
returns-in_err-high-clause-reads c =
    fails (after Comma expression) source_of c.from_residual-in_err-high.result c.in_err-high.field-0.0 (left_of c.expression_after-2.new.reader)
    (past (after OpenParen expression) (formula_of c.in_ok-low.low.value)
    (here (source_form RangeForm 0) c.args.reader.now)
    (λ f is_shallow u. refl) c.in_ok-low.ensures.reads c.in_ok-low.ensures.on)
    (λ f is_shallow u. refl) c.in_err-high.ensures.reads c.from_residual-in_err-high.ensures

pub returns-in_err-separator-clause-reads : goal.returns-in_err-separator-clause-reads
returns-in_err-separator-clause-reads c =
    fails_separator CloseParen source_of c.from_residual-in_err-separator.result c.in_err-separator.field-0.0 (left_of c.separator.new.self)
    (past (after Comma expression) (formula_of c.in_ok-high.high.value)
    (past (after OpenParen expression) (formula_of c.in_ok-low.low.value)
    (here (source_form RangeForm 0) c.args.reader.now)
    (λ f is_shallow u. refl) c.in_ok-low.ensures.reads c.in_ok-low.ensures.on)
    (λ f is_shallow u. refl) c.in_ok-high.ensures.reads c.in_ok-high.ensures.on)
    (λ f is_shallow u. is_shallow _) c.in_err-separator.ensures.reads c.from_residual-in_err-separator.ensures

pub returns-clause-reads : goal.returns-clause-reads
returns-clause-reads c =
    ends_as (sym (range_copy c.in_ok-low.low c.in_ok-high.high c.into_inner.ensures c.into_inner-2.ensures))
    (past_separator CloseParen
    (past (after Comma expression) (formula_of c.in_ok-high.high.value)
    (past (after OpenParen expression) (formula_of c.in_ok-low.low.value)
    (here (source_form RangeForm 0) c.args.reader.now)
    (λ f is_shallow u. refl) c.in_ok-low.ensures.reads c.in_ok-low.ensures.on)
    (λ f is_shallow u. refl) c.in_ok-high.ensures.reads c.in_ok-high.ensures.on)
    (λ f is_shallow u. is_shallow _) c.in_ok-separator.ensures.reads c.in_ok-separator.ensures.on)
