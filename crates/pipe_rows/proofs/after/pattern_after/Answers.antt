use Rattle.std.proofs.Common.{refl}
use Rattle.pipe_reader.specs.Continuations.{APattern}
use Rattle.pipe_rows.specs.ReaderState.{result_copy, left_of}
use Rattle.pipe_tree.specs.TreeCopies.{pattern_of}
use Rattle.pipe_rows.proofs.FormReading.{after_fails, after_rest}
use Rattle.pipe_rows.proofs.after.pattern_after.Goals as goal

pub returns-in_err-separator-clause-reads : goal.returns-in_err-separator-clause-reads
returns-in_err-separator-clause-reads c =
    after_fails APattern c.args.reader.now c.args.separator pattern_of c.from_residual.result c.in_err-separator.field-0.0 (left_of c.separator.new.self) (λ f is_shallow u. refl) c.in_err-separator.ensures.reads c.from_residual.ensures

pub returns-clause-reads : goal.returns-clause-reads
returns-clause-reads c =
    after_rest APattern c.args.reader.now c.separator.new.self c.args.separator (result_copy pattern_of c.pattern.result) (left_of c.pattern.new.reader) (λ f is_shallow u. refl) c.in_ok-separator.ensures.reads c.in_ok-separator.ensures.on c.pattern.ensures.reads
