use Rattle.std.proofs.Common.{refl}
use Rattle.pipe_reader.specs.declared.separator.Separator.TheVariants.{With, Arrow}
use Rattle.pipe_reader.specs.Continuations.{ARow, APattern}
use Rattle.pipe_rows.specs.Foldings.{a_folding, folding_of}
use Rattle.pipe_rows.specs.ReaderState.{after, left_of}
use Rattle.pipe_tree.specs.TreeCopies.{pattern_of, row_of}
use Rattle.pipe_rows.proofs.FormReading.{here, past, fails}
use Rattle.pipe_rows.proofs.fold_parts.folding.Goals as goal

pub returns-in_err-state-clause-reads : goal.returns-in_err-state-clause-reads
returns-in_err-state-clause-reads c =
    fails (after With APattern) folding_of c.from_residual-in_err-state.result c.in_err-state.field-0.0 (left_of c.pattern_after.new.reader)
    (past ARow (row_of c.in_ok-seed.seed)
    (here a_folding c.args.reader.now)
    (λ f is_shallow u. refl) c.in_ok-seed.ensures.reads c.in_ok-seed.ensures.on)
    (λ f is_shallow u. refl) c.in_err-state.ensures.reads c.from_residual-in_err-state.ensures

pub returns-in_err-pat-clause-reads : goal.returns-in_err-pat-clause-reads
returns-in_err-pat-clause-reads c =
    fails APattern folding_of c.from_residual-in_err-pat.result c.in_err-pat.field-0.0 (left_of c.pattern.new.reader)
    (past (after With APattern) (pattern_of c.in_ok-state.state)
    (past ARow (row_of c.in_ok-seed.seed)
    (here a_folding c.args.reader.now)
    (λ f is_shallow u. refl) c.in_ok-seed.ensures.reads c.in_ok-seed.ensures.on)
    (λ f is_shallow u. refl) c.in_ok-state.ensures.reads c.in_ok-state.ensures.on)
    (λ f is_shallow u. refl) c.in_err-pat.ensures.reads c.from_residual-in_err-pat.ensures

pub returns-in_err-next-clause-reads : goal.returns-in_err-next-clause-reads
returns-in_err-next-clause-reads c =
    fails (after Arrow ARow) folding_of c.from_residual-in_err-next.result c.in_err-next.field-0.0 (left_of c.row_after.new.reader)
    (past APattern (pattern_of c.in_ok-pat.pat)
    (past (after With APattern) (pattern_of c.in_ok-state.state)
    (past ARow (row_of c.in_ok-seed.seed)
    (here a_folding c.args.reader.now)
    (λ f is_shallow u. refl) c.in_ok-seed.ensures.reads c.in_ok-seed.ensures.on)
    (λ f is_shallow u. refl) c.in_ok-state.ensures.reads c.in_ok-state.ensures.on)
    (λ f is_shallow u. refl) c.in_ok-pat.ensures.reads c.in_ok-pat.ensures.on)
    (λ f is_shallow u. is_shallow _) c.in_err-next.ensures.reads c.from_residual-in_err-next.ensures
