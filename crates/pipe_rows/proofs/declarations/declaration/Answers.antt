use Rattle.std.proofs.Common.{refl}
use Rattle.pipe_reader.specs.declared.separator.Separator.TheVariants.{Colon, Semicolon}
use Rattle.pipe_reader.specs.Continuations.{ALabel, AKind, declaration_form}
use Rattle.pipe_rows.specs.ReaderState.{left_of}
use Rattle.pipe_tree.specs.TreeCopies.{declaration_of, label_of}
use Rattle.pipe_rows.proofs.FormReading.{here, past, past_separator, fails, fails_separator}
use Rattle.pipe_rows.proofs.declarations.declaration.Goals as goal

pub returns-in_err-separator-clause-reads : goal.returns-in_err-separator-clause-reads
returns-in_err-separator-clause-reads c =
    fails_separator Colon declaration_of c.from_residual-in_err-separator.result c.in_err-separator.field-0.0 (left_of c.separator.new.self)
    (past ALabel (label_of c.in_ok-name.name)
    (here (declaration_form c.args.at) c.args.reader.now)
    (λ f is_shallow u. refl) c.in_ok-name.ensures.reads c.in_ok-name.ensures.on)
    (λ f is_shallow u. refl) c.in_err-separator.ensures.reads c.from_residual-in_err-separator.ensures

pub returns-in_err-kind-clause-reads : goal.returns-in_err-kind-clause-reads
returns-in_err-kind-clause-reads c =
    fails AKind declaration_of c.from_residual-in_err-kind.result c.in_err-kind.field-0.0 (left_of c.kind.new.reader)
    (past_separator Colon
    (past ALabel (label_of c.in_ok-name.name)
    (here (declaration_form c.args.at) c.args.reader.now)
    (λ f is_shallow u. refl) c.in_ok-name.ensures.reads c.in_ok-name.ensures.on)
    (λ f is_shallow u. refl) c.in_ok-separator.ensures.reads c.in_ok-separator.ensures.on)
    (λ f is_shallow u. refl) c.in_err-kind.ensures.reads c.from_residual-in_err-kind.ensures

pub returns-in_err-separator-2-clause-reads : goal.returns-in_err-separator-2-clause-reads
returns-in_err-separator-2-clause-reads c =
    fails_separator Semicolon declaration_of c.from_residual-in_err-separator-2.result c.in_err-separator-2.field-0.0 (left_of c.separator-2.new.self)
    (past AKind c.in_ok-kind.kind
    (past_separator Colon
    (past ALabel (label_of c.in_ok-name.name)
    (here (declaration_form c.args.at) c.args.reader.now)
    (λ f is_shallow u. refl) c.in_ok-name.ensures.reads c.in_ok-name.ensures.on)
    (λ f is_shallow u. refl) c.in_ok-separator.ensures.reads c.in_ok-separator.ensures.on)
    (λ f is_shallow u. refl) c.in_ok-kind.ensures.reads c.in_ok-kind.ensures.on)
    (λ f is_shallow u. is_shallow _) c.in_err-separator-2.ensures.reads c.from_residual-in_err-separator-2.ensures

pub returns-clause-reads : goal.returns-clause-reads
returns-clause-reads c =
    (past_separator Semicolon
    (past AKind c.in_ok-kind.kind
    (past_separator Colon
    (past ALabel (label_of c.in_ok-name.name)
    (here (declaration_form c.args.at) c.args.reader.now)
    (λ f is_shallow u. refl) c.in_ok-name.ensures.reads c.in_ok-name.ensures.on)
    (λ f is_shallow u. refl) c.in_ok-separator.ensures.reads c.in_ok-separator.ensures.on)
    (λ f is_shallow u. refl) c.in_ok-kind.ensures.reads c.in_ok-kind.ensures.on)
    (λ f is_shallow u. is_shallow _) c.in_ok-separator-2.ensures.reads c.in_ok-separator-2.ensures.on).comes
