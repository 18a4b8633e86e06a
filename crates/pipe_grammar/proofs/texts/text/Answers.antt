use Rattle.std.proofs.Common.{ℕ, map, refl, sym, ◌∙◌, ap, subst}
use Rattle.std.specs.Prelude.{Err}
use Rattle.pipe_tree.specs.declared.fault.ParseFault.{ParseFault}
use Rattle.pipe_reader.specs.Continuations.{Continuation, AStream, End, ending}
use Rattle.exact_reader.specs.Exactness.{Read}
use Rattle.pipe_tree.specs.Parsing.{offset_or_end}
use Rattle.pipe_rows.specs.ReaderState.{end_of, left_of}
use Rattle.pipe_tree.specs.TreeCopies.{declaration_of, stream_of, terminal_of}
use Rattle.pipe_tree.specs.Trees.{Stream, Text}
use Rattle.pipe_grammar.specs.WholeTexts.{TerminalWithOffset, ReadsAs, a_terminal, terminal_with_offset, whole_text}
use Rattle.pipe_rows.proofs.FormReading.{here, past, take_token}
use Rattle.pipe_grammar.proofs.TextReading.{text_fails, text_read, text_goes_on}
use Rattle.pipe_grammar.proofs.texts.text.Goals as goal

pub returns-in_err-inputs : goal.returns-in_err-inputs
returns-in_err-inputs c =
    text_fails whole_text (λ f. f) c.from_residual.result c.in_err-inputs.field-0.0 (left_of c.declarations.new.reader)
    (here whole_text c.args.reader.now)
    (λ f is_shallow. is_shallow) c.in_err-inputs.ensures.starts c.from_residual.ensures

pub returns-in_err-stream : goal.returns-in_err-stream
returns-in_err-stream c =
    let ds = map declaration_of c.in_ok-inputs.inputs in
    text_fails (AStream 0) (λ f. ending ds) c.from_residual-in_err-stream.result c.in_err-stream.field-0.0 (left_of c.stream.new.reader)
    (take_token (λ f. AStream 0 (ending ds)) (left_of c.declarations.new.reader) (here whole_text c.args.reader.now) c.in_ok-inputs.ensures.starts refl c.in_ok-inputs.ensures.on)
    (λ f is_shallow s. refl) c.in_err-stream.ensures.reads c.from_residual-in_err-stream.ensures

pub returns-in_err-terminal : goal.returns-in_err-terminal
returns-in_err-terminal c =
    let ds = map declaration_of c.in_ok-inputs.inputs in
    let s = stream_of c.in_ok-stream.stream.value in
    text_fails a_terminal (λ f p. End (record { inputs = ds; stream = s; terminal_at = p.at; terminal = p.terminal })) c.from_residual-in_err-terminal.result c.in_err-terminal.field-0.0 (left_of c.terminal.new.reader)
    (past (AStream 0) {k = λ (f : Text → Continuation) (s : Stream). ending ds s} s
    (take_token (λ f. AStream 0 (ending ds)) (left_of c.declarations.new.reader) (here whole_text c.args.reader.now) c.in_ok-inputs.ensures.starts refl c.in_ok-inputs.ensures.on)
    (λ f is_shallow s. refl) c.in_ok-stream.ensures.reads c.in_ok-stream.ensures.on)
    (λ f is_shallow p. refl) c.in_err-terminal.ensures.reads c.from_residual-in_err-terminal.ensures

pub returns-then-not-is_done : goal.returns-then-not-is_done
returns-then-not-is_done c =
    let ds = map declaration_of c.in_ok-inputs.inputs in
    let s = stream_of c.in_ok-stream.stream.value in
    let offset = offset_or_end (end_of c.stream.new.reader) (left_of c.stream.new.reader) in
    let tree : ℕ → Text = λ at. record { inputs = ds; stream = s; terminal_at = at; terminal = terminal_of c.in_ok-terminal.terminal.value } in
    subst (λ (e : ParseFault). ReadsAs (end_of c.args.reader.now) (left_of c.args.reader.now) (Err e)) (sym c.syntax.ensures)
    (text_goes_on (tree offset) (offset_or_end (end_of c.terminal.new.reader) (left_of c.terminal.new.reader))
    (past a_terminal {k = λ (f : Text → Continuation) (p : TerminalWithOffset). End (record { inputs = ds; stream = s; terminal_at = p.at; terminal = p.terminal })} (terminal_with_offset offset c.in_ok-terminal.terminal.value)
    (past (AStream 0) {k = λ (f : Text → Continuation) (s : Stream). ending ds s} s
    (take_token (λ f. AStream 0 (ending ds)) (left_of c.declarations.new.reader) (here whole_text c.args.reader.now) c.in_ok-inputs.ensures.starts refl c.in_ok-inputs.ensures.on)
    (λ f is_shallow s. refl) c.in_ok-stream.ensures.reads c.in_ok-stream.ensures.on)
    (λ f is_shallow p. refl) c.in_ok-terminal.ensures.reads c.in_ok-terminal.ensures.on)
    (sym c.is_done.ensures ∙ c.if-not-is_done.true) refl)

pub returns : goal.returns
returns c =
    let ds = map declaration_of c.in_ok-inputs.inputs in
    let s = stream_of c.in_ok-stream.stream.value in
    let offset = offset_or_end (end_of c.stream.new.reader) (left_of c.stream.new.reader) in
    let tree : ℕ → Text = λ at. record { inputs = ds; stream = s; terminal_at = at; terminal = terminal_of c.in_ok-terminal.terminal.value } in
    rw (c.in_ok-new.ensures.ok, c.into_inner-stream.ensures, c.into_inner-terminal.ensures)
    (text_read (tree offset)
    (past a_terminal {k = λ (f : Text → Continuation) (p : TerminalWithOffset). End (record { inputs = ds; stream = s; terminal_at = p.at; terminal = p.terminal })} (terminal_with_offset offset c.in_ok-terminal.terminal.value)
    (past (AStream 0) {k = λ (f : Text → Continuation) (s : Stream). ending ds s} s
    (take_token (λ f. AStream 0 (ending ds)) (left_of c.declarations.new.reader) (here whole_text c.args.reader.now) c.in_ok-inputs.ensures.starts refl c.in_ok-inputs.ensures.on)
    (λ f is_shallow s. refl) c.in_ok-stream.ensures.reads c.in_ok-stream.ensures.on)
    (λ f is_shallow p. refl) c.in_ok-terminal.ensures.reads c.in_ok-terminal.ensures.on)
    (sym c.is_done.ensures ∙ c.if-not-is_done.false)
    ∙ ap (λ (at : ℕ). Read (tree at)) (sym c.offset-terminal_at.ensures))
