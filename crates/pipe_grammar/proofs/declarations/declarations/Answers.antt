use Rattle.std.proofs.Common.{◌≡◌, ℕ, List, [], ◌∷◌, ◌++◌, map, refl, sym, ◌∙◌, ap, subst}
use Rattle.std.proofs.lemmas.List.{map-append}
use Rattle.pipe_reader.specs.Continuations.{Continuation, AStream, MoreDeclarations, declaration_form, ending}
use Rattle.pipe_rows.specs.ReaderState.{tokens_behind, end_of, left_of}
use Rattle.pipe_tree.specs.TreeCopies.{declaration_of}
use Rattle.pipe_tree.specs.Trees.{Declaration, Text}
use Rattle.pipe_grammar.specs.WholeTexts.{whole_text}
use Rattle.pipe_rows.proofs.FirstTokens.{Same, input_taken}
use Rattle.pipe_rows.proofs.FormReading.{Comes, past, take_token, fails_starts}
use Rattle.pipe_grammar.proofs.declarations.declarations.Goals as goal

pub returns-in_err-declaration-clause-starts : goal.returns-in_err-declaration-clause-starts
returns-in_err-declaration-clause-starts c =
    let ds = map declaration_of c.loop-reader.inputs in
    fails_starts (declaration_form c.offset-at.result) {k = λ (f : Text → Continuation) (d : Declaration). MoreDeclarations (ds ++ d ∷ [])} (map declaration_of) (λ all f. AStream 0 (ending all)) c.from_residual.result c.in_err-declaration.field-0.0 (left_of c.declaration.new.reader)
    (take_token (λ f. declaration_form c.offset-at.result (λ d. MoreDeclarations (ds ++ d ∷ []))) (tokens_behind (left_of c.loop-reader.reader)) c.loop-reader.invariant
    (subst (λ (at : ℕ). Same {A = Text} (λ f. MoreDeclarations ds) (left_of c.loop-reader.reader) (λ f. declaration_form at (λ d. MoreDeclarations (ds ++ d ∷ []))) (tokens_behind (left_of c.loop-reader.reader))) (sym c.offset-at.ensures)
    (input_taken (end_of c.loop-reader.reader) ds (left_of c.loop-reader.reader) (sym c.is_input_next.ensures ∙ c.loop-reader-test.true))) c.advance.ensures.left c.advance.ensures.on)
    (λ f is_shallow d. refl) c.in_err-declaration.ensures.reads c.from_residual.ensures

pub loop-reader-preserved : goal.loop-reader-preserved
loop-reader-preserved c =
    let ds = map declaration_of c.loop-reader.inputs in
    let more : c.push.new.self ≡ c.loop-reader.inputs ++ c.in_ok-declaration.field-0 ∷ [] = c.in_ok-push.ensures.ok in
    subst (λ (all : List Declaration). Comes whole_text c.args.reader.now (λ f. MoreDeclarations all) c.declaration.new.reader)
    (sym (ap (map declaration_of) more ∙ map-append declaration_of c.loop-reader.inputs (c.in_ok-declaration.field-0 ∷ [])))
    (past (declaration_form c.offset-at.result) {k = λ (f : Text → Continuation) (d : Declaration). MoreDeclarations (ds ++ d ∷ [])} (declaration_of c.in_ok-declaration.field-0)
    (take_token (λ f. declaration_form c.offset-at.result (λ d. MoreDeclarations (ds ++ d ∷ []))) (tokens_behind (left_of c.loop-reader.reader)) c.loop-reader.invariant
    (subst (λ (at : ℕ). Same {A = Text} (λ f. MoreDeclarations ds) (left_of c.loop-reader.reader) (λ f. declaration_form at (λ d. MoreDeclarations (ds ++ d ∷ []))) (tokens_behind (left_of c.loop-reader.reader))) (sym c.offset-at.ensures)
    (input_taken (end_of c.loop-reader.reader) ds (left_of c.loop-reader.reader) (sym c.is_input_next.ensures ∙ c.loop-reader-test.true))) c.advance.ensures.left c.advance.ensures.on)
    (λ f is_shallow d. refl) c.in_ok-declaration.ensures.reads c.in_ok-declaration.ensures.on)
