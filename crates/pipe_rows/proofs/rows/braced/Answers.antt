use Rattle.std.proofs.Common.{◌≡◌, List, [], ◌∷◌, ◌++◌, map, refl, sym, ◌∙◌, ap, subst}
use Rattle.std.proofs.lemmas.List.{map-append}
use Rattle.pipe_reader.specs.declared.separator.Separator.TheVariants.{CloseBrace}
use Rattle.pipe_tree.specs.declared.tree.TExpr.{TExpr}
use Rattle.pipe_reader.specs.Continuations.{expression, MoreParts, ASeparator, braced_row}
use Rattle.pipe_rows.specs.ReaderState.{braced_parts, tokens_behind, left_of}
use Rattle.pipe_tree.specs.Trees.{Formula}
use Rattle.pipe_tree.specs.TreeCopies.{formula_of, row_of}
use Rattle.pipe_rows.proofs.FormReading.{Comes, here, past, past_separator, turn, take_token, fails, fails_separator}
use Rattle.pipe_rows.proofs.FirstTokens.{more_parts, parts_end}
use Rattle.pipe_rows.proofs.rows.braced.Goals as goal
use Rattle.pipe_rows.proofs.rows.braced.Goals.{In_ok-push, In_ok-push-2}

pub loop-reader-init : goal.loop-reader-init
loop-reader-init c =
    let parts : c.push.new.self ≡ c.in_ok-expression.field-0.value ∷ [] =
    c.in_ok-push.ensures.ok ∙ ap (λ (es : List TExpr). es ++ c.into_inner.result ∷ []) c.new-parts.ensures ∙ ap (λ (e : TExpr). e ∷ []) c.into_inner.ensures in
    subst (λ (es : List TExpr). Comes (braced_parts c.args.at) c.args.reader.now (MoreParts c.args.at (map formula_of es)) c.expression.new.reader) (sym parts)
    (past expression (formula_of c.in_ok-expression.field-0.value) (here (braced_parts c.args.at) c.args.reader.now) (λ f is_shallow e. refl) c.in_ok-expression.ensures.reads c.in_ok-expression.ensures.on)

pub returns-in_err-expression-2-clause-reads : goal.returns-in_err-expression-2-clause-reads
returns-in_err-expression-2-clause-reads c =
    fails expression row_of c.from_residual-in_err-expression-2.result c.in_err-expression-2.field-0.0 (left_of c.expression-in-loop-reader.new.reader)
    (take_token (λ f. expression (λ e. MoreParts c.args.at (map formula_of c.loop-reader.parts ++ e ∷ []) f)) (tokens_behind (left_of c.loop-reader.reader)) c.loop-reader.invariant
    (more_parts c.args.at (map formula_of c.loop-reader.parts) (left_of c.loop-reader.reader) (sym c.is_next.ensures ∙ c.loop-reader-test.true)) c.advance.ensures.left c.advance.ensures.on)
    (λ f is_shallow e. refl) c.in_err-expression-2.ensures.reads c.from_residual-in_err-expression-2.ensures

pub loop-reader-preserved : goal.loop-reader-preserved
loop-reader-preserved c =
    let parts : c.push-in-loop-reader.new.self ≡ c.loop-reader.parts ++ c.in_ok-expression-2.field-0.value ∷ [] =
    c.in_ok-push-2.ensures.ok ∙ ap (λ (e : TExpr). c.loop-reader.parts ++ e ∷ []) c.into_inner-in-loop-reader.ensures in
    subst (λ (es : List Formula). Comes (braced_parts c.args.at) c.args.reader.now (MoreParts c.args.at es) c.expression-in-loop-reader.new.reader)
    (sym (ap (map formula_of) parts ∙ map-append formula_of c.loop-reader.parts (c.in_ok-expression-2.field-0.value ∷ [])))
    (past expression (formula_of c.in_ok-expression-2.field-0.value)
    (take_token (λ f. expression (λ e. MoreParts c.args.at (map formula_of c.loop-reader.parts ++ e ∷ []) f)) (tokens_behind (left_of c.loop-reader.reader)) c.loop-reader.invariant
    (more_parts c.args.at (map formula_of c.loop-reader.parts) (left_of c.loop-reader.reader) (sym c.is_next.ensures ∙ c.loop-reader-test.true)) c.advance.ensures.left c.advance.ensures.on)
    (λ f is_shallow e. refl) c.in_ok-expression-2.ensures.reads c.in_ok-expression-2.ensures.on)

pub returns-in_err-separator-clause-reads : goal.returns-in_err-separator-clause-reads
returns-in_err-separator-clause-reads c =
    fails_separator CloseBrace row_of c.from_residual-in_err-separator.result c.in_err-separator.field-0.0 (left_of c.separator.new.self)
    (turn (λ f. ASeparator CloseBrace (f (braced_row c.args.at (map formula_of c.loop-reader.parts)))) c.loop-reader.invariant
    (parts_end c.args.at (map formula_of c.loop-reader.parts) (left_of c.loop-reader.reader) (sym c.is_next.ensures ∙ c.loop-reader-test.false)))
    (λ f is_shallow e. is_shallow _) c.in_err-separator.ensures.reads c.from_residual-in_err-separator.ensures

pub returns-clause-reads : goal.returns-clause-reads
returns-clause-reads c =
    (past_separator CloseBrace
    (turn (λ f. ASeparator CloseBrace (f (braced_row c.args.at (map formula_of c.loop-reader.parts)))) c.loop-reader.invariant
    (parts_end c.args.at (map formula_of c.loop-reader.parts) (left_of c.loop-reader.reader) (sym c.is_next.ensures ∙ c.loop-reader-test.false)))
    (λ f is_shallow e. is_shallow _) c.in_ok-separator.ensures.reads c.in_ok-separator.ensures.on).comes
