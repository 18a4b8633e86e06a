use Rattle.std.proofs.Common.{◌≡◌, List, [], ◌∷◌, ◌++◌, map, refl, sym, ◌∙◌, ap, subst}
use Rattle.std.proofs.lemmas.List.{map-append}
use Rattle.pipe_reader.specs.declared.separator.Separator.TheVariants.{CloseBrace}
use Rattle.pipe_tree.specs.declared.tree.Name.{Name}
use Rattle.pipe_reader.specs.Continuations.{ALabel, MoreNames, ASeparator, braced_pattern}
use Rattle.pipe_rows.specs.ReaderState.{braced_names, tokens_behind, left_of}
use Rattle.pipe_tree.specs.Trees.{Label}
use Rattle.pipe_tree.specs.TreeCopies.{label_of, pattern_of}
use Rattle.pipe_rows.proofs.FormReading.{Comes, here, past, past_separator, turn, take_token, fails, fails_separator}
use Rattle.pipe_rows.proofs.FirstTokens.{more_names, names_end}
use Rattle.pipe_rows.proofs.patterns.braced.Goals as goal
use Rattle.pipe_rows.proofs.patterns.braced.Goals.{In_ok-push, In_ok-push-2}

pub loop-reader-init : goal.loop-reader-init
loop-reader-init c =
    let names : c.push.new.self ≡ c.in_ok-label.field-0 ∷ [] = c.in_ok-push.ensures.ok ∙ ap (λ (ns : List Name). ns ++ c.in_ok-label.field-0 ∷ []) c.new-names.ensures in
    subst (λ (ns : List Name). Comes (braced_names c.args.at) c.args.reader.now (MoreNames c.args.at (map label_of ns)) c.label.new.reader) (sym names)
    (past ALabel (label_of c.in_ok-label.field-0) (here (braced_names c.args.at) c.args.reader.now) (λ f is_shallow n. refl) c.in_ok-label.ensures.reads c.in_ok-label.ensures.on)

pub returns-in_err-label-2-clause-reads : goal.returns-in_err-label-2-clause-reads
returns-in_err-label-2-clause-reads c =
    fails ALabel pattern_of c.from_residual-in_err-label-2.result c.in_err-label-2.field-0.0 (left_of c.label-in-loop-reader.new.reader)
    (take_token (λ f. ALabel (λ n. MoreNames c.args.at (map label_of c.loop-reader.names ++ n ∷ []) f)) (tokens_behind (left_of c.loop-reader.reader)) c.loop-reader.invariant
    (more_names c.args.at (map label_of c.loop-reader.names) (left_of c.loop-reader.reader) (sym c.is_next.ensures ∙ c.loop-reader-test.true)) c.advance.ensures.left c.advance.ensures.on)
    (λ f is_shallow n. refl) c.in_err-label-2.ensures.reads c.from_residual-in_err-label-2.ensures

pub loop-reader-preserved : goal.loop-reader-preserved
loop-reader-preserved c =
    let names : c.push-in-loop-reader.new.self ≡ c.loop-reader.names ++ c.in_ok-label-2.field-0 ∷ [] = c.in_ok-push-2.ensures.ok in
    subst (λ (ns : List Label). Comes (braced_names c.args.at) c.args.reader.now (MoreNames c.args.at ns) c.label-in-loop-reader.new.reader)
    (sym (ap (map label_of) names ∙ map-append label_of c.loop-reader.names (c.in_ok-label-2.field-0 ∷ [])))
    (past ALabel (label_of c.in_ok-label-2.field-0)
    (take_token (λ f. ALabel (λ n. MoreNames c.args.at (map label_of c.loop-reader.names ++ n ∷ []) f)) (tokens_behind (left_of c.loop-reader.reader)) c.loop-reader.invariant
    (more_names c.args.at (map label_of c.loop-reader.names) (left_of c.loop-reader.reader) (sym c.is_next.ensures ∙ c.loop-reader-test.true)) c.advance.ensures.left c.advance.ensures.on)
    (λ f is_shallow n. refl) c.in_ok-label-2.ensures.reads c.in_ok-label-2.ensures.on)

pub returns-in_err-separator-clause-reads : goal.returns-in_err-separator-clause-reads
returns-in_err-separator-clause-reads c =
    fails_separator CloseBrace pattern_of c.from_residual-in_err-separator.result c.in_err-separator.field-0.0 (left_of c.separator.new.self)
    (turn (λ f. ASeparator CloseBrace (f (braced_pattern c.args.at (map label_of c.loop-reader.names)))) c.loop-reader.invariant
    (names_end c.args.at (map label_of c.loop-reader.names) (left_of c.loop-reader.reader) (sym c.is_next.ensures ∙ c.loop-reader-test.false)))
    (λ f is_shallow n. is_shallow _) c.in_err-separator.ensures.reads c.from_residual-in_err-separator.ensures

pub returns-clause-reads : goal.returns-clause-reads
returns-clause-reads c =
    (past_separator CloseBrace
    (turn (λ f. ASeparator CloseBrace (f (braced_pattern c.args.at (map label_of c.loop-reader.names)))) c.loop-reader.invariant
    (names_end c.args.at (map label_of c.loop-reader.names) (left_of c.loop-reader.reader) (sym c.is_next.ensures ∙ c.loop-reader-test.false)))
    (λ f is_shallow n. is_shallow _) c.in_ok-separator.ensures.reads c.in_ok-separator.ensures.on).comes
