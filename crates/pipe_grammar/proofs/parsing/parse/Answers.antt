use Rattle.std.proofs.Common.{length, sym, subst}
use Rattle.std.specs.Prelude.{Result, Ok, Err}
use Rattle.pipe_tree.specs.declared.fault.ParseFault.{ParseFault}
use Rattle.pipe_tree.specs.declared.tree.Tree.{Tree}
use Rattle.tree_counts.specs.CountedTexts.{CountsAs, HasFew}
use Rattle.pipe_tree.specs.Parsing.{ParsesAs, IsSameUnlessRefused, answer_of}
use Rattle.pipe_tree.specs.Tokens.{toks_of}
use Rattle.pipe_tree.specs.TreeCopies.{text_of}
use Rattle.pipe_grammar.proofs.ParsedTexts.{unread_answer, counted_answer, parsed_answer}
use Rattle.pipe_grammar.proofs.Slices.{lexed_slices}
use Rattle.pipe_grammar.proofs.TextReading.{fault_is}
use Rattle.pipe_grammar.proofs.parsing.parse.Goals as goal

pub read_tokens-requires-clause-slices : goal.read_tokens-requires-clause-slices
read_tokens-requires-clause-slices c = lexed_slices c.args.src.now c.args.tokens.now (c.tokens_are_in_order.ensures c.args.src.now c.args.tokens.now c.requires.lexed)

pub returns-in_err-tree-clause-parses : goal.returns-in_err-tree-clause-parses
returns-in_err-tree-clause-parses c =
    subst (λ (out : Result Tree ParseFault). ParsesAs (length c.args.src.now) (toks_of c.args.src.now c.args.tokens.now) (answer_of out)) (fault_is c.from_residual.result c.in_err-tree.field-0.0 c.from_residual.ensures)
    (unread_answer c.texts_are_read_exactly.ensures (length c.args.src.now) (toks_of c.args.src.now c.args.tokens.now) c.in_err-tree.field-0.0 c.in_err-tree.ensures)

pub returns-in_err-tree-clause-only : goal.returns-in_err-tree-clause-only
returns-in_err-tree-clause-only c = λ other h.
    c.answers_are_one.ensures (length c.args.src.now) (toks_of c.args.src.now c.args.tokens.now) (answer_of c.from_residual.result) other
    (subst (λ (out : Result Tree ParseFault). ParsesAs (length c.args.src.now) (toks_of c.args.src.now c.args.tokens.now) (answer_of out)) (fault_is c.from_residual.result c.in_err-tree.field-0.0 c.from_residual.ensures)
    (unread_answer c.texts_are_read_exactly.ensures (length c.args.src.now) (toks_of c.args.src.now c.args.tokens.now) c.in_err-tree.field-0.0 c.in_err-tree.ensures)) h

pub returns-in_err-check_counts-clause-parses : goal.returns-in_err-check_counts-clause-parses
returns-in_err-check_counts-clause-parses c =
    subst (λ (out : Result Tree ParseFault). ParsesAs (length c.args.src.now) (toks_of c.args.src.now c.args.tokens.now) (answer_of out)) (fault_is c.from_residual-in_err-check_counts.result c.in_err-check_counts.field-0.0 c.from_residual-in_err-check_counts.ensures)
    (counted_answer c.texts_are_read_exactly.ensures (length c.args.src.now) (toks_of c.args.src.now c.args.tokens.now) (text_of c.in_ok-tree.tree.value) c.in_err-check_counts.field-0.0 c.in_ok-tree.ensures (subst (λ t. CountsAs (text_of t) (Err c.in_err-check_counts.field-0.0)) c.deref.ensures c.in_err-check_counts.ensures))

pub returns-in_err-check_counts-clause-only : goal.returns-in_err-check_counts-clause-only
returns-in_err-check_counts-clause-only c = λ other h.
    c.answers_are_one.ensures (length c.args.src.now) (toks_of c.args.src.now c.args.tokens.now) (answer_of c.from_residual-in_err-check_counts.result) other
    (subst (λ (out : Result Tree ParseFault). ParsesAs (length c.args.src.now) (toks_of c.args.src.now c.args.tokens.now) (answer_of out)) (fault_is c.from_residual-in_err-check_counts.result c.in_err-check_counts.field-0.0 c.from_residual-in_err-check_counts.ensures)
    (counted_answer c.texts_are_read_exactly.ensures (length c.args.src.now) (toks_of c.args.src.now c.args.tokens.now) (text_of c.in_ok-tree.tree.value) c.in_err-check_counts.field-0.0 c.in_ok-tree.ensures (subst (λ t. CountsAs (text_of t) (Err c.in_err-check_counts.field-0.0)) c.deref.ensures c.in_err-check_counts.ensures))) h

pub returns-clause-parses : goal.returns-clause-parses
returns-clause-parses c =
    subst (λ t. ParsesAs (length c.args.src.now) (toks_of c.args.src.now c.args.tokens.now) (Ok (text_of t))) (sym c.into_inner.ensures)
    (parsed_answer c.texts_are_read_exactly.ensures (length c.args.src.now) (toks_of c.args.src.now c.args.tokens.now) (text_of c.in_ok-tree.tree.value) c.in_ok-tree.ensures (subst (λ t. HasFew (text_of t)) c.deref.ensures c.in_ok-check_counts.ensures))

pub returns-clause-only : goal.returns-clause-only
returns-clause-only c = λ other h.
    subst (λ t. IsSameUnlessRefused (Ok (text_of t)) other) (sym c.into_inner.ensures)
    (c.answers_are_one.ensures (length c.args.src.now) (toks_of c.args.src.now c.args.tokens.now) (Ok (text_of c.in_ok-tree.tree.value)) other
    (parsed_answer c.texts_are_read_exactly.ensures (length c.args.src.now) (toks_of c.args.src.now c.args.tokens.now) (text_of c.in_ok-tree.tree.value) c.in_ok-tree.ensures (subst (λ t. HasFew (text_of t)) c.deref.ensures c.in_ok-check_counts.ensures)) h)
