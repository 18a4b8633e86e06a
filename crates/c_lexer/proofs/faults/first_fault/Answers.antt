use Rattle.std.proofs.Common.{subst}
use Rattle.std.proofs.lemmas.List.{take_rest}
use Rattle.c_lexer.specs.Comments.{IsUnclosed}
use Rattle.c_lexer.proofs.Passing.{stands_in_rest, piece_within, passed_more, unclosed_further, passed_all}
use Rattle.c_lexer.proofs.faults.first_fault.Goals as goal

pub loop-from-preserved : goal.loop-from-preserved
loop-from-preserved c =
    let text = c.args.text.now in
    let from = c.loop-from.from in
    let found = c.in-Some.prefix in
    let stands = stands_in_rest text from found.piece found.len c.in-Some.ensures.stands in
    record {
      within = piece_within text from found.piece found.len c.loop-from.invariant.within stands;
      passed = passed_more text from found.piece found.len c.loop-from.invariant.passed stands;
      unclosed = λ e. unclosed_further text from found.piece found.len stands (subst IsUnclosed (take_rest text from) (c.in-Some.ensures.open e));
    }

pub returns-clause-cut : goal.returns-clause-cut
returns-clause-cut c = passed_all c.args.text.now c.loop-from.from c.loop-from-test.false c.loop-from.invariant.passed
