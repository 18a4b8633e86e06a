use Rattle.std.proofs.Common.{ap, arith, rules}
use Rattle.pipe_lexer.specs.Characters.{size_of}
use Rattle.pipe_lexer.proofs.OneAnswer.{one_answer, size_of-chars}
use Rattle.pipe_lexer.proofs.Offsets.{answer_texts, answer_in_order}
use Rattle.pipe_lexer.proofs.lexing.tokens.Goals as goal

pub returns-in_err-chars-clause-only : goal.returns-in_err-chars-clause-only
returns-in_err-chars-clause-only c = λ other h. one_answer c.args.src.now other c.from_residual.result h (search rules)

pub cut-requires : goal.cut-requires
cut-requires c =
    let size = size_of-chars c.args.src.now c.in_ok-chars.chars.items c.in_ok-chars.ensures.0 c.in_ok-chars.ensures.1 in
    let same = ap size_of c.deref.ensures.value in
    let bound = c.requires in
    omega arith

pub returns-clause-only : goal.returns-clause-only
returns-clause-only c = λ other h. one_answer c.args.src.now other c.cut.result h (search rules)

pub returns-clause-texts : goal.returns-clause-texts
returns-clause-texts c = answer_texts c.args.src.now c.cut.result (search rules)

pub returns-clause-in_order : goal.returns-clause-in_order
returns-clause-in_order c = answer_in_order c.args.src.now c.cut.result (search rules)
