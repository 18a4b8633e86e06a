use Rattle.c_answers.proofs.SomeAnswer.{some_answer}
use Rattle.c_answers.proofs.SomeProgram.{program_or_stop}
use Rattle.c_answers.proofs.laws.texts_have_an_answer.Goals as goal

pub returns : goal.returns
returns c =
    some_answer
    (program_or_stop c.programs_are_read_exactly.ensures.reads c.programs_are_read_exactly.ensures.ends c.programs_are_read_exactly.ensures.stops)
    c.declared_tokens_are_declared_names.ensures.names
