use Rattle.value_files.proofs.SomeAnswer.{some_answer}
use Rattle.value_files.proofs.laws.files_have_an_answer.Goals as goal

pub returns : goal.returns
returns c = some_answer
