use Rattle.value_files.proofs.OneAnswer.{one_answer}
use Rattle.value_files.proofs.laws.files_have_one_answer.Goals as goal

pub returns : goal.returns
returns c = one_answer
