use Rattle.c_faults.proofs.ProgramSizes.{texts_have_words}
use Rattle.c_faults.proofs.laws.programs_of_texts_have_words.Goals as goal

pub returns : goal.returns
returns c = texts_have_words
