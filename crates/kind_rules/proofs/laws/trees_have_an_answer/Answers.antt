use Rattle.kind_rules.specs.declared.fault.TypeFault.TheVariants.{NoMemory}
use Rattle.kind_rules.specs.Checking.{check_of}
use Rattle.kind_rules.proofs.Answered.{where_failed}
use Rattle.kind_rules.proofs.Answers.{text_answered}
use Rattle.kind_rules.proofs.NoRefusal.{no_refusal}
use Rattle.kind_rules.proofs.laws.trees_have_an_answer.Goals as goal

pub returns : goal.returns
returns c = λ t h. no_refusal t (where_failed (check_of t) NoMemory (text_answered t) h)
