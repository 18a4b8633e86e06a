use Rattle.kind_rules.specs.Checking.{check_of}
use Rattle.kind_rules.proofs.Answered.{where_failed}
use Rattle.kind_rules.proofs.Answers.{text_answered}
use Rattle.kind_rules.proofs.Failing.{text_fails}
use Rattle.kind_rules.proofs.laws.faults_are_first.Goals as goal

pub returns : goal.returns
returns c = λ t f. (where_failed (check_of t) f (text_answered t), text_fails)
