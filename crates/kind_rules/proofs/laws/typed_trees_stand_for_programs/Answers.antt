use Rattle.kind_rules.specs.Checking.{check_of}
use Rattle.kind_rules.proofs.Answered.{where_passed}
use Rattle.kind_rules.proofs.Answers.{text_answered}
use Rattle.kind_rules.proofs.Passes.{text_passes}
use Rattle.kind_rules.proofs.laws.typed_trees_stand_for_programs.Goals as goal

pub returns : goal.returns
returns c = λ t p. (where_passed (check_of t) p (text_answered t), text_passes t p)
