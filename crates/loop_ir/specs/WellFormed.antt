-- What a loop program keeps.
use Rattle.std.specs.Prelude.{◌≤◌, ◌^◌, IsTrue, length}
use Rattle.loop_ir.specs.Statements.{Routine}
use Rattle.loop_ir.specs.DeclaredNames.{declared_names, block_names}
use Rattle.loop_ir.specs.Constants.{block_has_words}

-- it has few parameters, each name in it is declared, and each constant is a word
pub record IsWellFormed (q : Routine) : Type 0 where
  pub few : length q.params ≤ 2 ^ 32
  pub names : IsTrue (block_names (declared_names q.params q.vars) q.body)
  pub constants : IsTrue (block_has_words q.body)
