-- The parts of rows: of a first state, opening expressions.
use Rattle.pipe_tree.specs.Trees.{Formula}
use Rattle.kind_rules.specs.Checked.{Checked}
use Rattle.kind_rules.specs.Expressions.{Typed, expression_of, opening_of}
use Rattle.kind_rules.specs.Scopes.{Scope}
use Rattle.pipe_kinds.specs.declared.rows.Divisions.{Divisions}
use Rattle.pipe_kinds.specs.declared.rows.Divisions.TheVariants.{Allowed, Refused}

abbrev pub part_of : Divisions → Scope → Formula → Checked Typed
part_of Allowed = expression_of
part_of Refused = opening_of
