-- What a stage does with a row that fails its test.
use Rattle.list_denotation.specs.Terms.{Term}
use Rattle.stateful_core.specs.declared.acts.RowTest.{RowTest}
use Rattle.stateful_core.specs.declared.acts.RowTest.TheVariants as test
use Rattle.stateful_core.specs.CoreTerms.{Action, KeepIf, StopUnless}

abbrev pub test_action : RowTest → Term → Action
test_action test.Leave = KeepIf
test_action test.Stop = StopUnless
