-- What a StopUnless becomes where acts are moved.
use Rattle.list_denotation.specs.Terms.{Term}
use Rattle.stateful_core.specs.CoreTerms.{Action, StopUnless}
use Rattle.act_moves.specs.declared.renumbering.Halt.{Halt}
use Rattle.act_moves.specs.declared.renumbering.Halt.TheVariants as halt
use Rattle.act_moves.specs.Flags.{close_unless}

abbrev pub halt_action : Halt → Term → Action
halt_action halt.Stop = StopUnless
halt_action halt.Close = close_unless
