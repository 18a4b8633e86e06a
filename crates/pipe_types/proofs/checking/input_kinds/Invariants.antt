use Rattle.std.proofs.Common.{◌≡◌, map, take}
use Rattle.pipe_tree.specs.TreeCopies.{declaration_of}
use Rattle.kind_rules.specs.Inputs.{input_kinds}
use Rattle.pipe_types.proofs.checking.input_kinds.Given as goal

abbrev pub invariant-loop-input : goal.invariant-loop-input
invariant-loop-input l = l.kinds ≡ input_kinds (map declaration_of (take l.input-index l.inputs))
