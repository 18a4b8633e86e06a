use Rattle.std.proofs.Common.{◌≡◌, [], drop, map, take}
use Rattle.pipe_tree.specs.TreeCopies.{declaration_of}
use Rattle.kind_rules.specs.Inputs.{declared_names}
use Rattle.pipe_kinds.specs.Copies.{inputs_of}
use Rattle.kind_rules.specs.Scopes.{distinct_names, names_of}
use Rattle.pipe_kinds.proofs.names.inputs_by_name.Given as goal

-- the map has the inputs so far, and the names left are tested beside all that stand before them
abbrev pub invariant-loop-input : goal.invariant-loop-input
invariant-loop-input l = record {
  inputs : inputs_of l.inputs ≡ map declaration_of (take l.input-index l.decls);
  names : distinct_names (names_of (declared_names (map declaration_of (take l.input-index l.decls)))) (declared_names (map declaration_of (drop l.input-index l.decls)))
      ≡ distinct_names [] (declared_names (map declaration_of l.decls));
}
