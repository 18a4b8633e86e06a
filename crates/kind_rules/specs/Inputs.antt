-- The declared inputs of a text.
use Rattle.std.specs.Prelude.{List, [], map}
use Rattle.list_denotation.specs.declared.input.InputKind.{InputKind}
use Rattle.list_denotation.specs.declared.input.InputKind.TheVariants as input
use Rattle.pipe_lexer.specs.declared.operator.InputKind.{InputKind as Declared}
use Rattle.pipe_lexer.specs.declared.operator.InputKind.TheVariants as declared
use Rattle.pipe_tree.specs.Trees.{Label, Declaration, Text}
use Rattle.kind_rules.specs.Scopes.{Scope}

abbrev pub input_kind : Declared → InputKind
input_kind declared.Array = input.Array
input_kind declared.Int = input.Int

abbrev pub input_kinds : List Declaration → List InputKind
input_kinds = map (λ (d : Declaration). input_kind d.kind)

abbrev pub declared_names : List Declaration → List Label
declared_names = map (λ (d : Declaration). d.name)

-- the scope of the whole stream: the inputs, and no bound word
abbrev pub outermost : Text → Scope
outermost t = record { inputs = t.inputs; bound = [] }
