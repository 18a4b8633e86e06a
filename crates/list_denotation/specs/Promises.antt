-- What is promised of the definitions. Each statement has one name, which its law and those who stand on it cite.
use Rattle.std.specs.Prelude.{◌+◌, ◌*◌, ◌≤◌, List, [], length, IsTrue, IsSome}
use Rattle.list_denotation.specs.declared.input.InputKind.{InputKind}
use Rattle.list_denotation.specs.declared.kind.Kind.{Kind}
use Rattle.list_denotation.specs.declared.stream.Stream.{Stream}
use Rattle.list_denotation.specs.declared.terminal.Terminal.{Terminal}
use Rattle.list_denotation.specs.Copies.{pipe_of, finish_of}
use Rattle.list_denotation.specs.Costs.{cost}
use Rattle.list_denotation.specs.Counts.{term_nodes}
use Rattle.list_denotation.specs.InputNames.{declared_inputs, names_inputs}
use Rattle.list_denotation.specs.Limits.{IsWithinLimits}
use Rattle.list_denotation.specs.Scopes.{is_bound}
use Rattle.list_denotation.specs.Terms.{Term}
use Rattle.list_denotation.specs.Typing.{is_undivided, kind_of, stream_kinds, has_kinds, is_typed}

-- A typed program is within each of the limits, and the rows of its stream have kinds.
abbrev pub TypedProgramsKeepLimits : Type 0
TypedProgramsKeepLimits =
    (inputs : List InputKind) (s : Stream) (t : Terminal)
    → IsTrue (is_typed inputs s t) → IsWithinLimits inputs (pipe_of s) (finish_of t)

abbrev pub TypedProgramsHaveRowsWithKinds : Type 0
TypedProgramsHaveRowsWithKinds =
    (inputs : List InputKind) (s : Stream) (t : Terminal)
    → IsTrue (is_typed inputs s t) → IsTrue (has_kinds (stream_kinds inputs [] (pipe_of s)))

-- An expression that has a kind reads bound words alone, and names no input but as it is declared.
abbrev pub TypedExpressionsReadBoundWords : Type 0
TypedExpressionsReadBoundWords =
    (inputs : List InputKind) (scope : List Kind) (e : Term)
    → IsSome (kind_of inputs scope e) → IsTrue (is_bound (length scope) e)

abbrev pub TypedExpressionsNameDeclaredInputs : Type 0
TypedExpressionsNameDeclaredInputs =
    (inputs : List InputKind) (scope : List Kind) (e : Term)
    → IsSome (kind_of inputs scope e) → IsTrue (names_inputs (declared_inputs inputs) e)

-- An expression of n nodes costs at most 5 n - 4 statements, and one without division at most 3 n - 2.
abbrev pub CostsGoWithNodes : Type 0
CostsGoWithNodes =
    (e : Term) → cost e + 4 ≤ 5 * term_nodes e

abbrev pub UndividedCostsGoWithNodes : Type 0
UndividedCostsGoWithNodes =
    (e : Term) → IsTrue (is_undivided e) → cost e + 2 ≤ 3 * term_nodes e
