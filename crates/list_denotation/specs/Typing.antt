-- What a program keeps: it is typed, and within the limits. The kinds of expressions, rows and streams
-- are options, and none where a part has not the kinds that its context asks for.
use Rattle.std.specs.Prelude.{◌+◌, List, [], ◌∷◌, ◌++◌, length, Option, Some, None, Bool, true, false, ◌&&◌, nat_le, slice_get, if◌then◌else◌}
use Rattle.std.specs.List.{list_all}
use Rattle.pipe_limits.specs.declared.TheConstants.{MOST_INPUTS, MOST_OPERATORS, MOST_NODES, MOST_DEPTH, MOST_NESTING, MOST_COMPONENTS}
use Rattle.list_denotation.specs.declared.expr.BinOp.{BinOp}
use Rattle.list_denotation.specs.declared.expr.BinOp.TheVariants.{Add, Sub, Mul, Div, Rem, Eq, Ne, Lt, Le, Gt, Ge}
use Rattle.list_denotation.specs.declared.input.InputKind.{InputKind}
use Rattle.list_denotation.specs.declared.input.InputKind.TheVariants as input
use Rattle.list_denotation.specs.declared.kind.Kind.{Kind}
use Rattle.list_denotation.specs.declared.kind.Kind.TheVariants as kind
use Rattle.list_denotation.specs.declared.stream.Stream.{Stream}
use Rattle.list_denotation.specs.declared.terminal.Terminal.{Terminal}
use Rattle.list_denotation.specs.Terms.{Term, Lit, Truth, Var, Param, Len, Neg, Not, Bin, And, Or, If, Pipe, Array, Range, Unfold, Map, Filter, Take, Drop, TakeWhile, Scan, FlatMap, Zip, Finish, Fold, Print}
use Rattle.list_denotation.specs.Copies.{pipe_of, finish_of}
use Rattle.list_denotation.specs.Counts.{stream_ops, stream_nodes, stream_depth, stream_nesting, finish_nodes, finish_depth}

-- ---- expressions

abbrev pub is_array : Option InputKind → Bool
is_array (Some input.Array) = true
is_array (Some input.Int) = false
is_array None = false

abbrev pub is_int : Option InputKind → Bool
is_int (Some input.Array) = false
is_int (Some input.Int) = true
is_int None = false

abbrev pub is_kind : Kind → Option Kind → Bool
is_kind kind.Int (Some kind.Int) = true
is_kind kind.Bool (Some kind.Bool) = true
is_kind _ _ = false

abbrev pub same_kind : Option Kind → Option Kind → Bool
same_kind None b = false
same_kind (Some k) b = is_kind k b

-- this kind, where the condition holds
abbrev pub kind_if : Bool → Kind → Option Kind
kind_if b k = if b then Some k else None

-- the kind of an operation on operands of these kinds
abbrev pub operation_kind : BinOp → Option Kind → Option Kind → Option Kind
operation_kind Add a b = kind_if (is_kind kind.Int a && is_kind kind.Int b) kind.Int
operation_kind Sub a b = kind_if (is_kind kind.Int a && is_kind kind.Int b) kind.Int
operation_kind Mul a b = kind_if (is_kind kind.Int a && is_kind kind.Int b) kind.Int
operation_kind Div a b = kind_if (is_kind kind.Int a && is_kind kind.Int b) kind.Int
operation_kind Rem a b = kind_if (is_kind kind.Int a && is_kind kind.Int b) kind.Int
operation_kind Eq a b = kind_if (same_kind a b) kind.Bool
operation_kind Ne a b = kind_if (same_kind a b) kind.Bool
operation_kind Lt a b = kind_if (is_kind kind.Int a && is_kind kind.Int b) kind.Bool
operation_kind Le a b = kind_if (is_kind kind.Int a && is_kind kind.Int b) kind.Bool
operation_kind Gt a b = kind_if (is_kind kind.Int a && is_kind kind.Int b) kind.Bool
operation_kind Ge a b = kind_if (is_kind kind.Int a && is_kind kind.Int b) kind.Bool

-- an expression over these inputs, in the scope of bound words of these kinds
abbrev pub kind_of : List InputKind → List Kind → Term → Option Kind
kind_of inputs scope (Lit w) = Some kind.Int
kind_of inputs scope (Truth b) = Some kind.Bool
kind_of inputs scope (Var k) = slice_get scope k
kind_of inputs scope (Param k) = kind_if (is_int (slice_get inputs k)) kind.Int
kind_of inputs scope (Len k) = kind_if (is_array (slice_get inputs k)) kind.Int
kind_of inputs scope (Neg a) = kind_if (is_kind kind.Int (kind_of inputs scope a)) kind.Int
kind_of inputs scope (Not a) = kind_if (is_kind kind.Bool (kind_of inputs scope a)) kind.Bool
kind_of inputs scope (Bin op a b) = operation_kind op (kind_of inputs scope a) (kind_of inputs scope b)
kind_of inputs scope (And a b) = kind_if (is_kind kind.Bool (kind_of inputs scope a) && is_kind kind.Bool (kind_of inputs scope b)) kind.Bool
kind_of inputs scope (Or a b) = kind_if (is_kind kind.Bool (kind_of inputs scope a) && is_kind kind.Bool (kind_of inputs scope b)) kind.Bool
kind_of inputs scope (If c a b) =
    if is_kind kind.Bool (kind_of inputs scope c) && same_kind (kind_of inputs scope a) (kind_of inputs scope b) then kind_of inputs scope a else None

abbrev pub is_division : BinOp → Bool
is_division Div = true
is_division Rem = true
is_division _ = false

-- no division stands in the expression
abbrev pub is_undivided : Term → Bool
is_undivided (Lit w) = true
is_undivided (Truth b) = true
is_undivided (Var k) = true
is_undivided (Param k) = true
is_undivided (Len k) = true
is_undivided (Neg a) = is_undivided a
is_undivided (Not a) = is_undivided a
is_undivided (Bin op a b) = (if is_division op then false else true) && (is_undivided a && is_undivided b)
is_undivided (And a b) = is_undivided a && is_undivided b
is_undivided (Or a b) = is_undivided a && is_undivided b
is_undivided (If c a b) = is_undivided c && (is_undivided a && is_undivided b)

abbrev pub all_undivided : List Term → Bool
all_undivided = list_all is_undivided

-- ---- rows

abbrev pub one_more : Option Kind → Option (List Kind) → Option (List Kind)
one_more None ks = None
one_more (Some k) None = None
one_more (Some k) (Some ks) = Some (k ∷ ks)

abbrev pub kinds_of : List InputKind → List Kind → List Term → Option (List Kind)
kinds_of inputs scope [] = Some []
kinds_of inputs scope (e ∷ es) = one_more (kind_of inputs scope e) (kinds_of inputs scope es)

-- a row has at least one word
abbrev pub row_kinds : List InputKind → List Kind → List Term → Option (List Kind)
row_kinds inputs scope es = if nat_le 1 (length es) && nat_le (length es) MOST_COMPONENTS then kinds_of inputs scope es else None

abbrev pub same_kinds : List Kind → Option (List Kind) → Bool
same_kinds [] (Some []) = true
same_kinds (k ∷ ks) (Some (j ∷ js)) = is_kind k (Some j) && same_kinds ks (Some js)
same_kinds _ _ = false

-- a seed without division
abbrev pub seed_kinds : List InputKind → List Kind → List Term → Option (List Kind)
seed_kinds inputs scope es = if all_undivided es then row_kinds inputs scope es else None

abbrev pub opens : List InputKind → List Kind → Kind → Term → Bool
opens inputs scope k e = is_kind k (kind_of inputs scope e) && is_undivided e

-- ---- streams

abbrev pub with_kinds : Option (List Kind) → (List Kind → Option (List Kind)) → Option (List Kind)
with_kinds None f = None
with_kinds (Some ks) f = f ks

-- these kinds, where the condition holds
abbrev pub kinds_where : Bool → List Kind → Option (List Kind)
kinds_where b ks = if b then Some ks else None

-- the state of a scan or fold over rows of these kinds
abbrev pub state_kinds : List InputKind → List Kind → List Kind → List Term → List Term → Option (List Kind)
state_kinds inputs scope row seed next =
    with_kinds (seed_kinds inputs scope seed) (λ state. kinds_where (same_kinds state (row_kinds inputs ((scope ++ state) ++ row) next)) state)

abbrev pub unfold_kinds : List InputKind → List Kind → Term → List Term → List Term → List Kind → Option (List Kind)
unfold_kinds inputs scope guard item next state =
    if opens inputs (scope ++ state) kind.Bool guard && same_kinds state (row_kinds inputs (scope ++ state) next) then row_kinds inputs (scope ++ state) item else None

abbrev pub joined_kinds : List Kind → List Kind → Option (List Kind)
joined_kinds left right = kinds_where (nat_le (length (left ++ right)) MOST_COMPONENTS) (left ++ right)

-- the kinds of a stream's rows, in the scope of bound words of these kinds
abbrev pub stream_kinds : List InputKind → List Kind → Pipe → Option (List Kind)
stream_kinds inputs scope (Array k) = kinds_where (is_array (slice_get inputs k)) (kind.Int ∷ [])
stream_kinds inputs scope (Range a b) = kinds_where (opens inputs scope kind.Int a && opens inputs scope kind.Int b) (kind.Int ∷ [])
stream_kinds inputs scope (Unfold seed guard item next) = with_kinds (seed_kinds inputs scope seed) (λ state. unfold_kinds inputs scope guard item next state)
stream_kinds inputs scope (Map of body) = with_kinds (stream_kinds inputs scope of) (λ row. row_kinds inputs (scope ++ row) body)
stream_kinds inputs scope (Filter of e) = with_kinds (stream_kinds inputs scope of) (λ row. kinds_where (is_kind kind.Bool (kind_of inputs (scope ++ row) e)) row)
stream_kinds inputs scope (Take of e) = with_kinds (stream_kinds inputs scope of) (λ row. kinds_where (opens inputs scope kind.Int e) row)
stream_kinds inputs scope (Drop of e) = with_kinds (stream_kinds inputs scope of) (λ row. kinds_where (opens inputs scope kind.Int e) row)
stream_kinds inputs scope (TakeWhile of e) = with_kinds (stream_kinds inputs scope of) (λ row. kinds_where (is_kind kind.Bool (kind_of inputs (scope ++ row) e)) row)
stream_kinds inputs scope (Scan of seed next) = with_kinds (stream_kinds inputs scope of) (λ row. state_kinds inputs scope row seed next)
stream_kinds inputs scope (FlatMap of inner) = with_kinds (stream_kinds inputs scope of) (λ row. stream_kinds inputs (scope ++ row) inner)
stream_kinds inputs scope (Zip left right) = with_kinds (stream_kinds inputs scope left) (λ a. with_kinds (stream_kinds inputs scope right) (λ b. joined_kinds a b))

-- the kinds of the row that the terminal gives
abbrev pub finish_kinds : List InputKind → Finish → List Kind → Option (List Kind)
finish_kinds inputs (Fold seed next) row = state_kinds inputs [] row seed next
finish_kinds inputs Print row = Some row

abbrev pub program_kinds : List InputKind → Pipe → Finish → Option (List Kind)
program_kinds inputs s t = with_kinds (stream_kinds inputs [] s) (λ row. finish_kinds inputs t row)

-- some kinds, and behind them these, where there are any
abbrev pub append_kinds : List Kind → Option (List Kind) → Option (List Kind)
append_kinds first None = None
append_kinds first (Some ks) = Some (first ++ ks)

abbrev pub has_kinds : Option (List Kind) → Bool
has_kinds None = false
has_kinds (Some ks) = true

-- ---- programs

-- the operators of a program are those of its stream and the terminal
abbrev pub is_within_limits : List InputKind → Pipe → Finish → Bool
is_within_limits inputs s t =
    nat_le (length inputs) MOST_INPUTS
    && (nat_le (stream_ops s + 1) MOST_OPERATORS
    && (nat_le (stream_nodes s + finish_nodes t) MOST_NODES
    && (nat_le (stream_depth s) MOST_DEPTH
    && (nat_le (finish_depth t) MOST_DEPTH && nat_le (stream_nesting s) MOST_NESTING))))

abbrev pub is_typed : List InputKind → Stream → Terminal → Bool
is_typed inputs stream terminal =
    has_kinds (program_kinds inputs (pipe_of stream) (finish_of terminal)) && is_within_limits inputs (pipe_of stream) (finish_of terminal)
