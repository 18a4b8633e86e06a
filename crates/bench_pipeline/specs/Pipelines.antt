-- The pipeline that a bench runs, and its input.
use Rattle.std.specs.Prelude.{ℕ, List, [], ◌∷◌}
use Rattle.list_denotation.specs.declared.expr.BinOp.TheVariants.{Add, Mul, Rem}
use Rattle.list_denotation.specs.declared.input.Input.{Input}
use Rattle.list_denotation.specs.declared.input.Input.TheVariants as input
use Rattle.list_denotation.specs.declared.input.InputKind.TheVariants as kind
use Rattle.list_denotation.specs.Terms.{Lit, Var, Bin, Pipe, Array, Range, Map, FlatMap, Zip, Finish, Fold, Pipeline}
use Rattle.bench_pipeline.specs.Generator.{bench_items}

-- for each item x, and i from 0 up to but without x % 4, the row (x % 4) * 10 + i
abbrev pub left_arm : Pipe
left_arm =
    FlatMap (Map (Array 0) (Bin Rem (Var 0) (Lit 4) ∷ []))
    (Map (Range (Lit 0) (Var 0)) (Bin Add (Bin Mul (Var 0) (Lit 10)) (Var 1) ∷ []))

-- for each item y, and j from 0 up to but without y % 3, the row y + j
abbrev pub right_arm : Pipe
right_arm =
    FlatMap (Map (Array 0) (Var 0 ∷ Bin Rem (Var 0) (Lit 3) ∷ []))
    (Map (Range (Lit 0) (Var 1)) (Bin Add (Var 0) (Var 2) ∷ []))

-- the sum of the products of both, and how many these are
abbrev pub sums : Finish
sums = Fold (Lit 0 ∷ Lit 0 ∷ []) (Bin Add (Var 0) (Bin Mul (Var 2) (Var 3)) ∷ Bin Add (Var 1) (Lit 1) ∷ [])

abbrev pub bench_pipeline : Pipeline
bench_pipeline = record { inputs = kind.Array ∷ []; stream = Zip left_arm right_arm; terminal = sums }

abbrev pub bench_inputs : ℕ → ℕ → List Input
bench_inputs seed count = input.Array (bench_items seed count) ∷ []
