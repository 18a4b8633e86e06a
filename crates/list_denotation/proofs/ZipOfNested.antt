-- A worked pipeline: zip(range(0, 3) | flatMap i -> (range(0, i)), range(1, 3) | flatMap j -> (range(0, 2) | map k -> j * 10 + k)) | print
use Rattle.std.specs.Prelude.{◌≡◌, refl, [], ◌∷◌, Some, true}
use Rattle.list_denotation.specs.declared.event.Event.TheVariants as event
use Rattle.list_denotation.specs.declared.expr.BinOp.TheVariants as sign
use Rattle.list_denotation.specs.declared.kind.Kind.TheVariants as kind
use Rattle.list_denotation.specs.Terms as term
use Rattle.list_denotation.specs.Terms.{Pipe, Pipeline}
use Rattle.list_denotation.specs.Rows.{Ends, Row, End, Cut}
use Rattle.list_denotation.specs.Denotation.{denotation}
use Rattle.list_denotation.specs.Observation.{Done, Going, observation}
use Rattle.list_denotation.specs.Work.{work}
use Rattle.list_denotation.specs.Counts.{ops, nodes, depth, most_vars, most_stmts, loops_of, nest_of}
use Rattle.list_denotation.specs.Typing.{program_kinds, is_within_limits}

abbrev left : Pipe
left = term.FlatMap (term.Range (term.Lit 0) (term.Lit 3)) (term.Range (term.Lit 0) (term.Var 0))

abbrev right : Pipe
right =
    term.FlatMap (term.Range (term.Lit 1) (term.Lit 3))
    (term.Map (term.Range (term.Lit 0) (term.Lit 2)) (term.Bin sign.Add (term.Bin sign.Mul (term.Var 0) (term.Lit 10)) (term.Var 1) ∷ []))

abbrev both : Pipeline
both = record { inputs = []; stream = term.Zip left right; terminal = term.Print }

left_at_two : denotation left [] [] 2 ≡ Row (0 ∷ []) (Ends Cut)
left_at_two = refl

left_at_three : denotation left [] [] 3 ≡ Row (0 ∷ []) (Row (0 ∷ []) (Row (1 ∷ []) (Ends End)))
left_at_three = refl

right_at_two : denotation right [] [] 2 ≡ Row (10 ∷ []) (Row (11 ∷ []) (Row (20 ∷ []) (Row (21 ∷ []) (Ends End))))
right_at_two = refl

-- an inner list of two rows is cut off at 1, and so are the outer ones
right_at_one : denotation right [] [] 1 ≡ Row (10 ∷ []) (Ends Cut)
right_at_one = refl

both_at_two : denotation both.stream [] [] 2 ≡ Row (0 ∷ 10 ∷ []) (Ends Cut)
both_at_two = refl

both_at_three : denotation both.stream [] [] 3 ≡ Row (0 ∷ 10 ∷ []) (Row (0 ∷ 11 ∷ []) (Row (1 ∷ 20 ∷ []) (Ends End)))
both_at_three = refl

seen_at_two : observation both [] 2 ≡ record { events = event.Emit 0 ∷ event.Emit 10 ∷ event.EndRow ∷ []; standing = Going }
seen_at_two = refl

seen_at_three : observation both [] 3 ≡ record {
  events = event.Emit 0 ∷ event.Emit 10 ∷ event.EndRow ∷ event.Emit 0 ∷ event.Emit 11 ∷ event.EndRow ∷ event.Emit 1 ∷ event.Emit 20 ∷ event.EndRow ∷ [];
  standing = Done;
}
seen_at_three = refl

-- on the left an outer range cut off at 2 rows and inner ones of 0 and 1 rows, on the right one of 2 rows and two of 2: 3 + 1 + 2 + 3 + 3 + 3
work_at_two : work both [] 2 ≡ 15
work_at_two = refl

-- on the left an outer range of 3 rows and inner ones of 0, 1 and 2: 4 + 1 + 2 + 3, and 9 on the right
work_at_three : work both [] 3 ≡ 19
work_at_three = refl

-- on the left an outer range cut off at 1 row and an inner one of none; on the right one cut off at 1 row, whose first inner list
-- is cut off at 1, so that no other is opened: 2 + 1 + 2 + 2
work_at_one : work both [] 1 ≡ 7
work_at_one = refl

its_ops : ops both ≡ 9
its_ops = refl

its_nodes : nodes both ≡ 13
its_nodes = refl

its_depth : depth both ≡ 3
its_depth = refl

its_loops : loops_of both ≡ 3
its_loops = refl

its_nest : nest_of both ≡ 3
its_nest = refl

its_vars : most_vars both ≡ 314
its_vars = refl

its_stmts : most_stmts both ≡ 904
its_stmts = refl

its_kinds : program_kinds both.inputs both.stream both.terminal ≡ Some (kind.Int ∷ kind.Int ∷ [])
its_kinds = refl

its_limits : is_within_limits both.inputs both.stream both.terminal ≡ true
its_limits = refl
