-- Small trees, held against the rules by hand.
use Rattle.std.proofs.Common.{◌≡◌, [], ◌∷◌, Ok, Err, false, true, refl, arith}
use Rattle.std.specs.List.{IsDistinct}
use Rattle.list_denotation.specs.declared.expr.BinOp.TheVariants as op
use Rattle.list_denotation.specs.declared.input.InputKind.TheVariants as given
use Rattle.list_denotation.specs.declared.kind.Kind.TheVariants as kind
use Rattle.list_denotation.specs.Terms.{Pipeline}
use Rattle.list_denotation.specs.Terms as term
use Rattle.pipe_lexer.specs.declared.operator.BinOp.TheVariants.{Mul, Div, Eq}
use Rattle.pipe_lexer.specs.declared.operator.InputKind.TheVariants as input
use Rattle.pipe_tree.specs.Trees.{Formula, Num, Truth, Name, Bin, Declaration, From, Array, Range, Stage, Map, Nil, Cons, Print, Text}
use Rattle.kind_rules.specs.declared.fault.TypeFault.TheVariants as fault
use Rattle.kind_rules.specs.Checking.{check_of}
use Rattle.kind_rules.specs.FirstFault as fails
use Rattle.kind_rules.specs.FirstFault.{FirstFault}
use Rattle.kind_rules.specs.StandsFor as stands
use Rattle.kind_rules.specs.StandsFor.{StandsFor}

-- `input a: array;`
abbrev array_a : Declaration
array_a = record { at = 0; name = record { at = 6; text = 97 ∷ [] }; kind = input.Array }

-- `map x -> BODY`, where the stage stands at 25
abbrev map_x : Formula → Stage
map_x body = Map 25 (record { at = 29; braces = false; names = record { at = 29; text = 120 ∷ [] } ∷ [] }) (record { at = 34; braces = false; parts = body ∷ [] })

-- `input a: array; array a | map x -> BODY | print`
abbrev mapped_a : Formula → Text
mapped_a body =
    record {
      inputs = array_a ∷ [];
      stream = From 15 (Array (record { at = 21; text = 97 ∷ [] })) (Cons (map_x body) Nil);
      terminal_at = 42;
      terminal = Print;
    }

-- `x * x`
abbrev square : Formula
square = Bin 34 Mul 36 (Name 34 (120 ∷ [])) (Name 38 (120 ∷ []))

abbrev squares : Pipeline
squares = record { inputs = given.Array ∷ []; stream = term.Map (term.Array 0) (term.Bin op.Mul (term.Var 0) (term.Var 0) ∷ []); terminal = term.Print }

squares_are_checked : check_of (mapped_a square) ≡ Ok squares
squares_are_checked = refl

squares_stand : StandsFor (mapped_a square) squares
unfolding IsDistinct
squares_stand =
    record {
      names = (tt, tt);
      inputs = refl;
      row = kind.Int ∷ [];
      stream_stands =
          stands.from (stands.array refl)
          (stands.one_stage
          (stands.map (record { width = refl; names = (tt, tt) })
          (record { some = omega arith; few = omega arith; parts = stands.one_more (stands.ints refl (stands.bound_word refl) (stands.bound_word refl)) stands.none }))
          stands.no_stage);
      terminal_stands = stands.print;
    }

-- `x == true`: the right operand is the first part that breaks its rule
abbrev unlike_operands : Formula
unlike_operands = Bin 34 Eq 36 (Name 34 (120 ∷ [])) (Truth 39 true)

unlike_operands_are_checked : check_of (mapped_a unlike_operands) ≡ Err (fault.Mismatch 39)
unlike_operands_are_checked = refl

unlike_operands_fail : FirstFault (mapped_a unlike_operands) (fault.Mismatch 39)
unfolding IsDistinct
unlike_operands_fail =
    fails.in_stream (tt, tt)
    (fails.in_stages (stands.array refl)
    (fails.this_stage
    (fails.map_body (record { width = refl; names = (tt, tt) })
    (fails.in_parts (fails.here (fails.one_kind refl (fails.second (stands.bound_word refl) (fails.other_kind stands.truth (λ e. cc)))))))))

-- `range(1 / 2, 3) | print`: typed, but an opening expression
abbrev divided_bound : Text
divided_bound =
    record {
      inputs = [];
      stream = From 0 (Range (Bin 6 Div 8 (Num 6 1) (Num 10 2)) (Num 13 3)) Nil;
      terminal_at = 18;
      terminal = Print;
    }

divided_bound_is_checked : check_of divided_bound ≡ Err (fault.DivisionInOpening 8)
divided_bound_is_checked = refl

divided_bound_fails : FirstFault divided_bound (fault.DivisionInOpening 8)
unfolding IsDistinct
divided_bound_fails =
    fails.in_stream tt (fails.in_source (fails.low_bound (fails.divided_as (stands.ints refl stands.number stands.number) refl)))
