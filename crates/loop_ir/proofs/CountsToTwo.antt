-- A worked loop program: what it means, and its text. It counts a variable up to 2, and writes each value as a row.
use Rattle.std.specs.Prelude.{◌≡◌, refl, [], ◌∷◌, ◌++◌, codes}
use Rattle.std.specs.Fmt.{digits}
use Rattle.list_denotation.specs.declared.event.Event.TheVariants as event
use Rattle.list_denotation.specs.Observation.{Done, Going}
use Rattle.loop_ir.specs.declared.syntax.WOp.TheVariants as op
use Rattle.loop_ir.specs.Statements.{Const, Var, Bin, Less, Set, Loop, Emit, EndRow, Nil, Cons, Routine}
use Rattle.loop_ir.specs.Meaning.{meaning}
use Rattle.loop_ir.specs.Layout.{layout}

abbrev pub counts_to_two : Routine
counts_to_two = record {
  params = [];
  vars = 2;
  body =
      Cons (Set 0 (Const 0))
      (Cons (Loop (Less (Var 0) (Const 2))
      (Cons (Emit (Var 0)) (Cons EndRow (Cons (Set 0 (Bin op.Add (Var 0) (Const 1))) Nil))))
      Nil);
}

-- with two turns it writes both rows, and it is done
pub meaning_at_two : meaning counts_to_two [] 2
    ≡ record { events = event.Emit 0 ∷ event.EndRow ∷ event.Emit 1 ∷ event.EndRow ∷ []; standing = Done }
meaning_at_two = refl

-- with one turn it writes the first row, and it is still going
pub meaning_at_one : meaning counts_to_two [] 1 ≡ record { events = event.Emit 0 ∷ event.EndRow ∷ []; standing = Going }
meaning_at_one = refl

-- its text
pub layout_counts_to_two : layout counts_to_two
    ≡ codes "#include \"pipeline.h\"\nint pipeline(void) {\n  uint64_t v0 = 0ULL;\n  uint64_t v1 = 0ULL;\n"
    ++ codes "  v0 = 0ULL;\n  while (1) {\n    if (v0 < 2ULL) { } else { break; }\n"
    ++ codes "    EMIT(v0);\n    ENDROW();\n    v0 = (v0 + 1ULL);\n  }\n  return 0;\n}\n"
unfolding digits
layout_counts_to_two = refl
