use Rattle.std.proofs.Common.{◌≡◌, ◌+◌, ◌-◌, ◌∷◌, [], ◌++◌, suc, List, drop, map, true, length-append, subst, sym, ◌∙◌, arith, refl, rules}
use Rattle.list_denotation.specs.Copies.{terms_of}
use Rattle.list_denotation.specs.declared.expr.Expr.{Expr}
use Rattle.list_denotation.specs.Literals.{all_have_words}
use Rattle.pipe_tree.specs.TreeCopies.{formula_of}
use Rattle.kind_rules.specs.Rows.{TypedRow, parts_of, typed_row}
use Rattle.pipe_kinds.specs.Copies.{scope_of, typed_of, typed_row_of}
use Rattle.pipe_kinds.specs.RowParts.{part_of}
use Rattle.pipe_kinds.proofs.FoundParts.{all_found, found_and_left, no_room, part_found, part_stops, terms_pushed, words_pushed, with_part}
use Rattle.pipe_kinds.proofs.rows.parts.Goals as goal

pub returns-then-len-clause-parts : goal.returns-then-len-clause-parts
returns-then-len-clause-parts c =
    let full : c.loop-e.e-index + 0 ≡ 8 = omega arith in
    sym (c.loop-e.invariant.left 0 full)
    ∙ no_room (part_of c.args.divisions (scope_of c.args.scope.now)) c.args.parts.now (typed_row c.loop-e.kinds (terms_of c.loop-e.exprs)) c.loop-e.e-index c.e-item.result c.loop-e-test.true c.e-item.is

pub returns-in_err-typed-clause-parts : goal.returns-in_err-typed-clause-parts
returns-in_err-typed-clause-parts c =
    let i = c.loop-e.e-index in
    let left : i + suc (7 - i) ≡ 8 = omega arith in
    let stopped = part_stops (part_of c.args.divisions (scope_of c.args.scope.now)) c.args.parts.now (typed_row c.loop-e.kinds (terms_of c.loop-e.exprs)) i c.e-item.result c.loop-e-test.true c.e-item.is typed_row_of c.from_residual.result c.in_err-typed.field-0.0 (7 - i) c.from_residual.ensures.1 c.in_err-typed.ensures in
    rw (← c.loop-e.invariant.left (suc (7 - i)) left) stopped

pub loop-e-preserved : goal.loop-e-preserved
loop-e-preserved c =
    let i = c.loop-e.e-index in
    let t = c.in_ok-typed.typed in
    let kinds_are : c.push.new.self ≡ c.loop-e.kinds ++ t.kind ∷ [] = search rules in
    let exprs_are : c.push-in-loop-e.new.self ≡ c.loop-e.exprs ++ t.expr.value ∷ [] = search rules in
    let row_is : typed_row c.push.new.self (terms_of c.push-in-loop-e.new.self) ≡ with_part (typed_row c.loop-e.kinds (terms_of c.loop-e.exprs)) (typed_of t) = rw (kinds_are, exprs_are, terms_pushed c.loop-e.exprs t.expr.value) refl in
    record {
      count = rw kinds_are (omega (arith, length-append c.loop-e.kinds (t.kind ∷ []), c.loop-e.invariant.count));
      within = omega arith;
      words = subst (λ (es : List Expr). all_have_words (terms_of es) ≡ true) (sym exprs_are) (words_pushed c.loop-e.exprs t.expr.value c.loop-e.invariant.words t.words);
      left = λ room h.
          let more : i + suc room ≡ 8 = omega arith in
          subst (λ (r : TypedRow). found_and_left (part_of c.args.divisions (scope_of c.args.scope.now)) r room (map formula_of (drop (i + 1) c.args.parts.now)) ≡ parts_of (part_of c.args.divisions (scope_of c.args.scope.now)) 8 (map formula_of c.args.parts.now)) (sym row_is)
          (sym (part_found (part_of c.args.divisions (scope_of c.args.scope.now)) c.args.parts.now (typed_row c.loop-e.kinds (terms_of c.loop-e.exprs)) i c.e-item.result c.loop-e-test.true c.e-item.is t room c.in_ok-typed.ensures)
          ∙ c.loop-e.invariant.left (suc room) more);
    }

pub returns-clause-parts : goal.returns-clause-parts
returns-clause-parts c =
    let i = c.loop-e.e-index in
    let room : i + (8 - i) ≡ 8 = omega (arith, c.loop-e.invariant.within) in
    sym (c.loop-e.invariant.left (8 - i) room)
    ∙ all_found (part_of c.args.divisions (scope_of c.args.scope.now)) c.args.parts.now (typed_row c.loop-e.kinds (terms_of c.loop-e.exprs)) i (8 - i) (omega arith)
