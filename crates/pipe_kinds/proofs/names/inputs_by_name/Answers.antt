use Rattle.std.proofs.Common.{◌≡◌, ◌∙◌, ap, false, is_some, map, refl, sym, true}
use Rattle.indexmap.specs.IndexMap.{get}
use Rattle.pipe_kinds.specs.Copies.{input_of}
use Rattle.pipe_kinds.proofs.InputNames.{among_so_far, one_more, same_name}
use Rattle.pipe_kinds.proofs.PatternNames.{declared_once, declared_twice}
use Rattle.pipe_kinds.proofs.names.inputs_by_name.Goals as goal

pub returns-then-is_some-clause-names : goal.returns-then-is_some-clause-names
returns-then-is_some-clause-names c =
    let i = c.loop-input.input-index in
    let found : is_some (get same_name c.loop-input.inputs c.as_slice.result) ≡ true = ap is_some (sym c.in_ok-insert.ensures.old) ∙ sym c.is_some.ensures ∙ c.if-is_some.true in
    sym c.loop-input.invariant.names
    ∙ declared_twice c.args.decls.now i c.input-item.result c.loop-input-test.true c.input-item.is
    (among_so_far c.loop-input.inputs c.args.decls.now i c.input-item.result c.loop-input.invariant.inputs c.as_slice.result c.as_slice.ensures ∙ found)

pub loop-input-preserved : goal.loop-input-preserved
loop-input-preserved c =
    let i = c.loop-input.input-index in
    let new : is_some (get same_name c.loop-input.inputs c.as_slice.result) ≡ false = ap is_some (sym c.in_ok-insert.ensures.old) ∙ sym c.is_some.ensures ∙ c.if-is_some.false in
    record {
      inputs =
          ap (map input_of) c.in_ok-insert.ensures.entries
          ∙ one_more c.loop-input.inputs c.args.decls.now i c.input-item.result c.loop-input.invariant.inputs c.as_slice.result c.as_slice.ensures _ refl c.loop-input-test.true c.input-item.is new;
      names =
          declared_once c.args.decls.now i c.input-item.result c.loop-input-test.true c.input-item.is
          (among_so_far c.loop-input.inputs c.args.decls.now i c.input-item.result c.loop-input.invariant.inputs c.as_slice.result c.as_slice.ensures ∙ new)
          ∙ c.loop-input.invariant.names;
    }
