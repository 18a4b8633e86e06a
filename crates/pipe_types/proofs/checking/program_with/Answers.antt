use Rattle.std.proofs.Common.{◌≡◌, Ok, true, rules, subst, sym}
use Rattle.std.proofs.lemmas.Bool.{and_from}
use Rattle.list_denotation.specs.declared.stream.Stream.{Stream}
use Rattle.list_denotation.specs.Copies.{pipe_of, finish_of}
use Rattle.list_denotation.specs.Literals.{finish_has_words, pipe_has_words}
use Rattle.list_denotation.specs.Terms.{Pipeline}
use Rattle.pipe_tree.specs.TreeCopies.{text_of}
use Rattle.kind_rules.specs.Checking.{check_of}
use Rattle.pipe_types.proofs.checking.program_with.Goals as goal

pub invariant_of-result : goal.invariant_of-result
invariant_of-result c =
    let t = text_of c.args.t.now in
    let s = c.into_inner.result in
    let f = c.in_ok-terminal.terminal in
    let p : Pipeline = record { inputs = c.in_ok-inputs.inputs; stream = pipe_of s; terminal = finish_of f } in
    let boxed : check_of t ≡ Ok (record { inputs = c.in_ok-inputs.inputs; stream = pipe_of c.in_ok-rows.rows.stream.value; terminal = finish_of f }) = search rules in
    let checked : check_of t ≡ Ok p =
    subst (λ (z : Stream). check_of t ≡ Ok (record { inputs = c.in_ok-inputs.inputs; stream = pipe_of z; terminal = finish_of f })) (sym c.into_inner.ensures) boxed in
    let words : pipe_has_words (pipe_of s) ≡ true = subst (λ (z : Stream). pipe_has_words (pipe_of z) ≡ true) (sym c.into_inner.ensures) c.in_ok-rows.rows.words in
    record {
      typed = c.programs_of_trees_are_typed.ensures t p ((c.typed_trees_stand_for_programs.ensures t p).0 checked) c.requires.bounded;
      words = and_from (pipe_has_words (pipe_of s)) (finish_has_words (finish_of f)) words (search rules);
    }
