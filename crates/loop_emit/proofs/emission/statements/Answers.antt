use Rattle.std.proofs.Common.{length, sym, ap, ◌∙◌, subst}
use Rattle.list_denotation.specs.Copies.{term_of, terms_of, finish_of}
use Rattle.stateful_core.specs.CoreCopies.{actions_of}
use Rattle.loop_emit.specs.Emission.{turn_piece}
use Rattle.loop_emit.specs.EmissionRoom.{HasRoom}
use Rattle.loop_emit.proofs.MadePrograms.{whole_program}
use Rattle.loop_emit.proofs.emission.statements.Goals as goal

pub put_machine_loop-requires-clause-room : goal.put_machine_loop-requires-clause-room
put_machine_loop-requires-clause-room c =
    let m = c.args.m.now in
    subst (λ n. HasRoom n (terms_of m.init) (term_of m.guard) (actions_of m.acts) (length (terms_of m.item)) (finish_of c.args.t.now)) (sym c.in_ok-held.ensures.temps) c.requires

pub returns : goal.returns
returns c =
    let m = c.args.m.now in
    record {
      statements =
          whole_program c.args.temps (terms_of m.init) (term_of m.guard) (actions_of m.acts) (length (terms_of m.item)) (finish_of c.args.t.now)
          c.new-body.result c.put_starts.new.block c.put_machine_loop.new.block c.put_ending.new.block c.in_ok-held.held.temps c.as_slice.result.now
          c.new-body.ensures c.in_ok-held.ensures.temps (c.as_slice.ensures ∙ c.in_ok-held.ensures.rows)
          c.in_ok-put_starts.ensures c.in_ok-vars.ensures.block c.in_ok-put_ending.ensures;
      variables =
          c.in_ok-vars.ensures.vars
          ∙ ap (λ n. (turn_piece n (terms_of m.init) (term_of m.guard) (actions_of m.acts) (length (terms_of m.item)) (finish_of c.args.t.now)).next) c.in_ok-held.ensures.temps;
    }
