use Rattle.std.proofs.Common.{◌<◌, ◌^◌, length, sym, ap, ◌∙◌, subst}
use Rattle.list_denotation.specs.Copies.{term_of, terms_of, finish_of}
use Rattle.loop_ir.specs.Statements.{Block}
use Rattle.expr_phrases.specs.PhraseCopies.{Appends}
use Rattle.stateful_core.specs.CoreCopies.{actions_of}
use Rattle.turn_blocks.specs.Pieces.{Piece}
use Rattle.loop_emit.proofs.MadePrograms.{bound_here, ready_here, piece_here, loop_here}
use Rattle.loop_emit.proofs.emission.put_machine_loop.Goals as goal

pub put_loop-requires-clause-bound : goal.put_loop-requires-clause-bound
put_loop-requires-clause-bound c =
    let m = c.args.m.now in
    bound_here c.args.held.now.temps (terms_of m.init) (term_of m.guard) (actions_of m.acts) (length (terms_of m.item)) (finish_of c.args.t.now) c.machine_turn-turn.result c.requires.room
    (c.machine_turn-turn.ensures c.args.held.now.temps c.requires.room (c.as_slice.ensures ∙ c.requires.rows)) c.in_ok-state.state c.in_ok-state.ensures

pub put_loop-requires-clause-ready : goal.put_loop-requires-clause-ready
put_loop-requires-clause-ready c =
    let m = c.args.m.now in
    ready_here c.args.held.now.temps (terms_of m.init) (term_of m.guard) (actions_of m.acts) (length (terms_of m.item)) (finish_of c.args.t.now) c.machine_turn-turn.result c.requires.room
    (c.machine_turn-turn.ensures c.args.held.now.temps c.requires.room (c.as_slice.ensures ∙ c.requires.rows)) c.in_ok-state.state c.in_ok-state.ensures
    (actions_of c.as_slice-2.result.now) (ap actions_of c.as_slice-2.ensures)

pub put_loop-requires-clause-room : goal.put_loop-requires-clause-room
put_loop-requires-clause-room c =
    let m = c.args.m.now in
    subst (λ (p : Piece). p.next < 2 ^ 32)
    (sym (piece_here c.args.held.now.temps (terms_of m.init) (term_of m.guard) (actions_of m.acts) (length (terms_of m.item)) (finish_of c.args.t.now) c.machine_turn-turn.result c.requires.room
    (c.machine_turn-turn.ensures c.args.held.now.temps c.requires.room (c.as_slice.ensures ∙ c.requires.rows)) c.in_ok-state.state c.in_ok-state.ensures
    (actions_of c.as_slice-2.result.now) (ap actions_of c.as_slice-2.ensures)))
    c.requires.room.room

pub returns-clause-block : goal.returns-clause-block
returns-clause-block c =
    let m = c.args.m.now in
    let is =
    loop_here c.args.held.now.temps (terms_of m.init) (term_of m.guard) (actions_of m.acts) (length (terms_of m.item)) (finish_of c.args.t.now) c.machine_turn-turn.result c.requires.room
    (c.machine_turn-turn.ensures c.args.held.now.temps c.requires.room (c.as_slice.ensures ∙ c.requires.rows)) c.in_ok-state.state c.in_ok-state.ensures
    (actions_of c.as_slice-2.result.now) (ap actions_of c.as_slice-2.ensures) in
    subst (λ (b : Block). Appends c.args.block.now c.put_loop.new.block b) is c.in_ok-put_loop.ensures.block

pub returns-clause-vars : goal.returns-clause-vars
returns-clause-vars c =
    let m = c.args.m.now in
    c.in_ok-put_loop.ensures.next
    ∙ ap (λ (p : Piece). p.next)
    (piece_here c.args.held.now.temps (terms_of m.init) (term_of m.guard) (actions_of m.acts) (length (terms_of m.item)) (finish_of c.args.t.now) c.machine_turn-turn.result c.requires.room
    (c.machine_turn-turn.ensures c.args.held.now.temps c.requires.room (c.as_slice.ensures ∙ c.requires.rows)) c.in_ok-state.state c.in_ok-state.ensures
    (actions_of c.as_slice-2.result.now) (ap actions_of c.as_slice-2.ensures))
