use Rattle.std.proofs.Common.{◌<◌, ◌^◌, None, sym, ap, ◌∙◌, subst}
use Rattle.std.proofs.lemmas.Result.{on_ok_weaker}
use Rattle.list_denotation.specs.Copies.{term_of}
use Rattle.loop_ir.specs.StatementCopies.{test_of}
use Rattle.expr_phrases.specs.PhraseCopies.{Appends}
use Rattle.stateful_core.specs.CoreCopies.{actions_of}
use Rattle.turn_blocks.specs.Pieces.{Piece}
use Rattle.turn_emit.specs.Turns.{piece_at}
use Rattle.loop_emit.specs.Emission.{loop_guard, behind_guard}
use Rattle.loop_emit.proofs.MadeLoops.{piece_same, whole_body, loop_appended}
use Rattle.loop_emit.proofs.loops.put_loop.Goals as goal

pub put_turn-requires-clause-room : goal.put_turn-requires-clause-room
put_turn-requires-clause-room c =
    let before = c.args.slots.now in
    let after = c.open_guard.new.slots in
    let opened = c.in_ok-opened.ensures in
    subst (λ (p : Piece). p.next < 2 ^ 32)
    (sym (piece_same c.args.turn (actions_of c.args.acts.now) before.rows after.rows after.first_temp (behind_guard before.rows (term_of c.args.guard.now) before.next) after.next opened.takes.rows (opened.takes.first_temp ∙ c.requires.first_temp) opened.takes.next))
    c.requires.room

pub returns-clause-block : goal.returns-clause-block
returns-clause-block c =
    let before = c.args.slots.now in
    let after = c.open_guard.new.slots in
    let opened = c.in_ok-opened.ensures in
    let e = term_of c.args.guard.now in
    let acts = actions_of c.args.acts.now in
    let next = behind_guard before.rows e before.next in
    let piece : Piece = piece_at c.args.turn None acts before.rows 0 next in
    let same = piece_same c.args.turn acts before.rows after.rows after.first_temp next after.next opened.takes.rows (opened.takes.first_temp ∙ c.requires.first_temp) opened.takes.next in
    let turn : Appends c.new-body.result c.put_turn.new.block piece.block =
    subst (λ (p : Piece). Appends c.new-body.result c.put_turn.new.block p.block) same c.in_ok-put_turn.ensures.block in
    let again : Appends c.put_turn.new.block c.put_guard.new.block (loop_guard before.rows e before.next).block =
    subst (λ rs. Appends c.put_turn.new.block c.put_guard.new.block (loop_guard rs e before.next).block) (c.in_ok-put_turn.ensures.slots.rows ∙ opened.takes.rows) c.in_ok-put_guard.ensures in
    on_ok_weaker c.push.result
    (loop_appended c.args.block.now c.open_guard.new.block c.push.new.self c.put_guard.new.block before.rows e before.next piece.block c.into_inner.result opened.block (ap test_of c.into_inner.ensures ∙ opened.test)
    (whole_body c.new-body.result c.put_turn.new.block c.put_guard.new.block piece.block (loop_guard before.rows e before.next).block c.new-body.ensures turn again))
    c.push.ensures.ok

pub returns-clause-next : goal.returns-clause-next
returns-clause-next c =
    let before = c.args.slots.now in
    let after = c.open_guard.new.slots in
    let opened = c.in_ok-opened.ensures in
    let next = behind_guard before.rows (term_of c.args.guard.now) before.next in
    let same = piece_same c.args.turn (actions_of c.args.acts.now) before.rows after.rows after.first_temp next after.next opened.takes.rows (opened.takes.first_temp ∙ c.requires.first_temp) opened.takes.next in
    on_ok_weaker c.push.result (λ pushed. c.in_ok-put_turn.ensures.slots.next ∙ ap (λ (p : Piece). p.next) same) c.push.ensures.ok
