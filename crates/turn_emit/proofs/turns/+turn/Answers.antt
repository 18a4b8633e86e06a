use Rattle.std.proofs.Common.{rules, ◌≡◌, ◌+◌, ◌-◌, ◌<◌, ◌≤◌, ◌^◌, [], ◌∷◌, ◌++◌, true, false, length, take, drop, Some, None, refl, sym, ap, subst, ◌∙◌, arith}
use Rattle.std.specs.Prelude.{slice_index}
use Rattle.std.proofs.lemmas.List.{length_push}
use Rattle.std.proofs.lemmas.Result.{on_ok_weaker}
use Rattle.strm_num.proofs.Truths.{both_true}
use Rattle.list_denotation.specs.Copies.{term_of, terms_of}
use Rattle.list_denotation.specs.Scopes.{is_bound}
use Rattle.list_denotation.specs.Typing.{is_undivided}
use Rattle.loop_ir.specs.Statements.{join}
use Rattle.loop_ir.specs.StatementCopies.{operand_of, test_of, block_of}
use Rattle.loop_ir.proofs.Copies.{block_append}
use Rattle.expr_lower.specs.Contract.{scope_of}
use Rattle.expr_lower.specs.Lowering.{lowered_test}
use Rattle.stateful_core.specs.CoreCopies.{action_of, actions_of}
use Rattle.stateful_core.specs.CoreTerms.{Let, Read, KeepIf, StopUnless, Update, When, Cons}
use Rattle.turn_blocks.specs.Pieces.{behind_scratch}
use Rattle.turn_blocks.specs.StateBlocks.{words_piece}
use Rattle.turn_blocks.specs.TurnBlocks.{constant_truth}
use Rattle.turn_blocks.specs.WordUses as uses
use Rattle.row_emit.specs.declared.tails.Tail.TheVariants as tail
use Rattle.state_alloc.specs.Frames.{Takes}
use Rattle.row_emit.specs.Placed.{condition_piece}
use Rattle.row_emit.specs.TurnCopies.{stop_of}
use Rattle.turn_emit.specs.Turns.{held_of, piece_at, second_piece, pair_piece, with_tail, IsReadyAt}
use Rattle.stateful_core.proofs.ActCopies.{keep_copy, stop_copy, update_copy}
use Rattle.turn_emit.proofs.ActCopies.{first_and_rest}
use Rattle.turn_emit.proofs.ActPieces.{got_index, let_step, tested_some, unused_some, same_bound, keep_same, stop_same, keep_readable, stop_readable, test_none, test_false, update_step, update_room, update_settable, when_first, when_second, when_both, on_ready, off_ready, pair_grows}
use Rattle.turn_emit.proofs.Growth.{scratch_grows, piece_grows}
use Rattle.turn_emit.proofs.Puts.{room_of, puts_of, takes_of, takes_then, puts_behind, puts_then, fresh, puts_late, puts_unbound, read_appends, puts_test, puts_on, puts_off, puts_rejoined, condition_same, second_after}
use Rattle.turn_emit.proofs.ReadyActs.{first_sound, first_temps, ready_behind, ready_later, ready_same, piece_same, ready_after, piece_after, act_ready, held_at}
use Rattle.turn_emit.proofs.turns.+turn.Goals as goal

pub put_act-put_test-requires : goal.put_act-put_test-requires
put_act-put_test-requires t c =
    let slots = c.args.slots.now in
    let e = term_of c.in-KeepIf.e in
    let shape : action_of c.args.act.now ≡ KeepIf e = ap action_of c.in-KeepIf.is ∙ keep_copy c.in-KeepIf.e in
    let ready = act_ready c.args.turn (action_of c.args.act.now) (KeepIf e) (actions_of c.args.rest.now) slots.rows slots.first_temp slots.temps slots.next shape c.requires.ready in (
      search rules,
      (
        keep_readable c.args.turn (held_of c.args.held) e (actions_of c.args.rest.now) slots.rows slots.first_temp slots.temps slots.next (term_of c.tested.result.now) ready c.requires.held c.tested.ensures,
        (
          ready_behind c.args.turn (KeepIf e) (actions_of c.args.rest.now) slots.rows slots.first_temp slots.temps slots.next ready slots.rows slots.next (omega arith) (omega arith),
          room_of _ _
              (keep_same c.args.turn (held_of c.args.held) (action_of c.args.act.now) e (actions_of c.args.rest.now) slots.rows slots.first_temp slots.next (term_of c.tested.result.now) (block_of c.new-off.result) shape c.tested.ensures (ap block_of c.new-off.ensures))
              c.requires.room,
        ),
      ),
    )

pub put_act-put_test-requires-in-StopUnless : goal.put_act-put_test-requires-in-StopUnless
put_act-put_test-requires-in-StopUnless t c =
    let slots = c.args.slots.now in
    let e = term_of c.in-StopUnless.e in
    let shape : action_of c.args.act.now ≡ StopUnless e = ap action_of c.in-StopUnless.is ∙ stop_copy c.in-StopUnless.e in
    let ready = act_ready c.args.turn (action_of c.args.act.now) (StopUnless e) (actions_of c.args.rest.now) slots.rows slots.first_temp slots.temps slots.next shape c.requires.ready in (
      search rules,
      (
        stop_readable c.args.turn (held_of c.args.held) e (actions_of c.args.rest.now) slots.rows slots.first_temp slots.temps slots.next (term_of c.tested-in-StopUnless.result.now) ready c.requires.held c.tested-in-StopUnless.ensures,
        (
          ready_behind c.args.turn (StopUnless e) (actions_of c.args.rest.now) slots.rows slots.first_temp slots.temps slots.next ready slots.rows slots.next (omega arith) (omega arith),
          room_of _ _
              (stop_same c.args.turn (held_of c.args.held) (action_of c.args.act.now) e (actions_of c.args.rest.now) slots.rows slots.first_temp slots.next (term_of c.tested-in-StopUnless.result.now) (block_of c.put_stop.new.block) shape c.tested-in-StopUnless.ensures (c.in_ok-put_stop-in-StopUnless.ensures ∙ ap (λ l. join (block_of l) (stop_of c.args.turn.stop)) c.new-off-in-StopUnless.ensures))
              c.requires.room,
        ),
      ),
    )

pub put_act-put_update-requires : goal.put_act-put_update-requires
put_act-put_update-requires t c =
    let shape : action_of c.args.act.now ≡ Update c.in-Update.k (terms_of c.as_slice.result.now) =
    ap action_of c.in-Update.is ∙ update_copy c.in-Update.k c.in-Update.es ∙ ap (λ l. Update c.in-Update.k (terms_of l)) (sym c.as_slice.ensures) in (
      search rules,
      (
        act_ready c.args.turn (action_of c.args.act.now) (Update c.in-Update.k (terms_of c.as_slice.result.now)) (actions_of c.args.rest.now) c.args.slots.now.rows c.args.slots.now.first_temp c.args.slots.now.temps c.args.slots.now.next shape c.requires.ready,
        room_of _ _ (ap (λ a. piece_at c.args.turn (held_of c.args.held) (Cons a (actions_of c.args.rest.now)) c.args.slots.now.rows c.args.slots.now.first_temp c.args.slots.now.next) shape) c.requires.room,
      ),
    )

pub put_act-returns-in-Update : goal.put_act-returns-in-Update
put_act-returns-in-Update t c =
    let shape : action_of c.args.act.now ≡ Update c.in-Update.k (terms_of c.as_slice.result.now) =
    ap action_of c.in-Update.is ∙ update_copy c.in-Update.k c.in-Update.es ∙ ap (λ l. Update c.in-Update.k (terms_of l)) (sym c.as_slice.ensures) in
    on_ok_weaker c.put_update.result
    (puts_of c.args.slots.now c.put_update.new.slots c.args.block.now c.put_update.new.block _ _ (ap (λ a. piece_at c.args.turn (held_of c.args.held) (Cons a (actions_of c.args.rest.now)) c.args.slots.now.rows c.args.slots.now.first_temp c.args.slots.now.next) shape))
    c.put_update.ensures

pub put_acts-put_act-requires : goal.put_acts-put_act-requires
put_acts-put_act-requires t c =
    let same : actions_of c.args.acts.now ≡ Cons (action_of c.act-item.result) (actions_of (take (length c.args.acts.now - 1) (drop 1 c.args.acts.now))) =
    first_and_rest c.args.acts.now c.act-item.result c.in-len1-up.len_at_least c.act-item.is in (
      search rules,
      (
        c.requires.held,
        (subst (λ a. IsReadyAt c.args.turn a c.args.slots.now.rows c.args.slots.now.first_temp c.args.slots.now.temps c.args.slots.now.next) same c.requires.ready, room_of _ _ (ap (λ a. piece_at c.args.turn (held_of c.args.held) a c.args.slots.now.rows c.args.slots.now.first_temp c.args.slots.now.next) same) c.requires.room),
      ),
    )

pub put_acts-returns-in-len1-up : goal.put_acts-returns-in-len1-up
put_acts-returns-in-len1-up t c =
    let same : actions_of c.args.acts.now ≡ Cons (action_of c.act-item.result) (actions_of (take (length c.args.acts.now - 1) (drop 1 c.args.acts.now))) =
    first_and_rest c.args.acts.now c.act-item.result c.in-len1-up.len_at_least c.act-item.is in
    on_ok_weaker c.put_act.result (puts_of c.args.slots.now c.put_act.new.slots c.args.block.now c.put_act.new.block _ _ (ap (λ a. piece_at c.args.turn (held_of c.args.held) a c.args.slots.now.rows c.args.slots.now.first_temp c.args.slots.now.next) same)) c.put_act.ensures

pub put_alias-put_acts-requires : goal.put_alias-put_acts-requires
put_alias-put_acts-requires t c =
    let slots = c.args.slots.now in
    let more = c.alias.new.self in
    let rows = slots.rows ++ slice_index slots.rows c.args.k ∷ [] in
    let same : more.rows ≡ rows = c.in_ok-alias.ensures.becomes.rows ∙ ap (λ v. slots.rows ++ v ∷ []) (sym (got_index slots.rows c.args.k c.var_of-v.result c.var_of-v.ensures.row)) in (
      search rules,
      (
        held_at (length slots.rows) (length more.rows) slots.temps more.temps (held_of c.args.held) (omega (arith, ap length same, length_push slots.rows (slice_index slots.rows c.args.k))) c.in_ok-alias.ensures.becomes.temps c.requires.held,
        (
          ready_same c.args.turn (actions_of c.args.rest.now) rows more.rows slots.first_temp more.first_temp slots.temps more.temps slots.next more.next same c.in_ok-alias.ensures.becomes.first_temp c.in_ok-alias.ensures.becomes.temps c.in_ok-alias.ensures.becomes.next c.requires.ready,
          room_of _ _ (sym (piece_same c.args.turn (held_of c.args.held) (actions_of c.args.rest.now) rows more.rows slots.first_temp more.first_temp slots.next more.next same c.in_ok-alias.ensures.becomes.first_temp c.in_ok-alias.ensures.becomes.next)) c.requires.room,
        ),
      ),
    )

pub put_alias-returns : goal.put_alias-returns
put_alias-returns t c =
    let slots = c.args.slots.now in
    let more = c.alias.new.self in
    let rows = slots.rows ++ slice_index slots.rows c.args.k ∷ [] in
    let same : more.rows ≡ rows = c.in_ok-alias.ensures.becomes.rows ∙ ap (λ v. slots.rows ++ v ∷ []) (sym (got_index slots.rows c.args.k c.var_of-v.result c.var_of-v.ensures.row)) in
    puts_unbound slots more c.put_acts.new.slots c.unbind.new.self c.args.block.now c.put_acts.new.block (slice_index slots.rows c.args.k) _ _ same c.in_ok-alias.ensures.becomes.first_temp c.in_ok-alias.ensures.becomes.temps
    c.in_ok-put_acts.ensures (piece_same c.args.turn (held_of c.args.held) (actions_of c.args.rest.now) rows more.rows slots.first_temp more.first_temp slots.next more.next same c.in_ok-alias.ensures.becomes.first_temp c.in_ok-alias.ensures.becomes.next) c.unbind.ensures.rows c.unbind.ensures.first_temp c.unbind.ensures.temps c.unbind.ensures.next

pub put_bound-bind-requires : goal.put_bound-bind-requires
put_bound-bind-requires t c =
    let slots = c.args.slots.now in
    omega (arith, c.requires.room, piece_grows c.set_words_take_later_variables.ensures c.args.turn None (actions_of c.args.rest.now) (slots.rows ++ slots.next ∷ []) slots.first_temp (slots.next + 1))

pub put_bound-put_acts-requires : goal.put_bound-put_acts-requires
put_bound-put_acts-requires t c =
    let slots = c.args.slots.now in
    let more = c.bind.new.self in
    let rows = slots.rows ++ slots.next ∷ [] in
    let same : more.rows ≡ rows = c.in_ok-bind.ensures.becomes.rows in (
      search rules,
      (
        tt,
        (
          ready_same c.args.turn (actions_of c.args.rest.now) rows more.rows slots.first_temp more.first_temp slots.temps more.temps (slots.next + 1) more.next same c.in_ok-bind.ensures.becomes.first_temp c.in_ok-bind.ensures.becomes.temps c.in_ok-bind.ensures.becomes.next c.requires.ready,
          room_of _ _ (sym (piece_same c.args.turn None (actions_of c.args.rest.now) rows more.rows slots.first_temp more.first_temp (slots.next + 1) more.next same c.in_ok-bind.ensures.becomes.first_temp c.in_ok-bind.ensures.becomes.next)) c.requires.room,
        ),
      ),
    )

pub put_bound-returns : goal.put_bound-returns
put_bound-returns t c =
    let slots = c.args.slots.now in
    let more = c.bind.new.self in
    let rows = slots.rows ++ slots.next ∷ [] in
    let same : more.rows ≡ rows = c.in_ok-bind.ensures.becomes.rows in
    puts_unbound slots more c.put_acts.new.slots c.unbind.new.self c.args.block.now c.put_acts.new.block slots.next _ _ same c.in_ok-bind.ensures.becomes.first_temp c.in_ok-bind.ensures.becomes.temps
    c.in_ok-put_acts.ensures (piece_same c.args.turn None (actions_of c.args.rest.now) rows more.rows slots.first_temp more.first_temp (slots.next + 1) more.next same c.in_ok-bind.ensures.becomes.first_temp c.in_ok-bind.ensures.becomes.next) c.unbind.ensures.rows c.unbind.ensures.first_temp c.unbind.ensures.temps c.unbind.ensures.next

pub put_let-put_alias-requires : goal.put_let-put_alias-requires
put_let-put_alias-requires t c =
    let slots = c.args.slots.now in (
      search rules,
      (
        omega (arith, tested_some c.args.turn.place.scope c.args.turn.place.states c.width.result c.len.result (term_of c.args.e.now) (actions_of c.args.rest.now) c.in-Tested.ensures, c.len.ensures),
        (
          record { bound = first_sound c.args.turn (Let (term_of c.args.e.now)) (actions_of c.args.rest.now) c.args.slots.now.rows c.args.slots.now.first_temp c.args.slots.now.temps c.args.slots.now.next c.requires.ready; temporaries = first_temps c.args.turn (Let (term_of c.args.e.now)) (actions_of c.args.rest.now) c.args.slots.now.rows c.args.slots.now.first_temp c.args.slots.now.temps c.args.slots.now.next c.requires.ready },
          (
            ready_behind c.args.turn (Let (term_of c.args.e.now)) (actions_of c.args.rest.now) c.args.slots.now.rows c.args.slots.now.first_temp c.args.slots.now.temps c.args.slots.now.next c.requires.ready (slots.rows ++ slice_index slots.rows 0 ∷ []) slots.next (length_push slots.rows (slice_index slots.rows 0)) (omega arith),
            room_of _ _ (let_step c.args.turn (term_of c.args.e.now) (actions_of c.args.rest.now) c.args.slots.now.rows c.args.slots.now.first_temp c.args.slots.now.next c.width.result c.len.result uses.Tested c.width.ensures c.len.ensures c.in-Tested.ensures) c.requires.room,
          ),
        ),
      ),
    )

pub put_let-put_alias-requires-in-Unused : goal.put_let-put_alias-requires-in-Unused
put_let-put_alias-requires-in-Unused t c =
    let slots = c.args.slots.now in (
      search rules,
      (
        omega (arith, unused_some c.args.turn.place.scope c.args.turn.place.states c.width.result c.len.result (term_of c.args.e.now) (actions_of c.args.rest.now) c.in-Unused.ensures, c.len.ensures),
        (
          tt,
          (
            ready_behind c.args.turn (Let (term_of c.args.e.now)) (actions_of c.args.rest.now) c.args.slots.now.rows c.args.slots.now.first_temp c.args.slots.now.temps c.args.slots.now.next c.requires.ready (slots.rows ++ slice_index slots.rows 0 ∷ []) slots.next (length_push slots.rows (slice_index slots.rows 0)) (omega arith),
            room_of _ _ (let_step c.args.turn (term_of c.args.e.now) (actions_of c.args.rest.now) c.args.slots.now.rows c.args.slots.now.first_temp c.args.slots.now.next c.width.result c.len.result uses.Unused c.width.ensures c.len.ensures c.in-Unused.ensures) c.requires.room,
          ),
        ),
      ),
    )

pub put_let-put_alias-requires-in-Same : goal.put_let-put_alias-requires-in-Same
put_let-put_alias-requires-in-Same t c =
    let slots = c.args.slots.now in (
      search rules,
      (
        same_bound c.args.turn.place.scope c.args.turn.place.states c.width.result c.len.result (term_of c.args.e.now) (actions_of c.args.rest.now) c.in-Same.k (length slots.rows) c.in-Same.ensures (first_sound c.args.turn (Let (term_of c.args.e.now)) (actions_of c.args.rest.now) c.args.slots.now.rows c.args.slots.now.first_temp c.args.slots.now.temps c.args.slots.now.next c.requires.ready),
        (
          tt,
          (
            ready_behind c.args.turn (Let (term_of c.args.e.now)) (actions_of c.args.rest.now) c.args.slots.now.rows c.args.slots.now.first_temp c.args.slots.now.temps c.args.slots.now.next c.requires.ready (slots.rows ++ slice_index slots.rows c.in-Same.k ∷ []) slots.next (length_push slots.rows (slice_index slots.rows c.in-Same.k)) (omega arith),
            room_of _ _ (let_step c.args.turn (term_of c.args.e.now) (actions_of c.args.rest.now) c.args.slots.now.rows c.args.slots.now.first_temp c.args.slots.now.next c.width.result c.len.result (uses.Same c.in-Same.k) c.width.ensures c.len.ensures c.in-Same.ensures) c.requires.room,
          ),
        ),
      ),
    )

pub put_let-put_bound-requires : goal.put_let-put_bound-requires
put_let-put_bound-requires t c =
    let slots = c.args.slots.now in (
      search rules,
      (
        ready_behind c.args.turn (Let (term_of c.args.e.now)) (actions_of c.args.rest.now) c.args.slots.now.rows c.args.slots.now.first_temp c.args.slots.now.temps c.args.slots.now.next c.requires.ready (slots.rows ++ slots.next ∷ []) (slots.next + 1) (length_push slots.rows slots.next) (omega arith),
        room_of _ _ (let_step c.args.turn (term_of c.args.e.now) (actions_of c.args.rest.now) c.args.slots.now.rows c.args.slots.now.first_temp c.args.slots.now.next c.width.result c.len.result uses.Own c.width.ensures c.len.ensures c.in-Own.ensures) c.requires.room,
      ),
    )

pub put_let-returns-in-Tested : goal.put_let-returns-in-Tested
put_let-returns-in-Tested t c =
    on_ok_weaker c.put_alias.result
    (puts_of c.args.slots.now c.put_alias.new.slots c.args.block.now c.put_alias.new.block _ _ (let_step c.args.turn (term_of c.args.e.now) (actions_of c.args.rest.now) c.args.slots.now.rows c.args.slots.now.first_temp c.args.slots.now.next c.width.result c.len.result uses.Tested c.width.ensures c.len.ensures c.in-Tested.ensures))
    c.put_alias.ensures

pub put_let-returns-in-Unused : goal.put_let-returns-in-Unused
put_let-returns-in-Unused t c =
    on_ok_weaker c.put_alias-in-Unused.result
    (puts_of c.args.slots.now c.put_alias-in-Unused.new.slots c.args.block.now c.put_alias-in-Unused.new.block _ _ (let_step c.args.turn (term_of c.args.e.now) (actions_of c.args.rest.now) c.args.slots.now.rows c.args.slots.now.first_temp c.args.slots.now.next c.width.result c.len.result uses.Unused c.width.ensures c.len.ensures c.in-Unused.ensures))
    c.put_alias-in-Unused.ensures

pub put_let-returns-in-Same : goal.put_let-returns-in-Same
put_let-returns-in-Same t c =
    on_ok_weaker c.put_alias-in-Same.result
    (puts_of c.args.slots.now c.put_alias-in-Same.new.slots c.args.block.now c.put_alias-in-Same.new.block _ _ (let_step c.args.turn (term_of c.args.e.now) (actions_of c.args.rest.now) c.args.slots.now.rows c.args.slots.now.first_temp c.args.slots.now.next c.width.result c.len.result (uses.Same c.in-Same.k) c.width.ensures c.len.ensures c.in-Same.ensures))
    c.put_alias-in-Same.ensures

pub put_let-returns-in_ok-lower_into-in-Own : goal.put_let-returns-in_ok-lower_into-in-Own
put_let-returns-in_ok-lower_into-in-Own t c =
    on_ok_weaker c.put_bound.result
    (λ h. puts_of c.args.slots.now c.put_bound.new.slots c.args.block.now c.put_bound.new.block _ _ (let_step c.args.turn (term_of c.args.e.now) (actions_of c.args.rest.now) c.args.slots.now.rows c.args.slots.now.first_temp c.args.slots.now.next c.width.result c.len.result uses.Own c.width.ensures c.len.ensures c.in-Own.ensures)
    (puts_behind c.args.slots.now c.put_bound.new.slots c.args.block.now c.lower_into.new.block c.put_bound.new.block _ _ c.in_ok-lower_into-in-Own.ensures.block h))
    c.put_bound.ensures

pub put_pair-put_acts-requires : goal.put_pair-put_acts-requires
put_pair-put_acts-requires t c =
    let slots = c.args.slots.now in
    (search rules, (tt, (c.requires.first, omega (arith, c.requires.room, piece_grows c.set_words_take_later_variables.ensures c.args.second_turn None (actions_of c.args.second.now) slots.rows slots.first_temp (piece_at c.args.first_turn None (actions_of c.args.first.now) c.args.slots.now.rows c.args.slots.now.first_temp c.args.slots.now.next).next))))

pub put_pair-put_acts-requires-2 : goal.put_pair-put_acts-requires-2
put_pair-put_acts-requires-2 t c =
    let slots = c.args.slots.now in
    let free = (piece_at c.args.first_turn None (actions_of c.args.first.now) c.args.slots.now.rows c.args.slots.now.first_temp c.args.slots.now.next).next in (
      search rules,
      (
        tt,
        (
          ready_after c.args.second_turn (actions_of c.args.second.now) slots c.put_acts.new.slots free c.in_ok-put_acts.ensures.slots
              (ready_later c.args.second_turn (actions_of c.args.second.now) slots.rows slots.first_temp slots.temps slots.next free (piece_grows c.set_words_take_later_variables.ensures c.args.first_turn None (actions_of c.args.first.now) c.args.slots.now.rows c.args.slots.now.first_temp c.args.slots.now.next) c.requires.second),
          room_of _ _ (sym (piece_after c.args.second_turn (actions_of c.args.second.now) slots c.put_acts.new.slots free c.in_ok-put_acts.ensures.slots)) c.requires.room,
        ),
      ),
    )

pub put_pair-returns-clause-second : goal.put_pair-returns-clause-second
put_pair-returns-clause-second t c =
    fresh c.new-more.result c.put_acts-2.new.block _ c.new-more.ensures c.in_ok-put_acts-2.ensures.block
    ∙ ap (λ p. p.block) (piece_after c.args.second_turn (actions_of c.args.second.now) c.args.slots.now c.put_acts.new.slots (piece_at c.args.first_turn None (actions_of c.args.first.now) c.args.slots.now.rows c.args.slots.now.first_temp c.args.slots.now.next).next c.in_ok-put_acts.ensures.slots)

pub put_pair-returns-clause-slots : goal.put_pair-returns-clause-slots
put_pair-returns-clause-slots t c =
    takes_of c.args.slots.now c.put_acts-2.new.slots _ _ (ap (λ p. p.next) (piece_after c.args.second_turn (actions_of c.args.second.now) c.args.slots.now c.put_acts.new.slots (piece_at c.args.first_turn None (actions_of c.args.first.now) c.args.slots.now.rows c.args.slots.now.first_temp c.args.slots.now.next).next c.in_ok-put_acts.ensures.slots))
    (takes_then c.args.slots.now c.put_acts.new.slots c.put_acts-2.new.slots _ _ c.in_ok-put_acts.ensures.slots c.in_ok-put_acts-2.ensures.slots)

pub put_read-lower_operand-requires-clause-target : goal.put_read-lower_operand-requires-clause-target
put_read-lower_operand-requires-clause-target t c =
    let slots = c.args.slots.now in
    c.scopes_hold_expressions.ensures.target (scope_of slots) slots.next (term_of c.args.e.now) slots.next slots.laid_out
    (both_true (is_bound (length slots.rows) (term_of c.args.e.now)) (is_undivided (term_of c.args.e.now)) (first_sound c.args.turn (Read c.args.a (term_of c.args.e.now)) (actions_of c.args.rest.now) c.args.slots.now.rows c.args.slots.now.first_temp c.args.slots.now.temps c.args.slots.now.next c.requires.ready)).0 (omega arith)

pub put_read-returns : goal.put_read-returns
put_read-returns t c =
    let slots = c.args.slots.now in
    on_ok_weaker c.put_bound.result
    (λ h. puts_behind slots c.put_bound.new.slots c.args.block.now c.push.new.self c.put_bound.new.block _ _
    (read_appends slots.rows slots.first_temp slots.next c.args.a (term_of c.args.e.now) c.args.block.now c.lower_operand.new.block c.push.new.self _ c.in_ok-index.ensures.block (ap operand_of c.into_inner.ensures ∙ c.in_ok-index.ensures.word) c.in_ok-push.ensures.ok) h)
    c.put_bound.ensures

pub put_test-put_choice-requires-clause-room : goal.put_test-put_choice-requires-clause-room
put_test-put_choice-requires-clause-room t c =
    let slots = c.args.slots.now in
    omega (arith, room_of _ _ (test_none c.args.turn (term_of c.args.e.now) (actions_of c.args.rest.now) c.args.slots.now.rows c.args.slots.now.first_temp c.args.slots.now.next (block_of c.args.off) c.in-None.ensures) c.requires.room, piece_grows c.set_words_take_later_variables.ensures c.args.turn None (actions_of c.args.rest.now) slots.rows slots.first_temp (behind_scratch (lowered_test slots.rows (term_of c.args.e.now) slots.next slots.first_temp) slots.next))

pub put_test-put_acts-requires-in-None : goal.put_test-put_acts-requires-in-None
put_test-put_acts-requires-in-None t c =
    let slots = c.args.slots.now in
    let free = (behind_scratch (lowered_test slots.rows (term_of c.args.e.now) slots.next slots.first_temp) slots.next) in
    let taken = c.in_ok-test-in-None.ensures.block.slots in (
      search rules,
      (
        tt,
        (
          ready_after c.args.turn (actions_of c.args.rest.now) slots c.put_choice.new.slots free taken
              (ready_later c.args.turn (actions_of c.args.rest.now) slots.rows slots.first_temp slots.temps slots.next free (scratch_grows (lowered_test slots.rows (term_of c.args.e.now) slots.next slots.first_temp) slots.next) c.requires.ready),
          room_of _ _ (sym (piece_after c.args.turn (actions_of c.args.rest.now) slots c.put_choice.new.slots free taken)) (room_of _ _ (test_none c.args.turn (term_of c.args.e.now) (actions_of c.args.rest.now) c.args.slots.now.rows c.args.slots.now.first_temp c.args.slots.now.next (block_of c.args.off) c.in-None.ensures) c.requires.room),
        ),
      ),
    )

pub put_test-returns-in-Some-false : goal.put_test-returns-in-Some-false
put_test-returns-in-Some-false t c =
    let slots = c.args.slots.now in
    let no : Some false ≡ constant_truth (term_of c.args.e.now) = cc in
    on_ok_weaker c.append.result
    (λ is. puts_of slots slots c.args.block.now c.append.new.self _ _ (test_false c.args.turn (term_of c.args.e.now) (actions_of c.args.rest.now) c.args.slots.now.rows c.args.slots.now.first_temp c.args.slots.now.next (block_of c.args.off) no)
    (record { block = ap block_of is ∙ block_append c.args.block.now c.args.off; slots = record { next = refl; rows = refl; first_temp = refl; temps = refl } }))
    c.append.ensures.ok

pub put_test-returns-in_ok-put_acts-in-None : goal.put_test-returns-in_ok-put_acts-in-None
put_test-returns-in_ok-put_acts-in-None t c =
    let slots = c.args.slots.now in
    on_ok_weaker c.push.result
    (λ is. puts_of slots c.put_acts-in-None.new.slots c.args.block.now c.push.new.self _ _ (test_none c.args.turn (term_of c.args.e.now) (actions_of c.args.rest.now) c.args.slots.now.rows c.args.slots.now.first_temp c.args.slots.now.next (block_of c.args.off) c.in-None.ensures)
    (puts_test slots c.put_choice.new.slots c.put_acts-in-None.new.slots c.args.block.now c.put_choice.new.block c.push.new.self c.put_acts-in-None.new.block c.args.off _ (term_of c.args.e.now)
    c.in_ok-test-in-None.ensures.block (ap test_of c.into_inner.ensures ∙ c.in_ok-test-in-None.ensures.test) is c.new-on.result c.args.turn (actions_of c.args.rest.now) c.new-on.ensures c.in_ok-put_acts-in-None.ensures))
    c.push.ensures.ok

pub put_update-put_words-requires : goal.put_update-put_words-requires
put_update-put_words-requires t c =
    update_settable c.set_words_take_later_variables.ensures c.args.turn c.args.k (terms_of c.args.row.now) (actions_of c.args.rest.now) c.args.slots.now c.requires.ready c.requires.room

pub put_update-put_acts-requires : goal.put_update-put_acts-requires
put_update-put_acts-requires t c =
    let slots = c.args.slots.now in
    let p = (words_piece slots.rows slots.first_temp (c.args.turn.place.scope + c.args.k) (terms_of c.args.row.now) slots.next) in
    let taken = c.in_ok-put_words.ensures.slots in (
      search rules,
      (
        tt,
        (
          ready_after c.args.turn (actions_of c.args.rest.now) slots c.put_words.new.slots p.next taken
              (ready_behind c.args.turn (Update c.args.k (terms_of c.args.row.now)) (actions_of c.args.rest.now) c.args.slots.now.rows c.args.slots.now.first_temp c.args.slots.now.temps c.args.slots.now.next c.requires.ready slots.rows p.next (omega arith) (c.set_words_take_later_variables.ensures slots.rows slots.first_temp (c.args.turn.place.scope + c.args.k) (terms_of c.args.row.now) slots.next)),
          room_of _ _ (sym (piece_after c.args.turn (actions_of c.args.rest.now) slots c.put_words.new.slots p.next taken)) (update_room c.args.turn c.args.k (terms_of c.args.row.now) (actions_of c.args.rest.now) c.args.slots.now.rows c.args.slots.now.first_temp c.args.slots.now.next c.requires.room),
        ),
      ),
    )

pub put_update-put_words-requires-else-may_wait : goal.put_update-put_words-requires-else-may_wait
put_update-put_words-requires-else-may_wait t c =
    update_settable c.set_words_take_later_variables.ensures c.args.turn c.args.k (terms_of c.args.row.now) (actions_of c.args.rest.now) c.args.slots.now c.requires.ready c.requires.room

pub put_update-put_acts-requires-else-may_wait : goal.put_update-put_acts-requires-else-may_wait
put_update-put_acts-requires-else-may_wait t c =
    let slots = c.args.slots.now in
    let p = (words_piece slots.rows slots.first_temp (c.args.turn.place.scope + c.args.k) (terms_of c.args.row.now) slots.next) in
    let taken = c.in_ok-put_words-2.ensures.slots in (
      search rules,
      (
        tt,
        (
          ready_after c.args.turn (actions_of c.args.rest.now) slots c.put_words-else-may_wait.new.slots p.next taken
              (ready_behind c.args.turn (Update c.args.k (terms_of c.args.row.now)) (actions_of c.args.rest.now) c.args.slots.now.rows c.args.slots.now.first_temp c.args.slots.now.temps c.args.slots.now.next c.requires.ready slots.rows p.next (omega arith) (c.set_words_take_later_variables.ensures slots.rows slots.first_temp (c.args.turn.place.scope + c.args.k) (terms_of c.args.row.now) slots.next)),
          room_of _ _ (sym (piece_after c.args.turn (actions_of c.args.rest.now) slots c.put_words-else-may_wait.new.slots p.next taken)) (update_room c.args.turn c.args.k (terms_of c.args.row.now) (actions_of c.args.rest.now) c.args.slots.now.rows c.args.slots.now.first_temp c.args.slots.now.next c.requires.room),
        ),
      ),
    )

pub put_update-returns-in_ok-put_acts : goal.put_update-returns-in_ok-put_acts
put_update-returns-in_ok-put_acts t c =
    let slots = c.args.slots.now in
    let p = (words_piece slots.rows slots.first_temp (c.args.turn.place.scope + c.args.k) (terms_of c.args.row.now) slots.next) in
    let same = piece_after c.args.turn (actions_of c.args.rest.now) slots c.put_words.new.slots p.next c.in_ok-put_words.ensures.slots in
    on_ok_weaker c.append.result
    (λ is. puts_of slots c.put_acts.new.slots c.args.block.now c.append.new.self _ _ (update_step c.args.turn c.args.k (terms_of c.args.row.now) (actions_of c.args.rest.now) c.args.slots.now.rows c.args.slots.now.first_temp c.args.slots.now.next true c.may_wait.result c.if-may_wait.true c.may_wait.ensures)
    (puts_late slots c.put_words.new.slots c.put_acts.new.slots c.args.block.now c.put_acts.new.block c.append.new.self c.new-late.result c.put_words.new.block p _ _ c.new-late.ensures c.in_ok-put_words.ensures c.in_ok-put_acts.ensures same is))
    c.append.ensures.ok

pub put_update-returns-in_ok-put_words-2 : goal.put_update-returns-in_ok-put_words-2
put_update-returns-in_ok-put_words-2 t c =
    let slots = c.args.slots.now in
    let p = (words_piece slots.rows slots.first_temp (c.args.turn.place.scope + c.args.k) (terms_of c.args.row.now) slots.next) in
    let same = piece_after c.args.turn (actions_of c.args.rest.now) slots c.put_words-else-may_wait.new.slots p.next c.in_ok-put_words-2.ensures.slots in
    on_ok_weaker c.put_acts-else-may_wait.result
    (λ h. puts_of slots c.put_acts-else-may_wait.new.slots c.args.block.now c.put_acts-else-may_wait.new.block _ _ (update_step c.args.turn c.args.k (terms_of c.args.row.now) (actions_of c.args.rest.now) c.args.slots.now.rows c.args.slots.now.first_temp c.args.slots.now.next false c.may_wait.result c.if-may_wait.false c.may_wait.ensures)
    (puts_then slots c.put_words-else-may_wait.new.slots c.put_acts-else-may_wait.new.slots c.args.block.now c.put_words-else-may_wait.new.block c.put_acts-else-may_wait.new.block p _ _ c.in_ok-put_words-2.ensures h same))
    c.put_acts-else-may_wait.ensures

pub put_when-put_choice-requires-clause-room : goal.put_when-put_choice-requires-clause-room
put_when-put_choice-requires-clause-room t c =
    let slots = c.args.slots.now in
    omega (arith, room_of _ _ (when_first c.args.turn (term_of c.args.choice.test.now) (actions_of c.args.choice.on.now) (actions_of c.args.choice.off.now) (actions_of c.args.rest.now) c.args.slots.now.rows c.args.slots.now.first_temp c.args.slots.now.next (sym c.leaves.ensures ∙ c.if-leaves.true)) c.requires.room, pair_grows c.set_words_take_later_variables.ensures (with_tail c.args.turn tail.Nowhere) c.args.turn (term_of c.args.choice.test.now) (actions_of c.args.choice.on.now) (actions_of c.args.rest.now) c.args.slots.now.rows c.args.slots.now.first_temp c.args.slots.now.next)

pub put_when-put_pair-requires : goal.put_when-put_pair-requires
put_when-put_pair-requires t c =
    let slots = c.args.slots.now in
    let free = (behind_scratch (lowered_test slots.rows (term_of c.args.choice.test.now) slots.next slots.first_temp) slots.next) in
    let taken = c.in_ok-test.ensures.block.slots in (
      search rules,
      (
        ready_after (with_tail c.args.turn tail.Nowhere) (actions_of c.args.choice.on.now) slots c.put_choice.new.slots free taken (on_ready c.args.turn (term_of c.args.choice.test.now) (actions_of c.args.choice.on.now) (actions_of c.args.choice.off.now) (actions_of c.args.rest.now) c.args.slots.now.rows c.args.slots.now.first_temp c.args.slots.now.next slots.temps c.requires.ready tail.Nowhere free tt (omega arith)),
        (
          ready_after c.args.turn (actions_of c.args.rest.now) slots c.put_choice.new.slots free taken
              (ready_behind c.args.turn (When (term_of c.args.choice.test.now) (actions_of c.args.choice.on.now) (actions_of c.args.choice.off.now)) (actions_of c.args.rest.now) c.args.slots.now.rows c.args.slots.now.first_temp c.args.slots.now.temps c.args.slots.now.next c.requires.ready slots.rows free (omega arith) (scratch_grows (lowered_test slots.rows (term_of c.args.choice.test.now) slots.next slots.first_temp) slots.next)),
          room_of (second_piece (with_tail c.args.turn tail.Nowhere) (actions_of c.args.choice.on.now) c.args.turn (actions_of c.args.rest.now) slots.rows slots.first_temp free) _ (sym (second_after (with_tail c.args.turn tail.Nowhere) c.args.turn (actions_of c.args.choice.on.now) (actions_of c.args.rest.now) slots c.put_choice.new.slots free taken)) (room_of _ _ (when_first c.args.turn (term_of c.args.choice.test.now) (actions_of c.args.choice.on.now) (actions_of c.args.choice.off.now) (actions_of c.args.rest.now) c.args.slots.now.rows c.args.slots.now.first_temp c.args.slots.now.next (sym c.leaves.ensures ∙ c.if-leaves.true)) c.requires.room),
        ),
      ),
    )

pub put_when-put_choice-requires-then-leaves-2-clause-room : goal.put_when-put_choice-requires-then-leaves-2-clause-room
put_when-put_choice-requires-then-leaves-2-clause-room t c =
    let slots = c.args.slots.now in
    omega (arith, room_of _ _ (when_second c.args.turn (term_of c.args.choice.test.now) (actions_of c.args.choice.on.now) (actions_of c.args.choice.off.now) (actions_of c.args.rest.now) c.args.slots.now.rows c.args.slots.now.first_temp c.args.slots.now.next (sym c.leaves.ensures ∙ c.if-leaves.false) (sym c.leaves-else-leaves.ensures ∙ c.if-leaves-2.true)) c.requires.room, pair_grows c.set_words_take_later_variables.ensures (with_tail c.args.turn tail.Nowhere) c.args.turn (term_of c.args.choice.test.now) (actions_of c.args.choice.off.now) (actions_of c.args.rest.now) c.args.slots.now.rows c.args.slots.now.first_temp c.args.slots.now.next)

pub put_when-put_pair-requires-then-leaves-2 : goal.put_when-put_pair-requires-then-leaves-2
put_when-put_pair-requires-then-leaves-2 t c =
    let slots = c.args.slots.now in
    let free = (behind_scratch (lowered_test slots.rows (term_of c.args.choice.test.now) slots.next slots.first_temp) slots.next) in
    let taken = c.in_ok-test-2.ensures.block.slots in (
      search rules,
      (
        ready_after (with_tail c.args.turn tail.Nowhere) (actions_of c.args.choice.off.now) slots c.put_choice-then-leaves-2.new.slots free taken (off_ready c.args.turn (term_of c.args.choice.test.now) (actions_of c.args.choice.on.now) (actions_of c.args.choice.off.now) (actions_of c.args.rest.now) c.args.slots.now.rows c.args.slots.now.first_temp c.args.slots.now.next slots.temps c.requires.ready tail.Nowhere free tt (omega arith)),
        (
          ready_after c.args.turn (actions_of c.args.rest.now) slots c.put_choice-then-leaves-2.new.slots free taken
              (ready_behind c.args.turn (When (term_of c.args.choice.test.now) (actions_of c.args.choice.on.now) (actions_of c.args.choice.off.now)) (actions_of c.args.rest.now) c.args.slots.now.rows c.args.slots.now.first_temp c.args.slots.now.temps c.args.slots.now.next c.requires.ready slots.rows free (omega arith) (scratch_grows (lowered_test slots.rows (term_of c.args.choice.test.now) slots.next slots.first_temp) slots.next)),
          room_of (second_piece (with_tail c.args.turn tail.Nowhere) (actions_of c.args.choice.off.now) c.args.turn (actions_of c.args.rest.now) slots.rows slots.first_temp free) _ (sym (second_after (with_tail c.args.turn tail.Nowhere) c.args.turn (actions_of c.args.choice.off.now) (actions_of c.args.rest.now) slots c.put_choice-then-leaves-2.new.slots free taken)) (room_of _ _ (when_second c.args.turn (term_of c.args.choice.test.now) (actions_of c.args.choice.on.now) (actions_of c.args.choice.off.now) (actions_of c.args.rest.now) c.args.slots.now.rows c.args.slots.now.first_temp c.args.slots.now.next (sym c.leaves.ensures ∙ c.if-leaves.false) (sym c.leaves-else-leaves.ensures ∙ c.if-leaves-2.true)) c.requires.room),
        ),
      ),
    )

pub put_when-put_rejoined-requires : goal.put_when-put_rejoined-requires
put_when-put_rejoined-requires t c =
    (search rules, (c.requires.ready, room_of _ _ (when_both c.args.turn (term_of c.args.choice.test.now) (actions_of c.args.choice.on.now) (actions_of c.args.choice.off.now) (actions_of c.args.rest.now) c.args.slots.now.rows c.args.slots.now.first_temp c.args.slots.now.next (sym c.leaves.ensures ∙ c.if-leaves.false) (sym c.leaves-else-leaves.ensures ∙ c.if-leaves-2.false)) c.requires.room))

pub put_when-returns-in_ok-on : goal.put_when-returns-in_ok-on
put_when-returns-in_ok-on t c =
    let slots = c.args.slots.now in
    on_ok_weaker c.push.result
    (λ is. puts_of slots c.put_pair.new.slots c.args.block.now c.push.new.self _ _ (when_first c.args.turn (term_of c.args.choice.test.now) (actions_of c.args.choice.on.now) (actions_of c.args.choice.off.now) (actions_of c.args.rest.now) c.args.slots.now.rows c.args.slots.now.first_temp c.args.slots.now.next (sym c.leaves.ensures ∙ c.if-leaves.true))
    (puts_on slots c.put_choice.new.slots c.put_pair.new.slots c.args.block.now c.put_choice.new.block c.push.new.self c.in_ok-on.on c.in_ok-on.off _ (term_of c.args.choice.test.now)
    c.in_ok-test.ensures.block (ap test_of c.into_inner.ensures ∙ c.in_ok-test.ensures.test) is (with_tail c.args.turn tail.Nowhere) c.args.turn (actions_of c.args.choice.on.now) (actions_of c.args.rest.now) c.in_ok-on.ensures.first c.in_ok-on.ensures.second c.in_ok-on.ensures.slots))
    c.push.ensures.ok

pub put_when-returns-in_ok-off : goal.put_when-returns-in_ok-off
put_when-returns-in_ok-off t c =
    let slots = c.args.slots.now in
    on_ok_weaker c.push-then-leaves-2.result
    (λ is. puts_of slots c.put_pair-then-leaves-2.new.slots c.args.block.now c.push-then-leaves-2.new.self _ _ (when_second c.args.turn (term_of c.args.choice.test.now) (actions_of c.args.choice.on.now) (actions_of c.args.choice.off.now) (actions_of c.args.rest.now) c.args.slots.now.rows c.args.slots.now.first_temp c.args.slots.now.next (sym c.leaves.ensures ∙ c.if-leaves.false) (sym c.leaves-else-leaves.ensures ∙ c.if-leaves-2.true))
    (puts_off slots c.put_choice-then-leaves-2.new.slots c.put_pair-then-leaves-2.new.slots c.args.block.now c.put_choice-then-leaves-2.new.block c.push-then-leaves-2.new.self c.in_ok-off.on c.in_ok-off.off _ (term_of c.args.choice.test.now)
    c.in_ok-test-2.ensures.block (ap test_of c.into_inner-then-leaves-2.ensures ∙ c.in_ok-test-2.ensures.test) is (with_tail c.args.turn tail.Nowhere) c.args.turn (actions_of c.args.choice.off.now) (actions_of c.args.rest.now) c.in_ok-off.ensures.first c.in_ok-off.ensures.second c.in_ok-off.ensures.slots))
    c.push-then-leaves-2.ensures.ok

pub put_rejoined-reserve_variables-requires : goal.put_rejoined-reserve_variables-requires
put_rejoined-reserve_variables-requires t c =
    let slots = c.args.slots.now in
    let mark = with_tail c.args.turn (tail.Mark slots.next) in
    let later = slots.next + 1 in
    let test = lowered_test slots.rows (term_of c.args.choice.test.now) later slots.first_temp in
    let scratch = behind_scratch test later in
    let pair = pair_piece mark mark (term_of c.args.choice.test.now) (actions_of c.args.choice.on.now) (actions_of c.args.choice.off.now) slots.rows slots.first_temp later in
    let pair_later : scratch ≤ pair.next = pair_grows c.set_words_take_later_variables.ensures mark mark (term_of c.args.choice.test.now) (actions_of c.args.choice.on.now) (actions_of c.args.choice.off.now) slots.rows slots.first_temp later in
    let test_later : later ≤ scratch = scratch_grows test later in
    let behind_later = piece_grows c.set_words_take_later_variables.ensures c.args.turn None (actions_of c.args.rest.now) slots.rows slots.first_temp pair.next in
    omega (arith, c.requires.room, pair_later, test_later, behind_later)

pub put_rejoined-put_choice-requires-clause-room : goal.put_rejoined-put_choice-requires-clause-room
put_rejoined-put_choice-requires-clause-room t c =
    let slots = c.args.slots.now in
    let mark = with_tail c.args.turn (tail.Mark slots.next) in
    let later = slots.next + 1 in
    let test = lowered_test slots.rows (term_of c.args.choice.test.now) later slots.first_temp in
    let scratch = behind_scratch test later in
    let pair = pair_piece mark mark (term_of c.args.choice.test.now) (actions_of c.args.choice.on.now) (actions_of c.args.choice.off.now) slots.rows slots.first_temp later in
    let pair_later : scratch ≤ pair.next = pair_grows c.set_words_take_later_variables.ensures mark mark (term_of c.args.choice.test.now) (actions_of c.args.choice.on.now) (actions_of c.args.choice.off.now) slots.rows slots.first_temp later in
    let test_later : later ≤ scratch = scratch_grows test later in
    let behind_later = piece_grows c.set_words_take_later_variables.ensures c.args.turn None (actions_of c.args.rest.now) slots.rows slots.first_temp pair.next in
    let reserved : Takes slots c.reserve_variables.new.self later =
    c.reserve_variables.ensures.takes in
    let room : (condition_piece test later).next < 2 ^ 32 = omega (arith, c.requires.room, pair_later, behind_later) in
    room_of _ _ (sym (condition_same (term_of c.args.choice.test.now) slots c.reserve_variables.new.self later reserved)) room

pub put_rejoined-put_pair-requires : goal.put_rejoined-put_pair-requires
put_rejoined-put_pair-requires t c =
    let slots = c.args.slots.now in
    let mark = with_tail c.args.turn (tail.Mark slots.next) in
    let later = slots.next + 1 in
    let test = lowered_test slots.rows (term_of c.args.choice.test.now) later slots.first_temp in
    let scratch = behind_scratch test later in
    let pair = pair_piece mark mark (term_of c.args.choice.test.now) (actions_of c.args.choice.on.now) (actions_of c.args.choice.off.now) slots.rows slots.first_temp later in
    let pair_later : scratch ≤ pair.next = pair_grows c.set_words_take_later_variables.ensures mark mark (term_of c.args.choice.test.now) (actions_of c.args.choice.on.now) (actions_of c.args.choice.off.now) slots.rows slots.first_temp later in
    let test_later : later ≤ scratch = scratch_grows test later in
    let behind_later = piece_grows c.set_words_take_later_variables.ensures c.args.turn None (actions_of c.args.rest.now) slots.rows slots.first_temp pair.next in
    let reserved : Takes slots c.reserve_variables.new.self later =
    c.reserve_variables.ensures.takes in
    let tested : Takes slots c.put_choice.new.slots scratch =
    takes_of slots c.put_choice.new.slots _ _ (ap (λ p. p.next) (condition_same (term_of c.args.choice.test.now) slots c.reserve_variables.new.self later reserved))
    (takes_then slots c.reserve_variables.new.self c.put_choice.new.slots _ _ reserved c.in_ok-test.ensures.block.slots) in
    let room : pair.next < 2 ^ 32 = omega (arith, c.requires.room, behind_later) in (
      search rules,
      (
        ready_after mark (actions_of c.args.choice.on.now) slots c.put_choice.new.slots scratch tested (on_ready c.args.turn (term_of c.args.choice.test.now) (actions_of c.args.choice.on.now) (actions_of c.args.choice.off.now) (actions_of c.args.rest.now) c.args.slots.now.rows c.args.slots.now.first_temp c.args.slots.now.next slots.temps c.requires.ready (tail.Mark slots.next) scratch tt (omega arith)),
        (
          ready_after mark (actions_of c.args.choice.off.now) slots c.put_choice.new.slots scratch tested (off_ready c.args.turn (term_of c.args.choice.test.now) (actions_of c.args.choice.on.now) (actions_of c.args.choice.off.now) (actions_of c.args.rest.now) c.args.slots.now.rows c.args.slots.now.first_temp c.args.slots.now.next slots.temps c.requires.ready (tail.Mark slots.next) scratch tt (omega arith)),
          room_of (second_piece mark (actions_of c.args.choice.on.now) mark (actions_of c.args.choice.off.now) slots.rows slots.first_temp scratch) _ (sym (second_after mark mark (actions_of c.args.choice.on.now) (actions_of c.args.choice.off.now) slots c.put_choice.new.slots scratch tested)) room,
        ),
      ),
    )

pub put_rejoined-put_acts-requires : goal.put_rejoined-put_acts-requires
put_rejoined-put_acts-requires t c =
    let slots = c.args.slots.now in
    let mark = with_tail c.args.turn (tail.Mark slots.next) in
    let later = slots.next + 1 in
    let test = lowered_test slots.rows (term_of c.args.choice.test.now) later slots.first_temp in
    let scratch = behind_scratch test later in
    let pair = pair_piece mark mark (term_of c.args.choice.test.now) (actions_of c.args.choice.on.now) (actions_of c.args.choice.off.now) slots.rows slots.first_temp later in
    let pair_later : scratch ≤ pair.next = pair_grows c.set_words_take_later_variables.ensures mark mark (term_of c.args.choice.test.now) (actions_of c.args.choice.on.now) (actions_of c.args.choice.off.now) slots.rows slots.first_temp later in
    let test_later : later ≤ scratch = scratch_grows test later in
    let behind_later = piece_grows c.set_words_take_later_variables.ensures c.args.turn None (actions_of c.args.rest.now) slots.rows slots.first_temp pair.next in
    let reserved : Takes slots c.reserve_variables.new.self later =
    c.reserve_variables.ensures.takes in
    let tested : Takes slots c.put_choice.new.slots scratch =
    takes_of slots c.put_choice.new.slots _ _ (ap (λ p. p.next) (condition_same (term_of c.args.choice.test.now) slots c.reserve_variables.new.self later reserved))
    (takes_then slots c.reserve_variables.new.self c.put_choice.new.slots _ _ reserved c.in_ok-test.ensures.block.slots) in
    let taken : Takes slots c.put_pair.new.slots pair.next =
    takes_of slots c.put_pair.new.slots _ _ (ap (λ p. p.next) (second_after mark mark (actions_of c.args.choice.on.now) (actions_of c.args.choice.off.now) slots c.put_choice.new.slots scratch tested))
    (takes_then slots c.put_choice.new.slots c.put_pair.new.slots _ _ tested c.in_ok-on.ensures.slots) in
    let grown : slots.next ≤ pair.next = omega (arith, pair_later, test_later) in (
      search rules,
      (
        tt,
        (
          ready_after c.args.turn (actions_of c.args.rest.now) slots c.put_pair.new.slots pair.next taken
              (ready_behind c.args.turn (When (term_of c.args.choice.test.now) (actions_of c.args.choice.on.now) (actions_of c.args.choice.off.now)) (actions_of c.args.rest.now) c.args.slots.now.rows c.args.slots.now.first_temp c.args.slots.now.temps c.args.slots.now.next c.requires.ready slots.rows pair.next (omega arith) grown),
          room_of _ _ (sym (piece_after c.args.turn (actions_of c.args.rest.now) slots c.put_pair.new.slots pair.next taken)) c.requires.room,
        ),
      ),
    )

pub put_rejoined-returns : goal.put_rejoined-returns
put_rejoined-returns t c =
    let slots = c.args.slots.now in
    let mark = with_tail c.args.turn (tail.Mark slots.next) in
    let later = slots.next + 1 in
    let test = lowered_test slots.rows (term_of c.args.choice.test.now) later slots.first_temp in
    let scratch = behind_scratch test later in
    let pair = pair_piece mark mark (term_of c.args.choice.test.now) (actions_of c.args.choice.on.now) (actions_of c.args.choice.off.now) slots.rows slots.first_temp later in
    let pair_later : scratch ≤ pair.next = pair_grows c.set_words_take_later_variables.ensures mark mark (term_of c.args.choice.test.now) (actions_of c.args.choice.on.now) (actions_of c.args.choice.off.now) slots.rows slots.first_temp later in
    let test_later : later ≤ scratch = scratch_grows test later in
    let behind_later = piece_grows c.set_words_take_later_variables.ensures c.args.turn None (actions_of c.args.rest.now) slots.rows slots.first_temp pair.next in
    let reserved : Takes slots c.reserve_variables.new.self later =
    c.reserve_variables.ensures.takes in
    on_ok_weaker c.push-3.result
    (λ is. puts_rejoined slots c.reserve_variables.new.self c.put_pair.new.slots c.put_acts.new.slots c.args.block.now c.push.new.self c.push-2.new.self c.push-3.new.self c.new-behind.result c.put_acts.new.block c.new.result _
    c.args.turn (term_of c.args.choice.test.now) (actions_of c.args.choice.on.now) (actions_of c.args.choice.off.now) (actions_of c.args.rest.now) reserved c.in_ok-push.ensures.ok
    (puts_on c.reserve_variables.new.self c.put_choice.new.slots c.put_pair.new.slots c.push.new.self c.put_choice.new.block c.push-2.new.self c.in_ok-on.on c.in_ok-on.off _ (term_of c.args.choice.test.now)
    c.in_ok-test.ensures.block (ap test_of c.into_inner.ensures ∙ c.in_ok-test.ensures.test) c.in_ok-push-2.ensures.ok mark mark (actions_of c.args.choice.on.now) (actions_of c.args.choice.off.now) c.in_ok-on.ensures.first c.in_ok-on.ensures.second c.in_ok-on.ensures.slots)
    c.new-behind.ensures c.in_ok-put_acts.ensures (ap test_of c.into_inner-2.ensures ∙ c.in_ok-led_on.ensures) c.new.ensures is)
    c.push-3.ensures.ok

pub put_act-returns-in-KeepIf : goal.put_act-returns-in-KeepIf
put_act-returns-in-KeepIf t c =
    let slots = c.args.slots.now in
    let e = term_of c.in-KeepIf.e in
    let shape : action_of c.args.act.now ≡ KeepIf e = ap action_of c.in-KeepIf.is ∙ keep_copy c.in-KeepIf.e in
    on_ok_weaker c.put_test.result
    (λ h. puts_of slots c.put_test.new.slots c.args.block.now c.put_test.new.block _ _
    (keep_same c.args.turn (held_of c.args.held) (action_of c.args.act.now) e (actions_of c.args.rest.now) slots.rows slots.first_temp slots.next (term_of c.tested.result.now) (block_of c.new-off.result) shape c.tested.ensures (ap block_of c.new-off.ensures)) h)
    c.put_test.ensures

pub put_act-returns-in_ok-put_stop-in-StopUnless : goal.put_act-returns-in_ok-put_stop-in-StopUnless
put_act-returns-in_ok-put_stop-in-StopUnless t c =
    let slots = c.args.slots.now in
    let e = term_of c.in-StopUnless.e in
    let shape : action_of c.args.act.now ≡ StopUnless e = ap action_of c.in-StopUnless.is ∙ stop_copy c.in-StopUnless.e in
    on_ok_weaker c.put_test-in-StopUnless.result
    (λ h. puts_of slots c.put_test-in-StopUnless.new.slots c.args.block.now c.put_test-in-StopUnless.new.block _ _
    (stop_same c.args.turn (held_of c.args.held) (action_of c.args.act.now) e (actions_of c.args.rest.now) slots.rows slots.first_temp slots.next (term_of c.tested-in-StopUnless.result.now) (block_of c.put_stop.new.block) shape c.tested-in-StopUnless.ensures (c.in_ok-put_stop-in-StopUnless.ensures ∙ ap (λ l. join (block_of l) (stop_of c.args.turn.stop)) c.new-off-in-StopUnless.ensures)) h)
    c.put_test-in-StopUnless.ensures
