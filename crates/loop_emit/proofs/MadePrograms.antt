-- The program that the code makes: its scopes, its turn, and its statements in order.
use Rattle.std.proofs.Common.{◌≡◌, ℕ, ◌<◌, ◌≤◌, ◌^◌, List, [], length, None, sym, ap, ◌∙◌, subst, arith}
use Rattle.std.specs.Prelude.{IsTrue, EachIndex, slice_index}
use Rattle.std.proofs.lemmas.List.FromFn.{length-range_with_len}
use Rattle.list_denotation.specs.Scopes.{is_bound}
use Rattle.list_denotation.specs.Terms.{Term, Finish}
use Rattle.loop_ir.specs.declared.syntax.Stmt.{Stmt}
use Rattle.loop_ir.specs.Statements.{Block, Nil, Cons, Loop, join}
use Rattle.loop_ir.specs.StatementCopies.{block_of}
use Rattle.loop_ir.proofs.Copies.{join_join}
use Rattle.state_alloc.specs.declared.slots.Slots.{Slots}
use Rattle.expr_lower.specs.Lowering.{lowered_test}
use Rattle.expr_phrases.specs.PhraseCopies.{Appends}
use Rattle.stateful_core.specs.CoreTerms.{Actions}
use Rattle.stateful_core.specs.WellFormed.{are_sound_actions}
use Rattle.turn_blocks.specs.Pieces.{Piece}
use Rattle.turn_blocks.specs.TurnBlocks.{acts_piece}
use Rattle.turn_emit.specs.declared.turns.Turn.{Turn}
use Rattle.row_emit.specs.TurnCopies.{stop_of, tail_of}
use Rattle.turn_emit.specs.Turns.{piece_at, IsReadyAt}
use Rattle.loop_emit.specs.Emission as emission
use Rattle.loop_emit.specs.Emission.{finish_stop, finish_ending, finish_openings, openings, behind_guard, loop_guard, guarded_loop}
use Rattle.loop_emit.specs.EmissionRoom.{HasRoom, IsTurnFor, IsStateScope}
use Rattle.loop_emit.proofs.Appends.{appends_more}
use Rattle.loop_emit.proofs.MachineParts.{behind_grows}
use Rattle.loop_emit.proofs.Variables.{range_at}

-- a turn for a row of the same width
pub turn_at : (temps : ℕ) (init : List Term) (guard : Term) (acts : Actions) (width width' : ℕ) (terminal : Finish) (turn : Turn) (held : List ℕ) → (HasRoom temps init guard acts width terminal → held ≡ emission.held_vars temps init guard acts width terminal → IsTurnFor temps init guard acts width terminal turn) → width ≡ width' → HasRoom temps init guard acts width' terminal → held ≡ emission.held_vars temps init guard acts width' terminal → IsTurnFor temps init guard acts width' terminal turn
turn_at temps init guard acts width width' terminal turn held made same =
    subst (λ w. HasRoom temps init guard acts w terminal → held ≡ emission.held_vars temps init guard acts w terminal → IsTurnFor temps init guard acts w terminal turn) same made

module _ (temps : ℕ) (init : List Term) (guard : Term) (acts : Actions) (width : ℕ) (terminal : Finish) where
  abbrev held_vars : List ℕ
  held_vars = emission.held_vars temps init guard acts width terminal

  abbrev state_vars : List ℕ
  state_vars = emission.state_vars temps init guard acts width terminal

  abbrev guard_var : ℕ
  guard_var = emission.guard_var temps init guard acts width terminal

  abbrev first_local : ℕ
  first_local = emission.first_local temps init guard acts width terminal

  pub states_width : length state_vars ≡ length init
  states_width = length-range_with_len (emission.first_state temps init guard acts width terminal) (length init)

  behind : guard_var ≤ first_local
  behind = behind_grows (lowered_test state_vars guard guard_var 0) guard_var

  pub held_given : HasRoom temps init guard acts width terminal → EachIndex held_vars (λ i. slice_index held_vars i < 2 ^ 32)
  held_given room i lt =
      let locals = room.locals in
      let within : i < emission.held_count terminal = omega (arith, lt, length-range_with_len temps (emission.held_count terminal)) in
      let at = range_at temps (emission.held_count terminal) i within in
      omega (arith, at, within, locals, behind)

  module _ (turn : Turn) (room : HasRoom temps init guard acts width terminal) (is : IsTurnFor temps init guard acts width terminal turn) where
    pub is_ready : IsReadyAt turn acts state_vars 0 temps first_local
    is_ready =
        let scope = is.scope in
        let states = is.states in
        let width_is = is.row in
        let locals = room.locals in
        let there = room.row_there in
        record {
          words = omega (arith, scope, states, states_width);
          few = omega (arith, scope, states, locals, behind);
          sound =
              subst (λ n. IsTrue (are_sound_actions turn.place.states n acts)) (sym states_width)
              (subst (λ m. IsTrue (are_sound_actions m (length init) acts)) (sym states) room.turn_sound);
          temporaries = room.turn_few;
          width = omega (arith, width_is, there, states_width);
          tail = is.fits;
          stop = is.given;
        }

    pub piece_is : piece_at turn None acts state_vars 0 first_local ≡ emission.turn_piece temps init guard acts width terminal
    piece_is =
        ap (λ n. acts_piece n turn.place.states 0 (stop_of turn.stop) (tail_of 0 turn.tail) None acts state_vars first_local) is.scope
        ∙ ap (λ n. acts_piece 0 n 0 (stop_of turn.stop) (tail_of 0 turn.tail) None acts state_vars first_local) is.states
        ∙ ap (λ b. acts_piece 0 (length init) 0 b (tail_of 0 turn.tail) None acts state_vars first_local) is.stop
        ∙ ap (λ t. acts_piece 0 (length init) 0 (finish_stop terminal held_vars) t None acts state_vars first_local) is.tail

  pub whole_program : (none begun looped whole : List Stmt) (temps' : ℕ) (held : List ℕ) → none ≡ [] → temps' ≡ temps → held ≡ held_vars → Appends none begun (join (finish_openings terminal temps) (openings init (emission.first_state temps init guard acts width terminal))) → Appends begun looped (emission.machine_loop temps' init guard acts width terminal) → Appends looped whole (finish_ending terminal held) → block_of whole ≡ emission.body_block temps init guard acts width terminal
  whole_program none begun looped whole temps' held empty same_temps same_held first second third =
      let c = loop_guard state_vars guard guard_var in
      let loop : Block = Cons (Loop c.test (join (emission.turn_piece temps init guard acts width terminal).block c.block)) Nil in
      let ending = finish_ending terminal held_vars in
      let starts = openings init (emission.first_state temps init guard acts width terminal) in
      let rest = emission.loop_block temps init guard acts width terminal in
      let turns : Appends begun looped (join c.block loop) =
      subst (λ n. Appends begun looped (emission.machine_loop n init guard acts width terminal)) same_temps second in
      let shows : Appends looped whole ending = subst (λ vs. Appends looped whole (finish_ending terminal vs)) same_held third in
      let behind : Appends begun whole rest =
      appends_more begun looped whole (join c.block loop) ending turns shows ∙ ap (join (block_of begun)) (join_join c.block loop ending) in
      appends_more none begun whole (join (finish_openings terminal temps) starts) rest first behind
      ∙ ap (λ ss. join (block_of ss) (join (join (finish_openings terminal temps) starts) rest)) empty
      ∙ join_join (finish_openings terminal temps) starts rest

  -- the same over the words of the code's scope, and with the code's acts
  module _ (turn : Turn) (room : HasRoom temps init guard acts width terminal) (is : IsTurnFor temps init guard acts width terminal turn) (scope : Slots) (state : IsStateScope temps init guard acts width terminal scope) where
    pub bound_here : IsTrue (is_bound (length scope.rows) guard)
    bound_here = subst (λ n. IsTrue (is_bound n guard)) (sym (ap length state.rows ∙ states_width)) room.guard_bound

    module _ (acts' : Actions) (same_acts : acts' ≡ acts) where
      pub ready_here : IsReadyAt turn acts' scope.rows 0 scope.temps (behind_guard scope.rows guard scope.next)
      ready_here =
          subst (λ a. IsReadyAt turn a scope.rows 0 scope.temps (behind_guard scope.rows guard scope.next)) (sym same_acts)
          (subst (λ rs. IsReadyAt turn acts rs 0 scope.temps (behind_guard rs guard scope.next)) (sym state.rows)
          (subst (λ n. IsReadyAt turn acts state_vars 0 n (behind_guard state_vars guard scope.next)) (sym state.same_temps)
          (subst (λ n. IsReadyAt turn acts state_vars 0 temps (behind_guard state_vars guard n)) (sym state.next) (is_ready turn room is))))

      pub piece_here : piece_at turn None acts' scope.rows 0 (behind_guard scope.rows guard scope.next) ≡ emission.turn_piece temps init guard acts width terminal
      piece_here =
          ap (λ a. piece_at turn None a scope.rows 0 (behind_guard scope.rows guard scope.next)) same_acts
          ∙ ap (λ rs. piece_at turn None acts rs 0 (behind_guard rs guard scope.next)) state.rows
          ∙ ap (λ n. piece_at turn None acts state_vars 0 (behind_guard state_vars guard n)) state.next
          ∙ piece_is turn room is

      pub loop_here : guarded_loop scope.rows guard scope.next (piece_at turn None acts' scope.rows 0 (behind_guard scope.rows guard scope.next)).block ≡ emission.machine_loop temps init guard acts width terminal
      loop_here =
          ap (λ (p : Piece). guarded_loop scope.rows guard scope.next p.block) piece_here
          ∙ ap (λ rs. guarded_loop rs guard scope.next (emission.turn_piece temps init guard acts width terminal).block) state.rows
          ∙ ap (λ n. guarded_loop state_vars guard n (emission.turn_piece temps init guard acts width terminal).block) state.next
