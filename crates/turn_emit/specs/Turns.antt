-- The statements of a turn as the code appends them, and what is asked for.
use Rattle.std.specs.Prelude.{ℕ, ◌+◌, ◌<◌, ◌≤◌, ◌^◌, List, length, slice_index, IsTrue, EachIndex, Option, Some, None}
use Rattle.std.specs.Borrow.{Bor}
use Rattle.list_denotation.specs.declared.expr.Expr.{Expr}
use Rattle.list_denotation.specs.Copies.{term_of}
use Rattle.list_denotation.specs.Scopes.{is_bound}
use Rattle.list_denotation.specs.Terms.{Term}
use Rattle.loop_ir.specs.Statements.{Block}
use Rattle.state_alloc.specs.declared.slots.Slots.{Slots}
use Rattle.expr_lower.specs.Costs.{temps_of}
use Rattle.expr_lower.specs.Lowering.{lowered_test}
use Rattle.stateful_core.specs.CoreShapes.{actions_locals}
use Rattle.stateful_core.specs.CoreTerms.{Actions}
use Rattle.stateful_core.specs.WellFormed.{are_sound_actions}
use Rattle.turn_blocks.specs.Pieces.{Piece, behind_scratch, choose}
use Rattle.turn_blocks.specs.Temporaries.{acts_temps}
use Rattle.turn_blocks.specs.TurnBlocks.{known_truth, test_piece, rejoined, acts_piece}
use Rattle.row_emit.specs.declared.tails.Tail.{Tail}
use Rattle.row_emit.specs.declared.tails.Tail.TheVariants as tail
use Rattle.turn_emit.specs.declared.turns.Turn.{Turn}
use Rattle.row_emit.specs.Readiness.{FitsTail}
use Rattle.row_emit.specs.TurnCopies.{stop_of, stop_vars, tail_of, tail_width}

abbrev pub held_of : Option (Bor Expr) → Option Term
held_of None = None
held_of (Some e) = Some (term_of e.now)

-- the statements of acts and of what is behind them, where the words stand in the variables `rows`, the temporaries are those
-- from t on, and the variables from `next` on were never given out
abbrev pub piece_at : Turn → Option Term → Actions → List ℕ → ℕ → ℕ → Piece
piece_at turn held acts rows t next =
    acts_piece turn.place.scope turn.place.states t (stop_of turn.stop) (tail_of t turn.tail) held acts rows next

abbrev pub piece_of : Turn → Option Term → Actions → Slots → Piece
piece_of turn held acts slots = piece_at turn held acts slots.rows slots.first_temp slots.next

-- those of a test, with the acts in the branch that goes on and other statements in the other one
abbrev pub test_piece_at : Turn → Term → Actions → List ℕ → ℕ → ℕ → Block → Piece
test_piece_at turn e acts rows t next off =
    test_piece (known_truth (tail_of t turn.tail).has_loop e) (lowered_test rows e next t) next (λ n. piece_at turn None acts rows t n) off

-- those of acts whose variables are behind those of others
abbrev pub second_piece : Turn → Actions → Turn → Actions → List ℕ → ℕ → ℕ → Piece
second_piece first_turn first second_turn second rows t next =
    piece_at second_turn None second rows t (piece_at first_turn None first rows t next).next

-- the same turn, with something else behind the acts
abbrev pub with_tail : Turn → Tail → Turn
with_tail turn tail = record { place = turn.place; tail = tail; stop = turn.stop }

-- a choice of acts, and those of the other branch with the variables behind
abbrev pub pair_piece : Turn → Turn → Term → Actions → Actions → List ℕ → ℕ → ℕ → Piece
pair_piece on_turn off_turn e a b rows t next =
    let c = lowered_test rows e next t in
    let on = piece_at on_turn None a rows t (behind_scratch c next) in
    let off = piece_at off_turn None b rows t on.next in
    record { block = choose c on.block off.block; next = off.next }

-- those of a choice of acts that both may lead on
abbrev pub rejoined_at : Turn → Term → Actions → Actions → Actions → List ℕ → ℕ → ℕ → Piece
rejoined_at turn e a b acts rows t next =
    let d = lowered_test rows e (next + 1) t in
    let marking = with_tail turn (tail.Mark next) in
    let on = piece_at marking None a rows t (behind_scratch d (next + 1)) in
    let off = piece_at marking None b rows t on.next in
    rejoined next d on off (piece_at turn None acts rows t off.next)

-- the acts are sound where the words stand in the variables `rows`; the temporaries are enough, there are words for the row,
-- and the variables of what is held were given out
pub record IsReadyAt (turn : Turn) (acts : Actions) (rows : List ℕ) (first_temp temps next : ℕ) : Type 0 where
  pub words : turn.place.scope + turn.place.states ≤ length rows
  pub few : turn.place.scope + turn.place.states < 2 ^ 32
  pub sound : IsTrue (are_sound_actions turn.place.states (length rows) acts)
  pub temporaries : acts_temps acts ≤ temps
  pub width : tail_width turn.tail ≤ length rows + actions_locals acts
  pub tail : FitsTail first_temp temps next turn.tail
  pub stop : EachIndex (stop_vars turn.stop) (λ i. slice_index (stop_vars turn.stop) i < 2 ^ 32)

-- of a scope
abbrev pub IsReady : Turn → Actions → Slots → Type 0
IsReady turn acts slots = IsReadyAt turn acts slots.rows slots.first_temp slots.temps slots.next

-- an expression reads the first words alone, and so many temporaries are enough
pub record IsReadable (words temps : ℕ) (e : Term) : Type 0 where
  pub bound : IsTrue (is_bound words e)
  pub temporaries : temps_of e ≤ temps

abbrev pub FitsHeld : ℕ → ℕ → Option Term → Type 0
FitsHeld words temps None = Unit {0}
FitsHeld words temps (Some e) = IsReadable words temps e
