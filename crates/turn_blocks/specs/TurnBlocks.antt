-- The statements of a turn: its acts in order, what follows a test inside the branch that goes on, and behind them what is
-- done with the row.
use Rattle.std.specs.Prelude.{ℕ, ◌+◌, Bool, true, false, ◌&&◌, List, [], ◌∷◌, ◌++◌, length, slice_index, Option, Some, None, if◌then◌else◌}
use Rattle.list_denotation.specs.Terms.{Term, Truth}
use Rattle.loop_ir.specs.Statements as loop
use Rattle.loop_ir.specs.Statements.{Const, Same, Not, Block, join}
use Rattle.expr_forms.specs.Forms.{Condition, Lowered, operand_block, operand_in}
use Rattle.expr_lower.specs.Lowering.{lowered_term, lowered_into, lowered_test}
use Rattle.stateful_core.specs.CoreTerms as core
use Rattle.stateful_core.specs.CoreTerms.{Let, Read, KeepIf, StopUnless, Update, When, Actions, Nil, Cons}
use Rattle.stateful_core.specs.StreamCores.{let_all}
use Rattle.turn_blocks.specs.Pieces.{Piece, Tail, behind, last, mark, nowhere, behind_scratch, choose}
use Rattle.turn_blocks.specs.WordUses.{Same as SameWord}
use Rattle.turn_blocks.specs.WordUses.{never_go_on, may_wait, LetUse, Tested, Unused, Own, let_use}
use Rattle.turn_blocks.specs.StateBlocks.{words_piece}

-- ---- tests

-- the expression that a test looks at: the one that it waits for, where there is one, and else its own
abbrev pub tested : Option Term → Term → Term
tested None e = e
tested (Some held) e = held

abbrev pub constant_truth : Term → Option Bool
constant_truth (Truth b) = Some b
constant_truth _ = None

-- what is known of a test. Where a loop stands behind it, one that is false is a test too, so that no loop is dropped
abbrev pub known_truth : Bool → Term → Option Bool
known_truth false e = constant_truth e
known_truth true (Truth true) = Some true
known_truth true _ = None

abbrev pub is_none : Actions → Bool
is_none Nil = true
is_none (Cons a acts) = false

-- a piece in the branch of a condition that goes on, and other statements in the other one
abbrev pub choose_piece : Condition → Piece → Block → Piece
choose_piece c on off = record { block = choose c on.block off; next = on.next }

-- ---- acts

-- the local words that a `Let` adds stand in these variables, and what follows goes on from there. A word that isn't read
-- shares the variable of the first word
abbrev pub let_piece : LetUse → Term → ℕ → List ℕ → ℕ → (Option Term → List ℕ → ℕ → Piece) → Piece
let_piece Tested e t rows next go = go (Some e) (rows ++ slice_index rows 0 ∷ []) next
let_piece Unused e t rows next go = go None (rows ++ slice_index rows 0 ∷ []) next
let_piece (SameWord k) e t rows next go = go None (rows ++ slice_index rows k ∷ []) next
let_piece Own e t rows next go = behind (lowered_into rows e next t) (go None (rows ++ next ∷ []) (next + 1))

-- an item is read into a variable
abbrev pub read_block : ℕ → Lowered → ℕ → Block
read_block a l next = join (operand_block l next) (loop.Cons (loop.Read next a (operand_in l.form next)) loop.Nil)

-- a test, what goes on where it holds, and else other statements. A constant is no test
abbrev pub test_piece : Option Bool → Condition → ℕ → (ℕ → Piece) → Block → Piece
test_piece (Some true) c next go off = go next
test_piece (Some false) c next go off = record { block = off; next = next }
test_piece None c next go off = choose_piece c (go (behind_scratch c next)) off

-- words of the state are set before what follows, or behind it where they may wait
abbrev pub update_piece : Bool → Piece → (ℕ → Piece) → Piece
update_piece true set go = record { block = join (go set.next).block set.block; next = (go set.next).next }
update_piece false set go = behind set.block (go set.next)

-- one branch leads nowhere, and the other one has no acts: so what follows stands in that one
abbrev pub first_leaves : Condition → Piece → (ℕ → Piece) → Piece
first_leaves c branch go = record { block = choose c branch.block (go branch.next).block; next = (go branch.next).next }

abbrev pub second_leaves : Condition → Piece → (ℕ → Piece) → Piece
second_leaves c branch go = record { block = choose c (go branch.next).block branch.block; next = (go branch.next).next }

-- both branches may lead on: the variable v tells whether they did
abbrev pub rejoined : ℕ → Condition → Piece → Piece → Piece → Piece
rejoined v c on off rest = record {
  block = loop.Cons (loop.Set v (Const 0)) (join (choose c on.block off.block) (loop.Cons (loop.If (Not (Same (loop.Var v) (Const 0))) rest.block loop.Nil) loop.Nil));
  next = rest.next;
}

-- where so many words are bound before the state, which has so many, and the temporaries are those from t on. `stop` ends the
-- run where the stream stops. The words stand in the variables `rows`; `held` is an expression of which the next act tests
-- the value
module _ (scope states t : ℕ) (stop : Block) where
  abbrev pub acts_piece : Tail → Option Term → Actions → List ℕ → ℕ → Piece
  acts_piece tail held Nil rows next = tail.piece (last tail.width rows) next
  acts_piece tail held (Cons (Let e) acts) rows next =
      let_piece (let_use scope states tail.width (length rows) e acts) e t rows next (λ h r n. acts_piece tail h acts r n)
  acts_piece tail held (Cons (Read a e) acts) rows next =
      behind (read_block a (lowered_term rows e next t) next) (acts_piece tail None acts (rows ++ next ∷ []) (next + 1))
  acts_piece tail held (Cons (KeepIf e) acts) rows next =
      test_piece (known_truth tail.has_loop (tested held e)) (lowered_test rows (tested held e) next t) next (λ n. acts_piece tail None acts rows n) loop.Nil
  acts_piece tail held (Cons (StopUnless e) acts) rows next =
      test_piece (known_truth tail.has_loop (tested held e)) (lowered_test rows (tested held e) next t) next (λ n. acts_piece tail None acts rows n) stop
  acts_piece tail held (Cons (Update k es) acts) rows next =
      update_piece (may_wait scope states k es acts) (words_piece rows t (scope + k) es next) (λ n. acts_piece tail None acts rows n)
  acts_piece tail held (Cons (When e a b) acts) rows next =
      let c = lowered_test rows e next t in
      if is_none b && never_go_on a then first_leaves c (acts_piece nowhere None a rows (behind_scratch c next)) (λ n. acts_piece tail None acts rows n)
      else if is_none a && never_go_on b then second_leaves c (acts_piece nowhere None b rows (behind_scratch c next)) (λ n. acts_piece tail None acts rows n)
      else (let d = lowered_test rows e (next + 1) t in
      let on = acts_piece (mark next) None a rows (behind_scratch d (next + 1)) in
      let off = acts_piece (mark next) None b rows on.next in
      rejoined next d on off (acts_piece tail None acts rows off.next))

-- the acts of a turn, and then a local word for each of its row
abbrev pub turn_acts : Actions → List Term → Actions
turn_acts acts item = core.join acts (let_all item Nil)
