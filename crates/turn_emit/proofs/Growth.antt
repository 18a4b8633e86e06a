-- The first free variable doesn't fall.
use Rattle.std.proofs.Common.{ℕ, ◌+◌, ◌≤◌, Bool, true, false, ◌&&◌, List, [], ◌∷◌, ◌++◌, length, Option, Some, None, arith}
use Rattle.std.specs.Prelude.{slice_index, if◌then◌else◌}
use Rattle.list_denotation.specs.Copies.{terms_of}
use Rattle.list_denotation.specs.Terms.{Term}
use Rattle.loop_ir.specs.Statements as loop
use Rattle.loop_ir.specs.Statements.{Block}
use Rattle.expr_forms.specs.Forms.{Condition, is_empty}
use Rattle.expr_lower.specs.Lowering.{lowered_test}
use Rattle.stateful_core.specs.CoreTerms.{Let, Read, KeepIf, StopUnless, Update, When, Actions, Nil, Cons}
use Rattle.turn_blocks.specs.Pieces.{Piece, Tail, last, mark, nowhere, behind_scratch}
use Rattle.turn_blocks.specs.StateBlocks.{words_piece}
use Rattle.turn_blocks.specs.TurnBlocks.{tested, known_truth, is_none, let_piece, test_piece, update_piece, acts_piece}
use Rattle.turn_blocks.specs.WordUses as uses
use Rattle.turn_blocks.specs.WordUses.{LetUse, let_use, may_wait, never_go_on}
use Rattle.row_emit.specs.declared.tails.Tail as code
use Rattle.row_emit.specs.declared.tails.Tail.TheVariants as tails
use Rattle.turn_emit.specs.declared.turns.Turn.{Turn}
use Rattle.row_emit.specs.TurnCopies.{stop_of, tail_of}
use Rattle.turn_emit.specs.Turns.{piece_at}

-- that words which are set take variables from the first free one on
abbrev pub WordsGrow : Type 0
WordsGrow = (rows : List ℕ) (t k : ℕ) (es : List Term) (next : ℕ) → next ≤ (words_piece rows t k es next).next

free_grows : (b : Bool) (next : ℕ) → next ≤ (if b then next else next + 1)
free_grows true next = omega arith
free_grows false next = omega arith

pub scratch_grows : (c : Condition) (next : ℕ) → next ≤ behind_scratch c next
scratch_grows c next = free_grows (is_empty c.block) next

either_grows : (b : Bool) (p q : Piece) (next : ℕ) → next ≤ p.next → next ≤ q.next → next ≤ (if b then p else q).next
either_grows true p q next x y = x
either_grows false p q next x y = y

let_grows : (u : LetUse) (e : Term) (t : ℕ) (rows : List ℕ) (next : ℕ) (go : Option Term → List ℕ → ℕ → Piece) → ((h : Option Term) (r : List ℕ) (n : ℕ) → n ≤ (go h r n).next) → next ≤ (let_piece u e t rows next go).next
let_grows uses.Tested e t rows next go grow = grow (Some e) (rows ++ slice_index rows 0 ∷ []) next
let_grows uses.Unused e t rows next go grow = grow None (rows ++ slice_index rows 0 ∷ []) next
let_grows (uses.Same k) e t rows next go grow = grow None (rows ++ slice_index rows k ∷ []) next
let_grows uses.Own e t rows next go grow = omega (arith, grow None (rows ++ next ∷ []) (next + 1))

test_grows : (o : Option Bool) (c : Condition) (next : ℕ) (go : ℕ → Piece) (off : Block) → ((n : ℕ) → n ≤ (go n).next) → next ≤ (test_piece o c next go off).next
test_grows (Some true) c next go off grow = grow next
test_grows (Some false) c next go off grow = omega arith
test_grows None c next go off grow = omega (arith, scratch_grows c next, grow (behind_scratch c next))

update_grows : (b : Bool) (set : Piece) (next : ℕ) (go : ℕ → Piece) → next ≤ set.next → ((n : ℕ) → n ≤ (go n).next) → next ≤ (update_piece b set go).next
update_grows true set next go first grow = omega (arith, first, grow set.next)
update_grows false set next go first grow = omega (arith, first, grow set.next)

abbrev pub Grows : Tail → Type 0
Grows tail = (rows : List ℕ) (next : ℕ) → next ≤ (tail.piece rows next).next

nowhere_grows : Grows nowhere
nowhere_grows rows next = omega arith

mark_grows : (v : ℕ) → Grows (mark v)
mark_grows v rows next = omega arith

module _ (words_grow : WordsGrow) (scope states t : ℕ) (stop : Block) where
  pub acts_grow : (tail : Tail) → Grows tail → (held : Option Term) (acts : Actions) (rows : List ℕ) (next : ℕ) → next ≤ (acts_piece scope states t stop tail held acts rows next).next
  acts_grow tail grows held Nil rows next = grows (last tail.width rows) next
  acts_grow tail grows held (Cons (Let e) acts) rows next =
      let_grows (let_use scope states tail.width (length rows) e acts) e t rows next (λ h r n. acts_piece scope states t stop tail h acts r n)
      (λ h r n. acts_grow tail grows h acts r n)
  acts_grow tail grows held (Cons (Read a e) acts) rows next = omega (arith, acts_grow tail grows None acts (rows ++ next ∷ []) (next + 1))
  acts_grow tail grows held (Cons (KeepIf e) acts) rows next =
      test_grows (known_truth tail.has_loop (tested held e)) (lowered_test rows (tested held e) next t) next (λ n. acts_piece scope states t stop tail None acts rows n) loop.Nil
      (λ n. acts_grow tail grows None acts rows n)
  acts_grow tail grows held (Cons (StopUnless e) acts) rows next =
      test_grows (known_truth tail.has_loop (tested held e)) (lowered_test rows (tested held e) next t) next (λ n. acts_piece scope states t stop tail None acts rows n) stop
      (λ n. acts_grow tail grows None acts rows n)
  acts_grow tail grows held (Cons (Update k es) acts) rows next =
      update_grows (may_wait scope states k es acts) (words_piece rows t (scope + k) es next) next (λ n. acts_piece scope states t stop tail None acts rows n)
      (words_grow rows t (scope + k) es next) (λ n. acts_grow tail grows None acts rows n)
  acts_grow tail grows held (Cons (When e a b) acts) rows next =
      let c = lowered_test rows e next t in
      let d = lowered_test rows e (next + 1) t in
      let on = acts_piece scope states t stop (mark next) None a rows (behind_scratch d (next + 1)) in
      let off = acts_piece scope states t stop (mark next) None b rows on.next in
      let first = acts_piece scope states t stop nowhere None a rows (behind_scratch c next) in
      let second = acts_piece scope states t stop nowhere None b rows (behind_scratch c next) in
      either_grows (is_none b && never_go_on a) _ _ next
      (omega (arith, scratch_grows c next, acts_grow nowhere nowhere_grows None a rows (behind_scratch c next), acts_grow tail grows None acts rows first.next))
      (either_grows (is_none a && never_go_on b) _ _ next
      (omega (arith, scratch_grows c next, acts_grow nowhere nowhere_grows None b rows (behind_scratch c next), acts_grow tail grows None acts rows second.next))
      (omega (arith, scratch_grows d (next + 1), acts_grow (mark next) (mark_grows next) None a rows (behind_scratch d (next + 1)), acts_grow (mark next) (mark_grows next) None b rows on.next, acts_grow tail grows None acts rows off.next)))

pub tail_grows : (words_grow : WordsGrow) (t : ℕ) (tail : code.Tail) → Grows (tail_of t tail)
tail_grows words_grow t (tails.Print width) rows next = omega arith
tail_grows words_grow t (tails.Fold vars es width) rows next = words_grow (vars.now ++ rows) t 0 (terms_of es.now) next
tail_grows words_grow t (tails.Mark v) rows next = omega arith
tail_grows words_grow t tails.Nowhere rows next = omega arith

pub piece_grows : (words_grow : WordsGrow) (turn : Turn) (held : Option Term) (acts : Actions) (rows : List ℕ) (t next : ℕ) → next ≤ (piece_at turn held acts rows t next).next
piece_grows words_grow turn held acts rows t next =
    acts_grow words_grow turn.place.scope turn.place.states t (stop_of turn.stop) (tail_of t turn.tail) (tail_grows words_grow t turn.tail) held acts rows next
