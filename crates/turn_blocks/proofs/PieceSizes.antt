-- The variables that the statements of a turn take: none is given back, and they are few.
use Rattle.std.proofs.Common.{◌≡◌, ℕ, suc, ◌+◌, ◌<◌, ◌≤◌, Bool, true, false, ◌&&◌, ◌||◌, List, [], ◌∷◌, ◌++◌, length, refl, sym, ap, subst, inl, inr, arith}
use Rattle.std.specs.Prelude.{IsTrue, not, slice_index, if◌then◌else◌, Option, Some, None}
use Rattle.strm_num.proofs.Truths.{both_true}
use Rattle.list_denotation.specs.Leaves.{all_leaves}
use Rattle.list_denotation.specs.Terms as term
use Rattle.list_denotation.specs.Terms.{Term}
use Rattle.loop_ir.specs.Statements as loop
use Rattle.loop_ir.specs.Statements.{Var, Block, join}
use Rattle.expr_lower.specs.Costs.{is_plain}
use Rattle.expr_forms.specs.Forms.{Condition, is_empty}
use Rattle.expr_lower.specs.Lowering.{lowered_into, lowered_test}
use Rattle.expr_phrases.specs.Phrases.{set}
use Rattle.stateful_core.specs.CoreLeaves.{row_leaves}
use Rattle.stateful_core.specs.CoreTerms.{Let, Read, KeepIf, StopUnless, Update, When, Actions, Nil, Cons}
use Rattle.stateful_core.specs.MostWords.{is_other_leaf, is_written_straight, actions_words}
use Rattle.turn_blocks.specs.Pieces.{Piece, Tail, behind, last, mark, nowhere, behind_scratch}
use Rattle.turn_blocks.specs.StateBlocks.{is_word, word_block, word_needs, words_piece}
use Rattle.turn_blocks.specs.TurnBlocks.{tested, known_truth, is_none, let_piece, test_piece, update_piece, acts_piece}
use Rattle.turn_blocks.specs.WordUses.{avoids, row_avoids, never_go_on, may_wait, LetUse, Tested, Unused, Own, let_use}
use Rattle.turn_blocks.specs.WordUses.{Same as SameWord}
use Rattle.turn_blocks.proofs.LeafTests.{leaves_of_both, row_of_both}
use Rattle.turn_blocks.proofs.StateTests.{other_word, word_other}

-- ---- one of three pieces

pub picked : (b c : Bool) (x y z : Piece) (P : Piece → Type 0) → (b ≡ true → P x) → (b ≡ false → c ≡ true → P y) → (b ≡ false → c ≡ false → P z) → P (if b then x else if c then y else z)
picked true c x y z P f g h = f refl
picked false true x y z P f g h = g refl refl
picked false false x y z P f g h = h refl refl

-- a variable that may be taken
pub at_least : (d : Bool) (next : ℕ) → next ≤ (if d then next + 1 else next)
at_least true next = omega arith
at_least false next = omega arith

-- ---- words that are set

module _ (rows : List ℕ) (t : ℕ) where
  pub words_grow : (es : List Term) (k next : ℕ) → next ≤ (words_piece rows t k es next).next
  words_grow [] k next = omega arith
  words_grow (e ∷ es) k next =
      picked (is_word k e) (row_avoids k es) (words_piece rows t (k + 1) es next)
      (behind (word_block rows t k next e) (words_piece rows t (k + 1) es (if word_needs rows t k next e then next + 1 else next)))
      (record { block = join (lowered_into rows e next t) (join (words_piece rows t (k + 1) es (next + 1)).block (set (slice_index rows k) (Var next))); next = (words_piece rows t (k + 1) es (next + 1)).next })
      (λ p. next ≤ p.next)
      (λ is. words_grow es (k + 1) next)
      (λ no free.
      let one = at_least (word_needs rows t k next e) next in
      let more = words_grow es (k + 1) (if word_needs rows t k next e then next + 1 else next) in omega (arith, one, more))
      (λ no read. let more = words_grow es (k + 1) (next + 1) in omega (arith, more))

-- ---- acts

-- a tail takes no variable back
abbrev pub Grows : Tail → Type 0
Grows tail = (row : List ℕ) (n : ℕ) → n ≤ (tail.piece row n).next

pub nowhere_grows : Grows nowhere
nowhere_grows row n = omega arith

pub mark_grows : (v : ℕ) → Grows (mark v)
mark_grows v row n = omega arith

pub scratch_least : (c : Condition) (next : ℕ) → next ≤ behind_scratch c next
scratch_least c next = go (is_empty c.block)
  where
    go : (b : Bool) → next ≤ (if b then next else next + 1)
    go true = omega arith
    go false = omega arith

module _ (scope states t : ℕ) (stop : Block) where
  abbrev piece_of : Tail → Option Term → Actions → List ℕ → ℕ → Piece
  piece_of tail held acts rows next = acts_piece scope states t stop tail held acts rows next

  let_grows : (u : LetUse) (e : Term) (rows : List ℕ) (next : ℕ) (go : Option Term → List ℕ → ℕ → Piece) → ((h : Option Term) (r : List ℕ) (n : ℕ) → n ≤ (go h r n).next) → next ≤ (let_piece u e t rows next go).next
  let_grows Tested e rows next go h = h (Some e) (rows ++ slice_index rows 0 ∷ []) next
  let_grows Unused e rows next go h = h None (rows ++ slice_index rows 0 ∷ []) next
  let_grows (SameWord k) e rows next go h = h None (rows ++ slice_index rows k ∷ []) next
  let_grows Own e rows next go h = let more = h None (rows ++ next ∷ []) (next + 1) in omega (arith, more)

  test_grows : (o : Option Bool) (c : Condition) (next : ℕ) (go : ℕ → Piece) (off : Block) → ((n : ℕ) → n ≤ (go n).next) → next ≤ (test_piece o c next go off).next
  test_grows (Some true) c next go off h = h next
  test_grows (Some false) c next go off h = omega arith
  test_grows None c next go off h = let one = scratch_least c next in let more = h (behind_scratch c next) in omega (arith, one, more)

  update_grows : (b : Bool) (set : Piece) (next : ℕ) (go : ℕ → Piece) → next ≤ set.next → ((n : ℕ) → n ≤ (go n).next) → next ≤ (update_piece b set go).next
  update_grows true set next go le h = let more = h set.next in omega (arith, le, more)
  update_grows false set next go le h = let more = h set.next in omega (arith, le, more)

  pub acts_grow : (tail : Tail) (held : Option Term) (acts : Actions) (rows : List ℕ) (next : ℕ) → Grows tail → next ≤ (acts_piece scope states t stop tail held acts rows next).next
  acts_grow tail held Nil rows next h = h _ next
  acts_grow tail held (Cons (Let e) acts) rows next h =
      let_grows (let_use scope states tail.width (length rows) e acts) e rows next (λ k r n. piece_of tail k acts r n) (λ k r n. acts_grow tail k acts r n h)
  acts_grow tail held (Cons (Read a e) acts) rows next h = let more = acts_grow tail None acts (rows ++ next ∷ []) (next + 1) h in omega (arith, more)
  acts_grow tail held (Cons (KeepIf e) acts) rows next h =
      test_grows (known_truth tail.has_loop (tested held e)) (lowered_test rows (tested held e) next t) next (λ n. piece_of tail None acts rows n) loop.Nil (λ n. acts_grow tail None acts rows n h)
  acts_grow tail held (Cons (StopUnless e) acts) rows next h =
      test_grows (known_truth tail.has_loop (tested held e)) (lowered_test rows (tested held e) next t) next (λ n. piece_of tail None acts rows n) stop (λ n. acts_grow tail None acts rows n h)
  acts_grow tail held (Cons (Update k es) acts) rows next h =
      update_grows (may_wait scope states k es acts) (words_piece rows t (scope + k) es next) next (λ n. piece_of tail None acts rows n)
      (words_grow rows t es (scope + k) next) (λ n. acts_grow tail None acts rows n h)
  acts_grow tail held (Cons (When e a b) acts) rows next h =
      let first = scratch_least (lowered_test rows e next t) next in
      let on_first = acts_grow nowhere None a rows (behind_scratch (lowered_test rows e next t) next) nowhere_grows in
      let rest_first = acts_grow tail None acts rows (piece_of nowhere None a rows (behind_scratch (lowered_test rows e next t) next)).next h in
      let off_second = acts_grow nowhere None b rows (behind_scratch (lowered_test rows e next t) next) nowhere_grows in
      let rest_second = acts_grow tail None acts rows (piece_of nowhere None b rows (behind_scratch (lowered_test rows e next t) next)).next h in
      let flag = scratch_least (lowered_test rows e (next + 1) t) (next + 1) in
      let on = acts_grow (mark next) None a rows (behind_scratch (lowered_test rows e (next + 1) t) (next + 1)) (mark_grows next) in
      let off = acts_grow (mark next) None b rows (piece_of (mark next) None a rows (behind_scratch (lowered_test rows e (next + 1) t) (next + 1))).next (mark_grows next) in
      let rest = acts_grow tail None acts rows (piece_of (mark next) None b rows (piece_of (mark next) None a rows (behind_scratch (lowered_test rows e (next + 1) t) (next + 1))).next).next h in
      picked (is_none b && never_go_on a) (is_none a && never_go_on b) _ _ _ (λ p. next ≤ p.next)
      (λ is. omega (arith, first, on_first, rest_first)) (λ no is. omega (arith, first, off_second, rest_second)) (λ no other. omega (arith, flag, on, off, rest))

-- ---- few variables

leaf_needs_none : (b c d : Bool) → IsTrue d → not (b || (c || d)) ≡ false
leaf_needs_none true c d h = refl
leaf_needs_none false true d h = refl
leaf_needs_none false false d h = ap not h

-- an expression that doesn't read the word needs no variable
needs_none : (rows : List ℕ) (t k s : ℕ) (e : Term) → IsTrue (avoids k e) → word_needs rows t k s e ≡ false
needs_none rows t k s (term.If c a b) h = rw h (leaf_needs_none (is_word k (term.If c a b)) (is_plain (term.If c a b)) true refl)
needs_none rows t k s e h = leaf_needs_none (is_word k e) (is_plain e) (avoids k e) h

at_most : (d : Bool) (next : ℕ) → (if d then next + 1 else next) ≤ next + 1
at_most true next = omega arith
at_most false next = omega arith

module _ (rows : List ℕ) (t : ℕ) where
  pub words_few : (es : List Term) (k next : ℕ) → (words_piece rows t k es next).next ≤ next + length es
  words_few [] k next = omega arith
  words_few (e ∷ es) k next =
      picked (is_word k e) (row_avoids k es) (words_piece rows t (k + 1) es next)
      (behind (word_block rows t k next e) (words_piece rows t (k + 1) es (if word_needs rows t k next e then next + 1 else next)))
      (record { block = join (lowered_into rows e next t) (join (words_piece rows t (k + 1) es (next + 1)).block (set (slice_index rows k) (Var next))); next = (words_piece rows t (k + 1) es (next + 1)).next })
      (λ p. p.next ≤ next + suc (length es))
      (λ is. let more = words_few es (k + 1) next in omega (arith, more))
      (λ no free.
      let one = at_most (word_needs rows t k next e) next in
      let more = words_few es (k + 1) (if word_needs rows t k next e then next + 1 else next) in omega (arith, one, more))
      (λ no read. let more = words_few es (k + 1) (next + 1) in omega (arith, more))

  -- where no expression reads a word that is set, none is needed
  module _ (first count : ℕ) where
    other_one : (k : ℕ) → first ≤ k → k < first + count → (x : Term) → IsTrue (is_other_leaf first count x) → IsTrue (is_other_leaf first count x) → IsTrue (is_other_leaf k 1 x)
    other_one k low high (term.Var m) h again = word_other k 1 m (elim (other_word first count m h) [ inl before ↦ inl (omega (arith, before, low)) | inr after ↦ inr (omega (arith, after, high)) ])
    other_one k low high _ h again = refl

    pub words_straight : (es : List Term) (k next : ℕ) → first ≤ k → k + length es ≤ first + count → IsTrue (row_leaves (is_other_leaf first count) es) → (words_piece rows t k es next).next ≤ next
    words_straight [] k next low high h = omega arith
    words_straight (e ∷ es) k next low high h =
        let p = both_true (all_leaves (is_other_leaf first count) e) (row_leaves (is_other_leaf first count) es) h in
        picked (is_word k e) (row_avoids k es) (words_piece rows t (k + 1) es next)
        (behind (word_block rows t k next e) (words_piece rows t (k + 1) es (if word_needs rows t k next e then next + 1 else next)))
        (record { block = join (lowered_into rows e next t) (join (words_piece rows t (k + 1) es (next + 1)).block (set (slice_index rows k) (Var next))); next = (words_piece rows t (k + 1) es (next + 1)).next })
        (λ p. p.next ≤ next)
        (λ is. words_straight es (k + 1) next (omega (arith, low)) (omega (arith, high)) p.1)
        (λ no free. subst (λ d. (words_piece rows t (k + 1) es (if d then next + 1 else next)).next ≤ next)
        (sym (needs_none rows t k next e (leaves_of_both (is_other_leaf first count) (is_other_leaf first count) (is_other_leaf k 1) (other_one k low (omega (arith, high))) e p.0 p.0)))
        (words_straight es (k + 1) next (omega (arith, low)) (omega (arith, high)) p.1))
        (λ no read. let free = row_of_both (is_other_leaf first count) (is_other_leaf first count) (is_other_leaf k 1) (other_one k low (omega (arith, high))) es p.1 p.1 in absurd cc)

pub scratch_most : (c : Condition) (next : ℕ) → behind_scratch c next ≤ next + 1
scratch_most c next = go (is_empty c.block)
  where
    go : (b : Bool) → (if b then next else next + 1) ≤ next + 1
    go true = omega arith
    go false = omega arith

-- a tail takes at most so many variables
abbrev pub IsShort : ℕ → Tail → Type 0
IsShort most tail = (row : List ℕ) (n : ℕ) → (tail.piece row n).next ≤ n + most

module _ (scope states t : ℕ) (stop : Block) where
  let_few : (u : LetUse) (e : Term) (rows : List ℕ) (next most : ℕ) (go : Option Term → List ℕ → ℕ → Piece) → ((h : Option Term) (r : List ℕ) (n : ℕ) → (go h r n).next ≤ n + most) → (let_piece u e t rows next go).next ≤ next + 1 + most
  let_few Tested e rows next most go h = let more = h (Some e) (rows ++ slice_index rows 0 ∷ []) next in omega (arith, more)
  let_few Unused e rows next most go h = let more = h None (rows ++ slice_index rows 0 ∷ []) next in omega (arith, more)
  let_few (SameWord k) e rows next most go h = let more = h None (rows ++ slice_index rows k ∷ []) next in omega (arith, more)
  let_few Own e rows next most go h = let more = h None (rows ++ next ∷ []) (next + 1) in omega (arith, more)

  test_few : (o : Option Bool) (c : Condition) (next most : ℕ) (go : ℕ → Piece) (off : Block) → ((n : ℕ) → (go n).next ≤ n + most) → (test_piece o c next go off).next ≤ next + 1 + most
  test_few (Some true) c next most go off h = let more = h next in omega (arith, more)
  test_few (Some false) c next most go off h = omega arith
  test_few None c next most go off h = let one = scratch_most c next in let more = h (behind_scratch c next) in omega (arith, one, more)

  update_few : (b : Bool) (set : Piece) (next n most : ℕ) (go : ℕ → Piece) → set.next ≤ next + n → ((m : ℕ) → (go m).next ≤ m + most) → (update_piece b set go).next ≤ next + n + most
  update_few true set next n most go le h = let more = h set.next in omega (arith, le, more)
  update_few false set next n most go le h = let more = h set.next in omega (arith, le, more)

  words_of_update : (b : Bool) (rows : List ℕ) (k : ℕ) (es : List Term) (next : ℕ) → is_written_straight (scope + k) es ≡ b → (words_piece rows t (scope + k) es next).next ≤ next + (if b then 0 else length es)
  words_of_update true rows k es next is = let none = words_straight rows t (scope + k) (length es) es (scope + k) next (omega arith) (omega arith) is in omega (arith, none)
  words_of_update false rows k es next is = words_few rows t es (scope + k) next

  pub acts_few : (tail : Tail) (held : Option Term) (acts : Actions) (rows : List ℕ) (next most : ℕ) → IsShort most tail → (acts_piece scope states t stop tail held acts rows next).next ≤ next + (actions_words scope acts + most)
  acts_few tail held Nil rows next most h = let more = h (last tail.width rows) next in omega (arith, more)
  acts_few tail held (Cons (Let e) acts) rows next most h =
      let more = let_few (let_use scope states tail.width (length rows) e acts) e rows next (actions_words scope acts + most) (λ k r n. piece_of scope states t stop tail k acts r n) (λ k r n. acts_few tail k acts r n most h) in omega (arith, more)
  acts_few tail held (Cons (Read a e) acts) rows next most h = let more = acts_few tail None acts (rows ++ next ∷ []) (next + 1) most h in omega (arith, more)
  acts_few tail held (Cons (KeepIf e) acts) rows next most h =
      let more = test_few (known_truth tail.has_loop (tested held e)) (lowered_test rows (tested held e) next t) next (actions_words scope acts + most) (λ n. piece_of scope states t stop tail None acts rows n) loop.Nil (λ n. acts_few tail None acts rows n most h) in omega (arith, more)
  acts_few tail held (Cons (StopUnless e) acts) rows next most h =
      let more = test_few (known_truth tail.has_loop (tested held e)) (lowered_test rows (tested held e) next t) next (actions_words scope acts + most) (λ n. piece_of scope states t stop tail None acts rows n) stop (λ n. acts_few tail None acts rows n most h) in omega (arith, more)
  acts_few tail held (Cons (Update k es) acts) rows next most h =
      let set = words_of_update (is_written_straight (scope + k) es) rows k es next refl in
      let more = update_few (may_wait scope states k es acts) (words_piece rows t (scope + k) es next) next (if is_written_straight (scope + k) es then 0 else length es) (actions_words scope acts + most) (λ n. piece_of scope states t stop tail None acts rows n) set
      (λ n. acts_few tail None acts rows n most h) in omega (arith, more)
  acts_few tail held (Cons (When e a b) acts) rows next most h =
      let first = scratch_most (lowered_test rows e next t) next in
      let on_first = acts_few nowhere None a rows (behind_scratch (lowered_test rows e next t) next) 0 (λ row n. omega arith) in
      let rest_first = acts_few tail None acts rows (piece_of scope states t stop nowhere None a rows (behind_scratch (lowered_test rows e next t) next)).next most h in
      let off_second = acts_few nowhere None b rows (behind_scratch (lowered_test rows e next t) next) 0 (λ row n. omega arith) in
      let rest_second = acts_few tail None acts rows (piece_of scope states t stop nowhere None b rows (behind_scratch (lowered_test rows e next t) next)).next most h in
      let flag = scratch_most (lowered_test rows e (next + 1) t) (next + 1) in
      let on = acts_few (mark next) None a rows (behind_scratch (lowered_test rows e (next + 1) t) (next + 1)) 0 (λ row n. omega arith) in
      let off = acts_few (mark next) None b rows (piece_of scope states t stop (mark next) None a rows (behind_scratch (lowered_test rows e (next + 1) t) (next + 1))).next 0 (λ row n. omega arith) in
      let rest = acts_few tail None acts rows (piece_of scope states t stop (mark next) None b rows (piece_of scope states t stop (mark next) None a rows (behind_scratch (lowered_test rows e (next + 1) t) (next + 1))).next).next most h in
      picked (is_none b && never_go_on a) (is_none a && never_go_on b) _ _ _ (λ p. p.next ≤ next + (actions_words scope (Cons (When e a b) acts) + most))
      (λ is. omega (arith, first, on_first, rest_first)) (λ no is. omega (arith, first, off_second, rest_second)) (λ no other. omega (arith, flag, on, off, rest))
