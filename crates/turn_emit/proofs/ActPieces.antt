-- The statements of acts, by what is done with the first one, and what is asked for of the rest.
use Rattle.std.proofs.Common.{rules, ◌≡◌, ℕ, zero, suc, ◌+◌, ◌<◌, ◌≤◌, ◌^◌, Bool, true, false, ◌&&◌, List, [], ◌∷◌, length, Option, Some, None, refl, sym, ap, subst, ◌∙◌, arith}
use Rattle.std.specs.Prelude.{IsTrue, slice_get, slice_index, ◌==◌, nat_le, nat_lt, if◌then◌else◌}
use Rattle.std.proofs.lemmas.Bool.{leb-true, ltb-true}
use Rattle.strm_num.proofs.Truths.{both_true}
use Rattle.list_denotation.specs.Scopes.{is_bound, all_bound}
use Rattle.list_denotation.specs.Terms as term
use Rattle.list_denotation.specs.Terms.{Term}
use Rattle.list_denotation.specs.Typing.{is_undivided, all_undivided}
use Rattle.loop_ir.specs.Statements as loop
use Rattle.loop_ir.specs.Statements.{Block}
use Rattle.state_alloc.specs.declared.slots.Slots.{Slots}
use Rattle.expr_lower.specs.Lowering.{lowered_test}
use Rattle.stateful_core.specs.declared.core_term.Act.{Act}
use Rattle.stateful_core.specs.CoreCopies.{actions_of}
use Rattle.stateful_core.specs.CoreShapes.{actions_locals}
use Rattle.stateful_core.specs.CoreTerms.{Action, Let, KeepIf, StopUnless, Update, When, Actions, Cons}
use Rattle.stateful_core.specs.WellFormed.{is_sure, all_sure, are_sound_actions}
use Rattle.turn_blocks.specs.Pieces.{Piece, behind_scratch}
use Rattle.turn_blocks.specs.StateBlocks.{words_piece}
use Rattle.turn_blocks.specs.TurnBlocks.{tested, constant_truth, known_truth, is_none, choose_piece, let_piece, test_piece, update_piece, second_leaves}
use Rattle.turn_blocks.specs.WordUses as uses
use Rattle.turn_blocks.specs.WordUses.{LetUse, are_unread, never_go_on, may_wait, is_steady, is_test_of, copy_use, let_use}
use Rattle.row_emit.specs.declared.tails.Tail.{Tail}
use Rattle.row_emit.specs.declared.tails.Tail.TheVariants as tail
use Rattle.turn_emit.specs.declared.turns.Turn.{Turn}
use Rattle.row_emit.specs.Readiness.{FitsTail}
use Rattle.row_emit.specs.Settings.{AreSettable}
use Rattle.row_emit.specs.TurnCopies.{stop_of, tail_of, tail_width}
use Rattle.turn_emit.specs.Turns.{piece_at, test_piece_at, second_piece, pair_piece, with_tail, rejoined_at, IsReadyAt, IsReadable, FitsHeld}
use Rattle.turn_emit.proofs.Growth.{WordsGrow, piece_grows}
use Rattle.turn_emit.proofs.ReadyActs.{first_sound, first_temps}

pub width_same : (t : ℕ) (tl : Tail) → (tail_of t tl).width ≡ tail_width tl
width_same t (tail.Print width) = refl
width_same t (tail.Fold vars es width) = refl
width_same t (tail.Mark v) = refl
width_same t tail.Nowhere = refl

-- ---- new words

pub let_step : (turn : Turn) (e : Term) (acts : Actions) (rows : List ℕ) (t next w x : ℕ) (u : LetUse) → w ≡ tail_width turn.tail → x ≡ length rows → u ≡ let_use turn.place.scope turn.place.states w x e acts → piece_at turn None (Cons (Let e) acts) rows t next ≡ let_piece u e t rows next (λ h r n. piece_at turn h acts r t n)
let_step turn e acts rows t next w x u ew ex eu =
    ap (λ y. let_piece y e t rows next (λ h r n. piece_at turn h acts r t n))
    (ap (λ y. let_use turn.place.scope turn.place.states y (length rows) e acts) (width_same t turn.tail ∙ sym ew)
    ∙ ap (λ y. let_use turn.place.scope turn.place.states w y e acts) (sym ex) ∙ sym eu)

pub tested_some : (scope states w x : ℕ) (e : Term) (acts : Actions) → uses.Tested ≡ let_use scope states w x e acts → 0 < x
tested_some scope states w zero e acts is = let h : uses.Tested ≡ uses.Own = is in absurd cc
tested_some scope states w (suc x) e acts is = omega arith

pub unused_some : (scope states w x : ℕ) (e : Term) (acts : Actions) → uses.Unused ≡ let_use scope states w x e acts → 0 < x
unused_some scope states w zero e acts is = let h : uses.Unused ≡ uses.Own = is in absurd cc
unused_some scope states w (suc x) e acts is = omega arith

choice_same : (j k : ℕ) (b : Bool) → (if b then uses.Same j else uses.Own) ≡ uses.Same k → j ≡ k
choice_same j k true h = cc
choice_same j k false h = absurd cc

no_copy : (k : ℕ) → uses.Own ≡ uses.Same k → ⊥
no_copy k h = cc

copy_same : (scope states : ℕ) (e : Term) (acts : Actions) (k n : ℕ) → copy_use scope states e acts ≡ uses.Same k → IsTrue (is_bound n e) → k < n
copy_same scope states (term.Var j) acts k n h b = let e : j ≡ k = choice_same j k (is_steady scope states j acts) h in omega (arith, e, ltb-true j n b)
copy_same scope states (term.Lit c) acts k n h b = absurd (no_copy k h)
copy_same scope states (term.Truth c) acts k n h b = absurd (no_copy k h)
copy_same scope states (term.Param c) acts k n h b = absurd (no_copy k h)
copy_same scope states (term.Len c) acts k n h b = absurd (no_copy k h)
copy_same scope states (term.Neg c) acts k n h b = absurd (no_copy k h)
copy_same scope states (term.Not c) acts k n h b = absurd (no_copy k h)
copy_same scope states (term.Bin o c d) acts k n h b = absurd (no_copy k h)
copy_same scope states (term.And c d) acts k n h b = absurd (no_copy k h)
copy_same scope states (term.Or c d) acts k n h b = absurd (no_copy k h)
copy_same scope states (term.If c d f) acts k n h b = absurd (no_copy k h)

let_same : (b1 b2 b3 b4 : Bool) (u : LetUse) (k : ℕ) → (if b1 then uses.Own else (if b2 then u else (if b3 then uses.Tested else (if b4 then uses.Unused else u)))) ≡ uses.Same k → u ≡ uses.Same k
let_same true b2 b3 b4 u k h = absurd cc
let_same false true b3 b4 u k h = h
let_same false false true b4 u k h = absurd cc
let_same false false false true u k h = absurd cc
let_same false false false false u k h = h

pub same_bound : (scope states w x : ℕ) (e : Term) (acts : Actions) (k n : ℕ) → uses.Same k ≡ let_use scope states w x e acts → IsTrue (is_bound n e) → k < n
same_bound scope states w x e acts k n is b =
    copy_same scope states e acts k n
    (let_same (x == 0) (nat_lt (actions_locals acts) w) (is_test_of scope states x acts) (is_undivided e && are_unread x 1 acts) (copy_use scope states e acts) k (sym is)) b

-- ---- tests

pub keep_same : (turn : Turn) (held : Option Term) (a : Action) (e : Term) (acts : Actions) (rows : List ℕ) (t n : ℕ) (x : Term) (off : Block) → a ≡ KeepIf e → x ≡ tested held e → off ≡ loop.Nil → piece_at turn held (Cons a acts) rows t n ≡ test_piece_at turn x acts rows t n off
keep_same turn held a e acts rows t n x off ea ex eo =
    ap (λ y. piece_at turn held (Cons y acts) rows t n) ea
    ∙ sym (ap (λ y. test_piece_at turn y acts rows t n off) ex ∙ ap (λ y. test_piece_at turn (tested held e) acts rows t n y) eo)

pub stop_same : (turn : Turn) (held : Option Term) (a : Action) (e : Term) (acts : Actions) (rows : List ℕ) (t n : ℕ) (x : Term) (off : Block) → a ≡ StopUnless e → x ≡ tested held e → off ≡ stop_of turn.stop → piece_at turn held (Cons a acts) rows t n ≡ test_piece_at turn x acts rows t n off
stop_same turn held a e acts rows t n x off ea ex eo =
    ap (λ y. piece_at turn held (Cons y acts) rows t n) ea
    ∙ sym (ap (λ y. test_piece_at turn y acts rows t n off) ex ∙ ap (λ y. test_piece_at turn (tested held e) acts rows t n y) eo)

tested_readable : (n temps : ℕ) (held : Option Term) (e : Term) → FitsHeld n temps held → IsReadable n temps e → IsReadable n temps (tested held e)
tested_readable n temps None e h own = own
tested_readable n temps (Some x) e h own = h

pub keep_readable : (turn : Turn) (held : Option Term) (e : Term) (acts : Actions) (rows : List ℕ) (t temps next : ℕ) (x : Term) → IsReadyAt turn (Cons (KeepIf e) acts) rows t temps next → FitsHeld (length rows) temps held → x ≡ tested held e → IsReadable (length rows) temps x
keep_readable turn held e acts rows t temps next x r h ex =
    subst (λ y. IsReadable (length rows) temps y) (sym ex)
    (tested_readable (length rows) temps held e h
    (record { bound = (both_true (is_bound (length rows) e) (is_undivided e) (first_sound turn (KeepIf e) acts rows t temps next r)).0; temporaries = first_temps turn (KeepIf e) acts rows t temps next r }))

pub stop_readable : (turn : Turn) (held : Option Term) (e : Term) (acts : Actions) (rows : List ℕ) (t temps next : ℕ) (x : Term) → IsReadyAt turn (Cons (StopUnless e) acts) rows t temps next → FitsHeld (length rows) temps held → x ≡ tested held e → IsReadable (length rows) temps x
stop_readable turn held e acts rows t temps next x r h ex =
    subst (λ y. IsReadable (length rows) temps y) (sym ex)
    (tested_readable (length rows) temps held e h
    (record { bound = (both_true (is_bound (length rows) e) (is_undivided e) (first_sound turn (StopUnless e) acts rows t temps next r)).0; temporaries = first_temps turn (StopUnless e) acts rows t temps next r }))

-- no loop stands in what is done with a row, so that a constant is no test
known_same : (t : ℕ) (tl : Tail) (e : Term) → known_truth (tail_of t tl).has_loop e ≡ constant_truth e
known_same t (tail.Print width) e = refl
known_same t (tail.Fold vars es width) e = refl
known_same t (tail.Mark v) e = refl
known_same t tail.Nowhere e = refl

pub test_none : (turn : Turn) (e : Term) (acts : Actions) (rows : List ℕ) (t n : ℕ) (off : Block) → None ≡ constant_truth e → test_piece_at turn e acts rows t n off ≡ choose_piece (lowered_test rows e n t) (piece_at turn None acts rows t (behind_scratch (lowered_test rows e n t) n)) off
test_none turn e acts rows t n off h = ap (λ o. test_piece o (lowered_test rows e n t) n (λ m. piece_at turn None acts rows t m) off) (known_same t turn.tail e ∙ sym h)

pub test_false : (turn : Turn) (e : Term) (acts : Actions) (rows : List ℕ) (t n : ℕ) (off : Block) → Some false ≡ constant_truth e → test_piece_at turn e acts rows t n off ≡ record { block = off; next = n }
test_false turn e acts rows t n off h = ap (λ o. test_piece o (lowered_test rows e n t) n (λ m. piece_at turn None acts rows t m) off) (known_same t turn.tail e ∙ sym h)

-- ---- updates

pub update_step : (turn : Turn) (k : ℕ) (es : List Term) (acts : Actions) (rows : List ℕ) (t next : ℕ) (b waits : Bool) → waits ≡ b → waits ≡ may_wait turn.place.scope turn.place.states k es acts → piece_at turn None (Cons (Update k es) acts) rows t next ≡ update_piece b (words_piece rows t (turn.place.scope + k) es next) (λ n. piece_at turn None acts rows t n)
update_step turn k es acts rows t next b waits eb is =
    ap (λ y. update_piece y (words_piece rows t (turn.place.scope + k) es next) (λ n. piece_at turn None acts rows t n)) (sym is ∙ eb)

update_next : (b : Bool) (set : Piece) (go : ℕ → Piece) → (update_piece b set go).next ≡ (go set.next).next
update_next true set go = refl
update_next false set go = refl

-- what is behind an update has the variables behind those of its words
pub update_room : (turn : Turn) (k : ℕ) (es : List Term) (acts : Actions) (rows : List ℕ) (t next : ℕ) → (piece_at turn None (Cons (Update k es) acts) rows t next).next < 2 ^ 32 → (piece_at turn None acts rows t (words_piece rows t (turn.place.scope + k) es next).next).next < 2 ^ 32
update_room turn k es acts rows t next h =
    subst (λ n. n < 2 ^ 32)
    (update_next (may_wait turn.place.scope turn.place.states k es acts) (words_piece rows t (turn.place.scope + k) es next) (λ n. piece_at turn None acts rows t n)) h

pub update_settable : (words_grow : WordsGrow) (turn : Turn) (k : ℕ) (es : List Term) (acts : Actions) (s : Slots) → IsReadyAt turn (Cons (Update k es) acts) s.rows s.first_temp s.temps s.next → (piece_at turn None (Cons (Update k es) acts) s.rows s.first_temp s.next).next < 2 ^ 32 → AreSettable s (turn.place.scope + k) es s.next
update_settable words_grow turn k es acts s r room =
    let sound = both_true (nat_le (k + length es) turn.place.states) (all_sure (length s.rows) es) (first_sound turn (Update k es) acts s.rows s.first_temp s.temps s.next r) in
    let fits : k + length es ≤ turn.place.states = leb-true (k + length es) turn.place.states sound.0 in
    let p = words_piece s.rows s.first_temp (turn.place.scope + k) es s.next in
    record {
      words = omega (arith, fits, r.words);
      few = omega (arith, fits, r.few);
      bound = (both_true (all_bound (length s.rows) es) (all_undivided es) sound.1).0;
      temporaries = first_temps turn (Update k es) acts s.rows s.first_temp s.temps s.next r;
      free = omega arith;
      room = omega (arith, update_room turn k es acts s.rows s.first_temp s.next room, piece_grows words_grow turn None acts s.rows s.first_temp p.next);
    }

-- ---- choices of acts

module _ (turn : Turn) (e : Term) (a b acts : Actions) (rows : List ℕ) (t next : ℕ) where
  pub when_first : (is_none b && never_go_on a) ≡ true → piece_at turn None (Cons (When e a b) acts) rows t next ≡ pair_piece (with_tail turn tail.Nowhere) turn e a acts rows t next
  when_first h = rw h refl

  pub when_second : (is_none b && never_go_on a) ≡ false → (is_none a && never_go_on b) ≡ true → piece_at turn None (Cons (When e a b) acts) rows t next ≡ second_leaves (lowered_test rows e next t) (piece_at (with_tail turn tail.Nowhere) None b rows t (behind_scratch (lowered_test rows e next t) next)) (λ n. piece_at turn None acts rows t n)
  when_second h k = rw (h, k) refl

  pub when_both : (is_none b && never_go_on a) ≡ false → (is_none a && never_go_on b) ≡ false → piece_at turn None (Cons (When e a b) acts) rows t next ≡ rejoined_at turn e a b acts rows t next
  when_both h k = rw (h, k) refl

  module _ (temps : ℕ) (r : IsReadyAt turn (Cons (When e a b) acts) rows t temps next) (tl : Tail) (n : ℕ) (fits : FitsTail t temps n tl) (no_row : tail_width tl ≤ 0) where
    branches_sound : IsTrue (are_sound_actions turn.place.states (length rows) a) × IsTrue (are_sound_actions turn.place.states (length rows) b)
    branches_sound =
        both_true (are_sound_actions turn.place.states (length rows) a) (are_sound_actions turn.place.states (length rows) b)
        (both_true (is_sure (length rows) e) (are_sound_actions turn.place.states (length rows) a && are_sound_actions turn.place.states (length rows) b)
        (first_sound turn (When e a b) acts rows t temps next r)).1

    pub on_ready : IsReadyAt (with_tail turn tl) a rows t temps n
    on_ready = record {
      words = r.words;
      few = r.few;
      sound = branches_sound.0;
      temporaries = omega (arith, first_temps turn (When e a b) acts rows t temps next r);
      width = omega (arith, no_row);
      tail = fits;
      stop = r.stop;
    }

    pub off_ready : IsReadyAt (with_tail turn tl) b rows t temps n
    off_ready = record {
      words = r.words;
      few = r.few;
      sound = branches_sound.1;
      temporaries = omega (arith, first_temps turn (When e a b) acts rows t temps next r);
      width = omega (arith, no_row);
      tail = fits;
      stop = r.stop;
    }

-- variables behind a condition and its branches
pub pair_grows : (words_grow : WordsGrow) (f g : Turn) (e : Term) (a b : Actions) (rows : List ℕ) (t next : ℕ) → behind_scratch (lowered_test rows e next t) next ≤ (second_piece f a g b rows t (behind_scratch (lowered_test rows e next t) next)).next
pair_grows words_grow f g e a b rows t next =
    let n = behind_scratch (lowered_test rows e next t) next in
    omega (arith, piece_grows words_grow f None a rows t n, piece_grows words_grow g None b rows t (piece_at f None a rows t n).next)

pub none_same : (acts : List Act) → is_none (actions_of acts) ≡ (length acts == 0)
none_same [] = refl
none_same (a ∷ acts) = search rules

-- ---- the variable of a word

pub got_index : (rows : List ℕ) (k v : ℕ) → slice_get rows k ≡ Some v → slice_index rows k ≡ v
got_index [] k v h = absurd cc
got_index (x ∷ rows) zero v h = cc
got_index (x ∷ rows) (suc k) v h = got_index rows k v h
