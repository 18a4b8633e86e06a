-- Pieces that the code appends one after another.
use Rattle.std.proofs.Common.{◌≡◌, ℕ, ◌+◌, ◌-◌, ◌<◌, ◌^◌, List, [], ◌∷◌, ◌++◌, length, take, None, refl, sym, ap, subst, ◌∙◌, arith}
use Rattle.std.proofs.Math.Seq.{take-append_seam}
use Rattle.std.proofs.lemmas.List.{length_push}
use Rattle.list_denotation.specs.Terms.{Term}
use Rattle.loop_ir.specs.declared.syntax.Stmt.{Stmt}
use Rattle.loop_ir.specs.declared.syntax.Stmt.TheVariants as stmt
use Rattle.loop_ir.specs.declared.syntax.T.{T}
use Rattle.loop_ir.specs.declared.syntax.W.{W}
use Rattle.loop_ir.specs.declared.syntax.W.TheVariants as w
use Rattle.loop_ir.specs.Statements.{Const, Var, Same, Not, Set, Read, If, Block, Nil, Cons, join}
use Rattle.loop_ir.specs.StatementCopies.{operand_of, test_of, block_of}
use Rattle.loop_ir.proofs.Copies.{join_join, block_append, set_push, read_push, if_push}
use Rattle.state_alloc.specs.declared.slots.Slots.{Slots}
use Rattle.expr_forms.specs.Forms.{Condition, operand_block, operand_in}
use Rattle.expr_lower.specs.Lowering.{lowered_term, lowered_test}
use Rattle.expr_phrases.specs.PhraseCopies.{Appends}
use Rattle.stateful_core.specs.CoreTerms.{Actions}
use Rattle.turn_blocks.specs.Pieces.{Piece, behind, behind_scratch, choose}
use Rattle.turn_blocks.specs.TurnBlocks.{read_block, choose_piece}
use Rattle.row_emit.specs.declared.tails.Tail.TheVariants as tail
use Rattle.turn_emit.specs.declared.turns.Turn.{Turn}
use Rattle.state_alloc.specs.Frames.{Takes}
use Rattle.row_emit.specs.Placed.{Puts, condition_piece}
use Rattle.turn_emit.specs.Turns.{piece_at, second_piece, pair_piece, with_tail, rejoined_at}
use Rattle.turn_emit.proofs.ReadyActs.{piece_after}

-- ---- the same piece

pub room_of : (p q : Piece) → p ≡ q → p.next < 2 ^ 32 → q.next < 2 ^ 32
room_of p q e h = subst (λ x. x.next < 2 ^ 32) e h

pub puts_of : (s s' : Slots) (old new : List Stmt) (p q : Piece) → q ≡ p → Puts s s' old new p → Puts s s' old new q
puts_of s s' old new p q e h = subst (λ x. Puts s s' old new x) (sym e) h

pub takes_of : (s s' : Slots) (n m : ℕ) → n ≡ m → Takes s s' n → Takes s s' m
takes_of s s' n m e h = subst (λ x. Takes s s' x) e h

-- ---- one after another

appends_more : (old mid new : List Stmt) (a b : Block) → Appends old mid a → Appends mid new b → Appends old new (join a b)
appends_more old mid new a b first more = more ∙ ap (λ x. join x b) first ∙ join_join (block_of old) a b

pub takes_then : (s s1 s2 : Slots) (n m : ℕ) → Takes s s1 n → Takes s1 s2 m → Takes s s2 m
takes_then s s1 s2 n m a b = record { next = b.next; rows = b.rows ∙ a.rows; first_temp = b.first_temp ∙ a.first_temp; temps = b.temps ∙ a.temps }

pub puts_behind : (s s' : Slots) (old mid new : List Stmt) (b : Block) (p : Piece) → Appends old mid b → Puts s s' mid new p → Puts s s' old new (behind b p)
puts_behind s s' old mid new b p first more = record { block = appends_more old mid new b p.block first more.block; slots = more.slots }

pub puts_then : (s s1 s2 : Slots) (old mid new : List Stmt) (p q q' : Piece) → Puts s s1 old mid p → Puts s1 s2 mid new q' → q' ≡ q → Puts s s2 old new (behind p.block q)
puts_then s s1 s2 old mid new p q q' first more same = record {
  block = appends_more old mid new p.block q.block first.block (more.block ∙ ap (λ x. join (block_of mid) x.block) same);
  slots = takes_of s s2 q'.next q.next (ap (λ x. x.next) same) (takes_then s s1 s2 p.next q'.next first.slots more.slots);
}

-- all that was appended to no statements
pub fresh : (none new : List Stmt) (b : Block) → none ≡ [] → Appends none new b → block_of new ≡ b
fresh none new b e h = h ∙ ap (λ l. join (block_of l) b) e

-- a piece behind another one, whose variables are before those of that one
pub puts_late : (s s1 s2 : Slots) (old mid new none late : List Stmt) (p q q' : Piece) → none ≡ [] → Puts s s1 none late p → Puts s1 s2 old mid q' → q' ≡ q → new ≡ mid ++ late → Puts s s2 old new (record { block = join q.block p.block; next = q.next })
puts_late s s1 s2 old mid new none late p q q' e first more same is = record {
  block =
      ap block_of is ∙ block_append mid late ∙ ap (λ x. join x (block_of late)) more.block ∙ join_join (block_of old) q'.block (block_of late)
      ∙ ap (λ x. join (block_of old) (join q'.block x)) (fresh none late p.block e first.block)
      ∙ ap (λ x. join (block_of old) (join x.block p.block)) same;
  slots = takes_of s s2 q'.next q.next (ap (λ x. x.next) same) (takes_then s s1 s2 p.next q'.next first.slots more.slots);
}

-- ---- a local word that is given up

front : (rows : List ℕ) (x : ℕ) → take (length (rows ++ x ∷ []) - 1) (rows ++ x ∷ []) ≡ rows
front rows x =
    ap (λ n. take n (rows ++ x ∷ [])) (let e : length (rows ++ x ∷ []) - 1 ≡ length rows = omega (arith, length_push rows x) in e)
    ∙ take-append_seam rows (x ∷ [])

pub puts_unbound : (s s1 s2 s3 : Slots) (old new : List Stmt) (x : ℕ) (p q : Piece) → s1.rows ≡ s.rows ++ x ∷ [] → s1.first_temp ≡ s.first_temp → s1.temps ≡ s.temps → Puts s1 s2 old new q → q ≡ p → s3.rows ≡ take (length s2.rows - 1) s2.rows → s3.first_temp ≡ s2.first_temp → s3.temps ≡ s2.temps → s3.next ≡ s2.next → Puts s s3 old new p
puts_unbound s s1 s2 s3 old new x p q er et em h same fr ft fm fn = record {
  block = h.block ∙ ap (λ y. join (block_of old) y.block) same;
  slots = record {
    next = fn ∙ h.slots.next ∙ ap (λ y. y.next) same;
    rows = fr ∙ ap (λ l. take (length l - 1) l) (h.slots.rows ∙ er) ∙ front s.rows x;
    first_temp = ft ∙ h.slots.first_temp ∙ et;
    temps = fm ∙ h.slots.temps ∙ em;
  };
}

-- ---- single acts

pub read_appends : (rows : List ℕ) (t next a : ℕ) (e : Term) (old mid new : List Stmt) (x : W) → Appends old mid (operand_block (lowered_term rows e next t) next) → operand_of x ≡ operand_in (lowered_term rows e next t).form next → new ≡ mid ++ stmt.Read next a x ∷ [] → Appends old new (read_block a (lowered_term rows e next t) next)
read_appends rows t next a e old mid new x first same is =
    appends_more old mid new (operand_block (lowered_term rows e next t) next) (Cons (Read next a (operand_in (lowered_term rows e next t).form next)) Nil) first
    (ap block_of is ∙ read_push mid next a x ∙ ap (λ y. join (block_of mid) (Cons (Read next a y) Nil)) same)

pub if_appends : (old mid new on off : List Stmt) (x : T) (c : Condition) (a b : Block) → Appends old mid c.block → test_of x ≡ c.test → block_of on ≡ a → block_of off ≡ b → new ≡ mid ++ stmt.If x on off ∷ [] → Appends old new (choose c a b)
if_appends old mid new on off x c a b first et ea eb is =
    appends_more old mid new c.block (Cons (If c.test a b) Nil) first
    (ap block_of is ∙ if_push mid x on off
    ∙ ap (λ y. join (block_of mid) (Cons (If y (block_of on) (block_of off)) Nil)) et
    ∙ ap (λ y. join (block_of mid) (Cons (If c.test y (block_of off)) Nil)) ea
    ∙ ap (λ y. join (block_of mid) (Cons (If c.test a y) Nil)) eb)

module _ (s s1 s2 : Slots) (old mid new on off : List Stmt) (x : T) (e : Term) (first : Puts s s1 old mid (condition_piece (lowered_test s.rows e s.next s.first_temp) s.next)) (et : test_of x ≡ (lowered_test s.rows e s.next s.first_temp).test) (is : new ≡ mid ++ stmt.If x on off ∷ []) where
  pub puts_test : (none : List Stmt) (turn : Turn) (acts : Actions) → none ≡ [] → Puts s1 s2 none on (piece_at turn None acts s1.rows s1.first_temp s1.next) → Puts s s2 old new (choose_piece (lowered_test s.rows e s.next s.first_temp) (piece_at turn None acts s.rows s.first_temp (behind_scratch (lowered_test s.rows e s.next s.first_temp) s.next)) (block_of off))
  puts_test none turn acts en inside =
      let c = lowered_test s.rows e s.next s.first_temp in
      let same = piece_after turn acts s s1 (behind_scratch c s.next) first.slots in
      record {
        block = if_appends old mid new on off x c _ (block_of off) first.block et (fresh none on _ en inside.block ∙ ap (λ p. p.block) same) refl is;
        slots = takes_of s s2 _ _ (ap (λ p. p.next) same) (takes_then s s1 s2 _ _ first.slots inside.slots);
      }

  -- the acts of both branches, those of the second one behind
  module _ (f g : Turn) (a b : Actions) where
    pair_first : piece_at f None a s1.rows s1.first_temp s1.next ≡ piece_at f None a s.rows s.first_temp (behind_scratch (lowered_test s.rows e s.next s.first_temp) s.next)
    pair_first = piece_after f a s s1 (behind_scratch (lowered_test s.rows e s.next s.first_temp) s.next) first.slots

    pair_second : second_piece f a g b s1.rows s1.first_temp s1.next ≡ second_piece f a g b s.rows s.first_temp (behind_scratch (lowered_test s.rows e s.next s.first_temp) s.next)
    pair_second =
        ap (λ n. piece_at g None b s1.rows s1.first_temp n) (ap (λ p. p.next) pair_first)
        ∙ ap (λ r. piece_at g None b r s1.first_temp (piece_at f None a s.rows s.first_temp (behind_scratch (lowered_test s.rows e s.next s.first_temp) s.next)).next) first.slots.rows
        ∙ ap (λ t. piece_at g None b s.rows t (piece_at f None a s.rows s.first_temp (behind_scratch (lowered_test s.rows e s.next s.first_temp) s.next)).next) first.slots.first_temp

    pair_takes : Takes s1 s2 (second_piece f a g b s1.rows s1.first_temp s1.next).next → Takes s s2 (second_piece f a g b s.rows s.first_temp (behind_scratch (lowered_test s.rows e s.next s.first_temp) s.next)).next
    pair_takes takes = takes_of s s2 _ _ (ap (λ p. p.next) pair_second) (takes_then s s1 s2 _ _ first.slots takes)

    -- the first acts stand in the branch that goes on
    pub puts_on : block_of on ≡ (piece_at f None a s1.rows s1.first_temp s1.next).block → block_of off ≡ (second_piece f a g b s1.rows s1.first_temp s1.next).block → Takes s1 s2 (second_piece f a g b s1.rows s1.first_temp s1.next).next → Puts s s2 old new (pair_piece f g e a b s.rows s.first_temp s.next)
    puts_on ea eb takes = record {
      block =
          if_appends old mid new on off x (lowered_test s.rows e s.next s.first_temp) _ _ first.block et (ea ∙ ap (λ p. p.block) pair_first)
          (eb ∙ ap (λ p. p.block) pair_second) is;
      slots = pair_takes takes;
    }

    -- the first acts stand in the other branch
    pub puts_off : block_of off ≡ (piece_at f None a s1.rows s1.first_temp s1.next).block → block_of on ≡ (second_piece f a g b s1.rows s1.first_temp s1.next).block → Takes s1 s2 (second_piece f a g b s1.rows s1.first_temp s1.next).next → Puts s s2 old new (record {
      block = choose (lowered_test s.rows e s.next s.first_temp)
          (second_piece f a g b s.rows s.first_temp (behind_scratch (lowered_test s.rows e s.next s.first_temp) s.next)).block
          (piece_at f None a s.rows s.first_temp (behind_scratch (lowered_test s.rows e s.next s.first_temp) s.next)).block;
      next = (second_piece f a g b s.rows s.first_temp (behind_scratch (lowered_test s.rows e s.next s.first_temp) s.next)).next;
    })
    puts_off ea eb takes = record {
      block =
          if_appends old mid new on off x (lowered_test s.rows e s.next s.first_temp) _ _ first.block et (eb ∙ ap (λ p. p.block) pair_second)
          (ea ∙ ap (λ p. p.block) pair_first) is;
      slots = pair_takes takes;
    }

-- ---- both branches may lead on

pub pair_same : (f g : Turn) (e : Term) (a b : Actions) (s s' : Slots) (free : ℕ) → Takes s s' free → pair_piece f g e a b s'.rows s'.first_temp s'.next ≡ pair_piece f g e a b s.rows s.first_temp free
pair_same f g e a b s s' free takes =
    ap (λ r. pair_piece f g e a b r s'.first_temp s'.next) takes.rows ∙ ap (λ t. pair_piece f g e a b s.rows t s'.next) takes.first_temp
    ∙ ap (λ n. pair_piece f g e a b s.rows s.first_temp n) takes.next

pub puts_rejoined : (s s1 s3 s4 : Slots) (old mid0 mid2 new none inner nothing : List Stmt) (x : T) (turn : Turn) (e : Term) (a b acts : Actions) → Takes s s1 (s.next + 1) → mid0 ≡ old ++ stmt.Set s.next (w.Const 0) ∷ [] → Puts s1 s3 mid0 mid2 (pair_piece (with_tail turn (tail.Mark s.next)) (with_tail turn (tail.Mark s.next)) e a b s1.rows s1.first_temp s1.next) → none ≡ [] → Puts s3 s4 none inner (piece_at turn None acts s3.rows s3.first_temp s3.next) → test_of x ≡ Not (Same (Var s.next) (Const 0)) → nothing ≡ [] → new ≡ mid2 ++ stmt.If x inner nothing ∷ [] → Puts s s4 old new (rejoined_at turn e a b acts s.rows s.first_temp s.next)
puts_rejoined s s1 s3 s4 old mid0 mid2 new none inner nothing x turn e a b acts reserved set pair en rest et nil is =
    let m = with_tail turn (tail.Mark s.next) in
    let p = pair_piece m m e a b s.rows s.first_temp (s.next + 1) in
    let same : pair_piece m m e a b s1.rows s1.first_temp s1.next ≡ p = pair_same m m e a b s s1 (s.next + 1) reserved in
    let taken : Takes s s3 p.next = takes_of s s3 _ _ (ap (λ y. y.next) same) (takes_then s s1 s3 _ _ reserved pair.slots) in
    let behind_same = piece_after turn acts s s3 p.next taken in
    let q = piece_at turn None acts s.rows s.first_temp p.next in
    let last_if : Block = Cons (If (Not (Same (Var s.next) (Const 0))) q.block Nil) Nil in
    record {
      block =
          appends_more old mid0 new (Cons (Set s.next (Const 0)) Nil) (join p.block last_if) (ap block_of set ∙ set_push old s.next (w.Const 0))
          (appends_more mid0 mid2 new p.block last_if (pair.block ∙ ap (λ y. join (block_of mid0) y.block) same)
          (ap block_of is ∙ if_push mid2 x inner nothing
          ∙ ap (λ y. join (block_of mid2) (Cons (If y (block_of inner) (block_of nothing)) Nil)) et
          ∙ ap (λ y. join (block_of mid2) (Cons (If (Not (Same (Var s.next) (Const 0))) y (block_of nothing)) Nil)) (fresh none inner _ en rest.block ∙ ap (λ y. y.block) behind_same)
          ∙ ap (λ y. join (block_of mid2) (Cons (If (Not (Same (Var s.next) (Const 0))) q.block (block_of y)) Nil)) nil));
      slots = takes_of s s4 _ _ (ap (λ y. y.next) behind_same) (takes_then s s3 s4 _ _ taken rest.slots);
    }

-- ---- at the variables that were taken

pub condition_same : (e : Term) (s s' : Slots) (free : ℕ) → Takes s s' free → condition_piece (lowered_test s'.rows e s'.next s'.first_temp) s'.next ≡ condition_piece (lowered_test s.rows e free s.first_temp) free
condition_same e s s' free takes =
    ap (λ r. condition_piece (lowered_test r e s'.next s'.first_temp) s'.next) takes.rows
    ∙ ap (λ t. condition_piece (lowered_test s.rows e s'.next t) s'.next) takes.first_temp
    ∙ ap (λ n. condition_piece (lowered_test s.rows e n s.first_temp) n) takes.next

pub second_after : (f g : Turn) (a b : Actions) (s s' : Slots) (free : ℕ) → Takes s s' free → second_piece f a g b s'.rows s'.first_temp s'.next ≡ second_piece f a g b s.rows s.first_temp free
second_after f g a b s s' free takes =
    ap (λ r. second_piece f a g b r s'.first_temp s'.next) takes.rows ∙ ap (λ t. second_piece f a g b s.rows t s'.next) takes.first_temp
    ∙ ap (λ n. second_piece f a g b s.rows s.first_temp n) takes.next
