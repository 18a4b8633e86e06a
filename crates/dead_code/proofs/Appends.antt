-- The code goes through statements one after another, and appends what it makes of them.
use Rattle.std.proofs.Common.{◌≡◌, ℕ, suc, ◌+◌, ◌<◌, ◌≤◌, Bool, true, false, List, [], ◌∷◌, length, drop, get_or, refl, sym, ap, ◌∙◌, arith, ne_eqb}
use Rattle.std.proofs.lemmas.Bool.{false≢true}
use Rattle.std.specs.Prelude.{◌&&◌, ◌||◌, ◌==◌}
use Rattle.std.proofs.lemmas.List.{drop_all, at_drop_more}
use Rattle.loop_ir.specs.Counts.{block_loops}
use Rattle.loop_ir.specs.declared.syntax.Stmt.{Stmt}
use Rattle.loop_ir.specs.declared.syntax.Stmt.TheVariants as stmt
use Rattle.loop_ir.specs.declared.syntax.T.{T}
use Rattle.loop_ir.specs.declared.syntax.W.{W}
use Rattle.loop_ir.specs.Statements.{Statement, Set, Read, If, Loop, Emit, Test, Block, Nil, Cons, join}
use Rattle.loop_ir.specs.StatementCopies.{operand_of, test_of, statement_of, block_of}
use Rattle.loop_ir.proofs.Copies.{set_push, read_push, if_push, loop_push, emit_push, end_push, return_push, set_copy, read_copy, if_copy, loop_copy, emit_copy, join_join, join-nil}
use Rattle.expr_phrases.specs.PhraseCopies.{Appends}
use Rattle.dead_code.specs.Ends.{statement_ends, block_ends, reached_statement, reached}
use Rattle.dead_code.proofs.ReachedBlocks.{behind_kept, behind_dropped}
use Rattle.dead_code.specs.FirstZeros.{is_first_zero, marks_behind, unless_dropped, without_first_zeros}
use Rattle.dead_code.specs.Live.{renumbered, renumbered_test, only_if, choice, live_statement, live}
use Rattle.dead_code.proofs.OtherNumbers.{same_operand, same_test}

-- what is left at a place begins with the statement there
pub at_place : (body : List Stmt) (i : ℕ) (s : Stmt) → i < length body → s ≡ get_or body i s → block_of (drop i body) ≡ Cons (statement_of s) (block_of (drop (i + 1) body))
at_place body i s h is = at_drop_more block_of body i s h ∙ ap (λ z. Cons (statement_of z) (block_of (drop (i + 1) body))) (sym is)

-- and at the end nothing is left
pub at_end : (body : List Stmt) (i : ℕ) → length body ≤ i → block_of (drop i body) ≡ Nil
at_end body i h = ap block_of (drop_all i body h)

-- no statement was appended
pub appends_none : (old : List Stmt) → Appends old old Nil
appends_none old = sym (join-nil (block_of old))

-- a statement that isn't appended, since this doesn't hold
pub appends_not : (old : List Stmt) (b : Bool) (s : Statement) → b ≡ false → Appends old old (only_if b s)
appends_not old b s h = appends_none old ∙ ap (λ z. join (block_of old) (only_if z s)) (sym h)

-- no choice is appended, since both branches are empty
pub appends_no_choice : (old : List Stmt) (t : Test) (a b : List Stmt) → (length a == 0) ≡ true → (length b == 0) ≡ true → Appends old old (choice t (block_of a) (block_of b))
appends_no_choice old t [] [] h k = appends_none old
appends_no_choice old t [] (s ∷ b) h k = absurd (false≢true (sym (ne_eqb (suc (length b)) 0 (λ e. omega (arith, e))) ∙ k))
appends_no_choice old t (s ∷ a) b h k = absurd (false≢true (sym (ne_eqb (suc (length a)) 0 (λ e. omega (arith, e))) ∙ h))

-- a choice is appended, since one branch has a statement
pub some_choice : (t : Test) (a b : List Stmt) → (length a == 0) && (length b == 0) ≡ false → choice t (block_of a) (block_of b) ≡ Cons (If t (block_of a) (block_of b)) Nil
some_choice t [] [] h = absurd (false≢true (sym h))
some_choice t [] (s ∷ b) h = refl
some_choice t (s ∷ a) b h = refl

pub ruleset push_steps = (set_push, read_push, if_push, loop_push, emit_push, end_push, return_push)

pub ruleset set_steps = (appends_none, appends_not)

-- what is live of one statement more
pub live_step : (marks : List Bool) (numbers : List ℕ) (old : Block) (made : List Stmt) (body : List Stmt) (i : ℕ) (s : Stmt) → i < length body → s ≡ get_or body i s → block_of made ≡ join old (live_statement marks numbers (statement_of s)) → join (block_of made) (live marks numbers (block_of (drop (i + 1) body))) ≡ join old (live marks numbers (block_of (drop i body)))
live_step marks numbers old made body i s h is q =
    ap (λ z. join z (live marks numbers (block_of (drop (i + 1) body)))) q
    ∙ join_join old (live_statement marks numbers (statement_of s)) (live marks numbers (block_of (drop (i + 1) body)))
    ∙ sym (ap (λ z. join old (live marks numbers z)) (at_place body i s h is))

pub live_end : (marks : List Bool) (numbers : List ℕ) (old : Block) (body : List Stmt) (i : ℕ) → length body ≤ i → join old (live marks numbers (block_of (drop i body))) ≡ old
live_end marks numbers old body i h = ap (λ z. join old (live marks numbers z)) (at_end body i h) ∙ join-nil old

pub ruleset live_steps = (live_step, live_end)

-- ---- a statement as it was, of which what is reached is copied

module _ (old new : List Stmt) (s : Stmt) where
  pub set_reached : (v : ℕ) (w : W) → s ≡ stmt.Set v w → Appends old new (Cons (Set v (renumbered [] (operand_of w))) Nil) → Appends old new (Cons (reached_statement (statement_of s)) Nil)
  set_reached v w is h =
      h ∙ ap (λ z. join (block_of old) (Cons (Set v z) Nil)) (same_operand (operand_of w))
      ∙ sym (ap (λ z. join (block_of old) (Cons (reached_statement z) Nil)) (ap statement_of is ∙ set_copy v w))

  pub read_reached : (v a : ℕ) (w : W) → s ≡ stmt.Read v a w → Appends old new (Cons (Read v a (renumbered [] (operand_of w))) Nil) → Appends old new (Cons (reached_statement (statement_of s)) Nil)
  read_reached v a w is h =
      h ∙ ap (λ z. join (block_of old) (Cons (Read v a z) Nil)) (same_operand (operand_of w))
      ∙ sym (ap (λ z. join (block_of old) (Cons (reached_statement z) Nil)) (ap statement_of is ∙ read_copy v a w))

  pub emit_reached : (w : W) → s ≡ stmt.Emit w → Appends old new (Cons (Emit (renumbered [] (operand_of w))) Nil) → Appends old new (Cons (reached_statement (statement_of s)) Nil)
  emit_reached w is h =
      h ∙ ap (λ z. join (block_of old) (Cons (Emit z) Nil)) (same_operand (operand_of w))
      ∙ sym (ap (λ z. join (block_of old) (Cons (reached_statement z) Nil)) (ap statement_of is ∙ emit_copy w))

  pub if_reached : (t : T) (a b first second : List Stmt) → s ≡ stmt.If t a b → block_of first ≡ reached (block_of a) → block_of second ≡ reached (block_of b) → Appends old new (Cons (If (renumbered_test [] (test_of t)) (block_of first) (block_of second)) Nil) → Appends old new (Cons (reached_statement (statement_of s)) Nil)
  if_reached t a b first second is f g h =
      h ∙ ap (λ z. join (block_of old) (Cons (If z (block_of first) (block_of second)) Nil)) (same_test (test_of t))
      ∙ ap (λ z. join (block_of old) (Cons (If (test_of t) z (block_of second)) Nil)) f
      ∙ ap (λ z. join (block_of old) (Cons (If (test_of t) (reached (block_of a)) z) Nil)) g
      ∙ sym (ap (λ z. join (block_of old) (Cons (reached_statement z) Nil)) (ap statement_of is ∙ if_copy t a b))

  pub loop_reached : (t : T) (body inside : List Stmt) → s ≡ stmt.Loop t body → block_of inside ≡ reached (block_of body) → Appends old new (Cons (Loop (renumbered_test [] (test_of t)) (block_of inside)) Nil) → Appends old new (Cons (reached_statement (statement_of s)) Nil)
  loop_reached t body inside is f h =
      h ∙ ap (λ z. join (block_of old) (Cons (Loop z (block_of inside)) Nil)) (same_test (test_of t))
      ∙ ap (λ z. join (block_of old) (Cons (Loop (test_of t) z) Nil)) f
      ∙ sym (ap (λ z. join (block_of old) (Cons (reached_statement z) Nil)) (ap statement_of is ∙ loop_copy t body))

pub ruleset reached_steps = (set_reached, read_reached, emit_reached, if_reached, loop_reached)

-- ---- statements that are gone through for what is reached of them

-- a statement that goes on, or behind which a loop stands
pub reached_step : (old : Block) (made : List Stmt) (body : List Stmt) (i : ℕ) (s : Stmt) → i < length body → s ≡ get_or body i s → block_of made ≡ join old (Cons (reached_statement (statement_of s)) Nil) → statement_ends (statement_of s) && (block_loops (block_of (drop (i + 1) body)) == 0) ≡ false → join (block_of made) (reached (block_of (drop (i + 1) body))) ≡ join old (reached (block_of (drop i body)))
reached_step old made body i s h is q on =
    let rest = block_of (drop (i + 1) body) in
    ap (λ z. join z (reached rest)) q
    ∙ join_join old (Cons (reached_statement (statement_of s)) Nil) (reached rest)
    ∙ ap (λ z. join old (Cons (reached_statement (statement_of s)) z)) (sym (behind_kept (statement_ends (statement_of s)) rest on))
    ∙ sym (ap (λ z. join old (reached z)) (at_place body i s h is))

-- a statement that ends the run, where no loop stands behind it
pub reached_last : (old : Block) (made : List Stmt) (body : List Stmt) (i : ℕ) (s : Stmt) → i < length body → s ≡ get_or body i s → block_of made ≡ join old (Cons (reached_statement (statement_of s)) Nil) → statement_ends (statement_of s) ≡ true → (block_loops (block_of (drop (i + 1) body)) == 0) ≡ true → block_of made ≡ join old (reached (block_of (drop i body)))
reached_last old made body i s h is q ends none =
    q ∙ ap (λ z. join old (Cons (reached_statement (statement_of s)) z)) (sym (behind_dropped (statement_ends (statement_of s)) (block_of (drop (i + 1) body)) ends none))
    ∙ sym (ap (λ z. join old (reached z)) (at_place body i s h is))

pub reached_end : (old : Block) (body : List Stmt) (i : ℕ) → length body ≤ i → join old (reached (block_of (drop i body))) ≡ old
reached_end old body i h = ap (λ z. join old (reached z)) (at_end body i h) ∙ join-nil old

-- whether the run ends in the statement or behind it
ends_at : (body : List Stmt) (i : ℕ) (s : Stmt) → i < length body → s ≡ get_or body i s → block_ends (block_of (drop i body)) ≡ statement_ends (statement_of s) || block_ends (block_of (drop (i + 1) body))
ends_at body i s h is = ap block_ends (at_place body i s h is)

ends_now : (e over rest all : Bool) → over ≡ true → e || (over || rest) ≡ all → true ≡ all
ends_now true over rest all h is = is
ends_now false over rest all h is = ap (λ z. z || rest) (sym h) ∙ is

-- the run ends in the statement, or it goes on behind that
pub ends_here : (e over all : Bool) (body : List Stmt) (i : ℕ) (s : Stmt) → i < length body → s ≡ get_or body i s → over ≡ statement_ends (statement_of s) → over ≡ true → e || block_ends (block_of (drop i body)) ≡ all → true ≡ all
ends_here e over all body i s h is q ends whole =
    ends_now e (statement_ends (statement_of s)) (block_ends (block_of (drop (i + 1) body))) all (sym q ∙ ends) (ap (λ z. e || z) (sym (ends_at body i s h is)) ∙ whole)

pub ends_later : (e over all : Bool) (body : List Stmt) (i : ℕ) (s : Stmt) → i < length body → s ≡ get_or body i s → over ≡ statement_ends (statement_of s) → over ≡ false → e || block_ends (block_of (drop i body)) ≡ all → e || block_ends (block_of (drop (i + 1) body)) ≡ all
ends_later e over all body i s h is q goes_on whole =
    ap (λ z. e || (z || block_ends (block_of (drop (i + 1) body)))) (sym (sym q ∙ goes_on)) ∙ ap (λ z. e || z) (sym (ends_at body i s h is)) ∙ whole

pub first_false : (a b : Bool) → a ≡ false → a && b ≡ false
first_false a b h = ap (λ z. z && b) h

pub second_false : (a b : Bool) → false ≡ b → a && b ≡ false
second_false true b h = sym h
second_false false b h = refl

-- ---- and for what is live of them, but for those that set a variable to 0 first

module _ (marks : List Bool) (numbers : List ℕ) where
  pub live_one : (old new : List Stmt) (first : Bool) (s : Statement) → first ≡ false → Appends old new (live_statement marks numbers s) → Appends old new (live marks numbers (unless_dropped first s Nil))
  live_one old new first s stays is =
      is ∙ ap (join (block_of old)) (sym (join-nil (live_statement marks numbers s))) ∙ ap (λ z. join (block_of old) (live marks numbers (unless_dropped z s Nil))) (sym stays)

  pub live_none : (old : List Stmt) (first : Bool) (s : Statement) → first ≡ true → Appends old old (live marks numbers (unless_dropped first s Nil))
  live_none old first s drops = appends_none old ∙ ap (λ z. join (block_of old) (live marks numbers (unless_dropped z s Nil))) (sym drops)

  live_dropped : (first : Bool) (s : Statement) (rest : Block) → join (live marks numbers (unless_dropped first s Nil)) (live marks numbers rest) ≡ live marks numbers (unless_dropped first s rest)
  live_dropped true s rest = refl
  live_dropped false s rest = ap (λ z. join z (live marks numbers rest)) (join-nil (live_statement marks numbers s))

  pub first_step : (old : Block) (made : List Stmt) (body : List Stmt) (i : ℕ) (s : Stmt) (sets more : List Bool) → i < length body → s ≡ get_or body i s → more ≡ marks_behind (is_first_zero sets (statement_of s)) (statement_of s) sets → block_of made ≡ join old (live marks numbers (unless_dropped (is_first_zero sets (statement_of s)) (statement_of s) Nil)) → join (block_of made) (live marks numbers (without_first_zeros more (block_of (drop (i + 1) body)))) ≡ join old (live marks numbers (without_first_zeros sets (block_of (drop i body))))
  first_step old made body i s sets more h is r q =
      let first = is_first_zero sets (statement_of s) in
      let rest = without_first_zeros (marks_behind first (statement_of s) sets) (block_of (drop (i + 1) body)) in
      ap (λ z. join (block_of made) (live marks numbers (without_first_zeros z (block_of (drop (i + 1) body))))) r
      ∙ ap (λ z. join z (live marks numbers rest)) q
      ∙ join_join old (live marks numbers (unless_dropped first (statement_of s) Nil)) (live marks numbers rest)
      ∙ ap (join old) (live_dropped first (statement_of s) rest)
      ∙ sym (ap (λ z. join old (live marks numbers (without_first_zeros sets z))) (at_place body i s h is))

  pub first_end : (old : Block) (sets : List Bool) (body : List Stmt) (i : ℕ) → length body ≤ i → join old (live marks numbers (without_first_zeros sets (block_of (drop i body)))) ≡ old
  first_end old sets body i h = ap (λ z. join old (live marks numbers (without_first_zeros sets z))) (at_end body i h) ∙ join-nil old

pub ruleset first_steps = (live_one, live_none, first_step, first_end)

-- statements that were appended to none
pub from_nothing : (old new : List Stmt) (b : Block) → old ≡ [] → Appends old new b → block_of new ≡ b
from_nothing old new b none h = h ∙ ap (λ z. join (block_of z) b) none

pub ruleset walk_steps = (reached_step, reached_last, reached_end, at_end)
