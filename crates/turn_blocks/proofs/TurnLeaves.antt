-- The leaves of the statements of a turn: names and constants, each of which passes a test where those of its expressions, of what is
-- done with the row, and of the end do.
use Rattle.std.proofs.Common.{◌≡◌, ℕ, ◌+◌, ◌-◌, ◌<◌, ◌≤◌, Bool, true, false, ◌&&◌, ◌||◌, List, [], ◌∷◌, ◌++◌, length, refl, sym, ◌∙◌, subst, arith, length-drop, get_or-drop}
use Rattle.std.specs.Prelude.{IsTrue, not, nat_le, slice_index, if◌then◌else◌, Option, Some, None}
use Rattle.std.proofs.lemmas.Bool.{leb-true, ltb-true}
use Rattle.strm_num.proofs.Truths.{both_true, true_both}
use Rattle.strm_num.specs.Words.{IsWord}
use Rattle.list_denotation.specs.Leaves.{all_leaves}
use Rattle.list_denotation.specs.Literals.{is_word_leaf, has_words, all_have_words}
use Rattle.list_denotation.specs.Scopes.{is_bound, is_bound_leaf, all_bound}
use Rattle.list_denotation.specs.Terms as term
use Rattle.list_denotation.specs.Terms.{Term}
use Rattle.list_denotation.specs.Typing.{is_undivided, all_undivided}
use Rattle.loop_ir.specs.Leaves.{operand_leaves, test_leaves, statement_leaves, block_leaves}
use Rattle.loop_ir.specs.Statements as loop
use Rattle.loop_ir.specs.Statements.{Operand, Test, Const, Var, Block, join}
use Rattle.expr_lower.specs.Costs.{temps_of}
use Rattle.expr_forms.specs.Forms.{Condition, operand_block, operand_in, is_empty}
use Rattle.expr_lower.specs.Lowering.{lowered_term, lowered_into, lowered_test}
use Rattle.expr_phrases.specs.Phrases.{set}
use Rattle.stateful_core.specs.CoreLeaves.{row_leaves, action_leaves, actions_leaves}
use Rattle.stateful_core.specs.CoreShapes.{action_locals, actions_locals}
use Rattle.stateful_core.specs.CoreTerms.{Action, Let, Read, KeepIf, StopUnless, Update, When, Actions, Nil, Cons}
use Rattle.stateful_core.specs.WellFormed.{is_sure, all_sure, is_sound_action, are_sound_actions}
use Rattle.turn_blocks.specs.Pieces.{Piece, Tail, behind, last, mark, nowhere, behind_scratch, choose}
use Rattle.turn_blocks.specs.StateBlocks.{is_word, is_whole, is_straight, leaf_block, leaf_needs, word_block, word_needs, words_piece}
use Rattle.turn_blocks.specs.Temporaries.{row_temps, acts_temps}
use Rattle.turn_blocks.specs.TurnBlocks.{tested, known_truth, is_none, let_piece, read_block, test_piece, update_piece, rejoined, acts_piece}
use Rattle.turn_blocks.specs.WordUses.{row_avoids, never_go_on, may_wait, LetUse, Tested, Unused, Own, let_use}
use Rattle.turn_blocks.specs.WordUses.{Same as SameWord}
use Rattle.turn_blocks.proofs.LeafTests.{leaves_of_both, row_of_both}
use Rattle.turn_blocks.proofs.Temporaries.{choice_temps}
use Rattle.turn_blocks.proofs.PieceSizes.{picked, at_least, words_grow, acts_grow, scratch_least, Grows, nowhere_grows, mark_grows}
use Rattle.turn_blocks.proofs.TurnSteps.{UseFacts, use_facts}
use Rattle.turn_blocks.proofs.WordLists.{each_last, length_last}

-- a test of leaves, the variables that may be named below a number of them, and the expressions whose leaves pass. Where nothing
-- holds of numbers of variables, `counts` is empty
pub record LeafTest (t temps : ℕ) : Type 1 where
  pub passes : Operand → Bool
  pub counts : Type 0
  pub under : ℕ → ℕ → Type 0
  pub fits : ℕ → Type 0
  pub leaf : Term → Bool
  pub bound_leaf : ℕ → Term → Bool
  pub bound_of : (n : ℕ) (x : Term) → IsTrue (is_bound_leaf n x) → IsTrue (bound_leaf n x)
  pub bound_more : (n m : ℕ) (x : Term) → n ≤ m → IsTrue (bound_leaf n x) → IsTrue (bound_leaf m x)
  pub under_more : (n m v : ℕ) → n ≤ m → under n v → under m v
  pub under_new : (n v : ℕ) → v < n → under n v
  pub fits_less : (n m : ℕ) → (counts → n ≤ m) → fits m → fits n
  pub var : (n v : ℕ) → under n v → fits n → IsTrue (passes (Var v))
  pub small : (c : ℕ) → IsWord c → IsTrue (passes (Const c))
  pub array : (a : ℕ) → IsTrue (leaf (term.Len a)) → IsTrue (passes (loop.Len a))
  pub values : (rows : List ℕ) (e : Term) (target n : ℕ) → ((k : ℕ) → k < length rows → under n (slice_index rows k)) → IsTrue (all_leaves (bound_leaf (length rows)) e) → IsTrue (has_words e) → temps_of e ≤ temps → IsTrue (all_leaves leaf e) → under n target → fits n
      → IsTrue (block_leaves passes (lowered_into rows e target t))
  pub conditions : (rows : List ℕ) (e : Term) (next : ℕ) → ((k : ℕ) → k < length rows → under next (slice_index rows k)) → IsTrue (all_leaves (bound_leaf (length rows)) e) → IsTrue (has_words e) → temps_of e ≤ temps → IsTrue (all_leaves leaf e) → fits (behind_scratch (lowered_test rows e next t) next)
      → IsTrue (block_leaves passes (lowered_test rows e next t).block) × IsTrue (test_leaves passes (lowered_test rows e next t).test)
  pub operands : (rows : List ℕ) (e : Term) (next : ℕ) → ((k : ℕ) → k < length rows → under next (slice_index rows k)) → IsTrue (all_leaves (bound_leaf (length rows)) e) → IsTrue (has_words e) → temps_of e ≤ temps → IsTrue (all_leaves leaf e) → fits (next + 1)
      → IsTrue (block_leaves passes (operand_block (lowered_term rows e next t) next)) × IsTrue (operand_leaves passes (operand_in (lowered_term rows e next t).form next))

-- ---- blocks

module _ (passes : Operand → Bool) where
  abbrev In : Block → Type 0
  In b = IsTrue (block_leaves passes b)

  pub in_join : (a b : Block) → In a → In b → In (join a b)
  in_join loop.Nil b h k = k
  in_join (loop.Cons s ss) b h k =
      let p = both_true (statement_leaves passes s) (block_leaves passes ss) h in
      true_both (statement_leaves passes s) (block_leaves passes (join ss b)) p.0 (in_join ss b p.1 k)

  pub in_set : (v : ℕ) (w : Operand) → IsTrue (passes (Var v)) → IsTrue (operand_leaves passes w) → In (set v w)
  in_set v w h k = true_both (passes (Var v) && operand_leaves passes w) true (true_both (passes (Var v)) (operand_leaves passes w) h k) refl

  in_if : (c : Test) (a b : Block) → IsTrue (test_leaves passes c) → In a → In b → In (loop.Cons (loop.If c a b) loop.Nil)
  in_if c a b h j k =
      true_both (test_leaves passes c && (block_leaves passes a && block_leaves passes b)) true
      (true_both (test_leaves passes c) (block_leaves passes a && block_leaves passes b) h (true_both (block_leaves passes a) (block_leaves passes b) j k)) refl

  in_choose : (c : Condition) (on off : Block) → In c.block × IsTrue (test_leaves passes c.test) → In on → In off → In (choose c on off)
  in_choose c on off h j k = in_join c.block (loop.Cons (loop.If c.test on off) loop.Nil) h.0 (in_if c.test on off h.1 j k)

module _ (t temps : ℕ) (T : LeafTest t temps) where
  abbrev pub InBlock : Block → Type 0
  InBlock b = IsTrue (block_leaves T.passes b)

  abbrev pub AllUnder : ℕ → List ℕ → Type 0
  AllUnder n rows = (k : ℕ) → k < length rows → T.under n (slice_index rows k)

  all_more : (rows : List ℕ) (n m : ℕ) → n ≤ m → AllUnder n rows → AllUnder m rows
  all_more rows n m le all k lt = T.under_more n m (slice_index rows k) le (all k lt)

  push_under : (rows : List ℕ) (n m v : ℕ) → n ≤ m → AllUnder n rows → T.under m v → AllUnder m (rows ++ v ∷ [])
  push_under rows n m v le all new = each_last (T.under m) rows v (all_more rows n m le all) new

  -- an expression that is bound and whose leaves pass
  pub record IsGood (rows : List ℕ) (e : Term) : Type 0 where
    pub bound : IsTrue (all_leaves (T.bound_leaf (length rows)) e)
    pub numbers : IsTrue (has_words e)
    pub few : temps_of e ≤ temps
    pub leaves : IsTrue (all_leaves T.leaf e)

  -- what is bound is so here
  bound_in : (rows : List ℕ) (e : Term) → IsTrue (is_bound (length rows) e) → IsTrue (all_leaves (T.bound_leaf (length rows)) e)
  bound_in rows e h = leaves_of_both (is_bound_leaf (length rows)) (is_bound_leaf (length rows)) (T.bound_leaf (length rows)) (λ x is again. T.bound_of (length rows) x is) e h h

  row_bound_in : (rows : List ℕ) (es : List Term) → IsTrue (all_bound (length rows) es) → IsTrue (row_leaves (T.bound_leaf (length rows)) es)
  row_bound_in rows es h = row_of_both (is_bound_leaf (length rows)) (is_bound_leaf (length rows)) (T.bound_leaf (length rows)) (λ x is again. T.bound_of (length rows) x is) es h h

  value_in : (rows : List ℕ) (e : Term) (target n : ℕ) → AllUnder n rows → IsGood rows e → T.under n target → T.fits n → InBlock (lowered_into rows e target t)
  value_in rows e target n all good at fit = T.values rows e target n all good.bound good.numbers good.few good.leaves at fit

  condition_in : (rows : List ℕ) (e : Term) (next : ℕ) → AllUnder next rows → IsGood rows e → T.fits (behind_scratch (lowered_test rows e next t) next) → InBlock (lowered_test rows e next t).block × IsTrue (test_leaves T.passes (lowered_test rows e next t).test)
  condition_in rows e next all good fit = T.conditions rows e next all good.bound good.numbers good.few good.leaves fit

  -- ---- words that are set

  module _ (rows : List ℕ) where
    module _ (k s : ℕ) (all : AllUnder s rows) (lt : k < length rows) (fit : T.fits s) where
      at_word : T.under s (slice_index rows k)
      at_word = all k lt

      leaf_in : (e : Term) → IsGood rows e → (IsTrue (leaf_needs rows t k e) → T.fits (s + 1)) → InBlock (leaf_block rows t k s e)
      leaf_in e good needs = by_word (is_word k e) (is_straight rows t k e) needs
        where
          by_word : (b c : Bool) → (IsTrue (not (b || c)) → T.fits (s + 1)) → InBlock (if b then loop.Nil else if c then lowered_into rows e (slice_index rows k) t else join (lowered_into rows e s t) (set (slice_index rows k) (Var s)))
          by_word true c need = refl
          by_word false true need = value_in rows e (slice_index rows k) s all good at_word fit
          by_word false false need =
              let more = need refl in
              in_join T.passes (lowered_into rows e s t) (set (slice_index rows k) (Var s))
              (value_in rows e s (s + 1) (all_more rows s (s + 1) (omega arith) all) good (T.under_new (s + 1) s (omega arith)) more)
              (in_set T.passes (slice_index rows k) (Var s) (T.var s (slice_index rows k) at_word fit) (T.var (s + 1) s (T.under_new (s + 1) s (omega arith)) more))

      good_parts : (c a b : Term) → is_whole k c a b ≡ false → IsGood rows (term.If c a b) → IsGood rows c × (IsGood rows a × IsGood rows b)
      good_parts c a b branched good =
          let w = both_true (has_words c) (has_words a && has_words b) good.numbers in
          let x = both_true (has_words a) (has_words b) w.1 in
          let m = both_true (all_leaves (T.bound_leaf (length rows)) c) (all_leaves (T.bound_leaf (length rows)) a && all_leaves (T.bound_leaf (length rows)) b) good.bound in
          let n = both_true (all_leaves (T.bound_leaf (length rows)) a) (all_leaves (T.bound_leaf (length rows)) b) m.1 in
          let p = both_true (all_leaves T.leaf c) (all_leaves T.leaf a && all_leaves T.leaf b) good.leaves in
          let q = both_true (all_leaves T.leaf a) (all_leaves T.leaf b) p.1 in
          let few = good.few in
          let parts = choice_temps k c a b branched in (
            record { numbers = w.0; bound = m.0; few = omega (arith, few, parts); leaves = p.0 },
            (
              record { numbers = x.0; bound = n.0; few = omega (arith, few, parts); leaves = q.0 },
              record { numbers = x.1; bound = n.1; few = omega (arith, few, parts); leaves = q.1 },
            ),
          )

      abbrev WordIn : Term → Type 0
      WordIn e = IsGood rows e → (IsTrue (word_needs rows t k s e) → T.fits (s + 1)) → InBlock (word_block rows t k s e)

      choice_in : (c a b : Term) → WordIn a → WordIn b → WordIn (term.If c a b)
      choice_in c a b first second good needs = by_use (is_whole k c a b) refl needs
        where
          scratch_fits : (empty rest : Bool) → (IsTrue (not empty || rest) → T.fits (s + 1)) → T.fits (if empty then s else s + 1)
          scratch_fits true rest need = fit
          scratch_fits false rest need = need refl

          need_first : (x y z : Bool) → IsTrue y → IsTrue (x || (y || z))
          need_first true y z h = refl
          need_first false true z h = refl
          need_first false false z h = absurd cc

          need_second : (x y z : Bool) → IsTrue z → IsTrue (x || (y || z))
          need_second true y z h = refl
          need_second false true z h = refl
          need_second false false z h = h

          by_use : (whole : Bool) → is_whole k c a b ≡ whole → (IsTrue (if whole then leaf_needs rows t k (term.If c a b) else not (is_empty (lowered_test rows c s t).block) || (word_needs rows t k s a || word_needs rows t k s b)) → T.fits (s + 1)) → InBlock (if whole then leaf_block rows t k s (term.If c a b) else choose (lowered_test rows c s t) (word_block rows t k s a) (word_block rows t k s b))
          by_use true is need = leaf_in (term.If c a b) good need
          by_use false is need =
              let parts = good_parts c a b is good in
              let e : Bool = is_empty (lowered_test rows c s t).block in
              in_choose T.passes (lowered_test rows c s t) (word_block rows t k s a) (word_block rows t k s b)
              (condition_in rows c s all parts.0 (scratch_fits e (word_needs rows t k s a || word_needs rows t k s b) need))
              (first parts.1.0 (λ h. need (need_first (not e) (word_needs rows t k s a) (word_needs rows t k s b) h)))
              (second parts.1.1 (λ h. need (need_second (not e) (word_needs rows t k s a) (word_needs rows t k s b) h)))

      word_in : (e : Term) → WordIn e
      word_in (term.If c a b) = choice_in c a b (word_in a) (word_in b)
      word_in e = leaf_in e

    pub record AreGood (es : List Term) : Type 0 where
      pub bound : IsTrue (row_leaves (T.bound_leaf (length rows)) es)
      pub numbers : IsTrue (all_have_words es)
      pub few : row_temps es ≤ temps
      pub leaves : IsTrue (row_leaves T.leaf es)

    first_good : (e : Term) (es : List Term) → AreGood (e ∷ es) → IsGood rows e
    first_good e es good = let few = good.few in record {
      bound = (both_true (all_leaves (T.bound_leaf (length rows)) e) (row_leaves (T.bound_leaf (length rows)) es) good.bound).0;
      numbers = (both_true (has_words e) (all_have_words es) good.numbers).0;
      few = omega (arith, few);
      leaves = (both_true (all_leaves T.leaf e) (row_leaves T.leaf es) good.leaves).0;
    }

    rest_good : (e : Term) (es : List Term) → AreGood (e ∷ es) → AreGood es
    rest_good e es good = let few = good.few in record {
      bound = (both_true (all_leaves (T.bound_leaf (length rows)) e) (row_leaves (T.bound_leaf (length rows)) es) good.bound).1;
      numbers = (both_true (has_words e) (all_have_words es) good.numbers).1;
      few = omega (arith, few);
      leaves = (both_true (all_leaves T.leaf e) (row_leaves T.leaf es) good.leaves).1;
    }

    pub words_in : (es : List Term) (k next : ℕ) → AllUnder next rows → k + length es ≤ length rows → AreGood es → T.fits (words_piece rows t k es next).next → InBlock (words_piece rows t k es next).block
    words_in [] k next all long good fit = refl
    words_in (e ∷ es) k next all long good fit =
        picked (is_word k e) (row_avoids k es) (words_piece rows t (k + 1) es next)
        (behind (word_block rows t k next e) (words_piece rows t (k + 1) es (if word_needs rows t k next e then next + 1 else next)))
        (record { block = join (lowered_into rows e next t) (join (words_piece rows t (k + 1) es (next + 1)).block (set (slice_index rows k) (Var next))); next = (words_piece rows t (k + 1) es (next + 1)).next })
        (λ p. T.fits p.next → InBlock p.block)
        (λ is most. words_in es (k + 1) next all (omega (arith, long)) (rest_good e es good) most)
        (λ no free most.
        let one = at_least (word_needs rows t k next e) next in
        let grown = words_grow rows t es (k + 1) (if word_needs rows t k next e then next + 1 else next) in
        in_join T.passes (word_block rows t k next e) (words_piece rows t (k + 1) es (if word_needs rows t k next e then next + 1 else next)).block
        (word_in k next all (omega (arith, long)) (T.fits_less next (words_piece rows t (k + 1) es (if word_needs rows t k next e then next + 1 else next)).next (λ q. omega (arith, one, grown)) most) e (first_good e es good)
        (needed (word_needs rows t k next e) (T.fits_less (if word_needs rows t k next e then next + 1 else next) (words_piece rows t (k + 1) es (if word_needs rows t k next e then next + 1 else next)).next (λ q. grown) most)))
        (words_in es (k + 1) (if word_needs rows t k next e then next + 1 else next) (all_more rows next (if word_needs rows t k next e then next + 1 else next) one all) (omega (arith, long)) (rest_good e es good) most))
        (λ no read most.
        let grown = words_grow rows t es (k + 1) (next + 1) in
        let fit_next = T.fits_less (next + 1) (words_piece rows t (k + 1) es (next + 1)).next (λ q. grown) most in
        let all_next = all_more rows next (next + 1) (omega arith) all in
        in_join T.passes (lowered_into rows e next t) (join (words_piece rows t (k + 1) es (next + 1)).block (set (slice_index rows k) (Var next)))
        (value_in rows e next (next + 1) all_next (first_good e es good) (T.under_new (next + 1) next (omega arith)) fit_next)
        (in_join T.passes (words_piece rows t (k + 1) es (next + 1)).block (set (slice_index rows k) (Var next))
        (words_in es (k + 1) (next + 1) all_next (omega (arith, long)) (rest_good e es good) most)
        (in_set T.passes (slice_index rows k) (Var next) (T.var (next + 1) (slice_index rows k) (all_next k (omega (arith, long))) fit_next) (T.var (next + 1) next (T.under_new (next + 1) next (omega arith)) fit_next))))
        fit
      where
        needed : (d : Bool) → T.fits (if d then next + 1 else next) → IsTrue d → T.fits (next + 1)
        needed true h is = h
        needed false h is = absurd cc

  -- ---- acts

  module _ (scope states least : ℕ) (stop : Block) (stop_in : InBlock stop) where
    pub record AreGoodActs (acts : Actions) (rows : List ℕ) : Type 0 where
      pub sound : IsTrue (are_sound_actions states (length rows) acts)
      pub numbers : IsTrue (actions_leaves is_word_leaf acts)
      pub few : acts_temps acts ≤ temps
      pub leaves : IsTrue (actions_leaves T.leaf acts)

    -- what is done with a row names nothing else
    pub record IsGoodTail (tail : Tail) : Type 0 where
      pub grows : T.counts → Grows tail
      pub inside : (row : List ℕ) (n : ℕ) → AllUnder n row → least ≤ n → (T.counts → length row ≡ tail.width) → T.fits (tail.piece row n).next → InBlock (tail.piece row n).block

    abbrev IsGoodHeld : Option Term → List ℕ → Type 0
    IsGoodHeld None rows = Unit {0}
    IsGoodHeld (Some e) rows = IsGood rows e

    held_good : (held : Option Term) (e : Term) (rows : List ℕ) → IsGoodHeld held rows → IsGood rows e → IsGood rows (tested held e)
    held_good None e rows h good = good
    held_good (Some f) e rows h good = h

    nowhere_good : IsGoodTail nowhere
    nowhere_good = record { grows = λ q. nowhere_grows; inside = λ row n all le long fit. refl }

    mark_good : (v : ℕ) → T.fits (v + 1) → IsGoodTail (mark v)
    mark_good v fit = record { grows = λ q. mark_grows v; inside = λ row n all le long fits. in_set T.passes v (Const 1) (T.var (v + 1) v (T.under_new (v + 1) v (omega arith)) fit) (T.small 1 (omega arith)) }

    wider_good : (rows : List ℕ) (v : ℕ) (e : Term) → IsGood rows e → IsGood (rows ++ v ∷ []) e
    wider_good rows v e good = record { bound = leaves_of_both (T.bound_leaf (length rows)) (T.bound_leaf (length rows)) (T.bound_leaf (length (rows ++ v ∷ []))) (λ x is again. T.bound_more (length rows) (length (rows ++ v ∷ [])) x (omega (arith, length_last rows v)) is) e good.bound good.bound; numbers = good.numbers; few = good.few; leaves = good.leaves }

    abbrev pub ActsIn : Actions → Type 0
    ActsIn acts = (tail : Tail) (held : Option Term) (rows : List ℕ) (next : ℕ) → IsGoodTail tail → IsGoodHeld held rows → AreGoodActs acts rows → AllUnder next rows → least ≤ next → scope + states ≤ length rows → (T.counts → tail.width ≤ length rows + actions_locals acts) → T.fits (acts_piece scope states t stop tail held acts rows next).next → InBlock (acts_piece scope states t stop tail held acts rows next).block

    rest_acts : (a : Action) (acts : Actions) (rows : List ℕ) → AreGoodActs (Cons a acts) rows → action_locals a ≡ 0 → AreGoodActs acts rows
    rest_acts a acts rows good none =
        let few = good.few in
        let zero : length rows + action_locals a ≡ length rows = omega (arith, none) in record {
          sound = subst (λ n. IsTrue (are_sound_actions states n acts)) zero (both_true (is_sound_action states (length rows) a) (are_sound_actions states (length rows + action_locals a) acts) good.sound).1;
          numbers = (both_true (action_leaves is_word_leaf a) (actions_leaves is_word_leaf acts) good.numbers).1;
          few = omega (arith, few);
          leaves = (both_true (action_leaves T.leaf a) (actions_leaves T.leaf acts) good.leaves).1;
        }

    more_acts : (a : Action) (acts : Actions) (rows : List ℕ) (v : ℕ) → AreGoodActs (Cons a acts) rows → action_locals a ≡ 1 → AreGoodActs acts (rows ++ v ∷ [])
    more_acts a acts rows v good one =
        let few = good.few in
        let long : length rows + action_locals a ≡ length (rows ++ v ∷ []) = omega (arith, one, length_last rows v) in record {
          sound = subst (λ n. IsTrue (are_sound_actions states n acts)) long (both_true (is_sound_action states (length rows) a) (are_sound_actions states (length rows + action_locals a) acts) good.sound).1;
          numbers = (both_true (action_leaves is_word_leaf a) (actions_leaves is_word_leaf acts) good.numbers).1;
          few = omega (arith, few);
          leaves = (both_true (action_leaves T.leaf a) (actions_leaves T.leaf acts) good.leaves).1;
        }

    test_in : (o : Option Bool) (c : Condition) (next : ℕ) (go : ℕ → Piece) (off : Block) → ((n : ℕ) → T.counts → n ≤ (go n).next) → InBlock off → (T.fits (behind_scratch c next) → InBlock c.block × IsTrue (test_leaves T.passes c.test)) → ((n : ℕ) → next ≤ n → T.fits (go n).next → InBlock (go n).block) → T.fits (test_piece o c next go off).next → InBlock (test_piece o c next go off).block
    test_in (Some true) c next go off grows out cond h fit = h next (omega arith) fit
    test_in (Some false) c next go off grows out cond h fit = out
    test_in None c next go off grows out cond h fit =
        in_choose T.passes c (go (behind_scratch c next)).block off (cond (T.fits_less (behind_scratch c next) (go (behind_scratch c next)).next (grows (behind_scratch c next)) fit)) (h (behind_scratch c next) (scratch_least c next) fit) out

    update_in : (b : Bool) (set : Piece) (go : ℕ → Piece) → ((n : ℕ) → T.counts → n ≤ (go n).next) → (T.fits set.next → InBlock set.block) → (T.fits (go set.next).next → InBlock (go set.next).block) → T.fits (update_piece b set go).next → InBlock (update_piece b set go).block
    update_in true set go grows first h fit = in_join T.passes (go set.next).block set.block (h fit) (first (T.fits_less set.next (go set.next).next (grows set.next) fit))
    update_in false set go grows first h fit = in_join T.passes set.block (go set.next).block (first (T.fits_less set.next (go set.next).next (grows set.next) fit)) (h fit)

    sure_good : (e : Term) (acts : Actions) (a : Action) (rows : List ℕ) → AreGoodActs (Cons a acts) rows → is_sound_action states (length rows) a ≡ is_sure (length rows) e → action_leaves is_word_leaf a ≡ has_words e → temps_of e ≤ acts_temps (Cons a acts) → action_leaves T.leaf a ≡ all_leaves T.leaf e → IsGood rows e
    sure_good e acts a rows good sure numbers few leaves =
        let enough = good.few in record {
          bound = bound_in rows e (both_true (is_bound (length rows) e) (is_undivided e) (sym sure ∙ (both_true (is_sound_action states (length rows) a) (are_sound_actions states (length rows + action_locals a) acts) good.sound).0)).0;
          numbers = sym numbers ∙ (both_true (action_leaves is_word_leaf a) (actions_leaves is_word_leaf acts) good.numbers).0;
          few = omega (arith, enough, few);
          leaves = sym leaves ∙ (both_true (action_leaves T.leaf a) (actions_leaves T.leaf acts) good.leaves).0;
        }

    pub acts_in : (acts : Actions) → ActsIn acts
    acts_in Nil tail held rows next good h acts all le deep wide fit =
        good.inside (last tail.width rows) next
        (λ i lt. subst (T.under next) (sym (get_or-drop (length rows - tail.width) rows i 0)) (all (length rows - tail.width + i) (omega (arith, lt, length-drop (length rows - tail.width) rows))))
        le (λ q. length-drop (length rows - tail.width) rows ∙ omega (arith, wide q)) fit
    acts_in (Cons (Let e) acts) tail held rows next good h goods all le deep wide fit =
        by_use (let_use scope states tail.width (length rows) e acts) (use_facts scope states tail.width (length rows) e acts (let_use scope states tail.width (length rows) e acts) refl) (acts_in acts) fit
      where
        bound : IsTrue (is_bound (length rows) e)
        bound = (both_true (is_bound (length rows) e) (are_sound_actions states (length rows + 1) acts) goods.sound).0

        good_e : IsGood rows e
        good_e = let few = goods.few in record {
          bound = bound_in rows e bound;
          numbers = (both_true (has_words e) (actions_leaves is_word_leaf acts) goods.numbers).0;
          few = omega (arith, few);
          leaves = (both_true (all_leaves T.leaf e) (actions_leaves T.leaf acts) goods.leaves).0;
        }

        deep_by : (v : ℕ) → scope + states ≤ length (rows ++ v ∷ [])
        deep_by v = omega (arith, deep, length_last rows v)

        wide_by : (v : ℕ) → T.counts → tail.width ≤ length (rows ++ v ∷ []) + actions_locals acts
        wide_by v q = omega (arith, wide q, length_last rows v)

        at_row : (k : ℕ) → k < length rows → AllUnder next (rows ++ slice_index rows k ∷ [])
        at_row k lt = push_under rows next next (slice_index rows k) (omega arith) all (all k lt)

        by_use : (u : LetUse) → UseFacts scope states tail.width (length rows) e acts u → ActsIn acts → T.fits (let_piece u e t rows next (λ k r n. acts_piece scope states t stop tail k acts r n)).next → InBlock (let_piece u e t rows next (λ k r n. acts_piece scope states t stop tail k acts r n)).block
        by_use Tested facts ih most = ih tail (Some e) (rows ++ slice_index rows 0 ∷ []) next good (wider_good rows (slice_index rows 0) e good_e) (more_acts (Let e) acts rows (slice_index rows 0) goods refl) (at_row 0 (omega (arith, facts.0))) le (deep_by (slice_index rows 0)) (wide_by (slice_index rows 0)) most
        by_use Unused facts ih most = ih tail None (rows ++ slice_index rows 0 ∷ []) next good tt (more_acts (Let e) acts rows (slice_index rows 0) goods refl) (at_row 0 (omega (arith, facts.0))) le (deep_by (slice_index rows 0)) (wide_by (slice_index rows 0)) most
        by_use (SameWord k) facts ih most = ih tail None (rows ++ slice_index rows k ∷ []) next good tt (more_acts (Let e) acts rows (slice_index rows k) goods refl) (at_row k (ltb-true k (length rows) (subst (λ x. IsTrue (is_bound (length rows) x)) facts.0 bound))) le (deep_by (slice_index rows k)) (wide_by (slice_index rows k)) most
        by_use Own facts ih most =
            let grown = λ (q : T.counts). acts_grow scope states t stop tail None acts (rows ++ next ∷ []) (next + 1) (good.grows q) in
            let fit_next = T.fits_less (next + 1) (acts_piece scope states t stop tail None acts (rows ++ next ∷ []) (next + 1)).next grown most in
            let new = T.under_new (next + 1) next (omega arith) in
            in_join T.passes (lowered_into rows e next t) (acts_piece scope states t stop tail None acts (rows ++ next ∷ []) (next + 1)).block
            (value_in rows e next (next + 1) (all_more rows next (next + 1) (omega arith) all) good_e new fit_next)
            (ih tail None (rows ++ next ∷ []) (next + 1) good tt (more_acts (Let e) acts rows next goods refl) (push_under rows next (next + 1) next (omega arith) all new) (omega (arith, le)) (deep_by next) (wide_by next) most)
    acts_in (Cons (Read a e) acts) tail held rows next good h goods all le deep wide fit =
        let few = goods.few in
        let grown = λ (q : T.counts). acts_grow scope states t stop tail None acts (rows ++ next ∷ []) (next + 1) (good.grows q) in
        let fit_next = T.fits_less (next + 1) (acts_piece scope states t stop tail None acts (rows ++ next ∷ []) (next + 1)).next grown fit in
        let new = T.under_new (next + 1) next (omega arith) in
        let sure = both_true (is_sure (length rows) e) (are_sound_actions states (length rows + 1) acts) goods.sound in
        let leaves = both_true (T.leaf (term.Len a)) (all_leaves T.leaf e) (both_true (T.leaf (term.Len a) && all_leaves T.leaf e) (actions_leaves T.leaf acts) goods.leaves).0 in
        let numbers = (both_true (action_leaves is_word_leaf (Read a e)) (actions_leaves is_word_leaf acts) goods.numbers).0 in
        let operand = T.operands rows e next all (bound_in rows e (both_true (is_bound (length rows) e) (is_undivided e) sure.0).0) (both_true true (has_words e) numbers).1 (omega (arith, few)) leaves.1 fit_next in
        let w : Operand = operand_in (lowered_term rows e next t).form next in
        in_join T.passes (read_block a (lowered_term rows e next t) next) (acts_piece scope states t stop tail None acts (rows ++ next ∷ []) (next + 1)).block
        (in_join T.passes (operand_block (lowered_term rows e next t) next) (loop.Cons (loop.Read next a w) loop.Nil) operand.0
        (true_both (T.passes (Var next) && (T.passes (loop.Len a) && operand_leaves T.passes w)) true
        (true_both (T.passes (Var next)) (T.passes (loop.Len a) && operand_leaves T.passes w) (T.var (next + 1) next new fit_next) (true_both (T.passes (loop.Len a)) (operand_leaves T.passes w) (T.array a leaves.0) operand.1)) refl))
        (acts_in acts tail None (rows ++ next ∷ []) (next + 1) good tt (more_acts (Read a e) acts rows next goods refl) (push_under rows next (next + 1) next (omega arith) all new) (omega (arith, le)) (omega (arith, deep, length_last rows next)) (λ q. omega (arith, wide q, length_last rows next)) fit)
    acts_in (Cons (KeepIf e) acts) tail held rows next good h goods all le deep wide fit =
        let good_e = held_good held e rows h (sure_good e acts (KeepIf e) rows goods refl refl (omega arith) refl) in
        test_in (known_truth tail.has_loop (tested held e)) (lowered_test rows (tested held e) next t) next (λ n. acts_piece scope states t stop tail None acts rows n) loop.Nil
        (λ n q. acts_grow scope states t stop tail None acts rows n (good.grows q)) refl
        (λ fit_in. condition_in rows (tested held e) next all good_e fit_in)
        (λ n more most. acts_in acts tail None rows n good tt (rest_acts (KeepIf e) acts rows goods refl) (all_more rows next n more all) (omega (arith, le, more)) deep (λ q. omega (arith, wide q)) most) fit
    acts_in (Cons (StopUnless e) acts) tail held rows next good h goods all le deep wide fit =
        let good_e = held_good held e rows h (sure_good e acts (StopUnless e) rows goods refl refl (omega arith) refl) in
        test_in (known_truth tail.has_loop (tested held e)) (lowered_test rows (tested held e) next t) next (λ n. acts_piece scope states t stop tail None acts rows n) stop
        (λ n q. acts_grow scope states t stop tail None acts rows n (good.grows q)) stop_in
        (λ fit_in. condition_in rows (tested held e) next all good_e fit_in)
        (λ n more most. acts_in acts tail None rows n good tt (rest_acts (StopUnless e) acts rows goods refl) (all_more rows next n more all) (omega (arith, le, more)) deep (λ q. omega (arith, wide q)) most) fit
    acts_in (Cons (Update k es) acts) tail held rows next good h goods all le deep wide fit =
        let sound = both_true (is_sound_action states (length rows) (Update k es)) (are_sound_actions states (length rows + 0) acts) goods.sound in
        let parts = both_true (nat_le (k + length es) states) (all_sure (length rows) es) sound.0 in
        let within = leb-true (k + length es) states parts.0 in
        let few = goods.few in
        let grown = words_grow rows t es (scope + k) next in
        update_in (may_wait scope states k es acts) (words_piece rows t (scope + k) es next) (λ n. acts_piece scope states t stop tail None acts rows n)
        (λ n q. acts_grow scope states t stop tail None acts rows n (good.grows q))
        (λ most. words_in rows es (scope + k) next all (omega (arith, within, deep)) (record {
          bound = row_bound_in rows es (both_true (all_bound (length rows) es) (all_undivided es) parts.1).0;
          numbers = (both_true (action_leaves is_word_leaf (Update k es)) (actions_leaves is_word_leaf acts) goods.numbers).0;
          few = omega (arith, few);
          leaves = (both_true (action_leaves T.leaf (Update k es)) (actions_leaves T.leaf acts) goods.leaves).0;
        }) most)
        (λ most. acts_in acts tail None rows (words_piece rows t (scope + k) es next).next good tt (rest_acts (Update k es) acts rows goods refl) (all_more rows next (words_piece rows t (scope + k) es next).next grown all) (omega (arith, le, grown)) deep (λ q. omega (arith, wide q)) most) fit
    acts_in (Cons (When e a b) acts) tail held rows next good h goods all le deep wide fit =
        picked (is_none b && never_go_on a) (is_none a && never_go_on b) _ _ _ (λ p. T.fits p.next → InBlock p.block)
        (λ is most. first (acts_in a) (acts_in acts) most) (λ no is most. second (acts_in b) (acts_in acts) most) (λ no other most. both (acts_in a) (acts_in b) (acts_in acts) most) fit
      where
        sound : (IsTrue (is_bound (length rows) e) × IsTrue (is_undivided e)) × (IsTrue (are_sound_actions states (length rows) a) × IsTrue (are_sound_actions states (length rows) b))
        sound =
            let m = both_true (is_sure (length rows) e && (are_sound_actions states (length rows) a && are_sound_actions states (length rows) b)) (are_sound_actions states (length rows + 0) acts) goods.sound in
            let n = both_true (is_sure (length rows) e) (are_sound_actions states (length rows) a && are_sound_actions states (length rows) b) m.0 in
            (both_true (is_bound (length rows) e) (is_undivided e) n.0, both_true (are_sound_actions states (length rows) a) (are_sound_actions states (length rows) b) n.1)

        leaf_parts : (test : Term → Bool) → IsTrue (actions_leaves test (Cons (When e a b) acts)) → IsTrue (all_leaves test e) × (IsTrue (actions_leaves test a) × IsTrue (actions_leaves test b))
        leaf_parts test is =
            let m = both_true (all_leaves test e && (actions_leaves test a && actions_leaves test b)) (actions_leaves test acts) is in
            let n = both_true (all_leaves test e) (actions_leaves test a && actions_leaves test b) m.0 in
            (n.0, both_true (actions_leaves test a) (actions_leaves test b) n.1)

        good_e : IsGood rows e
        good_e = let few = goods.few in record { bound = bound_in rows e sound.0.0; numbers = (leaf_parts is_word_leaf goods.numbers).0; few = omega (arith, few); leaves = (leaf_parts T.leaf goods.leaves).0 }

        good_a : AreGoodActs a rows
        good_a = let few = goods.few in record { sound = sound.1.0; numbers = (leaf_parts is_word_leaf goods.numbers).1.0; few = omega (arith, few); leaves = (leaf_parts T.leaf goods.leaves).1.0 }

        good_b : AreGoodActs b rows
        good_b = let few = goods.few in record { sound = sound.1.1; numbers = (leaf_parts is_word_leaf goods.numbers).1.1; few = omega (arith, few); leaves = (leaf_parts T.leaf goods.leaves).1.1 }

        good_rest : AreGoodActs acts rows
        good_rest = rest_acts (When e a b) acts rows goods refl

        at_start : next ≤ behind_scratch (lowered_test rows e next t) next
        at_start = scratch_least (lowered_test rows e next t) next

        alone : (d : Actions) → ActsIn d → AreGoodActs d rows → T.fits (acts_piece scope states t stop nowhere None d rows (behind_scratch (lowered_test rows e next t) next)).next → InBlock (acts_piece scope states t stop nowhere None d rows (behind_scratch (lowered_test rows e next t) next)).block
        alone d ihd goods_d most = ihd nowhere None rows (behind_scratch (lowered_test rows e next t) next) nowhere_good tt goods_d (all_more rows next (behind_scratch (lowered_test rows e next t) next) at_start all) (omega (arith, le, at_start)) deep (λ q. omega arith) most

        behind_it : (n : ℕ) → next ≤ n → ActsIn acts → T.fits (acts_piece scope states t stop tail None acts rows n).next → InBlock (acts_piece scope states t stop tail None acts rows n).block
        behind_it n more ih most = ih tail None rows n good tt good_rest (all_more rows next n more all) (omega (arith, le, more)) deep (λ q. omega (arith, wide q)) most

        first : ActsIn a → ActsIn acts → T.fits (acts_piece scope states t stop tail None acts rows (acts_piece scope states t stop nowhere None a rows (behind_scratch (lowered_test rows e next t) next)).next).next → InBlock (choose (lowered_test rows e next t) (acts_piece scope states t stop nowhere None a rows (behind_scratch (lowered_test rows e next t) next)).block (acts_piece scope states t stop tail None acts rows (acts_piece scope states t stop nowhere None a rows (behind_scratch (lowered_test rows e next t) next)).next).block)
        first iha ih most =
            let two = acts_grow scope states t stop nowhere None a rows (behind_scratch (lowered_test rows e next t) next) nowhere_grows in
            let three = λ (q : T.counts). acts_grow scope states t stop tail None acts rows (acts_piece scope states t stop nowhere None a rows (behind_scratch (lowered_test rows e next t) next)).next (good.grows q) in
            let fit_branch = T.fits_less (acts_piece scope states t stop nowhere None a rows (behind_scratch (lowered_test rows e next t) next)).next (acts_piece scope states t stop tail None acts rows (acts_piece scope states t stop nowhere None a rows (behind_scratch (lowered_test rows e next t) next)).next).next three most in
            in_choose T.passes (lowered_test rows e next t) (acts_piece scope states t stop nowhere None a rows (behind_scratch (lowered_test rows e next t) next)).block (acts_piece scope states t stop tail None acts rows (acts_piece scope states t stop nowhere None a rows (behind_scratch (lowered_test rows e next t) next)).next).block
            (condition_in rows e next all good_e (T.fits_less (behind_scratch (lowered_test rows e next t) next) (acts_piece scope states t stop nowhere None a rows (behind_scratch (lowered_test rows e next t) next)).next (λ q. two) fit_branch))
            (alone a iha good_a fit_branch) (behind_it (acts_piece scope states t stop nowhere None a rows (behind_scratch (lowered_test rows e next t) next)).next (omega (arith, at_start, two)) ih most)

        second : ActsIn b → ActsIn acts → T.fits (acts_piece scope states t stop tail None acts rows (acts_piece scope states t stop nowhere None b rows (behind_scratch (lowered_test rows e next t) next)).next).next → InBlock (choose (lowered_test rows e next t) (acts_piece scope states t stop tail None acts rows (acts_piece scope states t stop nowhere None b rows (behind_scratch (lowered_test rows e next t) next)).next).block (acts_piece scope states t stop nowhere None b rows (behind_scratch (lowered_test rows e next t) next)).block)
        second ihb ih most =
            let two = acts_grow scope states t stop nowhere None b rows (behind_scratch (lowered_test rows e next t) next) nowhere_grows in
            let three = λ (q : T.counts). acts_grow scope states t stop tail None acts rows (acts_piece scope states t stop nowhere None b rows (behind_scratch (lowered_test rows e next t) next)).next (good.grows q) in
            let fit_branch = T.fits_less (acts_piece scope states t stop nowhere None b rows (behind_scratch (lowered_test rows e next t) next)).next (acts_piece scope states t stop tail None acts rows (acts_piece scope states t stop nowhere None b rows (behind_scratch (lowered_test rows e next t) next)).next).next three most in
            in_choose T.passes (lowered_test rows e next t) (acts_piece scope states t stop tail None acts rows (acts_piece scope states t stop nowhere None b rows (behind_scratch (lowered_test rows e next t) next)).next).block (acts_piece scope states t stop nowhere None b rows (behind_scratch (lowered_test rows e next t) next)).block
            (condition_in rows e next all good_e (T.fits_less (behind_scratch (lowered_test rows e next t) next) (acts_piece scope states t stop nowhere None b rows (behind_scratch (lowered_test rows e next t) next)).next (λ q. two) fit_branch))
            (behind_it (acts_piece scope states t stop nowhere None b rows (behind_scratch (lowered_test rows e next t) next)).next (omega (arith, at_start, two)) ih most) (alone b ihb good_b fit_branch)

        flag : ℕ
        flag = behind_scratch (lowered_test rows e (next + 1) t) (next + 1)

        on : Piece
        on = acts_piece scope states t stop (mark next) None a rows flag

        off : Piece
        off = acts_piece scope states t stop (mark next) None b rows on.next

        rest : Piece
        rest = acts_piece scope states t stop tail None acts rows off.next

        both : ActsIn a → ActsIn b → ActsIn acts → T.fits rest.next → InBlock (rejoined next (lowered_test rows e (next + 1) t) on off rest).block
        both iha ihb ih most =
            let one = scratch_least (lowered_test rows e (next + 1) t) (next + 1) in
            let two = acts_grow scope states t stop (mark next) None a rows flag (mark_grows next) in
            let three = acts_grow scope states t stop (mark next) None b rows on.next (mark_grows next) in
            let four = λ (q : T.counts). acts_grow scope states t stop tail None acts rows off.next (good.grows q) in
            let fit_off = T.fits_less off.next rest.next four most in
            let fit_on = T.fits_less on.next off.next (λ q. three) fit_off in
            let fit_flag = T.fits_less flag on.next (λ q. two) fit_on in
            let fit_next = T.fits_less (next + 1) flag (λ q. one) fit_flag in
            let at_mark = T.var (next + 1) next (T.under_new (next + 1) next (omega arith)) fit_next in
            let zero : IsTrue (T.passes (Const 0)) = T.small 0 (omega arith) in
            let goods_mark = mark_good next fit_next in
            let choice : Block = choose (lowered_test rows e (next + 1) t) on.block off.block in
            let test : Block = loop.Cons (loop.If (loop.Not (loop.Same (Var next) (Const 0))) rest.block loop.Nil) loop.Nil in
            in_join T.passes (set next (Const 0)) (join choice test) (in_set T.passes next (Const 0) at_mark zero)
            (in_join T.passes choice test
            (in_choose T.passes (lowered_test rows e (next + 1) t) on.block off.block
            (condition_in rows e (next + 1) (all_more rows next (next + 1) (omega arith) all) good_e fit_flag)
            (iha (mark next) None rows flag goods_mark tt good_a (all_more rows next flag (omega (arith, one)) all) (omega (arith, le, one)) deep (λ q. omega arith) fit_on)
            (ihb (mark next) None rows on.next goods_mark tt good_b (all_more rows next on.next (omega (arith, one, two)) all) (omega (arith, le, one, two)) deep (λ q. omega arith) fit_off))
            (in_if T.passes (loop.Not (loop.Same (Var next) (Const 0))) rest.block loop.Nil (true_both (T.passes (Var next)) (T.passes (Const 0)) at_mark zero)
            (behind_it off.next (omega (arith, one, two, three)) ih most) refl))
