-- Words that are set one by one.
use Rattle.std.proofs.Common.{◌≡◌, ℕ, ◌+◌, ◌-◌, ◌<◌, ◌≤◌, ◌^◌, max, Option, None, Bool, true, false, cond, ◌||◌, List, [], ◌∷◌, length, refl, sym, ap, subst, ◌∙◌, arith}
use Rattle.std.specs.Prelude.{IsTrue, slice_index, is_some}
use Rattle.std.proofs.Common.{◌++◌, Some}
use Rattle.std.specs.Prelude.{slice_get}
use Rattle.strm_num.proofs.Truths.{both_true}
use Rattle.list_denotation.specs.declared.expr.Expr.{Expr}
use Rattle.list_denotation.specs.Copies.{terms_of}
use Rattle.list_denotation.specs.Counts.{term_depth}
use Rattle.list_denotation.specs.Scopes.{is_bound, all_bound}
use Rattle.list_denotation.specs.Terms.{Term, If}
use Rattle.loop_ir.specs.declared.syntax.Stmt.{Stmt}
use Rattle.loop_ir.specs.declared.syntax.Stmt.TheVariants as stmt
use Rattle.loop_ir.specs.declared.syntax.W.TheVariants as w
use Rattle.loop_ir.specs.Statements.{Var, join}
use Rattle.loop_ir.specs.StatementCopies.{block_of}
use Rattle.loop_ir.proofs.Copies.{set_push}
use Rattle.state_alloc.specs.declared.slots.Slots.{Slots}
use Rattle.expr_constants.specs.Constants.{constant_of}
use Rattle.expr_lower.specs.Costs.{temps_of}
use Rattle.expr_lower.specs.Lowering.{lowered_into}
use Rattle.expr_phrases.specs.Phrases.{set}
use Rattle.expr_phrases.specs.PhraseCopies.{Appends}
use Rattle.turn_blocks.specs.Pieces.{behind}
use Rattle.turn_blocks.specs.StateBlocks.{is_word, word_block, word_needs, words_piece}
use Rattle.turn_blocks.specs.WordUses.{avoids, row_avoids}
use Rattle.row_emit.specs.Settings.{word_next, AreSettable}
use Rattle.row_emit.proofs.Appends.{appends_none, appends_more}
use Rattle.row_emit.proofs.Variables.{got_index}

next_grows : (b : Bool) (next : ℕ) → next ≤ cond b (next + 1) next
next_grows true next = omega arith
next_grows false next = omega arith

module _ (rows : List ℕ) (t : ℕ) where
  -- ---- what the statements of a row are, by what is done with its first word
  pub word_skipped : (k : ℕ) (e : Term) (es : List Term) (next : ℕ) → is_word k e ≡ true → words_piece rows t k (e ∷ es) next ≡ words_piece rows t (k + 1) es next
  word_skipped k e es next h = rw h refl

  pub word_straight : (k : ℕ) (e : Term) (es : List Term) (next : ℕ) → is_word k e ≡ false → row_avoids k es ≡ true → words_piece rows t k (e ∷ es) next ≡ behind (word_block rows t k next e) (words_piece rows t (k + 1) es (word_next rows t k e next))
  word_straight k e es next h r = rw (h, r) refl

  pub word_held : (k : ℕ) (e : Term) (es : List Term) (next : ℕ) → is_word k e ≡ false → row_avoids k es ≡ false → words_piece rows t k (e ∷ es) next ≡ record {
    block = join (lowered_into rows e next t) (join (words_piece rows t (k + 1) es (next + 1)).block (set (slice_index rows k) (Var next)));
    next = (words_piece rows t (k + 1) es (next + 1)).next;
  }
  word_held k e es next h r = rw (h, r) refl

  -- the first variable that is free doesn't fall
  pub words_grow : (k : ℕ) (es : List Term) (next : ℕ) → next ≤ (words_piece rows t k es next).next
  words_grow k [] next = omega arith
  words_grow k (e ∷ es) next = by_first (λ n. words_grow (k + 1) es n) (is_word k e) (row_avoids k es) refl refl
    where
      by_first : ((n : ℕ) → n ≤ (words_piece rows t (k + 1) es n).next) → (w r : Bool) → is_word k e ≡ w → row_avoids k es ≡ r → next ≤ (words_piece rows t k (e ∷ es) next).next
      by_first grow true r h q = omega (arith, ap (λ p. p.next) (word_skipped k e es next h), grow next)
      by_first grow false true h q =
          omega (arith, ap (λ p. p.next) (word_straight k e es next h q), next_grows (word_needs rows t k next e) next, grow (word_next rows t k e next))
      by_first grow false false h q = omega (arith, ap (λ p. p.next) (word_held k e es next h q), grow (next + 1))

  -- ---- what is appended

  pub empty_appends : (k : ℕ) (es : List Expr) (next : ℕ) (old : List Stmt) → length es < 1 → Appends old old (words_piece rows t k (terms_of es) next).block
  empty_appends k [] next old h = appends_none old
  empty_appends k (e ∷ es) next old h = absurd (omega (arith, h))

  pub straight_appends : (k : ℕ) (e : Term) (es : List Term) (next n : ℕ) (old mid new : List Stmt) → is_word k e ≡ false → row_avoids k es ≡ true → n ≡ word_next rows t k e next → Appends old mid (word_block rows t k next e) → Appends mid new (words_piece rows t (k + 1) es n).block → Appends old new (words_piece rows t k (e ∷ es) next).block
  straight_appends k e es next n old mid new h r is first more =
      appends_more old mid new (word_block rows t k next e) (words_piece rows t (k + 1) es (word_next rows t k e next)).block first (more ∙ ap (λ m. join (block_of mid) (words_piece rows t (k + 1) es m).block) is)
      ∙ ap (λ p. join (block_of old) p.block) (sym (word_straight k e es next h r))

  pub held_appends : (k : ℕ) (e : Term) (es : List Term) (next v : ℕ) (old first more new : List Stmt) → is_word k e ≡ false → row_avoids k es ≡ false → slice_get rows k ≡ Some v → Appends old first (lowered_into rows e next t) → Appends first more (words_piece rows t (k + 1) es (next + 1)).block → new ≡ more ++ stmt.Set v (w.Var next) ∷ [] → Appends old new (words_piece rows t k (e ∷ es) next).block
  held_appends k e es next v old first more new h r at lowered rest is =
      ap block_of is
      ∙ appends_more old first (more ++ stmt.Set v (w.Var next) ∷ []) (lowered_into rows e next t) (join (words_piece rows t (k + 1) es (next + 1)).block (set (slice_index rows k) (Var next))) lowered
      (appends_more first more (more ++ stmt.Set v (w.Var next) ∷ []) (words_piece rows t (k + 1) es (next + 1)).block (set (slice_index rows k) (Var next)) rest
      (set_push more v (w.Var next) ∙ ap (λ x. join (block_of more) (set x (Var next))) (sym (got_index rows k v at))))
      ∙ ap (λ p. join (block_of old) p.block) (sym (word_held k e es next h r))

-- ---- what is asked for, of the rest of a row

module _ (slots : Slots) (k : ℕ) (e : Term) (es : List Term) (next : ℕ) (can : AreSettable slots k (e ∷ es) next) where
  pub first_bound : IsTrue (is_bound (length slots.rows) e)
  first_bound = (both_true (is_bound (length slots.rows) e) (all_bound (length slots.rows) es) can.bound).0

  rest_bound : IsTrue (all_bound (length slots.rows) es)
  rest_bound = (both_true (is_bound (length slots.rows) e) (all_bound (length slots.rows) es) can.bound).1

  pub first_temps : temps_of e ≤ slots.temps
  first_temps = omega (arith, can.temporaries)

  settable : (n : ℕ) → slots.next ≤ n → (words_piece slots.rows slots.first_temp (k + 1) es n).next < 2 ^ 32 → AreSettable slots (k + 1) es n
  settable n free room = record {
    words = omega (arith, can.words);
    few = omega (arith, can.few);
    bound = rest_bound;
    temporaries = omega (arith, can.temporaries);
    free = free;
    room = room;
  }

  pub settable_skipped : is_word k e ≡ true → AreSettable slots (k + 1) es next
  settable_skipped h = settable next can.free (subst (λ p. p.next < 2 ^ 32) (word_skipped slots.rows slots.first_temp k e es next h) can.room)

  pub settable_straight : is_word k e ≡ false → row_avoids k es ≡ true → AreSettable slots (k + 1) es (word_next slots.rows slots.first_temp k e next)
  settable_straight h r =
      settable (word_next slots.rows slots.first_temp k e next) (omega (arith, can.free, next_grows (word_needs slots.rows slots.first_temp k next e) next))
      (subst (λ p. p.next < 2 ^ 32) (word_straight slots.rows slots.first_temp k e es next h r) can.room)

  pub settable_held : is_word k e ≡ false → row_avoids k es ≡ false → AreSettable slots (k + 1) es (next + 1)
  settable_held h r =
      settable (next + 1) (omega (arith, can.free)) (subst (λ p. p.next < 2 ^ 32) (word_held slots.rows slots.first_temp k e es next h r) can.room)

  pub straight_room : is_word k e ≡ false → row_avoids k es ≡ true → word_next slots.rows slots.first_temp k e next < 2 ^ 32
  straight_room h r =
      omega (arith, (settable_straight h r).room, words_grow slots.rows slots.first_temp (k + 1) es (word_next slots.rows slots.first_temp k e next))

  pub held_room : is_word k e ≡ false → row_avoids k es ≡ false → next + 1 < 2 ^ 32
  held_room h r = omega (arith, (settable_held h r).room, words_grow slots.rows slots.first_temp (k + 1) es (next + 1))

-- ---- choices

or_false : (a b : Bool) → (a || b) ≡ false → b ≡ false
or_false true b h = absurd cc
or_false false b h = h

none_known : (c : Option ℕ) → is_some c ≡ false → c ≡ None
none_known None h = refl
none_known (Some x) h = absurd cc

-- the parts of a choice that is made by a test have no more temporaries than it
pub parts_fit : (k top : ℕ) (e c a b : Term) → e ≡ If c a b → (avoids k e || is_some (constant_of c)) ≡ false → temps_of e ≤ top → (temps_of c ≤ top) × ((temps_of a ≤ top) × (temps_of b ≤ top))
parts_fit k top e c a b is whole few =
    let unknown : constant_of c ≡ None = none_known (constant_of c) (or_false (avoids k e) (is_some (constant_of c)) whole) in
    let all : temps_of (If c a b) ≡ max (temps_of c) (max (temps_of a) (temps_of b)) = rw unknown refl in
    let same : temps_of e ≡ max (temps_of c) (max (temps_of a) (temps_of b)) = ap temps_of is ∙ all in
    (omega (arith, same, few), (omega (arith, same, few), omega (arith, same, few)))

-- and are less deep
pub parts_shallow : (e c a b : Term) → e ≡ If c a b → (term_depth a < term_depth e) × (term_depth b < term_depth e)
parts_shallow e c a b is = (omega (arith, ap term_depth is), omega (arith, ap term_depth is))

-- variables that are taken up to the one behind those that were used
pub taken : (rows : List ℕ) (t k : ℕ) (es : List Term) (next after now : ℕ) → after ≡ (words_piece rows t k es next).next → now ≡ next + (after - next) → now ≡ (words_piece rows t k es next).next
taken rows t k es next after now is reserved = omega (arith, is, reserved, words_grow rows t k es next)
