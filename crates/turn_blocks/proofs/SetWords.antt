-- The statements that set words to the values of expressions over words: each word has its value then, or the run is over at the
-- first fault. No other variable that was given out has changed, but for temporaries.
--
-- An expression may read words that pass a test. Each of them stands in its variable, and in the variable of a word that is set
-- only if it is that word.
use Rattle.std.proofs.Common.{◌≡◌, ◌≢◌, ℕ, zero, suc, ◌+◌, ◌<◌, ◌≤◌, ◌^◌, Bool, true, false, ◌&&◌, ◌||◌, List, [], ◌∷◌, length, refl, sym, ap, ◌∙◌, subst, inl, inr, arith}
use Rattle.std.specs.Prelude.{IsTrue, not, slice_index, slice_set, if◌then◌else◌, Option, Some, None}
use Rattle.std.proofs.lemmas.Bool.{eqb-true, ltb-true}
use Rattle.std.proofs.lemmas.List.{get_or-set_same, get_or-set_other, length-set}
use Rattle.strm_num.proofs.Truths.{both_true, true_both}
use Rattle.strm_num.specs.Words.{IsWord}
use Rattle.list_denotation.specs.declared.input.Input.{Input}
use Rattle.list_denotation.specs.Leaves.{all_leaves}
use Rattle.list_denotation.specs.Literals.{has_words, all_have_words}
use Rattle.list_denotation.specs.Observation.{Failed}
use Rattle.list_denotation.specs.Scopes.{is_bound, is_bound_leaf, all_bound}
use Rattle.list_denotation.specs.Terms as term
use Rattle.list_denotation.specs.Terms.{Term}
use Rattle.list_denotation.specs.Values.{Got, Is, Fails, with_value, choice, value, row_value}
use Rattle.loop_ir.specs.Statements.{Operand, Var, Test, If, Block, Nil, Cons, join}
use Rattle.loop_ir.specs.Meaning.{Runs, Over, operand_value, test_value, run}
use Rattle.loop_ir.proofs.Joins.{is_over}
use Rattle.state_alloc.specs.Layouts.{IsTemporary, IsWordVariable, IsLaidOut}
use Rattle.expr_constants.specs.Constants.{constant_of}
use Rattle.expr_lower.specs.Contract.{IsTarget}
use Rattle.expr_lower.specs.Costs.{is_plain}
use Rattle.expr_forms.specs.Forms.{Condition, is_empty}
use Rattle.expr_lower.specs.Lowering.{lowered_into, lowered_test}
use Rattle.expr_lower.specs.PlainWords.{plain_word}
use Rattle.expr_lower.specs.Scopes.{IsUnreadLeaf}
use Rattle.expr_phrases.specs.Phrases.{set}
use Rattle.stateful_core.specs.CoreLeaves.{row_leaves}
use Rattle.stateful_core.specs.MostWords.{is_other_leaf}
use Rattle.turn_blocks.specs.Laws.{Laws}
use Rattle.turn_blocks.specs.Pieces.{behind, choose}
use Rattle.turn_blocks.specs.StateBlocks.{chosen_word, is_word, is_whole, is_straight, leaf_block, leaf_needs, word_block, word_needs, words_piece}
use Rattle.turn_blocks.specs.Temporaries.{row_temps}
use Rattle.turn_blocks.specs.TurnContract.{HasWordInputs}
use Rattle.turn_blocks.specs.WordUses.{avoids, row_avoids}
use Rattle.turn_blocks.proofs.LeafTests.{each_leaf, leaves_of_both, row_of_both}
use Rattle.turn_blocks.proofs.PieceSizes.{picked, words_grow}
use Rattle.turn_blocks.proofs.StateTests.{either_true, other_word}
use Rattle.turn_blocks.proofs.Temporaries.{choice_temps}
use Rattle.turn_blocks.proofs.Values.{not_temporary, passes_on, if_runs, set_runs, Untouched, IsFit, Readable, scope_at, in_place, Put, Puts, Tells, fresh, value_puts, condition_tells}

-- an expression that is a word reads it
chosen_leaf : (k : ℕ) (test : Term → Bool) (known : Option ℕ) (c a b : Term) → chosen_word known (is_word k a) (is_word k b) ≡ true → (is_word k a ≡ true → IsTrue (all_leaves test a) → IsTrue (test (term.Var k))) → (is_word k b ≡ true → IsTrue (all_leaves test b) → IsTrue (test (term.Var k))) → IsTrue (all_leaves test (term.If c a b)) → IsTrue (test (term.Var k))
chosen_leaf k test (Some zero) c a b h on off leaves =
    off h (both_true (all_leaves test a) (all_leaves test b) (both_true (all_leaves test c) (all_leaves test a && all_leaves test b) leaves).1).1
chosen_leaf k test (Some (suc x)) c a b h on off leaves =
    on h (both_true (all_leaves test a) (all_leaves test b) (both_true (all_leaves test c) (all_leaves test a && all_leaves test b) leaves).1).0
chosen_leaf k test None c a b h on off leaves = absurd cc

word_leaf : (k : ℕ) (test : Term → Bool) (e : Term) → is_word k e ≡ true → IsTrue (all_leaves test e) → IsTrue (test (term.Var k))
word_leaf k test (term.Var j) h leaves = subst (λ m. IsTrue (test (term.Var m))) (eqb-true j k h) leaves
word_leaf k test (term.If c a b) h leaves = chosen_leaf k test (constant_of c) c a b h (word_leaf k test a) (word_leaf k test b) leaves
word_leaf k test _ h leaves = absurd cc

-- and its value is the word
module _ (laws : Laws) (inputs : List Input) (words : List ℕ) (k : ℕ) where
  abbrev IsWordValue : Term → Type 0
  IsWordValue e = is_word k e ≡ true → value e words inputs ≡ Is (slice_index words k)

  chosen_value : (known : Option ℕ) (c a b : Term) → constant_of c ≡ known → chosen_word known (is_word k a) (is_word k b) ≡ true → IsWordValue a → IsWordValue b → value (term.If c a b) words inputs ≡ Is (slice_index words k)
  chosen_value (Some zero) c a b is h on off = ap (λ g. with_value g (λ x. choice x (value b words inputs) (value a words inputs))) (laws.constant_value c 0 words inputs is) ∙ off h
  chosen_value (Some (suc x)) c a b is h on off = ap (λ g. with_value g (λ y. choice y (value b words inputs) (value a words inputs))) (laws.constant_value c (suc x) words inputs is) ∙ on h
  chosen_value None c a b is h on off = absurd cc

  word_value : (e : Term) → is_word k e ≡ true → value e words inputs ≡ Is (slice_index words k)
  word_value (term.Var j) h = ap (λ m. Is (slice_index words m)) (eqb-true j k h)
  word_value (term.If c a b) h = chosen_value (constant_of c) c a b refl h (word_value a) (word_value b)
  word_value _ h = absurd cc

-- the leaves that pass a test and are another word
abbrev pub without : (Term → Bool) → ℕ → Term → Bool
without test k x = test x && is_other_leaf k 1 x

without_both : (test : Term → Bool) (k : ℕ) (x : Term) → IsTrue (test x) → IsTrue (is_other_leaf k 1 x) → IsTrue (without test k x)
without_both test k x h q = true_both (test x) (is_other_leaf k 1 x) h q

pub row_without : (test : Term → Bool) (k : ℕ) (es : List Term) → IsTrue (row_leaves test es) → IsTrue (row_avoids k es) → IsTrue (row_leaves (without test k) es)
row_without test k es h q = row_of_both test (is_other_leaf k 1) (without test k) (without_both test k) es h q

-- a word that passes the test and is another one
record IsOther (test : Term → Bool) (k m : ℕ) : Type 0 where
  passes : IsTrue (test (term.Var m))
  other : m ≢ k

is_other : (test : Term → Bool) (k m : ℕ) → IsTrue (without test k (term.Var m)) → IsOther test k m
is_other test k m h =
    let p = both_true (test (term.Var m)) (is_other_leaf k 1 (term.Var m)) h in
    record { passes = p.0; other = elim (other_word k 1 m p.1) [ inl before ↦ (λ e. omega (arith, before, e)) | inr behind ↦ (λ e. omega (arith, behind, e)) ] }

module _ (laws : Laws) (inputs : List Input) (small : HasWordInputs inputs) (t temps : ℕ) where
  -- ---- statements that put a value into a target

  abbrev PutsTo : Block → ℕ → ℕ → List ℕ → Got ℕ → Type 0
  PutsTo block target next env g = Puts laws inputs small t temps block target next env g

  abbrev Kept : ℕ → List ℕ → List ℕ → Type 0
  Kept next env env' = Untouched laws inputs small t temps next env env'

  set_puts : (env : List ℕ) (v next x : ℕ) (w : Operand) → v < length env → IsWord x → operand_value inputs w env ≡ Is x → Put laws inputs small t temps (set v w) v next env x
  set_puts env v next x w inside word is = record {
    env' = slice_set env v x;
    runs = λ left. set_runs inputs v w env x left is;
    same = length-set env v x;
    kept = λ u lt none other. get_or-set_other env v u x 0 other;
    word = word;
    is = get_or-set_same env v x 0 inside;
  }

  -- behind statements that leave all variables that were given out
  puts_behind : (a b : Block) (env env' : List ℕ) (target next : ℕ) (g : Got ℕ) → ((left : ℕ) → run inputs a env left ≡ Runs [] env' left) → length env' ≡ length env → Kept next env env' → PutsTo b target next env' g → PutsTo (join a b) target next env g
  puts_behind a b env env' target next (Is x) runs same kept h = record {
    env' = h.env';
    runs = λ left. passes_on inputs a b env env' left (Runs [] h.env' left) (runs left) (h.runs left);
    same = h.same ∙ same;
    kept = λ v lt none other. h.kept v lt none other ∙ kept v lt none;
    word = h.word;
    is = h.is;
  }
  puts_behind a b env env' target next (Fails f) runs same kept h = λ left. passes_on inputs a b env env' left (Over [] (Failed f)) (runs left) (h left)

  if_puts : (c : Test) (on off : Block) (env : List ℕ) (target next : ℕ) (g : Got ℕ) (truth : Bool) → test_value inputs c env ≡ Is truth → PutsTo (if truth then on else off) target next env g → PutsTo (Cons (If c on off) Nil) target next env g
  if_puts c on off env target next (Is x) true is h = record { env' = h.env'; runs = λ left. if_runs inputs c on off env left true is ∙ h.runs left; same = h.same; kept = h.kept; word = h.word; is = h.is }
  if_puts c on off env target next (Is x) false is h = record { env' = h.env'; runs = λ left. if_runs inputs c on off env left false is ∙ h.runs left; same = h.same; kept = h.kept; word = h.word; is = h.is }
  if_puts c on off env target next (Fails f) true is h = λ left. if_runs inputs c on off env left true is ∙ h left
  if_puts c on off env target next (Fails f) false is h = λ left. if_runs inputs c on off env left false is ∙ h left

  -- a choice puts the value of the branch that is chosen
  choose_puts : (c : Condition) (on off : Block) (env : List ℕ) (target next : ℕ) (g ga gb : Got ℕ) → Tells laws inputs small t temps c next env g → ((env' : List ℕ) → Kept next env env' → length env' ≡ length env → PutsTo on target next env' ga) → ((env' : List ℕ) → Kept next env env' → length env' ≡ length env → PutsTo off target next env' gb) → PutsTo (choose c on off) target next env (with_value g (λ x. choice x gb ga))
  choose_puts c on off env target next (Is zero) ga gb h first second =
      puts_behind c.block (Cons (If c.test on off) Nil) env h.env' target next gb h.runs h.same h.kept (if_puts c.test on off h.env' target next gb false h.is (second h.env' h.kept h.same))
  choose_puts c on off env target next (Is (suc x)) ga gb h first second =
      puts_behind c.block (Cons (If c.test on off) Nil) env h.env' target next ga h.runs h.same h.kept (if_puts c.test on off h.env' target next ga true h.is (first h.env' h.kept h.same))
  choose_puts c on off env target next (Fails f) ga gb h first second = λ left. is_over inputs c.block (Cons (If c.test on off) Nil) [] (Failed f) env left (h left)

  -- a value by way of a scratch variable
  scratch_puts : (block : Block) (env : List ℕ) (target next : ℕ) (g : Got ℕ) → target < length env → PutsTo block next next env g → PutsTo (join block (set target (Var next))) target next env g
  scratch_puts block env target next (Is x) inside h = record {
    env' = slice_set h.env' target x;
    runs = λ left. passes_on inputs block (set target (Var next)) env h.env' left (Runs [] (slice_set h.env' target x) left) (h.runs left) (set_runs inputs target (Var next) h.env' x left (ap Is h.is));
    same = length-set h.env' target x ∙ h.same;
    kept = λ v lt none other. get_or-set_other h.env' target v x 0 other ∙ h.kept v lt none (λ e. omega (arith, lt, e));
    word = h.word;
    is = get_or-set_same h.env' target x 0 (subst (λ n. target < n) (sym h.same) inside);
  }
  scratch_puts block env target next (Fails f) inside h = λ left. is_over inputs block (set target (Var next)) [] (Failed f) env left (h left)

  -- ---- a word

  module _ (rows words : List ℕ) where
    abbrev Fits : (Term → Bool) → Term → Type 0
    Fits test e = IsFit laws inputs small t temps rows test e

    abbrev Reads : (Term → Bool) → List ℕ → Type 0
    Reads test env = Readable laws inputs small t temps rows words test env

    -- words that are read stand in the variable of word k only if they are that word
    abbrev pub IsAlone : (Term → Bool) → ℕ → Type 0
    IsAlone test k = (m : ℕ) → m < length rows → IsTrue (test (term.Var m)) → slice_index rows m ≡ slice_index rows k → m ≡ k

    -- words that are read stand there still
    still_read : (test : Term → Bool) (next : ℕ) (env env' : List ℕ) → IsLaidOut rows t temps next → Kept next env env' → Reads test env → Reads test env'
    still_read test next env env' laid_out kept reads k lt h =
        let there = reads k lt h in
        let at = laid_out.words k 0 lt in
        record { same = kept (slice_index rows k) at.below at.apart ∙ there.same; word = there.word }

    module _ (k s : ℕ) (laid_out : IsLaidOut rows t temps s) (lt : k < length rows) where
      variable : IsWordVariable t temps s (slice_index rows k)
      variable = laid_out.words k 0 lt

      module _ (test : Term → Bool) (alone : IsAlone test k) where
        avoiding_target : (e : Term) → Fits test e → IsTrue (avoids k e) → IsTarget (scope_at laws inputs small t temps rows) e (slice_index rows k)
        avoiding_target e fit avoid = record {
          outside = not_temporary t temps (slice_index rows k) variable.apart;
          unread = each_leaf (is_bound_leaf (length rows)) (without test k) (IsUnreadLeaf rows (slice_index rows k)) leaf e fit.bound (leaves_of_both test (is_other_leaf k 1) (without test k) (without_both test k) e fit.leaves avoid);
        }
          where
            leaf : (x : Term) → IsTrue (is_bound_leaf (length rows) x) → IsTrue (without test k x) → IsUnreadLeaf rows (slice_index rows k) x
            leaf (term.Var m) b h = let o = is_other test k m h in λ same. o.other (alone m (ltb-true m (length rows) b) o.passes same)
            leaf _ b h = tt

        -- an expression that doesn't read the word
        avoiding : (e : Term) (env : List ℕ) → Fits test e → Reads test env → s ≤ length env → IsTrue (avoids k e) → PutsTo (lowered_into rows e (slice_index rows k) t) (slice_index rows k) s env (value e words inputs)
        avoiding e env fit reads room avoid =
            value_puts laws inputs small t temps rows words test e fit (slice_index rows k) s env laid_out reads (avoiding_target e fit avoid) (omega (arith, variable.below, room)) room

        -- a plain one, which may read it
        plain : (e : Term) (env : List ℕ) → Fits test e → Reads test env → s ≤ length env → IsTrue (is_plain e) → PutsTo (lowered_into rows e (slice_index rows k) t) (slice_index rows k) s env (value e words inputs)
        plain e env fit reads room is =
            let stands = laws.plain_value rows words inputs env e is fit.words (in_place laws inputs small t temps rows words test e fit env reads) in
            let puts : PutsTo (set (slice_index rows k) (plain_word rows e)) (slice_index rows k) s env (Is stands.x) = set_puts env (slice_index rows k) s stands.x (plain_word rows e) (omega (arith, variable.below, room)) stands.word stands.is in
            subst (λ b. PutsTo b (slice_index rows k) s env (value e words inputs)) (sym (laws.plain_block (scope_at laws inputs small t temps rows) e (slice_index rows k) is))
            (subst (λ g. PutsTo (set (slice_index rows k) (plain_word rows e)) (slice_index rows k) s env g) (sym stands.value) puts)

        leaf_puts : (e : Term) (env : List ℕ) → Fits test e → Reads test env → s ≤ length env → (IsTrue (leaf_needs rows t k e) → s < length env) → PutsTo (leaf_block rows t k s e) (slice_index rows k) s env (value e words inputs)
        leaf_puts e env fit reads room needs = by_word (is_word k e) refl
          where
            by_straight : (b : Bool) → is_straight rows t k e ≡ b → (IsTrue (not b) → s < length env) → PutsTo (if b then lowered_into rows e (slice_index rows k) t else join (lowered_into rows e s t) (set (slice_index rows k) (Var s))) (slice_index rows k) s env (value e words inputs)
            by_straight true is need = elim (either_true (is_plain e) (avoids k e) is) [
              | inl simple ↦ plain e env fit reads room simple
              | inr avoid ↦ avoiding e env fit reads room avoid
            ]
            by_straight false is need =
                scratch_puts (lowered_into rows e s t) env (slice_index rows k) s (value e words inputs) (omega (arith, variable.below, room))
                (value_puts laws inputs small t temps rows words test e fit s s env laid_out reads (fresh laws inputs small t temps rows words test e fit s laid_out) (need refl) room)

            needed : is_word k e ≡ false → IsTrue (not (is_straight rows t k e)) → IsTrue (leaf_needs rows t k e)
            needed is need = ap (λ b. not (b || is_straight rows t k e)) is ∙ need

            by_word : (b : Bool) → is_word k e ≡ b → PutsTo (if b then Nil else if is_straight rows t k e then lowered_into rows e (slice_index rows k) t else join (lowered_into rows e s t) (set (slice_index rows k) (Var s))) (slice_index rows k) s env (value e words inputs)
            by_word true is =
                let there = reads k lt (word_leaf k test e is fit.leaves) in
                let nothing : Put laws inputs small t temps Nil (slice_index rows k) s env (slice_index words k) = record { env' = env; runs = λ left. refl; same = refl; kept = λ v less none other. refl; word = there.word; is = there.same } in
                subst (λ g. PutsTo Nil (slice_index rows k) s env g) (sym (word_value laws inputs words k e is)) nothing
            by_word false is = by_straight (is_straight rows t k e) refl (λ need. needs (needed is need))

        fit_parts : (c a b : Term) → is_whole k c a b ≡ false → Fits test (term.If c a b) → Fits test c × (Fits test a × Fits test b)
        fit_parts c a b branched fit =
            let w = both_true (has_words c) (has_words a && has_words b) fit.words in
            let x = both_true (has_words a) (has_words b) w.1 in
            let m = both_true (is_bound (length rows) c) (is_bound (length rows) a && is_bound (length rows) b) fit.bound in
            let n = both_true (is_bound (length rows) a) (is_bound (length rows) b) m.1 in
            let p = both_true (all_leaves test c) (all_leaves test a && all_leaves test b) fit.leaves in
            let q = both_true (all_leaves test a) (all_leaves test b) p.1 in
            let few = fit.few in
            let parts = choice_temps k c a b branched in (
              record { words = w.0; bound = m.0; few = omega (arith, few, parts); leaves = p.0 },
              (
                record { words = x.0; bound = n.0; few = omega (arith, few, parts); leaves = q.0 },
                record { words = x.1; bound = n.1; few = omega (arith, few, parts); leaves = q.1 },
              ),
            )

        abbrev WordPuts : Term → Type 0
        WordPuts e = (env : List ℕ) → Fits test e → Reads test env → s ≤ length env → (IsTrue (word_needs rows t k s e) → s < length env) → PutsTo (word_block rows t k s e) (slice_index rows k) s env (value e words inputs)

        choice_puts : (c a b : Term) → WordPuts a → WordPuts b → WordPuts (term.If c a b)
        choice_puts c a b first second env fit reads room needs = by_use (is_whole k c a b) refl needs
          where
            scratch_room : (empty rest : Bool) → (IsTrue (not empty || rest) → s < length env) → (if empty then s else s + 1) ≤ length env
            scratch_room true rest need = room
            scratch_room false rest need = let lt = need refl in omega (arith, lt)

            need_first : (x y z : Bool) → IsTrue y → IsTrue (x || (y || z))
            need_first true y z h = refl
            need_first false true z h = refl
            need_first false false z h = absurd cc

            need_second : (x y z : Bool) → IsTrue z → IsTrue (x || (y || z))
            need_second true y z h = refl
            need_second false true z h = refl
            need_second false false z h = h

            by_use : (whole : Bool) → is_whole k c a b ≡ whole → (IsTrue (if whole then leaf_needs rows t k (term.If c a b) else not (is_empty (lowered_test rows c s t).block) || (word_needs rows t k s a || word_needs rows t k s b)) → s < length env) → PutsTo (if whole then leaf_block rows t k s (term.If c a b) else choose (lowered_test rows c s t) (word_block rows t k s a) (word_block rows t k s b)) (slice_index rows k) s env (value (term.If c a b) words inputs)
            by_use true is need = leaf_puts (term.If c a b) env fit reads room need
            by_use false is need =
                let fits = fit_parts c a b is fit in
                let empty : Bool = is_empty (lowered_test rows c s t).block in
                choose_puts (lowered_test rows c s t) (word_block rows t k s a) (word_block rows t k s b) env (slice_index rows k) s (value c words inputs) (value a words inputs) (value b words inputs)
                (condition_tells laws inputs small t temps rows words test c fits.0 s env laid_out reads room (scratch_room empty (word_needs rows t k s a || word_needs rows t k s b) need))
                (λ env' kept same. first env' fits.1.0 (still_read test s env env' laid_out kept reads) (omega (arith, room, same)) (λ h. let lt = need (need_first (not empty) (word_needs rows t k s a) (word_needs rows t k s b) h) in omega (arith, lt, same)))
                (λ env' kept same. second env' fits.1.1 (still_read test s env env' laid_out kept reads) (omega (arith, room, same)) (λ h. let lt = need (need_second (not empty) (word_needs rows t k s a) (word_needs rows t k s b) h) in omega (arith, lt, same)))

        word_puts : (e : Term) → WordPuts e
        word_puts (term.If c a b) = choice_puts c a b (word_puts a) (word_puts b)
        word_puts e = leaf_puts e

    -- ---- several words, from k on

    -- expressions of a row that fit
    pub record AreFit (test : Term → Bool) (es : List Term) : Type 0 where
      pub numbers : IsTrue (all_have_words es)
      pub bound : IsTrue (all_bound (length rows) es)
      pub few : row_temps es ≤ temps
      pub leaves : IsTrue (row_leaves test es)

    first_fit : (test : Term → Bool) (e : Term) (es : List Term) → AreFit test (e ∷ es) → Fits test e
    first_fit test e es fit = let few = fit.few in record {
      words = (both_true (has_words e) (all_have_words es) fit.numbers).0;
      bound = (both_true (is_bound (length rows) e) (all_bound (length rows) es) fit.bound).0;
      few = omega (arith, few);
      leaves = (both_true (all_leaves test e) (row_leaves test es) fit.leaves).0;
    }

    rest_fit : (test : Term → Bool) (e : Term) (es : List Term) → AreFit test (e ∷ es) → AreFit test es
    rest_fit test e es fit = let few = fit.few in record {
      numbers = (both_true (has_words e) (all_have_words es) fit.numbers).1;
      bound = (both_true (is_bound (length rows) e) (all_bound (length rows) es) fit.bound).1;
      few = omega (arith, few);
      leaves = (both_true (all_leaves test e) (row_leaves test es) fit.leaves).1;
    }

    avoiding_fit : (test : Term → Bool) (k : ℕ) (es : List Term) → AreFit test es → IsTrue (row_avoids k es) → AreFit (without test k) es
    avoiding_fit test k es fit avoid = record { numbers = fit.numbers; bound = fit.bound; few = fit.few; leaves = row_without test k es fit.leaves avoid }

    -- n words from k on are these then; other variables that were given out are as they were
    pub record Written (block : Block) (k n next : ℕ) (env xs : List ℕ) : Type 0 where
      pub env' : List ℕ
      pub runs : (left : ℕ) → run inputs block env left ≡ Runs [] env' left
      pub same : length env' ≡ length env
      pub kept : (v : ℕ) → v < next → ¬ IsTemporary t temps v → ((i : ℕ) → k ≤ i → i < k + n → slice_index rows i ≢ v) → slice_index env' v ≡ slice_index env v
      pub long : length xs ≡ n
      pub sets : (i : ℕ) → i < n → slice_index env' (slice_index rows (k + i)) ≡ slice_index xs i
      pub are_words : (i : ℕ) → i < n → IsWord (slice_index xs i)

    abbrev pub Writes : Block → ℕ → ℕ → ℕ → List ℕ → Got (List ℕ) → Type 0
    Writes block k n next env (Is xs) = Written block k n next env xs
    Writes block k n next env (Fails f) = (left : ℕ) → run inputs block env left ≡ Over [] (Failed f)

    -- the words that are set stand in variables that differ, and words that are read stand in these only if they are those words
    pub record AreAlone (test : Term → Bool) (k n : ℕ) : Type 0 where
      pub read : (i : ℕ) → k ≤ i → i < k + n → IsAlone test i
      pub set : (i j : ℕ) → k ≤ i → i < k + n → k ≤ j → j < k + n → slice_index rows i ≡ slice_index rows j → i ≡ j

    rest_alone : (test : Term → Bool) (k n : ℕ) → AreAlone test k (suc n) → AreAlone test (k + 1) n
    rest_alone test k n alone = record {
      read = λ i low high. alone.read i (omega (arith, low)) (omega (arith, high));
      set = λ i j low high least most same. alone.set i j (omega (arith, low)) (omega (arith, high)) (omega (arith, least)) (omega (arith, most)) same;
    }

    without_alone : (test : Term → Bool) (m k n : ℕ) → AreAlone test k n → AreAlone (without test m) k n
    without_alone test m k n alone = record {
      read = λ i low high v lt h same. alone.read i low high v lt (is_other test m v h).passes same;
      set = alone.set;
    }

    no_words : (k next : ℕ) (env : List ℕ) → Written Nil k 0 next env []
    no_words k next env = record { env' = env; runs = λ left. refl; same = refl; kept = λ v lt none other. refl; long = refl; sets = λ i lt. absurd (omega (arith, lt)); are_words = λ i lt. absurd (omega (arith, lt)) }

    module _ (k n next : ℕ) (env : List ℕ) (laid_out : IsLaidOut rows t temps next) (test : Term → Bool) (alone : AreAlone test k (suc n)) (lt : k < length rows) where
      -- the variable of the first word is none of the others
      apart : (i : ℕ) → k + 1 ≤ i → i < k + 1 + n → slice_index rows i ≢ slice_index rows k
      apart i low high = λ same. let e = alone.set i k (omega (arith, low)) (omega (arith, high)) (omega arith) (omega arith) same in omega (arith, low, e)

      given : IsWordVariable t temps next (slice_index rows k)
      given = laid_out.words k 0 lt

      -- the first word has its value x before the others are set
      first_set : (a b : Block) (env1 : List ℕ) (x next' : ℕ) (rest : Got (List ℕ)) → next ≤ next' → ((left : ℕ) → run inputs a env left ≡ Runs [] env1 left) → length env1 ≡ length env → ((v : ℕ) → v < next → ¬ IsTemporary t temps v → v ≢ slice_index rows k → slice_index env1 v ≡ slice_index env v) → IsWord x → slice_index env1 (slice_index rows k) ≡ x → Writes b (k + 1) n next' env1 rest → Writes (join a b) k (suc n) next env (with_value rest (λ row. Is (x ∷ row)))
      first_set a b env1 x next' (Is row) le runs same kept word is h = record {
        env' = h.env';
        runs = λ left. passes_on inputs a b env env1 left (Runs [] h.env' left) (runs left) (h.runs left);
        same = h.same ∙ same;
        kept = λ v less none other.
            h.kept v (omega (arith, less, le)) none (λ i low high. other i (omega (arith, low)) (omega (arith, high)))
            ∙ kept v less none (λ e. other k (omega arith) (omega arith) (sym e));
        long = ap suc h.long;
        sets = sets;
        are_words = words_of;
      }
        where
          sets : (i : ℕ) → i < suc n → slice_index h.env' (slice_index rows (k + i)) ≡ slice_index (x ∷ row) i
          sets zero less =
              let e : k + 0 ≡ k = omega arith in
              let below = given.below in
              ap (λ m. slice_index h.env' (slice_index rows m)) e ∙ (h.kept (slice_index rows k) (omega (arith, below, le)) given.apart apart ∙ is)
          sets (suc i) less =
              let e : k + suc i ≡ k + 1 + i = omega arith in
              ap (λ m. slice_index h.env' (slice_index rows m)) e ∙ h.sets i (omega arith)

          words_of : (i : ℕ) → i < suc n → IsWord (slice_index (x ∷ row) i)
          words_of zero less = word
          words_of (suc i) less = h.are_words i (omega arith)
      first_set a b env1 x next' (Fails f) le runs same kept word is h = λ left. passes_on inputs a b env env1 left (Over [] (Failed f)) (runs left) (h left)

      -- it gets it behind them, from a variable that keeps it
      last_set : (a b : Block) (env1 : List ℕ) (x : ℕ) (rest : Got (List ℕ)) → ((left : ℕ) → run inputs a env left ≡ Runs [] env1 left) → length env1 ≡ length env → Kept next env env1 → IsWord x → slice_index env1 next ≡ x → next ≤ length env → Writes b (k + 1) n (next + 1) env1 rest → k + 1 + n ≤ length rows → Writes (join a (join b (set (slice_index rows k) (Var next)))) k (suc n) next env (with_value rest (λ row. Is (x ∷ row)))
      last_set a b env1 x (Is row) runs same kept word is room h fits = record {
        env' = slice_set h.env' (slice_index rows k) x;
        runs = λ left.
            passes_on inputs a (join b (set (slice_index rows k) (Var next))) env env1 left (Runs [] (slice_set h.env' (slice_index rows k) x) left) (runs left)
            (passes_on inputs b (set (slice_index rows k) (Var next)) env1 h.env' left (Runs [] (slice_set h.env' (slice_index rows k) x) left) (h.runs left)
            (set_runs inputs (slice_index rows k) (Var next) h.env' x left (ap Is (held ∙ is))));
        same = length-set h.env' (slice_index rows k) x ∙ (h.same ∙ same);
        kept = λ v less none other.
            get_or-set_other h.env' (slice_index rows k) v x 0 (λ e. other k (omega arith) (omega arith) (sym e))
            ∙ (h.kept v (omega (arith, less)) none (λ i low high. other i (omega (arith, low)) (omega (arith, high))) ∙ kept v less none);
        long = ap suc h.long;
        sets = sets;
        are_words = words_of;
      }
        where
          below : (i : ℕ) → i < length rows → slice_index rows i ≢ next
          below i less = let b = (laid_out.words i 0 less).below in λ e. omega (arith, b, e)

          held : slice_index h.env' next ≡ slice_index env1 next
          held = h.kept next (omega arith) (λ temporary. let top = laid_out.temporaries in omega (arith, temporary.1, top)) (λ i low high. below i (omega (arith, high, fits)))

          sets : (i : ℕ) → i < suc n → slice_index (slice_set h.env' (slice_index rows k) x) (slice_index rows (k + i)) ≡ slice_index (x ∷ row) i
          sets zero less =
              let e : k + 0 ≡ k = omega arith in
              let under = given.below in
              ap (λ m. slice_index (slice_set h.env' (slice_index rows k) x) (slice_index rows m)) e
              ∙ get_or-set_same h.env' (slice_index rows k) x 0 (omega (arith, under, room, h.same, same))
          sets (suc i) less =
              let e : k + suc i ≡ k + 1 + i = omega arith in
              ap (λ m. slice_index (slice_set h.env' (slice_index rows k) x) (slice_index rows m)) e
              ∙ (get_or-set_other h.env' (slice_index rows k) (slice_index rows (k + 1 + i)) x 0 (apart (k + 1 + i) (omega arith) (omega (arith, less))) ∙ h.sets i (omega arith))

          words_of : (i : ℕ) → i < suc n → IsWord (slice_index (x ∷ row) i)
          words_of zero less = word
          words_of (suc i) less = h.are_words i (omega arith)
      last_set a b env1 x (Fails f) runs same kept word is room h fits = λ left.
          passes_on inputs a (join b (set (slice_index rows k) (Var next))) env env1 left (Over [] (Failed f)) (runs left)
          (is_over inputs b (set (slice_index rows k) (Var next)) [] (Failed f) env1 left (h left))

    -- words that are read stand in their variables behind a write to another word
    read_behind : (test : Term → Bool) (k next : ℕ) (env env1 : List ℕ) → IsLaidOut rows t temps next → k < length rows → IsAlone test k → ((v : ℕ) → v < next → ¬ IsTemporary t temps v → v ≢ slice_index rows k → slice_index env1 v ≡ slice_index env v) → Reads test env → Reads (without test k) env1
    read_behind test k next env env1 laid_out lt alone kept reads m less h =
        let o = is_other test k m h in
        let there = reads m less o.passes in
        let at = laid_out.words m 0 less in
        record { same = kept (slice_index rows m) at.below at.apart (λ e. o.other (alone m less o.passes e)) ∙ there.same; word = there.word }

    -- statements that set words, whatever their room
    abbrev pub RowWrites : List Term → Type 0
    RowWrites es = (k next : ℕ) (test : Term → Bool) (env : List ℕ) → IsLaidOut rows t temps next → k + length es ≤ length rows → AreFit test es → Reads test env → AreAlone test k (length es) → next ≤ length env → (words_piece rows t k es next).next ≤ length env → length env < 2 ^ 32 → Writes (words_piece rows t k es next).block k (length es) next env (row_value es words inputs)

    pub more_laid_out : (next next' : ℕ) → next ≤ next' → next' < 2 ^ 32 → IsLaidOut rows t temps next → IsLaidOut rows t temps next'
    more_laid_out next next' le small h = record {
      few = small;
      temporaries = omega (arith, h.temporaries, le);
      words = λ k d lt. let at = h.words k d lt in record { below = omega (arith, at.below, le); apart = at.apart };
    }

    pub row_writes : (es : List Term) → RowWrites es
    row_writes [] k next test env laid_out fits fit reads alone room big small_env = no_words k next env
    row_writes (e ∷ es) k next test env laid_out fits fit reads alone room big small_env =
        picked (is_word k e) (row_avoids k es) (words_piece rows t (k + 1) es next)
        (behind (word_block rows t k next e) (words_piece rows t (k + 1) es (if word_needs rows t k next e then next + 1 else next)))
        (record { block = join (lowered_into rows e next t) (join (words_piece rows t (k + 1) es (next + 1)).block (set (slice_index rows k) (Var next))); next = (words_piece rows t (k + 1) es (next + 1)).next })
        (λ p. p.next ≤ length env → Writes p.block k (suc (length es)) next env (row_value (e ∷ es) words inputs))
        (λ is. word_itself (row_writes es) is)
        (λ no free. word_first (row_writes es) free)
        (λ no read. word_last (row_writes es))
        big
      where
        lt : k < length rows
        lt = omega (arith, fits)

        beyond : k + 1 + length es ≤ length rows
        beyond = omega (arith, fits)

        word_itself : RowWrites es → is_word k e ≡ true → (words_piece rows t (k + 1) es next).next ≤ length env → Writes (words_piece rows t (k + 1) es next).block k (suc (length es)) next env (row_value (e ∷ es) words inputs)
        word_itself ih is most =
            let there = reads k lt (word_leaf k test e is (first_fit test e es fit).leaves) in
            let set : Writes (words_piece rows t (k + 1) es next).block k (suc (length es)) next env (with_value (row_value es words inputs) (λ row. Is (slice_index words k ∷ row))) =
            first_set k (length es) next env laid_out test alone lt Nil (words_piece rows t (k + 1) es next).block env (slice_index words k) next (row_value es words inputs)
            (omega arith) (λ left. refl) refl (λ v less none other. refl) there.word there.same
            (ih (k + 1) next test env laid_out beyond (rest_fit test e es fit) reads (rest_alone test k (length es) alone) room most small_env) in
            subst (λ g. Writes (words_piece rows t (k + 1) es next).block k (suc (length es)) next env (with_value g (λ y. with_value (row_value es words inputs) (λ row. Is (y ∷ row))))) (sym (word_value laws inputs words k e is)) set

        word_first : RowWrites es → IsTrue (row_avoids k es) → (words_piece rows t (k + 1) es (if word_needs rows t k next e then next + 1 else next)).next ≤ length env → Writes (join (word_block rows t k next e) (words_piece rows t (k + 1) es (if word_needs rows t k next e then next + 1 else next)).block) k (suc (length es)) next env (row_value (e ∷ es) words inputs)
        word_first ih free most =
            go (value e words inputs) (word_puts k next laid_out lt test (alone.read k (omega arith) (omega arith)) e env (first_fit test e es fit) reads room (needed (word_needs rows t k next e) (omega (arith, most, words_grow rows t es (k + 1) after))))
          where
            after : ℕ
            after = if word_needs rows t k next e then next + 1 else next

            needed : (d : Bool) → (if d then next + 1 else next) ≤ length env → IsTrue d → next < length env
            needed true h is = omega (arith, h)
            needed false h is = absurd cc

            at_least : (d : Bool) → next ≤ (if d then next + 1 else next)
            at_least true = omega arith
            at_least false = omega arith

            go : (g : Got ℕ) → PutsTo (word_block rows t k next e) (slice_index rows k) next env g → Writes (join (word_block rows t k next e) (words_piece rows t (k + 1) es after).block) k (suc (length es)) next env (with_value g (λ x. with_value (row_value es words inputs) (λ row. Is (x ∷ row))))
            go (Is x) h =
                let le = at_least (word_needs rows t k next e) in
                let grown = words_grow rows t es (k + 1) after in
                first_set k (length es) next env laid_out test alone lt (word_block rows t k next e) (words_piece rows t (k + 1) es after).block h.env' x after (row_value es words inputs)
                le h.runs h.same h.kept h.word h.is
                (ih (k + 1) after (without test k) h.env' (more_laid_out next after le (omega (arith, grown, most, small_env)) laid_out) beyond
                (avoiding_fit test k es (rest_fit test e es fit) free)
                (read_behind test k next env h.env' laid_out lt (alone.read k (omega arith) (omega arith)) h.kept reads)
                (without_alone test k (k + 1) (length es) (rest_alone test k (length es) alone))
                (omega (arith, grown, most, h.same)) (omega (arith, most, h.same)) (omega (arith, small_env, h.same)))
            go (Fails f) h = λ left. is_over inputs (word_block rows t k next e) (words_piece rows t (k + 1) es after).block [] (Failed f) env left (h left)

        word_last : RowWrites es → (words_piece rows t (k + 1) es (next + 1)).next ≤ length env → Writes (join (lowered_into rows e next t) (join (words_piece rows t (k + 1) es (next + 1)).block (set (slice_index rows k) (Var next)))) k (suc (length es)) next env (row_value (e ∷ es) words inputs)
        word_last ih most =
            go (value e words inputs) (value_puts laws inputs small t temps rows words test e (first_fit test e es fit) next next env laid_out reads (fresh laws inputs small t temps rows words test e (first_fit test e es fit) next laid_out) (omega (arith, most, words_grow rows t es (k + 1) (next + 1))) room)
          where
            go : (g : Got ℕ) → PutsTo (lowered_into rows e next t) next next env g → Writes (join (lowered_into rows e next t) (join (words_piece rows t (k + 1) es (next + 1)).block (set (slice_index rows k) (Var next)))) k (suc (length es)) next env (with_value g (λ x. with_value (row_value es words inputs) (λ row. Is (x ∷ row))))
            go (Is x) h =
                let grown = words_grow rows t es (k + 1) (next + 1) in
                let kept : Kept next env h.env' = λ v less none. h.kept v less none (λ e. omega (arith, less, e)) in
                last_set k (length es) next env laid_out test alone lt (lowered_into rows e next t) (words_piece rows t (k + 1) es (next + 1)).block h.env' x (row_value es words inputs)
                h.runs h.same kept h.word h.is room
                (ih (k + 1) (next + 1) test h.env' (more_laid_out next (next + 1) (omega arith) (omega (arith, grown, most, small_env)) laid_out) beyond
                (rest_fit test e es fit) (still_read test next env h.env' laid_out kept reads) (rest_alone test k (length es) alone)
                (omega (arith, grown, most, h.same)) (omega (arith, most, h.same)) (omega (arith, small_env, h.same)))
                beyond
            go (Fails f) h = λ left. is_over inputs (lowered_into rows e next t) (join (words_piece rows t (k + 1) es (next + 1)).block (set (slice_index rows k) (Var next))) [] (Failed f) env left (h left)
