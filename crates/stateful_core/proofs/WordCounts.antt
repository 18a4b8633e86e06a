-- The core of a stream adds at most 32 words for each operator, and has no more temporaries than its expressions are deep.
use Rattle.std.proofs.Common.{◌≡◌, ℕ, zero, suc, ◌+◌, ◌*◌, ◌≤◌, max, List, [], ◌∷◌, length, Bool, true, false, ◌||◌, refl, arith}
use Rattle.std.specs.Prelude.{IsTrue, nat_lt, if◌then◌else◌}
use Rattle.std.specs.List.{list_all}
use Rattle.std.proofs.lemmas.Bool.{le-ltb}
use Rattle.strm_num.proofs.Truths.{true_both}
use Rattle.list_denotation.specs.Counts.{stream_ops, term_depth, row_depth, stream_depth}
use Rattle.list_denotation.specs.InputNames.{InputNames}
use Rattle.list_denotation.specs.TermRows.{variables}
use Rattle.list_denotation.specs.Terms as stream
use Rattle.list_denotation.specs.Terms.{Term, Lit, Truth, Var, Param, Len, Neg, Not, Bin, And, Or, If, Pipe}
use Rattle.list_denotation.specs.Typing.{is_undivided, all_undivided}
use Rattle.list_denotation.specs.Leaves.{all_leaves}
use Rattle.denotation_laws.specs.StreamScopes.{StreamReadsScope}
use Rattle.stateful_core.specs.CoreTerms.{Action, Let, KeepIf, StopUnless, Actions, Nil, Cons}
use Rattle.stateful_core.specs.MostWords.{kept_aside, most_temps, row_temps, action_temps, actions_temps, core_temps, is_other_leaf, is_written_straight, action_words, actions_words, added_words}
use Rattle.stateful_core.specs.StreamCores.{let_all, set_state, next_state, test_acts, one_more, one_less, stream_width, core_at}
use Rattle.stateful_core.proofs.CoreWidths.{width_at}
use Rattle.stateful_core.proofs.StreamScopes.{narrow, over_rows}
use Rattle.stateful_core.proofs.VariableRows.{length_variables}

-- ---- words

or_true : (b : Bool) → IsTrue (b || true)
or_true true = refl
or_true false = refl

other_word : (first count k : ℕ) → first + count ≤ k → IsTrue (is_other_leaf first count (Var k))
other_word first count k h = let e : nat_lt k (first + count) ≡ false = le-ltb k (first + count) h in rw e (or_true (nat_lt k first))

other_words : (first count k n : ℕ) → first + count ≤ k → IsTrue (list_all (all_leaves (is_other_leaf first count)) (variables k n))
other_words first count k zero h = refl
other_words first count k (suc n) h =
    true_both (is_other_leaf first count (Var k)) (list_all (all_leaves (is_other_leaf first count)) (variables (suc k) n)) (other_word first count k h) (other_words first count (suc k) n (omega arith))

unless_straight : (b : Bool) (n : ℕ) → (if b then 0 else n) ≤ n
unless_straight true n = omega arith
unless_straight false n = omega arith

none_where_straight : (b : Bool) (n : ℕ) → IsTrue b → (if b then 0 else n) ≡ 0
none_where_straight true n h = refl
none_where_straight false n h = absurd cc

module _ (e : ℕ) where
  words_lets : (es : List Term) (more : Actions) → actions_words e (let_all es more) ≡ length es + actions_words e more
  words_lets [] more = omega arith
  words_lets (t ∷ es) more = omega (arith, words_lets es more)

  words_set : (es : List Term) → actions_words e (set_state es) ≤ length es
  words_set es = omega (arith, unless_straight (is_written_straight (e + 0) es) (length es))

  -- a new state of m words: either way at most as many are added, since local words are no state
  words_state : (k : ℕ) (es : List Term) → e + length es ≤ k → actions_words e (next_state k es) ≤ length es
  words_state k es h = by_form (all_undivided es)
    where
      by_form : (t : Bool) → actions_words e (if t then set_state es else let_all es (set_state (variables k (length es)))) ≤ length es
      by_form true = words_set es
      by_form false =
          let straight = none_where_straight (is_written_straight (e + 0) (variables k (length es))) (length (variables k (length es))) (other_words (e + 0) (length (variables k (length es))) k (length es) (omega (arith, length_variables k (length es)))) in
          omega (arith, words_lets es (set_state (variables k (length es))), straight)

  words_test : (act : Term → Action) → ((f : Term) → action_words e (act f) ≤ 3) → (k : ℕ) (f : Term) → actions_words e (test_acts act k f) ≤ 4
  words_test act is k f = by_form (is_undivided f)
    where
      by_form : (t : Bool) → actions_words e (if t then Cons (act f) Nil else Cons (Let f) (Cons (act (Var k)) Nil)) ≤ 4
      by_form true = omega (arith, is f)
      by_form false = omega (arith, is (Var k))

pub words_at : (may : InputNames) (p : Pipe) (e : ℕ) → StreamReadsScope may e p → added_words (core_at e p) ≤ 32 * stream_ops p
words_at may (stream.Array k) e s = omega (arith, words_set e (one_more e ∷ []))
words_at may (stream.Range a b) e s = omega (arith, words_set e (one_more e ∷ []))
words_at may (stream.Unfold seed guard item next) e s =
    let k = e + length seed + length item in
    omega (arith, words_lets e item (next_state k next), words_state e k next (omega (arith, s.same_width)), length_variables (e + length seed) (length item), s.same_width, s.next_reads.few, s.item_reads.few)
words_at may (stream.Map of body) e s =
    omega (arith, words_at may of e s.0, words_lets e body Nil, length_variables (e + stream_width of) (length body), s.1.few)
words_at may (stream.Filter of body) e s =
    omega (arith, words_at may of e s.0, words_test e KeepIf (λ f. omega arith) (e + stream_width of) body, length_variables e (stream_width of), narrow may of e s.0)
words_at may (stream.Take of count) e s =
    omega (arith, words_at may of e s.0, words_set e (one_less e ∷ []), length_variables (e + 1) (stream_width of), narrow may of e s.0)
words_at may (stream.Drop of count) e s =
    omega (arith, words_at may of e s.0, unless_straight (is_written_straight (e + 0) (one_less e ∷ [])) 1, length_variables (e + 1) (stream_width of), narrow may of e s.0)
words_at may (stream.TakeWhile of body) e s =
    omega (arith, words_at may of e s.0, words_test e StopUnless (λ f. omega arith) (e + stream_width of) body, length_variables e (stream_width of), narrow may of e s.0)
words_at may (stream.Scan of seed next) e s =
    let k = e + length seed + stream_width of in
    omega (arith, words_at may of e s.0, words_state e k next (omega (arith, s.1.same_width)), length_variables e (length seed), s.1.same_width, s.1.next_reads.few)
words_at may (stream.FlatMap of inner) e s =
    omega (arith, words_at may of e s.0, words_at may inner (e + stream_width of) (over_rows may (λ k. StreamReadsScope may (e + k) inner) of e s.0 s.1))
words_at may (stream.Zip left right) e s =
    omega (arith, words_at may left e s.0, words_at may right e s.1, width_at left e, narrow may left e s.0)

-- ---- temporaries

aside_few : (e : Term) (n d : ℕ) → n + 1 ≤ d → kept_aside e n ≤ d
aside_few (Lit w) n d h = omega arith
aside_few (Truth b) n d h = omega arith
aside_few (Var k) n d h = omega arith
aside_few (Param k) n d h = omega arith
aside_few (Len k) n d h = omega arith
aside_few (Neg a) n d h = h
aside_few (Not a) n d h = h
aside_few (Bin op a b) n d h = h
aside_few (And a b) n d h = h
aside_few (Or a b) n d h = h
aside_few (If c a b) n d h = h

pub temps_below : (e : Term) → most_temps e + 1 ≤ term_depth e
temps_below (Lit w) = omega arith
temps_below (Truth b) = omega arith
temps_below (Var k) = omega arith
temps_below (Param k) = omega arith
temps_below (Len k) = omega arith
temps_below (Neg a) = omega (arith, temps_below a)
temps_below (Not a) = omega (arith, temps_below a)
temps_below (Bin op a b) = omega (arith, temps_below a, aside_few b (most_temps b) (term_depth b) (temps_below b))
temps_below (And a b) = omega (arith, temps_below a, temps_below b)
temps_below (Or a b) = omega (arith, temps_below a, temps_below b)
temps_below (If c a b) = omega (arith, temps_below c, temps_below a, temps_below b)

row_temps_below : (es : List Term) → row_temps es ≤ row_depth es
row_temps_below [] = omega arith
row_temps_below (e ∷ es) = omega (arith, temps_below e, row_temps_below es)

no_temps : (k n : ℕ) → row_temps (variables k n) ≡ 0
no_temps k zero = refl
no_temps k (suc n) = omega (arith, no_temps (suc k) n)

temps_lets : (es : List Term) (more : Actions) → actions_temps (let_all es more) ≤ max (row_temps es) (actions_temps more)
temps_lets [] more = omega arith
temps_lets (t ∷ es) more = omega (arith, temps_lets es more)

temps_state : (k : ℕ) (es : List Term) → actions_temps (next_state k es) ≤ row_temps es
temps_state k es = by_form (all_undivided es)
  where
    by_form : (t : Bool) → actions_temps (if t then set_state es else let_all es (set_state (variables k (length es)))) ≤ row_temps es
    by_form true = omega arith
    by_form false = omega (arith, temps_lets es (set_state (variables k (length es))), no_temps k (length es))

temps_test : (act : Term → Action) → ((f : Term) → action_temps (act f) ≡ most_temps f) → (k : ℕ) (f : Term) → actions_temps (test_acts act k f) ≤ most_temps f
temps_test act is k f = by_form (is_undivided f)
  where
    by_form : (t : Bool) → actions_temps (if t then Cons (act f) Nil else Cons (Let f) (Cons (act (Var k)) Nil)) ≤ most_temps f
    by_form true = omega (arith, is f)
    by_form false = omega (arith, is (Var k))

pub temps_at : (p : Pipe) (e : ℕ) → core_temps (core_at e p) ≤ stream_depth p
temps_at (stream.Array k) e = omega arith
temps_at (stream.Range a b) e = omega (arith, temps_below a, temps_below b, aside_few a (most_temps a) (term_depth a) (temps_below a), aside_few b (most_temps b) (term_depth b) (temps_below b))
temps_at (stream.Unfold seed guard item next) e =
    let k = e + length seed + length item in
    omega (arith, row_temps_below seed, temps_below guard, row_temps_below item, row_temps_below next, temps_lets item (next_state k next), temps_state k next, no_temps (e + length seed) (length item))
temps_at (stream.Map of body) e =
    omega (arith, temps_at of e, row_temps_below body, temps_lets body Nil, no_temps (e + stream_width of) (length body))
temps_at (stream.Filter of body) e =
    omega (arith, temps_at of e, temps_below body, temps_test KeepIf (λ f. refl) (e + stream_width of) body, no_temps e (stream_width of))
temps_at (stream.Take of count) e = omega (arith, temps_at of e, temps_below count, no_temps (e + 1) (stream_width of))
temps_at (stream.Drop of count) e = omega (arith, temps_at of e, temps_below count, no_temps (e + 1) (stream_width of))
temps_at (stream.TakeWhile of body) e =
    omega (arith, temps_at of e, temps_below body, temps_test StopUnless (λ f. refl) (e + stream_width of) body, no_temps e (stream_width of))
temps_at (stream.Scan of seed next) e =
    let k = e + length seed + stream_width of in
    omega (arith, temps_at of e, row_temps_below seed, row_temps_below next, temps_state k next, no_temps e (length seed))
temps_at (stream.FlatMap of inner) e = omega (arith, temps_at of e, temps_at inner (e + stream_width of))
temps_at (stream.Zip left right) e = omega (arith, temps_at left e, temps_at right e)
