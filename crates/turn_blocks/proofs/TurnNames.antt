-- The statements of a turn, and of what the terminals do with rows, name declared variables and inputs; their constants are words.
use Rattle.std.proofs.Common.{◌≡◌, ℕ, ◌+◌, ◌<◌, ◌≤◌, ◌^◌, Bool, true, false, List, [], ◌∷◌, ◌++◌, length, refl, sym, subst, arith, length-append}
use Rattle.std.specs.Prelude.{IsTrue, All, nat_lt, slice_index, if◌then◌else◌, None}
use Rattle.std.proofs.lemmas.Bool.{lt-ltb, ltb-true}
use Rattle.strm_num.proofs.Truths.{both_true}
use Rattle.list_denotation.specs.declared.input.InputKind.{InputKind}
use Rattle.list_denotation.specs.InputNames.{declared_inputs, is_named_leaf as is_named_input, all_name_inputs}
use Rattle.list_denotation.specs.Leaves.{all_leaves}
use Rattle.list_denotation.specs.Literals.{has_words, is_word_leaf as is_word_number}
use Rattle.list_denotation.specs.Scopes.{is_bound, is_bound_leaf, all_bound}
use Rattle.list_denotation.specs.Terms as term
use Rattle.list_denotation.specs.Terms.{Term}
use Rattle.list_denotation.specs.Typing.{all_undivided}
use Rattle.loop_ir.specs.Constants.{is_word_leaf, block_has_words}
use Rattle.loop_ir.specs.DeclaredNames.{Names, is_named_leaf, declared_names, test_names, block_names}
use Rattle.loop_ir.specs.Leaves.{block_leaves}
use Rattle.loop_ir.specs.Statements.{Block, Nil, Cons}
use Rattle.expr_lower.specs.Contract.{Scope, MayUse}
use Rattle.expr_lower.specs.Costs.{temps_of}
use Rattle.expr_forms.specs.Forms.{is_empty}
use Rattle.expr_lower.specs.Lowering.{lowered_test}
use Rattle.expr_lower.specs.Scopes.{MayNameLeaf, MayNameWords}
use Rattle.stateful_core.specs.CoreLeaves.{row_leaves, actions_leaves}
use Rattle.stateful_core.specs.CoreShapes.{actions_locals}
use Rattle.stateful_core.specs.CoreTerms.{Actions, Nil as NoActs, Cons as ActsOf, join}
use Rattle.stateful_core.specs.MostWords.{actions_words}
use Rattle.stateful_core.specs.StreamCores.{let_all}
use Rattle.stateful_core.specs.WellFormed.{are_sound_actions}
use Rattle.turn_blocks.specs.Consumers.{fold_tail, IsFold}
use Rattle.turn_blocks.specs.Laws.{Laws}
use Rattle.turn_blocks.specs.Pieces.{Tail, behind_scratch}
use Rattle.turn_blocks.specs.TurnBlocks.{acts_piece, turn_acts}
use Rattle.turn_blocks.specs.TurnContract.{IsTurn}
use Rattle.turn_blocks.proofs.LeafTests.{each_leaf, row_of_both}
use Rattle.turn_blocks.proofs.PieceSizes.{scratch_least, words_grow, acts_grow, acts_few}
use Rattle.turn_blocks.proofs.TurnLeaves.{LeafTest, words_in, AreGoodActs, acts_in}
use Rattle.turn_blocks.proofs.TurnRuns.{joined_locals, joined_sound, joined_leaves, joined_temps}
use Rattle.turn_blocks.proofs.WordLists.{all_of, each_joined}

names_nothing : (may : Names) (b : Block) → IsTrue (is_empty b) → IsTrue (block_names may b)
names_nothing may Nil h = refl
names_nothing may (Cons s ss) h = absurd cc

-- ---- names

module _ (laws : Laws) (kinds : List InputKind) (vars t temps : ℕ) (room : t + temps ≤ vars) where
  abbrev may : Names
  may = declared_names kinds vars

  abbrev scope_at : List ℕ → Scope
  scope_at rows = record { rows = rows; first_temp = t; temps = temps }

  below : (v : ℕ) → v < vars → IsTrue (nat_lt v vars)
  below v lt = lt-ltb v vars lt

  words : (rows : List ℕ) (e : Term) → ((k : ℕ) → k < length rows → slice_index rows k < vars) → IsTrue (is_bound (length rows) e) → MayNameWords may rows e
  words rows e all bound = each_leaf (is_bound_leaf (length rows)) (is_bound_leaf (length rows)) (MayNameLeaf may rows) leaf e bound bound
    where
      leaf : (x : Term) → IsTrue (is_bound_leaf (length rows) x) → IsTrue (is_bound_leaf (length rows) x) → MayNameLeaf may rows x
      leaf (term.Var k) h again = below (slice_index rows k) (all k (ltb-true k (length rows) h))
      leaf _ h again = tt

  used : (rows : List ℕ) (e : Term) (target : ℕ) → ((k : ℕ) → k < length rows → slice_index rows k < vars) → IsTrue (is_bound (length rows) e) → IsTrue (all_leaves (is_named_input (declared_inputs kinds)) e) → target < vars → MayUse may (scope_at rows) e target
  used rows e target all bound inputs at = record {
    at_target = below target at;
    temporaries = λ v low high. below v (omega (arith, high, room));
    words = words rows e all bound;
    inputs = inputs;
  }

  condition_named : (rows : List ℕ) (e : Term) (next : ℕ) → ((k : ℕ) → k < length rows → slice_index rows k < next) → IsTrue (is_bound (length rows) e) → IsTrue (has_words e) → temps_of e ≤ temps → IsTrue (all_leaves (is_named_input (declared_inputs kinds)) e) → behind_scratch (lowered_test rows e next t) next ≤ vars → IsTrue (block_names may (lowered_test rows e next t).block) × IsTrue (test_names may (lowered_test rows e next t).test)
  condition_named rows e next all bound has few inputs fit = go (is_empty (lowered_test rows e next t).block) refl fit
    where
      least : next ≤ vars
      least = omega (arith, fit, scratch_least (lowered_test rows e next t) next)

      all_below : (k : ℕ) → k < length rows → slice_index rows k < vars
      all_below k lt = let h = all k lt in omega (arith, h, least)

      go : (empty : Bool) → is_empty (lowered_test rows e next t).block ≡ empty → (if empty then next else next + 1) ≤ vars → IsTrue (block_names may (lowered_test rows e next t).block) × IsTrue (test_names may (lowered_test rows e next t).test)
      go true is h = (names_nothing may (lowered_test rows e next t).block is, laws.names_of_bare_test may (scope_at rows) e next has is (words rows e all_below bound) inputs)
      go false is h =
          let u = used rows e next all_below bound inputs (omega (arith, h)) in
          (laws.names_of_condition (scope_at rows) e next has few may u, laws.names_of_test (scope_at rows) e next has few may u)

  names_test : LeafTest t temps
  names_test = record {
    passes = is_named_leaf (declared_names kinds vars);
    counts = Unit {0};
    under = λ n v. v < n;
    fits = λ n. n ≤ vars;
    leaf = is_named_input (declared_inputs kinds);
    bound_leaf = is_bound_leaf;
    bound_of = λ n x h. h;
    bound_more = more;
    under_more = λ n m v le lt. omega (arith, le, lt);
    under_new = λ n v lt. lt;
    fits_less = λ n m le fit. omega (arith, le tt, fit);
    var = λ n v lt fit. below v (omega (arith, lt, fit));
    small = λ c word. refl;
    array = λ a h. h;
    values = λ rows e target n all bound has few inputs at fit. laws.names_of_value (scope_at rows) e target has few may (used rows e target (λ k lt. let h = all k lt in omega (arith, h, fit)) bound inputs (omega (arith, at, fit)));
    conditions = condition_named;
    operands = λ rows e next all bound has few inputs fit.
        let u = used rows e next (λ k lt. let h = all k lt in omega (arith, h, fit)) bound inputs (omega (arith, fit)) in
        (laws.names_of_operand (scope_at rows) e next has few may u, laws.names_of_word (scope_at rows) e next has few may u);
  }
    where
      more : (n m : ℕ) (x : Term) → n ≤ m → IsTrue (is_bound_leaf n x) → IsTrue (is_bound_leaf m x)
      more n m (term.Var k) le h = let lt = ltb-true k n h in lt-ltb k m (omega (arith, lt, le))
      more n m _ le h = refl

-- ---- constants

module _ (laws : Laws) (t temps : ℕ) where
  constants_test : LeafTest t temps
  constants_test = record {
    passes = is_word_leaf;
    counts = ⊥;
    under = λ n v. Unit {0};
    fits = λ n. Unit {0};
    leaf = is_word_number;
    bound_leaf = λ n x. true;
    bound_of = λ n x h. refl;
    bound_more = λ n m x le h. refl;
    under_more = λ n m v le h. tt;
    under_new = λ n v lt. tt;
    fits_less = λ n m le h. tt;
    var = λ n v h fit. refl;
    small = λ c word. lt-ltb c (2 ^ 64) word;
    array = λ a h. refl;
    values = λ rows e target n all bound has few leaves at fit. laws.constants_of_value (record { rows = rows; first_temp = t; temps = temps }) e target has few;
    conditions = λ rows e next all bound has few leaves fit. laws.constants_of_condition (record { rows = rows; first_temp = t; temps = temps }) e next has few;
    operands = λ rows e next all bound has few leaves fit. laws.constants_of_operand (record { rows = rows; first_temp = t; temps = temps }) e next has few;
  }

-- ---- turns

good_turn : (t temps : ℕ) (T : LeafTest t temps) (scope states locals least : ℕ) (stop : Block) (inside : IsTrue (block_leaves T.passes stop)) (rows : List ℕ) (acts : Actions) (item : List Term) → IsTurn scope states locals temps acts item → length rows ≡ scope + states + locals → IsTrue (actions_leaves T.leaf acts) → IsTrue (row_leaves T.leaf item) → AreGoodActs t temps T scope states least stop inside (turn_acts acts item) rows
good_turn t temps T scope states locals least stop inside rows acts item turn long leaves item_leaves = record {
  sound = subst (λ n. IsTrue (are_sound_actions states n (turn_acts acts item))) (sym long) (joined_sound states (scope + states + locals) acts item turn.acts_sound (both_true (all_bound (scope + states + locals + actions_locals acts) item) (all_undivided item) turn.item_sound).0);
  numbers = joined_leaves is_word_number acts item turn.acts_words turn.item_words;
  few = joined_temps temps acts item turn.acts_few turn.item_few;
  leaves = joined_leaves T.leaf acts item leaves item_leaves;
}

module _ (laws : Laws) where
  pub turn_names : (kinds : List InputKind) (vars scope states locals first_temp temps next : ℕ) (rows : List ℕ) (tail : Tail) (stop : Block) (acts : Actions) (item : List Term) → IsTurn scope states locals temps acts item → length rows ≡ scope + states + locals → All (λ v. v < next) rows → first_temp + temps ≤ next → IsTrue (actions_leaves (is_named_input (declared_inputs kinds)) acts) → IsTrue (all_name_inputs (declared_inputs kinds) item) → IsTrue (block_names (declared_names kinds vars) stop) → ((row : List ℕ) (n : ℕ) → All (λ v. v < n) row → next ≤ n → length row ≡ tail.width → (tail.piece row n).next ≤ vars → IsTrue (block_names (declared_names kinds vars) (tail.piece row n).block)) → tail.width ≡ length item → ((row : List ℕ) (n : ℕ) → n ≤ (tail.piece row n).next) → (acts_piece scope states first_temp stop tail None (turn_acts acts item) rows next).next ≤ vars → IsTrue (block_names (declared_names kinds vars) (acts_piece scope states first_temp stop tail None (turn_acts acts item) rows next).block)
  unfolding names_test
  turn_names kinds vars scope states locals t temps next rows tail stop acts item turn long all temps_below leaves item_leaves stop_in tail_in wide grows fit =
      let grown = acts_grow scope states t stop tail None (turn_acts acts item) rows next grows in
      let room : t + temps ≤ vars = omega (arith, grown, fit, temps_below) in
      acts_in t temps (names_test laws kinds vars t temps room) scope states next stop stop_in (turn_acts acts item) tail None rows next
      (record { grows = λ q. grows; inside = λ row n under le same most. tail_in row n (all_of (λ v. v < n) row under) le (same tt) most }) tt
      (good_turn t temps (names_test laws kinds vars t temps room) scope states locals next stop stop_in rows acts item turn long leaves item_leaves)
      (λ k lt. all k 0 lt) (omega arith) (omega (arith, long)) (λ q. omega (arith, wide, long, joined_locals acts item)) fit

  pub turn_constants : (scope states locals first_temp temps next : ℕ) (rows : List ℕ) (tail : Tail) (stop : Block) (acts : Actions) (item : List Term) → IsTurn scope states locals temps acts item → length rows ≡ scope + states + locals → IsTrue (block_has_words stop) → ((row : List ℕ) (n : ℕ) → IsTrue (block_has_words (tail.piece row n).block)) → IsTrue (block_has_words (acts_piece scope states first_temp stop tail None (turn_acts acts item) rows next).block)
  unfolding constants_test
  turn_constants scope states locals t temps next rows tail stop acts item turn long stop_in tail_in =
      acts_in t temps (constants_test laws t temps) scope states 0 stop stop_in (turn_acts acts item) tail None rows next
      (record { grows = λ q. absurd q; inside = λ row n under le same most. tail_in row n }) tt
      (good_turn t temps (constants_test laws t temps) scope states locals 0 stop stop_in rows acts item turn long turn.acts_words turn.item_words)
      (λ k lt. tt) (omega arith) (omega (arith, long)) (λ q. absurd q) tt

  pub fold_named : (kinds : List InputKind) (all width temps first_temp n : ℕ) (vars row : List ℕ) (next : List Term) → IsFold vars width temps next → IsTrue (all_name_inputs (declared_inputs kinds) next) → All (λ v. v < n) vars → All (λ v. v < n) row → length row ≡ width → first_temp + temps ≤ n → ((fold_tail vars first_temp width next).piece row n).next ≤ all → IsTrue (block_names (declared_names kinds all) ((fold_tail vars first_temp width next).piece row n).block)
  unfolding names_test
  fold_named kinds all width temps t n vars row next fold leaves vars_below row_below long temps_below fit =
      let grown = words_grow (vars ++ row) t next 0 n in
      let room : t + temps ≤ all = omega (arith, grown, fit, temps_below) in
      words_in t temps (names_test laws kinds all t temps room) (vars ++ row) next 0 n
      (each_joined (λ v. v < n) vars row (λ k lt. vars_below k 0 lt) (λ k lt. row_below k 0 lt)) (omega (arith, fold.same_width, length-append vars row))
      (record { bound = subst (λ m. IsTrue (all_bound m next)) (omega (arith, length-append vars row, long)) fold.bound; numbers = fold.are_words; few = fold.few; leaves = leaves }) fit

  pub fold_constant : (width temps first_temp n : ℕ) (vars row : List ℕ) (next : List Term) → IsFold vars width temps next → IsTrue (block_has_words ((fold_tail vars first_temp width next).piece row n).block)
  unfolding constants_test
  fold_constant width temps t n vars row next fold =
      words_in t temps (constants_test laws t temps) (vars ++ row) next 0 n (λ k lt. tt) (omega (arith, fold.same_width, length-append vars row))
      (record { bound = row_of_both is_word_number is_word_number (λ x. true) (λ x h again. refl) next fold.are_words fold.are_words; numbers = fold.are_words; few = fold.few; leaves = fold.are_words }) tt

joined_words : (scope : ℕ) (acts : Actions) (es : List Term) → actions_words scope (join acts (let_all es NoActs)) ≡ actions_words scope acts + length es
joined_words scope NoActs [] = omega arith
joined_words scope NoActs (e ∷ es) = let h = joined_words scope NoActs es in omega (arith, h)
joined_words scope (ActsOf a acts) es = let h = joined_words scope acts es in omega (arith, h)

pub turn_few : (scope states locals first_temp temps next most : ℕ) (rows : List ℕ) (tail : Tail) (stop : Block) (acts : Actions) (item : List Term) → IsTurn scope states locals temps acts item → length rows ≡ scope + states + locals → ((row : List ℕ) (n : ℕ) → (tail.piece row n).next ≤ n + most) → (acts_piece scope states first_temp stop tail None (turn_acts acts item) rows next).next ≤ next + actions_words scope acts + length item + most
turn_few scope states locals t temps next most rows tail stop acts item turn long short =
    let h = acts_few scope states t stop tail None (turn_acts acts item) rows next most short in
    omega (arith, h, joined_words scope acts item)
