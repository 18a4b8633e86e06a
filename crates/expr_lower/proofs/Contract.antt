-- What is promised of the statements of an expression holds of those that it becomes.
use Rattle.std.proofs.Common.{◌≡◌, ℕ, ◌+◌, ◌<◌, ◌≤◌, ◌^◌, Bool, true, false, List, length, refl, sym, ap, subst, ◌∙◌, arith}
use Rattle.std.specs.Prelude.{EachIndex, IsTrue, nat_lt, slice_index}
use Rattle.std.proofs.lemmas.Bool.{lt-ltb}
use Rattle.strm_num.specs.Words.{IsWord, truth_of}
use Rattle.list_denotation.specs.declared.input.Input.{Input}
use Rattle.list_denotation.specs.InputNames.{is_named_leaf as is_named_input, names_inputs}
use Rattle.list_denotation.specs.Literals.{has_words}
use Rattle.list_denotation.specs.Terms.{Term, Lit, Truth, Var, Param, Len}
use Rattle.loop_ir.specs.Constants.{is_word_leaf, operand_has_words, test_has_words, block_has_words}
use Rattle.loop_ir.specs.DeclaredNames.{Names, is_named_leaf, operand_names, test_names, block_names}
use Rattle.loop_ir.specs.Statements.{Const, Set, Block, Nil, Cons, join}
use Rattle.loop_ir.proofs.JoinedBlocks.{names_joined, words_joined}
use Rattle.state_alloc.specs.Layouts.{IsLaidOut}
use Rattle.expr_lower.specs.Contract.{Scope, top_of, value_block, condition_block, condition_test, operand_statements, operand_word, IsLowerable, GivesValue, GivesTruth, GivesWord, MayUse, NamesOnly, TestNamesOnly, WordNamesOnly, PutsValue, TellsTruth, YieldsWord, StandsFor}
use Rattle.expr_lower.specs.Costs.{is_plain, temps_of}
use Rattle.expr_forms.specs.Forms.{is_empty, operand_block, operand_in, into}
use Rattle.expr_lower.specs.PlainWords.{plain_word}
use Rattle.expr_lower.specs.Laws.{Laws}
use Rattle.expr_lower.specs.Scopes.{EachLeaf, IsWordLeaf, WordsInPlace, MayNameLeaf, MayNameWords}
use Rattle.expr_lower.proofs.BareForms.{bare_test}
use Rattle.expr_lower.proofs.Disjointness.{unread_disjoint}
use Rattle.expr_lower.proofs.Leaves.{both_leaves, each_leaf, tested_leaves, word_leaves}
use Rattle.expr_lower.proofs.Operands.{Ready}
use Rattle.expr_lower.proofs.Lowers.{value_comes, condition_comes_true, operand_comes_to_word}
use Rattle.expr_lower.proofs.PlainValues.{plain_value, plain_lowered, value_plain, plain_holds, plain_is_word}
use Rattle.expr_lower.proofs.LeafTests.{leaf_operand, value_in, test_in, operand_statements_in, operand_word_in}
use Rattle.expr_lower.proofs.Costs.{few_statements, no_loops, few_in_condition, no_loops_in_condition, few_in_operand, no_loops_in_operand}

-- ---- names

module _ (may : Names) where
  named_leaf : (rows : List ℕ) (x : Term) → MayNameLeaf may rows x → IsTrue (is_named_input may.inputs x) → IsTrue (operand_names may (leaf_operand rows x))
  named_leaf rows (Lit c) var input = refl
  named_leaf rows (Truth b) var input = refl
  named_leaf rows (Var k) var input = var
  named_leaf rows (Param k) var input = input
  named_leaf rows (Len k) var input = input
  named_leaf rows _ var input = refl

  named_leaves : (rows : List ℕ) (e : Term) → MayNameWords may rows e → IsTrue (names_inputs may.inputs e) → EachLeaf (λ x. IsTrue (operand_names may (leaf_operand rows x))) e
  named_leaves rows e vars inputs =
      both_leaves (MayNameLeaf may rows) (λ x. IsTrue (is_named_input may.inputs x)) (λ x. IsTrue (operand_names may (leaf_operand rows x))) (named_leaf rows) e vars
      (tested_leaves (is_named_input may.inputs) e inputs)

-- ---- constants

word_constant : (c : ℕ) → IsWord c → IsTrue (operand_has_words (Const c))
word_constant c word = lt-ltb c (2 ^ 64) word

truth_constant : (b : Bool) → IsTrue (nat_lt (truth_of b) (2 ^ 64))
truth_constant true = refl
truth_constant false = refl

constant_leaf : (rows : List ℕ) (x : Term) → IsWordLeaf x → IsTrue (operand_has_words (leaf_operand rows x))
constant_leaf rows (Lit c) word = word_constant c word
constant_leaf rows (Truth b) word = truth_constant b
constant_leaf rows (Var k) word = refl
constant_leaf rows (Param k) word = refl
constant_leaf rows (Len k) word = refl
constant_leaf rows _ word = refl

constant_leaves : (rows : List ℕ) (e : Term) → EachLeaf IsWordLeaf e → EachLeaf (λ x. IsTrue (operand_has_words (leaf_operand rows x))) e
constant_leaves rows e has = each_leaf IsWordLeaf (λ x. IsTrue (operand_has_words (leaf_operand rows x))) (constant_leaf rows) e has

-- ---- names and constants of an expression

module _ (laws : Laws) (scope : Scope) (e : Term) (target : ℕ) (has : IsTrue (has_words e)) (room : temps_of e ≤ scope.temps) where
  enough : scope.first_temp + temps_of e ≤ top_of scope
  enough = omega (arith, room)

  pub value_names : NamesOnly scope e target (value_block scope e target)
  value_names may used =
      value_in laws (is_named_leaf may) (λ c word. refl) (names_joined may) scope.rows e target scope.first_temp (top_of scope)
      used.at_target used.temporaries enough (word_leaves e has) (named_leaves may scope.rows e used.words used.inputs)

  condition_names : (may : Names) → MayUse may scope e target → IsTrue (block_names may (condition_block scope e target)) × IsTrue (test_names may (condition_test scope e target))
  condition_names may used =
      let parts = test_in laws (is_named_leaf may) (λ c word. refl) (names_joined may) scope.rows e target scope.first_temp (top_of scope)
      used.at_target used.temporaries enough (word_leaves e has) (named_leaves may scope.rows e used.words used.inputs) in
      (parts.block, parts.test)

  pub condition_block_names : NamesOnly scope e target (condition_block scope e target)
  condition_block_names may used = (condition_names may used).0

  pub condition_test_names : TestNamesOnly scope e target (condition_test scope e target)
  condition_test_names may used = (condition_names may used).1

  pub value_constants : IsTrue (block_has_words (value_block scope e target))
  value_constants =
      value_in laws is_word_leaf word_constant words_joined scope.rows e target scope.first_temp (top_of scope)
      refl (λ v low high. refl) enough (word_leaves e has) (constant_leaves scope.rows e (word_leaves e has))

  pub condition_constants : IsTrue (block_has_words (condition_block scope e target)) × IsTrue (test_has_words (condition_test scope e target))
  condition_constants =
      let parts = test_in laws is_word_leaf word_constant words_joined scope.rows e target scope.first_temp (top_of scope)
      refl (λ v low high. refl) enough (word_leaves e has) (constant_leaves scope.rows e (word_leaves e has)) in
      (parts.block, parts.test)

  operand_leaves : (may : Names) → MayUse may scope e target → IsTrue (block_names may (operand_statements scope e target)) × IsTrue (operand_names may (operand_word scope e target))
  operand_leaves may used =
      let leaves = named_leaves may scope.rows e used.words used.inputs in (
        operand_statements_in laws (is_named_leaf may) (λ c word. refl) (names_joined may) scope.rows e target scope.first_temp (top_of scope)
            used.at_target used.temporaries enough (word_leaves e has) leaves,
        operand_word_in laws (is_named_leaf may) (λ c word. refl) (names_joined may) scope.rows e target scope.first_temp (top_of scope)
            used.at_target used.temporaries enough (word_leaves e has) leaves,
      )

  pub operand_statement_names : NamesOnly scope e target (operand_statements scope e target)
  operand_statement_names may used = (operand_leaves may used).0

  pub operand_word_names : WordNamesOnly scope e target (operand_word scope e target)
  operand_word_names may used = (operand_leaves may used).1

  pub operand_constants : IsTrue (block_has_words (operand_statements scope e target))
  operand_constants =
      operand_statements_in laws is_word_leaf word_constant words_joined scope.rows e target scope.first_temp (top_of scope)
      refl (λ v low high. refl) enough (word_leaves e has) (constant_leaves scope.rows e (word_leaves e has))

  pub operand_word_constants : IsTrue (operand_has_words (operand_word scope e target))
  operand_word_constants =
      operand_word_in laws is_word_leaf word_constant words_joined scope.rows e target scope.first_temp (top_of scope)
      refl (λ v low high. refl) enough (word_leaves e has) (constant_leaves scope.rows e (word_leaves e has))

-- a condition without statements doesn't name its target
pub bare_test_names : (laws : Laws) (may : Names) (scope : Scope) (e : Term) (scratch : ℕ) → IsTrue (has_words e) → IsTrue (is_empty (condition_block scope e scratch)) → MayNameWords may scope.rows e → IsTrue (names_inputs may.inputs e) → IsTrue (test_names may (condition_test scope e scratch))
bare_test_names laws may scope e scratch has none words inputs =
    bare_test laws (is_named_leaf may) (λ c word. refl) scope.rows e scratch scope.first_temp (word_leaves e has) (named_leaves may scope.rows e words inputs) none

-- ---- what the statements do

module _ (laws : Laws) (scope : Scope) (next : ℕ) (e : Term) (target : ℕ) (laid_out : IsLaidOut scope.rows scope.first_temp scope.temps next) (can : IsLowerable scope e target) where
  ready : (inputs : List Input) (words env : List ℕ) → target < length env → top_of scope ≤ length env → WordsInPlace scope.rows words inputs env e → Ready scope.rows words inputs e target scope.first_temp (top_of scope) env
  ready inputs words env inside within place = record {
    has = word_leaves e can.words;
    outside = can.is_target.outside;
    room = omega (arith, can.temporaries);
    inside = inside;
    within = within;
    apart = unread_disjoint scope.rows target scope.first_temp scope.temps next laid_out.words e can.bound can.is_target.unread;
    in_place = place;
  }

  pub gives_value : GivesValue scope e target (value_block scope e target)
  gives_value inputs words env inside within place =
      value_comes laws scope.rows words inputs e target scope.first_temp (top_of scope) env (ready inputs words env inside within place)

  pub gives_truth : GivesTruth scope e target (condition_block scope e target) (condition_test scope e target)
  gives_truth inputs words env inside within place =
      condition_comes_true laws scope.rows words inputs e target scope.first_temp (top_of scope) env (ready inputs words env inside within place)

  pub puts_value : PutsValue scope e target (value_block scope e target)
  puts_value = record {
    gives = gives_value;
    names = value_names laws scope e target can.words can.temporaries;
    few = few_statements laws scope.rows e target scope.first_temp;
    no_loops = no_loops laws scope.rows e target scope.first_temp;
    constants = value_constants laws scope e target can.words can.temporaries;
  }

  pub tells_truth : TellsTruth scope e target (condition_block scope e target) (condition_test scope e target)
  tells_truth = record {
    gives = gives_truth;
    names = condition_block_names laws scope e target can.words can.temporaries;
    test_names = condition_test_names laws scope e target can.words can.temporaries;
    few = few_in_condition laws scope.rows e target scope.first_temp;
    no_loops = no_loops_in_condition laws scope.rows e target scope.first_temp;
    constants = (condition_constants laws scope e target can.words can.temporaries).0;
    test_constants = (condition_constants laws scope e target can.words can.temporaries).1;
  }

  pub gives_word : GivesWord scope e target (operand_statements scope e target) (operand_word scope e target)
  gives_word inputs words env inside within place =
      operand_comes_to_word laws scope.rows words inputs e target scope.first_temp (top_of scope) env (ready inputs words env inside within place)

  pub yields_word : YieldsWord scope e target (operand_statements scope e target) (operand_word scope e target)
  yields_word = record {
    gives = gives_word;
    names = operand_statement_names laws scope e target can.words can.temporaries;
    word_names = operand_word_names laws scope e target can.words can.temporaries;
    few = few_in_operand laws scope.rows e target scope.first_temp;
    no_loops = no_loops_in_operand laws scope.rows e target scope.first_temp;
    constants = operand_constants laws scope e target can.words can.temporaries;
    word_constants = operand_word_constants laws scope e target can.words can.temporaries;
  }

-- ---- plain expressions

module _ (scope : Scope) (e : Term) (target : ℕ) (plain : IsTrue (is_plain e)) where
  pub plain_assignment : value_block scope e target ≡ Cons (Set target (plain_word scope.rows e)) Nil
  plain_assignment = ap (λ l. into l target) (plain_lowered scope.rows e target scope.first_temp plain)

  pub plain_statements : operand_statements scope e target ≡ Nil
  plain_statements = ap (λ l. operand_block l target) (plain_lowered scope.rows e target scope.first_temp plain)

  pub plain_operand : operand_word scope e target ≡ plain_word scope.rows e
  plain_operand = ap (λ l. operand_in l.form target) (plain_lowered scope.rows e target scope.first_temp plain)

pub plain_stands : (laws : Laws) (rows words : List ℕ) (inputs : List Input) (env : List ℕ) (e : Term) → IsTrue (is_plain e) → IsTrue (has_words e) → WordsInPlace rows words inputs env e → StandsFor words inputs env e (plain_word rows e)
plain_stands laws rows words inputs env e plain has in_place = record {
  x = plain_value e words inputs;
  value = value_plain laws words inputs e plain;
  word = plain_is_word laws rows words inputs env e plain (word_leaves e has) in_place;
  is = plain_holds laws rows words inputs env e plain in_place;
}

-- ---- of what the code gives

-- variables that are laid out fit 32 bits
pub rows_fit : (rows : List ℕ) (first_temp temps next : ℕ) → IsLaidOut rows first_temp temps next → EachIndex rows (λ i. slice_index rows i < 2 ^ 32)
rows_fit rows first_temp temps next laid_out = λ i lt. omega (arith, (laid_out.words i 0 lt).below, laid_out.few)

pub temps_fit : (rows : List ℕ) (first_temp temps next n : ℕ) → IsLaidOut rows first_temp temps next → n ≤ temps → first_temp + n < 2 ^ 32
temps_fit rows first_temp temps next n laid_out le = omega (arith, laid_out.temporaries, laid_out.few, le)

-- what holds of statements that are appended to none holds of all
pub of_all : (P : Block → Type 0) (all start appended : Block) → all ≡ join start appended → start ≡ Nil → P appended → P all
of_all P all start appended is none h = subst P (sym (is ∙ ap (λ b. join b appended) none)) h
