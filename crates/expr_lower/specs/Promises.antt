-- What is promised of the definitions. Each statement has one name, which its law and those who stand on it cite.
use Rattle.std.specs.Prelude.{◌≡◌, ℕ, ◌<◌, ◌≤◌, ◌*◌, List, IsTrue, length, slice_index}
use Rattle.list_denotation.specs.declared.input.Input.{Input}
use Rattle.list_denotation.specs.Costs.{cost}
use Rattle.list_denotation.specs.Counts.{term_nodes, term_depth}
use Rattle.list_denotation.specs.Literals.{has_words}
use Rattle.list_denotation.specs.Scopes.{is_bound}
use Rattle.list_denotation.specs.Terms.{Term}
use Rattle.list_denotation.specs.InputNames.{names_inputs}
use Rattle.loop_ir.specs.Constants.{block_has_words, operand_has_words, test_has_words}
use Rattle.loop_ir.specs.DeclaredNames.{Names, test_names}
use Rattle.loop_ir.specs.Statements.{Set, Nil, Cons}
use Rattle.state_alloc.specs.Layouts.{IsLaidOut}
use Rattle.expr_lower.specs.Contract.{Scope, value_block, condition_block, condition_test, operand_statements, operand_word, IsTarget, IsLowerable, PutsValue, TellsTruth, YieldsWord, StandsFor, NamesOnly, TestNamesOnly, WordNamesOnly}
use Rattle.expr_lower.specs.Costs.{is_plain, temps_of}
use Rattle.expr_forms.specs.Forms.{is_empty}
use Rattle.expr_lower.specs.PlainWords.{plain_word}
use Rattle.expr_lower.specs.Scopes.{WordsInPlace, ScopeInPlace, MayNameWords}

-- The cost of an expression is at most 9 for each of its nodes.
abbrev pub CostsAreFew : Type 0
CostsAreFew =
    (e : Term) → cost e ≤ 9 * term_nodes e

-- The temporaries of an expression are at most one for each level of its depth.
abbrev pub TemporariesAreFew : Type 0
TemporariesAreFew =
    (e : Term) → temps_of e ≤ term_depth e

-- The statements of an expression over words that are laid out put its value into the target, those
-- of a condition tell whether it is true, and those of an operand leave its value in a word; or
-- they return 1 exactly where it traps. They have
-- no loop, and at most as many statements as the expression's cost, name nothing but what it
-- names, the target and the temporaries, and their constants are words.
abbrev pub ValuesAreLowered : Type 0
ValuesAreLowered =
    (scope : Scope) (next : ℕ) (e : Term) (target : ℕ)
    → IsLaidOut scope.rows scope.first_temp scope.temps next
    → IsLowerable scope e target
    → PutsValue scope e target (value_block scope e target)

abbrev pub ConditionsAreLowered : Type 0
ConditionsAreLowered =
    (scope : Scope) (next : ℕ) (e : Term) (scratch : ℕ)
    → IsLaidOut scope.rows scope.first_temp scope.temps next
    → IsLowerable scope e scratch
    → TellsTruth scope e scratch (condition_block scope e scratch)
    (condition_test scope e scratch)

abbrev pub OperandsAreLowered : Type 0
OperandsAreLowered =
    (scope : Scope) (next : ℕ) (e : Term) (scratch : ℕ)
    → IsLaidOut scope.rows scope.first_temp scope.temps next
    → IsLowerable scope e scratch
    → YieldsWord scope e scratch (operand_statements scope e scratch)
    (operand_word scope e scratch)

-- What holds of all words of a scope holds of those that an expression over it reads: a variable
-- that was not given out is a target, and words that stand in their variables or may be named do.
abbrev pub FreshVariablesAreTargets : Type 0
FreshVariablesAreTargets =
    (scope : Scope) (next : ℕ) (e : Term) (target : ℕ)
    → IsLaidOut scope.rows scope.first_temp scope.temps next
    → IsTrue (is_bound (length scope.rows) e) → next ≤ target
    → IsTarget scope e target

abbrev pub ScopesInPlaceHoldWordsInPlace : Type 0
ScopesInPlaceHoldWordsInPlace =
    (rows words : List ℕ) (inputs : List Input) (env : List ℕ) (e : Term)
    → IsTrue (is_bound (length rows) e) → ScopeInPlace rows words inputs env
    → WordsInPlace rows words inputs env e

abbrev pub NamedScopesNameWords : Type 0
NamedScopesNameWords =
    (may : Names) (rows : List ℕ) (e : Term)
    → IsTrue (is_bound (length rows) e)
    → ((k : ℕ) → k < length rows → IsTrue (may.var (slice_index rows k)))
    → MayNameWords may rows e

-- A plain expression needs no temporary and no statements but the assignment of one word, which is
-- its operand's word too. In each state in which the words that it reads stand in their variables,
-- this word has the expression's value, which is a word. So the variable of a word that it reads may
-- be set to it.
abbrev pub PlainValuesAreOneAssignment : Type 0
PlainValuesAreOneAssignment =
    (scope : Scope) (e : Term) (target : ℕ) → IsTrue (is_plain e)
    → value_block scope e target ≡ Cons (Set target (plain_word scope.rows e)) Nil

abbrev pub PlainOperandsHaveNoStatements : Type 0
PlainOperandsHaveNoStatements =
    (scope : Scope) (e : Term) (scratch : ℕ) → IsTrue (is_plain e)
    → operand_statements scope e scratch ≡ Nil

abbrev pub PlainOperandsAreWords : Type 0
PlainOperandsAreWords =
    (scope : Scope) (e : Term) (scratch : ℕ) → IsTrue (is_plain e)
    → operand_word scope e scratch ≡ plain_word scope.rows e

abbrev pub PlainExpressionsNeedNoTemporaries : Type 0
PlainExpressionsNeedNoTemporaries =
    (e : Term) → IsTrue (is_plain e) → temps_of e ≡ 0

abbrev pub PlainWordsHaveTheirValues : Type 0
PlainWordsHaveTheirValues =
    (rows words : List ℕ) (inputs : List Input) (env : List ℕ) (e : Term)
    → IsTrue (is_plain e) → IsTrue (has_words e) → WordsInPlace rows words inputs env e
    → StandsFor words inputs env e (plain_word rows e)

-- The statements of an expression name its target, its temporaries and its leaves alone, and their
-- constants are words, wherever the words of the scope stand; so do the words and tests behind
-- them. A condition without statements doesn't name its scratch variable.
abbrev pub ValuesNameTheirLeaves : Type 0
ValuesNameTheirLeaves =
    (scope : Scope) (e : Term) (target : ℕ) → IsTrue (has_words e)
    → temps_of e ≤ scope.temps → NamesOnly scope e target (value_block scope e target)

abbrev pub ConditionsNameTheirLeaves : Type 0
ConditionsNameTheirLeaves =
    (scope : Scope) (e : Term) (scratch : ℕ) → IsTrue (has_words e)
    → temps_of e ≤ scope.temps
    → NamesOnly scope e scratch (condition_block scope e scratch)

abbrev pub TestsNameTheirLeaves : Type 0
TestsNameTheirLeaves =
    (scope : Scope) (e : Term) (scratch : ℕ) → IsTrue (has_words e)
    → temps_of e ≤ scope.temps
    → TestNamesOnly scope e scratch (condition_test scope e scratch)

abbrev pub BareTestsNameTheirLeaves : Type 0
BareTestsNameTheirLeaves =
    (may : Names) (scope : Scope) (e : Term) (scratch : ℕ)
    → IsTrue (has_words e) → IsTrue (is_empty (condition_block scope e scratch))
    → MayNameWords may scope.rows e → IsTrue (names_inputs may.inputs e)
    → IsTrue (test_names may (condition_test scope e scratch))

abbrev pub OperandsNameTheirLeaves : Type 0
OperandsNameTheirLeaves =
    (scope : Scope) (e : Term) (scratch : ℕ) → IsTrue (has_words e)
    → temps_of e ≤ scope.temps
    → NamesOnly scope e scratch (operand_statements scope e scratch)

abbrev pub OperandWordsNameTheirLeaves : Type 0
OperandWordsNameTheirLeaves =
    (scope : Scope) (e : Term) (scratch : ℕ) → IsTrue (has_words e)
    → temps_of e ≤ scope.temps
    → WordNamesOnly scope e scratch (operand_word scope e scratch)

abbrev pub ValuesHaveWordConstants : Type 0
ValuesHaveWordConstants =
    (scope : Scope) (e : Term) (target : ℕ) → IsTrue (has_words e)
    → temps_of e ≤ scope.temps → IsTrue (block_has_words (value_block scope e target))

abbrev pub ConditionsHaveWordConstants : Type 0
ConditionsHaveWordConstants =
    (scope : Scope) (e : Term) (scratch : ℕ)
    → IsTrue (has_words e) → temps_of e ≤ scope.temps
    → IsTrue (block_has_words (condition_block scope e scratch))
    × IsTrue (test_has_words (condition_test scope e scratch))

abbrev pub OperandsHaveWordConstants : Type 0
OperandsHaveWordConstants =
    (scope : Scope) (e : Term) (scratch : ℕ) → IsTrue (has_words e)
    → temps_of e ≤ scope.temps
    → IsTrue (block_has_words (operand_statements scope e scratch))
    × IsTrue (operand_has_words (operand_word scope e scratch))
