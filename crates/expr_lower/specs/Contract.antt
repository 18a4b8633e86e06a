-- What is promised of the statements of an expression.
use Rattle.std.specs.Prelude.{◌≡◌, ◌≢◌, ℕ, ◌+◌, ◌<◌, ◌≤◌, ◌^◌, Bool, true, false, List, [], length, slice_index, IsTrue}
use Rattle.strm_num.specs.Words.{IsWord}
use Rattle.list_denotation.specs.declared.input.Input.{Input}
use Rattle.list_denotation.specs.InputNames.{names_inputs}
use Rattle.list_denotation.specs.Literals.{has_words}
use Rattle.list_denotation.specs.Scopes.{is_bound}
use Rattle.list_denotation.specs.Terms.{Term}
use Rattle.list_denotation.specs.Values.{Got, Is, Fails, choice, value}
use Rattle.list_denotation.specs.Observation.{Failed}
use Rattle.loop_ir.specs.Constants.{operand_has_words, test_has_words, block_has_words}
use Rattle.loop_ir.specs.Counts.{block_count, block_loops}
use Rattle.loop_ir.specs.DeclaredNames.{Names, operand_names, test_names, block_names}
use Rattle.loop_ir.specs.Statements.{Operand, Test, Block}
use Rattle.loop_ir.specs.Meaning.{Runs, Over, operand_value, test_value, run}
use Rattle.state_alloc.specs.declared.slots.Slots.{Slots}
use Rattle.list_denotation.specs.Costs.{cost}
use Rattle.expr_lower.specs.Costs.{temps_of}
use Rattle.expr_forms.specs.Forms.{operand_block, operand_in}
use Rattle.expr_lower.specs.Lowering.{lowered_term, lowered_into, lowered_test}
use Rattle.expr_lower.specs.Scopes.{IsOutside, IsUnread, WordsInPlace, MayNameWords}

-- where the words of a scope stand, and which variables are temporaries: so many from `first_temp` on
pub record Scope : Type 0 where
  pub rows : List ℕ
  pub first_temp : ℕ
  pub temps : ℕ

abbrev pub scope_of : Slots → Scope
scope_of slots = record { rows = slots.rows; first_temp = slots.first_temp; temps = slots.temps }

-- the first variable behind the temporaries
abbrev pub top_of : Scope → ℕ
top_of scope = scope.first_temp + scope.temps

-- the statements of an expression in a scope, with this target
abbrev pub value_block : Scope → Term → ℕ → Block
value_block scope e target = lowered_into scope.rows e target scope.first_temp

abbrev pub condition_block : Scope → Term → ℕ → Block
condition_block scope e target = (lowered_test scope.rows e target scope.first_temp).block

abbrev pub condition_test : Scope → Term → ℕ → Test
condition_test scope e target = (lowered_test scope.rows e target scope.first_temp).test

-- an expression as an operand: the statements, and the word that has its value once they have run
abbrev pub operand_statements : Scope → Term → ℕ → Block
operand_statements scope e scratch = operand_block (lowered_term scope.rows e scratch scope.first_temp) scratch

abbrev pub operand_word : Scope → Term → ℕ → Operand
operand_word scope e scratch = operand_in (lowered_term scope.rows e scratch scope.first_temp).form scratch

-- ---- what is asked for

-- the target is no temporary, and no word that the expression reads stands in it
pub record IsTarget (scope : Scope) (e : Term) (target : ℕ) : Type 0 where
  pub outside : IsOutside scope.first_temp (top_of scope) target
  pub unread : IsUnread scope.rows target e

-- the numbers in the expression are words, the words that it reads are bound, the temporaries are enough, and the target
-- is one
pub record IsLowerable (scope : Scope) (e : Term) (target : ℕ) : Type 0 where
  pub words : IsTrue (has_words e)
  pub bound : IsTrue (is_bound (length scope.rows) e)
  pub temporaries : temps_of e ≤ scope.temps
  pub is_target : IsTarget scope e target

-- ---- what the statements do

-- the variables are as they were, but for v and those from t up to but without top
pub record Kept (v t top : ℕ) (env env' : List ℕ) : Type 0 where
  pub same : length env' ≡ length env
  pub others : (x : ℕ) → x ≢ v → IsOutside t top x → slice_index env' x ≡ slice_index env x

module _ (inputs : List Input) where
  -- the statements go on without an event and without a turn, with a word x of which this holds then
  pub record GoesOn (block : Block) (env : List ℕ) (v t top : ℕ) (P : ℕ → List ℕ → Type 0) (x : ℕ) : Type 0 where
    pub env' : List ℕ
    pub runs : (left : ℕ) → run inputs block env left ≡ Runs [] env' left
    pub kept : Kept v t top env env'
    pub word : x < 2 ^ 64
    pub holds : P x env'

  -- they go on so with the value, or return 1 exactly where there is none
  abbrev pub ComesTo : Block → List ℕ → ℕ → ℕ → ℕ → (ℕ → List ℕ → Type 0) → Got ℕ → Type 0
  ComesTo block env v t top P (Is x) = GoesOn block env v t top P x
  ComesTo block env v t top P (Fails f) = (left : ℕ) → run inputs block env left ≡ Over [] (Failed f)

-- from each state that has the variables, and in which the words that are read stand in theirs, they come to the value,
-- of which this holds then. No other variable has changed but the target and temporaries
abbrev pub ComesToValue : (List Input → ℕ → List ℕ → Type 0) → Scope → Term → ℕ → Block → Type 0
ComesToValue P scope e target block =
    (inputs : List Input) (words env : List ℕ) → target < length env → top_of scope ≤ length env
    → WordsInPlace scope.rows words inputs env e
    → ComesTo inputs block env target scope.first_temp (top_of scope) (P inputs) (value e words inputs)

-- the word is in the variable
abbrev pub IsIn : ℕ → ℕ → List ℕ → Type 0
IsIn v x env = slice_index env v ≡ x

-- the value is in the target then
abbrev pub GivesValue : Scope → Term → ℕ → Block → Type 0
GivesValue scope e target block = ComesToValue (λ inputs. IsIn target) scope e target block

-- 0 is false, and every other word is true
abbrev pub is_true : ℕ → Bool
is_true x = choice x false true

-- the test tells whether the value is true then
abbrev pub GivesTruth : Scope → Term → ℕ → Block → Test → Type 0
GivesTruth scope e target block test =
    ComesToValue (λ inputs x env'. test_value inputs test env' ≡ Is (is_true x)) scope e target block

-- the word has the value then
abbrev pub GivesWord : Scope → Term → ℕ → Block → Operand → Type 0
GivesWord scope e scratch block word =
    ComesToValue (λ inputs x env'. operand_value inputs word env' ≡ Is x) scope e scratch block

-- ---- what they name

-- whatever the expression may name: the target, the temporaries, the variables of the words that it reads, and the inputs
-- that it names, in the same way
pub record MayUse (may : Names) (scope : Scope) (e : Term) (target : ℕ) : Type 0 where
  pub at_target : IsTrue (may.var target)
  pub temporaries : (v : ℕ) → scope.first_temp ≤ v → v < top_of scope → IsTrue (may.var v)
  pub words : MayNameWords may scope.rows e
  pub inputs : IsTrue (names_inputs may.inputs e)

-- the statements name nothing else: whatever may be named, if all of these may
abbrev pub NamesOnly : Scope → Term → ℕ → Block → Type 0
NamesOnly scope e target block = (may : Names) → MayUse may scope e target → IsTrue (block_names may block)

abbrev pub TestNamesOnly : Scope → Term → ℕ → Test → Type 0
TestNamesOnly scope e target test = (may : Names) → MayUse may scope e target → IsTrue (test_names may test)

abbrev pub WordNamesOnly : Scope → Term → ℕ → Operand → Type 0
WordNamesOnly scope e scratch word = (may : Names) → MayUse may scope e scratch → IsTrue (operand_names may word)

-- ---- all of it

-- the statements put the value of the expression into the target
pub record PutsValue (scope : Scope) (e : Term) (target : ℕ) (block : Block) : Type 0 where
  pub gives : GivesValue scope e target block
  pub names : NamesOnly scope e target block
  pub few : block_count block ≤ cost e
  pub no_loops : block_loops block ≡ 0
  pub constants : IsTrue (block_has_words block)

-- the statements, and then the test, tell whether the value of the expression is true
pub record TellsTruth (scope : Scope) (e : Term) (target : ℕ) (block : Block) (test : Test) : Type 0 where
  pub gives : GivesTruth scope e target block test
  pub names : NamesOnly scope e target block
  pub test_names : TestNamesOnly scope e target test
  pub few : block_count block ≤ cost e
  pub no_loops : block_loops block ≡ 0
  pub constants : IsTrue (block_has_words block)
  pub test_constants : IsTrue (test_has_words test)

-- the statements, and then the word, have the value of the expression
pub record YieldsWord (scope : Scope) (e : Term) (scratch : ℕ) (block : Block) (word : Operand) : Type 0 where
  pub gives : GivesWord scope e scratch block word
  pub names : NamesOnly scope e scratch block
  pub word_names : WordNamesOnly scope e scratch word
  pub few : block_count block ≤ cost e
  pub no_loops : block_loops block ≡ 0
  pub constants : IsTrue (block_has_words block)
  pub word_constants : IsTrue (operand_has_words word)

-- the expression has a value, which is a word, and this operand has it as the variables are
pub record StandsFor (words : List ℕ) (inputs : List Input) (env : List ℕ) (e : Term) (operand : Operand) : Type 0 where
  pub x : ℕ
  pub value : value e words inputs ≡ Is x
  pub word : IsWord x
  pub is : operand_value inputs operand env ≡ Is x
