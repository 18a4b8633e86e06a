-- What is promised of the definitions. Each statement has one name, which its law and those who stand on it cite.
use Rattle.std.specs.Prelude.{◌≡◌, ◌≢◌, ◌↔◌, ℕ, List, Option, None, Err}
use Rattle.c_answers.specs.Refusals.{HasCRefusal}
use Rattle.c_faults.specs.Answers.{Answer, IsWithinBrackets, ReadsAs}
use Rattle.c_faults.specs.declared.fault.CFault.{CFault}
use Rattle.c_faults.specs.declared.fault.CFault.TheVariants.{NoMemory}
use Rattle.c_grammar.specs.Reading.{Reads}
use Rattle.loop_ir.specs.Statements.{Routine}

-- Each text has an answer that is no refusal of memory.
abbrev pub CTextsHaveAnAnswer : Type 0
CTextsHaveAnAnswer =
    (src : List ℕ) → (a : Answer) × (ReadsAs src a × (a ≢ Err NoMemory))

-- A text has one refusal at most, and none beside it.
abbrev pub CTextsHaveOneRefusal : Type 0
CTextsHaveOneRefusal =
    (src : List ℕ) (a b : Option CFault)
    → HasCRefusal src a → HasCRefusal src b → a ≡ b

-- Each text has a refusal or none: together with the law before it, exactly one of these.
abbrev pub EachCTextHasItsRefusal : Type 0
EachCTextHasItsRefusal =
    (src : List ℕ) → (o : Option CFault) × HasCRefusal src o

-- A text has no refusal exactly where it reads as some program and its brackets are within the limit.
abbrev pub CProgramsHaveNoRefusal : Type 0
CProgramsHaveNoRefusal =
    (src : List ℕ) →
    HasCRefusal src None ↔ ((q : Routine) × (Reads src q × IsWithinBrackets src))
