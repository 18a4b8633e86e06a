-- What is promised of the definitions. Each statement has one name, which its law and those who stand on it cite.
use Rattle.std.specs.Prelude.{◌≡◌, ℕ, List, Some, IsTrue}
use Rattle.list_denotation.specs.declared.input.Input.{Input}
use Rattle.list_denotation.specs.Literals.{has_words}
use Rattle.list_denotation.specs.Terms.{Term}
use Rattle.list_denotation.specs.Values.{Is, value}
use Rattle.expr_constants.specs.Constants.{constant_of, IsWordConstant}

-- Where the constant of an expression is known, it is its value, whatever the names in it stand
-- for, and a word.
abbrev pub ConstantsAreValues : Type 0
ConstantsAreValues =
    (e : Term) (c : ℕ) (words : List ℕ) (inputs : List Input)
    → constant_of e ≡ Some c → value e words inputs ≡ Is c

abbrev pub ConstantsAreWords : Type 0
ConstantsAreWords =
    (e : Term) → IsTrue (has_words e) → IsWordConstant (constant_of e)
