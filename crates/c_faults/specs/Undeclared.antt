-- The tokens that are names which a program doesn't declare.
use Rattle.std.specs.Prelude.{◌≡◌, ℕ, ◌^◌, ◌<◌, Bool, true, false, List, ◌++◌, codes, decimal}
use Rattle.loop_ir.specs.DeclaredNames.{Names}
use Rattle.c_tokens.specs.Pieces.{What, Word}

-- the sorts of names: variables, arrays, the lengths of arrays, ints
pub data Sort : Type 0 where
  Variable Array Length Int : Sort

abbrev pub letter_of : Sort → List ℕ
letter_of Variable = codes "v"
letter_of Array = codes "a"
letter_of Length = codes "n"
letter_of Int = codes "i"

abbrev pub declares : Names → Sort → ℕ → Bool
declares names Variable k = names.var k
declares names Array k = names.inputs.array k
declares names Length k = names.inputs.array k
declares names Int k = names.inputs.int k

-- the token is the name of this sort with this number
pub record IsName (sort : Sort) (k : ℕ) (what : What) : Type 0 where
  pub small : k < 2 ^ 32
  pub is : what ≡ Word (letter_of sort ++ decimal k)

-- the token is a name that isn't among these
pub record IsUndeclared (names : Names) (what : What) : Type 0 where
  pub sort : Sort
  pub number : ℕ
  pub name : IsName sort number what
  pub undeclared : declares names sort number ≡ false

-- if the token is a name, it is among these
abbrev pub IsDeclared : Names → What → Type 0
IsDeclared names what = (sort : Sort) (k : ℕ) → IsName sort k what → declares names sort k ≡ true
