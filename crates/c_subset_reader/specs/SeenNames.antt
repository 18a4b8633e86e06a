-- Whether a name that a reader sees is declared.
use Rattle.std.specs.Prelude.{ℕ, Bool, true}
use Rattle.loop_ir.specs.DeclaredNames.{Names}
use Rattle.c_words.specs.declared.token.Letter.{Letter}
use Rattle.c_words.specs.declared.token.Letter.TheVariants as letter
use Rattle.c_words.specs.declared.token.CToken.{CToken}
use Rattle.c_words.specs.declared.token.CToken.TheVariants.{Name}

abbrev pub is_declared_letter : Names → Letter → ℕ → Bool
is_declared_letter names letter.Variable k = names.var k
is_declared_letter names letter.Array k = names.inputs.array k
is_declared_letter names letter.Length k = names.inputs.array k
is_declared_letter names letter.Int k = names.inputs.int k

-- a token that is no name is declared
abbrev pub is_declared_token : Names → CToken → Bool
is_declared_token names (Name l k) = is_declared_letter names l k
is_declared_token names t = true
