-- What is promised of the definitions. Each statement has one name, which its law and those who stand on it cite.
use Rattle.std.specs.Prelude.{◌^◌, ◌≤◌, ℕ, List, length, All, IsTrue}
use Rattle.loop_ir.specs.Constants.{block_has_words}
use Rattle.loop_ir.specs.DeclaredNames.{declared_names, block_names}
use Rattle.loop_ir.specs.Statements.{Routine}
use Rattle.c_tokens.specs.Cutting.{Token, AreTokensOf}
use Rattle.c_tokens.specs.Pieces.{What}
use Rattle.c_grammar.specs.Grammar.{IsProgram}
use Rattle.c_grammar.specs.Reading.{whats}
use Rattle.c_faults.specs.Answers.{Answer, ReadsAs, IsSameUnlessRefused}
use Rattle.c_faults.specs.Undeclared.{IsDeclared}

-- A text has one answer at most, unless memory is refused.
abbrev pub CTextsHaveOneAnswer : Type 0
CTextsHaveOneAnswer =
    (src : List ℕ) (a b : Answer)
    → ReadsAs src a → ReadsAs src b → IsSameUnlessRefused a b

-- The names among the tokens of a program are declared exactly if those in its statements are.
abbrev pub DeclaredTokensAreDeclaredNames : Type 0
DeclaredTokensAreDeclaredNames =
    (q : Routine) (toks : List Token) → IsProgram q (whats toks)
    → All (λ (t : Token). IsDeclared (declared_names q.params q.vars) t.what) toks
    → IsTrue (block_names (declared_names q.params q.vars) q.body)

abbrev pub DeclaredNamesAreDeclaredTokens : Type 0
DeclaredNamesAreDeclaredTokens =
    (q : Routine) (toks : List Token) → IsProgram q (whats toks)
    → IsTrue (block_names (declared_names q.params q.vars) q.body)
    → All (λ (t : Token). IsDeclared (declared_names q.params q.vars) t.what) toks

-- Each constant in a program that a text is cut into is a word: below 2^64.
abbrev pub ProgramsOfTextsHaveWords : Type 0
ProgramsOfTextsHaveWords =
    (text : List ℕ) (toks : List Token) (q : Routine)
    → AreTokensOf text toks → IsProgram q (whats toks) → IsTrue (block_has_words q.body)

-- A program has at most 2^32 parameters, since each has its number in a name.
abbrev pub ProgramsHaveFewParams : Type 0
ProgramsHaveFewParams =
    (q : Routine) (toks : List What) → IsProgram q toks → length q.params ≤ 2 ^ 32

-- A program that a text is cut into declares at most as many variables as the text has bytes.
abbrev pub ProgramsOfTextsHaveFewVariables : Type 0
ProgramsOfTextsHaveFewVariables =
    (text : List ℕ) (toks : List Token) (q : Routine)
    → AreTokensOf text toks → IsProgram q (whats toks) → q.vars ≤ length text
