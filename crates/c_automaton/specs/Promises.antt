-- What is promised of the definitions. Each statement has one name, which its law and those who stand on it cite.
use Rattle.std.specs.Prelude.{◌≡◌, List, [], ◌∷◌, ◌++◌, Some, None}
use Rattle.loop_ir.specs.Statements.{Routine}
use Rattle.exact_reader.specs.Exactness.{StopsAt, GoesNowhere}
use Rattle.c_tokens.specs.Cutting.{Token}
use Rattle.c_grammar.specs.Grammar.{IsProgram}
use Rattle.c_grammar.specs.Reading.{whats}
use Rattle.c_faults.specs.Answers.{programs}
use Rattle.c_words.specs.Words.{StandsFor}
use Rattle.c_words.specs.declared.token.CToken.{CToken}
use Rattle.c_automaton.specs.Automaton.{State, start, step, finish}
use Rattle.c_automaton.specs.Runs.{steps, AreSeen}

-- The automaton is exact. `reads`: where it has taken all tokens and gives a program, they are those of
-- this program. `ends`: where it has taken all of them and gives none, they begin a program and are
-- none. `stops`: the tokens that it has taken begin a program, and with the first that it refuses they
-- begin none.
abbrev pub ProgramsHaveTheTokensRead : Type 0
ProgramsHaveTheTokensRead =
    (toks : List Token) (seen : List CToken) (s : State) (q : Routine) → AreSeen seen toks
    → steps start seen ≡ Some s → finish s ≡ Some q → IsProgram q (whats toks)

abbrev pub TokensReadWithoutEndBeginAProgram : Type 0
TokensReadWithoutEndBeginAProgram =
    (toks : List Token) (seen : List CToken) (s : State) → AreSeen seen toks
    → steps start seen ≡ Some s → finish s ≡ None → StopsAt programs (GoesNowhere programs) toks []

abbrev pub RefusedTokensBeginNoProgram : Type 0
RefusedTokensBeginNoProgram =
    (before : List Token) (t : Token) (rest : List Token) (seen : List CToken) (u : CToken) (s : State)
    → AreSeen seen before → StandsFor u t.what → steps start seen ≡ Some s → step s u ≡ None
    → StopsAt programs (GoesNowhere programs) (before ++ t ∷ rest) (t ∷ rest)
