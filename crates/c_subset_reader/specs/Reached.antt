-- The states that the automaton comes to.
use Rattle.std.specs.Prelude.{◌≡◌, List, Some}
use Rattle.c_automaton.specs.Automaton.{State, start}
use Rattle.c_automaton.specs.Runs.{steps, AreSeen}
use Rattle.c_tokens.specs.Cutting.{Token}
use Rattle.c_words.specs.declared.token.CToken.{CToken}

-- it comes to this state over these tokens
pub record IsReached (s : State) (toks : List Token) : Type 0 where
  pub seen : List CToken
  pub are_seen : AreSeen seen toks
  pub reached : steps start seen ≡ Some s
