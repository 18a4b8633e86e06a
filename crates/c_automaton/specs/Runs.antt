-- The automaton over several tokens.
use Rattle.std.specs.Prelude.{List, [], ◌∷◌, Option, Some, None}
use Rattle.c_tokens.specs.Cutting.{Token}
use Rattle.c_words.specs.Words.{StandsFor}
use Rattle.c_words.specs.declared.token.CToken.{CToken}
use Rattle.c_automaton.specs.Automaton.{State, step}

abbrev pub goes_on_with : Option State → (State → Option State) → Option State
goes_on_with None next = None
goes_on_with (Some s) next = next s

-- the state behind all of the tokens
abbrev pub steps : State → List CToken → Option State
steps s [] = Some s
steps s (t ∷ toks) = goes_on_with (step s t) (λ n. steps n toks)

-- this is what a reader sees in the tokens, one by one
abbrev pub AreSeen : List CToken → List Token → Type 0
AreSeen [] [] = Unit {0}
AreSeen (u ∷ seen) (t ∷ toks) = StandsFor u t.what × AreSeen seen toks
AreSeen seen toks = ⊥
