-- Tokens are those of a program, or they stop to begin one.
use Rattle.std.proofs.Common.{◌≡◌, ◌⊎◌, List, [], ◌∷◌, ◌++◌, Option, Some, None, refl, sym, subst, ◌∙◌, inl, inr}
use Rattle.std.proofs.lemmas.List.{append_assoc, append-nil}
use Rattle.loop_ir.specs.Statements.{Routine}
use Rattle.exact_reader.specs.Exactness.{StopsAt, GoesNowhere}
use Rattle.c_tokens.specs.Cutting.{Token}
use Rattle.c_grammar.specs.Grammar.{IsProgram}
use Rattle.c_grammar.specs.Reading.{whats}
use Rattle.c_words.specs.Words.{StandsFor}
use Rattle.c_words.specs.declared.token.CToken.{CToken}
use Rattle.c_words.proofs.SomeToken.{token_of, token_stands}
use Rattle.c_automaton.specs.Automaton.{State, step, start, finish}
use Rattle.c_automaton.specs.Runs.{steps, AreSeen}
use Rattle.c_automaton.proofs.Runs.{steps_further, seen_further}
use Rattle.c_faults.specs.Answers.{programs}

abbrev pub ProgramOrStop : List Token → Type 0
ProgramOrStop toks = ((q : Routine) × IsProgram q (whats toks)) ⊎ ((rest : List Token) × StopsAt programs (GoesNowhere programs) toks rest)

module _ (reads : (toks : List Token) (seen : List CToken) (s : State) (q : Routine) → AreSeen seen toks → steps start seen ≡ Some s → finish s ≡ Some q → IsProgram q (whats toks))
    (ends : (toks : List Token) (seen : List CToken) (s : State) → AreSeen seen toks → steps start seen ≡ Some s → finish s ≡ None → StopsAt programs (GoesNowhere programs) toks [])
    (stops : (before : List Token) (t : Token) (rest : List Token) (seen : List CToken) (u : CToken) (s : State) → AreSeen seen before → StandsFor u t.what
    → steps start seen ≡ Some s → step s u ≡ None → StopsAt programs (GoesNowhere programs) (before ++ t ∷ rest) (t ∷ rest)) where
  -- the automaton takes the tokens, and comes to this state
  record ComesTo (toks : List Token) (s : State) : Type 0 where
    pub seen : List CToken
    pub are_seen : AreSeen seen toks
    pub is_behind : steps start seen ≡ Some s

  one_more : (before : List Token) (t : Token) (s n : State) → ComesTo before s → step s (token_of t.what) ≡ Some n → ComesTo (before ++ t ∷ []) n
  one_more before t s n comes e = record {
    seen = comes.seen ++ token_of t.what ∷ [];
    are_seen = seen_further comes.seen before (token_of t.what) t comes.are_seen (token_stands t.what);
    is_behind = steps_further comes.seen start s (token_of t.what) comes.is_behind ∙ e;
  }

  by_finish : (toks : List Token) (s : State) → ComesTo toks s → (end : Option Routine) → finish s ≡ end → ProgramOrStop toks
  by_finish toks s comes (Some q) e = inl (q, reads toks comes.seen s q comes.are_seen comes.is_behind e)
  by_finish toks s comes None e = inr ([], ends toks comes.seen s comes.are_seen comes.is_behind e)

  by_step : (before : List Token) (t : Token) (rest : List Token) (s : State) → ComesTo before s
      → ((n : State) → ComesTo (before ++ t ∷ []) n → ProgramOrStop ((before ++ t ∷ []) ++ rest))
      → (next : Option State) → step s (token_of t.what) ≡ next → ProgramOrStop (before ++ t ∷ rest)
  by_step before t rest s comes later (Some n) e =
      subst ProgramOrStop (append_assoc before (t ∷ []) rest) (later n (one_more before t s n comes e))
  by_step before t rest s comes later None e =
      inr (t ∷ rest, stops before t rest comes.seen (token_of t.what) s comes.are_seen (token_stands t.what) comes.is_behind e)

  -- tokens behind those that have been taken
  from : (rest before : List Token) (s : State) → ComesTo before s → ProgramOrStop (before ++ rest)
  from [] before s comes = subst ProgramOrStop (sym (append-nil before)) (by_finish before s comes (finish s) refl)
  from (t ∷ rest) before s comes = by_step before t rest s comes (λ n later. from rest (before ++ t ∷ []) n later) (step s (token_of t.what)) refl

  pub program_or_stop : (toks : List Token) → ProgramOrStop toks
  program_or_stop toks = from toks [] start (record { seen = []; are_seen = tt; is_behind = refl })
