-- The states that the automaton comes to, token by token, and where it stops.
use Rattle.std.proofs.Common.{◌≡◌, ℕ, List, [], ◌∷◌, ◌++◌, Bool, true, false, Some, None, refl, sym, ap, subst, ◌∙◌}
use Rattle.exact_reader.specs.Exactness.{StopsAt, GoesNowhere}
use Rattle.loop_ir.specs.Statements.{Routine}
use Rattle.c_automaton.specs.Automaton.{State, start, step, finish}
use Rattle.c_automaton.specs.Runs.{steps, AreSeen}
use Rattle.c_automaton.proofs.Runs.{steps_further, seen_further}
use Rattle.c_faults.specs.Answers.{HasTokenAt, StopsThere, programs}
use Rattle.c_grammar.specs.Grammar.{IsProgram}
use Rattle.c_grammar.specs.Reading.{whats}
use Rattle.c_lexer.specs.declared.cursor.Found.{Found}
use Rattle.c_phrase_reader.specs.PhraseCopies.{if_taken}
use Rattle.c_tokens.specs.Cutting.{Token}
use Rattle.c_words.specs.Words.{StandsFor}
use Rattle.c_words.specs.declared.token.CToken.{CToken}
use Rattle.c_subset_reader.specs.Reached.{IsReached}
use Rattle.c_subset_reader.proofs.Taking.{Extends}

-- one token more is taken
pub reached_more : (s n : State) (found : Found) (taken : Bool) → step s found.token ≡ if_taken taken n → taken ≡ true → Extends found (IsReached s) (IsReached n)
reached_more s n found taken is taken_is = λ before t seen h.
    let e : step s found.token ≡ Some n = is ∙ ap (λ (b : Bool). if_taken b n) taken_is in
    record {
      seen = h.seen ++ found.token ∷ [];
      are_seen = seen_further h.seen before found.token t h.are_seen seen.stands;
      reached = steps_further h.seen start s found.token h.reached ∙ e;
    }

-- a state is come to over the tokens before, and it doesn't take this one
pub record IsStuck (before : List Token) (t : Token) : Type 0 where
  pub state : State
  pub reached : IsReached state before
  pub token : CToken
  pub stands : StandsFor token t.what
  pub refuses : step state token ≡ None

pub stuck_there : (s n : State) (found : Found) (taken : Bool) → step s found.token ≡ if_taken taken n → taken ≡ false → (before : List Token) (t : Token)
    → StandsFor found.token t.what → IsReached s before → IsStuck before t
stuck_there s n found taken is taken_is before t stands h = record {
  state = s;
  reached = h;
  token = found.token;
  stands = stands;
  refuses = is ∙ ap (λ (b : Bool). if_taken b n) taken_is;
}

-- what the automaton's law says of such a token
abbrev pub StopsLaw : Type 0
StopsLaw = (before : List Token) (t : Token) (rest : List Token) (seen : List CToken) (u : CToken) (s : State)
    → AreSeen seen before → StandsFor u t.what → steps start seen ≡ Some s → step s u ≡ None
    → StopsAt programs (GoesNowhere programs) (before ++ t ∷ rest) (t ∷ rest)

pub stops_at : StopsLaw → (end at : ℕ) (toks : List Token) → HasTokenAt at IsStuck toks → StopsThere end at toks
stops_at law end at toks h =
    let stuck = h.holds_of_it in
    record {
      rest = h.token ∷ h.after;
      stops = subst (λ (ts : List Token). StopsAt programs (GoesNowhere programs) ts (h.token ∷ h.after)) (sym h.parts)
          (law h.before h.token h.after stuck.reached.seen stuck.token stuck.state stuck.reached.are_seen stuck.stands stuck.reached.reached stuck.refuses);
      offset = sym h.is_there;
    }

-- ---- the end of a text

-- where the automaton has taken all, its end says whether they are a program
abbrev pub ReadsLaw : Type 0
ReadsLaw = (toks : List Token) (seen : List CToken) (s : State) (q : Routine) → AreSeen seen toks → steps start seen ≡ Some s → finish s ≡ Some q → IsProgram q (whats toks)

abbrev pub EndsLaw : Type 0
EndsLaw = (toks : List Token) (seen : List CToken) (s : State) → AreSeen seen toks → steps start seen ≡ Some s → finish s ≡ None → StopsAt programs (GoesNowhere programs) toks []

pub reads_all : ReadsLaw → (s : State) (toks : List Token) (q : Routine) → IsReached s toks → finish s ≡ Some q → IsProgram q (whats toks)
reads_all law s toks q h e = law toks h.seen s q h.are_seen h.reached e

pub ends_early : EndsLaw → (s : State) (toks : List Token) (end : ℕ) → IsReached s toks → finish s ≡ None → StopsThere end end toks
ends_early law s toks end h e = record { rest = []; stops = law toks h.seen s h.are_seen h.reached e; offset = refl }
