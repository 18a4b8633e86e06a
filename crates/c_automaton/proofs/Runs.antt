-- The automaton over several tokens, and what its states tell of them.
use Rattle.std.proofs.Common.{◌≡◌, List, [], ◌∷◌, ◌++◌, cond, true, Option, Some, None, refl, sym, ap, subst, ◌∙◌, append-nil}
use Rattle.exact_reader.specs.Exactness.{Outcome, Read, Syntax, TooDeep, IsExact, StopsAt, GoesNowhere, run, outcome_at_end, outcome_of_step}
use Rattle.loop_ir.specs.Statements.{Routine}
use Rattle.c_tokens.specs.Cutting.{Token}
use Rattle.c_grammar.specs.Grammar.{IsProgram}
use Rattle.c_grammar.specs.Reading.{whats}
use Rattle.c_faults.specs.Answers.{programs}
use Rattle.c_words.specs.Words.{StandsFor}
use Rattle.c_words.specs.declared.token.CToken.{CToken}
use Rattle.c_words.proofs.OneToken.{one_token}
use Rattle.c_words.proofs.SomeToken.{token_of, token_stands}
use Rattle.c_automaton.specs.Automaton.{State, step, start, finish}
use Rattle.c_automaton.specs.Runs.{goes_on_with, steps, AreSeen}
use Rattle.c_automaton.proofs.ProgramLaws.{automaton, run_is_exact}

-- ---- one token more

further_from : (toks : List CToken) (t : CToken) (n : State) (to : Option State) → ((m : State) → steps m toks ≡ Some n → steps m (toks ++ t ∷ []) ≡ step n t)
    → goes_on_with to (λ m. steps m toks) ≡ Some n → goes_on_with to (λ m. steps m (toks ++ t ∷ [])) ≡ step n t
further_from toks t n None f e = absurd cc
further_from toks t n (Some m) f e = f m e

last_step : (to : Option State) → goes_on_with to (λ m. Some m) ≡ to
last_step None = refl
last_step (Some m) = refl

pub steps_further : (toks : List CToken) (s n : State) (t : CToken) → steps s toks ≡ Some n → steps s (toks ++ t ∷ []) ≡ step n t
steps_further [] s n t e = let i : s ≡ n = cc in subst (λ (m : State). goes_on_with (step s t) (λ k. Some k) ≡ step m t) i (last_step (step s t))
steps_further (u ∷ toks) s n t e = further_from toks t n (step s u) (λ m k. steps_further toks m n t k) e

pub seen_further : (seen : List CToken) (toks : List Token) (u : CToken) (t : Token) → AreSeen seen toks → StandsFor u t.what → AreSeen (seen ++ u ∷ []) (toks ++ t ∷ [])
seen_further [] [] u t h st = (st, tt)
seen_further (v ∷ seen) (w ∷ toks) u t h st = (h.0, seen_further seen toks u t h.1 st)
seen_further seen toks u t h st = absurd h

-- ---- the run of the exact reader

run_step : (s : State) (t : Token) (x : List Token) (n : State) → step s (token_of t.what) ≡ Some n → run automaton s (t ∷ x) ≡ run automaton n x
run_step s t x n e = ap (λ (o : Option State). outcome_of_step o (λ m. cond true (run automaton m x) (TooDeep (t ∷ x))) (t ∷ x)) e

-- a token that a reader sees is the one that the exact reader steps over
step_seen : (s : State) (u : CToken) (t : Token) (to : Option State) → StandsFor u t.what → step s u ≡ to → step s (token_of t.what) ≡ to
step_seen s u t to st e = subst (λ (v : CToken). step s v ≡ to) (one_token t.what u (token_of t.what) st (token_stands t.what)) e

run_behind : (s : State) (u : CToken) (t : Token) (x : List Token) (seen : List CToken) (o : Outcome Token Routine) (n : State) (to : Option State) → StandsFor u t.what → step s u ≡ to
    → goes_on_with to (λ m. steps m seen) ≡ Some n → ((m : State) → steps m seen ≡ Some n → run automaton m x ≡ o) → run automaton s (t ∷ x) ≡ o
run_behind s u t x seen o n None st e g f = absurd cc
run_behind s u t x seen o n (Some m) st e g f = run_step s t x m (step_seen s u t (Some m) st e) ∙ f m g

run_over : (seen : List CToken) (before rest : List Token) (s n : State) → AreSeen seen before → steps s seen ≡ Some n → run automaton s (before ++ rest) ≡ run automaton n rest
run_over [] [] rest s n h e = let i : s ≡ n = cc in ap (λ (m : State). run automaton m rest) i
run_over (u ∷ seen) (t ∷ before) rest s n h e =
    run_behind s u t (before ++ rest) seen (run automaton n rest) n (step s u) h.0 refl e (λ m k. run_over seen before rest m n h.1 k)
run_over seen before rest s n h e = absurd h

run_to_end : (seen : List CToken) (toks : List Token) (n : State) (end : Option Routine) → AreSeen seen toks → steps start seen ≡ Some n → finish n ≡ end → run automaton start toks ≡ outcome_at_end end
run_to_end seen toks n end h e f =
    ap (λ (x : List Token). run automaton start x) (sym (append-nil toks)) ∙ run_over seen toks [] start n h e ∙ ap outcome_at_end f

exact_as : (toks : List Token) (o : Outcome Token Routine) → run automaton start toks ≡ o → IsExact programs toks o
exact_as toks o e = subst (λ (p : Outcome Token Routine). IsExact programs toks p) e (run_is_exact toks)

-- ---- what the states tell

pub read_program : (toks : List Token) (seen : List CToken) (s : State) (q : Routine) → AreSeen seen toks → steps start seen ≡ Some s → finish s ≡ Some q → IsProgram q (whats toks)
read_program toks seen s q h e f = (exact_as toks (Read q) (run_to_end seen toks s (Some q) h e f)).0

pub ends_early : (toks : List Token) (seen : List CToken) (s : State) → AreSeen seen toks → steps start seen ≡ Some s → finish s ≡ None → StopsAt programs (GoesNowhere programs) toks []
ends_early toks seen s h e f = exact_as toks (Syntax []) (run_to_end seen toks s None h e f)

pub stops_there : (before : List Token) (t : Token) (rest : List Token) (seen : List CToken) (u : CToken) (s : State) → AreSeen seen before → StandsFor u t.what → steps start seen ≡ Some s → step s u ≡ None
    → StopsAt programs (GoesNowhere programs) (before ++ t ∷ rest) (t ∷ rest)
stops_there before t rest seen u s h st e f =
    let stuck : run automaton s (t ∷ rest) ≡ Syntax (t ∷ rest) =
    ap (λ (o : Option State). outcome_of_step o (λ m. cond true (run automaton m rest) (TooDeep (t ∷ rest))) (t ∷ rest)) (step_seen s u t None st f) in
    exact_as (before ++ t ∷ rest) (Syntax (t ∷ rest)) (run_over seen before (t ∷ rest) start s h e ∙ stuck)
