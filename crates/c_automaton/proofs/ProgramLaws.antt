-- The automaton keeps the laws of exact readers, and its first state is completed by whole programs.
use Rattle.std.proofs.Common.{◌≡◌, List, [], ◌∷◌, map, Some, true, refl, sym, ap, subst}
use Rattle.exact_reader.specs.Exactness.{Reader, IsExact, run}
use Rattle.exact_reader.proofs.Exactness.{Laws, IsStart, exact}
use Rattle.loop_ir.specs.Statements.{Routine}
use Rattle.c_tokens.specs.Pieces.{What}
use Rattle.c_tokens.specs.Cutting.{Token}
use Rattle.c_grammar.specs.Reading.{whats}
use Rattle.c_faults.specs.Answers.{programs}
use Rattle.c_words.proofs.SomeToken.{token_of, token_stands}
use Rattle.c_automaton.specs.Automaton.{State, step, start, finish}
use Rattle.c_automaton.proofs.Completions.{Completes}
use Rattle.c_automaton.proofs.Steps.{goes_to, goes}
use Rattle.c_automaton.proofs.Reachability.{IsReachable, step_reaches}
use Rattle.c_automaton.proofs.StepForward.{step_forward}
use Rattle.c_automaton.proofs.StepBack.{step_back}
use Rattle.c_automaton.proofs.StateEnd.{state_ended, state_ends}
use Rattle.c_automaton.proofs.StateCompletion.{state_completable}
use Rattle.c_automaton.proofs.Start.{start_program, program_start}

-- what a reader sees in a token leads it from state to state
abbrev pub automaton : Reader Token Routine
automaton = record { State = State; step = λ s t. step s (token_of t.what); finish = finish; is_within_depth = λ s. true }

-- ---- some tokens of which these are

at_zero : What → Token
at_zero what = record { what = what; at = 0 }

whats_at_zero : (x : List What) → whats (map at_zero x) ≡ x
unfolding at_zero
whats_at_zero [] = refl
whats_at_zero (what ∷ x) = ap (λ (y : List What). what ∷ y) (whats_at_zero x)

-- ---- the laws

completion : (s : State) → IsReachable s → (q : Routine) × ((x : List Token) × Completes q s (whats x))
completion s r =
    let c = state_completable s r in
    (c.0, (map at_zero c.1.0, subst (λ (y : List What). Completes c.0 s y) (sym (whats_at_zero c.1.0)) c.1.1))

forward : (s : State) (q : Routine) (t : Token) (x : List Token) → IsReachable s → Completes q s (whats (t ∷ x)) → (n : State) × ((step s (token_of t.what) ≡ Some n) × Completes q n (whats x))
forward s q t x r h =
    let u = token_of t.what in
    let g = goes_to q (step s u) (whats x) (step_forward q s u t.what (whats x) r (token_stands t.what) h) in
    (g.state, (g.is, g.completes))

back : (s : State) (t : Token) (n : State) (q : Routine) (x : List Token) → step s (token_of t.what) ≡ Some n → Completes q n (whats x) → Completes q s (whats (t ∷ x))
back s t n q x e h =
    let u = token_of t.what in
    step_back q s u t.what (whats x) (token_stands t.what) (goes q (step s u) (whats x) n e h)

laws : Laws programs automaton
laws =
    record {
      Completes = λ l s q x. Completes q s (whats x);
      IsReachable = IsReachable;
      WithinDepth = λ l s. Unit {0};
      free = λ s. tt;
      forward = λ l s q t x r h. forward s q t x r h;
      reachable = λ s t n r e. step_reaches s (token_of t.what) n r e;
      back = λ l s t n q x r d e h. back s t n q x e h;
      ended = λ l s q r h. state_ended q s r h;
      ends = λ l s q r d e. state_ends q s e;
      completion = λ l s r d. completion s r;
      within_depth = λ s q x h. refl;
      within_depth_step = λ s t n d e b. tt;
    }

is_start : IsStart programs automaton laws start
unfolding laws
is_start =
    record {
      reachable = ((tt, (tt, (tt, tt))), tt);
      within_depth = tt;
      sentence = λ q x h. start_program q (whats x) h;
      completes = λ q x h. program_start q (whats x) h;
      sentence_within = λ q x h. (start_program q (whats x) h, tt);
      completes_within = λ q x h w. program_start q (whats x) h;
    }

pub run_is_exact : (toks : List Token) → IsExact programs toks (run automaton start toks)
run_is_exact toks = exact programs automaton laws start is_start toks
