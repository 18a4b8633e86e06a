-- Tokens that complete the state that the automaton goes to with a token complete, behind this token, the state before.
use Rattle.std.proofs.Common.{◌≡◌, zero, suc, Bool, true, false, cond, List, [], ◌∷◌, None, refl, sym, subst}
use Rattle.loop_ir.specs.declared.syntax.Verdict.TheVariants as verdict
use Rattle.loop_ir.specs.Statements.{Ret, Routine}
use Rattle.c_tokens.specs.Pieces.{What}
use Rattle.c_tokens.specs.declared.symbol.Symbol.TheVariants as sym
use Rattle.c_words.specs.Words.{StandsFor}
use Rattle.c_words.specs.declared.token.CToken.{CToken}
use Rattle.c_words.specs.declared.token.CToken.TheVariants as token
use Rattle.c_words.specs.SameTokens.{is_same_token}
use Rattle.c_words.proofs.SameTokens.{same_token_is}
use Rattle.c_automaton.specs.declared.forms.Next.{Next}
use Rattle.c_automaton.specs.declared.forms.Next.TheVariants as next
use Rattle.c_automaton.specs.Automaton.{Point, Awaits, Within, State, with_statement, awaits, verdict_of, unbegun, at_next, at_point, step}
use Rattle.c_automaton.proofs.Completions.{AtStatements, AtVerdict, AtNext, AtPoint, Completes}
use Rattle.c_automaton.proofs.TokenForms.{form_before, all_forms_of}
use Rattle.c_automaton.proofs.Points.{completes_awaits}
use Rattle.c_automaton.proofs.Steps.{Goes}
use Rattle.c_automaton.proofs.StatementBack.{statements_back}
use Rattle.c_automaton.proofs.PhraseSteps.{phrases_back, assigned_back}
use Rattle.c_automaton.proofs.ParameterSteps.{param_back, first_param_back, param_end_back}
use Rattle.c_automaton.proofs.DeclarationSteps.{declarations_back}

module _ (q : Routine) (s : State) where
  verdict_back : (t : CToken) (what : What) (x : List What) → StandsFor t what → Goes q (verdict_of s t) x → AtVerdict q s (what ∷ x)
  verdict_back (token.Bare zero) what x st h =
      let toks = token.Sym sym.Semicolon ∷ [] in
      let n = with_statement (Ret verdict.Done) s in
      record { verdict = verdict.Done; is = form_before (token.Bare 0) what _ x st (all_forms_of toks (AtStatements q n) x (completes_awaits q toks next.Statements n x h)) }
  verdict_back (token.Bare (suc zero)) what x st h =
      let toks = token.Sym sym.Semicolon ∷ [] in
      let n = with_statement (Ret verdict.Trap) s in
      record { verdict = verdict.Trap; is = form_before (token.Bare 1) what _ x st (all_forms_of toks (AtStatements q n) x (completes_awaits q toks next.Statements n x h)) }
  verdict_back t what x st h = absurd h

  next_back : (n : Next) (t : CToken) (what : What) (x : List What) → StandsFor t what → Goes q (at_next n s t) x → AtNext q n s (what ∷ x)
  next_back next.FirstParam t what x st h = first_param_back q s t what x st h
  next_back next.ParamEnd t what x st h = param_end_back q s t what x st h
  next_back next.FurtherParam t what x st h = param_back q s t what x st h
  next_back next.Declarations t what x st h = declarations_back q s t what x st h
  next_back next.Statements t what x st h = statements_back q s t what x st h
  next_back (next.Assigned v) t what x st h = assigned_back q v s t what x st h
  next_back next.Verdict t what x st h = verdict_back t what x st h
  next_back (next.Phrase f) t what x st h = phrases_back q f unbegun s t what x st h
  next_back next.End t what x st h = absurd h

  awaited_back : (b : Bool) (a : CToken) (toks : List CToken) (n : Next) (t : CToken) (what : What) (x : List What) → is_same_token a t ≡ b → StandsFor t what
      → Goes q (cond b (awaits toks n s) None) x → AtPoint q (Awaits (a ∷ toks) n) s (what ∷ x)
  awaited_back true a toks n t what x e st h =
      record {
        what = what;
        rest = x;
        is = refl;
        stands = subst (λ (u : CToken). StandsFor u what) (sym (same_token_is a t e)) st;
        goes_on = completes_awaits q toks n s x h;
      }
  awaited_back false a toks n t what x e st h = absurd h

  point_back : (p : Point) (t : CToken) (what : What) (x : List What) → StandsFor t what → Goes q (at_point p s t) x → AtPoint q p s (what ∷ x)
  point_back (Awaits [] n) t what x st h = next_back n t what x st h
  point_back (Awaits (a ∷ toks) n) t what x st h = awaited_back (is_same_token a t) a toks n t what x refl st h
  point_back (Within f r) t what x st h = phrases_back q f r s t what x st h

  pub step_back : (t : CToken) (what : What) (x : List What) → StandsFor t what → Goes q (step s t) x → Completes q s (what ∷ x)
  step_back t what x st h = point_back s.point t what x st h
