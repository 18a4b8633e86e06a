-- The automaton goes on with the first of the tokens that complete a state, and the others complete the state that it goes to.
use Rattle.std.proofs.Common.{◌≡◌, Bool, true, cond, List, [], ◌∷◌, None, sym, subst}
use Rattle.loop_ir.specs.declared.syntax.Verdict.{Verdict}
use Rattle.loop_ir.specs.declared.syntax.Verdict.TheVariants as verdict
use Rattle.loop_ir.specs.Statements.{Ret, Routine}
use Rattle.c_tokens.specs.Pieces.{What}
use Rattle.c_tokens.specs.declared.symbol.Symbol.TheVariants as sym
use Rattle.c_grammar.specs.Grammar.{Sign, verdict_number}
use Rattle.c_words.specs.Words.{StandsFor}
use Rattle.c_words.specs.declared.token.CToken.{CToken}
use Rattle.c_words.specs.declared.token.CToken.TheVariants as token
use Rattle.c_words.specs.SameTokens.{is_same_token}
use Rattle.c_words.proofs.SameTokens.{IsSeen, same_token_self}
use Rattle.c_automaton.specs.declared.forms.Next.{Next}
use Rattle.c_automaton.specs.declared.forms.Next.TheVariants as next
use Rattle.c_automaton.specs.Automaton.{Point, Awaits, Within, State, with_statement, awaits, verdict_of, unbegun, at_next, at_point, step}
use Rattle.c_automaton.proofs.Completions.{AllSeen, AtStatements, AtVerdict, AtNext, AtPoint, Completes}
use Rattle.c_automaton.proofs.TokenForms.{form_first, seen_first, all_seen_of}
use Rattle.c_automaton.proofs.Points.{awaits_completes}
use Rattle.c_automaton.proofs.Steps.{Goes}
use Rattle.c_automaton.proofs.StatementForward.{statements_forward}
use Rattle.c_automaton.proofs.PhraseSteps.{phrases_forward, assigned_forward}
use Rattle.c_automaton.proofs.ParameterSteps.{param_forward, first_param_forward, param_end_forward}
use Rattle.c_automaton.proofs.DeclarationSteps.{declarations_forward}
use Rattle.c_automaton.proofs.Reachability.{CanCome, PointIsReachable, IsReachable}

module _ (q : Routine) (s : State) where
  returned_goes : (v : Verdict) (x : List What) → Sign sym.Semicolon (AtStatements q (with_statement (Ret v) s)) x → Goes q (verdict_of s (token.Bare (verdict_number v))) x
  returned_goes verdict.Done x h =
      let toks = token.Sym sym.Semicolon ∷ [] in
      awaits_completes q toks next.Statements (with_statement (Ret verdict.Done) s) x (all_seen_of toks (AtStatements q (with_statement (Ret verdict.Done) s)) x h)
  returned_goes verdict.Trap x h =
      let toks = token.Sym sym.Semicolon ∷ [] in
      awaits_completes q toks next.Statements (with_statement (Ret verdict.Trap) s) x (all_seen_of toks (AtStatements q (with_statement (Ret verdict.Trap) s)) x h)

  verdict_forward : (t : CToken) (what : What) (x : List What) → StandsFor t what → AtVerdict q s (what ∷ x) → Goes q (verdict_of s t) x
  verdict_forward t what x st h =
      let v = h.verdict in
      let first = form_first (token.Bare (verdict_number v)) t what (Sign sym.Semicolon (AtStatements q (with_statement (Ret v) s))) x st h.is in
      subst (λ (u : CToken). Goes q (verdict_of s u) x) first.0 (returned_goes v x first.1)

  next_forward : (n : Next) (t : CToken) (what : What) (x : List What) → StandsFor t what → AtNext q n s (what ∷ x) → Goes q (at_next n s t) x
  next_forward next.FirstParam t what x st h = first_param_forward q s t what x st h
  next_forward next.ParamEnd t what x st h = param_end_forward q s t what x st h
  next_forward next.FurtherParam t what x st h = param_forward q s t what x st h
  next_forward next.Declarations t what x st h = declarations_forward q s t what x st h
  next_forward next.Statements t what x st h = statements_forward q s t what x st h
  next_forward (next.Assigned v) t what x st h = assigned_forward q v s t what x st h
  next_forward next.Verdict t what x st h = verdict_forward t what x st h
  next_forward (next.Phrase f) t what x st h = phrases_forward q f unbegun s t what x tt st h
  next_forward next.End t what x st h = let e : what ∷ x ≡ [] = h.0 in absurd cc

  is_seen : (t : CToken) → CanCome t → IsSeen t
  is_seen (token.Key k) h = tt
  is_seen (token.Name l n) h = tt
  is_seen token.OtherWord h = h
  is_seen (token.Bare n) h = tt
  is_seen (token.Constant n) h = tt
  is_seen (token.Sym y) h = tt

  point_forward : (p : Point) (t : CToken) (what : What) (x : List What) → PointIsReachable p s → StandsFor t what → AtPoint q p s (what ∷ x) → Goes q (at_point p s t) x
  point_forward (Awaits [] n) t what x r st h = next_forward n t what x st h
  point_forward (Awaits (a ∷ toks) n) t what x r st h =
      let first = seen_first a t what (AllSeen toks (AtNext q n s)) x st h in
      let same : is_same_token a t ≡ true = subst (λ (u : CToken). is_same_token a u ≡ true) first.0 (same_token_self a (is_seen a r.0.0)) in
      subst (λ (b : Bool). Goes q (cond b (awaits toks n s) None) x) (sym same) (awaits_completes q toks n s x first.1)
  point_forward (Within f g) t what x r st h = phrases_forward q f g s t what x r.1 st h

  pub step_forward : (t : CToken) (what : What) (x : List What) → IsReachable s → StandsFor t what → Completes q s (what ∷ x) → Goes q (step s t) x
  step_forward t what x r st h = point_forward s.point t what x r st h
