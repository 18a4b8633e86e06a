-- Declarations, and the statements behind them, forward and back by one token.
use Rattle.std.proofs.Common.{◌≡◌, ℕ, zero, suc, ◌+◌, List, [], ◌∷◌, refl, sym, subst, arith}
use Rattle.loop_ir.specs.Statements.{Routine}
use Rattle.c_tokens.specs.Pieces.{What}
use Rattle.c_tokens.specs.declared.symbol.Symbol.TheVariants as sym
use Rattle.c_grammar.specs.Grammar.{Ends, AreDeclarations}
use Rattle.c_words.specs.Words.{StandsFor}
use Rattle.c_words.specs.declared.token.CToken.{CToken}
use Rattle.c_words.specs.declared.token.CToken.TheVariants as token
use Rattle.c_words.specs.declared.token.Keyword.TheVariants as keyword
use Rattle.c_words.specs.declared.token.Letter.TheVariants as letter
use Rattle.c_automaton.specs.declared.forms.Next.TheVariants as next
use Rattle.c_automaton.specs.Automaton.{State, awaits, statement, declaration}
use Rattle.c_automaton.proofs.Completions.{InBlock, AtStatements, AtDeclarations}
use Rattle.loop_ir.specs.StatementCopies.{block_from}
use Rattle.c_automaton.proofs.TokenForms.{AllForms, form_first, form_before, all_seen_of, all_seen_ends, all_forms_map}
use Rattle.c_automaton.proofs.Points.{awaits_completes, completes_awaits}
use Rattle.c_automaton.proofs.Steps.{Goes}
use Rattle.c_automaton.proofs.NumberFits.{fits_forward, fits_back}
use Rattle.c_automaton.proofs.StatementForward.{statements_forward}
use Rattle.c_automaton.proofs.StatementBack.{statements_back}

-- the tokens of the declaration of this number, behind its keyword
abbrev pub declaration_tokens : ℕ → List CToken
declaration_tokens k = token.Name letter.Variable k ∷ token.Sym sym.Equal ∷ token.Constant 0 ∷ token.Sym sym.Semicolon ∷ []

-- with one declaration more
abbrev pub with_variable : State → State
with_variable s = record s { vars = s.vars + 1 }

module _ (q : Routine) (s : State) where
  -- statements where so many variables are declared
  abbrev Where : ℕ → List What → Type 0
  Where n x = InBlock q s.params n s.around (block_from s.here) x

  -- no statement begins with the keyword of a declaration
  statement_declared : (t : CToken) (x : List What) → Goes q (statement s t) x → Goes q (declaration s t) x
  statement_declared (token.Key keyword.Uint64) x h = absurd h
  statement_declared t x h = h

  more_forward : (n : ℕ) (t : CToken) (what : What) (x r : List What) → StandsFor t what → AreDeclarations s.vars n (what ∷ x) r → Where (s.vars + n) r → Goes q (declaration s t) x
  more_forward zero t what x r st h k =
      let e : s.vars + 0 ≡ s.vars = omega arith in
      let here : Where s.vars (what ∷ x) = subst (λ (y : List What). Where s.vars y) (sym h) (subst (λ (n : ℕ). Where n r) e k) in
      statement_declared t x (statements_forward q s t what x st here)
  more_forward (suc n) t what x r st h k =
      let toks = declaration_tokens s.vars in
      let first = form_first (token.Key keyword.Uint64) t what (AllForms toks (λ y. AreDeclarations (s.vars + 1) n y r)) x st h in
      let e : s.vars + suc n ≡ s.vars + 1 + n = omega arith in
      let behind : Where (s.vars + 1 + n) r = subst (λ (n : ℕ). Where n r) e k in
      let f : AllForms toks (AtDeclarations q (with_variable s)) x =
      all_forms_map toks (λ y. AreDeclarations (s.vars + 1) n y r) (AtDeclarations q (with_variable s)) (λ y d. record { more = n; is = record { rest = r; phrase_is = d; goes_on = behind } }) x first.1 in
      subst (λ (u : CToken). Goes q (declaration s u) x) first.0
      (fits_forward q s.vars (awaits toks next.Declarations (with_variable s)) x first.1.small
      (awaits_completes q toks next.Declarations (with_variable s) x (all_seen_of toks (AtDeclarations q (with_variable s)) x f)))

  pub declarations_forward : (t : CToken) (what : What) (x : List What) → StandsFor t what → AtDeclarations q s (what ∷ x) → Goes q (declaration s t) x
  declarations_forward t what x st h = more_forward h.more t what x h.is.rest st h.is.phrase_is h.is.goes_on

  no_declaration : (x : List What) → AtStatements q s x → AtDeclarations q s x
  no_declaration x h =
      let e : s.vars ≡ s.vars + 0 = omega arith in
      record { more = 0; is = record { rest = x; phrase_is = refl; goes_on = subst (λ (n : ℕ). Where n x) e h } }

  pub declarations_back : (t : CToken) (what : What) (x : List What) → StandsFor t what → Goes q (declaration s t) x → AtDeclarations q s (what ∷ x)
  declarations_back (token.Key keyword.Uint64) what x st h =
      let toks = declaration_tokens s.vars in
      let f = fits_back q s.vars (awaits toks next.Declarations (with_variable s)) x h in
      let g = all_seen_ends toks (AtDeclarations q (with_variable s)) x (completes_awaits q toks next.Declarations (with_variable s) x f.1) in
      let d = g.holds in
      let n = d.more in
      let r = d.is.rest in
      let e : s.vars + 1 + n ≡ s.vars + suc n = omega arith in
      let forms : AllForms toks (λ y. AreDeclarations (s.vars + 1) n y r) x =
      all_forms_map toks (Ends g.rest) (λ y. AreDeclarations (s.vars + 1) n y r) (λ y i. subst (λ (z : List What). AreDeclarations (s.vars + 1) n z r) (sym i) d.is.phrase_is) x g.forms in
      record {
        more = suc n;
        is =
            record {
              rest = r;
              phrase_is = form_before (token.Key keyword.Uint64) what (AllForms toks (λ y. AreDeclarations (s.vars + 1) n y r)) x st forms;
              goes_on = subst (λ (m : ℕ). Where m r) e d.is.goes_on;
            };
      }
  declarations_back t what x st h = no_declaration (what ∷ x) (statements_back q s t what x st h)
