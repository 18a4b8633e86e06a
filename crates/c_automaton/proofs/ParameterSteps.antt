-- Parameters, forward and back by one token.
use Rattle.std.proofs.Common.{◌≡◌, ℕ, ◌+◌, ◌<◌, ◌^◌, List, [], ◌∷◌, ◌++◌, length, refl, sym, subst, inl, inr, append_assoc, append-nil, length-append, arith}
use Rattle.list_denotation.specs.declared.input.InputKind.{InputKind}
use Rattle.list_denotation.specs.declared.input.InputKind.TheVariants as kind
use Rattle.loop_ir.specs.Statements.{Routine}
use Rattle.c_tokens.specs.Pieces.{What}
use Rattle.c_tokens.specs.declared.symbol.Symbol.TheVariants as sym
use Rattle.c_grammar.specs.Grammar.{Then, Ends, Sign, IsParam, AreMoreParams}
use Rattle.c_words.specs.Words.{StandsFor}
use Rattle.c_words.specs.declared.token.CToken.{CToken}
use Rattle.c_words.specs.declared.token.CToken.TheVariants as token
use Rattle.c_words.specs.declared.token.Keyword.TheVariants as keyword
use Rattle.c_automaton.specs.declared.forms.Next.TheVariants as next
use Rattle.c_automaton.specs.Automaton.{State, with_param, param_tokens, param_begins, param, first_param, param_ends, awaits}
use Rattle.c_automaton.proofs.Completions.{BodyOpens, AtDeclarations, AtParamEnd, AtFurtherParam, AtFirstParam}
use Rattle.c_automaton.proofs.TokenForms.{AllForms, form_first, form_before, all_forms_of, all_seen_of, all_seen_then, all_seen_ends}
use Rattle.c_automaton.proofs.Points.{awaits_completes, completes_awaits}
use Rattle.c_automaton.proofs.Steps.{Goes}
use Rattle.c_automaton.proofs.NumberFits.{fits_forward, fits_back}

-- ---- a parameter

-- its number is small
param_is_small : (k : ℕ) (p : InputKind) (x r : List What) → AllForms (param_tokens k p) (Ends r) x → k < 2 ^ 32
param_is_small k kind.Array x r h = h.goes_on.goes_on.small
param_is_small k kind.Int x r h = h.small

kind_is_small : (k : ℕ) (p : InputKind) (x r : List What) → IsParam k p x r → k < 2 ^ 32
kind_is_small k kind.Array x r h = h.goes_on.goes_on.goes_on.small
kind_is_small k kind.Int x r h = h.goes_on.small

module _ (q : Routine) (s : State) where
  begins_goes : (p : InputKind) (x r : List What) → AllForms (param_tokens (length s.params) p) (Ends r) x → AtParamEnd q (with_param p s) r → Goes q (param_begins p s) x
  begins_goes p x r h k =
      let toks = param_tokens (length s.params) p in
      fits_forward q (length s.params) (awaits toks next.ParamEnd (with_param p s)) x (param_is_small (length s.params) p x r h)
      (awaits_completes q toks next.ParamEnd (with_param p s) x (all_seen_then toks (AtParamEnd q (with_param p s)) x r h k))

  kind_forward : (p : InputKind) (t : CToken) (what : What) (x r : List What) → StandsFor t what → IsParam (length s.params) p (what ∷ x) r → AtParamEnd q (with_param p s) r → Goes q (param s t) x
  kind_forward kind.Array t what x r st h k =
      let first = form_first (token.Key keyword.Const) t what (AllForms (param_tokens (length s.params) kind.Array) (Ends r)) x st h in
      subst (λ (u : CToken). Goes q (param s u) x) first.0 (begins_goes kind.Array x r first.1 k)
  kind_forward kind.Int t what x r st h k =
      let first = form_first (token.Key keyword.Uint64) t what (AllForms (param_tokens (length s.params) kind.Int) (Ends r)) x st h in
      subst (λ (u : CToken). Goes q (param s u) x) first.0 (begins_goes kind.Int x r first.1 k)

  pub param_forward : (t : CToken) (what : What) (x : List What) → StandsFor t what → AtFurtherParam q s (what ∷ x) → Goes q (param s t) x
  param_forward t what x st h = kind_forward h.kind t what x h.is.rest st h.is.phrase_is h.is.goes_on

  goes_begins : (p : InputKind) (x : List What) → Goes q (param_begins p s) x → (r : List What) × (AllForms (param_tokens (length s.params) p) (Ends r) x × AtParamEnd q (with_param p s) r)
  goes_begins p x h =
      let toks = param_tokens (length s.params) p in
      let f = fits_back q (length s.params) (awaits toks next.ParamEnd (with_param p s)) x h in
      let e = all_seen_ends toks (AtParamEnd q (with_param p s)) x (completes_awaits q toks next.ParamEnd (with_param p s) x f.1) in
      (e.rest, (e.forms, e.holds))

  pub param_back : (t : CToken) (what : What) (x : List What) → StandsFor t what → Goes q (param s t) x → AtFurtherParam q s (what ∷ x)
  param_back (token.Key keyword.Const) what x st h =
      let e = goes_begins kind.Array x h in
      record { kind = kind.Array; is = record { rest = e.0; phrase_is = form_before (token.Key keyword.Const) what _ x st e.1.0; goes_on = e.1.1 } }
  param_back (token.Key keyword.Uint64) what x st h =
      let e = goes_begins kind.Int x h in
      record { kind = kind.Int; is = record { rest = e.0; phrase_is = form_before (token.Key keyword.Uint64) what _ x st e.1.0; goes_on = e.1.1 } }
  param_back t what x st h = absurd h

  -- ---- the first parameter, or void

  param_first : (t : CToken) (x : List What) → Goes q (param s t) x → Goes q (first_param s t) x
  param_first (token.Key keyword.Void) x h = absurd h
  param_first t x h = h

  abbrev body_tokens : List CToken
  body_tokens = token.Sym sym.CloseParen ∷ token.Sym sym.OpenBrace ∷ []

  pub first_param_forward : (t : CToken) (what : What) (x : List What) → StandsFor t what → AtFirstParam q s (what ∷ x) → Goes q (first_param s t) x
  first_param_forward t what x st (inl h) =
      let first = form_first (token.Key keyword.Void) t what (BodyOpens q s) x st h in
      subst (λ (u : CToken). Goes q (first_param s u) x) first.0 (awaits_completes q body_tokens next.Declarations s x (all_seen_of body_tokens (AtDeclarations q s) x first.1))
  first_param_forward t what x st (inr h) = param_first t x (param_forward t what x st h)

  pub first_param_back : (t : CToken) (what : What) (x : List What) → StandsFor t what → Goes q (first_param s t) x → AtFirstParam q s (what ∷ x)
  first_param_back (token.Key keyword.Void) what x st h =
      inl (form_before (token.Key keyword.Void) what (BodyOpens q s) x st (all_forms_of body_tokens (AtDeclarations q s) x (completes_awaits q body_tokens next.Declarations s x h)))
  first_param_back t what x st h = inr (param_back t what x st h)

  -- ---- behind a parameter

  -- one parameter more
  one_length : (p : InputKind) → length s.params + 1 ≡ length (s.params ++ p ∷ [])
  one_length p = let e = length-append s.params (p ∷ []) in omega arith

  -- the parameters behind this one
  abbrev AtMore : List InputKind → List What → Type 0
  AtMore ps r = BodyOpens q (record s { params = s.params ++ ps }) r

  more_forward : (ps : List InputKind) (t : CToken) (what : What) (x r : List What) → StandsFor t what → AreMoreParams (length s.params) ps (what ∷ x) r → AtMore ps r → Goes q (param_ends s t) x
  more_forward [] t what x r st h k =
      let here : BodyOpens q (record s { params = s.params ++ [] }) (what ∷ x) = subst (λ (y : List What). BodyOpens q (record s { params = s.params ++ [] }) y) (sym h) k in
      let opens : BodyOpens q s (what ∷ x) = subst (λ (l : List InputKind). BodyOpens q (record s { params = l }) (what ∷ x)) (append-nil s.params) here in
      let toks = token.Sym sym.OpenBrace ∷ [] in
      let first = form_first (token.Sym sym.CloseParen) t what (Sign sym.OpenBrace (AtDeclarations q s)) x st opens in
      subst (λ (u : CToken). Goes q (param_ends s u) x) first.0 (awaits_completes q toks next.Declarations s x (all_seen_of toks (AtDeclarations q s) x first.1))
  more_forward (p ∷ ps) t what x r st h k =
      let first = form_first (token.Sym sym.Comma) t what (Then (IsParam (length s.params) p) (λ y. AreMoreParams (length s.params + 1) ps y r)) x st h in
      let f = first.1 in
      let further : AtFurtherParam q s x = record {
        kind = p;
        is =
            record {
              rest = f.rest;
              phrase_is = f.phrase_is;
              goes_on =
                  record {
                    more = ps;
                    is =
                        record {
                          rest = r;
                          phrase_is = subst (λ (n : ℕ). AreMoreParams n ps f.rest r) (one_length p) f.goes_on;
                          goes_on = subst (λ (l : List InputKind). BodyOpens q (record s { params = l }) r) (sym (append_assoc s.params (p ∷ []) ps)) k;
                        };
                  };
            };
      } in
      let small = kind_is_small (length s.params) p x f.rest f.phrase_is in
      subst (λ (u : CToken). Goes q (param_ends s u) x) first.0
      (fits_forward q (length s.params) (awaits [] next.FurtherParam s) x small (awaits_completes q [] next.FurtherParam s x further))

  pub param_end_forward : (t : CToken) (what : What) (x : List What) → StandsFor t what → AtParamEnd q s (what ∷ x) → Goes q (param_ends s t) x
  param_end_forward t what x st h = more_forward h.more t what x h.is.rest st h.is.phrase_is h.is.goes_on

  pub param_end_back : (t : CToken) (what : What) (x : List What) → StandsFor t what → Goes q (param_ends s t) x → AtParamEnd q s (what ∷ x)
  param_end_back (token.Sym sym.Comma) what x st h =
      let f = fits_back q (length s.params) (awaits [] next.FurtherParam s) x h in
      let g = completes_awaits q [] next.FurtherParam s x f.1 in
      let p = g.kind in
      let e = g.is.goes_on in
      let ps = e.more in
      let behind : Then (IsParam (length s.params) p) (λ y. AreMoreParams (length s.params + 1) ps y e.is.rest) x = record {
        rest = g.is.rest;
        phrase_is = g.is.phrase_is;
        goes_on = subst (λ (n : ℕ). AreMoreParams n ps g.is.rest e.is.rest) (sym (one_length p)) e.is.phrase_is;
      } in
      record {
        more = p ∷ ps;
        is =
            record {
              rest = e.is.rest;
              phrase_is = form_before (token.Sym sym.Comma) what (Then (IsParam (length s.params) p) (λ y. AreMoreParams (length s.params + 1) ps y e.is.rest)) x st behind;
              goes_on = subst (λ (l : List InputKind). BodyOpens q (record s { params = l }) e.is.rest) (append_assoc s.params (p ∷ []) ps) e.is.goes_on;
            };
      }
  param_end_back (token.Sym sym.CloseParen) what x st h =
      let toks = token.Sym sym.OpenBrace ∷ [] in
      let opens : BodyOpens q s (what ∷ x) =
      form_before (token.Sym sym.CloseParen) what (Sign sym.OpenBrace (AtDeclarations q s)) x st (all_forms_of toks (AtDeclarations q s) x (completes_awaits q toks next.Declarations s x h)) in
      record {
        more = [];
        is = record { rest = what ∷ x; phrase_is = refl; goes_on = subst (λ (l : List InputKind). BodyOpens q (record s { params = l }) (what ∷ x)) (sym (append-nil s.params)) opens };
      }
  param_end_back t what x st h = absurd h
