-- What completes a state at what comes next depends on the parts of the state, and not on its point.
use Rattle.std.proofs.Common.{◌≡◌, ℕ, List, ◌++◌, refl, subst, inl, inr}
use Rattle.loop_ir.specs.Statements.{Routine}
use Rattle.c_tokens.specs.Pieces.{What}
use Rattle.c_words.specs.declared.token.CToken.{CToken}
use Rattle.c_automaton.specs.declared.forms.Form.{Form}
use Rattle.c_automaton.specs.declared.forms.Form.TheVariants as form
use Rattle.c_automaton.specs.declared.forms.Next.{Next}
use Rattle.c_automaton.specs.declared.forms.Next.TheVariants as next
use Rattle.c_automaton.specs.Phrases.{Phrase, AnOperand, ATest}
use Rattle.c_automaton.specs.Automaton.{Point, Awaits, State, finished, with_param}
use Rattle.c_automaton.proofs.Completions.{BodyOpens, AtDeclarations, AtParamEnd, AtFurtherParam, AtFirstParam, PhraseFollows, AtPhrase, AfterPhrase, AtAssigned, AtNext, AllSeen, Completes}
use Rattle.c_automaton.proofs.TokenForms.{all_seen_map}

finished_same : (f : Form) (p : Phrase) (s : State) (at : Point) → finished f p s ≡ finished f p (record s { point = at })
finished_same (form.Set v) (AnOperand w) s at = refl
finished_same (form.Read v a) (AnOperand w) s at = refl
finished_same form.Emit (AnOperand w) s at = refl
finished_same form.If (ATest t) s at = refl
finished_same form.While (ATest t) s at = refl
finished_same f p s at = refl

module _ (q : Routine) where
  pub phrase_follows_same : (f : Form) (s : State) (at : Point) → PhraseFollows q f s ≡ PhraseFollows q f (record s { point = at })
  phrase_follows_same f s at = λ i p x. AfterPhrase q (finished_same f p s at i) x

  at_phrase_same : (f : Form) (s : State) (at : Point) (x : List What) → AtPhrase q f s x → AtPhrase q f (record s { point = at }) x
  at_phrase_same f s at x h =
      let p = h.phrase in
      record {
        phrase = p;
        allowed = h.allowed;
        is =
            record {
              rest = h.is.rest;
              phrase_is = h.is.phrase_is;
              goes_on = subst (λ (k : Phrase → List What → Type 0). k p h.is.rest) (phrase_follows_same f s at) h.is.goes_on;
            };
      }

  at_declarations_same : (s : State) (at : Point) (x : List What) → AtDeclarations q s x → AtDeclarations q (record s { point = at }) x
  at_declarations_same s at x h = record { more = h.more; is = h.is }

  body_opens_same : (s : State) (at : Point) (x : List What) → BodyOpens q s x → BodyOpens q (record s { point = at }) x
  body_opens_same s at x h =
      let g = h.goes_on in
      record { rest = h.rest; is = h.is; goes_on = record { rest = g.rest; is = g.is; goes_on = at_declarations_same s at g.rest g.goes_on } }

  at_param_end_same : (s : State) (at : Point) (x : List What) → AtParamEnd q s x → AtParamEnd q (record s { point = at }) x
  at_param_end_same s at x h =
      let k = h.more in
      record {
        more = k;
        is = record { rest = h.is.rest; phrase_is = h.is.phrase_is; goes_on = body_opens_same (record s { params = s.params ++ k }) at h.is.rest h.is.goes_on };
      }

  at_further_param_same : (s : State) (at : Point) (x : List What) → AtFurtherParam q s x → AtFurtherParam q (record s { point = at }) x
  at_further_param_same s at x h =
      let k = h.kind in
      record { kind = k; is = record { rest = h.is.rest; phrase_is = h.is.phrase_is; goes_on = at_param_end_same (with_param k s) at h.is.rest h.is.goes_on } }

  at_first_param_same : (s : State) (at : Point) (x : List What) → AtFirstParam q s x → AtFirstParam q (record s { point = at }) x
  at_first_param_same s at x (inl h) = inl (record { rest = h.rest; is = h.is; goes_on = body_opens_same s at h.rest h.goes_on })
  at_first_param_same s at x (inr h) = inr (at_further_param_same s at x h)

  at_assigned_same : (v : ℕ) (s : State) (at : Point) (x : List What) → AtAssigned q v s x → AtAssigned q v (record s { point = at }) x
  at_assigned_same v s at x (inl h) = inl (at_phrase_same (form.Set v) s at x h)
  at_assigned_same v s at x (inr h) =
      let a = h.array in
      let f = h.is.fixed in
      let g = f.goes_on in
      inr (record {
        array = a;
        is =
            record {
              small = h.is.small;
              fixed =
                  record { rest = f.rest; is = f.is; goes_on = record { rest = g.rest; is = g.is; goes_on = at_phrase_same (form.Read v a) s at g.rest g.goes_on } };
            };
      })

  pub at_next_same : (n : Next) (s : State) (at : Point) (x : List What) → AtNext q n s x → AtNext q n (record s { point = at }) x
  at_next_same next.FirstParam s at x h = at_first_param_same s at x h
  at_next_same next.ParamEnd s at x h = at_param_end_same s at x h
  at_next_same next.FurtherParam s at x h = at_further_param_same s at x h
  at_next_same next.Declarations s at x h = at_declarations_same s at x h
  at_next_same next.Statements s at x h = h
  at_next_same (next.Assigned v) s at x h = at_assigned_same v s at x h
  at_next_same next.Verdict s at x h = record { verdict = h.verdict; is = h.is }
  at_next_same (next.Phrase f) s at x h = at_phrase_same f s at x h
  at_next_same next.End s at x h = h

  -- the state that awaits these tokens, and then what comes next
  pub awaits_completes : (toks : List CToken) (n : Next) (s : State) (x : List What) → AllSeen toks (AtNext q n s) x → Completes q (record s { point = Awaits toks n }) x
  awaits_completes toks n s x h = all_seen_map toks (AtNext q n s) (AtNext q n (record s { point = Awaits toks n })) (λ y k. at_next_same n s (Awaits toks n) y k) x h

  pub completes_awaits : (toks : List CToken) (n : Next) (s : State) (x : List What) → Completes q (record s { point = Awaits toks n }) x → AllSeen toks (AtNext q n s) x
  completes_awaits toks n s x h =
      all_seen_map toks (AtNext q n (record s { point = Awaits toks n })) (AtNext q n s) (λ y k. at_next_same n (record s { point = Awaits toks n }) s.point y k) x h
