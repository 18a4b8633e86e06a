-- The phrase of a statement, and what is assigned, forward and back by one token.
use Rattle.std.proofs.Common.{◌≡◌, ℕ, List, [], ◌∷◌, Option, Some, None, refl, sym, subst, inl, inr}
use Rattle.loop_ir.specs.Statements.{Routine}
use Rattle.c_tokens.specs.Pieces.{What}
use Rattle.c_tokens.specs.declared.symbol.Symbol.TheVariants as sym
use Rattle.c_words.specs.Words.{StandsFor}
use Rattle.c_words.specs.declared.token.CToken.{CToken}
use Rattle.c_words.specs.declared.token.CToken.TheVariants as token
use Rattle.c_words.specs.declared.token.Letter.TheVariants as letter
use Rattle.c_automaton.specs.declared.forms.Form.{Form}
use Rattle.c_automaton.specs.declared.forms.Form.TheVariants as form
use Rattle.c_automaton.specs.declared.forms.Next.TheVariants as next
use Rattle.c_automaton.specs.Phrases.{Phrase, AnOperand, ATest, Frame, Reading, reads_on}
use Rattle.c_automaton.specs.Automaton.{Within, State, want_of, finished, read_on, within, phrase, unbegun, assigned}
use Rattle.c_automaton.proofs.Completions.{ReadsOn, AfterPhrase, PhraseFollows, AtPhrase, AtAssigned}
use Rattle.c_automaton.proofs.TokenForms.{form_first, form_before, all_forms_of, all_seen_of}
use Rattle.c_automaton.proofs.Points.{phrase_follows_same, awaits_completes, completes_awaits}
use Rattle.c_automaton.proofs.Steps.{Goes}
use Rattle.c_automaton.proofs.PhraseForward.{IsUnfinished, phrase_forward}
use Rattle.c_automaton.proofs.PhraseBack.{phrase_back}

module _ (q : Routine) where
  -- what goes on behind a phrase completes the state that the phrase leads to
  finished_goes : (f : Form) (p : Phrase) (s : State) (x : List What) → AfterPhrase q (finished f p s) x → Goes q (finished f p s) x
  finished_goes (form.Set v) (AnOperand w) s x h = h
  finished_goes (form.Read v a) (AnOperand w) s x h = h
  finished_goes form.Emit (AnOperand w) s x h = h
  finished_goes form.If (ATest t) s x h = h
  finished_goes form.While (ATest t) s x h = h
  finished_goes f p s x h = absurd h

  goes_finished : (f : Form) (p : Phrase) (s : State) (x : List What) → Goes q (finished f p s) x → AfterPhrase q (finished f p s) x
  goes_finished (form.Set v) (AnOperand w) s x h = h
  goes_finished (form.Read v a) (AnOperand w) s x h = h
  goes_finished form.Emit (AnOperand w) s x h = h
  goes_finished form.If (ATest t) s x h = h
  goes_finished form.While (ATest t) s x h = h
  goes_finished f p s x h = absurd h

  -- the state that the phrase is read on in
  abbrev In : Form → State → List Frame → Option Phrase → State
  In f s fs got = record s { point = Within f (record { frames = fs; got = got }) }

  read_on_goes : (f : Form) (s : State) (fs : List Frame) (got : Option Phrase) (x : List What) → ReadsOn (PhraseFollows q f s) (want_of f) fs got x → Goes q (read_on f s fs got) x
  read_on_goes f s [] (Some p) x h = finished_goes f p s x h
  read_on_goes f s fs got x h =
      subst (λ (k : Phrase → List What → Type 0). ReadsOn k (want_of f) fs got x) (phrase_follows_same q f s (Within f (record { frames = fs; got = got }))) h

  goes_read_on : (f : Form) (s : State) (fs : List Frame) (got : Option Phrase) (x : List What) → Goes q (read_on f s fs got) x → ReadsOn (PhraseFollows q f s) (want_of f) fs got x
  goes_read_on f s [] (Some p) x h = goes_finished f p s x h
  goes_read_on f s fs got x h =
      subst (λ (k : Phrase → List What → Type 0). ReadsOn k (want_of f) fs got x) (sym (phrase_follows_same q f s (Within f (record { frames = fs; got = got })))) h

  pub phrases_forward : (f : Form) (r : Reading) (s : State) (t : CToken) (what : What) (x : List What) → IsUnfinished r.frames r.got → StandsFor t what
      → ReadsOn (PhraseFollows q f s) (want_of f) r.frames r.got (what ∷ x) → Goes q (phrase f r s t) x
  phrases_forward f r s t what x i st h =
      let n = phrase_forward (PhraseFollows q f s) (want_of f) r.frames r.got t what x i st h in
      subst (λ (g : Option Reading). Goes q (within f s g) x) (sym n.1.0) (read_on_goes f s n.0.frames n.0.got x n.1.1)

  step_back : (f : Form) (r : Reading) (s : State) (t : CToken) (what : What) (x : List What) (g : Option Reading) → StandsFor t what → reads_on (want_of f) r.frames r.got t ≡ g
      → Goes q (within f s g) x → ReadsOn (PhraseFollows q f s) (want_of f) r.frames r.got (what ∷ x)
  step_back f r s t what x None st e h = absurd h
  step_back f r s t what x (Some n) st e h = phrase_back (PhraseFollows q f s) (want_of f) r.frames r.got t what x n st e (goes_read_on f s n.frames n.got x h)

  pub phrases_back : (f : Form) (r : Reading) (s : State) (t : CToken) (what : What) (x : List What) → StandsFor t what → Goes q (phrase f r s t) x
      → ReadsOn (PhraseFollows q f s) (want_of f) r.frames r.got (what ∷ x)
  phrases_back f r s t what x st h = step_back f r s t what x (reads_on (want_of f) r.frames r.got t) st refl h

  -- ---- what is assigned

  -- no operand begins with the name of an array
  operand_assigned : (v : ℕ) (s : State) (t : CToken) (x : List What) → Goes q (phrase (form.Set v) unbegun s t) x → Goes q (assigned v s t) x
  operand_assigned v s (token.Name letter.Array a) x h = absurd h
  operand_assigned v s t x h = h

  pub assigned_forward : (v : ℕ) (s : State) (t : CToken) (what : What) (x : List What) → StandsFor t what → AtAssigned q v s (what ∷ x) → Goes q (assigned v s t) x
  assigned_forward v s t what x st (inl h) = operand_assigned v s t x (phrases_forward (form.Set v) unbegun s t what x tt st h)
  assigned_forward v s t what x st (inr h) =
      let a = h.array in
      let toks = token.Sym sym.OpenBracket ∷ [] in
      let first = form_first (token.Name letter.Array a) t what _ x st h.is in
      subst (λ (u : CToken). Goes q (assigned v s u) x) first.0
      (awaits_completes q toks (next.Phrase (form.Read v a)) s x (all_seen_of toks (AtPhrase q (form.Read v a) s) x first.1))

  pub assigned_back : (v : ℕ) (s : State) (t : CToken) (what : What) (x : List What) → StandsFor t what → Goes q (assigned v s t) x → AtAssigned q v s (what ∷ x)
  assigned_back v s (token.Name letter.Array a) what x st h =
      let toks = token.Sym sym.OpenBracket ∷ [] in
      let f = all_forms_of toks (AtPhrase q (form.Read v a) s) x (completes_awaits q toks (next.Phrase (form.Read v a)) s x h) in
      inr (record { array = a; is = form_before (token.Name letter.Array a) what _ x st f })
  assigned_back v s t what x st h = inl (phrases_back (form.Set v) unbegun s t what x st h)
