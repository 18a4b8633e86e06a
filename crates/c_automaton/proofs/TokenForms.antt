-- A token that a reader sees, and the same token as the grammar writes it.
use Rattle.std.proofs.Common.{◌≡◌, List, [], ◌∷◌, ◌++◌, decimal, refl, sym, ap, subst, ◌∙◌}
use Rattle.c_tokens.specs.Pieces as piece
use Rattle.c_tokens.specs.Pieces.{What, Word}
use Rattle.c_grammar.specs.Grammar.{Fixed, Key, Sign, Named, Ends}
use Rattle.c_words.specs.Words.{StandsFor, keyword_text, letter_text}
use Rattle.c_words.specs.declared.token.CToken.{CToken}
use Rattle.c_words.specs.declared.token.CToken.TheVariants as token
use Rattle.c_words.proofs.OneToken.{one_token}
use Rattle.c_automaton.proofs.Completions.{Seen, AllSeen}

-- ---- one token

-- the token as the grammar writes it, and then something holds of the rest
abbrev pub Form : CToken → (List What → Type 0) → List What → Type 0
Form (token.Key k) then_holds x = Key (keyword_text k) then_holds x
Form (token.Name l n) then_holds x = Named (letter_text l) n then_holds x
Form token.OtherWord then_holds x = Seen token.OtherWord then_holds x
Form (token.Bare n) then_holds x = Fixed (piece.Bare n) then_holds x
Form (token.Constant n) then_holds x = Fixed (piece.Const n) then_holds x
Form (token.Sym s) then_holds x = Sign s then_holds x

fixed_of : (P : List What → Type 0) (x : List What) (w what : What) (rest : List What) → x ≡ what ∷ rest → what ≡ w → P rest → Fixed w P x
fixed_of P x w what rest e f p = record { rest = rest; is = e ∙ ap (λ (v : What). v ∷ rest) f; goes_on = p }

pub form_of : (t : CToken) (P : List What → Type 0) (x : List What) → Seen t P x → Form t P x
form_of (token.Key k) P x h = fixed_of P x (Word (keyword_text k)) h.what h.rest h.is h.stands h.goes_on
form_of (token.Name l n) P x h = record { small = h.stands.0; fixed = fixed_of P x (Word (letter_text l ++ decimal n)) h.what h.rest h.is h.stands.1 h.goes_on }
form_of token.OtherWord P x h = h
form_of (token.Bare n) P x h = fixed_of P x (piece.Bare n) h.what h.rest h.is h.stands h.goes_on
form_of (token.Constant n) P x h = fixed_of P x (piece.Const n) h.what h.rest h.is h.stands h.goes_on
form_of (token.Sym s) P x h = fixed_of P x (piece.Sym s) h.what h.rest h.is h.stands h.goes_on

pub seen_of : (t : CToken) (P : List What → Type 0) (x : List What) → Form t P x → Seen t P x
seen_of (token.Key k) P x h = record { what = Word (keyword_text k); rest = h.rest; is = h.is; stands = refl; goes_on = h.goes_on }
seen_of (token.Name l n) P x h =
    let f = h.fixed in
    record { what = Word (letter_text l ++ decimal n); rest = f.rest; is = f.is; stands = (h.small, refl); goes_on = f.goes_on }
seen_of token.OtherWord P x h = h
seen_of (token.Bare n) P x h = record { what = piece.Bare n; rest = h.rest; is = h.is; stands = refl; goes_on = h.goes_on }
seen_of (token.Constant n) P x h = record { what = piece.Const n; rest = h.rest; is = h.is; stands = refl; goes_on = h.goes_on }
seen_of (token.Sym s) P x h = record { what = piece.Sym s; rest = h.rest; is = h.is; stands = refl; goes_on = h.goes_on }

-- the token that is seen first is this one, and the rest is what it goes on with
pub seen_first : (u t : CToken) (what : What) (P : List What → Type 0) (x : List What) → StandsFor t what → Seen u P (what ∷ x) → (u ≡ t) × P x
seen_first u t what P x st h =
    let w : what ≡ h.what = cc in
    let r : h.rest ≡ x = cc in
    (one_token what u t (subst (λ (v : What). StandsFor u v) (sym w) h.stands) st, subst P r h.goes_on)

pub form_first : (u t : CToken) (what : What) (P : List What → Type 0) (x : List What) → StandsFor t what → Form u P (what ∷ x) → (u ≡ t) × P x
form_first u t what P x st h = seen_first u t what P x st (seen_of u P (what ∷ x) h)

pub form_before : (t : CToken) (what : What) (P : List What → Type 0) (x : List What) → StandsFor t what → P x → Form t P (what ∷ x)
form_before t what P x st p = form_of t P (what ∷ x) (record { what = what; rest = x; is = refl; stands = st; goes_on = p })

-- ---- tokens in a row

abbrev pub AllForms : List CToken → (List What → Type 0) → List What → Type 0
AllForms [] then_holds x = then_holds x
AllForms (t ∷ toks) then_holds x = Form t (AllForms toks then_holds) x

pub seen_map : (t : CToken) (P Q : List What → Type 0) → ((y : List What) → P y → Q y) → (x : List What) → Seen t P x → Seen t Q x
seen_map t P Q f x h = record { what = h.what; rest = h.rest; is = h.is; stands = h.stands; goes_on = f h.rest h.goes_on }

pub all_seen_map : (toks : List CToken) (P Q : List What → Type 0) → ((y : List What) → P y → Q y) → (x : List What) → AllSeen toks P x → AllSeen toks Q x
all_seen_map [] P Q f x h = f x h
all_seen_map (t ∷ toks) P Q f x h = seen_map t (AllSeen toks P) (AllSeen toks Q) (λ y k. all_seen_map toks P Q f y k) x h

pub all_forms_of : (toks : List CToken) (P : List What → Type 0) (x : List What) → AllSeen toks P x → AllForms toks P x
all_forms_of [] P x h = h
all_forms_of (t ∷ toks) P x h = form_of t (AllForms toks P) x (seen_map t (AllSeen toks P) (AllForms toks P) (λ y k. all_forms_of toks P y k) x h)

pub all_seen_of : (toks : List CToken) (P : List What → Type 0) (x : List What) → AllForms toks P x → AllSeen toks P x
all_seen_of [] P x h = h
all_seen_of (t ∷ toks) P x h =
    seen_map t (AllForms toks P) (AllSeen toks P) (λ y k. all_seen_of toks P y k) x (seen_of t (AllForms toks P) x h)

pub all_forms_map : (toks : List CToken) (P Q : List What → Type 0) → ((y : List What) → P y → Q y) → (x : List What) → AllForms toks P x → AllForms toks Q x
all_forms_map toks P Q f x h = all_forms_of toks Q x (all_seen_map toks P Q f x (all_seen_of toks P x h))

-- the tokens up to a rest, of which something holds
pub record EndsWith (toks : List CToken) (P : List What → Type 0) (x : List What) : Type 0 where
  pub rest : List What
  pub forms : AllForms toks (Ends rest) x
  pub holds : P rest

pub all_seen_ends : (toks : List CToken) (P : List What → Type 0) (x : List What) → AllSeen toks P x → EndsWith toks P x
all_seen_ends [] P x h = record { rest = x; forms = refl; holds = h }
all_seen_ends (t ∷ toks) P x h =
    let e = all_seen_ends toks P h.rest h.goes_on in
    record {
      rest = e.rest;
      forms = form_of t (AllForms toks (Ends e.rest)) x (record { what = h.what; rest = h.rest; is = h.is; stands = h.stands; goes_on = e.forms });
      holds = e.holds;
    }

-- tokens that end here, and then what holds of the rest
pub all_seen_then : (toks : List CToken) (P : List What → Type 0) (x r : List What) → AllForms toks (Ends r) x → P r → AllSeen toks P x
all_seen_then toks P x r h p = all_seen_map toks (Ends r) P (λ y e. subst P (sym e) p) x (all_seen_of toks (Ends r) x h)
