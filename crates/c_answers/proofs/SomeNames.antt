-- The names among tokens are all declared, or there is a first one that isn't.
use Rattle.std.proofs.Common.{◌≡◌, ◌⊎◌, ℕ, List, [], ◌∷◌, true, All, refl, sym, ap, ◌∙◌, inl, inr}
use Rattle.std.proofs.lemmas.List.Elements.{All-nil, All-cons}
use Rattle.loop_ir.specs.DeclaredNames.{Names}
use Rattle.c_tokens.specs.Cutting.{Token}
use Rattle.c_tokens.specs.Pieces.{What}
use Rattle.c_words.specs.declared.token.CToken.{CToken}
use Rattle.c_words.specs.declared.token.CToken.TheVariants.{Key, Name, OtherWord, Bare, Constant, Sym}
use Rattle.c_words.specs.declared.token.Letter.{Letter}
use Rattle.c_words.specs.declared.token.Letter.TheVariants as letter
use Rattle.c_words.specs.Words.{StandsFor}
use Rattle.c_words.proofs.OneToken.{one_token}
use Rattle.c_words.proofs.SomeToken.{token_of, token_stands}
use Rattle.c_faults.specs.Answers.{HasTokenAt}
use Rattle.c_faults.specs.Undeclared.{Sort, Variable, Array, Length, Int, declares, IsName, IsUndeclared, IsDeclared}
use Rattle.c_answers.proofs.Beginnings.{by_test}

-- ---- one token

abbrev letter_for : Sort → Letter
letter_for Variable = letter.Variable
letter_for Array = letter.Array
letter_for Length = letter.Length
letter_for Int = letter.Int

abbrev sort_for : Letter → Sort
sort_for letter.Variable = Variable
sort_for letter.Array = Array
sort_for letter.Length = Length
sort_for letter.Int = Int

sort_for-letter : (sort : Sort) → sort_for (letter_for sort) ≡ sort
sort_for-letter Variable = refl
sort_for-letter Array = refl
sort_for-letter Length = refl
sort_for-letter Int = refl

-- a reader sees a name in it
name_is_seen : (sort : Sort) (k : ℕ) (what : What) → IsName sort k what → StandsFor (Name (letter_for sort) k) what
name_is_seen Variable k what name = (name.small, name.is)
name_is_seen Array k what name = (name.small, name.is)
name_is_seen Length k what name = (name.small, name.is)
name_is_seen Int k what name = (name.small, name.is)

seen_is_name : (l : Letter) (k : ℕ) (what : What) → StandsFor (Name l k) what → IsName (sort_for l) k what
seen_is_name letter.Variable k what h = record { small = h.0; is = h.1 }
seen_is_name letter.Array k what h = record { small = h.0; is = h.1 }
seen_is_name letter.Length k what h = record { small = h.0; is = h.1 }
seen_is_name letter.Int k what h = record { small = h.0; is = h.1 }

module _ (names : Names) where
  abbrev DeclaredOrNot : What → Type 0
  DeclaredOrNot what = IsDeclared names what ⊎ IsUndeclared names what

  declared : (what : What) (l : Letter) (k : ℕ) → StandsFor (Name l k) what → declares names (sort_for l) k ≡ true → IsDeclared names what
  declared what l k h holds sort j name =
      let same : Name (letter_for sort) j ≡ Name l k = one_token what (Name (letter_for sort) j) (Name l k) (name_is_seen sort j what name) h in
      let letters : letter_for sort ≡ l = cc in
      let numbers : j ≡ k = cc in
      ap (λ (s : Sort). declares names s j) (sym (sort_for-letter sort) ∙ ap sort_for letters) ∙ ap (declares names (sort_for l)) numbers ∙ holds

  -- what no name stands for is none
  no_name : (what : What) (t : CToken) → ((l : Letter) (k : ℕ) → Name l k ≡ t → ⊥) → StandsFor t what → IsDeclared names what
  no_name what t none h sort j name =
      absurd (none (letter_for sort) j (one_token what (Name (letter_for sort) j) t (name_is_seen sort j what name) h))

  by_token : (what : What) (t : CToken) → StandsFor t what → DeclaredOrNot what
  by_token what (Key k) h = inl (no_name what (Key k) (λ l j e. cc) h)
  by_token what (Name l k) h = by_test {A = DeclaredOrNot what} (declares names (sort_for l) k)
      (λ holds. inl (declared what l k h holds))
      (λ fails. inr (record { sort = sort_for l; number = k; name = seen_is_name l k what h; undeclared = fails }))
  by_token what OtherWord h = inl (no_name what OtherWord (λ l j e. cc) h)
  by_token what (Bare n) h = inl (no_name what (Bare n) (λ l j e. cc) h)
  by_token what (Constant n) h = inl (no_name what (Constant n) (λ l j e. cc) h)
  by_token what (Sym s) h = inl (no_name what (Sym s) (λ l j e. cc) h)

  declared_or_not : (what : What) → DeclaredOrNot what
  declared_or_not what = by_token what (token_of what) (token_stands what)

  -- ---- tokens

  abbrev pub AreDeclared : List Token → Type 0
  AreDeclared toks = All (λ (t : Token). IsDeclared names t.what) toks

  -- the first that isn't declared, at its offset
  abbrev pub FirstUndeclared : List Token → Type 0
  FirstUndeclared toks = (at : ℕ) × HasTokenAt at (λ before t. AreDeclared before × IsUndeclared names t.what) toks

  abbrev AllOrFirst : List Token → Type 0
  AllOrFirst toks = AreDeclared toks ⊎ FirstUndeclared toks

  later_fault : (t : Token) (toks : List Token) → IsDeclared names t.what → FirstUndeclared toks → FirstUndeclared (t ∷ toks)
  later_fault t toks first later =
      let fault = later.1 in (
        later.0,
        record {
          before = t ∷ fault.before;
          token = fault.token;
          after = fault.after;
          parts = ap (λ (ts : List Token). t ∷ ts) fault.parts;
          is_there = fault.is_there;
          holds_of_it = (All-cons (λ (u : Token). IsDeclared names u.what) t fault.before first fault.holds_of_it.0, fault.holds_of_it.1);
        },
      )

  one_more : (t : Token) (toks : List Token) → DeclaredOrNot t.what → AllOrFirst toks → AllOrFirst (t ∷ toks)
  one_more t toks (inl first) (inl others) = inl (All-cons (λ (u : Token). IsDeclared names u.what) t toks first others)
  one_more t toks (inl first) (inr later) = inr (later_fault t toks first later)
  one_more t toks (inr undeclared) later = inr (
    t.at,
    record {
      before = [];
      token = t;
      after = toks;
      parts = refl;
      is_there = refl;
      holds_of_it = (All-nil (λ (u : Token). IsDeclared names u.what), undeclared);
    },
  )

  pub declared_or_first : (toks : List Token) → AreDeclared toks ⊎ FirstUndeclared toks
  declared_or_first [] = inl (All-nil (λ (u : Token). IsDeclared names u.what))
  declared_or_first (t ∷ toks) = one_more t toks (declared_or_not t.what) (declared_or_first toks)
