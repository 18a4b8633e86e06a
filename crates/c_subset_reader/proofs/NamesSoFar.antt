-- Whether names that a reader sees are declared.
use Rattle.std.proofs.Common.{◌≡◌, ℕ, List, [], ◌∷◌, ◌++◌, true, false, All, refl, sym, ap, ◌∙◌}
use Rattle.std.proofs.lemmas.List.Elements.{All-append, All-nil, All-cons}
use Rattle.loop_ir.specs.DeclaredNames.{Names}
use Rattle.c_faults.specs.Undeclared as undeclared
use Rattle.c_faults.specs.Undeclared.{Sort, IsName, IsDeclared, IsUndeclared, declares, letter_of}
use Rattle.c_lexer.specs.declared.cursor.Found.{Found}
use Rattle.c_tokens.specs.Cutting.{Token}
use Rattle.c_tokens.specs.Pieces.{What}
use Rattle.c_words.specs.Words.{StandsFor}
use Rattle.c_words.specs.declared.token.CToken.{CToken}
use Rattle.c_words.specs.declared.token.CToken.TheVariants.{Key, Name, OtherWord, Bare, Constant, Sym}
use Rattle.c_words.specs.declared.token.Letter.{Letter}
use Rattle.c_words.specs.declared.token.Letter.TheVariants as letter
use Rattle.c_words.proofs.OneToken.{one_token}
use Rattle.c_subset_reader.specs.SeenNames.{is_declared_letter, is_declared_token}
use Rattle.c_subset_reader.proofs.Taking.{Extends}

sort_of : Letter → Sort
sort_of letter.Variable = undeclared.Variable
sort_of letter.Array = undeclared.Array
sort_of letter.Length = undeclared.Length
sort_of letter.Int = undeclared.Int

letter_for : Sort → Letter
letter_for undeclared.Variable = letter.Variable
letter_for undeclared.Array = letter.Array
letter_for undeclared.Length = letter.Length
letter_for undeclared.Int = letter.Int

declares_letter : (names : Names) (s : Sort) (k : ℕ) → is_declared_letter names (letter_for s) k ≡ declares names s k
unfolding letter_for
declares_letter names undeclared.Variable k = refl
declares_letter names undeclared.Array k = refl
declares_letter names undeclared.Length k = refl
declares_letter names undeclared.Int k = refl

stands_for_name : (s : Sort) (k : ℕ) (what : What) → IsName s k what → StandsFor (Name (letter_for s) k) what
unfolding letter_for
stands_for_name undeclared.Variable k what h = (h.small, h.is)
stands_for_name undeclared.Array k what h = (h.small, h.is)
stands_for_name undeclared.Length k what h = (h.small, h.is)
stands_for_name undeclared.Int k what h = (h.small, h.is)

name_of : (l : Letter) (k : ℕ) (what : What) → StandsFor (Name l k) what → IsName (sort_of l) k what
unfolding sort_of
name_of letter.Variable k what h = record { small = h.0; is = h.1 }
name_of letter.Array k what h = record { small = h.0; is = h.1 }
name_of letter.Length k what h = record { small = h.0; is = h.1 }
name_of letter.Int k what h = record { small = h.0; is = h.1 }

declares_sort : (names : Names) (l : Letter) (k : ℕ) → declares names (sort_of l) k ≡ is_declared_letter names l k
unfolding sort_of
declares_sort names letter.Variable k = refl
declares_sort names letter.Array k = refl
declares_sort names letter.Length k = refl
declares_sort names letter.Int k = refl

-- a token that is seen as declared is so
pub declared_is : (names : Names) (seen : CToken) (what : What) → StandsFor seen what → is_declared_token names seen ≡ true → IsDeclared names what
declared_is names seen what stands h = λ s k name.
    let same = one_token what seen (Name (letter_for s) k) stands (stands_for_name s k what name) in
    sym (declares_letter names s k) ∙ ap (is_declared_token names) (sym same) ∙ h

-- and one that isn't is not
pub undeclared_is : (names : Names) (seen : CToken) (what : What) → StandsFor seen what → is_declared_token names seen ≡ false → IsUndeclared names what
undeclared_is names (Name l k) what stands h = record {
  sort = sort_of l;
  number = k;
  name = name_of l k what stands;
  undeclared = declares_sort names l k ∙ h;
}
undeclared_is names (Key w) what stands h = absurd cc
undeclared_is names OtherWord what stands h = absurd cc
undeclared_is names (Bare n) what stands h = absurd cc
undeclared_is names (Constant n) what stands h = absurd cc
undeclared_is names (Sym s) what stands h = absurd cc

abbrev pub AreDeclared : Names → List Token → Type 0
AreDeclared names toks = All (λ (t : Token). IsDeclared names t.what) toks

pub declared_none : (names : Names) → AreDeclared names []
declared_none names = All-nil (λ (t : Token). IsDeclared names t.what)

pub declared_more : (names : Names) (x : List Token) (t : Token) → AreDeclared names x → IsDeclared names t.what → AreDeclared names (x ++ t ∷ [])
declared_more names x t h k = All-append (λ (u : Token). IsDeclared names u.what) x (t ∷ []) h (All-cons (λ (u : Token). IsDeclared names u.what) t [] k (declared_none names))

-- one more, which was found
pub names_taken : (names : Names) (found : Found) → is_declared_token names found.token ≡ true → Extends found (AreDeclared names) (AreDeclared names)
names_taken names found e = λ before t seen h. declared_more names before t h (declared_is names found.token t.what seen.stands e)
