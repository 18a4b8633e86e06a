-- A reader sees something in each token.
use Rattle.std.proofs.Common.{◌≡◌, ◌≢◌, ℕ, ◌^◌, ◌<◌, List, [], ◌∷◌, ◌++◌, decimal, Bool, true, false, ◌&&◌, nat_lt, cond, Option, Some, None, refl, sym, ap, subst, ◌∙◌, arith, true≢false}
use Rattle.std.specs.Str.{bytes_eq}
use Rattle.std.specs.Str.Parse.{digits_value}
use Rattle.std.proofs.lemmas.Bool.Decides.{nat_tests}
use Rattle.std.proofs.lemmas.Fmt.{decimal_is_IsNumeral}
use Rattle.std.proofs.lemmas.Slice.Eq.{bytes_eq-Decides}
use Rattle.c_tokens.specs.Pieces as piece
use Rattle.c_tokens.specs.Pieces.{What, Word}
use Rattle.c_words.specs.declared.token.Keyword.{Keyword}
use Rattle.c_words.specs.declared.token.Letter.{Letter}
use Rattle.c_words.specs.declared.token.CToken.{CToken}
use Rattle.c_words.specs.declared.token.CToken.TheVariants.{Key, Name, OtherWord, Bare, Constant, Sym}
use Rattle.c_words.specs.Words.{keyword_text, letter_text, StandsFor}
use Rattle.c_words.proofs.SameTokens.{both_hold}
use Rattle.c_words.proofs.WordTexts.{first_written, keywords, first_written_is, none_written, letter_code, letter_text-code, letter_named, letter_named-code, letter_named_is}

-- ---- names

-- the text is what a number is written as
abbrev is_decimal : List ℕ → Bool
is_decimal digits = nat_lt (digits_value 10 digits) (2 ^ 32) && bytes_eq (decimal (digits_value 10 digits)) digits

is_decimal_only : (digits : List ℕ) → is_decimal digits ≡ true → (digits_value 10 digits < 2 ^ 32) × (decimal (digits_value 10 digits) ≡ digits)
is_decimal_only digits e =
    let parts = both_hold (nat_lt (digits_value 10 digits) (2 ^ 32)) (bytes_eq (decimal (digits_value 10 digits)) digits) e in
    (small (digits_value 10 digits) parts.0, (bytes_eq-Decides (decimal (digits_value 10 digits)) digits).0 parts.1)
  where
    small : (n : ℕ) → nat_lt n (2 ^ 32) ≡ true → n < 2 ^ 32
    small n e = grind (arith, nat_tests)

decimal_is_decimal : (n : ℕ) → n < 2 ^ 32 → is_decimal (decimal n) ≡ true
decimal_is_decimal n small =
    let value = (decimal_is_IsNumeral n (omega arith)).1 in
    both (nat_lt (digits_value 10 (decimal n)) (2 ^ 32)) (bytes_eq (decimal (digits_value 10 (decimal n))) (decimal n))
    (passes (digits_value 10 (decimal n)) value) ((bytes_eq-Decides (decimal (digits_value 10 (decimal n))) (decimal n)).1 (ap decimal value))
  where
    both : (a b : Bool) → a ≡ true → b ≡ true → (a && b) ≡ true
    both a b e f = rw (e, f) refl

    passes : (m : ℕ) → m ≡ n → nat_lt m (2 ^ 32) ≡ true
    passes m e = grind (arith, nat_tests)

-- a letter and what is behind it
abbrev numbered : Letter → List ℕ → CToken
numbered l digits = cond (is_decimal digits) (Name l (digits_value 10 digits)) OtherWord

abbrev by_letter : Option Letter → List ℕ → CToken
by_letter None digits = OtherWord
by_letter (Some l) digits = numbered l digits

abbrev no_keyword_in : List ℕ → CToken
no_keyword_in [] = OtherWord
no_keyword_in (c ∷ digits) = by_letter (letter_named c) digits

abbrev by_keyword : Option Keyword → List ℕ → CToken
by_keyword None text = no_keyword_in text
by_keyword (Some k) text = Key k

-- what a reader sees in a token
pub token_of : What → CToken
token_of (Word text) = by_keyword (first_written keywords text) text
token_of (piece.Bare n) = Bare n
token_of (piece.Const n) = Constant n
token_of (piece.Sym s) = Sym s

-- a name begins with its letter
pub name_splits : (l : Letter) (n c : ℕ) (digits : List ℕ) → letter_text l ++ decimal n ≡ c ∷ digits → (letter_code l ≡ c) × (decimal n ≡ digits)
name_splits l n c digits e =
    let whole : letter_code l ∷ decimal n ≡ c ∷ digits = sym (ap (λ (text : List ℕ). text ++ decimal n) (letter_text-code l)) ∙ e in
    (let first : letter_code l ≡ c = cc in first, let rest : decimal n ≡ digits = cc in rest)

pub other_word : (text : List ℕ) → ((k : Keyword) → keyword_text k ≢ text) → ((l : Letter) (n : ℕ) → n < 2 ^ 32 → letter_text l ++ decimal n ≢ text) → StandsFor OtherWord (Word text)
other_word text no_keyword no_name = (text, (refl, record { no_keyword = no_keyword; no_name = no_name }))

-- a letter and the digits of a number are a name, and a letter and anything else are none
numbered_stands : (l : Letter) (digits : List ℕ) → ((k : Keyword) → keyword_text k ≢ letter_code l ∷ digits) → StandsFor (numbered l digits) (Word (letter_code l ∷ digits))
numbered_stands l digits no_keyword = by_test (is_decimal digits) refl
  where
    no_name : is_decimal digits ≡ false → (m : Letter) (n : ℕ) → n < 2 ^ 32 → letter_text m ++ decimal n ≢ letter_code l ∷ digits
    no_name none m n small e =
        let same = (name_splits m n (letter_code l) digits e).1 in
        true≢false (sym (decimal_is_decimal n small) ∙ ap is_decimal same ∙ none)

    by_test : (b : Bool) → is_decimal digits ≡ b → StandsFor (cond b (Name l (digits_value 10 digits)) OtherWord) (Word (letter_code l ∷ digits))
    by_test true e =
        let parts = is_decimal_only digits e in
        let written : letter_code l ∷ digits ≡ letter_text l ++ decimal (digits_value 10 digits) =
        ap (λ (xs : List ℕ). letter_code l ∷ xs) (sym parts.1) ∙ sym (ap (λ (text : List ℕ). text ++ decimal (digits_value 10 digits)) (letter_text-code l)) in
        (parts.0, ap Word written)
    by_test false e = other_word (letter_code l ∷ digits) no_keyword (no_name e)

by_letter_stands : (found : Option Letter) (c : ℕ) (digits : List ℕ) → letter_named c ≡ found → ((k : Keyword) → keyword_text k ≢ c ∷ digits) → StandsFor (by_letter found digits) (Word (c ∷ digits))
by_letter_stands None c digits e no_keyword = other_word (c ∷ digits) no_keyword no_name
  where
    no_name : (l : Letter) (n : ℕ) → n < 2 ^ 32 → letter_text l ++ decimal n ≢ c ∷ digits
    no_name l n small same =
        let first = (name_splits l n c digits same).0 in
        let clash : Some l ≡ None = sym (letter_named-code l) ∙ ap letter_named first ∙ e in
        cc
by_letter_stands (Some l) c digits e no_keyword =
    let is = letter_named_is c l e in
    subst (λ (d : ℕ). StandsFor (numbered l digits) (Word (d ∷ digits))) (sym is)
    (numbered_stands l digits (λ k same. no_keyword k (same ∙ ap (λ (d : ℕ). d ∷ digits) (sym is))))

no_keyword_stands : (text : List ℕ) → ((k : Keyword) → keyword_text k ≢ text) → StandsFor (no_keyword_in text) (Word text)
no_keyword_stands [] no_keyword = other_word [] no_keyword no_name
  where
    no_name : (l : Letter) (n : ℕ) → n < 2 ^ 32 → letter_text l ++ decimal n ≢ []
    no_name l n small e =
        let whole : letter_code l ∷ decimal n ≡ [] = sym (ap (λ (text : List ℕ). text ++ decimal n) (letter_text-code l)) ∙ e in
        cc
no_keyword_stands (c ∷ digits) no_keyword = by_letter_stands (letter_named c) c digits refl no_keyword

by_keyword_stands : (found : Option Keyword) (text : List ℕ) → first_written keywords text ≡ found → StandsFor (by_keyword found text) (Word text)
by_keyword_stands None text e = no_keyword_stands text (none_written text e)
by_keyword_stands (Some k) text e = ap Word (sym (first_written_is keywords text k e))

pub token_stands : (what : What) → StandsFor (token_of what) what
unfolding token_of
token_stands (Word text) = by_keyword_stands (first_written keywords text) text refl
token_stands (piece.Bare n) = refl
token_stands (piece.Const n) = refl
token_stands (piece.Sym s) = refl
