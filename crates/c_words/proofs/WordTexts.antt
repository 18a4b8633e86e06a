-- How a word is written tells which keyword or name it is.
use Rattle.std.proofs.Common.{◌≡◌, ◌≢◌, ℕ, ◌^◌, ◌<◌, ◌≤◌, List, [], ◌∷◌, ◌++◌, get_or, decimal, Bool, true, false, cond, ◌==◌, Option, Some, None, refl, sym, ap, ◌∙◌, arith, lit≤}
use Rattle.std.specs.Str.{bytes_eq}
use Rattle.std.proofs.lemmas.Bool.Decides.{nat_tests}
use Rattle.std.proofs.lemmas.Slice.Eq.{bytes_eq-Decides}
use Rattle.std.proofs.lemmas.Fmt.{decimal_is_IsNumeral, decimal_injective, decimal_nonempty}
use Rattle.std.proofs.lemmas.Str.Parse.{digit_at}
use Rattle.c_words.specs.declared.token.Keyword.{Keyword}
use Rattle.c_words.specs.declared.token.Keyword.TheVariants as keyword
use Rattle.c_words.specs.declared.token.Letter.{Letter}
use Rattle.c_words.specs.declared.token.Letter.TheVariants as letter
use Rattle.c_words.specs.Words.{keyword_text, letter_text}

-- ---- keywords

-- the first keyword of a list that is written so
pub first_written : List Keyword → List ℕ → Option Keyword
first_written [] text = None
first_written (k ∷ ks) text = cond (bytes_eq (keyword_text k) text) (Some k) (first_written ks text)

pub keywords : List Keyword
keywords = keyword.Int ∷ keyword.Pipeline ∷ keyword.Void ∷ keyword.Const ∷ keyword.Uint64 ∷ keyword.If ∷ keyword.Else ∷ keyword.While ∷ keyword.Break ∷ keyword.Return ∷ keyword.Emit ∷ keyword.EndRow ∷ []

first_written-text : (k : Keyword) → first_written keywords (keyword_text k) ≡ Some k
unfolding first_written keywords
first_written-text keyword.Int = refl
first_written-text keyword.Pipeline = refl
first_written-text keyword.Void = refl
first_written-text keyword.Const = refl
first_written-text keyword.Uint64 = refl
first_written-text keyword.If = refl
first_written-text keyword.Else = refl
first_written-text keyword.While = refl
first_written-text keyword.Break = refl
first_written-text keyword.Return = refl
first_written-text keyword.Emit = refl
first_written-text keyword.EndRow = refl

-- keywords that are written so are one
pub one_keyword : (k j : Keyword) → keyword_text k ≡ keyword_text j → k ≡ j
one_keyword k j e =
    let both : Some k ≡ Some j = sym (first_written-text k) ∙ ap (first_written keywords) e ∙ first_written-text j in
    cc

-- the keyword that is found is written so
pub first_written_is : (ks : List Keyword) (text : List ℕ) (k : Keyword) → first_written ks text ≡ Some k → keyword_text k ≡ text
unfolding first_written
first_written_is [] text k e = absurd cc
first_written_is (j ∷ ks) text k e = by_test (first_written_is ks text k) (bytes_eq (keyword_text j) text) refl e
  where
    by_test : (first_written ks text ≡ Some k → keyword_text k ≡ text) → (b : Bool) → bytes_eq (keyword_text j) text ≡ b → cond b (Some j) (first_written ks text) ≡ Some k → keyword_text k ≡ text
    by_test later true same e = let is : j ≡ k = cc in ap keyword_text (sym is) ∙ (bytes_eq-Decides (keyword_text j) text).0 same
    by_test later false other e = later e

-- where none is found, no keyword is written so
pub none_written : (text : List ℕ) → first_written keywords text ≡ None → (k : Keyword) → keyword_text k ≢ text
none_written text e k same =
    let both : Some k ≡ None = sym (first_written-text k) ∙ ap (first_written keywords) same ∙ e in
    cc

-- ---- names

-- the first digit of a number
pub digit_first : (n : ℕ) → n < 2 ^ 32 → get_or (decimal n) 0 0 < 58
digit_first n small =
    let numeral = decimal_is_IsNumeral n (omega arith) in
    let between = digit_at (decimal n) 0 numeral.0.1 (decimal_nonempty n (omega arith)) in
    omega (arith, between)

second_of_name : (l : Letter) (n : ℕ) → get_or (letter_text l ++ decimal n) 1 0 ≡ get_or (decimal n) 0 0
second_of_name letter.Variable n = refl
second_of_name letter.Array n = refl
second_of_name letter.Length n = refl
second_of_name letter.Int n = refl

second_of_keyword : (k : Keyword) → 58 ≤ get_or (keyword_text k) 1 0
second_of_keyword keyword.Int = lit≤ tt
second_of_keyword keyword.Pipeline = lit≤ tt
second_of_keyword keyword.Void = lit≤ tt
second_of_keyword keyword.Const = lit≤ tt
second_of_keyword keyword.Uint64 = lit≤ tt
second_of_keyword keyword.If = lit≤ tt
second_of_keyword keyword.Else = lit≤ tt
second_of_keyword keyword.While = lit≤ tt
second_of_keyword keyword.Break = lit≤ tt
second_of_keyword keyword.Return = lit≤ tt
second_of_keyword keyword.Emit = lit≤ tt
second_of_keyword keyword.EndRow = lit≤ tt

-- no keyword is a name, whose second character is a digit
pub no_keyword_name : (k : Keyword) (l : Letter) (n : ℕ) → n < 2 ^ 32 → keyword_text k ≡ letter_text l ++ decimal n → ⊥
no_keyword_name k l n small e =
    let same = ap (λ (text : List ℕ). get_or text 1 0) e ∙ second_of_name l n in
    let digit = digit_first n small in
    let letter = second_of_keyword k in
    omega arith

-- the first character of a name
pub letter_code : Letter → ℕ
letter_code letter.Variable = 118
letter_code letter.Array = 97
letter_code letter.Length = 110
letter_code letter.Int = 105

pub letter_text-code : (l : Letter) → letter_text l ≡ letter_code l ∷ []
unfolding letter_code
letter_text-code letter.Variable = refl
letter_text-code letter.Array = refl
letter_text-code letter.Length = refl
letter_text-code letter.Int = refl

pub letter_named : ℕ → Option Letter
letter_named c =
    cond (c == 118) (Some letter.Variable) (
    cond (c == 97) (Some letter.Array) (
    cond (c == 110) (Some letter.Length) (
    cond (c == 105) (Some letter.Int) None)))

pub letter_named-code : (l : Letter) → letter_named (letter_code l) ≡ Some l
unfolding letter_named letter_code
letter_named-code letter.Variable = refl
letter_named-code letter.Array = refl
letter_named-code letter.Length = refl
letter_named-code letter.Int = refl

pub letter_named_is : (c : ℕ) (l : Letter) → letter_named c ≡ Some l → c ≡ letter_code l
unfolding letter_named letter_code
letter_named_is c letter.Variable e = grind (arith, nat_tests)
letter_named_is c letter.Array e = grind (arith, nat_tests)
letter_named_is c letter.Length e = grind (arith, nat_tests)
letter_named_is c letter.Int e = grind (arith, nat_tests)

-- a name has one letter and one number
pub one_name : (l m : Letter) (j k : ℕ) → j < 2 ^ 32 → k < 2 ^ 32 → letter_text l ++ decimal j ≡ letter_text m ++ decimal k → (l ≡ m) × (j ≡ k)
one_name l m j k small_j small_k e =
    let whole : letter_code l ∷ decimal j ≡ letter_code m ∷ decimal k =
    sym (ap (λ (text : List ℕ). text ++ decimal j) (letter_text-code l)) ∙ e ∙ ap (λ (text : List ℕ). text ++ decimal k) (letter_text-code m) in
    let first : letter_code l ≡ letter_code m = cc in
    let digits : decimal j ≡ decimal k = cc in
    (same_letters first, decimal_injective j k (omega arith) (omega arith) digits)
  where
    same_letters : letter_code l ≡ letter_code m → l ≡ m
    same_letters e =
        let both : Some l ≡ Some m = sym (letter_named-code l) ∙ ap letter_named e ∙ letter_named-code m in
        cc
