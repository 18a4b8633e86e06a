-- Where the text of a number ends, and which word it is of.
use Rattle.std.proofs.Common.{◌≡◌, ℕ, ◌^◌, ◌<◌, ◌≤◌, List, [], ◌∷◌, ◌++◌, length, Bool, true, false, refl, sym, decimal, arith}
use Rattle.std.specs.Str.Parse.{AllDigits}
use Rattle.std.proofs.lemmas.Fmt.{decimal_is_IsNumeral, decimal_injective}
use Rattle.std.proofs.lemmas.Str.Parse.{digit_from_value}
use Rattle.strm_num.specs.Words.{IsWord}
use Rattle.strm_num.specs.Magnitudes.{is_negative, magnitude_of}
use Rattle.strm_num.specs.SignedTexts.{sign_text, signed_text}

-- ---- where it ends: the characters of numbers are `-`, which is 45, and above; a blank and a line feed are below

abbrev GoesOn : List ℕ → Type 0
GoesOn [] = Unit {0}
GoesOn (c ∷ text) = 45 ≤ c × GoesOn text

-- the text of a number
abbrev pub IsNumber : List ℕ → Type 0
IsNumber [] = ⊥
IsNumber (c ∷ text) = 45 ≤ c × GoesOn text

-- a number ends before this text
abbrev pub Stops : List ℕ → Type 0
Stops [] = Unit {0}
Stops (c ∷ rest) = c < 45

same_cons : {c d : ℕ} {t u : List ℕ} → c ≡ d → t ≡ u → (c ∷ t) ≡ (d ∷ u)
same_cons p q = cc

below_and_above : (c d : ℕ) → c ≡ d → c < 45 → 45 ≤ d → ⊥
below_and_above c d e low high = omega arith

-- what goes on to a stop in one text is one
same_run : (t r u s : List ℕ) → t ++ r ≡ u ++ s → GoesOn t → Stops r → GoesOn u → Stops s → (t ≡ u) × (r ≡ s)
same_run [] r [] s e goes stops also ends = (refl, e)
same_run [] [] (d ∷ u) s e goes stops also ends = absurd cc
same_run [] (x ∷ r) (d ∷ u) s e goes stops also ends =
    let first : x ≡ d = cc in absurd (below_and_above x d first stops also.0)
same_run (c ∷ t) r [] [] e goes stops also ends = absurd cc
same_run (c ∷ t) r [] (x ∷ s) e goes stops also ends =
    let first : x ≡ c = cc in absurd (below_and_above x c first ends goes.0)
same_run (c ∷ t) r (d ∷ u) s e goes stops also ends =
    let first : c ≡ d = cc in
    let tail : t ++ r ≡ u ++ s = cc in
    let same = same_run t r u s tail goes.1 stops also.1 ends in
    (same_cons first same.0, same.1)

-- two numbers at the front of one text are the same
pub same_number : (t r u s : List ℕ) → t ++ r ≡ u ++ s → IsNumber t → Stops r → IsNumber u → Stops s → (t ≡ u) × (r ≡ s)
same_number [] r u s e is stops also ends = absurd is
same_number (c ∷ t) r [] s e is stops also ends = absurd also
same_number (c ∷ t) r (d ∷ u) s e is stops also ends = same_run (c ∷ t) r (d ∷ u) s e is stops also ends

-- no text begins with a number where a number ends before it
pub no_stop : (t r s : List ℕ) → t ++ r ≡ s → IsNumber t → Stops s → ⊥
no_stop [] r s e is ends = is
no_stop (c ∷ t) r [] e is ends = absurd cc
no_stop (c ∷ t) r (d ∷ s) e is ends =
    let first : d ≡ c = cc in below_and_above d c first ends is.0

-- ---- the text of a word

digit_bound : (d : ℕ) (ds : List ℕ) → AllDigits 10 (d ∷ ds) → 48 ≤ d
digit_bound d ds all = omega (arith, digit_from_value d all.0)

digits_go_on : (ds : List ℕ) → AllDigits 10 ds → GoesOn ds
digits_go_on [] all = tt
digits_go_on (d ∷ ds) all =
    let high = digit_bound d ds all in (omega arith, digits_go_on ds all.1)

digits_are_number : (ds : List ℕ) → 0 < length ds → AllDigits 10 ds → IsNumber ds
digits_are_number [] some all = absurd (omega arith)
digits_are_number (d ∷ ds) some all = digits_go_on (d ∷ ds) all

signed_digits_are_number : (negative : Bool) (ds : List ℕ) → 0 < length ds → AllDigits 10 ds → IsNumber (sign_text negative ++ ds)
signed_digits_are_number true ds some all = (omega arith, digits_go_on ds all)
signed_digits_are_number false ds some all = digits_are_number ds some all

no_sign : (ds text : List ℕ) → AllDigits 10 ds → 45 ∷ text ≡ ds → ⊥
no_sign [] text all e = absurd cc
no_sign (d ∷ ds) text all e =
    let first : 45 ≡ d = cc in
    let high = digit_bound d ds all in omega arith

-- a sign and digits are of one sign and one number
same_parts : (b c : Bool) (m n : ℕ) → m < 2 ^ 64 → n < 2 ^ 64 → sign_text b ++ decimal m ≡ sign_text c ++ decimal n → (b ≡ c) × (m ≡ n)
same_parts true true m n small_m small_n e =
    let digits : decimal m ≡ decimal n = cc in (refl, decimal_injective m n small_m small_n digits)
same_parts true false m n small_m small_n e = absurd (no_sign (decimal n) (decimal m) (decimal_is_IsNumeral n small_n).0.1 e)
same_parts false true m n small_m small_n e = absurd (no_sign (decimal m) (decimal n) (decimal_is_IsNumeral m small_m).0.1 (sym e))
same_parts false false m n small_m small_n e = (refl, decimal_injective m n small_m small_n e)

magnitude_word : (w : ℕ) → IsWord w → magnitude_of w < 2 ^ 64
magnitude_word w h = grind arith

same_signed : (v w : ℕ) → v < 2 ^ 64 → w < 2 ^ 64 → is_negative v ≡ is_negative w → magnitude_of v ≡ magnitude_of w → v ≡ w
same_signed v w h k sign size = grind arith

pub word_is_number : (w : ℕ) → IsWord w → IsNumber (signed_text w)
word_is_number w h =
    let numeral = (decimal_is_IsNumeral (magnitude_of w) (magnitude_word w h)).0 in
    signed_digits_are_number (is_negative w) (decimal (magnitude_of w)) numeral.0 numeral.1

-- a text is of one word
pub same_word : (v w : ℕ) → IsWord v → IsWord w → signed_text v ≡ signed_text w → v ≡ w
same_word v w h k e =
    let same = same_parts (is_negative v) (is_negative w) (magnitude_of v) (magnitude_of w) (magnitude_word v h) (magnitude_word w k) e in
    same_signed v w h k same.0 same.1
