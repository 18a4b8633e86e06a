-- The numbers and names that texts are, and those that they aren't.
use Rattle.std.proofs.Common.{◌≡◌, ◌≢◌, ℕ, ◌^◌, ◌<◌, ◌≤◌, List, ◌++◌, length, length-append, drop, codes, decimal, refl, sym, ap, ◌∙◌, arith}
use Rattle.std.proofs.lemmas.List.{append_cancel_right}
use Rattle.std.proofs.lemmas.Fmt.{decimal_injective, decimal_digit}
use Rattle.c_words.specs.Words.{letter_text}
use Rattle.c_words.specs.declared.token.Letter.{Letter}
use Rattle.c_words.specs.declared.token.Letter.TheVariants as letter
use Rattle.c_words.specs.declared.token.CToken.{CToken}
use Rattle.c_words.specs.declared.token.CToken.TheVariants.{Key, Name, OtherWord, Bare, Constant, Sym}
use Rattle.c_lexer.specs.Numbers.{IsNumberToken}
use Rattle.c_lexer.specs.Names.{IsNameToken}

one_digit : (n : ℕ) → n ≤ 1 → length (decimal n) ≡ 1
one_digit n small = ap length (decimal_digit n (omega arith))

-- no number that is written as the characters before ULL
pub no_constant : (text digits : List ℕ) → text ≡ digits ++ codes "ULL" → ((n : ℕ) → n < 2 ^ 64 → decimal n ≢ digits) → (t : CToken) → IsNumberToken text t → ⊥
no_constant text digits split none (Bare n) h =
    let longer = ap length (sym split ∙ h.0) in
    let parts = length-append digits (codes "ULL") in
    let one = one_digit n h.1 in
    omega arith
no_constant text digits split none (Constant n) h = none n h.1 (append_cancel_right (decimal n) digits (codes "ULL") (sym h.0 ∙ split))
no_constant text digits split none (Key k) h = absurd h
no_constant text digits split none (Name l n) h = absurd h
no_constant text digits split none OtherWord h = absurd h
no_constant text digits split none (Sym s) h = absurd h

-- neither 0 nor 1, and no constant
pub no_bare : (text : List ℕ) (v : ℕ) → decimal v ≡ text → v < 2 ^ 64 → 1 < v → ((front : List ℕ) → text ≢ front ++ codes "ULL") → (t : CToken) → IsNumberToken text t → ⊥
no_bare text v is fits large none (Bare n) h =
    let small = h.1 in
    let same = decimal_injective n v (omega arith) fits (sym h.0 ∙ sym is) in
    omega arith
no_bare text v is fits large none (Constant n) h = none (decimal n) h.0
no_bare text v is fits large none (Key k) h = absurd h
no_bare text v is fits large none (Name l n) h = absurd h
no_bare text v is fits large none OtherWord h = absurd h
no_bare text v is fits large none (Sym s) h = absurd h

behind_letter : (l : Letter) (n : ℕ) → drop 1 (letter_text l ++ decimal n) ≡ decimal n
behind_letter letter.Variable n = refl
behind_letter letter.Array n = refl
behind_letter letter.Length n = refl
behind_letter letter.Int n = refl

-- a number of 2^32 or more names nothing
pub no_large_name : (word : List ℕ) (v : ℕ) → decimal v ≡ drop 1 word → v < 2 ^ 64 → 2 ^ 32 ≤ v → (t : CToken) → IsNameToken word t → ⊥
no_large_name word v is fits large (Name l n) h =
    let small = h.0 in
    let same = decimal_injective n v (omega arith) fits (sym (behind_letter l n) ∙ ap (drop 1) h.1 ∙ sym is) in
    omega arith
no_large_name word v is fits large (Bare n) h = absurd h
no_large_name word v is fits large (Constant n) h = absurd h
no_large_name word v is fits large (Key k) h = absurd h
no_large_name word v is fits large OtherWord h = absurd h
no_large_name word v is fits large (Sym s) h = absurd h
