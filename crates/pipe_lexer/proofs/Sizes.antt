-- How many bytes characters have.
use Rattle.std.proofs.Common.{◌≡◌, ℕ, ◌+◌, ◌<◌, ◌≤◌, List, [], ◌∷◌, ◌++◌, length, get_or, take, drop, sym, ap, ◌∙◌, arith, length-append}
use Rattle.std.proofs.lemmas.List.{take_more, take-append-drop}
use Rattle.std.proofs.lemmas.Str.{encodes-append, length-le-encodes}
use Rattle.std.specs.Prelude.{encode_utf8, encode_utf8_all}
use Rattle.pipe_lexer.specs.Characters.{size_of}

pub size_of-append : (xs ys : List ℕ) → size_of (xs ++ ys) ≡ size_of xs + size_of ys
size_of-append xs ys = ap length (encodes-append xs ys) ∙ length-append (encode_utf8_all xs) (encode_utf8_all ys)

size_of_one : (c : ℕ) → size_of (c ∷ []) ≡ length (encode_utf8 c)
size_of_one c = length-append (encode_utf8 c) [] ∙ (let e : length (encode_utf8 c) + 0 ≡ length (encode_utf8 c) = omega arith in e)

-- one character more
pub size_of-take_more : (xs : List ℕ) (i d : ℕ) → i < length xs → size_of (take (i + 1) xs) ≡ size_of (take i xs) + length (encode_utf8 (get_or xs i d))
size_of-take_more xs i d within =
    ap size_of (take_more xs i d within) ∙ size_of-append (take i xs) (get_or xs i d ∷ []) ∙ ap (λ (n : ℕ). size_of (take i xs) + n) (size_of_one (get_or xs i d))

-- a prefix and what follows it
pub size_of_prefix : (i : ℕ) (xs : List ℕ) → size_of (take i xs) + size_of (drop i xs) ≡ size_of xs
size_of_prefix i xs = sym (size_of-append (take i xs) (drop i xs)) ∙ ap size_of (take-append-drop i xs)

-- characters have a byte or more each
pub length-le-size_of : (xs : List ℕ) → length xs ≤ size_of xs
length-le-size_of xs = length-le-encodes xs
