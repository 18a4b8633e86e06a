-- The number that decimal digits write, by one digit more.
use Rattle.std.proofs.Common.{◌≡◌, ℕ, ◌+◌, ◌-◌, ◌*◌, ◌<◌, List, [], ◌∷◌, ◌++◌, length, get_or, take, refl, ap, ◌∙◌}
use Rattle.std.proofs.lemmas.List.{take_more}
use Rattle.value_files.specs.Numbers.{number_with}

number_with-append : (n : ℕ) (xs : List ℕ) (c : ℕ) → number_with n (xs ++ c ∷ []) ≡ number_with n xs * 10 + (c - 48)
number_with-append n [] c = refl
number_with-append n (x ∷ xs) c = number_with-append (n * 10 + (x - 48)) xs c

pub number_with-take_more : (n : ℕ) (xs : List ℕ) (i d : ℕ) → i < length xs → number_with n (take (i + 1) xs) ≡ number_with n (take i xs) * 10 + (get_or xs i d - 48)
number_with-take_more n xs i d within = ap (number_with n) (take_more xs i d within) ∙ number_with-append n (take i xs) (get_or xs i d)
