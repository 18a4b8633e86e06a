-- Words that bind: NAME=VALUE, which is split at its first =.
use Rattle.std.specs.Prelude.{ℕ, ◌+◌, ◌==◌, List, Bool, not, ◌&&◌, length, take, drop, nat_lt}
use Rattle.std.specs.List.{prefix_len}

abbrev pub is_equals : ℕ → Bool
is_equals c = c == 61

-- how many bytes stand before the first =
abbrev pub name_len : List ℕ → ℕ
name_len word = prefix_len (λ c. not (is_equals c)) word

-- there is a =, and a name stands before the first
abbrev pub is_binding : List ℕ → Bool
is_binding word = nat_lt 0 (name_len word) && nat_lt (name_len word) (length word)

abbrev pub name_in : List ℕ → List ℕ
name_in word = take (name_len word) word

abbrev pub value_in : List ℕ → List ℕ
value_in word = drop (name_len word + 1) word
