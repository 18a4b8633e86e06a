-- The texts of the words from a number on.
use Rattle.std.proofs.Common.{◌≡◌, ◌∙◌, ℕ, ◌<◌, ◌-◌, List, [], length, take, drop, String, string_bytes, ap, sym, arith}
use Rattle.std.proofs.lemmas.List.{drop-map, drop_all, length-map, take_rest}
use Rattle.std.specs.declared.alloc.Global.{Global}
use Rattle.command_words.specs.Commands.{texts_of}

pub some_behind : (n : ℕ) (words : List (String Global)) → texts_of (take (length words - n) (drop n words)) ≡ drop n (texts_of words)
some_behind n words = ap texts_of (take_rest words n) ∙ sym (drop-map string_bytes n words)

pub none_behind : (n : ℕ) (words : List (String Global)) → length words < n → [] ≡ drop n (texts_of words)
none_behind n words few = sym (drop_all n (texts_of words) (omega (arith, few, length-map words string_bytes)))
