-- The value of an item is a word, and so is each value that a file holds.
use Rattle.std.proofs.Common.{◌≡◌, ℕ, ◌-◌, ◌^◌, ◌≤◌, nat_le, Bool, true, false, if◌then◌else◌, List, [], ◌∷◌, All, Ok, Err, refl, subst, arith}
use Rattle.std.proofs.lemmas.Bool.{leb-true}
use Rattle.std.proofs.lemmas.List.Elements.{All-cons, All-nil}
use Rattle.std.proofs.lemmas.Nat.{mod_below}
use Rattle.strm_num.specs.Magnitudes.{with_sign}
use Rattle.strm_num.specs.Words.{IsWord}
use Rattle.value_files.specs.Files.{Passes}
use Rattle.value_files.specs.Numbers.{are_digits, digits_of, has_sign, number_of, most_of, word_or_range, value_of}
use Rattle.value_files.specs.declared.fault.ItemFault.TheVariants as item_fault

-- a number within the range of its sign has a word
signed_word : (negative : Bool) (n : ℕ) → n ≤ most_of negative → IsWord (with_sign negative n)
signed_word true n le = mod_below (2 ^ 64 - n) (2 ^ 64) (omega arith)
signed_word false n le = omega arith

word_within : (negative : Bool) (n w : ℕ) (within : Bool) → nat_le n (most_of negative) ≡ within → if within then Ok (with_sign negative n) else Err item_fault.Range ≡ Ok w → IsWord w
word_within negative n w true is h = let e : with_sign negative n ≡ w = cc in subst IsWord e (signed_word negative n (leb-true n (most_of negative) is))
word_within negative n w false is h = absurd cc

-- so has an item, by its digits and its sign
word_of_digits : (digits negative : Bool) (n w : ℕ) → if digits then word_or_range negative n else Err item_fault.Bad ≡ Ok w → IsWord w
word_of_digits true negative n w h = word_within negative n w (nat_le n (most_of negative)) refl h
word_of_digits false negative n w h = absurd cc

pub value_word : (item : List ℕ) (w : ℕ) → value_of item ≡ Ok w → IsWord w
value_word item w h = word_of_digits (are_digits (digits_of item)) (has_sign item) (number_of (digits_of item)) w h

-- each value that the bytes begin with is a word
pub passed_words : (bytes words end : List ℕ) → Passes bytes words end → All IsWord words
passed_words bytes [] end h = All-nil IsWord
passed_words bytes (w ∷ words) end h = All-cons IsWord w words (value_word h.item w h.value) (passed_words h.rest words end h.goes_on)
