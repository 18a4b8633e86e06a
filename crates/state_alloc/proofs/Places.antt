-- What is kept of the variables of bound words.
use Rattle.std.proofs.Common.{◌≡◌, ℕ, ◌+◌, ◌^◌, ◌<◌, ◌≤◌, List, ◌++◌, Some, subst, sym, arith, slice_get, All}
use Rattle.std.proofs.lemmas.Option.{slice_get_within, get_or_from_slice_get}
use Rattle.std.proofs.lemmas.List.Elements.{All-append}
use Rattle.std.proofs.lemmas.List.FromFn.{length-range_with_len, get_or-range_with_len}
use Rattle.std.specs.List.{range_with_len}
use Rattle.state_alloc.specs.Layouts.{IsTemporary, IsWordVariable, IsLaidOut}

-- the variable of a bound word was given out, and is no temporary
pub word_variable : (rows : List ℕ) (first_temp temps next k v : ℕ) → IsLaidOut rows first_temp temps next → slice_get rows k ≡ Some v → IsWordVariable first_temp temps next v
word_variable rows first_temp temps next k v laid_out at =
    subst (IsWordVariable first_temp temps next) (get_or_from_slice_get rows k v v at) (laid_out.words k v (slice_get_within rows k v at))

-- what holds of each variable from `first` on, so many
pub all_variables : (P : ℕ → Type 0) (first width : ℕ) → ((v : ℕ) → first ≤ v → v < first + width → P v) → All P (range_with_len first width)
all_variables P first width each k d h =
    let short : k < width = omega (arith, length-range_with_len first width) in
    subst P (sym (get_or-range_with_len first width k d short)) (each (first + k) (omega arith) (omega arith))

-- variables that were given out stay so
pub still_given_out : (rows : List ℕ) (first_temp temps next more : ℕ) → next ≤ more → All (IsWordVariable first_temp temps next) rows → All (IsWordVariable first_temp temps more) rows
still_given_out rows first_temp temps next more h words k d within =
    let word = words k d within in record { below = omega (arith, word.below); apart = word.apart }

-- the words stand apart from the temporaries also after a bind
pub bound_words : (rows : List ℕ) (first_temp temps next width : ℕ) → next + width < 2 ^ 32 → IsLaidOut rows first_temp temps next → IsLaidOut (rows ++ range_with_len next width) first_temp temps (next + width)
bound_words rows first_temp temps next width few laid_out = record {
  few = few;
  temporaries = omega (arith, laid_out.temporaries);
  words = All-append (IsWordVariable first_temp temps (next + width)) rows (range_with_len next width)
      (still_given_out rows first_temp temps next (next + width) (omega arith) laid_out.words)
      (all_variables (IsWordVariable first_temp temps (next + width)) next width
      (λ v low high. record { below = high; apart = λ temporary. omega (arith, temporary.1, laid_out.temporaries) }));
}

-- no bound word stands in a temporary
pub no_word_temporary : (rows : List ℕ) (first_temp temps next : ℕ) → IsLaidOut rows first_temp temps next → All (λ v. ¬ IsTemporary first_temp temps v) rows
no_word_temporary rows first_temp temps next laid_out k d within = (laid_out.words k d within).apart
