-- Going past items: one item more, and the answers that the bytes passed so far lead to.
use Rattle.std.proofs.Common.{◌≡◌, ℕ, ◌+◌, ◌-◌, ◌<◌, ◌≤◌, List, [], ◌∷◌, ◌++◌, length, take, drop, Ok, Err, refl, sym, ap, subst, ◌∙◌, arith}
use Rattle.std.specs.List.{prefix_len}
use Rattle.std.proofs.lemmas.List.{take-append-drop, drop-drop, drop_all, length-drop, length-append, take_rest}
use Rattle.value_files.specs.Bytes.{is_blank, is_inner}
use Rattle.value_files.specs.Numbers.{value_of}
use Rattle.value_files.specs.Items.{IsItem}
use Rattle.value_files.specs.Steps.{answer_at}
use Rattle.value_files.specs.Files.{Passes, HoldsValues, ReadsAs}
use Rattle.pipe_limits.specs.declared.TheConstants.{MOST_ITEMS}
use Rattle.value_files.specs.declared.fault.ValueFault.{ValueFault}
use Rattle.value_files.proofs.ItemRuns.{item_at_prefix, blank_at_prefix}
use Rattle.value_files.proofs.PlacedAnswers.{taken, fault_reads}

-- one item more
pub passes_more : (bytes words left : List ℕ) (item rest : List ℕ) (word : ℕ) → Passes bytes words left → IsItem left item rest → value_of item ≡ Ok word → Passes bytes (words ++ word ∷ []) rest
passes_more bytes [] left item rest word h is value =
    record { item = item; rest = rest; is_item = subst (λ (xs : List ℕ). IsItem xs item rest) (sym h) is; value = value; goes_on = refl }
passes_more bytes (w ∷ words) left item rest word h is value =
    record { item = h.item; rest = h.rest; is_item = h.is_item; value = h.value; goes_on = passes_more h.rest words left item rest word h.goes_on is value }

-- the words found so far are those of the items before a place, and the blanks behind these are passed too
pub record HasPassed (bytes : List ℕ) (from : ℕ) (found : List ℕ) : Type 0 where
  pub left : List ℕ
  pub passes : Passes bytes found left
  pub skipped : drop from bytes ≡ drop (prefix_len is_blank left) left
  pub few : length found ≤ MOST_ITEMS

pub passed_none : (bytes found : List ℕ) (from : ℕ) → found ≡ [] → from ≡ prefix_len is_blank bytes → HasPassed bytes from found
passed_none bytes found from none is = record {
  left = bytes;
  passes = subst (λ (ws : List ℕ). Passes bytes ws bytes) (sym none) refl;
  skipped = ap (λ (n : ℕ). drop n bytes) is;
  few = let len = ap length none in omega arith;
}

-- behind these words, at this place, stands an item with a rest behind it
pub record IsBehind (bytes found item rest : List ℕ) (place : ℕ) : Type 0 where
  pub left : List ℕ
  pub passes : Passes bytes found left
  pub is_item : IsItem left item rest
  pub place_is : drop place bytes ≡ item ++ rest
  pub few : length found ≤ MOST_ITEMS

-- the item that a slice from the place to its end is
pub item_here : (bytes found item : List ℕ) (from end : ℕ) → HasPassed bytes from found → from < length bytes → end ≡ from + prefix_len is_inner (take (length bytes - from) (drop from bytes)) → item ≡ take (end - from) (drop from bytes) → IsBehind bytes found item (drop end bytes) from
item_here bytes found item from end h within end_is item_is =
    let behind = drop from bytes in
    let len = prefix_len is_inner behind in
    let past : end ≡ from + len = end_is ∙ ap (λ (xs : List ℕ). from + prefix_len is_inner xs) (take_rest bytes from) in
    let length_left = length-drop from bytes in
    let skipped = h.skipped in
    let some : 0 < length (drop (prefix_len is_blank h.left) h.left) = let same = ap length skipped in omega arith in
    let there = item_at_prefix h.left some in
    let moved : IsItem h.left (take len behind) (drop len behind) =
    subst (λ (xs : List ℕ). IsItem h.left (take (prefix_len is_inner xs) xs) (drop (prefix_len is_inner xs) xs)) (sym skipped) there in
    let text : take len behind ≡ item = ap (λ (n : ℕ). take n behind) (omega arith) ∙ sym item_is in
    let rest : drop len behind ≡ drop end bytes = drop-drop len from bytes ∙ ap (λ (n : ℕ). drop n bytes) (sym past) in
    record {
      left = h.left;
      passes = h.passes;
      is_item = subst (λ (xs : List ℕ). IsItem h.left xs (drop end bytes)) text (subst (IsItem h.left (take len behind)) rest moved);
      place_is = sym (take-append-drop len behind) ∙ ap (λ (xs : List ℕ). xs ++ drop len behind) text ∙ ap (λ (xs : List ℕ). item ++ xs) rest;
      few = h.few;
    }

-- an item that is a word, and the blanks behind it
pub passed_more : (bytes found item more : List ℕ) (from end next count word : ℕ) → IsBehind bytes found item (drop end bytes) from → count ≡ length found → Ok word ≡ answer_at count item from → more ≡ found ++ word ∷ [] → next ≡ end + prefix_len is_blank (take (length bytes - end) (drop end bytes)) → HasPassed bytes next more
passed_more bytes found item more from end next count word h number is added next_is =
    let good = taken (length found) item from word (sym (is ∙ ap (λ (n : ℕ). answer_at n item from) number)) in
    let rest = drop end bytes in
    let past : next ≡ end + prefix_len is_blank rest = next_is ∙ ap (λ (xs : List ℕ). end + prefix_len is_blank xs) (take_rest bytes end) in
    record {
      left = rest;
      passes = subst (λ (ws : List ℕ). Passes bytes ws rest) (sym added) (passes_more bytes found h.left item rest word h.passes h.is_item good.1);
      skipped = ap (λ (n : ℕ). drop n bytes) past ∙ sym (drop-drop (prefix_len is_blank rest) end bytes);
      few = let lt = good.0 in let len = ap length added ∙ length-append found (word ∷ []) in omega arith;
    }

-- what a slice from a place to the end has is within the bytes
pub slice_within : (bytes : List ℕ) (from len : ℕ) → from ≤ length bytes → len ≤ length (take (length bytes - from) (drop from bytes)) → from + len ≤ length bytes
slice_within bytes from len within fits =
    let left = ap length (take_rest bytes from) ∙ length-drop from bytes in omega arith

-- an item that is none
pub passed_fault : (bytes found item rest : List ℕ) (place count : ℕ) (e : ValueFault) → IsBehind bytes found item rest place → count ≡ length found → Err e ≡ answer_at count item place → ReadsAs bytes (Err e)
passed_fault bytes found item rest place count e h number is =
    fault_reads bytes found h.left item rest place e h.passes h.is_item h.place_is h.few (sym (is ∙ ap (λ (n : ℕ). answer_at n item place) number))

-- where no byte is left, the words are those of the whole
pub passed_all : (bytes found : List ℕ) (from : ℕ) → HasPassed bytes from found → length bytes ≤ from → HoldsValues bytes found
passed_all bytes found from h end = record {
  rest = h.left;
  passes = h.passes;
  blank = blank_at_prefix h.left (sym h.skipped ∙ drop_all from bytes end);
  few = h.few;
}
