-- The answer to an item at its place, behind so many others.
use Rattle.std.proofs.Common.{◌≡◌, ℕ, ◌<◌, ◌≤◌, List, ◌++◌, length, drop, Bool, true, false, Result, Ok, Err, refl, ap, subst, ◌∙◌, arith}
use Rattle.std.specs.Prelude.{nat_lt, if◌then◌else◌}
use Rattle.std.proofs.lemmas.Bool.Decides.{nat_tests}
use Rattle.value_files.specs.Numbers.{value_of}
use Rattle.value_files.specs.Items.{IsItem}
use Rattle.value_files.specs.Files.{Passes, StopsAt, IsBad, IsOutOfRange, IsOneTooMany, ReadsAs}
use Rattle.value_files.specs.Steps.{placed, answer_at}
use Rattle.pipe_limits.specs.declared.TheConstants.{MOST_ITEMS}
use Rattle.value_files.specs.declared.fault.ItemFault.{ItemFault}
use Rattle.value_files.specs.declared.fault.ItemFault.TheVariants as item_fault
use Rattle.value_files.specs.declared.fault.ValueFault.{ValueFault}
use Rattle.value_files.specs.declared.fault.ValueFault.TheVariants as fault

-- one of the items that a file may have is answered by its value
pub answer_within : (behind : ℕ) (item : List ℕ) (place : ℕ) → behind < MOST_ITEMS → answer_at behind item place ≡ placed place (value_of item)
answer_within behind item place lt = grind (arith, nat_tests)

pub answer_beyond : (behind : ℕ) (item : List ℕ) (place : ℕ) → MOST_ITEMS ≤ behind → answer_at behind item place ≡ Err (fault.TooMany place)
answer_beyond behind item place le = grind (arith, nat_tests)

-- the word of an item is a word's, and the file may have the item
pub taken : (behind : ℕ) (item : List ℕ) (place word : ℕ) → answer_at behind item place ≡ Ok word → (behind < MOST_ITEMS) × (value_of item ≡ Ok word)
taken behind item place word is = by_test (nat_lt behind MOST_ITEMS) refl (value_of item) refl is
  where
    by_value : (r : Result ℕ ItemFault) → placed place r ≡ Ok word → r ≡ Ok word
    by_value (Ok w) e = let same : w ≡ word = cc in ap Ok same
    by_value (Err item_fault.Bad) e = absurd cc
    by_value (Err item_fault.Range) e = absurd cc

    by_test : (b : Bool) → nat_lt behind MOST_ITEMS ≡ b → (r : Result ℕ ItemFault) → value_of item ≡ r → (if b then placed place r else Err (fault.TooMany place)) ≡ Ok word → (behind < MOST_ITEMS) × (value_of item ≡ Ok word)
    by_test true lt r value e = (grind (arith, nat_tests), value ∙ by_value r e)
    by_test false lt r value e = absurd cc

-- what a fault says of the item that is answered with it
abbrev pub IsFaultOf : ℕ → List ℕ → ℕ → ValueFault → Type 0
IsFaultOf behind item place (fault.Bad at) = (at ≡ place) × IsBad behind item
IsFaultOf behind item place (fault.Range at) = (at ≡ place) × IsOutOfRange behind item
IsFaultOf behind item place (fault.TooMany at) = (at ≡ place) × (MOST_ITEMS ≤ behind)
IsFaultOf behind item place fault.NoMemory = ⊥

fault_is : (behind : ℕ) (item : List ℕ) (place : ℕ) (e : ValueFault) → answer_at behind item place ≡ Err e → IsFaultOf behind item place e
fault_is behind item place e is = by_test (nat_lt behind MOST_ITEMS) refl (value_of item) refl is
  where
    by_value : (r : Result ℕ ItemFault) → value_of item ≡ r → behind < MOST_ITEMS → placed place r ≡ Err e → IsFaultOf behind item place e
    by_value (Ok w) value lt h = absurd cc
    by_value (Err item_fault.Bad) value lt h = let same : fault.Bad place ≡ e = cc in subst (IsFaultOf behind item place) same (refl, (lt, value))
    by_value (Err item_fault.Range) value lt h = let same : fault.Range place ≡ e = cc in subst (IsFaultOf behind item place) same (refl, (lt, value))

    by_test : (b : Bool) → nat_lt behind MOST_ITEMS ≡ b → (r : Result ℕ ItemFault) → value_of item ≡ r → (if b then placed place r else Err (fault.TooMany place)) ≡ Err e → IsFaultOf behind item place e
    by_test true lt r value h = by_value r value (grind (arith, nat_tests)) h
    by_test false lt r value h =
        let same : fault.TooMany place ≡ e = cc in
        let le : MOST_ITEMS ≤ behind = grind (arith, nat_tests) in
        subst (IsFaultOf behind item place) same (refl, le)

-- the file is answered with the fault of its first item that has one
pub fault_reads : (bytes words left item rest : List ℕ) (place : ℕ) (e : ValueFault) → Passes bytes words left → IsItem left item rest → drop place bytes ≡ item ++ rest → length words ≤ MOST_ITEMS → answer_at (length words) item place ≡ Err e → ReadsAs bytes (Err e)
fault_reads bytes words left item rest place e passes is_item place_is few is = by_fault e (fault_is (length words) item place e is)
  where
    stops : (at : ℕ) (holds : ℕ → List ℕ → Type 0) → at ≡ place → holds (length words) item → StopsAt bytes at holds
    stops at holds same h = record {
      words = words;
      left = left;
      item = item;
      rest = rest;
      passes = passes;
      is_item = is_item;
      place_is = ap (λ (n : ℕ). drop n bytes) same ∙ place_is;
      stops = h;
    }

    by_fault : (e : ValueFault) → IsFaultOf (length words) item place e → ReadsAs bytes (Err e)
    by_fault (fault.Bad at) h = stops at IsBad h.0 h.1
    by_fault (fault.Range at) h = stops at IsOutOfRange h.0 h.1
    by_fault (fault.TooMany at) h = stops at IsOneTooMany h.0 (let le = h.1 in omega arith)
    by_fault fault.NoMemory h = absurd h

pub not_refused : (behind : ℕ) (item : List ℕ) (place : ℕ) (e : ValueFault) → answer_at behind item place ≡ Err e → e ≡ fault.NoMemory → ⊥
not_refused behind item place e is refused =
    fault_is behind item place fault.NoMemory (is ∙ ap Err refused)
