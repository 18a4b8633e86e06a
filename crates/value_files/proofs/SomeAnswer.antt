-- Bytes have an answer: they are items as far as these are words and a file may have them, and what is left has a fault or is blank.
use Rattle.std.proofs.Common.{◌≡◌, ◌≢◌, ℕ, zero, suc, ◌+◌, ◌<◌, ◌≤◌, ◌⊎◌, List, [], ◌∷◌, ◌++◌, length, drop, Result, Ok, Err, refl, sym, ap, subst, ◌∙◌, arith, inl, inr}
use Rattle.std.proofs.Math.Seq.{drop-append_seam, drop-append-add}
use Rattle.std.proofs.lemmas.List.{append_assoc, length-append, drop-drop}
use Rattle.value_files.specs.Items.{IsItem, IsBlank}
use Rattle.value_files.specs.Steps.{answer_at}
use Rattle.value_files.specs.Files.{Passes, Answer, ReadsAs}
use Rattle.pipe_limits.specs.declared.TheConstants.{MOST_ITEMS}
use Rattle.value_files.specs.declared.fault.ValueFault.{ValueFault}
use Rattle.value_files.specs.declared.fault.ValueFault.TheVariants as fault
use Rattle.value_files.proofs.ItemRuns.{SomeItem, blank_or_item}
use Rattle.value_files.proofs.PlacedAnswers.{taken, fault_reads, not_refused}
use Rattle.value_files.proofs.OneAnswer.{IsEnd, blank_is_end, fault_is_end}

-- behind so many items, the bytes are items as far as any is read
record IsReadUp (behind : ℕ) (bytes : List ℕ) : Type 0 where
  pub words : List ℕ
  pub left : List ℕ
  pub passes : Passes bytes words left
  pub most : ℕ
  pub most_is : most ≡ behind + length words
  pub few : most ≤ MOST_ITEMS
  pub is_end : IsEnd most left

goes_nowhere : (behind : ℕ) (bytes : List ℕ) → behind ≤ MOST_ITEMS → IsEnd behind bytes → IsReadUp behind bytes
goes_nowhere behind bytes few end = record { words = []; left = bytes; passes = refl; most = behind; most_is = omega arith; few = few; is_end = end }

-- an item is longer than nothing
shorter : (bytes item rest : List ℕ) → IsItem bytes item rest → length rest < length bytes
shorter bytes [] rest is = absurd (is.some refl)
shorter bytes (c ∷ item) rest is =
    let whole = ap length is.split ∙ length-append is.blanks ((c ∷ item) ++ rest) in
    let behind = length-append (c ∷ item) rest in
    omega arith

-- an item at the start, before any shorter rest that is read up
by_answer : (size behind : ℕ) (bytes item rest : List ℕ) → length bytes ≤ suc size → behind ≤ MOST_ITEMS
    → ((left : List ℕ) → length left ≤ size → behind + 1 ≤ MOST_ITEMS → IsReadUp (behind + 1) left)
    → IsItem bytes item rest → (r : Result ℕ ValueFault) → answer_at behind item 0 ≡ r → IsReadUp behind bytes
by_answer size behind bytes item rest within few more is (Err e) answer = goes_nowhere behind bytes few (fault_is_end behind bytes item rest 0 e is answer)
by_answer size behind bytes item rest within few more is (Ok word) answer =
    let good = taken behind item 0 word answer in
    let lt = good.0 in
    let less = shorter bytes item rest is in
    let later = more rest (omega arith) (omega arith) in
    let most_is = later.most_is in
    record {
      words = word ∷ later.words;
      left = later.left;
      passes = record { item = item; rest = rest; is_item = is; value = good.1; goes_on = later.passes };
      most = later.most;
      most_is = omega arith;
      few = later.few;
      is_end = later.is_end;
    }

by_item : (size behind : ℕ) (bytes : List ℕ) → length bytes ≤ suc size → behind ≤ MOST_ITEMS
    → ((left : List ℕ) → length left ≤ size → behind + 1 ≤ MOST_ITEMS → IsReadUp (behind + 1) left)
    → IsBlank bytes ⊎ SomeItem bytes → IsReadUp behind bytes
by_item size behind bytes within few more (inl blank) = goes_nowhere behind bytes few (blank_is_end behind bytes blank)
by_item size behind bytes within few more (inr some) =
    by_answer size behind bytes some.item some.rest within few more some.is_item (answer_at behind some.item 0) refl

read_up : (size behind : ℕ) (bytes : List ℕ) → length bytes ≤ size → behind ≤ MOST_ITEMS → IsReadUp behind bytes
read_up zero behind bytes within few = goes_nowhere behind bytes few (λ word item rest is value lt. let less = shorter bytes item rest is in absurd (omega arith))
read_up (suc size) behind bytes within few =
    by_item size behind bytes within few (λ left less room. read_up size (behind + 1) left less room) (blank_or_item bytes)

-- what is left behind items stands at a place
some_place : (bytes words left : List ℕ) → Passes bytes words left → (place : ℕ) × (drop place bytes ≡ left)
some_place bytes [] left h = (0, h)
some_place bytes (w ∷ words) left h =
    let later = some_place h.rest words left h.goes_on in
    let before = h.is_item.blanks ++ h.item in
    let whole : bytes ≡ before ++ h.rest = h.is_item.split ∙ sym (append_assoc h.is_item.blanks h.item h.rest) in
    (length before + later.0, ap (drop (length before + later.0)) whole ∙ drop-append-add before h.rest later.0 ∙ later.1)

-- the answer of bytes whose items have been read up
answer_of : (bytes : List ℕ) → IsReadUp 0 bytes → (a : Answer) × (ReadsAs bytes a × (a ≢ Err fault.NoMemory))
answer_of bytes h = by_item (blank_or_item h.left)
  where
    few : length h.words ≤ MOST_ITEMS
    few = let most_is = h.most_is in let few = h.few in omega arith

    is_end : IsEnd (length h.words) h.left
    is_end = let most_is = h.most_is in let same : h.most ≡ length h.words = omega arith in subst (λ (n : ℕ). IsEnd n h.left) same h.is_end

    by_answer : (place : ℕ) (some : SomeItem h.left) → drop place bytes ≡ some.item ++ some.rest → (r : Result ℕ ValueFault) → answer_at (length h.words) some.item place ≡ r → (a : Answer) × (ReadsAs bytes a × (a ≢ Err fault.NoMemory))
    by_answer place some place_is (Ok word) answer =
        let good = taken (length h.words) some.item place word answer in
        absurd (is_end word some.item some.rest some.is_item good.1 good.0)
    by_answer place some place_is (Err e) answer =
        (Err e, (fault_reads bytes h.words h.left some.item some.rest place e h.passes some.is_item place_is few answer, λ refused. not_refused (length h.words) some.item place e answer (let same : e ≡ fault.NoMemory = cc in same)))

    by_item : IsBlank h.left ⊎ SomeItem h.left → (a : Answer) × (ReadsAs bytes a × (a ≢ Err fault.NoMemory))
    by_item (inl blank) = (Ok h.words, (record { rest = h.left; passes = h.passes; blank = blank; few = few }, λ refused. absurd cc))
    by_item (inr some) =
        let left = some_place bytes h.words h.left h.passes in
        let blanks = some.is_item.blanks in
        let place = left.0 + length blanks in
        let place_is : drop place bytes ≡ some.item ++ some.rest = sym (drop-drop (length blanks) left.0 bytes) ∙ ap (drop (length blanks)) (left.1 ∙ some.is_item.split) ∙ drop-append_seam blanks (some.item ++ some.rest) in
        by_answer place some place_is (answer_at (length h.words) some.item place) refl

pub some_answer : (bytes : List ℕ) → (a : Answer) × (ReadsAs bytes a × (a ≢ Err fault.NoMemory))
some_answer bytes = answer_of bytes (read_up (length bytes) 0 bytes (omega arith) (omega arith))
