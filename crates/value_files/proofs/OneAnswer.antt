-- Bytes have one answer: they are items in one way, as far as items are words and a file may have them.
use Rattle.std.proofs.Common.{◌≡◌, ◌≢◌, ℕ, ◌+◌, ◌<◌, ◌≤◌, ◌⊎◌, List, [], ◌∷◌, ◌++◌, length, drop, Result, Ok, Err, refl, sym, ap, subst, ◌∙◌, arith, inl, inr}
use Rattle.std.proofs.lemmas.List.{length-drop, length-append}
use Rattle.value_files.specs.Numbers.{value_of}
use Rattle.value_files.specs.Items.{IsItem, IsBlank}
use Rattle.value_files.specs.Steps.{placed, answer_at}
use Rattle.value_files.specs.Files.{Passes, Answer, ReadsAs, IsSameUnlessRefused}
use Rattle.pipe_limits.specs.declared.TheConstants.{MOST_ITEMS}
use Rattle.value_files.specs.declared.fault.ItemFault.{ItemFault}
use Rattle.value_files.specs.declared.fault.ValueFault.{ValueFault}
use Rattle.value_files.specs.declared.fault.ValueFault.TheVariants as fault
use Rattle.value_files.proofs.ItemRuns.{one_item, no_item}
use Rattle.value_files.proofs.PlacedAnswers.{answer_within, answer_beyond}

-- behind so many items no word is read
abbrev pub IsEnd : ℕ → List ℕ → Type 0
IsEnd behind left = (word : ℕ) (item rest : List ℕ) → IsItem left item rest → value_of item ≡ Ok word → behind < MOST_ITEMS → ⊥

pub blank_is_end : (behind : ℕ) (left : List ℕ) → IsBlank left → IsEnd behind left
blank_is_end behind left blank word item rest is value lt = no_item left item rest blank is

-- nor where an item stands that has a fault
pub fault_is_end : (behind : ℕ) (left item rest : List ℕ) (place : ℕ) (e : ValueFault) → IsItem left item rest → answer_at behind item place ≡ Err e → IsEnd behind left
fault_is_end behind left item rest place e is answer word other more is_other value lt =
    let same = one_item left item rest other more is is_other in
    let good : answer_at behind other place ≡ Ok word = answer_within behind other place lt ∙ ap (placed place) value in
    let clash : Err e ≡ Ok word = sym answer ∙ ap (λ (xs : List ℕ). answer_at behind xs place) same.items ∙ good in
    absurd cc

same_word : (r : Result ℕ ItemFault) (a b : ℕ) → r ≡ Ok a → r ≡ Ok b → a ≡ b
same_word r a b e f = cc

same_fault : (r : Result ℕ ValueFault) (e d : ValueFault) → r ≡ Err e → r ≡ Err d → e ≡ d
same_fault r e d f g = cc

-- bytes are items in one way
same_words : (behind n m : ℕ) (bytes ws vs r s : List ℕ) → n ≡ behind + length ws → m ≡ behind + length vs → Passes bytes ws r → Passes bytes vs s → IsEnd n r → IsEnd m s → n ≤ MOST_ITEMS → m ≤ MOST_ITEMS → (ws ≡ vs) × (r ≡ s)
same_words behind n m bytes [] [] r s en em f g end_r end_s most_n most_m = (refl, sym f ∙ g)
same_words behind n m bytes [] (v ∷ vs) r s en em f g end_r end_s most_n most_m =
    absurd (end_r v g.item g.rest (subst (λ (xs : List ℕ). IsItem xs g.item g.rest) f g.is_item) g.value (omega arith))
same_words behind n m bytes (w ∷ ws) [] r s en em f g end_r end_s most_n most_m =
    absurd (end_s w f.item f.rest (subst (λ (xs : List ℕ). IsItem xs f.item f.rest) g f.is_item) f.value (omega arith))
same_words behind n m bytes (w ∷ ws) (v ∷ vs) r s en em f g end_r end_s most_n most_m =
    let first = one_item bytes f.item f.rest g.item g.rest f.is_item g.is_item in
    let word : w ≡ v = same_word (value_of g.item) w v (ap value_of (sym first.items) ∙ f.value) g.value in
    let later = same_words (behind + 1) n m g.rest ws vs r s (omega arith) (omega arith) (subst (λ (xs : List ℕ). Passes xs ws r) first.rests f.goes_on) g.goes_on end_r end_s most_n most_m in
    (both word later.0, later.1)
  where
    both : w ≡ v → ws ≡ vs → (w ∷ ws) ≡ (v ∷ vs)
    both e h = cc

-- how the reading of bytes ends behind words: at their end, or at an item with a fault
record EndsAt (bytes words left : List ℕ) (e : ValueFault) : Type 0 where
  pub item : List ℕ
  pub rest : List ℕ
  pub place : ℕ
  pub is_item : IsItem left item rest
  pub place_is : drop place bytes ≡ item ++ rest
  pub answer : answer_at (length words) item place ≡ Err e

abbrev Ends : List ℕ → List ℕ → List ℕ → Answer → Type 0
Ends bytes words left (Ok found) = (found ≡ words) × IsBlank left
Ends bytes words left (Err e) = EndsAt bytes words left e

-- bytes are read to an end
record IsRead (bytes : List ℕ) (a : Answer) : Type 0 where
  pub words : List ℕ
  pub left : List ℕ
  pub passes : Passes bytes words left
  pub few : length words ≤ MOST_ITEMS
  pub is_end : IsEnd (length words) left
  pub ends : Ends bytes words left a

at_fault : (bytes words left item rest : List ℕ) (place : ℕ) (e : ValueFault) → Passes bytes words left → IsItem left item rest → drop place bytes ≡ item ++ rest → length words ≤ MOST_ITEMS → answer_at (length words) item place ≡ Err e → IsRead bytes (Err e)
at_fault bytes words left item rest place e passes is place_is few answer = record {
  words = words;
  left = left;
  passes = passes;
  few = few;
  is_end = fault_is_end (length words) left item rest place e is answer;
  ends = record { item = item; rest = rest; place = place; is_item = is; place_is = place_is; answer = answer };
}

is_read : (bytes : List ℕ) (a : Answer) → a ≢ Err fault.NoMemory → ReadsAs bytes a → IsRead bytes a
is_read bytes (Ok words) given h = record {
  words = words;
  left = h.rest;
  passes = h.passes;
  few = h.few;
  is_end = blank_is_end (length words) h.rest h.blank;
  ends = (refl, h.blank);
}
is_read bytes (Err (fault.Bad place)) given h =
    let lt = h.stops.0 in
    at_fault bytes h.words h.left h.item h.rest place (fault.Bad place) h.passes h.is_item h.place_is (omega arith) (answer_within (length h.words) h.item place lt ∙ ap (placed place) h.stops.1)
is_read bytes (Err (fault.Range place)) given h =
    let lt = h.stops.0 in
    at_fault bytes h.words h.left h.item h.rest place (fault.Range place) h.passes h.is_item h.place_is (omega arith) (answer_within (length h.words) h.item place lt ∙ ap (placed place) h.stops.1)
is_read bytes (Err (fault.TooMany place)) given h =
    let full = h.stops in
    at_fault bytes h.words h.left h.item h.rest place (fault.TooMany place) h.passes h.is_item h.place_is (omega arith) (answer_beyond (length h.words) h.item place (omega arith))
is_read bytes (Err fault.NoMemory) given h = absurd (given refl)

-- an item that bytes have behind two places has one place
one_place : (bytes : List ℕ) (p q : ℕ) (item rest other more : List ℕ) → drop p bytes ≡ item ++ rest → drop q bytes ≡ other ++ more → item ≡ other → rest ≡ more → item ≢ [] → p ≡ q
one_place bytes p q [] rest other more e f same rests some = absurd (some refl)
one_place bytes p q (c ∷ item) rest other more e f same rests some =
    let left : drop p bytes ≡ drop q bytes = e ∙ ap (λ (xs : List ℕ). xs ++ rest) same ∙ ap (λ (xs : List ℕ). other ++ xs) rests ∙ sym f in
    let lengths = ap length left in
    let length_p = length-drop p bytes in
    let length_q = length-drop q bytes in
    let some_left = ap length e ∙ length-append (c ∷ item) rest in
    omega arith

one_end : (bytes words left : List ℕ) (a b : Answer) → Ends bytes words left a → Ends bytes words left b → a ≡ b
one_end bytes words left (Ok found) (Ok other) f g = ap Ok (f.0 ∙ sym g.0)
one_end bytes words left (Ok found) (Err e) f g = absurd (no_item left g.item g.rest f.1 g.is_item)
one_end bytes words left (Err e) (Ok found) f g = absurd (no_item left f.item f.rest g.1 f.is_item)
one_end bytes words left (Err e) (Err d) f g =
    let same = one_item left f.item f.rest g.item g.rest f.is_item g.is_item in
    let place = one_place bytes f.place g.place f.item f.rest g.item g.rest f.place_is g.place_is same.items same.rests f.is_item.some in
    let answer : answer_at (length words) g.item g.place ≡ Err e =
    ap (answer_at (length words) g.item) (sym place) ∙ ap (λ (xs : List ℕ). answer_at (length words) xs f.place) (sym same.items) ∙ f.answer in
    ap Err (same_fault (answer_at (length words) g.item g.place) e d answer g.answer)

one_reading : (bytes : List ℕ) (a b : Answer) → IsRead bytes a → IsRead bytes b → a ≡ b
one_reading bytes a b f g =
    let same = same_words 0 (length f.words) (length g.words) bytes f.words g.words f.left g.left (omega arith) (omega arith) f.passes g.passes f.is_end g.is_end f.few g.few in
    one_end bytes g.words g.left a b (subst (λ (xs : List ℕ). Ends bytes g.words xs a) same.1 (subst (λ (xs : List ℕ). Ends bytes xs f.left a) same.0 f.ends)) g.ends

-- memory was refused, or not
refused_or_given : (a : Answer) → (a ≡ Err fault.NoMemory) ⊎ (a ≢ Err fault.NoMemory)
refused_or_given (Ok words) = inr (λ h. absurd cc)
refused_or_given (Err (fault.Bad place)) = inr (λ h. absurd cc)
refused_or_given (Err (fault.Range place)) = inr (λ h. absurd cc)
refused_or_given (Err (fault.TooMany place)) = inr (λ h. absurd cc)
refused_or_given (Err fault.NoMemory) = inl refl

refused_right : (a : Answer) → IsSameUnlessRefused a (Err fault.NoMemory)
refused_right (Ok words) = tt
refused_right (Err (fault.Bad place)) = tt
refused_right (Err (fault.Range place)) = tt
refused_right (Err (fault.TooMany place)) = tt
refused_right (Err fault.NoMemory) = tt

same_self : (a : Answer) → IsSameUnlessRefused a a
same_self (Ok words) = refl
same_self (Err (fault.Bad place)) = refl
same_self (Err (fault.Range place)) = refl
same_self (Err (fault.TooMany place)) = refl
same_self (Err fault.NoMemory) = tt

pub one_answer : (bytes : List ℕ) (a b : Answer) → ReadsAs bytes a → ReadsAs bytes b → IsSameUnlessRefused a b
one_answer bytes a b f g = by_refusal (refused_or_given a) (refused_or_given b)
  where
    by_refusal : (a ≡ Err fault.NoMemory) ⊎ (a ≢ Err fault.NoMemory) → (b ≡ Err fault.NoMemory) ⊎ (b ≢ Err fault.NoMemory) → IsSameUnlessRefused a b
    by_refusal (inl refused) other = subst (λ (x : Answer). IsSameUnlessRefused x b) (sym refused) tt
    by_refusal (inr given) (inl refused) = subst (IsSameUnlessRefused a) (sym refused) (refused_right a)
    by_refusal (inr given) (inr also) = subst (IsSameUnlessRefused a) (one_reading bytes a b (is_read bytes a given f) (is_read bytes b also g)) (same_self a)
