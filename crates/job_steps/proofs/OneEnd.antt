-- Steps that come to one thing, and that a step and the next come to one thing where each does.
use Rattle.std.proofs.Common.{◌≡◌, ◌≢◌, ◌⊎◌, inl, inr, Result, Ok, Err, sym, ap, ◌∙◌, subst}
use Rattle.status_lines.specs.declared.statuses.Status.{Status}
use Rattle.status_lines.specs.declared.statuses.Status.TheVariants.{ReadFault}
use Rattle.job_steps.specs.Steps.{Is, Then}

-- a file wasn't read
abbrev pub IsReadFault : Status → Type 0
IsReadFault (ReadFault name) = Unit {0}
IsReadFault status = ⊥

-- the step fails since a file wasn't read
abbrev pub IsUnread : {A : Type 0} → Result A Status → Type 0
IsUnread (Ok a) = ⊥
IsUnread (Err status) = IsReadFault status

-- the two are one, or one is that a file wasn't read
abbrev pub AreOneOrUnread : {A : Type 0} → Result A Status → Result A Status → Type 0
AreOneOrUnread a b = (a ≡ b) ⊎ (IsUnread a ⊎ IsUnread b)

-- but for files that aren't read, one thing at most comes of the step
abbrev pub ComesToOne : {A : Type 0} → (Result A Status → Type 0) → Type 0
ComesToOne {A} step = (a b : Result A Status) → step a → step b → AreOneOrUnread a b

-- what is read each time is one
pub same_ends : {A : Type 0} (a b : Result A Status) → AreOneOrUnread a b → (IsUnread a → ⊥) → (IsUnread b → ⊥) → a ≡ b
same_ends a b (inl e) read others = e
same_ends a b (inr (inl u)) read others = absurd (read u)
same_ends a b (inr (inr u)) read others = absurd (others u)

-- ---- steps that are gone through in order

module _ (A B : Type 0) where
  -- where the first step fails in both, or in one alone, so do the two steps together
  failed_alike : (s t : Status) → AreOneOrUnread {A = A} (Err s) (Err t) → AreOneOrUnread {A = B} (Err s) (Err t)
  failed_alike s t (inl e) = inl cc
  failed_alike s t (inr u) = inr u

  failed_first : (s : Status) (x : A) (b : Result B Status) → AreOneOrUnread {A = A} (Err s) (Ok x) → AreOneOrUnread {A = B} (Err s) b
  failed_first s x b (inl e) = absurd cc
  failed_first s x b (inr (inl u)) = inr (inl u)
  failed_first s x b (inr (inr u)) = absurd u

  failed_second : (x : A) (a : Result B Status) (t : Status) → AreOneOrUnread {A = A} (Ok x) (Err t) → AreOneOrUnread {A = B} a (Err t)
  failed_second x a t (inl e) = absurd cc
  failed_second x a t (inr (inl u)) = absurd u
  failed_second x a t (inr (inr u)) = inr (inr u)

  -- a step and the next come to one thing where each does
  pub then_one : (first : Result A Status → Type 0) (next : A → Result B Status → Type 0) → ComesToOne first → ((x : A) → ComesToOne (next x)) → ComesToOne (Then first next)
  then_one first next one others (Err s) (Err t) (inl h) (inl k) = failed_alike s t (one (Err s) (Err t) h k)
  then_one first next one others (Err s) b (inl h) (inr k) = failed_first s k.0 b (one (Err s) (Ok k.0) h k.1.0)
  then_one first next one others a (Err t) (inr h) (inl k) = failed_second h.0 a t (one (Ok h.0) (Err t) h.1.0 k)
  then_one first next one others (Ok a) b (inl h) k = absurd h
  then_one first next one others a (Ok b) h (inl k) = absurd k
  then_one first next one others a b (inr h) (inr k) =
      let e = same_ends (Ok h.0) (Ok k.0) (one (Ok h.0) (Ok k.0) h.1.0 k.1.0) (λ u. u) (λ u. u) in
      let same : h.0 ≡ k.0 = cc in
      others k.0 a b (subst (λ x. next x a) same h.1.1) k.1.1

-- ---- single steps

module _ {A : Type 0} (step : Result A Status → Type 0) where
  -- but for files that aren't read, nothing else than this comes of the step
  pub one_by : (end : Result A Status) → ((a : Result A Status) → step a → (a ≡ end) ⊎ IsUnread a) → ComesToOne step
  one_by end only a b h k = by_both (only a h) (only b k) where
    by_both : (a ≡ end) ⊎ IsUnread a → (b ≡ end) ⊎ IsUnread b → AreOneOrUnread a b
    by_both (inl e) (inl f) = inl (e ∙ sym f)
    by_both (inr u) g = inr (inl u)
    by_both (inl e) (inr u) = inr (inr u)

pub is_one : {A : Type 0} (given : Result A Status) → ComesToOne (Is given)
is_one given a b h k = inl (h ∙ sym k)

-- ---- steps of a reader that has one answer, unless memory is refused

-- the step ends as the reader's answer says, which is no refusal of memory
pub record IsAnswered {X A : Type 0} (Reads : X → Type 0) (refused : X) (shown : X → Result A Status) (end : Result A Status) : Type 0 where
  pub answer : X
  pub reads : Reads answer
  pub some : answer ≢ refused
  pub is : end ≡ shown answer

pub answered_one : {X A : Type 0} (Reads : X → Type 0) (refused : X) (shown : X → Result A Status) (step : Result A Status → Type 0)
    → ((a b : X) → Reads a → Reads b → a ≢ refused → b ≢ refused → a ≡ b)
    → ((end : Result A Status) → step end → IsAnswered Reads refused shown end)
    → ComesToOne step
answered_one Reads refused shown step one answered a b h k =
    let f = answered a h in
    let g = answered b k in
    inl (f.is ∙ ap shown (one f.answer g.answer f.reads g.reads f.some g.some) ∙ sym g.is)
