-- A check whose value is good, or whose fault is a certain one.
use Rattle.std.proofs.Common.{◌≡◌, Bool, true, false, Ok, Err, MatchResult, refl, subst, ap, ◌∙◌}
use Rattle.kind_rules.specs.declared.fault.TypeFault.{TypeFault}
use Rattle.kind_rules.specs.Checked.{Checked, after, unless}

pub record Answered {A : Type 0} (Good : A → Type 0) (Bad : TypeFault → Type 0) (part : Checked A) : Type 0 where
  pub is : MatchResult part Good Bad

pub answered_after : {A B : Type 0} {G : A → Type 0} {F : TypeFault → Type 0} {H : B → Type 0} {E : TypeFault → Type 0} (part : Checked A) (next : A → Checked B)
    → Answered G F part → ((f : TypeFault) → F f → E f) → ((a : A) → G a → Answered H E (next a)) → Answered H E (after part next)
answered_after (Ok a) next h bad good = good a h.is
answered_after (Err f) next h bad good = record { is = bad f h.is }

pub answered_unless : {A : Type 0} {H : A → Type 0} {E : TypeFault → Type 0} (c : Bool) (f : TypeFault) (next : Checked A)
    → (c ≡ false → E f) → (c ≡ true → Answered H E next) → Answered H E (unless c f next)
answered_unless true f next bad good = good refl
answered_unless false f next bad good = record { is = bad refl }

-- the same, of what follows from both
pub weaker : {A : Type 0} {G : A → Type 0} {F : TypeFault → Type 0} {H : A → Type 0} {E : TypeFault → Type 0} (part : Checked A)
    → Answered G F part → ((a : A) → G a → H a) → ((f : TypeFault) → F f → E f) → Answered H E part
weaker (Ok a) h good bad = record { is = good a h.is }
weaker (Err f) h good bad = record { is = bad f h.is }

-- what it is of a check that passes, or fails
pub where_passed : {A : Type 0} {G : A → Type 0} {F : TypeFault → Type 0} (part : Checked A) (a : A) → Answered G F part → part ≡ Ok a → G a
where_passed {G = G} {F = F} part a h e = subst (λ r. MatchResult r G F) e h.is

pub where_failed : {A : Type 0} {G : A → Type 0} {F : TypeFault → Type 0} (part : Checked A) (f : TypeFault) → Answered G F part → part ≡ Err f → F f
where_failed {G = G} {F = F} part f h e = subst (λ r. MatchResult r G F) e h.is

-- ---- one check after another

pub goes_on : {A B : Type 0} {a : A} {r : Checked B} (part : Checked A) (next : A → Checked B) → part ≡ Ok a → next a ≡ r → after part next ≡ r
goes_on part next h k = ap (λ p. after p next) h ∙ k

pub stops : {A B : Type 0} {f : TypeFault} (part : Checked A) (next : A → Checked B) → part ≡ Err f → after part next ≡ Err f
stops part next h = ap (λ p. after p next) h
