-- Parts in a row: a fault in the first, or a refusal of memory, is that of all, and else they go on.
use Rattle.std.proofs.Common.{◌≡◌, Result, Ok, Err, ap, refl, ◌∙◌, rules}
use Rattle.std.specs.Result.{IsErrAnd}
use Rattle.std.proofs.lemmas.Result.{err_from_is_err_and}
use Rattle.kind_rules.specs.declared.fault.TypeFault.{TypeFault}
use Rattle.kind_rules.specs.declared.fault.TypeFault.TheVariants as fault
use Rattle.kind_rules.specs.Checked.{Checked, after, IsOneUnlessRefused}

pub fault_after : {X Y A B : Type 0} (copy : X → A) (whole : Y → B) (e : TypeFault) (part : Checked A) (next : A → Checked B)
    → IsOneUnlessRefused copy (Err e) part → IsOneUnlessRefused whole (Err e) (after part next)
fault_after copy whole fault.NoMemory part next h = tt
fault_after copy whole (fault.Unknown at) part next h = ap (λ p. after p next) h
fault_after copy whole (fault.Twice at) part next h = ap (λ p. after p next) h
fault_after copy whole (fault.Mismatch at) part next h = ap (λ p. after p next) h
fault_after copy whole (fault.WidthMismatch at) part next h = ap (λ p. after p next) h
fault_after copy whole (fault.TooWide at) part next h = ap (λ p. after p next) h
fault_after copy whole (fault.DivisionInOpening at) part next h = ap (λ p. after p next) h
fault_after copy whole (fault.NotArray at) part next h = ap (λ p. after p next) h

-- where the first part has a fault, all stop with it
pub stops : {X Y A B : Type 0} (copy : X → A) (whole : Y → B) (r : Result Y TypeFault) (e : TypeFault) (part : Checked A) (next : A → Checked B)
    → IsErrAnd r (λ d. d ≡ e) → IsOneUnlessRefused copy (Err e) part → IsOneUnlessRefused whole r (after part next)
stops copy whole r e part next h k =
    let p = err_from_is_err_and r h in rw (p.1, p.2) (fault_after copy whole e part next k)

-- a refusal of memory is no answer
pub refused : {Y B : Type 0} (whole : Y → B) (r : Result Y TypeFault) (value : Checked B)
    → IsErrAnd r (λ d. d ≡ fault.NoMemory) → IsOneUnlessRefused whole r value
refused whole r value h = let p = err_from_is_err_and r h in rw (p.1, p.2) tt

-- where the first part has none, the others go on
pub goes_on : {Y A B : Type 0} (whole : Y → B) (r : Result Y TypeFault) (a : A) (part : Checked A) (next : A → Checked B)
    → part ≡ Ok a → IsOneUnlessRefused whole r (next a) → IsOneUnlessRefused whole r (after part next)
goes_on whole r a part next h k = rw h k

pub gives : {A B : Type 0} (a : A) (b : B) (part : Checked A) (next : A → Checked B)
    → part ≡ Ok a → next a ≡ Ok b → after part next ≡ Ok b
gives a b part next h k = ap (λ p. after p next) h ∙ k

pub ruleset in_turn = (rules, stops, refused, goes_on, gives)
