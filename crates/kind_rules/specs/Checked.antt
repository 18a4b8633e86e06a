-- What checking a part gives: what the part stands for, or the first fault in it.
use Rattle.std.specs.Prelude.{◌≡◌, Bool, true, false, Result, Ok, Err}
use Rattle.kind_rules.specs.declared.fault.TypeFault.{TypeFault}
use Rattle.kind_rules.specs.declared.fault.TypeFault.TheVariants as fault

abbrev pub Checked : Type 0 → Type 0
Checked A = Result A TypeFault

-- a part, and then the next, unless the first has a fault
abbrev pub after : {A B : Type 0} → Checked A → (A → Checked B) → Checked B
after (Ok a) next = next a
after (Err f) next = Err f

-- the fault, unless the condition holds
abbrev pub unless : {A : Type 0} → Bool → TypeFault → Checked A → Checked A
unless true fault next = next
unless false fault next = Err fault

-- the copy of the answer is the value, or memory was refused
abbrev pub IsOneUnlessRefused : {A B : Type 0} → (A → B) → Result A TypeFault → Checked B → Type 0
IsOneUnlessRefused copy (Ok a) value = value ≡ Ok (copy a)
IsOneUnlessRefused copy (Err fault.NoMemory) value = Unit {0}
IsOneUnlessRefused copy (Err f) value = value ≡ Err f
