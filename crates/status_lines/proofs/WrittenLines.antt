-- One text written after another, and a line that is reported.
use Rattle.std.proofs.Common.{◌≡◌, inl, inr, ℕ, ◌+◌, ◌≤◌, List, [], ◌++◌, length, take, Option, Some, None, Result, Ok, Err, sym, ap, ◌∙◌, subst, append_assoc, append-nil, length-append, arith, refl, codes}
use Rattle.std.proofs.lemmas.List.{take-append-le}
use Rattle.std.proofs.Math.Seq.{take-append-add}
use Rattle.strm_io.specs.Writing.{Appends}
use Rattle.strm_io.specs.Appending.{PutsAll, WriteHasCause}
use Rattle.strm_io.specs.declared.appending.WriteFault.{WriteFault}
use Rattle.status_lines.specs.StatusLines.{Reports, line_of, status_text}
use Rattle.status_lines.specs.declared.statuses.Status.{Status}
use Rattle.status_lines.specs.declared.statuses.Status.TheVariants.{Done, Words, Missing, Refused, Trap, Spent, ReadFault, WriteFault as WriteFailed, NoMemory, BadInput, TooLong, Undefined, TooMuch}

appends_then : (a b c : Option (List ℕ)) (x y : List ℕ) → Appends a b x → Appends b c y → Appends a c (x ++ y)
appends_then None b c x y h k = tt
appends_then (Some w) None c x y h k = absurd cc
appends_then (Some w) (Some v) c x y h k =
    let e : v ≡ w ++ x = cc in
    k ∙ ap (λ l. Some (l ++ y)) e ∙ ap Some (append_assoc w x y)

take_within : (x y : List ℕ) (n : ℕ) → n ≤ length x → take n (x ++ y) ≡ take n x
take_within x y n h = take-append-le n x y h

pub puts_cut : (a b : Option (List ℕ)) (x y : List ℕ) (e : WriteFault) → PutsAll a b x (Err e) → PutsAll a b (x ++ y) (Err e)
puts_cut a b x y e h =
    record {
      count = h.count;
      within = omega (arith, h.within, length-append x y);
      appended = subst (λ l. Appends a b l) (sym (take_within x y h.count h.within)) h.appended;
    }

pub puts_then : (a b c : Option (List ℕ)) (x y : List ℕ) (r : Result (Unit {0}) WriteFault) → Appends a b x → PutsAll b c y r → PutsAll a c (x ++ y) r
puts_then a b c x y (Ok u) h k = appends_then a b c x y h k
puts_then a b c x y (Err e) h k =
    record {
      count = length x + k.count;
      within = omega (arith, k.within, length-append x y);
      appended = subst (λ l. Appends a c l) (sym (take-append-add x y k.count)) (appends_then a b c x (take k.count y) h k.appended);
    }

pub reported : (a b : Option (List ℕ)) (line : List ℕ) (faults faults' : ℕ) (r : Result (Unit {0}) WriteFault) → PutsAll a b line r → WriteHasCause faults faults' r → Reports a b line faults faults'
reported a b line faults faults' (Ok u) h k = inl h
reported a b line faults faults' (Err e) h k = inr (h, k)

unchanged : (a : Option (List ℕ)) → Appends a a []
unchanged None = tt
unchanged (Some w) = ap Some (sym (append-nil w))

-- nothing is reported where all was done
pub not_reported : (a b : Option (List ℕ)) (faults faults' : ℕ) → b ≡ a → Reports a b [] faults faults'
not_reported a b faults faults' e = inl (subst (λ c. Appends a c []) (sym e) (unchanged a))

-- the line of each other status
line_written : (status : Status) → (status ≡ Done → ⊥) → line_of status ≡ codes "strymonas: " ++ status_text status ++ codes "\n"
line_written Done other = absurd (other refl)
line_written Words other = refl
line_written (Missing n) other = refl
line_written (Refused r) other = refl
line_written Trap other = refl
line_written (Spent n) other = refl
line_written (ReadFault n) other = refl
line_written WriteFailed other = refl
line_written NoMemory other = refl
line_written (BadInput n f) other = refl
line_written (TooLong n) other = refl
line_written Undefined other = refl
line_written TooMuch other = refl

pub line_reported : (status : Status) (a b : Option (List ℕ)) (faults faults' : ℕ) (r : Result (Unit {0}) WriteFault) → (status ≡ Done → ⊥) → PutsAll a b (codes "strymonas: " ++ status_text status ++ codes "\n") r → WriteHasCause faults faults' r → Reports a b (line_of status) faults faults'
line_reported status a b faults faults' r other h k =
    subst (λ line. Reports a b line faults faults') (sym (line_written status other)) (reported a b _ faults faults' r h k)

pub ruleset puts = (puts_cut, puts_then)

pub ruleset reports = (reported, not_reported)
