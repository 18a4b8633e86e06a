-- How readings of forms are put together: a part is read, a separator is passed, or one of them is not there.
use Rattle.std.proofs.Common.{◌≡◌, ℕ, List, [], ◌∷◌, length, refl, sym, ◌∙◌, ap, subst, arith}
use Rattle.std.specs.Prelude.{Result, Ok, Err, IsErr}
use Rattle.std.specs.Result.{IsErrAnd}
use Rattle.pipe_tree.specs.declared.fault.ParseFault.{ParseFault}
use Rattle.pipe_tree.specs.declared.fault.ParseFault.TheVariants as fault
use Rattle.pipe_rows.specs.declared.reader.Reader.{Reader}
use Rattle.pipe_reader.specs.declared.separator.Separator.{Separator}
use Rattle.pipe_reader.specs.Continuations.{Continuation, ASeparator, Nested, read_from}
use Rattle.pipe_rows.specs.ReaderState.{GoesOn, Starts, after, result_copy, end_of, left_of, separator_form}
use Rattle.pipe_rows.specs.FormReading.{Form, IsShallow, Passes, Reads}
use Rattle.pipe_tree.specs.Tokens.{Tok}

-- reading the form where the old reader is comes to the next form where the new one is
pub record Comes {A : Type 0} (form : Form A) (old : Reader) (next : Form A) (new : Reader) : Type 0 where
  pub on : GoesOn old new
  pub comes : (f : A → Continuation) → IsShallow f → read_from (form f) (left_of old) ≡ read_from (next f) (left_of new)

nested : (n : ℕ) (c : Continuation) (x : List Tok) → read_from (Nested n c) x ≡ read_from c x
nested n c [] = refl
nested n c (t ∷ x) = refl

pub goes_on : {a b c : Reader} → GoesOn a b → GoesOn b c → GoesOn a c
goes_on h g = record { text = g.text ∙ h.text; fewer = omega arith }

-- the text's length stays
pub end_same : {a b : Reader} → GoesOn a b → end_of b ≡ end_of a
end_same h = ap (λ (xs : List ℕ). length xs) h.text

pub here : {A : Type 0} (form : Form A) (r : Reader) → Comes form r form r
here form r = record { on = record { text = refl; fewer = omega arith }; comes = λ f is_shallow. refl }

-- what follows the first part begins with nothing that is deep
abbrev pub Follows : {A B : Type 0} → ((B → Continuation) → A → Continuation) → Type 0
Follows {A} {B} k = (f : B → Continuation) → IsShallow f → IsShallow (k f)

-- the first part of what is to come is read
pub past : {A B : Type 0} {form : Form B} {old r new : Reader} (m : Form A) {k : (B → Continuation) → A → Continuation} (a : A) → Comes form old (λ f. m (k f)) r → Follows k → Passes m (left_of r) a (left_of new) → GoesOn r new → Comes form old (λ f. k f a) new
past m {k} a c keeps_shallow h on = record { on = goes_on c.on on; comes = λ f is_shallow. c.comes f is_shallow ∙ h (k f) (keeps_shallow f is_shallow) }

-- a separator is first
pub past_separator : {B : Type 0} {form next : Form B} {old r new : Reader} (w : Separator) → Comes form old (λ f. ASeparator w (next f)) r → Follows {A = Unit {0}} (λ f u. next f) → Passes (separator_form w) (left_of r) tt (left_of new) → GoesOn r new → Comes form old next new
past_separator {next} w c keeps_shallow h on = record { on = goes_on c.on on; comes = λ f is_shallow. c.comes f is_shallow ∙ h (λ u. next f) (keeps_shallow f is_shallow) }

-- what is to come is read as another form is
pub turn : {B : Type 0} {form next : Form B} {old r : Reader} (other : Form B) → Comes form old next r → ((f : B → Continuation) → IsShallow f → read_from (next f) (left_of r) ≡ read_from (other f) (left_of r)) → Comes form old other r
turn other c same = record { on = c.on; comes = λ f is_shallow. c.comes f is_shallow ∙ same f is_shallow }

-- the depth is in bounds already
pub unnest : {B : Type 0} {form next : Form B} {old r : Reader} {n : ℕ} → Comes form old (λ f. Nested n (next f)) r → Comes form old next r
unnest {next} {r} {n} c = record { on = c.on; comes = λ f is_shallow. c.comes f is_shallow ∙ nested n (next f) (left_of r) }

-- the next reader is one token on
pub take_token : {B : Type 0} {form next : Form B} {old r new : Reader} (other : Form B) (y : List Tok) → Comes form old next r → ((f : B → Continuation) → IsShallow f → read_from (next f) (left_of r) ≡ read_from (other f) y) → left_of new ≡ y → GoesOn r new → Comes form old other new
take_token other y c same left on = record { on = goes_on c.on on; comes = λ f is_shallow. c.comes f is_shallow ∙ same f is_shallow ∙ ap (read_from (other f)) (sym left) }

-- nothing is left to come, and this is what was read
pub ends_as : {B : Type 0} {form : Form B} {old new : Reader} {a b : B} → a ≡ b → Comes form old (λ f. f a) new → Passes form (left_of old) b (left_of new)
ends_as {new} e c = λ f is_shallow. c.comes f is_shallow ∙ ap (λ b. read_from (f b) (left_of new)) e

with_rest : {B : Type 0} (form next : Form B) (old r : Reader) (res : Result B ParseFault) (z : List Tok) → Comes form old next r → Reads next (end_of r) (left_of r) res z → Reads form (end_of r) (left_of old) res z
with_rest form next old r (Ok b) z c h = λ f is_shallow. c.comes f is_shallow ∙ h f is_shallow
with_rest form next old r (Err (fault.Syntax at)) z c h = record { offset = h.offset; stops = λ f is_shallow. c.comes f is_shallow ∙ h.stops f is_shallow }
with_rest form next old r (Err (fault.TooDeep at)) z c h = record { offset = h.offset; stops = λ f is_shallow. c.comes f is_shallow ∙ h.stops f is_shallow }
with_rest form next old r (Err (fault.TooManyInputs at)) z c h = h
with_rest form next old r (Err (fault.TooManyOps at)) z c h = h
with_rest form next old r (Err (fault.TooManyNodes at)) z c h = h
with_rest form next old r (Err fault.NoMemory) z c h = h

-- what is to come is read, or not
pub rest : {B : Type 0} {form next : Form B} {old r : Reader} (res : Result B ParseFault) (z : List Tok) → Comes form old next r → Reads next (end_of r) (left_of r) res z → Reads form (end_of old) (left_of old) res z
rest {form} {next} {old} {r} res z c h =
    subst (λ (end : ℕ). Reads form end (left_of old) res z) (end_same c.on) (with_rest form next old r res z c h)

-- what is to come is begun, or not
pub rest_starts : {A B : Type 0} {form next : Form A} {old r : Reader} (res : Result B ParseFault) (then_next : B → Form A) (z : List Tok) → Comes form old next r → Starts next (end_of r) (left_of r) res then_next z → Starts form (end_of old) (left_of old) res then_next z
rest_starts (Ok b) then_next z c h = λ f is_shallow. c.comes f is_shallow ∙ h f is_shallow
rest_starts (Err e) then_next z c h = rest (Err e) z c h

pub first_fails : {A B : Type 0} (m : Form A) (k : (B → Continuation) → A → Continuation) (end : ℕ) (x : List Tok) (e : ParseFault) (y : List Tok) → Follows k → Reads m end x (Err e) y → Reads {A = B} (λ f. m (k f)) end x (Err e) y
first_fails m k end x (fault.Syntax at) y keeps_shallow h = record { offset = h.offset; stops = λ f is_shallow. h.stops (k f) (keeps_shallow f is_shallow) }
first_fails m k end x (fault.TooDeep at) y keeps_shallow h = record { offset = h.offset; stops = λ f is_shallow. h.stops (k f) (keeps_shallow f is_shallow) }
first_fails m k end x (fault.TooManyInputs at) y keeps_shallow h = h
first_fails m k end x (fault.TooManyOps at) y keeps_shallow h = h
first_fails m k end x (fault.TooManyNodes at) y keeps_shallow h = h
first_fails m k end x fault.NoMemory y keeps_shallow h = h

-- a result that is this fault
abbrev pub IsFault : {C : Type 0} → Result C ParseFault → ParseFault → Type 0
IsFault r e = IsErr r × IsErrAnd r (λ g. g ≡ e)

fault_is : {B C : Type 0} (copy : C → B) (r : Result C ParseFault) (e : ParseFault) → IsFault r e → Err e ≡ result_copy copy r
fault_is copy (Ok a) e h = cc
fault_is copy (Err g) e h = ap Err (sym h.1)

-- the first part of what is to come is not read
pub fails : {A B C : Type 0} {form : Form B} {old r : Reader} (m : Form A) {k : (B → Continuation) → A → Continuation} (copy : C → B) (res : Result C ParseFault) (e : ParseFault) (y : List Tok) → Comes form old (λ f. m (k f)) r → Follows k → Reads m (end_of r) (left_of r) (Err e) y → IsFault res e → Reads form (end_of old) (left_of old) (result_copy copy res) y
fails {B = B} {form} {old} {r} m {k} copy res e y c keeps_shallow h is =
    subst (λ (out : Result B ParseFault). Reads form (end_of old) (left_of old) out y) (fault_is copy res e is) (rest (Err e) y c (first_fails m k (end_of r) (left_of r) e y keeps_shallow h))

-- a separator is not there
pub fails_separator : {B C : Type 0} {form next : Form B} {old r : Reader} (w : Separator) (copy : C → B) (res : Result C ParseFault) (e : ParseFault) (y : List Tok) → Comes form old (λ f. ASeparator w (next f)) r → Follows {A = Unit {0}} (λ f u. next f) → Reads (separator_form w) (end_of r) (left_of r) (Err e) y → IsFault res e → Reads form (end_of old) (left_of old) (result_copy copy res) y
fails_separator {next} w copy res e y c keeps_shallow h is = fails (separator_form w) {k = λ f u. next f} copy res e y c keeps_shallow h is

-- the first part of a form that is begun is not read
pub fails_starts : {A B C D : Type 0} {form : Form B} {old r : Reader} (m : Form A) {k : (B → Continuation) → A → Continuation} (copy : C → D) (then_next : D → Form B) (res : Result C ParseFault) (e : ParseFault) (y : List Tok) → Comes form old (λ f. m (k f)) r → Follows k → Reads m (end_of r) (left_of r) (Err e) y → IsFault res e → Starts form (end_of old) (left_of old) (result_copy copy res) then_next y
fails_starts {D = D} {form} {old} {r} m {k} copy then_next res e y c keeps_shallow h is =
    subst (λ (out : Result D ParseFault). Starts form (end_of old) (left_of old) out then_next y) (fault_is copy res e is) (rest (Err e) y c (first_fails m k (end_of r) (left_of r) e y keeps_shallow h))

-- ---- a form behind a separator

-- the form begins with nothing that is deep
abbrev pub BeginsShallow : {B : Type 0} → Form B → Type 0
BeginsShallow form = Follows {A = Unit {0}} (λ f u. form f)

-- the separator is not there
pub after_fails : {B C : Type 0} (form : Form B) (old : Reader) (w : Separator) (copy : C → B) (res : Result C ParseFault) (e : ParseFault) (y : List Tok) → BeginsShallow form → Reads (separator_form w) (end_of old) (left_of old) (Err e) y → IsFault res e → Reads (after w form) (end_of old) (left_of old) (result_copy copy res) y
after_fails form old w copy res e y begins h is = fails_separator {next = form} w copy res e y (here (after w form) old) begins h is

-- it is, and the form is read, or not
pub after_rest : {B : Type 0} (form : Form B) (old r : Reader) (w : Separator) (res : Result B ParseFault) (z : List Tok) → BeginsShallow form → Passes (separator_form w) (left_of old) tt (left_of r) → GoesOn old r → Reads form (end_of r) (left_of r) res z → Reads (after w form) (end_of old) (left_of old) res z
after_rest form old r w res z begins h on reads = rest res z (past_separator {next = form} w (here (after w form) old) begins h on) reads
