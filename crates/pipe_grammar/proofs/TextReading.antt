-- How the readings of the parts of a text make that of the whole: the declarations, the stream, the terminal.
use Rattle.std.proofs.Common.{◌≡◌, ℕ, List, [], ◌∷◌, refl, sym, ◌∙◌, ap, subst, true, false}
use Rattle.std.specs.Prelude.{Result, Ok, Err}
use Rattle.pipe_tree.specs.declared.fault.ParseFault.{ParseFault}
use Rattle.pipe_tree.specs.declared.fault.ParseFault.TheVariants as fault
use Rattle.pipe_rows.specs.declared.reader.Reader.{Reader}
use Rattle.std.specs.declared.alloc.Global.{Global}
use Rattle.std.specs.declared.boxed.Box.{Box}
use Rattle.pipe_tree.specs.declared.tree.Tree.{Tree}
use Rattle.pipe_reader.specs.Continuations.{Continuation, End, read_from, read_text}
use Rattle.exact_reader.specs.Exactness.{Read, Syntax}
use Rattle.pipe_tree.specs.Parsing.{offset_or_end}
use Rattle.pipe_rows.specs.ReaderState.{end_of, left_of, is_end}
use Rattle.pipe_rows.specs.FormReading.{Form, Reads}
use Rattle.pipe_tree.specs.Tokens.{Tok}
use Rattle.pipe_tree.specs.Trees.{Text}
use Rattle.pipe_grammar.specs.WholeTexts.{boxed_answer, whole_text, ReadsAs}
use Rattle.pipe_rows.proofs.FormReading.{Comes, Follows, IsFault, end_same, first_fails, rest}

-- where the whole form is not read, the text is not
text_stops : (end : ℕ) (x : List Tok) (e : ParseFault) (y : List Tok) → Reads whole_text end x (Err e) y → ReadsAs end x (Err e)
text_stops end x (fault.Syntax at) y h = record { rest = y; outcome = h.stops End (λ t. refl); offset = h.offset }
text_stops end x (fault.TooDeep at) y h = record { rest = y; outcome = h.stops End (λ t. refl); offset = h.offset }
text_stops end x (fault.TooManyInputs at) y h = h
text_stops end x (fault.TooManyOps at) y h = h
text_stops end x (fault.TooManyNodes at) y h = h
text_stops end x fault.NoMemory y h = h

-- a result that is this fault
pub fault_is : {A : Type 0} (r : Result A ParseFault) (e : ParseFault) → IsFault r e → Err e ≡ r
fault_is (Ok a) e h = cc
fault_is (Err g) e h = ap Err (sym h.1)

-- the next part of the text is not read
pub text_fails : {A : Type 0} {old r : Reader} (m : Form A) (k : (Text → Continuation) → A → Continuation) (res : Result (Box Tree Global) ParseFault) (e : ParseFault) (y : List Tok) → Comes whole_text old (λ f. m (k f)) r → Follows k → Reads m (end_of r) (left_of r) (Err e) y → IsFault res e → ReadsAs (end_of old) (left_of old) (boxed_answer res)
text_fails {old} {r} m k res e y c is_shallow h is =
    subst (λ (out : Result (Box Tree Global) ParseFault). ReadsAs (end_of old) (left_of old) (boxed_answer out)) (fault_is res e is)
    (text_stops (end_of old) (left_of old) e y (rest (Err e) y c (first_fails m k (end_of r) (left_of r) e y is_shallow h)))

at_end : (t : Text) (x : List Tok) → is_end x ≡ true → read_from (End t) x ≡ Read t
at_end t [] h = refl
at_end t (u ∷ x) h = cc

before_end : (t : Text) (x : List Tok) → is_end x ≡ false → read_from (End t) x ≡ Syntax x
before_end t [] h = cc
before_end t (u ∷ x) h = refl

-- no token is left
pub text_read : {old r : Reader} (t : Text) → Comes whole_text old (λ f. End t) r → is_end (left_of r) ≡ true → read_text (left_of old) ≡ Read t
text_read {r} t c h = c.comes End (λ u. refl) ∙ at_end t (left_of r) h

-- a token is left
pub text_goes_on : {old r : Reader} (t : Text) (at : ℕ) → Comes whole_text old (λ f. End t) r → is_end (left_of r) ≡ false → at ≡ offset_or_end (end_of r) (left_of r) → ReadsAs (end_of old) (left_of old) (Err (fault.Syntax at))
text_goes_on {r} t at c h e = record { rest = left_of r; outcome = c.comes End (λ u. refl) ∙ before_end t (left_of r) h; offset = e ∙ ap (λ (end : ℕ). offset_or_end end (left_of r)) (end_same c.on) }
