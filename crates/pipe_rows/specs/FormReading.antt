-- What reading a form gives: wherever the form stands in what is still to come, the reader of texts goes from
-- these tokens to those with the form's tree, or stops there.
use Rattle.std.specs.Prelude.{◌≡◌, ℕ, List, true, Result, Ok, Err}
use Rattle.pipe_tree.specs.declared.fault.ParseFault.{ParseFault}
use Rattle.pipe_tree.specs.declared.fault.ParseFault.TheVariants as fault
use Rattle.pipe_reader.specs.Continuations.{Continuation, is_within_depth, read_from}
use Rattle.exact_reader.specs.Exactness.{Outcome, Syntax, TooDeep}
use Rattle.pipe_tree.specs.Parsing.{offset_or_end}
use Rattle.pipe_tree.specs.Tokens.{Tok}
use Rattle.pipe_tree.specs.Trees.{Text}

-- a form, by what is to come where it stands before something
abbrev pub Form : Type 0 → Type 0
Form A = (A → Continuation) → Continuation

-- what follows the form begins with nothing that is deep
abbrev pub IsShallow : {A : Type 0} → (A → Continuation) → Type 0
IsShallow {A} f = (a : A) → is_within_depth (f a) ≡ true

-- the form is read, and these tokens are left
abbrev pub Passes : {A : Type 0} → Form A → List Tok → A → List Tok → Type 0
Passes {A} form x a y = (f : A → Continuation) → IsShallow f → read_from (form f) x ≡ read_from (f a) y

-- no reading goes on from the tokens that are left, and this is their offset
pub record Stops {A : Type 0} (form : Form A) (end : ℕ) (x : List Tok) (how : List Tok → Outcome Tok Text) (at : ℕ) (y : List Tok) : Type 0 where
  pub offset : at ≡ offset_or_end end y
  pub stops : (f : A → Continuation) → IsShallow f → read_from (form f) x ≡ how y

abbrev pub Reads : {A : Type 0} → Form A → ℕ → List Tok → Result A ParseFault → List Tok → Type 0
Reads form end x (Ok a) y = Passes form x a y
Reads form end x (Err (fault.Syntax at)) y = Stops form end x Syntax at y
Reads form end x (Err (fault.TooDeep at)) y = Stops form end x TooDeep at y
Reads form end x (Err (fault.TooManyInputs at)) y = ⊥
Reads form end x (Err (fault.TooManyOps at)) y = ⊥
Reads form end x (Err (fault.TooManyNodes at)) y = ⊥
Reads form end x (Err fault.NoMemory) y = Unit {0}
