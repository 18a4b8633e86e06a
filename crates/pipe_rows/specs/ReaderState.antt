-- What the code's reader of a text has left, how it goes on, and what its functions say of a form.
use Rattle.std.specs.Prelude.{◌≡◌, ℕ, ◌≤◌, List, [], ◌∷◌, length, Bool, true, false, Option, Some, None, Result, Ok, Err, slice_range}
use Rattle.pipe_lexer.specs.declared.token.Token.{Token}
use Rattle.pipe_lexer.specs.declared.token.TokenKind.{TokenKind}
use Rattle.pipe_tree.specs.declared.fault.ParseFault.{ParseFault}
use Rattle.pipe_reader.specs.declared.forms.StageForm.{StageForm}
use Rattle.pipe_rows.specs.declared.reader.Reader.{Reader}
use Rattle.pipe_reader.specs.declared.separator.Separator.{Separator}
use Rattle.pipe_reader.specs.Continuations.{Continuation, TokenClass, Bars, Braces, Declares, OtherToken, ASeparator, ALabel, MoreParts, MoreNames, AStage, class_of, read_from, expression, single_row, single_pattern}
use Rattle.pipe_rows.specs.FormReading.{Form, IsShallow, Reads}
use Rattle.pipe_tree.specs.Tokens.{Tok, toks_of}
use Rattle.pipe_tree.specs.TreeCopies.{stages_of_list}
use Rattle.pipe_tree.specs.Trees.{Row, Pattern, Stream, From, Source, Stage}

-- the length of the text
abbrev pub end_of : Reader → ℕ
end_of r = length r.src.now

-- the tokens that are left
abbrev pub left_of : Reader → List Tok
left_of r = toks_of r.src.now r.left.now

-- the kind of the next token
abbrev pub kind_left : List Token → Option TokenKind
kind_left [] = None
kind_left (t ∷ ts) = Some t.kind

-- the text of the next token
abbrev pub text_at : List ℕ → List Token → List ℕ
text_at src [] = []
text_at src (t ∷ ts) = slice_range src t.at t.end

abbrev pub text_left : Reader → List ℕ
text_left r = text_at r.src.now r.left.now

-- the class of the next token
abbrev pub class_at : List Tok → TokenClass
class_at [] = OtherToken
class_at (t ∷ x) = class_of t.what

abbrev pub is_bar : TokenClass → Bool
is_bar Bars = true
is_bar _ = false

abbrev pub is_input : TokenClass → Bool
is_input Declares = true
is_input _ = false

abbrev pub is_brace : TokenClass → Bool
is_brace Braces = true
is_brace _ = false

-- no token is left
abbrev pub is_end : List Tok → Bool
is_end [] = true
is_end (t ∷ x) = false

-- the tokens behind the next
abbrev pub tokens_behind : List Tok → List Tok
tokens_behind [] = []
tokens_behind (t ∷ x) = x

-- the text is the same, and no more tokens are left than before
pub record GoesOn (old new : Reader) : Type 0 where
  pub text : new.src.now ≡ old.src.now
  pub fewer : length new.left.now ≤ length old.left.now

-- a separator, which has no tree
abbrev pub separator_form : Separator → Form (Unit {0})
separator_form w f = ASeparator w (f tt)

-- a form behind a separator
abbrev pub after : {A : Type 0} → Separator → Form A → Form A
after w form f = ASeparator w (form f)

-- what was read, in the plain copies of the code's values
abbrev pub result_copy : {A B E : Type 0} → (A → B) → Result A E → Result B E
result_copy copy (Ok a) = Ok (copy a)
result_copy copy (Err e) = Err e

-- What was read of a form leads to what is to come then; or it stops.
abbrev pub Starts : {A B : Type 0} → Form A → ℕ → List Tok → Result B ParseFault → (B → Form A) → List Tok → Type 0
Starts {A} form end x (Ok b) next y = (f : A → Continuation) → IsShallow f → read_from (form f) x ≡ read_from (next b f) y
Starts form end x (Err e) next y = Reads form end x (Err e) y

-- the same from where the code's reader was to where it is, with the copies of what was read
abbrev pub ReadsFrom : {A B : Type 0} → Form A → Reader → (B → A) → Result B ParseFault → Reader → Type 0
ReadsFrom form old copy result new = Reads form (end_of old) (left_of old) (result_copy copy result) (left_of new)

abbrev pub StartsFrom : {A B C : Type 0} → Form A → Reader → (C → B) → Result C ParseFault → (B → Form A) → Reader → Type 0
StartsFrom form old copy result next new =
    Starts form (end_of old) (left_of old) (result_copy copy result) next (left_of new)

-- ---- parts of forms

-- a stage whose keyword is next, or the end of the stream
abbrev pub stage_or_end : ℕ → ℕ → Source → List Stage → Option StageForm → Form Stream
stage_or_end around at source ss (Some form) = AStage around at source ss
stage_or_end around at source ss None = λ f. f (From at source (stages_of_list ss))

-- a pattern without braces
abbrev pub single_name : Form Pattern
single_name f = ALabel (λ n. f (single_pattern n))

-- what follows the brace of a pattern that stands at this offset
abbrev pub braced_names : ℕ → Form Pattern
braced_names at f = ALabel (λ n. MoreNames at (n ∷ []) f)

-- a row without braces
abbrev pub single_part : Form Row
single_part f = expression (λ e. f (single_row e))

-- what follows the brace of a row that stands at this offset
abbrev pub braced_parts : ℕ → Form Row
braced_parts at f = expression (λ e. MoreParts at (e ∷ []) f)
