-- How phrases and what completes states are put together: a token or a part that is there, and then what goes on.
use Rattle.std.proofs.Common.{ℕ, List, ◌∷◌, refl, ap, ◌∙◌}
use Rattle.pipe_lexer.specs.declared.operator.InputKind.{InputKind}
use Rattle.pipe_tree.specs.Grammar.{At, Fixed, Then, Phrase, kind_key}
use Rattle.pipe_tree.specs.Tokens.{What, Named, Key, Tok, tok}
use Rattle.pipe_tree.specs.Trees.{Formula}
use Rattle.pipe_reader.proofs.Completion.{Part, IsKind}
use Rattle.pipe_reader.proofs.StateMeaning.{Operand, Spelled}

-- the first token
pub at_first : {what : What} {at : ℕ} {x : List Tok} {P : List Tok → Type 0} → P x → At what at P (tok what at ∷ x)
at_first {x = x} h = record { rest = x; is = refl; goes_on = h }

-- a token that was there
pub fixed_then : {what : What} {P Q : List Tok → Type 0} {x : List Tok} (h : Fixed what P x) → Q h.rest → Fixed what Q x
fixed_then h k = record { at = h.at; rest = h.rest; is = h.is; goes_on = k }

-- a part
pub part_then : {A : Type 0} {IsPart : A → List Tok → List Tok → Type 0} {fits : A → Type 0} {K : A → List Tok → Type 0} {Q : List Tok → Type 0} {x : List Tok} (h : Part IsPart fits K x) → Q h.rest → Then (IsPart h.value) Q x
part_then h k = record { rest = h.rest; phrase_is = h.phrase; goes_on = k }

-- the kind of an input
pub kind_then : {fits : InputKind → Type 0} {K : InputKind → List Tok → Type 0} {Q : List Tok → Type 0} {x : List Tok} (h : Part IsKind fits K x) → Q h.rest → Fixed (Key (kind_key h.value)) Q x
kind_then h k =
    let e = h.phrase in
    record { at = e.at; rest = h.rest; is = e.is ∙ ap (λ (y : List Tok). tok (Key (kind_key h.value)) e.at ∷ y) e.goes_on; goes_on = k }

-- an operand, forward and back
pub operand_then : {l : ℕ} {K : Formula → List Tok → Type 0} {Q : List Tok → Type 0} {x : List Tok} (h : Operand l K x) → Q h.rest → Then (Phrase h.tree l) Q x
operand_then h k = record { rest = h.rest; phrase_is = h.phrase; goes_on = k }

pub operand_of : (e : Formula) {l : ℕ} {P : List Tok → Type 0} {K : Formula → List Tok → Type 0} {x : List Tok} (h : Then (Phrase e l) P x) → K e h.rest → Operand l K x
operand_of e h k = record { tree = e; rest = h.rest; phrase = h.phrase_is; after = k }

-- the name of a `len`, forward and back
pub name_then : {K : List ℕ → ℕ → List Tok → Type 0} {Q : List Tok → Type 0} {x : List Tok} (h : Spelled K x) → Q h.rest → At (Named h.text) h.at Q x
name_then h k = record { rest = h.rest; is = h.is; goes_on = k }

pub name_of : {text : List ℕ} {at : ℕ} {P : List Tok → Type 0} {K : List ℕ → ℕ → List Tok → Type 0} {x : List Tok} (h : At (Named text) at P x) → K text at h.rest → Spelled K x
name_of {text = text} {at = at} h k = record { text = text; at = at; rest = h.rest; is = h.is; goes_on = k }
