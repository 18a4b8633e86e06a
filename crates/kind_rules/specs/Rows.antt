-- The kinds of rows, and what they stand for.
use Rattle.std.specs.Prelude.{ℕ, zero, suc, List, [], ◌∷◌, length, Ok, Err}
use Rattle.pipe_limits.specs.declared.TheConstants.{MOST_COMPONENTS}
use Rattle.list_denotation.specs.declared.kind.Kind.{Kind}
use Rattle.list_denotation.specs.Terms.{Term}
use Rattle.pipe_tree.specs.Trees.{Formula, offset_of, Row}
use Rattle.kind_rules.specs.declared.fault.TypeFault.TheVariants as fault
use Rattle.kind_rules.specs.Checked.{Checked, after, unless}
use Rattle.kind_rules.specs.Expressions.{Typed, expression_of, opening_of}
use Rattle.kind_rules.specs.Scopes.{Scope, is_wide}
use Rattle.kind_rules.specs.Signs.{is_kind}

-- the kinds of a row's parts, and what they stand for
pub record TypedRow : Type 0 where
  pub kinds : List Kind
  pub terms : List Term

abbrev pub typed_row : List Kind → List Term → TypedRow
typed_row ks ts = record { kinds = ks; terms = ts }

-- at most so many parts more, from left to right
abbrev pub parts_of : (Formula → Checked Typed) → ℕ → List Formula → Checked TypedRow
parts_of part room [] = Ok (typed_row [] [])
parts_of part zero (e ∷ es) = Err (fault.TooWide (offset_of e))
parts_of part (suc room) (e ∷ es) = after (part e) (λ t. after (parts_of part room es) (λ r. Ok (typed_row (t.kind ∷ r.kinds) (t.term ∷ r.terms))))

-- at least one part; a row without parts, which no text has, is not wide enough
abbrev pub some_parts_of : (Formula → Checked Typed) → ℕ → List Formula → Checked TypedRow
some_parts_of part at [] = Err (fault.WidthMismatch at)
some_parts_of part at (e ∷ es) = parts_of part MOST_COMPONENTS (e ∷ es)

abbrev pub row_of : Scope → Row → Checked TypedRow
row_of scope row = some_parts_of (expression_of scope) row.at row.parts

-- the first state of a scan, a fold or an unfold
abbrev pub seed_of : Scope → Row → Checked TypedRow
seed_of scope row = some_parts_of (opening_of scope) row.at row.parts

-- the whole row, if each part of these kinds is of the kind at its place in the state
abbrev pub alike_parts : List Formula → List Kind → List Kind → List Term → Checked (List Term)
alike_parts (e ∷ es) (j ∷ js) (k ∷ ks) whole = unless (is_kind j k) (fault.Mismatch (offset_of e)) (alike_parts es js ks whole)
alike_parts _ _ _ whole = Ok whole

-- a next state, which is as wide as the state and has its kinds
abbrev pub next_of : Scope → List Kind → Row → Checked (List Term)
next_of scope state row =
    after (row_of scope row) (λ r. unless (is_wide (length r.kinds) (length state)) (fault.WidthMismatch row.at) (alike_parts row.parts r.kinds state r.terms))
