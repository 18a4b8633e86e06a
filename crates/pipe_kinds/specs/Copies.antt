-- The plain copies of what the code holds.
use Rattle.std.specs.Prelude.{ℕ, List, map}
use Rattle.std.specs.Borrow.{Bor}
use Rattle.std.specs.Global.{Vec}
use Rattle.indexmap.specs.IndexMap.{IndexMap}
use Rattle.list_denotation.specs.Copies.{term_of, terms_of}
use Rattle.list_denotation.specs.Terms.{Term}
use Rattle.pipe_tree.specs.declared.tree.Decl.{Decl}
use Rattle.pipe_tree.specs.Trees.{Declaration}
use Rattle.kind_rules.specs.Expressions as plain
use Rattle.kind_rules.specs.Expressions.{Typed, operands, typed_term}
use Rattle.kind_rules.specs.Rows as row
use Rattle.kind_rules.specs.Scopes as names
use Rattle.kind_rules.specs.Scopes.{Bound}
use Rattle.pipe_kinds.specs.declared.scope.BoundWord.{BoundWord}
use Rattle.pipe_kinds.specs.declared.scope.Scope.{Scope}
use Rattle.pipe_kinds.specs.declared.typed.Operands.{Operands}
use Rattle.pipe_kinds.specs.declared.typed.TypedExpr.{TypedExpr}
use Rattle.pipe_kinds.specs.declared.typed.TypedRow.{TypedRow}

abbrev pub bound_of : BoundWord → Bound
bound_of w = record { name = w.name.now; kind = w.kind }

abbrev pub bounds_of : Vec BoundWord → List Bound
bounds_of words = map bound_of words.items

-- an input as it was declared: its name is the map's key, and its offsets and its kind stand in the declaration
abbrev pub input_of : Bor (List ℕ) × Bor Decl → Declaration
input_of e = record { at = e.1.now.at; name = record { at = e.1.now.name.at; text = e.0.now }; kind = e.1.now.kind }

-- the inputs in the order of declaration
abbrev pub inputs_of : {S : Type 0} → IndexMap (Bor (List ℕ)) (Bor Decl) S → List Declaration
inputs_of inputs = map input_of inputs.entries

abbrev pub scope_of : Scope → names.Scope
scope_of s = record { inputs = inputs_of s.inputs.now; bound = map bound_of s.bound.items }

abbrev pub typed_of : TypedExpr → Typed
typed_of t = typed_term t.kind (term_of t.expr.value)

-- what an expression stands for, whatever its kind
abbrev pub expr_term : TypedExpr → Term
expr_term t = term_of t.expr.value

abbrev pub operands_copy : Operands → plain.Operands
operands_copy p = operands p.kind (term_of p.left.value) (term_of p.right.value)

abbrev pub typed_row_of : TypedRow → row.TypedRow
typed_row_of r = row.typed_row r.kinds (terms_of r.exprs)

abbrev pub row_terms : TypedRow → List Term
row_terms r = terms_of r.exprs
