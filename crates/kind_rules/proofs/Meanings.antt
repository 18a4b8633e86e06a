-- What a name stands for has the kind that the word or the input at its position has.
use Rattle.std.proofs.Common.{◌≡◌, ℕ, ◌+◌, List, [], ◌∷◌, ◌++◌, length, map, Option, Some, None, Bool, true, false, bytes_eq, slice_get, if◌then◌else◌, refl, append_assoc, length-append}
use Rattle.list_denotation.specs.declared.input.InputKind.{InputKind}
use Rattle.list_denotation.specs.declared.kind.Kind.{Kind}
use Rattle.pipe_tree.specs.Trees.{Declaration}
use Rattle.kind_rules.specs.Inputs.{input_kind, input_kinds}
use Rattle.kind_rules.specs.declared.meaning.Meaning.{Meaning}
use Rattle.kind_rules.specs.declared.meaning.Meaning.TheVariants as meaning
use Rattle.kind_rules.specs.Scopes.{Bound, Scope, newer, bound_from, input_from, meaning_of}

abbrev pub bound_kinds : List Bound → List Kind
bound_kinds = map (λ (b : Bound). b.kind)

-- the kinds of the words that a scope binds
abbrev pub kinds_in : Scope → List Kind
kinds_in scope = bound_kinds scope.bound

-- the position has the kind, among these inputs and these bound words
abbrev pub HasKind : List InputKind → List Kind → Option Meaning → Type 0
HasKind inputs scope None = Unit {0}
HasKind inputs scope (Some (meaning.Bound i k)) = slice_get scope i ≡ Some k
HasKind inputs scope (Some (meaning.Input i k)) = slice_get inputs i ≡ Some (input_kind k)

-- what stands behind a list stands at the list's length
get_behind : {X : Type 0} (xs : List X) (y : X) (ys : List X) → slice_get (xs ++ y ∷ ys) (length xs) ≡ Some y
get_behind [] y ys = refl
get_behind (x ∷ xs) y ys = get_behind xs y ys

newer_has : (inputs : List InputKind) (scope : List Kind) (a b : Option Meaning) → HasKind inputs scope a → HasKind inputs scope b → HasKind inputs scope (newer a b)
newer_has inputs scope a None ha hb = ha
newer_has inputs scope a (Some m) ha hb = hb

has_if : (inputs : List InputKind) (scope : List Kind) (c : Bool) (m : Meaning) → HasKind inputs scope (Some m) → HasKind inputs scope (if c then Some m else None)
has_if inputs scope true m h = h
has_if inputs scope false m h = tt

bound_has : (inputs : List InputKind) (before : List Kind) (bs : List Bound) (name : List ℕ) → HasKind inputs (before ++ bound_kinds bs) (bound_from (length before) bs name)
bound_has inputs before [] name = tt
bound_has inputs before (b ∷ bs) name =
    newer_has inputs (before ++ b.kind ∷ bound_kinds bs) (if bytes_eq b.name name then Some (meaning.Bound (length before) b.kind) else None) (bound_from (length before + 1) bs name)
    (has_if inputs (before ++ b.kind ∷ bound_kinds bs) (bytes_eq b.name name) (meaning.Bound (length before) b.kind) (get_behind before b.kind (bound_kinds bs)))
    (rw (append_assoc before (b.kind ∷ []) (bound_kinds bs), length-append before (b.kind ∷ [])) at (bound_has inputs (before ++ b.kind ∷ []) bs name))

input_has : (scope : List Kind) (before : List InputKind) (ds : List Declaration) (name : List ℕ) → HasKind (before ++ input_kinds ds) scope (input_from (length before) ds name)
input_has scope before [] name = tt
input_has scope before (d ∷ ds) name =
    let k = input_kind d.kind in
    newer_has (before ++ k ∷ input_kinds ds) scope (if bytes_eq d.name.text name then Some (meaning.Input (length before) d.kind) else None) (input_from (length before + 1) ds name)
    (has_if (before ++ k ∷ input_kinds ds) scope (bytes_eq d.name.text name) (meaning.Input (length before) d.kind) (get_behind before k (input_kinds ds)))
    (rw (append_assoc before (k ∷ []) (input_kinds ds), length-append before (k ∷ [])) at (input_has scope (before ++ k ∷ []) ds name))

-- the meaning of a name in a scope
pub meaning_has : (scope : Scope) (name : List ℕ) → HasKind (input_kinds scope.inputs) (kinds_in scope) (meaning_of scope name)
meaning_has scope name =
    newer_has (input_kinds scope.inputs) (kinds_in scope) (input_from 0 scope.inputs name) (bound_from 0 scope.bound name)
    (input_has (kinds_in scope) [] scope.inputs name) (bound_has (input_kinds scope.inputs) [] scope.bound name)
