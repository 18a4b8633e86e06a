-- Which inputs an expression names.
use Rattle.std.specs.Prelude.{ℕ, Bool, true, List, slice_get}
use Rattle.std.specs.List.{list_all}
use Rattle.list_denotation.specs.declared.input.InputKind.{InputKind}
use Rattle.list_denotation.specs.Terms.{Term, Param, Len}
use Rattle.list_denotation.specs.Leaves.{all_leaves}
use Rattle.list_denotation.specs.Typing.{is_array, is_int}

-- which inputs may be named as an array, and which as an int
pub record InputNames : Type 0 where
  pub array : ℕ → Bool
  pub int : ℕ → Bool

abbrev pub is_named_leaf : InputNames → Term → Bool
is_named_leaf may (Param k) = may.int k
is_named_leaf may (Len k) = may.array k
is_named_leaf may _ = true

-- the expression names no other input as an array or as an int
abbrev pub names_inputs : InputNames → Term → Bool
names_inputs may = all_leaves (is_named_leaf may)

abbrev pub all_name_inputs : InputNames → List Term → Bool
all_name_inputs may = list_all (names_inputs may)

-- the inputs that are declared, by their kinds
abbrev pub declared_inputs : List InputKind → InputNames
declared_inputs inputs = record {
  array = λ k. is_array (slice_get inputs k);
  int = λ k. is_int (slice_get inputs k);
}
