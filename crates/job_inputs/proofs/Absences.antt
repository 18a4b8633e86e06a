-- What the words bind the inputs to, where each is bound and where one isn't.
use Rattle.std.proofs.Common.{◌≡◌, ℕ, List, [], ◌∷◌, length, Option, Some, None, Result, Ok, Err, is_some, if◌then◌else◌, unwrap_or, refl, arith}
use Rattle.list_denotation.specs.declared.input.InputKind.{InputKind}
use Rattle.status_lines.specs.declared.statuses.InputFault.TheVariants.{Absent}
use Rattle.status_lines.specs.declared.statuses.InputName.TheVariants.{Named}
use Rattle.status_lines.specs.declared.statuses.Status.{Status}
use Rattle.status_lines.specs.declared.statuses.Status.TheVariants.{BadInput}
use Rattle.job_steps.specs.Bindings.{Given, bound_value, values_of, with_value}
use Rattle.job_inputs.specs.Faults.{absent_fault}
use Rattle.job_inputs.specs.Givens.{bound_givens}

module _ (name : List ℕ) (kind : InputKind) (others : Result (List Given) Status) (fault : Option Status) where
  absent_value : (value : Option (List ℕ)) (s : Status) → (fault ≡ Some s → others ≡ Err s)
      → (if is_some value then fault else Some (BadInput (Named name) Absent)) ≡ Some s → with_value name kind value others ≡ Err s
  absent_value None s f h = cc
  absent_value (Some value) s f h = rw (f h) refl

  some_value : (value : Option (List ℕ)) (gs : List Given) → (fault ≡ None → others ≡ Ok gs)
      → (if is_some value then fault else Some (BadInput (Named name) Absent)) ≡ None
      → with_value name kind value others ≡ Ok (record { name = Named name; kind = kind; value = unwrap_or value [] } ∷ gs)
  some_value None gs f h = absurd cc
  some_value (Some value) gs f h = rw (f h) refl

pub one_absent : (words names : List (List ℕ)) (kinds : List InputKind) (s : Status) → length names ≡ length kinds → absent_fault words names ≡ Some s → values_of words names kinds ≡ Err s
one_absent words [] kinds s e h = absurd cc
one_absent words (name ∷ names) [] s e h = absurd (omega (arith, e))
one_absent words (name ∷ names) (kind ∷ kinds) s e h =
    absent_value name kind (values_of words names kinds) (absent_fault words names) (bound_value name words) s
    (λ f. one_absent words names kinds s (omega (arith, e)) f) h

pub all_bound : (words names : List (List ℕ)) (kinds : List InputKind) → length names ≡ length kinds → absent_fault words names ≡ None → values_of words names kinds ≡ Ok (bound_givens words names kinds)
all_bound words [] [] e h = refl
all_bound words [] (kind ∷ kinds) e h = absurd (omega (arith, e))
all_bound words (name ∷ names) [] e h = absurd (omega (arith, e))
all_bound words (name ∷ names) (kind ∷ kinds) e h =
    some_value name kind (values_of words names kinds) (absent_fault words names) (bound_value name words) (bound_givens words names kinds)
    (λ f. all_bound words names kinds (omega (arith, e)) f) h
