-- What values in order give, where there are as many as inputs, fewer or more.
use Rattle.std.proofs.Common.{◌≡◌, ℕ, ◌+◌, ◌<◌, List, [], ◌∷◌, length, Ok, Err, String, refl, arith}
use Rattle.std.specs.declared.alloc.Global.{Global}
use Rattle.command_words.specs.Commands.{texts_of}
use Rattle.list_denotation.specs.declared.input.InputKind.{InputKind}
use Rattle.status_lines.specs.declared.statuses.InputFault.TheVariants.{Absent, Unknown}
use Rattle.status_lines.specs.declared.statuses.InputName.TheVariants.{Position}
use Rattle.status_lines.specs.declared.statuses.Status.TheVariants.{BadInput}
use Rattle.job_steps.specs.Bindings.{placed}
use Rattle.job_inputs.specs.Givens.{placed_givens}

fewer_from : (k p : ℕ) (values : List (String Global)) (kinds : List InputKind) → length values < length kinds → p ≡ k + length values → placed k (texts_of values) kinds ≡ Err (BadInput (Position p) Absent)
fewer_from k p values [] h e = absurd (omega (arith, h))
fewer_from k p [] (kind ∷ kinds) h e = let q : k ≡ p = omega (arith, e) in rw q refl
fewer_from k p (value ∷ values) (kind ∷ kinds) h e = rw (fewer_from (k + 1) p values kinds (omega (arith, h)) (omega (arith, e))) refl

more_from : (k p : ℕ) (values : List (String Global)) (kinds : List InputKind) → length kinds < length values → p ≡ k + length kinds → placed k (texts_of values) kinds ≡ Err (BadInput (Position p) Unknown)
more_from k p [] kinds h e = absurd (omega (arith, h))
more_from k p (value ∷ values) [] h e = let q : k ≡ p = omega (arith, e) in rw q refl
more_from k p (value ∷ values) (kind ∷ kinds) h e = rw (more_from (k + 1) p values kinds (omega (arith, h)) (omega (arith, e))) refl

same_from : (k : ℕ) (values : List (String Global)) (kinds : List InputKind) → length values ≡ length kinds → placed k (texts_of values) kinds ≡ Ok (placed_givens k (texts_of values) kinds)
same_from k [] [] e = refl
same_from k [] (kind ∷ kinds) e = absurd (omega (arith, e))
same_from k (value ∷ values) [] e = absurd (omega (arith, e))
same_from k (value ∷ values) (kind ∷ kinds) e = rw (same_from (k + 1) values kinds (omega (arith, e))) refl

module _ (values : List (String Global)) (kinds : List InputKind) where
  pub fewer : length values < length kinds → placed 0 (texts_of values) kinds ≡ Err (BadInput (Position (length values)) Absent)
  fewer h = fewer_from 0 (length values) values kinds h (omega arith)

  pub more : length kinds < length values → placed 0 (texts_of values) kinds ≡ Err (BadInput (Position (length kinds)) Unknown)
  more h = more_from 0 (length kinds) values kinds h (omega arith)

  pub as_many : length values ≡ length kinds → placed 0 (texts_of values) kinds ≡ Ok (placed_givens 0 (texts_of values) kinds)
  as_many = same_from 0 values kinds

pub ruleset other_counts = (fewer, more)
