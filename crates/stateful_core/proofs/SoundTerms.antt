-- A sound term taken apart: its parts are sound, and their scopes fit.
use Rattle.std.proofs.Common.{◌≡◌, ℕ, ◌+◌, List, ◌&&◌}
use Rattle.std.specs.Prelude.{IsTrue, ◌==◌}
use Rattle.std.proofs.lemmas.Bool.{eqb-true}
use Rattle.strm_num.proofs.Truths.{both_true}
use Rattle.list_denotation.specs.Terms.{Term}
use Rattle.stateful_core.specs.CoreShapes.{core_scope, core_width}
use Rattle.stateful_core.specs.CoreTerms.{Actions, CoreTerm, Tr, Nest, Zip}
use Rattle.stateful_core.specs.WellFormed.{are_sound_parts, is_sound_core}

-- the parts of a sound stage, over the term below it
pub record SoundStage (scope : ℕ) (of : CoreTerm) (init : List Term) (guard : Term) (acts : Actions) (item : List Term) : Type 0 where
  pub below : IsTrue (is_sound_core of)
  pub same_scope : core_scope of ≡ scope
  pub parts : IsTrue (are_sound_parts scope (core_width of) init guard acts item)

pub stage_of : (scope : ℕ) (of : CoreTerm) (init : List Term) (guard : Term) (acts : Actions) (item : List Term) → IsTrue (is_sound_core (Tr scope of init guard acts item)) → SoundStage scope of init guard acts item
stage_of scope of init guard acts item h =
    let p = both_true (is_sound_core of) (core_scope of == scope && are_sound_parts scope (core_width of) init guard acts item) h in
    let q = both_true (core_scope of == scope) (are_sound_parts scope (core_width of) init guard acts item) p.1 in
    record { below = p.0; same_scope = eqb-true (core_scope of) scope q.0; parts = q.1 }

-- two sound terms in one, and the scope of the second
pub record SoundPair (one other : CoreTerm) (scope : ℕ) : Type 0 where
  pub first : IsTrue (is_sound_core one)
  pub second : IsTrue (is_sound_core other)
  pub second_scope : core_scope other ≡ scope

pub nest_of : (of inner : CoreTerm) → IsTrue (is_sound_core (Nest of inner)) → SoundPair of inner (core_scope of + core_width of)
nest_of of inner h =
    let p = both_true (is_sound_core of) (is_sound_core inner && core_scope inner == core_scope of + core_width of) h in
    let q = both_true (is_sound_core inner) (core_scope inner == core_scope of + core_width of) p.1 in
    record { first = p.0; second = q.0; second_scope = eqb-true (core_scope inner) (core_scope of + core_width of) q.1 }

pub zip_of : (left right : CoreTerm) → IsTrue (is_sound_core (Zip left right)) → SoundPair left right (core_scope left)
zip_of left right h =
    let p = both_true (is_sound_core left) (is_sound_core right && core_scope right == core_scope left) h in
    let q = both_true (is_sound_core right) (core_scope right == core_scope left) p.1 in
    record { first = p.0; second = q.0; second_scope = eqb-true (core_scope right) (core_scope left) q.1 }
