-- What the code of a machine asks for, at each form of a sound term with few words.
use Rattle.std.proofs.Common.{◌≡◌, ℕ, ◌+◌, ◌^◌, ◌≤◌, ◌<◌, List, length, sym, ◌∙◌, subst, arith}
use Rattle.std.specs.Prelude.{IsTrue}
use Rattle.list_denotation.specs.Terms.{Term}
use Rattle.stateful_core.specs.CoreTerms.{Actions, CoreTerm, Lin, Tr, Nest, Zip}
use Rattle.stateful_core.specs.CoreShapes.{core_scope, core_width}
use Rattle.stateful_core.specs.MostWords.{added_words}
use Rattle.stateful_core.specs.WellFormed.{is_sound_core}
use Rattle.stateful_core.proofs.SoundTerms.{stage_of, nest_of, zip_of}
use Rattle.act_moves.specs.WordRoom.{StayBelow}
use Rattle.act_moves.proofs.SoundActs.{sound_parts}
use Rattle.act_moves.proofs.WordsBelow.{acts_stay_below}
use Rattle.stage_machines.specs.MachineParts.{MachineParts, machine_from, machine_core}
use Rattle.stage_machines.specs.StageMachine.{IsStageOver}
use Rattle.zip_linearise.specs.Laws.{Laws}
use Rattle.zip_linearise.specs.LinearMachine.{linear_machine}
use Rattle.zip_linearise.proofs.MachineWords.{machine_added_words}
use Rattle.zip_linearise.proofs.SoundMachines.{machine_scope, machine_width, machine_is_sound, stage_over}

pub lin_below : (scope : ℕ) (init : List Term) (guard : Term) (acts : Actions) (item : List Term) → IsTrue (is_sound_core (Lin scope init guard acts item)) → scope + added_words (Lin scope init guard acts item) < 2 ^ 32 → StayBelow (2 ^ 32) (2 ^ 32) acts
lin_below scope init guard acts item h room =
    acts_stay_below scope (length init) (2 ^ 32) (2 ^ 32) (omega arith) acts (scope + length init + 0) (omega arith) (sound_parts scope 0 init guard acts item h).acts_sound

pub record StageFits (m stage : MachineParts) : Type 0 where
  pub over : IsStageOver 0 m stage
  pub room : m.scope + 0 + added_words (machine_core m) + added_words (machine_core stage) < 2 ^ 32

pub stage_fits : (laws : Laws) (scope : ℕ) (of : CoreTerm) (init : List Term) (guard : Term) (acts : Actions) (item : List Term) (m : MachineParts) → m ≡ linear_machine of → IsTrue (is_sound_core (Tr scope of init guard acts item)) → scope + added_words (Tr scope of init guard acts item) < 2 ^ 32 → StageFits m (machine_from scope init guard acts item)
stage_fits laws scope of init guard acts item m is h room =
    let s = stage_of scope of init guard acts item h in
    let at : (linear_machine of).scope ≡ scope = machine_scope of s.below ∙ s.same_scope in
    subst (λ (x : MachineParts). StageFits x (machine_from scope init guard acts item)) (sym is) (record {
      over = stage_over scope of init guard acts item s (machine_is_sound laws of s.below);
      room = omega (arith, at, machine_added_words laws of s.below);
    })

-- a term adds at least the words of its rows
width_added : (c : CoreTerm) → core_width c ≤ added_words c
width_added (Lin scope init guard acts item) = omega arith
width_added (Tr scope of init guard acts item) = omega arith
width_added (Nest of inner) = omega (arith, width_added inner)
width_added (Zip left right) = omega (arith, width_added left, width_added right)

pub record NestFits (m n : MachineParts) : Type 0 where
  pub outer : IsTrue (is_sound_core (machine_core m))
  pub within : IsTrue (is_sound_core (machine_core n))
  pub scope : n.scope ≡ m.scope + length m.item
  pub room : m.scope + added_words (machine_core m) + added_words (machine_core n) + 7 < 2 ^ 32

pub inner_sound : (of inner : CoreTerm) → IsTrue (is_sound_core (Nest of inner)) → IsTrue (is_sound_core inner)
inner_sound of inner h = (nest_of of inner h).second

-- the inner term of a sound Nest has room too: the row that stands in its scope is counted
pub inner_fits : (of inner : CoreTerm) → IsTrue (is_sound_core (Nest of inner)) → core_scope of + added_words (Nest of inner) < 2 ^ 32 → core_scope inner + added_words inner < 2 ^ 32
inner_fits of inner h room = omega (arith, (nest_of of inner h).second_scope, width_added of)

pub nest_fits : (laws : Laws) (of inner : CoreTerm) (m n : MachineParts) → m ≡ linear_machine of → n ≡ linear_machine inner → IsTrue (is_sound_core (Nest of inner)) → core_scope of + added_words (Nest of inner) < 2 ^ 32 → NestFits m n
nest_fits laws of inner m n m_is n_is h room =
    let s = nest_of of inner h in
    subst (λ (x : MachineParts). NestFits x n) (sym m_is)
    (subst (λ (x : MachineParts). NestFits (linear_machine of) x) (sym n_is) (record {
      outer = machine_is_sound laws of s.first;
      within = machine_is_sound laws inner s.second;
      scope = omega (arith, machine_scope of s.first, machine_scope inner s.second, machine_width of, s.second_scope);
      room = omega (arith, machine_scope of s.first, machine_added_words laws of s.first, machine_added_words laws inner s.second);
    }))

pub record ZipFits (m n : MachineParts) : Type 0 where
  pub left : IsTrue (is_sound_core (machine_core m))
  pub right : IsTrue (is_sound_core (machine_core n))
  pub scope : n.scope ≡ m.scope
  pub room : m.scope + added_words (machine_core m) + added_words (machine_core n) + length m.item + 4 < 2 ^ 32

pub zip_fits : (laws : Laws) (left right : CoreTerm) (m n : MachineParts) → m ≡ linear_machine left → n ≡ linear_machine right → IsTrue (is_sound_core (Zip left right)) → core_scope left + added_words (Zip left right) < 2 ^ 32 → ZipFits m n
zip_fits laws left right m n m_is n_is h room =
    let s = zip_of left right h in
    subst (λ (x : MachineParts). ZipFits x n) (sym m_is)
    (subst (λ (x : MachineParts). ZipFits (linear_machine left) x) (sym n_is) (record {
      left = machine_is_sound laws left s.first;
      right = machine_is_sound laws right s.second;
      scope = omega (arith, machine_scope left s.first, machine_scope right s.second, s.second_scope);
      room = omega (arith, machine_scope left s.first, machine_width left, machine_added_words laws left s.first, machine_added_words laws right s.second);
    }))
