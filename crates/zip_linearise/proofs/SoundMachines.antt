-- The machine of a sound term is sound, in the scope of the term, and its rows are as wide.
use Rattle.std.proofs.Common.{◌≡◌, ℕ, ◌+◌, List, length, refl, sym, ◌∙◌, subst, arith, length-append}
use Rattle.std.specs.Prelude.{IsTrue}
use Rattle.list_denotation.specs.TermRows.{variables}
use Rattle.list_denotation.specs.Terms.{Term}
use Rattle.stateful_core.specs.CoreTerms.{Actions, CoreTerm, Lin, Tr, Nest, Zip}
use Rattle.stateful_core.specs.CoreShapes.{core_scope, core_width}
use Rattle.stateful_core.specs.WellFormed.{are_sound_parts, is_sound_core}
use Rattle.stateful_core.proofs.VariableRows.{length_variables}
use Rattle.stateful_core.proofs.SoundTerms.{SoundStage, SoundPair, stage_of, nest_of, zip_of}
use Rattle.act_moves.specs.Renumbering.{renumber_row}
use Rattle.act_moves.proofs.RenumberedLeaves.{length_renumbered}
use Rattle.act_moves.proofs.SoundActs.{SoundParts, sound_parts, parts_sound}
use Rattle.stage_machines.specs.MachineParts.{machine_from, machine_core}
use Rattle.stage_machines.specs.StageMachine.{stage_machine, IsStageOver}
use Rattle.zip_linearise.specs.Laws.{Laws}
use Rattle.zip_linearise.specs.LinearMachine.{linear_machine}
use Rattle.zip_linearise.specs.ZipMachine.{right_word}
use Rattle.zip_linearise.proofs.SoundPairs.{nest_sound, zip_sound}

-- ---- terms

pub machine_width : (c : CoreTerm) → length (linear_machine c).item ≡ core_width c
machine_width (Lin scope init guard acts item) = refl
machine_width (Tr scope of init guard acts item) = length_renumbered _ item
machine_width (Nest of inner) = length_renumbered _ (linear_machine inner).item ∙ machine_width inner
machine_width (Zip left right) =
    let o = linear_machine left in
    let i = linear_machine right in
    omega (
      arith,
      length-append (variables (o.scope + 1) (length o.item)) (renumber_row (right_word o) i.item),
      length_variables (o.scope + 1) (length o.item),
      length_renumbered (right_word o) i.item,
      machine_width left,
      machine_width right,
    )

pub machine_scope : (c : CoreTerm) → IsTrue (is_sound_core c) → (linear_machine c).scope ≡ core_scope c
machine_scope (Lin scope init guard acts item) h = refl
machine_scope (Tr scope of init guard acts item) h =
    let s = stage_of scope of init guard acts item h in machine_scope of s.below ∙ s.same_scope
machine_scope (Nest of inner) h = machine_scope of (nest_of of inner h).first
machine_scope (Zip left right) h = machine_scope left (zip_of left right h).first

-- an inner machine stands in the scope of the outer one and its row, a right one in that of the left one
pub inner_scope : (of inner : CoreTerm) → SoundPair of inner (core_scope of + core_width of) → (linear_machine inner).scope ≡ (linear_machine of).scope + length (linear_machine of).item
inner_scope of inner s = omega (arith, machine_scope inner s.second, s.second_scope, machine_scope of s.first, machine_width of)

pub right_scope : (left right : CoreTerm) → SoundPair left right (core_scope left) → (linear_machine right).scope ≡ (linear_machine left).scope
right_scope left right s = machine_scope right s.second ∙ s.second_scope ∙ sym (machine_scope left s.first)

-- the parts of a sound stage, over the machine of the term below it
pub stage_over : (scope : ℕ) (of : CoreTerm) (init : List Term) (guard : Term) (acts : Actions) (item : List Term) → SoundStage scope of init guard acts item → IsTrue (is_sound_core (machine_core (linear_machine of))) → IsStageOver 0 (linear_machine of) (machine_from scope init guard acts item)
stage_over scope of init guard acts item s below = record {
  lower_sound = below;
  stage_sound = subst (λ x. IsTrue (are_sound_parts scope x init guard acts item)) (sym (machine_width of)) s.parts;
  same_scope = sym s.same_scope ∙ sym (machine_scope of s.below);
}

pub machine_parts : (laws : Laws) (c : CoreTerm) → IsTrue (is_sound_core c) → SoundParts (linear_machine c).scope 0 (linear_machine c).init (linear_machine c).guard (linear_machine c).acts (linear_machine c).item
machine_parts laws (Lin scope init guard acts item) h = sound_parts scope 0 init guard acts item h
machine_parts laws (Tr scope of init guard acts item) h =
    let s = stage_of scope of init guard acts item h in
    let m = linear_machine of in
    let below = parts_sound m.scope 0 m.init m.guard m.acts m.item (machine_parts laws of s.below) in
    let n = stage_machine 0 m (machine_from scope init guard acts item) in
    sound_parts n.scope 0 n.init n.guard n.acts n.item
    (laws.stage_sound 0 m (machine_from scope init guard acts item) (stage_over scope of init guard acts item s below))
machine_parts laws (Nest of inner) h =
    let s = nest_of of inner h in
    nest_sound (linear_machine of) (linear_machine inner) (machine_parts laws of s.first) (machine_parts laws inner s.second)
    (inner_scope of inner s)
machine_parts laws (Zip left right) h =
    let s = zip_of left right h in
    zip_sound (linear_machine left) (linear_machine right) (machine_parts laws left s.first) (machine_parts laws right s.second)
    (right_scope left right s)

pub machine_is_sound : (laws : Laws) (c : CoreTerm) → IsTrue (is_sound_core c) → IsTrue (is_sound_core (machine_core (linear_machine c)))
machine_is_sound laws c h =
    let m = linear_machine c in parts_sound m.scope 0 m.init m.guard m.acts m.item (machine_parts laws c h)
