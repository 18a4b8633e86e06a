use Rattle.std.proofs.Common.{rules, ◌≡◌, ℕ, ◌+◌, ◌<◌, ◌^◌, sym, ap, ◌∙◌, subst}
use Rattle.std.specs.Prelude.{IsTrue}
use Rattle.list_denotation.specs.Copies.{term_of, terms_of}
use Rattle.stateful_core.specs.declared.core_term.Core.{the_lemmas}
use Rattle.stateful_core.specs.CoreCopies.{actions_of, core_term_of}
use Rattle.stateful_core.specs.CoreShapes.{core_scope}
use Rattle.stateful_core.specs.CoreTerms.{CoreTerm, Lin, Tr, Nest, Zip}
use Rattle.stateful_core.specs.MostWords.{added_words}
use Rattle.stateful_core.specs.WellFormed.{is_sound_core}
use Rattle.stage_machines.specs.MachineCopies.{machine_of, parts_of}
use Rattle.stage_machines.specs.MachineParts.{machine_from}
use Rattle.zip_linearise.specs.LinearMachine.{linear_machine}
use Rattle.zip_linearise.proofs.LinearRoom.{lin_below, StageFits, stage_fits, inner_sound, inner_fits, NestFits, nest_fits, ZipFits, zip_fits}
use Rattle.zip_linearise.proofs.linearising.+machine_at.Goals.{After-parts, After-deref-in-Nest-2, After-deref-in-Nest-4, After-deref-in-Zip-4}
use Rattle.zip_linearise.proofs.linearising.+machine_at.Goals as goal

pub lin_machine-requires : goal.lin_machine-requires
lin_machine-requires t c =
    let shape : core_term_of c.args.c.now ≡ Lin c.in-Lin.scope (terms_of c.in-Lin.init) (term_of c.in-Lin.guard) (actions_of c.in-Lin.acts) (terms_of c.in-Lin.item) = ap core_term_of c.in-Lin.is in
    lin_below c.in-Lin.scope (terms_of c.in-Lin.init) (term_of c.in-Lin.guard) (actions_of c.in-Lin.acts) (terms_of c.in-Lin.item)
    (subst (λ (x : CoreTerm). IsTrue (is_sound_core x)) shape c.requires.sound) (subst (λ (x : CoreTerm). core_scope x + added_words x < 2 ^ 32) shape c.requires.room)

-- what is asked for at a stage, over the machine that was made of the term below it
fits : (t : ℕ) (c : After-parts t) → StageFits (parts_of c.parts.result) (machine_from c.in-Tr.scope (terms_of c.in-Tr.init) (term_of c.in-Tr.guard) (actions_of c.in-Tr.acts) (terms_of c.in-Tr.item))
fits t c =
    let of = core_term_of c.in-Tr.of.value in
    let shape : core_term_of c.args.c.now ≡ Tr c.in-Tr.scope of (terms_of c.in-Tr.init) (term_of c.in-Tr.guard) (actions_of c.in-Tr.acts) (terms_of c.in-Tr.item) = ap core_term_of c.in-Tr.is in
    let made : parts_of c.parts.result ≡ linear_machine of =
    c.parts.ensures ∙ ap machine_of c.deref-in-Tr.ensures ∙ c.in_ok-below-in-Tr.ensures ∙ ap (λ x. linear_machine (core_term_of x)) c.deref.ensures in
    stage_fits c.laws_below.ensures c.in-Tr.scope of (terms_of c.in-Tr.init) (term_of c.in-Tr.guard) (actions_of c.in-Tr.acts) (terms_of c.in-Tr.item) (parts_of c.parts.result) made
    (subst (λ (x : CoreTerm). IsTrue (is_sound_core x)) shape c.requires.sound)
    (subst (λ (x : CoreTerm). core_scope x + added_words x < 2 ^ 32) shape c.requires.room)

pub stage_machine-requires-clause-over : goal.stage_machine-requires-clause-over
stage_machine-requires-clause-over t c = (fits t c).over

pub stage_machine-requires-clause-room : goal.stage_machine-requires-clause-room
stage_machine-requires-clause-room t c = (fits t c).room

-- the inner term of a Nest has room too
inner_asks : (t : ℕ) (c : After-deref-in-Nest-2 t) → IsTrue (is_sound_core (core_term_of c.deref-in-Nest-2.result.now)) × (core_scope (core_term_of c.deref-in-Nest-2.result.now) + added_words (core_term_of c.deref-in-Nest-2.result.now) < 2 ^ 32)
inner_asks t c =
    let of = core_term_of c.in-Nest.of.value in
    let inner = core_term_of c.in-Nest.inner.value in
    let shape : core_term_of c.args.c.now ≡ Nest of inner = ap core_term_of c.in-Nest.is in
    let at : inner ≡ core_term_of c.deref-in-Nest-2.result.now = ap (λ x. core_term_of x) (sym c.deref-in-Nest-2.ensures) in
    let sound = subst (λ (x : CoreTerm). IsTrue (is_sound_core x)) shape c.requires.sound in
    let room = subst (λ (x : CoreTerm). core_scope x + added_words x < 2 ^ 32) shape c.requires.room in
    (subst (λ (x : CoreTerm). IsTrue (is_sound_core x)) at (inner_sound of inner sound), subst (λ (x : CoreTerm). core_scope x + added_words x < 2 ^ 32) at (inner_fits of inner sound room))

pub machine_at-requires-in-Nest-2 : goal.machine_at-requires-in-Nest-2
machine_at-requires-in-Nest-2 t c = (search (rules, the_lemmas), inner_asks t c)

-- what is asked for at a Nest, over the machines that were made of its terms
nest_asks : (t : ℕ) (c : After-deref-in-Nest-4 t) → NestFits (machine_of c.deref-in-Nest-3.result.now) (machine_of c.deref-in-Nest-4.result.now)
nest_asks t c =
    let of = core_term_of c.in-Nest.of.value in
    let inner = core_term_of c.in-Nest.inner.value in
    let shape : core_term_of c.args.c.now ≡ Nest of inner = ap core_term_of c.in-Nest.is in
    let outer_made : machine_of c.deref-in-Nest-3.result.now ≡ linear_machine of =
    ap machine_of c.deref-in-Nest-3.ensures ∙ c.in_ok-outer-in-Nest.ensures ∙ ap (λ x. linear_machine (core_term_of x)) c.deref-in-Nest.ensures in
    let inner_made : machine_of c.deref-in-Nest-4.result.now ≡ linear_machine inner =
    ap machine_of c.deref-in-Nest-4.ensures ∙ c.in_ok-inner-in-Nest.ensures ∙ ap (λ x. linear_machine (core_term_of x)) c.deref-in-Nest-2.ensures in
    nest_fits c.laws_below.ensures of inner (machine_of c.deref-in-Nest-3.result.now) (machine_of c.deref-in-Nest-4.result.now) outer_made inner_made
    (subst (λ (x : CoreTerm). IsTrue (is_sound_core x)) shape c.requires.sound)
    (subst (λ (x : CoreTerm). core_scope x + added_words x < 2 ^ 32) shape c.requires.room)

pub nest_machine-requires-clause-outer : goal.nest_machine-requires-clause-outer
nest_machine-requires-clause-outer t c = (nest_asks t c).outer

pub nest_machine-requires-clause-inner : goal.nest_machine-requires-clause-inner
nest_machine-requires-clause-inner t c = (nest_asks t c).within

pub nest_machine-requires-clause-scope : goal.nest_machine-requires-clause-scope
nest_machine-requires-clause-scope t c = (nest_asks t c).scope

pub nest_machine-requires-clause-room : goal.nest_machine-requires-clause-room
nest_machine-requires-clause-room t c = (nest_asks t c).room

-- and at a Zip
zip_asks : (t : ℕ) (c : After-deref-in-Zip-4 t) → ZipFits (machine_of c.deref-in-Zip-3.result.now) (machine_of c.deref-in-Zip-4.result.now)
zip_asks t c =
    let left = core_term_of c.in-Zip.left.value in
    let right = core_term_of c.in-Zip.right.value in
    let shape : core_term_of c.args.c.now ≡ Zip left right = ap core_term_of c.in-Zip.is in
    let left_made : machine_of c.deref-in-Zip-3.result.now ≡ linear_machine left =
    ap machine_of c.deref-in-Zip-3.ensures ∙ c.in_ok-left-in-Zip.ensures ∙ ap (λ x. linear_machine (core_term_of x)) c.deref-in-Zip.ensures in
    let right_made : machine_of c.deref-in-Zip-4.result.now ≡ linear_machine right =
    ap machine_of c.deref-in-Zip-4.ensures ∙ c.in_ok-right-in-Zip.ensures ∙ ap (λ x. linear_machine (core_term_of x)) c.deref-in-Zip-2.ensures in
    zip_fits c.laws_below.ensures left right (machine_of c.deref-in-Zip-3.result.now) (machine_of c.deref-in-Zip-4.result.now) left_made right_made
    (subst (λ (x : CoreTerm). IsTrue (is_sound_core x)) shape c.requires.sound)
    (subst (λ (x : CoreTerm). core_scope x + added_words x < 2 ^ 32) shape c.requires.room)

pub zip_machine-requires-clause-left : goal.zip_machine-requires-clause-left
zip_machine-requires-clause-left t c = (zip_asks t c).left

pub zip_machine-requires-clause-right : goal.zip_machine-requires-clause-right
zip_machine-requires-clause-right t c = (zip_asks t c).right

pub zip_machine-requires-clause-scope : goal.zip_machine-requires-clause-scope
zip_machine-requires-clause-scope t c = (zip_asks t c).scope

pub zip_machine-requires-clause-room : goal.zip_machine-requires-clause-room
zip_machine-requires-clause-room t c = (zip_asks t c).room
