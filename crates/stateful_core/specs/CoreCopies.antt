-- The plain copies of the code's core terms.
use Rattle.std.specs.Prelude.{List, [], ◌∷◌, map}
use Rattle.list_denotation.specs.Copies.{term_of, terms_of}
use Rattle.stateful_core.specs.declared.core_term.Act.{Act}
use Rattle.stateful_core.specs.declared.core_term.Act.TheOpen.{Act-F}
use Rattle.stateful_core.specs.declared.core_term.Act.TheFolds.{fold-Act}
use Rattle.stateful_core.specs.declared.core_term.Core.{Core}
use Rattle.stateful_core.specs.declared.core_term.Core.TheVariants as core
use Rattle.stateful_core.specs.CoreTerms.{Action, Let, Read, KeepIf, StopUnless, Update, When, Actions, Nil, Cons, CoreTerm, Lin, Tr, Nest, Zip}

-- a list of plain acts as acts in order
abbrev pub actions_from : List Action → Actions
actions_from [] = Nil
actions_from (a ∷ acts) = Cons a (actions_from acts)

-- an act whose parts are plain already
abbrev pub action_step : Act-F Action → Action
action_step (Act-F.Let e) = Let (term_of e)
action_step (Act-F.Read k e) = Read k (term_of e)
action_step (Act-F.KeepIf e) = KeepIf (term_of e)
action_step (Act-F.StopUnless e) = StopUnless (term_of e)
action_step (Act-F.Update k es) = Update k (terms_of es)
action_step (Act-F.When e a b) = When (term_of e) (actions_from a) (actions_from b)

abbrev pub action_of : Act → Action
action_of = fold-Act Action action_step

abbrev pub actions_of : List Act → Actions
actions_of acts = actions_from (map action_of acts)

abbrev pub core_term_of : Core → CoreTerm
core_term_of (core.Lin scope init guard acts item) = Lin scope (terms_of init) (term_of guard) (actions_of acts) (terms_of item)
core_term_of (core.Tr' scope p of init guard acts item) =
    Tr scope (core_term_of of) (terms_of init) (term_of guard) (actions_of acts) (terms_of item)
core_term_of (core.Nest' p of q inner) = Nest (core_term_of of) (core_term_of inner)
core_term_of (core.Zip' p left q right) = Zip (core_term_of left) (core_term_of right)
