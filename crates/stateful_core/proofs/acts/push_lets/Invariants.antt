use Rattle.std.proofs.Common.{◌≡◌, drop}
use Rattle.list_denotation.specs.Copies.{terms_of}
use Rattle.stateful_core.specs.CoreCopies.{actions_of}
use Rattle.stateful_core.specs.CoreTerms.{Nil, join}
use Rattle.stateful_core.specs.StreamCores.{let_all}
use Rattle.stateful_core.proofs.acts.push_lets.Given as goal

-- with the local words of what is left, the acts so far are all
abbrev pub invariant-loop-i : goal.invariant-loop-i
invariant-loop-i l =
    join (actions_of l.acts) (let_all (terms_of (drop l.i l.es)) Nil) ≡ join (actions_of l.initial.acts) (let_all (terms_of l.es) Nil)
