use Rattle.std.proofs.Common.{◌≡◌, ◌-◌, ◌^◌, drop}
use Rattle.stateful_core.specs.CoreCopies.{actions_of}
use Rattle.stateful_core.specs.CoreTerms.{join}
use Rattle.act_moves.specs.Halts.{halt_action}
use Rattle.act_moves.specs.Renumbering.{move_actions}
use Rattle.act_moves.specs.WordRoom.{number_in, most_in, StayBelow}
use Rattle.act_moves.proofs.renumbering.+moves.Given as goal

-- with the moved acts that are left, the acts so far are all
abbrev pub invariant-push_moved-loop-act : goal.invariant-push_moved-loop-act
invariant-push_moved-loop-act l = record {
  whole : join (actions_of l.made) (move_actions (number_in l.room) l.behind (halt_action l.halt) (actions_of (drop l.act-index l.acts)))
      ≡ join (actions_of l.initial.made) (move_actions (number_in l.room) l.behind (halt_action l.halt) (actions_of l.acts));
  below : StayBelow (most_in l.room) (2 ^ 32 - l.behind) (actions_of (drop l.act-index l.acts));
}
