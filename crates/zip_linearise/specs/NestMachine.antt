-- The machine of an outer machine and an inner one for each of its rows. The outer row is held while an inner stream is open:
-- it stands in the scope of the inner machine, whose state is begun anew for each row.
use Rattle.std.specs.Prelude.{ℕ, ◌+◌, ◌∷◌, ◌++◌, length, if◌then◌else◌}
use Rattle.list_denotation.specs.Terms.{Term, Lit, Var}
use Rattle.stateful_core.specs.CoreTerms.{Update, When, Actions, Nil, Cons}
use Rattle.act_moves.specs.Flags.{skip_with, close_unless}
use Rattle.act_moves.specs.Renumbering.{with_room, renumber, renumber_row, move_actions}
use Rattle.stage_machines.specs.JoinedGuards.{is_always}
use Rattle.stage_machines.specs.MachineParts.{MachineParts}
use Rattle.zip_linearise.specs.HeldRows.{zeros, first_word, second_place, hold_acts, flag_or}

-- the number of a word that the inner machine reads
abbrev pub inner_word : MachineParts → ℕ → ℕ
inner_word outer k = with_room (outer.scope + 1 + length outer.item) (length outer.init) (with_room outer.scope 1 k)

-- before the acts of a turn the inner stream's guard is looked at
abbrev pub guarded_acts : Term → Actions → Actions
guarded_acts g acts = if is_always g then acts else Cons (close_unless g) acts

-- a turn of the outer machine opens the inner stream, and else the turn is one of the inner machine. A stop of that closes it
abbrev pub nest_acts : MachineParts → MachineParts → Actions
nest_acts outer inner =
    Cons
    (When (Var outer.scope) Nil
    (hold_acts outer (length inner.init) (Cons (Update (second_place outer) (renumber_row (inner_word outer) inner.init)) (skip_with 1))))
    (guarded_acts (renumber (inner_word outer) inner.guard) (move_actions (inner_word outer) (second_place outer) close_unless inner.acts))

abbrev pub nest_machine : MachineParts → MachineParts → MachineParts
nest_machine outer inner = record {
  scope = outer.scope;
  init = Lit 0 ∷ (zeros (length outer.item) ++ (outer.init ++ zeros (length inner.init)));
  guard = flag_or (Var outer.scope) (renumber (first_word outer (length inner.init)) outer.guard);
  acts = nest_acts outer inner;
  item = renumber_row (inner_word outer) inner.item;
}
