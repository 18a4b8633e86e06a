-- The machine of two machines side by side. The left row is held until the right machine gives one: so the end of that is seen
-- after the left row.
use Rattle.std.specs.Prelude.{ℕ, ◌+◌, [], ◌∷◌, ◌++◌, length, if◌then◌else◌}
use Rattle.list_denotation.specs.TermRows.{variables}
use Rattle.list_denotation.specs.Terms.{Term, Lit, Var, Not, And, Or}
use Rattle.stateful_core.specs.CoreTerms.{StopUnless, Update, When, Actions, Nil, Cons, join}
use Rattle.act_moves.specs.Flags.{skip_with}
use Rattle.act_moves.specs.Renumbering.{with_room, renumber, renumber_row, move_actions}
use Rattle.stage_machines.specs.JoinedGuards.{is_always, join_guards}
use Rattle.stage_machines.specs.MachineParts.{MachineParts}
use Rattle.zip_linearise.specs.HeldRows.{zeros, first_word, second_place, hold_acts, flag_or}

-- the number of a word that the right machine reads
abbrev pub right_word : MachineParts → ℕ → ℕ
right_word left k = with_room left.scope (second_place left) k

-- the guard of the right machine where the flag is set, and else that of the left one
abbrev pub due_guard : Term → Term → Term → Term
due_guard flag right left = if is_always right then flag_or flag left else Or (And flag right) (join_guards (Not flag) left)

-- a turn of the left machine holds its row, and else the turn is one of the right machine, behind whose row the left one is due
abbrev pub zip_acts : MachineParts → MachineParts → Actions
zip_acts left right =
    Cons (When (Var left.scope) Nil (hold_acts left (length right.init) (skip_with 1)))
    (join (move_actions (right_word left) (second_place left) StopUnless right.acts) (Cons (Update 0 (Lit 0 ∷ [])) Nil))

abbrev pub zip_machine : MachineParts → MachineParts → MachineParts
zip_machine left right = record {
  scope = left.scope;
  init = Lit 0 ∷ (zeros (length left.item) ++ (left.init ++ right.init));
  guard = due_guard (Var left.scope) (renumber (right_word left) right.guard) (renumber (first_word left (length right.init)) left.guard);
  acts = zip_acts left right;
  item = variables (left.scope + 1) (length left.item) ++ renumber_row (right_word left) right.item;
}
