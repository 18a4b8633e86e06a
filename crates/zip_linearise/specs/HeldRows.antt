-- A machine that holds its row for another one. The state of both in one is a flag, which is 1 while a row is held, then the
-- row, the state of the first machine, and that of the other. So the words in order are those of the scope, the flag, the row,
-- the two states, and the local words.
use Rattle.std.specs.Prelude.{ℕ, ◌+◌, List, length, replicate, if◌then◌else◌}
use Rattle.list_denotation.specs.Terms.{Term, Lit, Or}
use Rattle.stateful_core.specs.CoreTerms.{StopUnless, Update, Actions, Cons, join}
use Rattle.act_moves.specs.Renumbering.{with_room, renumber_row, move_actions}
use Rattle.stage_machines.specs.JoinedGuards.{is_always}
use Rattle.stage_machines.specs.MachineParts.{MachineParts}

-- what stands for a row that isn't held yet, and for a state that isn't begun
abbrev pub zeros : ℕ → List Term
zeros n = replicate n (Lit 0)

-- the number of a word that the first machine reads, where the other one has so many words of state
abbrev pub first_word : MachineParts → ℕ → ℕ → ℕ
first_word m others k = with_room (m.scope + 1 + length m.item + length m.init) others (with_room m.scope (1 + length m.item) k)

-- where in the state that of the other machine begins
abbrev pub second_place : MachineParts → ℕ
second_place m = 1 + length m.item + length m.init

-- the acts of the first machine, whose row is then held
abbrev pub hold_acts : MachineParts → ℕ → Actions → Actions
hold_acts m others more =
    join (move_actions (first_word m others) (1 + length m.item) StopUnless m.acts) (Cons (Update 1 (renumber_row (first_word m others) m.item)) more)

-- a guard that is true where the flag is set or another guard is true
abbrev pub flag_or : Term → Term → Term
flag_or flag g = if is_always g then g else Or flag g
