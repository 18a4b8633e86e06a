-- A stage over the rows of a machine, or of another stage: the parts that take the turns of both. The words in order are those
-- of the scope, the lower state, the state of the stage, the lower local words, of which a row that a turn begins with is the
-- first, and then the local words of the stage, of which the row between is the first.
use Rattle.std.specs.Prelude.{◌≡◌, ℕ, ◌+◌, ◌++◌, length, IsTrue}
use Rattle.stateful_core.specs.CoreTerms.{StopUnless, Actions, join}
use Rattle.stateful_core.specs.StreamCores.{let_all}
use Rattle.act_moves.specs.Renumbering.{with_room, renumber, renumber_row, move_actions}
use Rattle.stage_machines.specs.JoinedGuards.{join_guards}
use Rattle.stage_machines.specs.MachineParts.{MachineParts, is_sound_machine, machine_locals}

-- ---- numbers of words

-- the number of a word that the lower part reads
abbrev pub lower_word : MachineParts → MachineParts → ℕ → ℕ
lower_word m stage k = with_room (m.scope + length m.init) (length stage.init) k

-- the number of a word that the guard of the stage reads
abbrev pub guard_word : MachineParts → ℕ → ℕ
guard_word m k = with_room m.scope (length m.init) k

-- the number of a word that the acts and the item of the stage read, where the lower turns begin with a row of w words
abbrev pub stage_word : ℕ → MachineParts → MachineParts → ℕ → ℕ
stage_word w m stage k = with_room (m.scope + length m.init + length stage.init) (machine_locals w m) (with_room m.scope (length m.init) k)

-- ---- parts

-- the acts of the lower part, a local word for each word of its row, and the acts of the stage
abbrev pub stage_acts : ℕ → MachineParts → MachineParts → Actions
stage_acts w m stage =
    join (move_actions (lower_word m stage) 0 StopUnless m.acts)
    (let_all (renumber_row (lower_word m stage) m.item) (move_actions (stage_word w m stage) (length m.init) StopUnless stage.acts))

-- the guard of the stage is looked at first
abbrev pub stage_machine : ℕ → MachineParts → MachineParts → MachineParts
stage_machine w m stage = record {
  scope = m.scope;
  init = m.init ++ stage.init;
  guard = join_guards (renumber (guard_word m) stage.guard) (renumber (lower_word m stage) m.guard);
  acts = stage_acts w m stage;
  item = renumber_row (stage_word w m stage) stage.item;
}

-- both are sound: the turns of the lower part begin with a row of w words, those of the stage with a row of that
pub record IsStageOver (w : ℕ) (m stage : MachineParts) : Type 0 where
  pub lower_sound : IsTrue (is_sound_machine w m)
  pub stage_sound : IsTrue (is_sound_machine (length m.item) stage)
  pub same_scope : stage.scope ≡ m.scope
