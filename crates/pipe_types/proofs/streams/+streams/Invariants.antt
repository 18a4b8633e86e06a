use Rattle.std.proofs.Common.{◌≡◌, drop}
use Rattle.pipe_tree.specs.Bounds.{stages_nesting}
use Rattle.pipe_tree.specs.TreeCopies.{stages_of as stages_tree}
use Rattle.kind_rules.specs.Streams.{stages_of}
use Rattle.pipe_kinds.specs.Copies.{scope_of}
use Rattle.pipe_types.specs.Copies.{stream_copy}
use Rattle.pipe_types.specs.Room.{HasRoomFor}
use Rattle.pipe_types.proofs.streams.+streams.Given as goal

-- the rows that are there, through the stages left, are those through all stages
abbrev pub invariant-typed_stages-loop-stage : goal.invariant-typed_stages-loop-stage
invariant-typed_stages-loop-stage l = record {
  room : HasRoomFor l.scope (stages_nesting (stages_tree (drop l.stage-index l.stages)));
  left : stages_of (scope_of l.scope) (stages_tree (drop l.stage-index l.stages)) (stream_copy l.rows)
      ≡ stages_of (scope_of l.scope) (stages_tree l.stages) (stream_copy l.initial.rows);
}
