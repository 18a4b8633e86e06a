use Rattle.list_denotation.specs.Copies.{pipe_of}
use Rattle.list_denotation.specs.Counts.{stream_ops}
use Rattle.stateful_core.proofs.stream_core.+core_at.Given as goal

-- each stream inside another has fewer operators
abbrev pub decreases-core_at : goal.decreases-core_at
decreases-core_at l = stream_ops (pipe_of l.s.now)
